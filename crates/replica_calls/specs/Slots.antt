-- The slots of replicas, and a finite map from slots to what stands there.
use Rattle.std.specs.Prelude.{ℕ, refl}
use Rattle.std.specs.Coded.{Coded, code_by, coded×, coded_ℕ}
use Rattle.std.specs.FinMap as finite
use Rattle.std.specs.Ordering.{nat_cmp, on, then_cmp}
use Rattle.std.specs.declared.cmp.Ordering.{Ordering}
use Rattle.std.specs.declared.snapshot.Snapshot.{Snapshot}
use Rattle.replica_exchange.specs.Machines.{MachineState, machine_code}
use Rattle.replica_exchange.specs.declared.member.Member.{Member}
use Rattle.replica_exchange.specs.declared.slot.Slot.{Slot}

-- by shard, then by node
abbrev pub slot_cmp : Slot → Slot → Ordering
slot_cmp = then_cmp (on (λ s. s.shard) nat_cmp) (on (λ s. s.node) nat_cmp)

abbrev pub slot_code : Coded Slot
slot_code = code_by (ℕ × ℕ) (coded× coded_ℕ coded_ℕ) (λ s. (s.shard, s.node)) (λ p. record { shard = p.0; node = p.1 }) (λ _. refl)

-- the snapshot that was taken of this value
abbrev pub shown : {X : Type 0} → X → Snapshot X
shown x = record { marker = record {}; value = x }

abbrev pub member_code : {D : Type 0} → Coded D → Coded (Member D)
member_code {D} disk_code = code_by (MachineState D × D) (coded× (machine_code disk_code) disk_code) (λ m. (m.machine, (m.first).value)) (λ p. record { machine = p.0; first = shown p.1 }) (λ _. refl)

abbrev pub MemberMap : Type 0 → Type 0
MemberMap D = finite.FinMap slot_cmp (Member D)

abbrev pub member_map_code : {D : Type 0} → Coded D → Coded (MemberMap D)
member_map_code disk_code = finite.code slot_code (member_code disk_code)
