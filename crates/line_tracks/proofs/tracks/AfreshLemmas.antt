-- A cluster that was opened by a state that a run found.
use Rattle.std.proofs.Common.{◌≡◌, ◌≤◌, ◌+◌, ℕ, List, [], ◌∷◌, length, refl, sym, ap, subst, ◌∙◌, inl, inr, arith, Bool, true}
use Rattle.std.specs.Prelude.{Option, Some, None}
use Rattle.std.specs.FinMap as finite
use Rattle.std.specs.FinMap.{get-empty}
use Rattle.std.proofs.lemmas.Option.{same_Some}
use Rattle.m3_model.specs.declared.limits.TheConstants.{MOST_CLIENTS}
use Rattle.m3_model.specs.declared.rules.MetaState.{MetaState}
use Rattle.m3_outside.specs.Depots.{Depot, TellAll}
use Rattle.m3_outside.specs.DiskState.{DiskState}
use Rattle.m3_outside.specs.declared.disk.Disk.{Ghosts}
use Rattle.m3_outside.specs.declared.slot.DiskSlot.{DiskSlot}
use Rattle.cluster_core.specs.declared.event.Event.{Event}
use Rattle.cluster_core.specs.declared.event.Event.TheVariants as event
use Rattle.transcripts.specs.Record.{Record}
use Rattle.node_calls.specs.replica_exchange.declared.member.Member.{Member}
use Rattle.node_calls.specs.replica_exchange.declared.slot.Slot.{Slot}
use Rattle.node_calls.specs.replica_calls.Calls.{first_member}
use Rattle.node_calls.specs.replica_calls.Slots.{slot_cmp}
use Rattle.node_calls.specs.session_net.Runs.{slot_at, steps_of}
use Rattle.node_calls.specs.cluster_members.declared.members.Members.{Members}
use Rattle.first_cluster.specs.Depots.{disk_slot_of}
use Rattle.first_cluster.specs.Slots.{AreApart, slots_of}
use Rattle.first_cluster.proofs.SlotLists.{in_or_out, slots_apart}
use Rattle.told_runs.specs.Lines.{IsToldAndServed}
use Rattle.told_runs.proofs.LineLemmas.{served_afresh}
use Rattle.told_runs.proofs.OrderLemmas.{in_order}
use Rattle.std.specs.Prelude.{replicate, slice_index}
use Rattle.line_tracks.specs.tracks.Lain.{AreStillThere, IsStillThere}
use Rattle.line_tracks.specs.tracks.Runs.{HasRun, HaveRun}
use Rattle.line_tracks.specs.tracks.Steps.{BeginsAfresh, TracksAfresh}
use Rattle.line_tracks.specs.tracks.Tracks.{Tracks}
use Rattle.line_tracks.proofs.tracks.FailureLemmas.{rose_none}
use Rattle.line_tracks.proofs.tracks.PlacementLemmas.{low_then}

module _ {D : Type 0} {G : Ghosts D} (state : D → DiskState) (tells : Bool) (past : List Record) (found : MetaState) (first now : Depot D) (m : Members D G) (b : BeginsAfresh state tells past found first now m) where
  abbrev list : List Event
  list = event.Place found.place [] ∷ event.Clock found.rules ∷ []

  -- no step was taken
  none_stepped : (s : Slot) → steps_of s m.net.replicas.events ≡ []
  none_stepped s = ap (steps_of s) b.opened

  each_made : (s : Slot) (r : Member D) → finite.get m.net.replicas.members s ≡ Some r → HasRun state first.held now s (steps_of s m.net.replicas.events) r
  each_made s r is = elim (in_or_out (slots_of found.place) s) as (λ _. HasRun state first.held now s (steps_of s m.net.replicas.events) r) [
    | inl i ↦
        (let t = b.gained.gained s i in
        let same : first_member t.disk ≡ r = same_Some (first_member t.disk) r (sym t.stands ∙ is) in
        subst (λ steps. HasRun state first.held now s steps r) (sym (none_stepped s)) (record {
          made = r;
          over = record { disk = t.disk; is_first = sym same; counted = t.disk_faults ∙ sym t.counted; given = t.given };
          stepped = (r, refl, refl, refl);
        }))
    | inr out ↦ (let clash : None ≡ Some r = sym (get-empty slot_cmp s) ∙ sym (b.gained.others s out).member ∙ is in cc)
  ]

  run : HaveRun state first.held now m.net.replicas
  run = record { place = found.place; rules = found.rules; later = []; opened = b.opened; each = each_made; others = λ s none. none_stepped s }

  still : AreStillThere state first.held m.net.replicas.members now.held
  still s none = elim (in_or_out (slots_of found.place) s) as (λ _. IsStillThere state (first.held (disk_slot_of s)) (now.held (disk_slot_of s))) [
    | inl i ↦ (let t = b.gained.gained s i in let clash : None ≡ Some (first_member t.disk) = sym none ∙ t.stands in cc)
    | inr out ↦ inl (b.gained.others s out).held
  ]

  counted : (disk_slot : DiskSlot) → first.counted disk_slot ≤ now.counted disk_slot
  counted disk_slot =
      let s : Slot = slot_at disk_slot.node disk_slot.shard in
      elim (in_or_out (slots_of found.place) s) as (λ _. first.counted disk_slot ≤ now.counted disk_slot) [
        | inl i ↦ (let same : now.counted disk_slot ≡ first.counted disk_slot = (b.gained.gained s i).counted in omega (arith, same))
        | inr out ↦ (let same : now.counted disk_slot ≡ first.counted disk_slot = (b.gained.others s out).counted in omega (arith, same))
      ]

  served : IsToldAndServed tells [] (λ p. []) past (Some found) [] None m.net.replicas.events
  served = subst (IsToldAndServed tells [] (λ p. []) past (Some found) [] None) (sym b.opened) (served_afresh {tells = tells} past found None b.lawful)

  afresh : (calls : List ℕ) → calls ≡ replicate (MOST_CLIENTS + 1) 0 → (tells ≡ true → TellAll state) → Tracks state tells past (Some found) first now [] (Some m) calls
  afresh calls zero tell =
      let order = in_order [] (Some found) [] m.net.replicas.events b.legal served.0 (served.1.answers).each served.1.order in
      record {
        tell = tell;
        legal = b.legal;
        taking = [];
        delivered = λ p. [];
        served = served;
        were = λ q at x i. absurd i;
        numbered = record { next = ap (λ xs. slice_index xs 0) zero; all = ap length zero };
        untaken = rose_none first.faults now.faults b.gained.later;
        later = counted;
        after = record {
          stands = b.stands;
          lay = first.held;
          lain = b.lain;
          run = run;
          still = still;
          apart = subst AreApart (sym b.slots) (slots_apart found.place b.lawful);
          low = low_then state tells past (Some found) now [] m b.legal served.0 order first.held b.lain run b.stands.ready.place (λ none. absurd (let clash : Some found ≡ None = none in cc));
          tenures = λ none. absurd (let clash : Some found ≡ None = none in cc);
        };
      }

pub tracks_afresh : {D : Type 0} {G : Ghosts D} (state : D → DiskState) (members : Option (Members D G)) → TracksAfresh state members
tracks_afresh {D} {G} state members tells past found first now calls m is zero tell b =
    subst (λ (o : Option (Members D G)). Tracks state tells past (Some found) first now [] o calls) (sym is) (afresh state tells past found first now m b calls zero tell)
