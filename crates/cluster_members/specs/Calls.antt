-- What a cluster that stands answers to clients' calls, and what that leaves of it.
use Rattle.std.specs.Prelude.{◌≡◌, ◌⊎◌, ℕ, ℤ, List, Option, Some, None}
use Rattle.m3_outside.specs.DiskState.{DiskState}
use Rattle.m3_outside.specs.declared.disk.Disk.{Ghosts}
use Rattle.m3_model.specs.Rules.{namespace_position}
use Rattle.m3_model.specs.declared.act.ReadLevel.{ReadLevel}
use Rattle.m3_model.specs.declared.act.WriteLevel.{WriteLevel}
use Rattle.m3_model.specs.declared.answer.Answer.{Answer}
use Rattle.m3_model.specs.declared.answer.Answer.TheVariants as answer
use Rattle.m3_model.specs.declared.point.Pick.{Pick}
use Rattle.m3_model.specs.declared.point.Point.{Point}
use Rattle.session_writes.specs.replica_exchange.declared.call_id.CallId.{CallId}
use Rattle.session_writes.specs.session_net.Reads.{Wish, IsReadFound, IsRefusedRead}
use Rattle.session_writes.specs.session_net.Writes.{IsAcknowledged, IsRefused}
use Rattle.session_writes.specs.session_net.declared.net.Net.{Net}
use Rattle.session_writes.specs.session_net.declared.session_err.SessionErr.{SessionErr}
use Rattle.session_writes.specs.session_net.declared.session_err.SessionErr.TheVariants as err
use Rattle.cluster_members.specs.Kept.{IsUnkept, WentBy}
use Rattle.cluster_members.specs.Steps.{spaces_in}
use Rattle.cluster_members.specs.declared.calls.Range.{Range}
use Rattle.cluster_members.specs.declared.members.Members.{Members}

-- a refused call's answer
abbrev pub answer_of : SessionErr → Answer
answer_of (err.Consistency shard needed got reasons) = answer.Consistency got needed reasons shard
answer_of err.Memory = answer.Memory
answer_of err.Full = answer.Full

-- the state by which calls go, the placements that are kept, the fates, the slots and which nodes are stopped stay
pub record KeepsCluster {D : Type 0} {G : Ghosts D} (old new : Members D G) : Type 0 where
  pub state : new.net.state ≡ old.net.state
  pub past : new.past.items ≡ old.past.items
  pub fates : new.net.fates ≡ old.net.fates
  pub slots : new.slots.items ≡ old.slots.items
  pub stopped : new.stopped.items ≡ old.stopped.items

-- ---- writes

-- A point as a write gives it, with its namespace by name.
pub record NamedPoint : Type 0 where
  pub ns : List ℕ
  pub id : List ℕ
  pub t : ℕ
  pub v : ℤ

-- the point, in the namespace of this position
abbrev pub placed : NamedPoint → ℕ → Point
placed p ns = record { ns = ns; id = p.id; t = p.t; v = p.v }

-- a write was acknowledged or refused
abbrev pub IsWriteAnswer : {D : Type 0} {G : Ghosts D} → (D → DiskState) → Net D G → CallId → Point → WriteLevel → Answer → Net D G → Type 0
IsWriteAnswer state old id p level (answer.Acks acks) new = IsAcknowledged state old id p level acks new
IsWriteAnswer state old id p level (answer.Consistency got needed reasons shard) new = IsRefused state old id p level new (err.Consistency shard needed got reasons)
IsWriteAnswer state old id p level answer.Memory new = IsRefused state old id p level new err.Memory
IsWriteAnswer state old id p level answer.Full new = IsRefused state old id p level new err.Full
IsWriteAnswer state old id p level _ new = ⊥

-- a write went to the members of its shard, by a placement that it may use
pub record IsPut {D : Type 0} {G : Ghosts D} (state : D → DiskState) (old : Members D G) (id : CallId) (point : NamedPoint) (level : WriteLevel) (version : Option ℕ) (answered : Answer) (new : Members D G) : Type 0 where
  pub position : ℕ
  pub found : namespace_position point.ns (spaces_in old) ≡ Some position
  pub answers : WentBy old version (λ before after. IsWriteAnswer state before id (placed point position) level answered after) new.net
  pub keeps : KeepsCluster old new

-- no placement of the version is kept, where the namespace is there
pub record IsOfNoVersion {D : Type 0} {G : Ghosts D} (old : Members D G) (ns : List ℕ) (version : Option ℕ) (answered : Answer) (new : Members D G) : Type 0 where
  pub position : ℕ
  pub found : namespace_position ns (spaces_in old) ≡ Some position
  pub unkept : IsUnkept old.net.state.place old.past.items version answered
  pub same : new ≡ old

-- the namespace isn't there, or no placement of the version is kept; nothing changed
abbrev pub IsMissing : {D : Type 0} {G : Ghosts D} → Members D G → List ℕ → Option ℕ → Answer → Members D G → Type 0
IsMissing old ns version answered new = ((namespace_position ns (spaces_in old) ≡ None) × (answered ≡ answer.Unknown ns) × (new ≡ old)) ⊎ IsOfNoVersion old ns version answered new

-- what the call names is missing, or the write went to the members of its shard
abbrev pub IsWritten : {D : Type 0} {G : Ghosts D} → (D → DiskState) → Members D G → CallId → NamedPoint → WriteLevel → Option ℕ → Answer → Members D G → Type 0
IsWritten state old id point level version answered new = IsMissing old point.ns version answered new ⊎ IsPut state old id point level version answered new

-- ---- reads

-- what is asked for in a range
abbrev pub wish : Pick → Range → Wish
wish pick range = record { pick = pick; from = range.from; to = range.to }

-- a read found what the nodes that count answered, or it was refused
abbrev pub IsReadAnswer : {D : Type 0} {G : Ghosts D} → (D → DiskState) → Net D G → CallId → Wish → ReadLevel → Answer → Net D G → Type 0
IsReadAnswer state old id w level (answer.Found series short) new = IsReadFound state old id w level series short new
IsReadAnswer state old id w level (answer.Consistency got needed reasons shard) new = IsRefusedRead state old id w level new (err.Consistency shard needed got reasons)
IsReadAnswer state old id w level answer.Memory new = IsRefusedRead state old id w level new err.Memory
IsReadAnswer state old id w level answer.Full new = IsRefusedRead state old id w level new err.Full
IsReadAnswer state old id w level _ new = ⊥

-- the nodes that count were asked, by a placement that the read may use
pub record IsReadServed {D : Type 0} {G : Ghosts D} (state : D → DiskState) (old : Members D G) (id : CallId) (ns : List ℕ) (pick : ℕ → Pick) (range : Range) (level : ReadLevel) (version : Option ℕ) (answered : Answer) (new : Members D G) : Type 0 where
  pub position : ℕ
  pub found : namespace_position ns (spaces_in old) ≡ Some position
  pub answers : WentBy old version (λ before after. IsReadAnswer state before id (wish (pick position) range) level answered after) new.net
  pub keeps : KeepsCluster old new
  pub bag : new.net.bag ≡ old.net.bag

-- what the call names is missing, or the nodes that count were asked
abbrev pub IsFetchAnswer : {D : Type 0} {G : Ghosts D} → (D → DiskState) → Members D G → CallId → List ℕ → (ℕ → Pick) → Range → ReadLevel → Option ℕ → Answer → Members D G → Type 0
IsFetchAnswer state old id ns pick range level version answered new = IsMissing old ns version answered new ⊎ IsReadServed state old id ns pick range level version answered new
