-- What a write answers, and what it leaves.
use Rattle.std.specs.Prelude.{◌≡◌, ◌⊎◌, ℕ, ◌+◌, ◌*◌, ◌≤◌, ⊤, List, [], ◌∷◌, ◌++◌, map, filter, fold, length, take, Bool, true, false, if◌then◌else◌, nat_eq, IsPermutation, Option}
use Rattle.m3_model.specs.Ascends.{Ascends}
use Rattle.m3_model.specs.Hash.{shard_of}
use Rattle.m3_model.specs.Levels.{needed_write}
use Rattle.m3_model.specs.declared.act.Fate.{Fate}
use Rattle.m3_model.specs.declared.act.Fate.TheVariants as fate
use Rattle.m3_model.specs.declared.act.WriteLevel.{WriteLevel}
use Rattle.m3_model.specs.declared.limits.TheConstants.{MOST_LATE_WRITES}
use Rattle.m3_model.specs.declared.placement.Assignment.{Assignment}
use Rattle.m3_model.specs.declared.placement.Placement.{Placement}
use Rattle.m3_model.specs.declared.point.Point.{Point}
use Rattle.m3_model.specs.declared.reason.Reason.{Reason}
use Rattle.m3_model.specs.declared.rules.MetaState.{MetaState}
use Rattle.m3_model.specs.declared.rules.Rules.{Rules}
use Rattle.replica_calls.specs.m3_outside.DiskState.{DiskState}
use Rattle.replica_calls.specs.m3_outside.declared.disk.Disk.{Ghosts}
use Rattle.replica_calls.specs.cluster_core.declared.event.Event.{Event}
use Rattle.replica_calls.specs.cluster_core.declared.event.Event.TheVariants as event
use Rattle.replica_calls.specs.cluster_core.declared.event.StepCall.{StepCall}
use Rattle.replica_calls.specs.cluster_core.declared.event.StepCall.TheVariants as call
use Rattle.replica_calls.specs.cluster_core.declared.event.StepReply.TheVariants as reply
use Rattle.net_plan.specs.Fates.{FateMap}
use Rattle.net_plan.specs.declared.late_write.LateWrite.{LateWrite}
use Rattle.replica_calls.specs.placement_core.Lawful.{IsLawful}
use Rattle.replica_calls.specs.placement_core.NodeNames.{IsNamedBelow}
use Rattle.replica_calls.specs.placement_core.Shards.{Shard, shard_at, nodes_of, counts}
use Rattle.replica_calls.specs.MachineCalls.{HasRoom}
use Rattle.replica_calls.specs.CallId.{CallId}
use Rattle.replica_calls.specs.Calls.{Tracked}
use Rattle.session_net.specs.Messages.{Heard, AreHeard, fate_to}
use Rattle.session_net.specs.Outcomes.{NodeOutcome, told_of, answering, refusing, IsTooFew, IsShortOf}
use Rattle.session_net.specs.Runs.{Ran}
use Rattle.session_net.specs.declared.net.Net.{Net}
use Rattle.session_net.specs.declared.session_err.SessionErr.{SessionErr}
use Rattle.session_net.specs.declared.session_err.SessionErr.TheVariants as err

-- the shard of a point
abbrev pub shard_of_point : MetaState → Point → ℕ
shard_of_point state p = shard_of p.id state.seed (length state.place.shards)

-- what each replica is asked
abbrev pub put_of : CallId → Rules → ℕ → Point → StepCall
put_of id rules version p = call.Put id.client id.number rules version p

-- ---- late messages

abbrev pub is_late : Fate → Bool
is_late fate.Late = true
is_late _ = false

-- the message to a node, as it is held back
abbrev pub late_to : CallId → ℕ → ℕ → Point → ℕ → LateWrite
late_to id shard version p node = record { client = id.client; number = id.number; node = node; shard = shard; version = version; point = p }

-- the late ones of the messages to these nodes, in their order
abbrev pub late_among : FateMap → CallId → ℕ → ℕ → Point → List ℕ → List LateWrite
late_among fates id shard version p nodes = map (late_to id shard version p) (filter (λ node. is_late (fate_to fates id node)) nodes)

-- a bag after one more late message: one that holds 4,096 loses it
abbrev pub kept_in : List LateWrite → LateWrite → List LateWrite
kept_in bag late = if nat_eq (length bag) MOST_LATE_WRITES then bag else bag ++ late ∷ []

-- and after several
abbrev pub filled : List LateWrite → List LateWrite → List LateWrite
filled bag more = fold kept_in bag more

-- the bag after the write's messages to these nodes
abbrev pub bag_after : {D : Type 0} {G : Ghosts D} → Net D G → CallId → Point → List ℕ → List LateWrite
bag_after net id p nodes = filled net.bag (late_among net.fates id (shard_of_point net.state p) net.state.place.version p nodes)

-- ---- a write

-- the replicas of the shard, each once; in a lawful placement they ascend by name
pub record AreMembers (place : Placement) (shard : ℕ) (members : Shard) : Type 0 where
  pub same : IsPermutation (shard_at place shard) members
  pub by_name : IsLawful place → Ascends (λ a b. IsNamedBelow place a.node b.node) members

-- of what the members say, what those say that count
abbrev pub counted_among : {Y : Type 0} → Shard → List Y → List Y
counted_among (a ∷ members) (y ∷ ys) = if counts a.state then y ∷ counted_among members ys else counted_among members ys
counted_among _ _ = []

-- what is counted of what a member was told
abbrev pub told_if_counted : Assignment → Option Reason → List NodeOutcome
told_if_counted a outcome = if counts a.state then (a.node, outcome) ∷ [] else []

-- A write's messages to its members: what each was heard to say, and the events that they brought.
pub record Sent : Type 0 where
  pub members : Shard
  pub heard : List (Heard ⊤)
  pub puts : List Event

-- what is counted of it
abbrev pub told_in : Sent → List NodeOutcome
told_in sent = map told_of (counted_among sent.members sent.heard)

-- the write went to all members of its shard
pub record IsSent {D : Type 0} {G : Ghosts D} (net : Net D G) (id : CallId) (p : Point) (sent : Sent) : Type 0 where
  pub members : AreMembers net.state.place (shard_of_point net.state p) sent.members
  pub heard : AreHeard (λ (u : ⊤). reply.Done) net.fates id (shard_of_point net.state p) (put_of id net.state.rules net.state.place.version p) (nodes_of sent.members) sent.heard sent.puts

-- What the messages of one write share.
pub record Putting : Type 0 where
  pub id : CallId
  pub rules : Rules
  pub version : ℕ
  pub shard : ℕ
  pub point : Point

-- the write's Send, what its messages to these members brought, and these last events came; its late messages are in the bag
pub record HasSent {D : Type 0} (disk : D → DiskState) (fates : FateMap) (w : Putting) (sent : Sent) (last : List Event) (old new : Tracked D) (bag later : List LateWrite) : Type 0 where
  pub heard : AreHeard (λ (u : ⊤). reply.Done) fates w.id w.shard (put_of w.id w.rules w.version w.point) (nodes_of sent.members) sent.heard sent.puts
  pub ran : Ran disk old (event.Send w.version w.shard w.point ∷ (sent.puts ++ last)) new
  pub held_back : later ≡ filled bag (late_among fates w.id w.shard w.version w.point (nodes_of sent.members))

-- these nodes acknowledged it
pub record IsSettled {D : Type 0} (disk : D → DiskState) (fates : FateMap) (w : Putting) (members : Shard) (needed : ℕ) (acks : List ℕ) (old new : Tracked D) (bag later : List LateWrite) : Type 0 where
  pub sent : Sent
  pub to : sent.members ≡ members
  pub has_sent : HasSent disk fates w sent (event.Ack (length old.events) acks ∷ []) old new bag later
  pub acks_are : acks ≡ answering (told_in sent)
  pub enough : needed ≤ length acks

-- or it wasn't: too few did, or memory was wanted
abbrev pub IsUnsettled : {D : Type 0} → (D → DiskState) → FateMap → Putting → Shard → ℕ → Tracked D → Tracked D → List LateWrite → List LateWrite → SessionErr → Type 0
IsUnsettled disk fates w members needed old new bag later (err.Consistency shard needed_is got reasons) =
    (sent : Sent) × (sent.members ≡ members) × HasSent disk fates w sent [] old new bag later × IsShortOf needed w.shard (answering (told_in sent)) (refusing (told_in sent)) (err.Consistency shard needed_is got reasons)
IsUnsettled disk fates w members needed old new bag later err.Memory =
    ((new ≡ old) × (later ≡ bag)) ⊎ ((k : ℕ) × Ran disk old (event.Send w.version w.shard w.point ∷ []) new × (later ≡ filled bag (late_among fates w.id w.shard w.version w.point (nodes_of (take k members)))))
IsUnsettled disk fates w members needed old new bag later err.Full = ⊥

-- the Send of the write
abbrev pub send_of : {D : Type 0} {G : Ghosts D} → Net D G → Point → Event
send_of net p = event.Send net.state.place.version (shard_of_point net.state p) p

-- As many of the nodes that count as the level needs took the point; they are named in their order. The Send came to the list before any message, and the Ack
-- after all.
pub record IsAcknowledged {D : Type 0} {G : Ghosts D} (state : D → DiskState) (old : Net D G) (id : CallId) (p : Point) (level : WriteLevel) (acks : List ℕ) (new : Net D G) : Type 0 where
  pub sent : Sent
  pub is_sent : IsSent old id p sent
  pub acks_are : acks ≡ answering (told_in sent)
  pub enough : needed_write level old.state.place.rf ≤ length acks
  pub ran : Ran state old.replicas (send_of old p ∷ (sent.puts ++ event.Ack (length old.replicas.events) acks ∷ [])) new.replicas
  pub bag : new.bag ≡ bag_after old id p (nodes_of sent.members)

-- too few of the nodes that count took it, and there is no Ack
pub record IsUnmet {D : Type 0} {G : Ghosts D} (state : D → DiskState) (old : Net D G) (id : CallId) (p : Point) (level : WriteLevel) (shard needed got : ℕ) (reasons : List (ℕ × Reason)) (new : Net D G) : Type 0 where
  pub sent : Sent
  pub is_sent : IsSent old id p sent
  pub too_few : IsTooFew (needed_write level old.state.place.rf) (shard_of_point old.state p) (told_in sent) shard needed got reasons
  pub ran : Ran state old.replicas (send_of old p ∷ sent.puts) new.replicas
  pub bag : new.bag ≡ bag_after old id p (nodes_of sent.members)

-- memory was wanted before any replica was asked: the Send may be in the list, and then the late ones of the messages to some first members in the bag
pub record IsUnsent {D : Type 0} {G : Ghosts D} (state : D → DiskState) (old : Net D G) (id : CallId) (p : Point) (new : Net D G) : Type 0 where
  pub members : Shard
  pub are : AreMembers old.state.place (shard_of_point old.state p) members
  pub k : ℕ
  pub ran : Ran state old.replicas (send_of old p ∷ []) new.replicas
  pub bag : new.bag ≡ bag_after old id p (nodes_of (take k members))

-- so many events a write may add: its Send, two for each delivery to a member, of which there may be two, and its Ack
abbrev pub most_added : Shard → ℕ
most_added members = 2 + 4 * length members

-- too few took it; or memory was wanted and nothing was put; or the list had no room, and nothing changed
abbrev pub IsRefused : {D : Type 0} {G : Ghosts D} → (D → DiskState) → Net D G → CallId → Point → WriteLevel → Net D G → SessionErr → Type 0
IsRefused state old id p level new (err.Consistency shard needed got reasons) = IsUnmet state old id p level shard needed got reasons new
IsRefused state old id p level new err.Memory = (new ≡ old) ⊎ IsUnsent state old id p new
IsRefused state old id p level new err.Full = (new ≡ old) × ((members : Shard) × AreMembers old.state.place (shard_of_point old.state p) members × ¬ HasRoom (most_added members) old.replicas.events)
