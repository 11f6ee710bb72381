-- What is lawful over disks that tell is lawful over others.
use Rattle.std.proofs.Common.{◌≡◌, ℕ, zero, suc, List, take, refl, subst, Bool, true, false}
use Rattle.m3_model.specs.declared.reason.Reason.{Reason}
use Rattle.m3_model.specs.declared.reason.Reason.TheVariants as reason
use Rattle.cluster_core.specs.Legal.{Lawful, LawfulAt, LegalOverAny}
use Rattle.cluster_core.specs.Rows.{LawfulStep, ReplicaMayRefuse, IsTakenCall, MayBeUnowned}
use Rattle.cluster_core.specs.declared.event.Event.{Event}
use Rattle.cluster_core.specs.declared.event.Event.TheVariants as event
use Rattle.cluster_core.specs.declared.event.StepCall.{StepCall}
use Rattle.cluster_core.specs.declared.event.StepCall.TheVariants as call
use Rattle.cluster_core.specs.declared.event.StepReply.{StepReply}
use Rattle.cluster_core.specs.declared.event.StepReply.TheVariants as reply
use Rattle.cluster_core.specs.declared.replica_state.ReplicaState.{ReplicaState}

taken_untold : (r : ReplicaState) (c : StepCall) → IsTakenCall true r c → IsTakenCall false r c
taken_untold r (call.Begin tenure) h = (h.0, tt)
taken_untold r _ h = h

unowned_untold : (r : ReplicaState) (c : StepCall) → MayBeUnowned true r c → MayBeUnowned false r c
unowned_untold r (call.Begin tenure) h = (h.0, tt)
unowned_untold r _ h = h

refused_untold : (past : List Event) (s : ℕ) (r : ReplicaState) (c : StepCall) (why : Reason) → ReplicaMayRefuse true past s r c why → ReplicaMayRefuse false past s r c why
refused_untold past s r c reason.Memory h = h
refused_untold past s r c reason.Cut h = h
refused_untold past s r c reason.NotOwned h = unowned_untold r c h
refused_untold past s r c reason.Disk h = record { uses = h.uses; taken = taken_untold r c h.taken; clock = h.clock; there = h.there }
refused_untold past s r c (reason.Corrupt damage) h = record { reads = h.reads; taken = taken_untold r c h.taken; clock = h.clock }
refused_untold past s r c why h = h

untold : (past : List Event) (n s : ℕ) (r : ReplicaState) (c : StepCall) (a : StepReply) → LawfulStep true past n s r c a → LawfulStep false past n s r c a
untold past n s r (call.Begin tenure) (reply.Began fence points) h = record { not_down = h.not_down; fence_high = h.fence_high; given = h.given; none_higher = tt; began = tt }
untold past n s r (call.Read client number rules version pick from to) (reply.Found series) h = (h.0, h.1, tt)
untold past n s r (call.Page from) (reply.Paged page) h = (h.0, tt)
untold past n s r (call.Block ns start size from) (reply.Paged page) h = (h.0, tt)
untold past n s r (call.Digests rules) (reply.Sums digests) h = (h.0, h.1, tt)
untold past n s r c (reply.Refused why) h = refused_untold past s r c why h
untold past n s r _ _ h = h

pub weaker : (disk tells : Bool) → (tells ≡ true → disk ≡ true) → (past : List Event) (n s : ℕ) (r : ReplicaState) (c : StepCall) (a : StepReply) → LawfulStep disk past n s r c a → LawfulStep tells past n s r c a
weaker disk true too past n s r c a h = subst (λ b. LawfulStep b past n s r c a) (too refl) h
weaker true false too past n s r c a h = untold past n s r c a h
weaker false false too past n s r c a h = h

event_untold : (past : List Event) (e : Event) → Lawful true past e → Lawful false past e
event_untold past (event.Step n s c a) h = (h.0, untold past n s _ c a h.1)
event_untold past _ h = h

at_untold : (i : ℕ) (past : List Event) (e : Event) → LawfulAt true i past e → LawfulAt false i past e
at_untold zero past e h = h
at_untold (suc zero) past e h = h
at_untold (suc (suc i)) past e h = event_untold past e h

pub legal_untold : LegalOverAny
legal_untold true events legal = legal
legal_untold false events legal = λ i e there. at_untold i (take i events) e (legal i e there)
