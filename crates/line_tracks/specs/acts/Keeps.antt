-- What lines that make no placement leave of how slots first begin.
use Rattle.std.specs.Prelude.{ℕ, List, Option, Bool}
use Rattle.m3_model.specs.Members.{IsIn}
use Rattle.m3_model.specs.declared.rules.MetaState.{MetaState}
use Rattle.m3_outside.specs.DiskState.{DiskState}
use Rattle.m3_outside.specs.declared.disk.Disk.{Ghosts}
use Rattle.cluster_core.specs.declared.event.Event.{Event}
use Rattle.cluster_core.specs.declared.event.Event.TheVariants as event
use Rattle.cluster_core.specs.declared.event.StepCall.TheVariants as call
use Rattle.cluster_core.specs.declared.event.StepReply.{StepReply}
use Rattle.node_calls.specs.replica_calls.Calls.{Tracked}
use Rattle.node_calls.specs.session_net.Ready.{IsReady}
use Rattle.node_calls.specs.session_net.Runs.{Ran}
use Rattle.node_calls.specs.cluster_members.declared.members.Members.{Members}
use Rattle.line_tracks.specs.acts.Stays.{HaveNoPlace}
use Rattle.line_tracks.specs.acts.Opens.{IsGivenNow, MayOpenSlots}

-- each begin among the events is of a tenure that the placement which stands gives
abbrev pub BeginsGiven : List Event → List Event → Type 0
BeginsGiven past more = (n s tenure : ℕ) (r : StepReply) → IsIn more (event.Step n s (call.Begin tenure) r) → IsGivenNow past n s tenure

-- Where the events made no placement and began only what it gives, with what slots first begin is as before.
abbrev pub BeginsStill : {D : Type 0} {G : Ghosts D} → (D → DiskState) → Members D G → Type 0
BeginsStill {D} {G} state old =
    (tells : Bool) (start : Option MetaState) (new : Tracked D) (more : List Event) → IsReady old.net.state old.net.replicas old.net.bag → MayOpenSlots state tells start old.net.replicas → Ran state old.net.replicas more new → HaveNoPlace more → BeginsGiven old.net.replicas.events more
    → MayOpenSlots state tells start new
