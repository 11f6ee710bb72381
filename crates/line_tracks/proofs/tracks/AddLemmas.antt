-- From what each line's law says to what is tracked.
use Rattle.std.proofs.Common.{refl}
use Rattle.m3_outside.specs.declared.disk.Disk.{Ghosts}
use Rattle.cluster_core.specs.declared.event.Event.TheVariants as event
use Rattle.cluster_core.proofs.ListLemmas.{in_at}
use Rattle.node_calls.specs.session_net.Runs.{slot_at}
use Rattle.node_calls.specs.session_net.declared.net.Net.{Net}
use Rattle.line_tracks.specs.calls.Laws.{Kind}
use Rattle.node_calls.specs.cluster_members.declared.members.Members.{Members}
use Rattle.line_tracks.specs.tracks.Adds.{AnewAdds, CallAdds, ServedAdds, StepsAreOfSlots}
use Rattle.line_tracks.proofs.tracks.OpenLemmas.{none_there}

pub call_adds : {D : Type 0} {G : Ghosts D} (Line : Kind) (old : Net D G) → CallAdds Line old
call_adds Line old tells past start turns messages was a b new were free h = record { more = h.more; grew = h.grew; line = h.line; serves = h.serves free tells was past were; delivered = h.delivered was were }

pub served_adds : (Line : Kind) → ServedAdds Line
served_adds Line tells past start turns messages was events a b later were h = record { more = h.more; grew = h.grew; line = h.line; serves = h.serves tells was past were; delivered = h.delivered was were }

pub anew_adds : (Line : Kind) → AnewAdds Line
anew_adds Line tells past untaken turns was a b more were h = record { more = more; grew = refl; line = h.line; serves = h.serves was past were; delivered = h.delivered was were }

pub steps_are_of_slots : {D : Type 0} {G : Ghosts D} (m : Members D G) → StepsAreOfSlots m
steps_are_of_slots m more slots only n s c r i = slots.are.all (slot_at n s) (λ none. let at = in_at more (event.Step n s c r) i in none_there n s more at.0 c r (only (slot_at n s) none) at.1)
