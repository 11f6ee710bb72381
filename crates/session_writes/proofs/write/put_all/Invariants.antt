use Rattle.std.proofs.Common.{◌≡◌, ◌+◌, ◌*◌, ◌≤◌, ℕ, List, map, length, take}
use Rattle.std.specs.Prelude.{⊤}
use Rattle.session_net.specs.cluster_core.declared.event.Event.{Event}
use Rattle.session_net.specs.cluster_core.declared.event.StepReply.TheVariants as reply
use Rattle.placement_core.specs.Shards.{nodes_of}
use Rattle.session_net.specs.Messages.{Heard, AreHeard}
use Rattle.session_net.specs.Outcomes.{told_of, answering, refusing}
use Rattle.session_net.specs.Runs.{Ran}
use Rattle.session_net.specs.Tallies.{HasRoom}
use Rattle.session_net.specs.Writes.{put_of, counted_among}
use Rattle.session_writes.proofs.write.put_all.Given as goal

abbrev pub invariant-loop-member : goal.invariant-loop-member
invariant-loop-member g l = record {
  room : (n : ℕ) → n + l.member-index ≤ length l.members → HasRoom n l.tally;
  heard : List (Heard ⊤);
  puts : List Event;
  are : AreHeard (λ (u : ⊤). reply.Done) l.fates l.sending.id l.sending.shard (put_of l.sending.id l.rules l.sending.version l.point) (nodes_of (take l.member-index l.members)) heard puts;
  ran : Ran g.D.Disk.state l.fn.replicas puts l.replicas;
  few : length puts ≤ 4 * l.member-index;
  answered : l.tally.answered.items ≡ answering (map told_of (counted_among (take l.member-index l.members) heard));
  refused : l.tally.reasons.items ≡ refusing (map told_of (counted_among (take l.member-index l.members) heard));
}
