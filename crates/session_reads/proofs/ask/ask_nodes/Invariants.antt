use Rattle.std.proofs.Common.{◌≡◌, ◌+◌, ◌≤◌, ℕ, List, map, length, take}
use Rattle.m3_model.specs.Contents.{content_of}
use Rattle.m3_model.specs.Reads.{IsOrdered, points_in, space_picked}
use Rattle.m3_model.specs.declared.point.Series.{Series}
use Rattle.session_net.specs.Messages.{Heard}
use Rattle.session_net.specs.Outcomes.{told_of, answering, refusing}
use Rattle.session_net.specs.Reads.{read_of, AreForms}
use Rattle.session_net.specs.Tallies.{HasRoom}
use Rattle.session_reads.specs.Gathering.{wish_of, IsContentOf, WereAsked}
use Rattle.session_reads.proofs.AskLemmas.{answers_of}
use Rattle.session_reads.proofs.ask.ask_nodes.Given as goal

abbrev pub invariant-loop-node : goal.invariant-loop-node
invariant-loop-node g l = record {
  room : (n : ℕ) → n + l.node-index ≤ length l.nodes → HasRoom n l.tally;
  heard : List (Heard (List Series));
  asked : WereAsked g.D.Disk.state l.fates l.asking.id l.shard (read_of l.asking.id l.state.rules l.state.place.version (wish_of l.pick l.asking)) (take l.node-index l.nodes) heard l.fn.replicas l.replicas;
  answered : l.tally.answered.items ≡ answering (map told_of heard);
  refused : l.tally.reasons.items ≡ refusing (map told_of heard);
  ordered : IsOrdered l.into;
  content : IsContentOf (space_picked l.pick) (answers_of heard) (content_of (points_in (space_picked l.pick) l.into));
  forms : AreForms heard;
}
