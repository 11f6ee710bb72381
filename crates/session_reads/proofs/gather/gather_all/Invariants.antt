use Rattle.m3_model.specs.Contents.{content_of}
use Rattle.m3_model.specs.Reads.{IsOrdered, points_in, space_picked}
use Rattle.session_net.specs.Reads.{count_from}
use Rattle.session_reads.specs.Gathering.{wish_of}
use Rattle.session_reads.proofs.GatherLemmas.{SoFar}
use Rattle.session_reads.proofs.gather.gather_all.Given as goal

abbrev pub invariant-loop-shard : goal.invariant-loop-shard
invariant-loop-shard g l = record {
  so_far : SoFar g.D.Disk.state l.state l.fates l.asking.id (wish_of l.pick l.asking) l.asking.quorum.needed l.asking.quorum.majority l.fn.replicas l.replicas (count_from 0 l.shard) l.whole (content_of (points_in (space_picked l.pick) l.joined));
  ordered : IsOrdered l.joined;
}
