use Rattle.std.proofs.Common.{◌≡◌, take}
use Rattle.placement_core.specs.Shards.{nodes_of}
use Rattle.session_net.specs.Writes.{late_among, filled}
use Rattle.session_writes.proofs.write.keep_late.Given as goal

abbrev pub invariant-loop-member : goal.invariant-loop-member
invariant-loop-member l = l.bag ≡ filled l.fn.bag (late_among l.fates l.sending.id l.sending.shard l.sending.version l.point (nodes_of (take l.member-index l.members)))
