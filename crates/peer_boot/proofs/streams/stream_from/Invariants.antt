use Rattle.std.proofs.Common.{◌-◌, length}
use Rattle.event_book.specs.Lists.{most_entries}
use Rattle.peer_boot.specs.Pages.{Stands}
use Rattle.peer_boot.proofs.streams.stream_from.Given as goal

abbrev pub invariant-loop-next : goal.invariant-loop-next
invariant-loop-next g l = Stands g.D.Disk.state l.from.shard l.from.node l.to.node l.version l.next l.fn.replicas l.replicas

abbrev pub decreases-loop-next : goal.decreases-loop-next
decreases-loop-next g l = most_entries - length l.replicas.events
