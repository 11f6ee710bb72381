use Rattle.std.proofs.Common.{◌≡◌, true}
use Rattle.saved_cluster.specs.Saved.{MayServeSaved}
use Rattle.trail_tests.proofs.lists.tell_words.Given as goal

abbrev pub invariant-loop-word : goal.invariant-loop-word
invariant-loop-word g l = l.goes_on ≡ true → MayServeSaved g.X.D.Disk.state l.cluster (g.X.Disks.depot l.disks).held
