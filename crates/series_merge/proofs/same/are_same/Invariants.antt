use Rattle.std.proofs.Common.{◌≡◌, ◌↔◌, drop}
use Rattle.series_merge.proofs.same.are_same.Given as goal

-- the whole lists are the same exactly where what is left of them is
abbrev pub invariant-loop-item : goal.invariant-loop-item
invariant-loop-item g l = (l.one ≡ l.other) ↔ (drop l.item-index l.one ≡ l.rest)
