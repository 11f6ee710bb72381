use Rattle.std.proofs.Common.{take}
use Rattle.listed_volumes.specs.Cached.{HasForgotten}
use Rattle.listed_volumes.proofs.row_cache.RowCache.forget_all.Given as goal

-- those so far are forgotten
abbrev pub invariant-loop-head : goal.invariant-loop-head
invariant-loop-head l = HasForgotten (take l.head-index l.heads) l.fn.self l.self
