use Rattle.std.proofs.Common.{◌≡◌, ◌++◌, drop}
use Rattle.shard_open.specs.Claims.{asked_of}
use Rattle.shard_open.proofs.claims.asked_of.Given as goal

-- what was claimed so far, and then what is claimed of the rest
abbrev pub invariant-loop-range : goal.invariant-loop-range
invariant-loop-range l = l.claimed.items ++ asked_of (drop l.range-index l.asked) l.rest ≡ asked_of l.asked l.blocks
