use Rattle.std.proofs.Common.{◌≡◌, ◌<◌, ℕ, length, slice_get, Some, drop}
use Rattle.placement_core.specs.Shards.{Shard}
use Rattle.placement_core.specs.Steps.{IsShardStep, done_at}
use Rattle.placement_core.proofs.DoneLemmas.{Cursor}
use Rattle.placement_steps.proofs.step.are_shard_steps.Given as goal

-- the shards so far step, and the pairs that are left are those of the others
abbrev pub invariant-loop-number : goal.invariant-loop-number
invariant-loop-number l =
    Cursor l.done (drop l.at l.done) l.number (length l.old)
    × ((s : ℕ) (a b : Shard) → s < l.number → slice_get l.old s ≡ Some a → slice_get l.next s ≡ Some b → IsShardStep l.version a b (done_at s l.done))
