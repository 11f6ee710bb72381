use Rattle.std.proofs.Common.{◌≡◌, ◌<◌, ℕ, slice_get, Some}
use Rattle.m3_model.specs.declared.placement.Instance.{Instance}
use Rattle.placement_steps.proofs.step.keeps_names.Given as goal

-- each node so far has its position and its name again
abbrev pub invariant-loop-position : goal.invariant-loop-position
invariant-loop-position l = (k : ℕ) (was : Instance) → k < l.position → slice_get l.old k ≡ Some was → (is : Instance) × (slice_get l.next k ≡ Some is) × (is.name ≡ was.name)
