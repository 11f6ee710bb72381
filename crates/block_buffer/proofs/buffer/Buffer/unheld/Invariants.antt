use Rattle.std.proofs.Common.{◌≡◌, ℤ, ◌<◌, Some}
use Rattle.std.specs.FinMap as finite
use Rattle.m3_model.specs.declared.point.Key.{Key}
use Rattle.block_buffer.proofs.buffer.Buffer.unheld.Given as goal

abbrev pub invariant-loop-space : goal.invariant-loop-space
invariant-loop-space l = record {
  named : l.series.id ≡ l.fn.series.id;
  none : (k : Key) (v : ℤ) → finite.get l.self.points k ≡ Some v → k.id ≡ l.fn.series.id → k.ns < l.space → ⊥;
}
