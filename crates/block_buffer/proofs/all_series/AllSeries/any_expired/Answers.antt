use Rattle.std.proofs.Common.{◌≡◌, Some, None, sym, subst, ◌∙◌, inl, inr, rules, arith}
use Rattle.series_slots.specs.Points.{slot_at, value_of}
use Rattle.series_slots.specs.SeriesEntries.{SeriesEntries, slots_of}
use Rattle.block_buffer.proofs.PositionLemmas.{eq_or_not}
use Rattle.block_buffer.proofs.ContentLemmas.{value_some}
use Rattle.block_buffer.proofs.FirstLemmas.{none_or_value}
use Rattle.block_buffer.proofs.all_series.AllSeries.any_expired.Goals as goal

pub loop-space-preserved : goal.loop-space-preserved
loop-space-preserved c =
    let none : c.expired_of-found.result ≡ None = search rules in
    let same = c.expired_of-found.ensures.same ∙ c.loop-space.invariant.same in
    record {
      same = same;
      none = λ k low expired. elim (eq_or_not k.ns c.loop-space.space) as (λ _. value_of (slots_of c.args.self.now) k ≡ None) [
        | inl is ↦ subst (λ (es : SeriesEntries). value_of (slots_of es) k ≡ None) same (c.expired_of-found.ensures.none none k (is, expired))
        | inr apart ↦ c.loop-space.invariant.none k (omega (arith, low, apart)) expired
      ];
    }

pub returns-clause-none : goal.returns-clause-none
returns-clause-none c e k expired =
    subst (λ (es : SeriesEntries). value_of (slots_of es) k ≡ None) (sym c.loop-space.invariant.same)
    (none_or_value c.args.self.now k (λ w is.
    let below = c.spaces-space-end.ensures.below k (value_some (slot_at (slots_of c.args.self.now) k) w is) in
    let past = c.loop-space-test.false in
    let wrong : None ≡ Some w = sym (c.loop-space.invariant.none k (omega (arith, below, past)) expired) ∙ is in
    cc))
