use Rattle.std.proofs.Common.{◌≡◌, ℕ, ◌+◌, ◌<◌, ◌≤◌, None, sym, subst, ◌∙◌, rules}
use Rattle.series_slots.specs.SeriesEntries.{SeriesEntries}
use Rattle.block_buffer.specs.Spots.{group_of, IsKeyWithin, IsClear}
use Rattle.block_buffer.proofs.SpotLemmas.{clear_all, clear_more}
use Rattle.block_buffer.proofs.all_series.AllSeries.within_from.Goals as goal

pub loop-group-preserved : goal.loop-group-preserved
loop-group-preserved c =
    let none : c.within_group-found.result ≡ None = search rules in
    record {
      same = c.note_again.ensures ∙ c.loop-group.invariant.same;
      clear = subst (λ (es : SeriesEntries). (position : ℕ) → c.args.from ≤ group_of position → group_of position < c.in-Some.group + 1 → IsClear es position (IsKeyWithin c.args.ns c.args.low c.args.high)) (sym c.note_again.ensures)
          (clear_more c.loop-group.self c.args.from c.loop-group.next c.in-Some.group c.args.ns c.args.low c.args.high c.loop-group.invariant.clear c.in-Some.ensures.some.1 (c.within_group-found.ensures.none none));
    }

pub returns-clause-none : goal.returns-clause-none
returns-clause-none c e = clear_all c.loop-group.self c.args.from c.loop-group.next c.args.ns c.args.low c.args.high c.loop-group.invariant.clear (c.next_group.ensures.none c.in_default.is)
