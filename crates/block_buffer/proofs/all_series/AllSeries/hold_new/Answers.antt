use Rattle.std.proofs.Common.{Some, None, cond, ap, ◌∙◌}
use Rattle.std.specs.Prelude.{slice_get}
use Rattle.std.specs.FinMap as finite
use Rattle.std.specs.FinMap.{get-empty}
use Rattle.std.specs.Ordering.{nat_cmp, eq_by_cmp}
use Rattle.m3_model.specs.Keys.{key_cmp}
use Rattle.series_slots.specs.SeriesKeys.{key_at}
use Rattle.series_slots.specs.SeriesEntries.{SeriesEntries}
use Rattle.block_buffer.proofs.all_series.AllSeries.hold_new.Goals as goal

pub hold_absent-requires : goal.hold_absent-requires
hold_absent-requires c = (c.args.series, finite.empty, c.in_ok-position.ensures.at, get-empty nat_cmp c.args.t)

pub leave-requires : goal.leave-requires
leave-requires c = (c.args.series, record { slots = finite.empty; entry = ap (λ (ps : SeriesEntries). slice_get ps c.in_ok-position.position) c.in-Err.ensures.err ∙ c.in_ok-position.ensures.at })

pub returns-in-Ok-clause-ok : goal.returns-in-Ok-clause-ok
returns-in-Ok-clause-ok c k =
    c.in-Ok.ensures.ok c.args.series (record { slots = finite.empty; entry = c.in_ok-position.ensures.at }) k
    ∙ ap (cond (eq_by_cmp key_cmp k (key_at c.args.series c.args.t)) (Some None)) (c.in_ok-position.ensures.kept k)

pub returns-in-Ok-clause-stands : goal.returns-in-Ok-clause-stands
returns-in-Ok-clause-stands c = c.in-Ok.ensures.stands c.args.series (record { slots = finite.empty; entry = c.in_ok-position.ensures.at })
