use Rattle.std.proofs.Common.{sym, subst}
use Rattle.std.specs.Prelude.{IsSome}
use Rattle.std.proofs.lemmas.Option.{IfSome_then}
use Rattle.series_slots.specs.SeriesKeys.{series_of}
use Rattle.series_slots.specs.Points.{slot_at}
use Rattle.series_slots.specs.SeriesEntries.{SeriesEntries, slots_of}
use Rattle.block_buffer.proofs.FirstLemmas.{slot_position}
use Rattle.block_buffer.specs.Spots.{group_of, IsLate}
use Rattle.block_buffer.proofs.SpotLemmas.{late_of}
use Rattle.block_buffer.proofs.all_series.AllSeries.next_group.Goals as goal

pub returns-clause-none : goal.returns-clause-none
returns-clause-none c e position from =
    subst (λ (es : SeriesEntries). IsLate es c.args.ns c.args.high position) c.self.view_is
    (late_of c.self.inside.firsts.spaces.items c.self.inside.placed c.args.ns c.args.high position c.self.invariant.3 (c.next_up_to.ensures.none e (group_of position) from))

pub returns-clause-some : goal.returns-clause-some
returns-clause-some c = IfSome_then c.next_up_to.result c.next_up_to.ensures.some (λ group h. (
  h.0,
  λ position from before.
      subst (λ (es : SeriesEntries). IsLate es c.args.ns c.args.high position) c.self.view_is
      (late_of c.self.inside.firsts.spaces.items c.self.inside.placed c.args.ns c.args.high position c.self.invariant.3 (h.2 (group_of position) from before)),
))

pub returns-clause-times : goal.returns-clause-times
returns-clause-times c k h =
    let at = slot_position c.self.inside.placed k (subst (λ (es : SeriesEntries). IsSome (slot_at (slots_of es) k)) (sym c.self.view_is) h) in
    c.self.invariant.0 at.position (series_of k, at.slots) at.entry k.t at.slot
