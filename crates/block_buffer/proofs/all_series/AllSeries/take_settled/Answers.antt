use Rattle.std.proofs.Common.{◌≡◌, Some, true, refl, ap, sym, ◌∙◌, not, rules, w64}
use Rattle.std.specs.Prelude.{ℤ, FitsSigned, int_lt}
use Rattle.std.proofs.lemmas.Int.{to_z-of_z}
use Rattle.series_slots.specs.Slots.{settled}
use Rattle.series_slots.specs.SeriesEntries.{StandsAt}
use Rattle.block_buffer.specs.Taken.{is_settled}
use Rattle.block_buffer.proofs.ContentLemmas.{of_settled}
use Rattle.block_buffer.proofs.all_series.AllSeries.take_settled.Goals as goal

pub take-gone-requires : goal.take-gone-requires
take-gone-requires c =
    (c.requires.0, of_settled c.slot.result c.in_ok-stands.stands (StandsAt c.args.self.now c.args.position c.args.t c.requires.0) (sym c.in_ok-stands.ensures) (c.slot.ensures.stands c.requires.0 c.requires.1))

pub returns-clause-taken : goal.returns-clause-taken
returns-clause-taken c s at =
    let fits : FitsSigned w64 c.in_ok-stands.stands = search rules in
    let kept = to_z-of_z w64 c.in_ok-stands.stands fits in
    let low : is_settled (Some c.in_ok-stands.stands) c.args.v ≡ true = search rules in
    let stands : StandsAt c.args.self.now c.args.position c.args.t s = of_settled c.slot.result c.in_ok-stands.stands (StandsAt c.args.self.now c.args.position c.args.t s) (sym c.in_ok-stands.ensures) (c.slot.ensures.stands s at) in (
      ap (λ (z : ℤ). not (int_lt c.args.v z)) kept ∙ low,
      record {
        time = refl;
        value = ap settled (sym (c.slot.ensures.slot s at)) ∙ sym c.in_ok-stands.ensures ∙ ap Some (sym kept);
        set = c.take-gone.ensures.taken s stands;
        left = c.take-gone.ensures.left s stands;
      },
    )
