use Rattle.std.proofs.Common.{◌≡◌, Bool, true, false, not, sym, subst}
use Rattle.std.specs.Prelude.{IsSome}
use Rattle.series_slots.specs.SeriesKeys.{key_at}
use Rattle.series_slots.specs.Points.{slot_at}
use Rattle.series_slots.specs.SeriesEntries.{SeriesEntries, IsAt, slots_of}
use Rattle.block_buffer.proofs.SetLemmas.{slot_found, some_slot}
use Rattle.block_buffer.proofs.all_series.AllSeries.has_slots.Goals as goal

not_both : (b : Bool) → not b ≡ true → b ≡ true → ⊥
not_both true h e = cc
not_both false h e = cc

pub returns : goal.returns
returns c s at h =
    let there : IsAt c.self.inside.placed c.args.position s = subst (λ (ps : SeriesEntries). IsAt ps c.args.position s) (sym c.self.view_is) at in
    let q = some_slot there.slots (λ none. not_both c.is_vacant.result h ((c.is_vacant.ensures.vacant s there.slots there.entry).1 none)) in (
      q.0,
      subst (λ (ps : SeriesEntries). IsSome (slot_at (slots_of ps) (key_at s q.0))) c.self.view_is
          (subst IsSome (sym (slot_found (slots_of c.self.inside.placed) s there.slots q.0 (c.is_vacant.ensures.found s there.slots there.entry))) q.1),
    )
