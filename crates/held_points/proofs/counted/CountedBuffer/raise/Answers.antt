use Rattle.std.proofs.Common.{ap, sym, subst}
use Rattle.std.specs.Prelude.{IsSome}
use Rattle.std.specs.FinMap as finite
use Rattle.block_buffer.specs.Held.{InMemory}
use Rattle.series_slots.specs.SeriesKeys.{key_at}
use Rattle.held_points.proofs.CountLemmas.{counted_raised}
use Rattle.held_points.proofs.counted.CountedBuffer.raise.Goals as goal

pub raise-requires : goal.raise-requires
raise-requires c = subst (λ (h : InMemory). IsSome (finite.get h.points (key_at c.args.series.now c.args.t))) (sym c.self.view_is) c.requires

pub invariant_of-self : goal.invariant_of-self
invariant_of-self c =
    counted_raised c.self.inside.count c.self.inside.adds c.self.inside.buffer c.raise.new.self (key_at c.args.series.now c.args.t) _ c.raise.ensures
    (subst (λ (h : InMemory). IsSome (finite.get h.points (key_at c.args.series.now c.args.t))) (sym c.self.view_is) c.requires) c.self.invariant
