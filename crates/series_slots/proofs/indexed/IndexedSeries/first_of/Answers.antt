use Rattle.std.proofs.lemmas.Option.{IfSome_then}
use Rattle.series_slots.proofs.OrderLemmas.{first_value}
use Rattle.series_slots.proofs.indexed.IndexedSeries.first_of.Goals as goal

pub returns-clause-some : goal.returns-clause-some
returns-clause-some c =
    IfSome_then c.first_from.result c.first_from.ensures.some (λ x h. first_value c.args.self.now c.in_ok-position.position c.args.series.now x.0 x.1 (h c.args.series.now c.in_ok-position.ensures.there))
