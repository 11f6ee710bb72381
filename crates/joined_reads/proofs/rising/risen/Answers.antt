use Rattle.std.proofs.Common.{◌∙◌, ◌++◌, List, ap, sym, subst}
use Rattle.listed_volumes.specs.wire_bytes.Entries.{AllBounded}
use Rattle.held_pages.specs.Rises.{AreOfSeries, points_of}
use Rattle.held_pages.specs.declared.rising.Rise.{Rise}
use Rattle.joined_reads.specs.Beside.{content_beside, risen_in}
use Rattle.joined_reads.proofs.rising.risen.Goals as goal

pub returns-clause-points : goal.returns-clause-points
returns-clause-points g c = λ tells.
    let content = content_beside c.args.held.now.points c.args.volumes.now in
    c.in_ok-add_all.ensures.points tells ∙ ap (λ (l : List Rise). points_of l ++ risen_in content c.args.points.now) c.new-found.ensures.items

pub returns-clause-bounded : goal.returns-clause-bounded
returns-clause-bounded g c = c.in_ok-add_all.ensures.adds.bounded (subst (λ (l : List Rise). AllBounded (points_of l)) (sym c.new-found.ensures.items) tt)

pub returns-clause-series : goal.returns-clause-series
returns-clause-series g c = c.in_ok-add_all.ensures.adds.series (subst AreOfSeries (sym c.new-found.ensures.items) (λ r m. absurd m))
