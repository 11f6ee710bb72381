use Rattle.std.proofs.Common.{◌≡◌, sym, subst, rules}
use Rattle.std.specs.Ordering.{nat_cmp}
use Rattle.std.specs.Cmp.Lexicographic.{slice_cmp}
use Rattle.m3_model.specs.Ascends.{Ascends}
use Rattle.m3_model.specs.Tags.{IsBelow}
use Rattle.held_points.proofs.ListLemmas.{sorted_ascends}
use Rattle.held_points.proofs.candidates.ascending.Goals as goal

pub returns-clause-ascend : goal.returns-clause-ascend
returns-clause-ascend c =
    let all : c.from_vec.result ≡ c.args.ids.keys = search rules in
    subst (Ascends IsBelow) (sym all) (sorted_ascends (slice_cmp nat_cmp) c.args.ids.keys c.into_iter.ensures.into_iter_gives.4)
