use Rattle.std.proofs.Common.{sym, subst}
use Rattle.m3_model.specs.Members.{IsIn}
use Rattle.held_points.proofs.tag_query_proofs.Members.{IsIn-get_or}
use Rattle.held_points.proofs.TagLemmas.{has_tags}
use Rattle.volume_points.proofs.matching.is_matched.Goals as goal

pub returns-then-not-meets : goal.returns-then-not-meets
returns-then-not-meets c =
    let m = c.matcher-item.result in
    let item : IsIn c.args.wanted.now m = subst (IsIn c.args.wanted.now) (sym c.matcher-item.is) (IsIn-get_or c.args.wanted.now c.loop-matcher.matcher-index m c.loop-matcher-test.true) in (
      (λ wrong. absurd (cc)),
      (λ all. absurd (has_tags c.args.id.now (λ tags has. let met = (c.meets.ensures tags has).1 (all tags has m item) in absurd (cc)))),
    )
