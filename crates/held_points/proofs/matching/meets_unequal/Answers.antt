use Rattle.std.proofs.Common.{sym, subst}
use Rattle.m3_model.specs.Members.{IsIn}
use Rattle.tag_query.proofs.Members.{IsIn-get_or}
use Rattle.held_points.proofs.TagLemmas.{has_tags, holds_unequal}
use Rattle.held_points.proofs.matching.meets_unequal.Goals as goal

pub returns-then-rules_out : goal.returns-then-rules_out
returns-then-rules_out c =
    let item : IsIn c.args.wanted.now c.matcher-item.result = subst (IsIn c.args.wanted.now) (sym c.matcher-item.is) (IsIn-get_or c.args.wanted.now c.loop-matcher.matcher-index c.matcher-item.result c.loop-matcher-test.true) in (
      (λ wrong. absurd (cc)),
      (λ all. absurd (has_tags c.args.id.now (λ tags has.
          let out = (c.rules_out.ensures tags has).0 c.if-rules_out.true in
          holds_unequal tags c.matcher-item.result out.0 (all tags has c.matcher-item.result item out.0) out.1))),
    )
