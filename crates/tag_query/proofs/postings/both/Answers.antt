use Rattle.std.proofs.Common.{sym, true, ◌<◌, List, ℕ, subst, ◌∙◌, ◌↔◌}
use Rattle.m3_model.specs.Ascends.{Ascends}
use Rattle.m3_model.specs.Members.{IsIn}
use Rattle.m3_model.proofs.Ascending.{Ascends-filter}
use Rattle.tag_query.specs.Lists.{is_in, is_wanted}
use Rattle.tag_query.proofs.Sifting.{in_both}
use Rattle.tag_query.proofs.postings.both.Goals as goal

pub returns-clause-ascends : goal.returns-clause-ascends
returns-clause-ascends c =
    subst (Ascends ◌<◌) (sym (c.from_vec.ensures ∙ c.in_ok-kept.ensures)) (Ascends-filter ◌<◌ (λ x. is_wanted true (is_in c.args.b.now x)) c.args.a.now c.requires.a_ascends)

pub returns-clause-exact : goal.returns-clause-exact
returns-clause-exact c x =
    subst (λ (xs : List ℕ). IsIn xs x ↔ (IsIn c.args.a.now x × IsIn c.args.b.now x)) (sym (c.from_vec.ensures ∙ c.in_ok-kept.ensures)) (in_both c.args.a.now c.args.b.now x)
