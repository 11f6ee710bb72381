use Rattle.std.proofs.Common.{◌∙◌, ◌<◌, ◌↔◌, ap, sym, subst, IsTrue, ℕ, List}
use Rattle.std.proofs.lemmas.Result.{IfOk-weaker}
use Rattle.m3_model.specs.Ascends.{Ascends}
use Rattle.m3_model.specs.Members.{IsIn}
use Rattle.tag_links.specs.Links.{is_in, link_of, is_linked_in}
use Rattle.tag_links.proofs.PostingLemmas.{ordinals_ascend, found_ordinal, ordinal_found}
use Rattle.tag_links.proofs.linked.Goals as goal

pub returns-in-Some-clause-ascends : goal.returns-in-Some-clause-ascends
returns-in-Some-clause-ascends c =
    IfOk-weaker c.listed.result _ _ (λ v items. subst (Ascends ◌<◌) (sym items) (ordinals_ascend c.in-Some.ordinals.now.keys c.listed.ensures.ordered)) c.listed.ensures.items

pub returns-in-Some-clause-exact : goal.returns-in-Some-clause-exact
returns-in-Some-clause-exact c =
    IfOk-weaker c.listed.result _ _
    (λ v items o. subst (λ (os : List ℕ). IsIn os o ↔ IsTrue (is_linked_in c.args.links.now (link_of o (c.args.name.now, c.args.value.now)))) (sym items)
    ((λ h. sym (ap (λ x. is_in x o) c.in-Some.ensures) ∙ ordinal_found c.in-Some.ordinals.now.keys o h), (λ h. found_ordinal c.in-Some.ordinals.now.keys o (ap (λ x. is_in x o) c.in-Some.ensures ∙ h)))) c.listed.ensures.items
