use Rattle.std.proofs.Common.{◌↔◌, ℕ, List, subst, IsTrue}
use Rattle.m3_model.specs.Members.{IsIn}
use Rattle.m3_model.specs.Tags.{HasTags}
use Rattle.cluster_core.specs.Answers.{HoldsOf}
use Rattle.event_facts.proofs.TestLemmas.{beq_same, matcher_decided}
use Rattle.event_facts.proofs.points.holds.Goals as goal

pub returns : goal.returns
unfolding HoldsOf
returns c =
    let m = c.args.matcher.now in
    let found = c.has_tag.result in
    let by_id = subst (λ (id : List ℕ). (tags : List (List ℕ × List ℕ)) → HasTags id tags → (IsTrue found ↔ IsIn tags (c.as_str-2.result.now, c.as_str-3.result.now))) c.as_str.ensures c.has_tag.ensures in
    let by_name = subst (λ (name : List ℕ). (tags : List (List ℕ × List ℕ)) → HasTags c.args.id.now tags → (IsTrue found ↔ IsIn tags (name, c.as_str-3.result.now))) c.as_str-2.ensures by_id in
    let told = subst (λ (value : List ℕ). (tags : List (List ℕ × List ℕ)) → HasTags c.args.id.now tags → (IsTrue found ↔ IsIn tags (m.name, value))) c.as_str-3.ensures by_name in
    let same = beq_same found m.equal in
    let is = matcher_decided c.args.id.now m found told in
    (λ t. is.0 (same.0 t), λ h. same.1 (is.1 h))
