use Rattle.std.proofs.Common.{List, ℕ, IsTrue, ◌↔◌, subst}
use Rattle.m3_model.specs.Members.{IsIn}
use Rattle.m3_model.specs.Tags.{HasTags}
use Rattle.series_id.proofs.Excluded.{same_tags_of}
use Rattle.series_id.proofs.series_id.has_tag.Goals as goal

pub returns-in-Ok : goal.returns-in-Ok
returns-in-Ok c = λ tags h.
    let found = c.in-Ok.ensures.ok in
    let P : List (List ℕ × List ℕ) → Type 0 = λ ts. IsTrue c.in-Ok.found ↔ IsIn ts (c.args.name.now, c.args.value.now) in
    subst P (same_tags_of c.args.id.now found.0 tags (subst (λ id. HasTags id found.0) c.as_bytes.ensures.value found.1) h) (subst (λ v. IsTrue c.in-Ok.found ↔ IsIn found.0 (c.args.name.now, v)) c.as_bytes-3.ensures.value (subst (λ n. IsTrue c.in-Ok.found ↔ IsIn found.0 (n, c.as_bytes-3.result.now)) c.as_bytes-2.ensures.value found.2))
