-- Whether a tag stands among tags, by one tag more.
use Rattle.std.proofs.Common.{◌≡◌, ℕ, List, [], ◌∷◌, ◌++◌, Bool, true, false, ◌||◌, IsTrue, ◌↔◌, refl, sym, ap, ◌∙◌, subst, inl, inr}
use Rattle.std.proofs.lemmas.List.{append-nil}
use Rattle.std.proofs.lemmas.Bool.{or_left, or_right}
use Rattle.m3_model.specs.Members.{IsIn}
use Rattle.m3_model.specs.Tags.{escaped}
use Rattle.m3_model.proofs.MemberLemmas.{IsIn-append_left, IsIn-append_cases, IsIn-push}
use Rattle.series_id.proofs.Unique.{same_value}

pub same_escaped : (v w : List ℕ) → escaped v ≡ escaped w → v ≡ w
same_escaped v w e = (same_value v w [] [] refl refl (append-nil (escaped v) ∙ e ∙ sym (append-nil (escaped w)))).0

pub found_more : (found here : Bool) (tags : List (List ℕ × List ℕ)) (tag : List ℕ × List ℕ) (name value n s : List ℕ) → (IsTrue found ↔ IsIn tags (name, value)) → (IsTrue here ↔ ((n ≡ name) × (s ≡ escaped value))) → n ≡ tag.0 → s ≡ escaped tag.1
    → IsTrue (found || here) ↔ IsIn (tags ++ tag ∷ []) (name, value)
found_more found here tags tag name value n s was is en es = (forth found here was is, back)
  where
    same : (n ≡ name) × (s ≡ escaped value) → tag ≡ (name, value)
    same h = let f : tag.0 ≡ name = sym en ∙ h.0 in let g : tag.1 ≡ value = same_escaped tag.1 value (sym es ∙ h.1) in λ i. (f i, g i)

    forth : (a b : Bool) → (IsTrue a ↔ IsIn tags (name, value)) → (IsTrue b ↔ ((n ≡ name) × (s ≡ escaped value))) → IsTrue (a || b) → IsIn (tags ++ tag ∷ []) (name, value)
    forth true b w i h = IsIn-append_left tags (tag ∷ []) (name, value) (w.0 refl)
    forth false b w i h = let e : tag ≡ (name, value) = same (i.0 h) in let P : List ℕ × List ℕ → Type 0 = λ x. IsIn (tags ++ tag ∷ []) x in subst P e (IsIn-push tags tag)

    back : IsIn (tags ++ tag ∷ []) (name, value) → IsTrue (found || here)
    back m = elim (IsIn-append_cases tags (tag ∷ []) (name, value) m) as (λ _. IsTrue (found || here)) [
      | inl a ↦ or_left found here (was.1 a)
      | inr b ↦ elim b as (λ _. IsTrue (found || here)) [
        | inl e ↦ or_right found here (is.1 (en ∙ ap (λ x. x.0) e, es ∙ ap (λ x. escaped x.1) e))
        | inr never ↦ absurd never
      ]
    ]
