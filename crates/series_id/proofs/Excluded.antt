-- A text with a fault has no spelling, and one with a spelling has no other.
use Rattle.std.proofs.Common.{◌≡◌, ℕ, ◌+◌, ◌≤◌, List, [], ◌∷◌, ◌++◌, length, Bool, true, false, not, IsTrue, refl, sym, ap, ◌∙◌, subst, inl, inr, arith, append_assoc}
use Rattle.std.specs.Prelude.{IsUtf8, ◌⊎◌}
use Rattle.std.specs.List.{list_all}
use Rattle.std.proofs.lemmas.List.{append-nil}
use Rattle.std.proofs.lemmas.Bool.{and_parts}
use Rattle.m3_model.specs.Ascends.{Ascends}
use Rattle.m3_model.specs.Members.{IsIn}
use Rattle.m3_model.specs.Tags.{IsBelow, is_tag_name, escaped, tag_text, tags_text, IsSpelledBy, HasTags}
use Rattle.series_id.specs.declared.id_err.IdErr.{IdErr}
use Rattle.series_id.specs.declared.id_err.IdErr.TheVariants.{Empty, Long, Name, Order, Repeat, Escape, Brace, Memory}
use Rattle.series_id.specs.Names.{is_later_byte, begins_no_name, BeginsWithName}
use Rattle.m3_model.specs.Identifiers.{begins_tagged, IsIdentifier}
use Rattle.m3_model.specs.declared.limits.TheConstants.{MOST_ID_BYTES, MOST_TAGS}
use Rattle.series_id.specs.Faults.{IsNameFault, IsSpellingFault, IsValueFault, IsTagFault, BeginsWithTag, IsEndFault, listed, last_name, MayFollow, FaultsAfter}
use Rattle.series_id.specs.Positions.{Closes}
use Rattle.series_id.proofs.Orders.{below_trans, not_below_itself, not_both_below}
use Rattle.series_id.proofs.Unique.{same_name, name_bytes, same_value, tag_text-append, same_tag, tail_of, joined_tail, same_tags}

-- what ascends may follow, and the other way round

below_none : (name : List ℕ) → IsTrue (is_tag_name name) → IsBelow [] name
below_none [] h = cc
below_none (b ∷ bs) h = refl

follow_from : (before : List ℕ) (tags : List (List ℕ × List ℕ)) → ((tag : List ℕ × List ℕ) → IsIn tags tag → IsBelow before tag.0) → ((tag : List ℕ × List ℕ) → IsIn tags tag → IsTrue (is_tag_name tag.0)) → Ascends (λ a b. IsBelow a.0 b.0) tags → MayFollow before tags
follow_from before [] above named ascend = tt
follow_from before (t ∷ tags) above named ascend = (named t (inl refl), above t (inl refl), follow_from t.0 tags ascend.0 (λ x m. named x (inr m)) ascend.1)

pub follow_of : (id : List ℕ) (tags : List (List ℕ × List ℕ)) → IsSpelledBy id tags → MayFollow [] tags
follow_of id tags s = follow_from [] tags (λ x m. below_none x.0 (s.named x m)) s.named s.ascend

follow_named : (before : List ℕ) (tags : List (List ℕ × List ℕ)) → MayFollow before tags → (tag : List ℕ × List ℕ) → IsIn tags tag → IsTrue (is_tag_name tag.0)
follow_named before [] h x m = absurd m
follow_named before (t ∷ tags) h x m = elim m as (λ _. IsTrue (is_tag_name x.0)) [ inl e ↦ subst (λ y. IsTrue (is_tag_name y.0)) e h.0 | inr r ↦ follow_named t.0 tags h.2 x r ]

follow_above : (before : List ℕ) (tags : List (List ℕ × List ℕ)) → MayFollow before tags → (tag : List ℕ × List ℕ) → IsIn tags tag → IsBelow before tag.0
follow_above before [] h x m = absurd m
follow_above before (t ∷ tags) h x m = elim m as (λ _. IsBelow before x.0) [ inl e ↦ subst (λ y. IsBelow before y.0) e h.1 | inr r ↦ below_trans before t.0 x.0 h.1 (follow_above t.0 tags h.2 x r) ]

follow_ascends : (before : List ℕ) (tags : List (List ℕ × List ℕ)) → MayFollow before tags → Ascends (λ a b. IsBelow a.0 b.0) tags
follow_ascends before [] h = tt
follow_ascends before (t ∷ tags) h = (follow_above t.0 tags h.2, follow_ascends t.0 tags h.2)

pub closes_spelled : (text : List ℕ) (tags : List (List ℕ × List ℕ)) → Closes text tags → IsUtf8 text → length text ≤ MOST_ID_BYTES → IsSpelledBy text tags
closes_spelled text tags c utf8 short = record {
  spelled = c.spelled;
  is_text = utf8;
  not_long = short;
  some = c.some;
  few = c.few;
  named = follow_named [] tags c.follow;
  ascend = follow_ascends [] tags c.follow;
}

-- at most one spelling

tail_of_text : (id : List ℕ) (t : List ℕ × List ℕ) (ts : List (List ℕ × List ℕ)) → id ≡ tags_text (t ∷ ts) → id ≡ 123 ∷ (tag_text t ++ tail_of ts)
tail_of_text id t ts e = e ∙ ap (λ xs. 123 ∷ xs) (joined_tail t ts)

pub same_spelling : (id : List ℕ) (a b : List (List ℕ × List ℕ)) → IsSpelledBy id a → IsSpelledBy id b → a ≡ b
same_spelling id [] b s r = absurd (omega (arith, s.some))
same_spelling id (t ∷ a) [] s r = absurd (omega (arith, r.some))
same_spelling id (t ∷ a) (u ∷ b) s r =
    let both : 123 ∷ (tag_text t ++ tail_of a) ≡ 123 ∷ (tag_text u ++ tail_of b) = sym (tail_of_text id t a s.spelled) ∙ tail_of_text id u b r.spelled in
    let inside : tag_text t ++ tail_of a ≡ tag_text u ++ tail_of b = cc in
    same_tags [] t u a b (follow_of id (t ∷ a) s) (follow_of id (u ∷ b) r) inside

-- no fault in a text with a spelling

pub begins_name : (name later : List ℕ) → IsTrue (is_tag_name name) → IsTrue (begins_no_name (name ++ later)) → ⊥
begins_name [] later h f = cc
begins_name (b ∷ bs) later h f = by_test _ (and_parts _ (list_all is_later_byte bs) h).0 f
  where
    by_test : (t : Bool) → t ≡ true → not t ≡ true → ⊥
    by_test true e f = cc
    by_test false e f = cc

-- the name that a spelled tag begins with
named_so : (o : List ℕ × List ℕ) (rest y name later : List ℕ) → IsTrue (is_tag_name o.0) → rest ≡ tag_text o ++ y → BeginsWithName rest name later → (name ≡ o.0) × (later ≡ 61 ∷ 34 ∷ (escaped o.1 ++ 34 ∷ y))
named_so o rest y name later h e b = same_name name o.0 later (61 ∷ 34 ∷ (escaped o.1 ++ 34 ∷ y)) (name_bytes name b.named) (name_bytes o.0 h) b.ends refl (sym b.split ∙ e ∙ tag_text-append o y)

no_name_fault : (before : List ℕ) (at : ℕ) (o : List ℕ × List ℕ) (rest y : List ℕ) (e : IdErr) → IsTrue (is_tag_name o.0) → IsBelow before o.0 → rest ≡ tag_text o ++ y → IsNameFault before at rest e → ⊥
no_name_fault before at o rest y (Name position) h above split f = begins_name o.0 _ h (subst (λ x. IsTrue (begins_no_name x)) (split ∙ tag_text-append o y) f.1)
no_name_fault before at o rest y Order h above split f = not_both_below before o.0 above (subst (λ n. IsBelow n before) (named_so o rest y f.0 f.1 h split f.2).0 f.3)
no_name_fault before at o rest y Repeat h above split f = not_below_itself o.0 (subst (λ n. IsBelow n o.0) (named_so o rest y before f.0 h split f.1).0 above)
no_name_fault before at o rest y Empty h above split f = f
no_name_fault before at o rest y Long h above split f = f
no_name_fault before at o rest y (Escape position) h above split f = f
no_name_fault before at o rest y Brace h above split f = f
no_name_fault before at o rest y Memory h above split f = f

no_spelling_fault : (at : ℕ) (value y spelling : List ℕ) (e : IdErr) → spelling ≡ escaped value ++ 34 ∷ y → IsSpellingFault at spelling e → ⊥
no_spelling_fault at value y spelling Brace split f =
    let same = same_value f.0 value [] (34 ∷ y) refl refl (append-nil (escaped f.0) ∙ sym f.1 ∙ split) in
    let never : [] ≡ 34 ∷ y = same.1 in
    cc
no_spelling_fault at value y spelling (Escape position) split f =
    let same = same_value f.0 value (92 ∷ f.1) (34 ∷ y) f.3 refl (sym f.2 ∙ split) in
    let never : 92 ∷ f.1 ≡ 34 ∷ y = same.1 in
    let first : ◌≡◌ {A = ℕ} 92 34 = cc in
    absurd (omega (arith, first))
no_spelling_fault at value y spelling (Name position) split f = f
no_spelling_fault at value y spelling Order split f = f
no_spelling_fault at value y spelling Repeat split f = f
no_spelling_fault at value y spelling Empty split f = f
no_spelling_fault at value y spelling Long split f = f
no_spelling_fault at value y spelling Memory split f = f

no_value_fault : (at : ℕ) (value y later : List ℕ) (e : IdErr) → later ≡ 61 ∷ 34 ∷ (escaped value ++ 34 ∷ y) → IsValueFault at later e → ⊥
no_value_fault at value y later e split f = elim f as (λ _. ⊥) [
  | inl lacks ↦ lacks.1 (escaped value ++ 34 ∷ y) split
  | inr quoted ↦
      let both : 61 ∷ 34 ∷ quoted.0 ≡ 61 ∷ 34 ∷ (escaped value ++ 34 ∷ y) = sym quoted.1 ∙ split in
      let inside : quoted.0 ≡ escaped value ++ 34 ∷ y = cc in
      no_spelling_fault (at + 2) value y quoted.0 e inside quoted.2
]

pub no_tag_fault : (before : List ℕ) (at : ℕ) (o : List ℕ × List ℕ) (rest y : List ℕ) (e : IdErr) → IsTrue (is_tag_name o.0) → IsBelow before o.0 → rest ≡ tag_text o ++ y → IsTagFault before at rest e → ⊥
no_tag_fault before at o rest y e h above split f = elim f as (λ _. ⊥) [
  | inl name ↦ no_name_fault before at o rest y e h above split name
  | inr value ↦ no_value_fault (at + length value.0) o.1 y value.1 e (named_so o rest y value.0 value.1 h split value.2.begins).1 value.3
]

no_end_fault : (number : ℕ) (os : List (List ℕ × List ℕ)) (later : List ℕ) (e : IdErr) → number + length os ≤ MOST_TAGS → later ≡ tail_of os → IsEndFault number later e → ⊥
no_end_fault number [] later Long few split f = let never : 44 ∷ f.1.0 ≡ 125 ∷ [] = sym f.1.1 ∙ split in let first : ◌≡◌ {A = ℕ} 44 125 = cc in absurd (omega (arith, first))
no_end_fault number (u ∷ os) later Long few split f = absurd (omega (arith, f.0))
no_end_fault number [] later Brace few split f = f.1 split
no_end_fault number (u ∷ os) later Brace few split f = f.0 (tag_text u ++ tail_of os) split
no_end_fault number os later Empty few split f = f
no_end_fault number os later (Name position) few split f = f
no_end_fault number os later Order few split f = f
no_end_fault number os later Repeat few split f = f
no_end_fault number os later (Escape position) few split f = f
no_end_fault number os later Memory few split f = f

no_fault : (before : List ℕ) (at read : ℕ) (tags : List (List ℕ × List ℕ)) (rest : List ℕ) (o : List ℕ × List ℕ) (os : List (List ℕ × List ℕ)) (e : IdErr) → MayFollow before tags → MayFollow before (o ∷ os) → read + (1 + length os) ≤ MOST_TAGS
    → listed tags ++ rest ≡ tag_text o ++ tail_of os
    → IsTagFault (last_name before tags) at rest e ⊎ ((tag : List ℕ × List ℕ) × (later : List ℕ) × BeginsWithTag (last_name before tags) rest tag later × IsEndFault (read + length tags + 1) later e)
    → ⊥
no_fault before at read [] rest o os e ht ho few split f = elim f as (λ _. ⊥) [
  | inl tag ↦ no_tag_fault before at o rest (tail_of os) e ho.0 ho.1 split tag
  | inr end ↦
      let same = same_tag end.0 o end.1 (tail_of os) end.2.named ho.0 (sym end.2.split ∙ split) in
      no_end_fault (read + 0 + 1) os end.1 e (omega arith) same.1 end.3
]
no_fault before at read (t ∷ tags) rest o [] e ht ho few split f =
    let same : (t ≡ o) × (44 ∷ (listed tags ++ rest) ≡ 125 ∷ []) = same_tag t o _ _ ht.0 ho.0 (sym (append_assoc (tag_text t) (44 ∷ listed tags) rest) ∙ split) in
    let never : 44 ∷ (listed tags ++ rest) ≡ 125 ∷ [] = same.1 in
    let first : ◌≡◌ {A = ℕ} 44 125 = cc in
    absurd (omega (arith, first))
no_fault before at read (t ∷ tags) rest o (u ∷ os) e ht ho few split f =
    let same : (t ≡ o) × (44 ∷ (listed tags ++ rest) ≡ 44 ∷ (tag_text u ++ tail_of os)) = same_tag t o _ _ ht.0 ho.0 (sym (append_assoc (tag_text t) (44 ∷ listed tags) rest) ∙ split) in
    let next : 44 ∷ (listed tags ++ rest) ≡ 44 ∷ (tag_text u ++ tail_of os) = same.1 in
    let more : listed tags ++ rest ≡ tag_text u ++ tail_of os = cc in
    let follow : MayFollow t.0 (u ∷ os) = subst (λ x. MayFollow x.0 (u ∷ os)) (sym same.0) ho.2 in
    let count : read + length (t ∷ tags) + 1 ≡ read + 1 + length tags + 1 = omega arith in
    no_fault t.0 at (read + 1) tags rest u os e ht.2 follow (omega arith) more
    (elim f as (λ _. IsTagFault (last_name t.0 tags) at rest e ⊎ ((tag : List ℕ × List ℕ) × (later : List ℕ) × BeginsWithTag (last_name t.0 tags) rest tag later × IsEndFault (read + 1 + length tags + 1) later e)) [
      | inl tag ↦ inl tag
      | inr end ↦ inr (end.0, end.1, end.2, subst (λ n. IsEndFault n end.1 e) count end.3)
    ])

spelled_excludes : (text rest : List ℕ) (tags others : List (List ℕ × List ℕ)) (e : IdErr) → FaultsAfter text tags rest e → IsSpelledBy text others → ⊥
spelled_excludes text rest tags [] e f s = absurd (omega (arith, s.some))
spelled_excludes text rest tags (o ∷ os) e f s =
    let both : 123 ∷ (listed tags ++ rest) ≡ 123 ∷ (tag_text o ++ tail_of os) = sym f.goes_on.begins ∙ tail_of_text text o os s.spelled in
    let inside : listed tags ++ rest ≡ tag_text o ++ tail_of os = cc in
    let fault : IsTagFault (last_name [] tags) (1 + length (listed tags)) rest e ⊎ ((tag : List ℕ × List ℕ) × (later : List ℕ) × BeginsWithTag (last_name [] tags) rest tag later × IsEndFault (0 + length tags + 1) later e)
    = subst (λ n. IsTagFault (last_name [] tags) (1 + length (listed tags)) rest e ⊎ ((tag : List ℕ × List ℕ) × (later : List ℕ) × BeginsWithTag (last_name [] tags) rest tag later × IsEndFault (n + 1) later e)) (plus_none (length tags)) f.faults in
    no_fault [] (1 + length (listed tags)) 0 tags rest o os e f.goes_on.follow (follow_of text (o ∷ os) s) (omega (arith, s.few)) inside fault
  where
    plus_none : (n : ℕ) → n ≡ 0 + n
    plus_none n = omega arith

pub fault_excludes : (text rest : List ℕ) (tags : List (List ℕ × List ℕ)) (e : IdErr) → FaultsAfter text tags rest e → ¬ IsIdentifier text
fault_excludes text rest tags e f i = elim i as (λ _. ⊥) [
  | inl plain ↦ let never : true ≡ false = sym (ap begins_tagged f.goes_on.begins) ∙ plain.untagged in cc
  | inr spelled ↦ spelled_excludes text rest tags spelled.0 e f spelled.1
]

-- an identifier's tags are one list
pub same_tags_of : (id : List ℕ) (a b : List (List ℕ × List ℕ)) → HasTags id a → HasTags id b → a ≡ b
same_tags_of id a b h g = elim h as (λ _. a ≡ b) [
  | inl s ↦ elim g as (λ _. a ≡ b) [ inl r ↦ same_spelling id a b s r | inr none ↦ absurd (none.1 a s) ]
  | inr none ↦ elim g as (λ _. a ≡ b) [ inl r ↦ absurd (none.1 b r) | inr other ↦ none.0 ∙ sym other.0 ]
]

-- what is no identifier has no tags
pub none_has : (id : List ℕ) (tags : List (List ℕ × List ℕ)) → ¬ IsIdentifier id → HasTags id tags → tags ≡ []
none_has id tags n h = elim h as (λ _. tags ≡ []) [ inl s ↦ absurd (n (inr (tags, s))) | inr none ↦ none.0 ]
