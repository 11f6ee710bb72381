-- A text has at most one first fault.
use Rattle.std.proofs.Common.{◌≡◌, ◌≢◌, ℕ, ◌+◌, ◌<◌, List, [], ◌∷◌, ◌++◌, length, IsTrue, refl, sym, ap, ◌∙◌, subst, inl, inr, arith, append_assoc}
use Rattle.std.specs.Prelude.{◌⊎◌, nat_le}
use Rattle.std.proofs.lemmas.Bool.{leb-true, and_parts}
use Rattle.std.proofs.lemmas.List.{append-nil, length-append}
use Rattle.m3_model.specs.Tags.{IsBelow, is_tag_name, escaped, tag_text}
use Rattle.m3_model.specs.Names.{has_identifier_length}
use Rattle.series_id.specs.declared.id_err.IdErr.{IdErr}
use Rattle.series_id.specs.declared.id_err.IdErr.TheVariants.{Empty, Long, Name, Order, Repeat, Escape, Brace, Memory}
use Rattle.series_id.specs.Names.{begins_no_name, BeginsWithName, BeginsAbove}
use Rattle.m3_model.specs.Identifiers.{IsIdentifier}
use Rattle.m3_model.specs.declared.limits.TheConstants.{MOST_ID_BYTES, MOST_TAGS}
use Rattle.series_id.specs.Faults.{escapes_nothing, IsNameFault, IsSpellingFault, IsValueFault, IsTagFault, BeginsWithTag, IsEndFault, listed, last_name, MayFollow, FaultsAfter, IsFirstFault}
use Rattle.series_id.proofs.Orders.{not_below_itself, not_both_below}
use Rattle.series_id.proofs.Unique.{same_name, name_bytes, same_value, same_tag}
use Rattle.series_id.proofs.Excluded.{begins_name, no_tag_fault, fault_excludes}

-- two names at the head of a text
two_names : (text n m x y : List ℕ) → BeginsWithName text n x → BeginsWithName text m y → (n ≡ m) × (x ≡ y)
two_names text n m x y b d = same_name n m x y (name_bytes n b.named) (name_bytes m d.named) b.ends d.ends (sym b.split ∙ d.split)

no_name_here : (text name later : List ℕ) → IsTrue (begins_no_name text) → BeginsWithName text name later → ⊥
no_name_here text name later h b = begins_name name later b.named (subst (λ x. IsTrue (begins_no_name x)) b.split h)

-- the kinds of a fault of a name
abbrev NameKinds : List ℕ → ℕ → List ℕ → IdErr → Type 0
NameKinds before at text e = ((e ≡ Name at) × IsTrue (begins_no_name text))
    ⊎ (((e ≡ Order) × ((name : List ℕ) × (later : List ℕ) × BeginsWithName text name later × IsBelow name before))
    ⊎ ((e ≡ Repeat) × ((later : List ℕ) × BeginsWithName text before later)))

name_kinds : (before : List ℕ) (at : ℕ) (text : List ℕ) (e : IdErr) → IsNameFault before at text e → NameKinds before at text e
name_kinds before at text (Name position) f = inl (ap Name f.0, f.1)
name_kinds before at text Order f = inr (inl (refl, f))
name_kinds before at text Repeat f = inr (inr (refl, f))
name_kinds before at text Empty f = absurd f
name_kinds before at text Long f = absurd f
name_kinds before at text (Escape position) f = absurd f
name_kinds before at text Brace f = absurd f
name_kinds before at text Memory f = absurd f

same_name_fault : (before : List ℕ) (at : ℕ) (text : List ℕ) (e f : IdErr) → NameKinds before at text e → NameKinds before at text f → e ≡ f
same_name_fault before at text e f (inl a) (inl b) = a.0 ∙ sym b.0
same_name_fault before at text e f (inl a) (inr (inl b)) = absurd (no_name_here text b.1.0 b.1.1 a.1 b.1.2)
same_name_fault before at text e f (inl a) (inr (inr b)) = absurd (no_name_here text before b.1.0 a.1 b.1.1)
same_name_fault before at text e f (inr (inl a)) (inl b) = absurd (no_name_here text a.1.0 a.1.1 b.1 a.1.2)
same_name_fault before at text e f (inr (inl a)) (inr (inl b)) = a.0 ∙ sym b.0
same_name_fault before at text e f (inr (inl a)) (inr (inr b)) = absurd (not_below_itself before (subst (λ n. IsBelow n before) (two_names text a.1.0 before a.1.1 b.1.0 a.1.2 b.1.1).0 a.1.3))
same_name_fault before at text e f (inr (inr a)) (inl b) = absurd (no_name_here text before a.1.0 b.1 a.1.1)
same_name_fault before at text e f (inr (inr a)) (inr (inl b)) = absurd (not_below_itself before (subst (λ n. IsBelow n before) (two_names text b.1.0 before b.1.1 a.1.0 b.1.2 a.1.1).0 b.1.3))
same_name_fault before at text e f (inr (inr a)) (inr (inr b)) = a.0 ∙ sym b.0

no_above : (before : List ℕ) (at : ℕ) (text name later : List ℕ) (e : IdErr) → NameKinds before at text e → BeginsAbove before text name later → ⊥
no_above before at text name later e (inl a) b = no_name_here text name later a.1 b.begins
no_above before at text name later e (inr (inl a)) b = not_both_below before name b.above (subst (λ n. IsBelow n before) (two_names text a.1.0 name a.1.1 later a.1.2 b.begins).0 a.1.3)
no_above before at text name later e (inr (inr a)) b = not_below_itself before (subst (λ n. IsBelow before n) (two_names text name before later a.1.0 b.begins a.1.1).0 b.above)

-- the kinds of a fault of a spelling
abbrev SpellingKinds : ℕ → List ℕ → IdErr → Type 0
SpellingKinds at text e = ((e ≡ Brace) × ((value : List ℕ) × (text ≡ escaped value)))
    ⊎ ((value : List ℕ) × (later : List ℕ) × (text ≡ escaped value ++ 92 ∷ later) × IsTrue (escapes_nothing later) × (e ≡ Escape (at + length (escaped value))))

spelling_kinds : (at : ℕ) (text : List ℕ) (e : IdErr) → IsSpellingFault at text e → SpellingKinds at text e
spelling_kinds at text Brace f = inl (refl, f)
spelling_kinds at text (Escape position) f = inr (f.0, f.1, f.2, f.3, ap Escape f.4)
spelling_kinds at text (Name position) f = absurd f
spelling_kinds at text Order f = absurd f
spelling_kinds at text Repeat f = absurd f
spelling_kinds at text Empty f = absurd f
spelling_kinds at text Long f = absurd f
spelling_kinds at text Memory f = absurd f

open_or_escape : (v w later : List ℕ) → IsTrue (escapes_nothing later) → escaped v ≡ escaped w ++ 92 ∷ later → ⊥
open_or_escape v w later h e =
    let same = same_value v w [] (92 ∷ later) refl h (append-nil (escaped v) ∙ e) in
    let never : [] ≡ 92 ∷ later = same.1 in
    cc

same_spelling_fault : (at : ℕ) (text : List ℕ) (e f : IdErr) → SpellingKinds at text e → SpellingKinds at text f → e ≡ f
same_spelling_fault at text e f (inl a) (inl b) = a.0 ∙ sym b.0
same_spelling_fault at text e f (inl a) (inr b) = absurd (open_or_escape a.1.0 b.0 b.1 b.3 (sym a.1.1 ∙ b.2))
same_spelling_fault at text e f (inr a) (inl b) = absurd (open_or_escape b.1.0 a.0 a.1 a.3 (sym b.1.1 ∙ a.2))
same_spelling_fault at text e f (inr a) (inr b) =
    let same = same_value a.0 b.0 (92 ∷ a.1) (92 ∷ b.1) a.3 b.3 (sym a.2 ∙ b.2) in
    a.4 ∙ ap (λ v. Escape (at + length (escaped v))) same.0 ∙ sym b.4

same_value_fault : (at : ℕ) (text : List ℕ) (e f : IdErr) → IsValueFault at text e → IsValueFault at text f → e ≡ f
same_value_fault at text e f (inl a) (inl b) = a.0 ∙ sym b.0
same_value_fault at text e f (inl a) (inr b) = absurd (a.1 b.0 b.1)
same_value_fault at text e f (inr a) (inl b) = absurd (b.1 a.0 a.1)
same_value_fault at text e f (inr a) (inr b) =
    let both : 61 ∷ 34 ∷ a.0 ≡ 61 ∷ 34 ∷ b.0 = sym a.1 ∙ b.1 in
    let same : a.0 ≡ b.0 = cc in
    same_spelling_fault (at + 2) b.0 e f (spelling_kinds (at + 2) b.0 e (subst (λ s. IsSpellingFault (at + 2) s e) same a.2)) (spelling_kinds (at + 2) b.0 f b.2)

same_tag_fault : (before : List ℕ) (at : ℕ) (text : List ℕ) (e f : IdErr) → IsTagFault before at text e → IsTagFault before at text f → e ≡ f
same_tag_fault before at text e f (inl a) (inl b) = same_name_fault before at text e f (name_kinds before at text e a) (name_kinds before at text f b)
same_tag_fault before at text e f (inl a) (inr b) = absurd (no_above before at text b.0 b.1 e (name_kinds before at text e a) b.2)
same_tag_fault before at text e f (inr a) (inl b) = absurd (no_above before at text a.0 a.1 f (name_kinds before at text f b) a.2)
same_tag_fault before at text e f (inr a) (inr b) =
    let same = two_names text a.0 b.0 a.1 b.1 a.2.begins b.2.begins in
    same_value_fault (at + length b.0) b.1 e f (subst (λ n. IsValueFault (at + length n) b.1 e) same.0 (subst (λ l. IsValueFault (at + length a.0) l e) same.1 a.3)) b.3

-- the kinds of a fault after a tag
abbrev EndKinds : ℕ → List ℕ → IdErr → Type 0
EndKinds number text e = ((e ≡ Long) × (number ≡ MOST_TAGS) × ((later : List ℕ) × (text ≡ 44 ∷ later))) ⊎ ((e ≡ Brace) × ((later : List ℕ) → text ≢ 44 ∷ later))

end_kinds : (number : ℕ) (text : List ℕ) (e : IdErr) → IsEndFault number text e → EndKinds number text e
end_kinds number text Long f = inl (refl, f.0, f.1)
end_kinds number text Brace f = inr (refl, f.0)
end_kinds number text Empty f = absurd f
end_kinds number text (Name position) f = absurd f
end_kinds number text Order f = absurd f
end_kinds number text Repeat f = absurd f
end_kinds number text (Escape position) f = absurd f
end_kinds number text Memory f = absurd f

same_end_fault : (number : ℕ) (text : List ℕ) (e f : IdErr) → EndKinds number text e → EndKinds number text f → e ≡ f
same_end_fault number text e f (inl a) (inl b) = a.0 ∙ sym b.0
same_end_fault number text e f (inl a) (inr b) = absurd (b.1 a.2.0 a.2.1)
same_end_fault number text e f (inr a) (inl b) = absurd (a.1 b.2.0 b.2.1)
same_end_fault number text e f (inr a) (inr b) = a.0 ∙ sym b.0

-- a fault at a position, in the tag or after it
abbrev PositionFault : List ℕ → ℕ → ℕ → List ℕ → IdErr → Type 0
PositionFault before at number text e = IsTagFault before at text e ⊎ ((tag : List ℕ × List ℕ) × (later : List ℕ) × BeginsWithTag before text tag later × IsEndFault number later e)

same_position_fault : (before : List ℕ) (at number : ℕ) (text : List ℕ) (e f : IdErr) → PositionFault before at number text e → PositionFault before at number text f → e ≡ f
same_position_fault before at number text e f (inl a) (inl b) = same_tag_fault before at text e f a b
same_position_fault before at number text e f (inl a) (inr b) = absurd (no_tag_fault before at b.0 text b.1 e b.2.named b.2.above b.2.split a)
same_position_fault before at number text e f (inr a) (inl b) = absurd (no_tag_fault before at a.0 text a.1 f a.2.named a.2.above a.2.split b)
same_position_fault before at number text e f (inr a) (inr b) =
    let same = same_tag a.0 b.0 a.1 b.1 a.2.named b.2.named (sym a.2.split ∙ b.2.split) in
    same_end_fault number b.1 e f (end_kinds number b.1 e (subst (λ l. IsEndFault number l e) same.1 a.3)) (end_kinds number b.1 f b.3)

-- no fault where a tag and a `,` stand, of a number below 32
no_position_fault : (before : List ℕ) (at number : ℕ) (text : List ℕ) (tag : List ℕ × List ℕ) (more : List ℕ) (e : IdErr) → IsTrue (is_tag_name tag.0) → IsBelow before tag.0 → number < MOST_TAGS → text ≡ tag_text tag ++ 44 ∷ more → PositionFault before at number text e → ⊥
no_position_fault before at number text tag more e named above few split (inl a) = no_tag_fault before at tag text (44 ∷ more) e named above split a
no_position_fault before at number text tag more e named above few split (inr a) =
    let same = same_tag a.0 tag a.1 (44 ∷ more) a.2.named named (sym a.2.split ∙ split) in
    elim (end_kinds number a.1 e a.3) as (λ _. ⊥) [ inl k ↦ absurd (omega (arith, k.1)) | inr k ↦ k.1 more same.1 ]

shifted_at : (at : ℕ) (tag : List ℕ × List ℕ) (tags : List (List ℕ × List ℕ)) → at + length (listed (tag ∷ tags)) ≡ at + (length (tag_text tag) + 1) + length (listed tags)
shifted_at at tag tags = omega (arith, length-append (tag_text tag) (44 ∷ listed tags))

shifted_number : (read : ℕ) (tag : List ℕ × List ℕ) (tags : List (List ℕ × List ℕ)) → read + length (tag ∷ tags) + 1 ≡ read + 1 + length tags + 1
shifted_number read tag tags = omega arith

one_fault : (before : List ℕ) (at read : ℕ) (ts us : List (List ℕ × List ℕ)) (x y : List ℕ) (e f : IdErr) → MayFollow before ts → MayFollow before us → read + length ts < MOST_TAGS → read + length us < MOST_TAGS
    → listed ts ++ x ≡ listed us ++ y
    → PositionFault (last_name before ts) (at + length (listed ts)) (read + length ts + 1) x e → PositionFault (last_name before us) (at + length (listed us)) (read + length us + 1) y f → e ≡ f
one_fault before at read [] [] x y e f ht hu lt lu split a b = same_position_fault before (at + 0) (read + 0 + 1) y e f (subst (λ z. PositionFault before (at + 0) (read + 0 + 1) z e) split a) b
one_fault before at read [] (u ∷ us) x y e f ht hu lt lu split a b =
    absurd (no_position_fault before (at + 0) (read + 0 + 1) x u (listed us ++ y) e hu.0 hu.1 (omega arith) (split ∙ append_assoc (tag_text u) (44 ∷ listed us) y) a)
one_fault before at read (t ∷ ts) [] x y e f ht hu lt lu split a b =
    absurd (no_position_fault before (at + 0) (read + 0 + 1) y t (listed ts ++ x) f ht.0 ht.1 (omega arith) (sym split ∙ append_assoc (tag_text t) (44 ∷ listed ts) x) b)
one_fault before at read (t ∷ ts) (u ∷ us) x y e f ht hu lt lu split a b =
    let same : (t ≡ u) × (44 ∷ (listed ts ++ x) ≡ 44 ∷ (listed us ++ y)) = same_tag t u _ _ ht.0 hu.0 (sym (append_assoc (tag_text t) (44 ∷ listed ts) x) ∙ split ∙ append_assoc (tag_text u) (44 ∷ listed us) y) in
    let next : 44 ∷ (listed ts ++ x) ≡ 44 ∷ (listed us ++ y) = same.1 in
    let more : listed ts ++ x ≡ listed us ++ y = cc in
    let here : PositionFault (last_name t.0 ts) (at + (length (tag_text t) + 1) + length (listed ts)) (read + 1 + length ts + 1) x e
    = subst (λ n. PositionFault (last_name t.0 ts) n (read + 1 + length ts + 1) x e) (shifted_at at t ts) (subst (λ n. PositionFault (last_name t.0 ts) (at + length (listed (t ∷ ts))) n x e) (shifted_number read t ts) a) in
    let there : PositionFault (last_name u.0 us) (at + (length (tag_text u) + 1) + length (listed us)) (read + 1 + length us + 1) y f
    = subst (λ n. PositionFault (last_name u.0 us) n (read + 1 + length us + 1) y f) (shifted_at at u us) (subst (λ n. PositionFault (last_name u.0 us) (at + length (listed (u ∷ us))) n y f) (shifted_number read u us) b) in
    let follow : MayFollow t.0 us = subst (λ s. MayFollow s.0 us) (sym same.0) hu.2 in
    let moved : PositionFault (last_name t.0 us) (at + (length (tag_text t) + 1) + length (listed us)) (read + 1 + length us + 1) y f
    = subst (λ s. PositionFault (last_name s.0 us) (at + (length (tag_text s) + 1) + length (listed us)) (read + 1 + length us + 1) y f) (sym same.0) there in
    one_fault t.0 (at + (length (tag_text t) + 1)) (read + 1) ts us x y e f ht.2 follow (omega arith) (omega arith) more here moved

plus_none : (n : ℕ) → n ≡ 0 + n
plus_none n = omega arith

one_after : (text : List ℕ) (ts us : List (List ℕ × List ℕ)) (x y : List ℕ) (e f : IdErr) → FaultsAfter text ts x e → FaultsAfter text us y f → e ≡ f
one_after text ts us x y e f a b =
    let both : 123 ∷ (listed ts ++ x) ≡ 123 ∷ (listed us ++ y) = sym a.goes_on.begins ∙ b.goes_on.begins in
    let inside : listed ts ++ x ≡ listed us ++ y = cc in
    one_fault [] 1 0 ts us x y e f a.goes_on.follow b.goes_on.follow (omega (arith, a.goes_on.few)) (omega (arith, b.goes_on.few)) inside
    (subst (λ n. PositionFault (last_name [] ts) (1 + length (listed ts)) (n + 1) x e) (plus_none (length ts)) a.faults)
    (subst (λ n. PositionFault (last_name [] us) (1 + length (listed us)) (n + 1) y f) (plus_none (length us)) b.faults)

not_empty : (text : List ℕ) (ts : List (List ℕ × List ℕ)) (x : List ℕ) (e : IdErr) → text ≡ [] → FaultsAfter text ts x e → ⊥
not_empty text ts x e h a = let never : [] ≡ 123 ∷ (listed ts ++ x) = sym h ∙ a.goes_on.begins in cc

pub same_fault : (text : List ℕ) (e f : IdErr) → IsFirstFault text e → IsFirstFault text f → e ≡ f
same_fault text e f (inl a) (inl b) = a.1 ∙ sym b.1
same_fault text e f (inl a) (inr (inl b)) = absurd (omega (arith, b.0, ap length a.0))
same_fault text e f (inl a) (inr (inr b)) = absurd (not_empty text b.1.0 b.1.1 f a.0 b.1.2)
same_fault text e f (inr (inl a)) (inl b) = absurd (omega (arith, a.0, ap length b.0))
same_fault text e f (inr (inl a)) (inr (inl b)) = a.1 ∙ sym b.1
same_fault text e f (inr (inl a)) (inr (inr b)) = absurd (omega (arith, a.0, b.0))
same_fault text e f (inr (inr a)) (inl b) = absurd (not_empty text a.1.0 a.1.1 e b.0 a.1.2)
same_fault text e f (inr (inr a)) (inr (inl b)) = absurd (omega (arith, b.0, a.0))
same_fault text e f (inr (inr a)) (inr (inr b)) = one_after text a.1.0 b.1.0 a.1.1 b.1.1 e f a.1.2 b.1.2

empty_excluded : (text : List ℕ) → text ≡ [] → ¬ IsIdentifier text
empty_excluded text h i = elim i as (λ _. ⊥) [
  | inl plain ↦ let never : IsTrue (has_identifier_length []) = subst (λ t. IsTrue (has_identifier_length t)) h plain.has_length in cc
  | inr spelled ↦ absurd (omega (arith, ap length h, ap length spelled.1.spelled))
]

long_excluded : (text : List ℕ) → MOST_ID_BYTES < length text → ¬ IsIdentifier text
long_excluded text h i = elim i as (λ _. ⊥) [
  | inl plain ↦ absurd (omega (arith, h, leb-true (length text) MOST_ID_BYTES (and_parts (nat_le 1 (length text)) (nat_le (length text) MOST_ID_BYTES) plain.has_length).1))
  | inr spelled ↦ absurd (omega (arith, h, spelled.1.not_long))
]

pub no_identifier : (text : List ℕ) (e : IdErr) → IsFirstFault text e → ¬ IsIdentifier text
no_identifier text e (inl a) i = empty_excluded text a.0 i
no_identifier text e (inr (inl a)) i = long_excluded text a.0 i
no_identifier text e (inr (inr a)) i = fault_excludes text a.1.1 a.1.0 e a.1.2 i
