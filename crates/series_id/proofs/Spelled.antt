-- Tags that are spelled one after another.
use Rattle.std.proofs.Common.{◌≡◌, ◌≢◌, ℕ, ◌+◌, ◌<◌, ◌≤◌, List, [], ◌∷◌, ◌++◌, length, take, get_or, cond, Bool, true, false, IsTrue, refl, sym, ap, ◌∙◌, subst, inl, inr, arith, append_assoc}
use Rattle.std.specs.Prelude.{◌==◌, IsUtf8, Option, Some, None, MatchOption, ⊤}
use Rattle.std.proofs.lemmas.List.{length-append, append-nil, take_more, length-take-le, take_all}
use Rattle.std.proofs.lemmas.Str.{IsUtf8-append, IsUtf8-nil}
use Rattle.std.proofs.Math.Dec.{eqb-suc-zero}
use Rattle.std.proofs.lemmas.Bool.{eqb-false}
use Rattle.m3_model.specs.Tags.{IsBelow, is_tag_name, escaped, tag_text, tags_text, IsSpelledBy}
use Rattle.m3_model.specs.declared.limits.TheConstants.{MOST_ID_BYTES, MOST_TAGS}
use Rattle.series_id.specs.declared.id_err.IdErr.{IdErr}
use Rattle.series_id.specs.declared.id_err.IdErr.TheVariants.{Empty, Long, Name, Order, Repeat, Escape, Brace, Memory}
use Rattle.series_id.specs.Faults.{listed, last_name, MayFollow}
use Rattle.series_id.specs.Given.{IsAddedFault, IsLaterFault, HasFault, IsFine, SpellsTags, IsGivenFault}
use Rattle.series_id.proofs.Orders.{not_below_itself, not_both_below}
use Rattle.series_id.proofs.Spellings.{escaped-append}
use Rattle.series_id.proofs.Positions.{follow_push, length-push, last_name-push}
use Rattle.series_id.proofs.Texts.{utf8_tag_text, utf8_mark, utf8_brace}
use Rattle.series_id.proofs.Unique.{tail_of, joined_tail}
use Rattle.series_id.proofs.Excluded.{follow_of, closes_spelled}

pub escaped_take : (value : List ℕ) (n : ℕ) → n < length value → escaped (take (n + 1) value) ≡ escaped (take n value) ++ escaped (get_or value n 0 ∷ [])
escaped_take value n h = ap escaped (take_more value n 0 h) ∙ escaped-append (take n value) (get_or value n 0 ∷ [])

-- tags as they are spelled, each with the `,` before it
commas : List (List ℕ × List ℕ) → List ℕ
commas [] = []
commas (tag ∷ tags) = 44 ∷ (tag_text tag ++ commas tags)

-- tags as they are spelled, without the last `}`
pub opened : List (List ℕ × List ℕ) → List ℕ
opened [] = []
opened (tag ∷ tags) = 123 ∷ (tag_text tag ++ commas tags)

commas-push : (tags : List (List ℕ × List ℕ)) (tag : List ℕ × List ℕ) → commas (tags ++ tag ∷ []) ≡ commas tags ++ 44 ∷ tag_text tag
unfolding commas
commas-push [] tag = ap (λ xs. 44 ∷ xs) (append-nil (tag_text tag))
commas-push (t ∷ tags) tag = ap (λ xs. 44 ∷ (tag_text t ++ xs)) (commas-push tags tag) ∙ ap (λ xs. 44 ∷ xs) (sym (append_assoc (tag_text t) (commas tags) (44 ∷ tag_text tag)))

pub opened-push : (tags : List (List ℕ × List ℕ)) (tag : List ℕ × List ℕ) (mark : ℕ) → mark ≡ cond (length tags == 0) 123 44 → opened (tags ++ tag ∷ []) ≡ (opened tags ++ mark ∷ []) ++ tag_text tag
unfolding opened commas
opened-push [] tag mark e = ap (λ xs. 123 ∷ xs) (append-nil (tag_text tag)) ∙ ap (λ m. m ∷ tag_text tag) (sym e)
opened-push (t ∷ tags) tag mark e =
    ap (λ xs. 123 ∷ (tag_text t ++ xs)) (commas-push tags tag) ∙ ap (λ xs. 123 ∷ xs) (sym (append_assoc (tag_text t) (commas tags) (44 ∷ tag_text tag)))
    ∙ ap (λ m. 123 ∷ ((tag_text t ++ commas tags) ++ m ∷ tag_text tag)) (sym (e ∙ ap (λ b. cond b 123 44) (eqb-suc-zero (length tags)))) ∙ ap (λ xs. 123 ∷ xs) (sym (append_assoc (tag_text t ++ commas tags) (mark ∷ []) (tag_text tag)))

commas_length : (tags : List (List ℕ × List ℕ)) → length (commas tags) ≡ length (listed tags)
unfolding commas
commas_length [] = refl
commas_length (t ∷ tags) = omega (arith, length-append (tag_text t) (commas tags), length-append (tag_text t) (44 ∷ listed tags), commas_length tags)

pub opened_length : (tags : List (List ℕ × List ℕ)) → length (opened tags) ≡ length (listed tags)
unfolding opened commas
opened_length [] = refl
opened_length (t ∷ tags) = omega (arith, length-append (tag_text t) (commas tags), length-append (tag_text t) (44 ∷ listed tags), commas_length tags)

commas_closed : (tags : List (List ℕ × List ℕ)) → commas tags ++ 125 ∷ [] ≡ tail_of tags
unfolding commas
commas_closed [] = refl
commas_closed (t ∷ tags) = ap (λ xs. 44 ∷ xs) (append_assoc (tag_text t) (commas tags) (125 ∷ []) ∙ ap (λ xs. tag_text t ++ xs) (commas_closed tags))

pub opened_closed : (tags : List (List ℕ × List ℕ)) → 0 < length tags → opened tags ++ 125 ∷ [] ≡ tags_text tags
unfolding opened
opened_closed [] h = absurd (omega arith)
opened_closed (t ∷ tags) h = ap (λ xs. 123 ∷ xs) (append_assoc (tag_text t) (commas tags) (125 ∷ []) ∙ ap (λ xs. tag_text t ++ xs) (commas_closed tags) ∙ sym (joined_tail t tags))

pub opened_none : opened [] ≡ []
unfolding opened
opened_none = refl

-- faults of tags, of which one more was added

pub fine_more : (tags : List (List ℕ × List ℕ)) (tag : List ℕ × List ℕ) → IsFine tags → length tags < MOST_TAGS → IsTrue (is_tag_name tag.0) → IsBelow (last_name [] tags) tag.0 → IsFine (tags ++ tag ∷ [])
fine_more tags tag f few named above = record { follow = follow_push [] tags tag f.follow named above; few = omega (arith, length-push tags tag) }

pub fault_new : (tags : List (List ℕ × List ℕ)) (tag : List ℕ × List ℕ) (e : IdErr) → IsFine tags → IsAddedFault (length tags) (last_name [] tags) (1 + length (listed tags)) tag.0 e → HasFault (tags ++ tag ∷ []) e
fault_new tags tag e f fault = record { earlier = tags; tag = tag; later = []; split = refl; follow = f.follow; fault = fault }

pub fault_more : (tags : List (List ℕ × List ℕ)) (tag : List ℕ × List ℕ) (e : IdErr) → HasFault tags e → HasFault (tags ++ tag ∷ []) e
fault_more tags tag e h = record {
  earlier = h.earlier;
  tag = h.tag;
  later = h.later ++ tag ∷ [];
  split = ap (λ xs. xs ++ tag ∷ []) h.split ∙ append_assoc h.earlier (h.tag ∷ h.later) (tag ∷ []);
  follow = h.follow;
  fault = h.fault;
}

-- tags with a fault spell nothing

follow_at : (before : List ℕ) (earlier : List (List ℕ × List ℕ)) (tag : List ℕ × List ℕ) (later : List (List ℕ × List ℕ)) → MayFollow before (earlier ++ tag ∷ later) → IsTrue (is_tag_name tag.0) × IsBelow (last_name before earlier) tag.0
follow_at before [] tag later h = (h.0, h.1)
follow_at before (t ∷ earlier) tag later h = follow_at t.0 earlier tag later h.2

not_added : (number : ℕ) (before : List ℕ) (at : ℕ) (name : List ℕ) (e : IdErr) → number < MOST_TAGS → IsTrue (is_tag_name name) → IsBelow before name → IsAddedFault number before at name e → ⊥
not_added number before at name Long few named above f = absurd (omega (arith, f))
not_added number before at name (Name position) few named above f = let never : true ≡ false = sym named ∙ f.1 in cc
not_added number before at name Order few named above f = not_both_below before name above f.2
not_added number before at name Repeat few named above f = not_below_itself name (subst (λ b. IsBelow b name) (sym f.2) above)
not_added number before at name Empty few named above f = f
not_added number before at name (Escape position) few named above f = f
not_added number before at name Brace few named above f = f
not_added number before at name Memory few named above f = f

fault_refuses : (tags : List (List ℕ × List ℕ)) (e : IdErr) → HasFault tags e → (id : List ℕ) → IsSpelledBy id tags → ⊥
fault_refuses tags e h id s =
    let follow : MayFollow [] (h.earlier ++ h.tag ∷ h.later) = subst (MayFollow []) h.split (follow_of id tags s) in
    let here = follow_at [] h.earlier h.tag h.later follow in
    not_added (length h.earlier) (last_name [] h.earlier) (1 + length (listed h.earlier)) h.tag.0 e
    (omega (arith, s.few, ap length h.split, length-append h.earlier (h.tag ∷ h.later))) here.0 here.1 h.fault

pub given_refuses : (tags : List (List ℕ × List ℕ)) (e : IdErr) → IsGivenFault tags e → (id : List ℕ) → ¬ IsSpelledBy id tags
given_refuses tags e g id s = elim g as (λ _. ⊥) [
  | inl none ↦ absurd (omega (arith, s.some, ap length none.0))
  | inr more ↦ elim more as (λ _. ⊥) [
    | inl long ↦ absurd (omega (arith, long.0, s.not_long, ap length s.spelled))
    | inr fault ↦ fault_refuses tags e fault.1 id s
  ]
]

-- n tags were spelled, and the first fault of their names was kept
pub record IsBegun (tags : List (List ℕ × List ℕ)) (n : ℕ) (text before : List ℕ) (fault : Option IdErr) : Type 0 where
  pub spelled : text ≡ opened (take n tags)
  pub utf8 : IsUtf8 text
  pub behind : before ≡ last_name [] (take n tags)
  pub names : MatchOption fault (IsFine (take n tags)) (HasFault (take n tags))

pub begun_none : (tags : List (List ℕ × List ℕ)) (text before : List ℕ) → text ≡ [] → before ≡ [] → IsBegun tags 0 text before None
begun_none tags text before e f = record {
  spelled = e ∙ sym opened_none;
  utf8 = subst IsUtf8 (sym e) IsUtf8-nil;
  behind = f;
  names = record { follow = tt; few = omega arith };
}

fault_step : (done : List (List ℕ × List ℕ)) (tag : List ℕ × List ℕ) (before : List ℕ) (n at : ℕ) (fault found : Option IdErr) → n ≡ length done → before ≡ last_name [] done → at ≡ 1 + length (listed done)
    → MatchOption fault (IsFine done) (HasFault done) → IsLaterFault n before at tag.0 fault found → MatchOption found (IsFine (done ++ tag ∷ [])) (HasFault (done ++ tag ∷ []))
fault_step done tag before n at None None en eb ea was h = fine_more done tag was (omega (arith, h.0)) h.1 (subst (λ b. IsBelow b tag.0) eb h.2)
fault_step done tag before n at None (Some e) en eb ea was h =
    fault_new done tag e was (subst (λ k. IsAddedFault k (last_name [] done) (1 + length (listed done)) tag.0 e) en (subst (λ b. IsAddedFault n b (1 + length (listed done)) tag.0 e) eb (subst (λ k. IsAddedFault n before k tag.0 e) ea h)))
fault_step done tag before n at (Some e) found en eb ea was h = subst (λ f. MatchOption f (IsFine (done ++ tag ∷ [])) (HasFault (done ++ tag ∷ []))) (sym h) (fault_more done tag e was)

length_take : (tags : List (List ℕ × List ℕ)) (n : ℕ) → n < length tags → n ≡ length (take n tags)
length_take tags n h = sym (length-take-le n tags (omega arith))

pub begun_few : (tags : List (List ℕ × List ℕ)) (n : ℕ) (text before : List ℕ) → n < length tags → (fault : Option IdErr) → IsBegun tags n text before fault → MatchOption fault (n ≤ MOST_TAGS) (λ _. ⊤)
begun_few tags n text before h None b = omega (arith, b.names.few, length_take tags n h)
begun_few tags n text before h (Some e) b = tt

pub begun_more : (tags : List (List ℕ × List ℕ)) (n : ℕ) (tag : List ℕ × List ℕ) (text pushed after before name value : List ℕ) (mark at : ℕ) (fault found : Option IdErr) → n < length tags → tag ≡ get_or tags n tag → name ≡ tag.0 → value ≡ tag.1
    → mark ≡ cond (n == 0) 123 44 → pushed ≡ text ++ mark ∷ [] → at ≡ length pushed → after ≡ pushed ++ tag_text (name, value) → IsUtf8 name → IsUtf8 value
    → IsBegun tags n text before fault → IsLaterFault n before at name fault found → IsBegun tags (n + 1) after name found
begun_more tags n tag text pushed after before name value mark at fault found h item en ev em ep ea ef un uv b later =
    let done : List (List ℕ × List ℕ) = take n tags in
    let more : done ++ tag ∷ [] ≡ take (n + 1) tags = ap (λ x. done ++ x ∷ []) item ∙ sym (take_more tags n tag h) in
    let count : n ≡ length done = length_take tags n h in
    let same : tag_text (name, value) ≡ tag_text tag = λ i. tag_text (en i, ev i) in
    let marked : mark ≡ cond (length done == 0) 123 44 = em ∙ ap (λ k. cond (k == 0) 123 44) count in
    let text_is : after ≡ (opened done ++ mark ∷ []) ++ tag_text tag = ef ∙ ap (λ xs. pushed ++ xs) same ∙ ap (λ xs. xs ++ tag_text tag) (ep ∙ ap (λ xs. xs ++ mark ∷ []) b.spelled) in
    let position : at ≡ 1 + length (listed done) = omega (arith, ea, ap length ep, length-append text (mark ∷ []), ap length b.spelled, opened_length done) in
    record {
      spelled = text_is ∙ sym (opened-push done tag mark marked) ∙ ap opened more;
      utf8 = subst IsUtf8 (sym (ef ∙ ap (λ xs. xs ++ tag_text (name, value)) ep)) (IsUtf8-append (text ++ mark ∷ []) (tag_text (name, value)) (IsUtf8-append text (mark ∷ []) b.utf8 (utf8_mark mark (n == 0) em)) (utf8_tag_text (name, value) un uv));
      behind = en ∙ sym (last_name-push [] done tag) ∙ ap (last_name []) more;
      names = subst (λ ts. MatchOption found (IsFine ts) (HasFault ts)) more
          (fault_step done tag before n at fault found count b.behind position b.names (subst (λ x. IsLaterFault n before at x fault found) en later));
    }

pub begun_all : (tags : List (List ℕ × List ℕ)) (n : ℕ) (text closed before : List ℕ) (fault : Option IdErr) → length tags ≤ n → closed ≡ text ++ 125 ∷ [] → IsBegun tags n text before fault → SpellsTags tags closed fault
begun_all tags n text closed before fault h e b =
    let all : take n tags ≡ tags = take_all n tags h in
    let brace : IsUtf8 (125 ∷ []) = utf8_brace in
    record {
      spelled = λ some. e ∙ ap (λ xs. xs ++ 125 ∷ []) (b.spelled ∙ ap opened all) ∙ opened_closed tags some;
      utf8 = subst IsUtf8 (sym e) (IsUtf8-append text (125 ∷ []) b.utf8 brace);
      names = subst (λ ts. MatchOption fault (IsFine ts) (HasFault ts)) all b.names;
    }

pub outcome_spelled : (tags : List (List ℕ × List ℕ)) (text : List ℕ) → 0 < length tags → length text ≤ MOST_ID_BYTES → SpellsTags tags text None → IsSpelledBy text tags
outcome_spelled tags text some short o = closes_spelled text tags (record { spelled = o.spelled some; follow = o.names.follow; some = some; few = o.names.few }) o.utf8 short

pub outcome_long : (tags : List (List ℕ × List ℕ)) (text : List ℕ) (fault : Option IdErr) → 0 < length tags → MOST_ID_BYTES < length text → SpellsTags tags text fault → IsGivenFault tags Long
outcome_long tags text fault some long o = inr (inl (omega (arith, long, ap length (o.spelled some)), refl))

pub outcome_fault : (tags : List (List ℕ × List ℕ)) (text : List ℕ) (e : IdErr) → 0 < length tags → length text ≤ MOST_ID_BYTES → SpellsTags tags text (Some e) → IsGivenFault tags e
outcome_fault tags text e some short o = inr (inr (omega (arith, short, ap length (o.spelled some)), o.names))

pub some_tags : (tags : List (List ℕ × List ℕ)) (empty : Bool) → empty ≡ (length tags == 0) → empty ≡ false → 0 < length tags
some_tags tags empty e f = let some : length tags ≢ 0 = eqb-false (length tags) 0 (sym e ∙ f) in omega (arith, some)
