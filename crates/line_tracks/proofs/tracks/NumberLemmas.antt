-- The numbers of the next calls, one line on.
use Rattle.std.proofs.Common.{◌≡◌, ◌+◌, ℕ, List, [], ◌∷◌, ◌++◌, length-set, min, refl, sym, ap, ◌∙◌, inl, inr, arith}
use Rattle.std.specs.Prelude.{None, Option, replicate, slice_index}
use Rattle.std.proofs.Math.Nat.{min-eq_left, min-eq_right}
use Rattle.std.proofs.lemmas.Bool.{cases_lt}
use Rattle.std.proofs.lemmas.List.{get_or-set_same}
use Rattle.std.proofs.lemmas.List.Sums.{fold_push}
use Rattle.m3_model.specs.declared.act.Act.{Act}
use Rattle.m3_model.specs.declared.act.Act.TheVariants as act
use Rattle.m3_model.specs.declared.answer.Answer.{Answer}
use Rattle.m3_model.specs.declared.answer.Answer.TheVariants as answer
use Rattle.m3_model.specs.declared.limits.TheConstants.{MOST_CLIENTS}
use Rattle.m3_model.specs.declared.turn.Reply.TheVariants as reply
use Rattle.m3_model.specs.declared.turn.Request.TheVariants as request
use Rattle.m3_model.specs.declared.turn.Turn.{Turn}
use Rattle.transcripts.specs.Fates.{Numbering, calls_in, fates_set, numbering_by, numbering_after}
use Rattle.transcripts.specs.Record.{line_of}
use Rattle.line_tracks.specs.tracks.Numbers.{IsNumbered, NumbersStay, after_call, last_number, numbers_by}

numbering_push : (turns : List Turn) (a : Act) (b : Answer) → numbering_after 0 (turns ++ line_of a b ∷ []) ≡ numbering_by (fates_set (request.One a) (reply.One b)) (calls_in (a ∷ [])) (numbering_after 0 turns)
numbering_push turns a b = fold_push _ _ turns (line_of a b)

-- a counter that stops at its last value, one call on
count_on : (n top : ℕ) → min (min n top + 1) top ≡ min (n + 1) top
count_on n top =
    elim (cases_lt n top) as (λ _. min (min n top + 1) top ≡ min (n + 1) top) [
      | inl low ↦ ap (λ k. min (k + 1) top) (min-eq_left (omega (arith, low)))
      | inr high ↦ ap (λ k. min (k + 1) top) (min-eq_right high) ∙ min-eq_right (omega arith) ∙ sym (min-eq_right (omega (arith, high)))
    ]

module _ (turns : List Turn) (calls : List ℕ) (a : Act) (b : Answer) (h : IsNumbered turns calls) where
  abbrev more : ℕ
  more = calls_in (a ∷ [])

  on : (to : Option _) → fates_set (request.One a) (reply.One b) ≡ to → numbering_after 0 (turns ++ line_of a b ∷ []) ≡ numbering_by to more (numbering_after 0 turns)
  on to is = numbering_push turns a b ∙ ap (λ o. numbering_by o more (numbering_after 0 turns)) is

  -- a call
  by_call : fates_set (request.One a) (reply.One b) ≡ None → more ≡ 1 → IsNumbered (turns ++ line_of a b ∷ []) (after_call calls)
  by_call none one =
      let whole = h.all in
      let first = get_or-set_same calls 0 (min (slice_index calls 0 + 1) last_number) 0 (omega (arith, whole)) in
      let number : (numbering_after 0 (turns ++ line_of a b ∷ [])).calls ≡ (numbering_after 0 turns).calls + 1 = ap (λ (n : Numbering). n.calls) (on None none) ∙ ap (λ k. (numbering_after 0 turns).calls + k) one in
      record {
        next = first ∙ ap (λ k. min (k + 1) last_number) h.next ∙ count_on (numbering_after 0 turns).calls last_number ∙ ap (λ k. min k last_number) (sym number);
        all = length-set calls 0 (min (slice_index calls 0 + 1) last_number) ∙ whole;
      }

  -- no call
  by_other : fates_set (request.One a) (reply.One b) ≡ None → more ≡ 0 → IsNumbered (turns ++ line_of a b ∷ []) calls
  by_other none zero =
      let number : (numbering_after 0 turns).calls ≡ (numbering_after 0 (turns ++ line_of a b ∷ [])).calls =
      (let same : (numbering_after 0 turns).calls ≡ (numbering_after 0 turns).calls + more = omega (arith, zero) in same ∙ sym (ap (λ (n : Numbering). n.calls) (on None none))) in
      record { next = h.next ∙ ap (λ k. min k last_number) number; all = h.all }

-- accepted fates
by_fates : (turns : List Turn) (list : List _) → IsNumbered (turns ++ line_of (act.Fates list) answer.Done ∷ []) (replicate (MOST_CLIENTS + 1) 0)
by_fates turns list =
    let zero : (numbering_after 0 (turns ++ line_of (act.Fates list) answer.Done ∷ [])).calls ≡ 0 = ap (λ (n : Numbering). n.calls) (numbering_push turns (act.Fates list) answer.Done) in
    record { next = ap (λ k. min k last_number) (sym zero); all = refl }

fates_refused : (turns : List Turn) (calls : List ℕ) (list : List _) (b : Answer) → IsNumbered turns calls → IsNumbered (turns ++ line_of (act.Fates list) b ∷ []) (numbers_by (act.Fates list) b calls)
fates_refused turns calls list answer.Done h = by_fates turns list
fates_refused turns calls list b h = by_other turns calls (act.Fates list) b h refl refl

pub numbers_stay : NumbersStay
numbers_stay turns calls (act.Write ns id t v level version) b h = by_call turns calls (act.Write ns id t v level version) b h refl refl
numbers_stay turns calls (act.Fetch ns id from to level version) b h = by_call turns calls (act.Fetch ns id from to level version) b h refl refl
numbers_stay turns calls (act.Match ns wanted from to level version) b h = by_call turns calls (act.Match ns wanted from to level version) b h refl refl
numbers_stay turns calls (act.Fates list) b h = fates_refused turns calls list b h
numbers_stay turns calls a b h = by_other turns calls a b h refl refl
