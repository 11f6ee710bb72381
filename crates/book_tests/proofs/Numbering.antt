-- Ticks that are added stay in order, and stand in the list once their seats have ended.
use Rattle.std.proofs.Common.{◌≡◌, ℕ, ◌+◌, Bool, true, false, cond, List, [], ◌∷◌, ◌++◌, length, refl, ap, sym, ◌∙◌, subst, arith}
use Rattle.std.proofs.lemmas.List.{append-nil}
use lib.Pointwise.{bytes_decides}
use Rattle.event_book.specs.Names.{Name, same_name}
use Rattle.event_book.specs.Lists.{made_by, HasEnded}
use Rattle.event_book.specs.Seats.{Shown}
use Rattle.event_book.specs.Calls.{MayAdd, HasJoined}
use Rattle.event_book.specs.declared.view.Made.{Made}
use Rattle.event_book.specs.declared.view.Ended.{Ended}
use Rattle.event_book.proofs.Naming.{made_by_append}
use Rattle.book_tests.specs.Ticks.{NumberedFrom, IsOrdered}

module _ {E : Type 0} (number : E → ℕ) where
  numbered_push : (k : ℕ) (xs : List E) (x : E) → NumberedFrom number k xs → number x ≡ k + length xs → NumberedFrom number k (xs ++ x ∷ [])
  numbered_push k [] x h e = (omega (arith, e), tt)
  numbered_push k (y ∷ ys) x h e = (h.0, numbered_push (k + 1) ys x h.1 (omega (arith, e)))

  -- a seat's next tick has the number of those that it made
  pub may_tick : (tells : Bool) (s : Shown E) (e : E) → length s.made ≡ number e → MayAdd (IsOrdered number) tells s e
  may_tick tells s e next sound log ordered begins made name = subst (λ (l : List E). NumberedFrom number 0 l) (sym (made_by_append name log _)) (by (same_name name s.name) refl)
    where
      by : (b : Bool) → same_name name s.name ≡ b → NumberedFrom number 0 (made_by name log ++ cond b (e ∷ []) [])
      by true same =
          let own : made_by name log ≡ s.made = ap (λ (n : Name). made_by n log) ((bytes_decides name s.name).0 same) ∙ made in
          let count : length (made_by name log) ≡ length s.made = ap (λ (l : List E). length l) own in
          numbered_push 0 (made_by name log) e (ordered name) (omega (arith, next, count))
      by false other = subst (λ (l : List E). NumberedFrom number 0 l) (sym (append-nil (made_by name log))) (ordered name)

module _ {E : Type 0} where
  ended_parts : (xs ys : List (Ended E)) (log : List (Made E)) → HasEnded (xs ++ ys) log → HasEnded xs log × HasEnded ys log
  ended_parts [] ys log h = (tt, h)
  ended_parts (x ∷ xs) ys log h = let rest = ended_parts xs ys log h.1 in ((h.0, rest.0), rest.1)

  -- of a seat that ended in another the list has what it made, and of those that had ended before what they made
  pub ended_in : (s other t : Shown E) (log : List (Made E)) → HasJoined s other t → HasEnded t.ended log → HasEnded s.ended log × (made_by other.name log ≡ other.made)
  ended_in s other t log j h =
      let parts = ended_parts s.ended _ log (subst (λ (x : Shown E). HasEnded x.ended log) j.after h) in (parts.0, parts.1.0)
