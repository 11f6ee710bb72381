-- What is left of a script behind its next request.
use Rattle.std.proofs.Common.{◌≡◌, ◌++◌, ℕ, suc, zero, List, [], ◌∷◌, drop, cond, refl, sym, ap, ◌∙◌, inl, inr, append_assoc}
use Rattle.std.specs.Prelude.{◌==◌, ◌%◌, Option, Some, None, slice_get, MatchOption}
use Rattle.std.proofs.lemmas.Bool.{cases_Bool}
use Rattle.m3_model.specs.declared.turn.Request.{Request}
use Rattle.load_gen.specs.Draws.{drawn, after_writes}
use Rattle.load_gen.specs.Lines.{replace_line, bootstrap_line, flush_line, snapshot_line, match_line, now_line, write_line}
use Rattle.load_gen.specs.Script.{moment_of, writes, move_at, flushes_at, round, rounds}
use Rattle.load_gen.specs.Left.{left_from, next_by_moment, next_after_move}
use Rattle.load_gen.specs.declared.script.Next.TheVariants.{Round, Write, Replace, Flush}

pub rounds-none : (x : ℕ) → rounds zero x ≡ match_line ∷ []
unfolding rounds
rounds-none x = refl

pub rounds-more : (k x : ℕ) → rounds (suc k) x ≡ round (moment_of k) x ++ rounds k (after_writes 10 x)
unfolding rounds
rounds-more k x = refl

-- behind the move of a round
pub behind_move : (k x : ℕ) → left_from (next_after_move (moment_of k)) k x ≡ flushes_at (moment_of k) ++ rounds k x
behind_move k x =
    elim (cases_Bool (moment_of k % 100 == 0)) as (λ _. left_from (next_after_move (moment_of k)) k x ≡ flushes_at (moment_of k) ++ rounds k x) [
      | inl due ↦ ap (λ b. left_from (cond b Flush Round) k x) due ∙ sym (ap (λ b. cond b (flush_line ∷ snapshot_line ∷ []) [] ++ rounds k x) due)
      | inr not_due ↦ ap (λ b. left_from (cond b Flush Round) k x) not_due ∙ sym (ap (λ b. cond b (flush_line ∷ snapshot_line ∷ []) [] ++ rounds k x) not_due)
    ]

-- behind its last write
pub behind_writes : (k x : ℕ) → left_from (next_by_moment (moment_of k)) k x ≡ (move_at (moment_of k) ++ flushes_at (moment_of k)) ++ rounds k x
behind_writes k x =
    elim (cases_Bool (moment_of k == 250)) as (λ _. left_from (next_by_moment (moment_of k)) k x ≡ (move_at (moment_of k) ++ flushes_at (moment_of k)) ++ rounds k x) [
      | inl due ↦ ap (λ b. left_from (cond b Replace (next_after_move (moment_of k))) k x) due
          ∙ sym (ap (λ b. (cond b (replace_line ∷ bootstrap_line ∷ []) [] ++ flushes_at (moment_of k)) ++ rounds k x) due)
      | inr not_due ↦ ap (λ b. left_from (cond b Replace (next_after_move (moment_of k))) k x) not_due ∙ behind_move k x
          ∙ sym (ap (λ b. (cond b (replace_line ∷ bootstrap_line ∷ []) [] ++ flushes_at (moment_of k)) ++ rounds k x) not_due)
    ]

-- behind a write
pub behind_more_writes : (further k x : ℕ) → left_from (Write further) k (drawn (drawn x)) ≡ drop 1 (left_from (Write (suc further)) k x)
unfolding writes after_writes
behind_more_writes further k x = refl

pub behind_last_write : (k x : ℕ) → left_from (next_by_moment (moment_of k)) k (drawn (drawn x)) ≡ drop 1 (left_from (Write 0) k x)
unfolding writes after_writes
behind_last_write k x = behind_writes k (drawn (drawn x))

-- behind the beginning of a round
pub behind_round : (k x : ℕ) → left_from (Write 9) k x ≡ drop 1 (left_from Round (suc k) x)
behind_round k x = sym (ap (drop 1) (rounds-more k x) ∙ append_assoc (writes 10 (moment_of k) x) (move_at (moment_of k) ++ flushes_at (moment_of k)) (rounds k (after_writes 10 x)))

pub behind_match : (x : ℕ) → [] ≡ drop 1 (left_from Round 0 x)
behind_match x = sym (ap (drop 1) (rounds-none x))

-- the requests that come next
pub first_write : (further k x : ℕ) → Some (write_line (moment_of k) x) ≡ slice_get (left_from (Write further) k x) 0
unfolding writes
first_write further k x = refl

pub first_round : (k x : ℕ) → Some (now_line (moment_of k)) ≡ slice_get (rounds (suc k) x) 0
first_round k x = sym (ap (λ (xs : List Request). slice_get xs 0) (rounds-more k x))

pub first_match : (x : ℕ) → Some match_line ≡ slice_get (rounds 0 x) 0
first_match x = sym (ap (λ (xs : List Request). slice_get xs 0) (rounds-none x))

-- a request and those behind it
pub with_first : (xs later : List Request) (r : Request) → Some r ≡ slice_get xs 0 → later ≡ drop 1 xs → xs ≡ r ∷ later
with_first [] later r first rest = absurd (nothing first)
  where
    nothing : Some r ≡ None → ⊥
    nothing e = cc
with_first (y ∷ ys) later r first rest = let same : r ≡ y = cc in ap (λ x. x ∷ ys) (sym same) ∙ ap (λ zs. r ∷ zs) (sym rest)

pub without_first : (xs later : List Request) → None ≡ slice_get xs 0 → later ≡ drop 1 xs → (xs ≡ []) × (later ≡ [])
without_first [] later first rest = (refl, rest)
without_first (y ∷ ys) later first rest = absurd (something first)
  where
    something : None ≡ Some y → ⊥
    something e = cc

-- the next request, where there is one, and those behind it
pub given : (o : Option Request) (xs later : List Request) → o ≡ slice_get xs 0 → later ≡ drop 1 xs → MatchOption o ((xs ≡ []) × (later ≡ [])) (λ r. xs ≡ r ∷ later)
given None xs later first rest = without_first xs later first rest
given (Some r) xs later first rest = with_first xs later r first rest
