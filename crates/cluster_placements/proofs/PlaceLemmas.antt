-- In a legal list no more Places stand than were asked for, and a Place may come where it is the next one and was asked for.
use Rattle.std.proofs.Common.{◌≡◌, ℕ, zero, suc, ◌≤◌, List, [], ◌∷◌, ◌++◌, length, refl, sym, ap, ◌∙◌, subst, inl, inr, arith, Bool, false, length-append}
use Rattle.std.proofs.lemmas.Grind.{fold-append}
use Rattle.std.proofs.lemmas.Bool.{cases_eq}
use Rattle.std.specs.Prelude.{◌⊎◌, ◌≢◌, None}
use Rattle.m3_model.specs.Members.{IsIn}
use Rattle.m3_model.specs.declared.placement.Placement.{Placement}
use Rattle.cluster_core.specs.Asks.{IsAskFor, IsLike, WasAsked}
use Rattle.cluster_core.specs.Earlier.{last_place, place_after}
use Rattle.cluster_core.specs.Legal.{IsNextPlace, LawfulAt, Legal, Lawful}
use Rattle.cluster_core.specs.Lists.{At}
use Rattle.cluster_core.specs.declared.event.Asked.TheVariants as asked
use Rattle.cluster_core.specs.declared.event.Event.{Event}
use Rattle.cluster_core.specs.declared.event.Event.TheVariants as event
use Rattle.cluster_core.proofs.ExtendLemmas.{at_last, at_push, legal_last}
use Rattle.cluster_core.proofs.ListLemmas.{at_append, at_within}
use Rattle.event_trail.proofs.Balances.{IsBalanced, legal_init}

-- ---- as many as were asked for

snoc : {X : Type 0} (x : X) (xs : List X) → (ys : List X) × (y : X) × (x ∷ xs ≡ ys ++ y ∷ [])
snoc x [] = ([], x, refl)
snoc x (z ∷ xs) = let r = snoc z xs in (x ∷ r.0, r.1, ap (λ l. x ∷ l) r.2)

-- moves that end are the same or not
same_moves : (a b : List (ℕ × ℕ)) → (a ≡ b) ⊎ (a ≡ b → ⊥)
same_moves [] [] = inl refl
same_moves [] (y ∷ b) = inr (λ e. cc)
same_moves (x ∷ a) [] = inr (λ e. cc)
same_moves (x ∷ a) (y ∷ b) = by (cases_eq x.0 y.0) (cases_eq x.1 y.1) (same_moves a b)
  where
    by : (x.0 ≡ y.0) ⊎ (x.0 ≢ y.0) → (x.1 ≡ y.1) ⊎ (x.1 ≢ y.1) → (a ≡ b) ⊎ (a ≡ b → ⊥) → (x ∷ a ≡ y ∷ b) ⊎ (x ∷ a ≡ y ∷ b → ⊥)
    by (inr other) q rest = inr (λ e. let here : x ≡ y = cc in other (ap (λ (d : ℕ × ℕ). d.0) here))
    by (inl shard) (inr other) rest = inr (λ e. let here : x ≡ y = cc in other (ap (λ (d : ℕ × ℕ). d.1) here))
    by (inl shard) (inl node) (inr other) = inr (λ e. let there : a ≡ b = cc in other there)
    by (inl shard) (inl node) (inl rest) = inl (λ i. (shard i, node i) ∷ rest i)

module _ (next : Placement) (ended : List (ℕ × ℕ)) where
  abbrev pub own : Event
  own = event.Place next ended

  empty_balanced : IsBalanced [] own
  empty_balanced = record { asks = []; answered = []; distinct = tt; are_asks = λ i m. absurd m; are_all = λ i other two at like. let low = at_within [] i other at in absurd (omega (arith, low)); enough = omega arith }

  -- one that isn't like it, or one of the first two, comes
  balanced_other : (past : List Event) (x : Event) → (2 ≤ length past → IsLike own x → ⊥) → IsBalanced past own → IsBalanced (past ++ x ∷ []) own
  balanced_other past x apart b = record {
    asks = b.asks;
    answered = b.answered;
    distinct = b.distinct;
    are_asks = λ i m. let y = b.are_asks i m in (y.0, at_append past (x ∷ []) i y.0 y.1, y.2);
    are_all = λ i other two at like. elim (at_push past x i other at) as (λ _. IsIn b.answered i) [
      | inl old ↦ b.are_all i other two old like
      | inr new ↦ absurd (apart (subst (λ k. 2 ≤ k) new.0 two) (subst (IsLike own) (sym new.1) like))
    ];
    enough = b.enough;
  }

  -- one like it comes, which was asked for
  balanced_own : (past : List Event) (x : Event) → WasAsked past own → IsBalanced (past ++ x ∷ []) own
  balanced_own past x w =
      let more = w.more in
      record {
        asks = w.asks;
        answered = length past ∷ w.answered;
        distinct = w.distinct;
        are_asks = λ i m. let y = w.are_asks i m in (y.0, at_append past (x ∷ []) i y.0 y.1, y.2);
        are_all = λ i other two at like. elim (at_push past x i other at) as (λ _. (length past ≡ i) ⊎ IsIn w.answered i) [
          | inl old ↦ inr (w.are_all i other two old like)
          | inr new ↦ inl (sym new.0)
        ];
        enough = omega (arith, more);
      }

  module _ (same : (x y : Placement) → (x ≡ y) ⊎ (x ≡ y → ⊥)) (tells : Bool) where
    push : (past : List Event) (x : Event) → LawfulAt tells (length past) past x → IsBalanced past own → IsBalanced (past ++ x ∷ []) own
    push past (event.Place p done) law b = by (same p next) (same_moves done ended)
      where
        at_place : (xs : List Event) → IsBalanced xs own → LawfulAt tells (length xs) xs (event.Place p done) → p ≡ next → done ≡ ended → IsBalanced (xs ++ event.Place p done ∷ []) own
        at_place [] was law is ends = balanced_other [] (event.Place p done) (λ two like. absurd (omega (arith, two))) was
        at_place (y ∷ []) was law is ends = absurd law
        at_place (y ∷ z ∷ xs) was law is ends = balanced_own (y ∷ z ∷ xs) (event.Place p done) (subst (λ (moves : List (ℕ × ℕ)). WasAsked (y ∷ z ∷ xs) (event.Place next moves)) ends (subst (λ (k : Placement). WasAsked (y ∷ z ∷ xs) (event.Place k done)) is law.0))

        by : (p ≡ next) ⊎ (p ≡ next → ⊥) → (done ≡ ended) ⊎ (done ≡ ended → ⊥) → IsBalanced (past ++ event.Place p done ∷ []) own
        by (inr other) moves = balanced_other past (event.Place p done) (λ two like. other like.0) b
        by (inl is) (inr other) = balanced_other past (event.Place p done) (λ two like. other like.1) b
        by (inl is) (inl ends) = at_place past b law is ends
    push past _ law b = balanced_other past _ (λ two like. absurd like) b

    by_length : (k : ℕ) (past : List Event) → length past ≡ k → Legal tells past → IsBalanced past own
    by_length k [] is legal = empty_balanced
    by_length zero (x ∷ past) is legal = absurd (omega (arith, is))
    by_length (suc k) (x ∷ past) is legal =
        let last = snoc x past in
        let legal' : Legal tells (last.0 ++ last.1 ∷ []) = subst (Legal tells) last.2 legal in
        let long = ap length last.2 ∙ length-append last.0 (last.1 ∷ []) in
        subst (λ l. IsBalanced l own) (sym last.2) (push last.0 last.1 (legal_last tells last.0 last.1 legal') (by_length k last.0 (omega (arith, is, long)) (legal_init tells last.0 (last.1 ∷ []) legal')))

    pub balanced : (past : List Event) → Legal tells past → IsBalanced past own
    balanced past legal = by_length (length past) past refl legal

  was_asked : (past : List Event) → IsBalanced past own → WasAsked (past ++ event.Ask (asked.Place next ended) ∷ []) own
  was_asked past b =
      let enough = b.enough in
      let ask : Event = event.Ask (asked.Place next ended) in
      record {
        asks = length past ∷ b.asks;
        answered = b.answered;
        distinct = (λ j m same. let x = b.are_asks j m in let low = at_within past j x.0 x.1 in absurd (omega (arith, same, low)), b.distinct);
        are_asks = λ i m. elim m as (λ _. (x : Event) × At (past ++ ask ∷ []) i x × IsAskFor own x) [
          | inl here ↦ (ask, subst (λ k. At (past ++ ask ∷ []) k ask) here (at_last past ask), (refl, refl))
          | inr old ↦ let x = b.are_asks i old in (x.0, at_append past (ask ∷ []) i x.0 x.1, x.2)
        ];
        are_all = λ i other two at like. elim (at_push past ask i other at) as (λ _. IsIn b.answered i) [
          | inl old ↦ b.are_all i other two old like
          | inr new ↦ absurd (subst (IsLike own) (sym new.1) like)
        ];
        more = omega (arith, enough);
      }

  -- ---- the Place behind its Ask

  -- where it is the next one it is lawful behind its Ask
  pub place_lawful : (past asked_past : List Event) → ((x y : Placement) → (x ≡ y) ⊎ (x ≡ y → ⊥)) → Legal false past → asked_past ≡ past ++ event.Ask (asked.Place next ended) ∷ [] → IsNextPlace asked_past next ended → (tells : Bool) → Lawful tells asked_past own
  place_lawful past asked_past same legal is comes tells = (subst (λ es. WasAsked es own) (sym is) (was_asked past (balanced same false past legal)), comes)

-- one that ends no move is still the next one there
pub next_asked : (next : Placement) (past asked_past : List Event) → IsNextPlace past next [] → asked_past ≡ past ++ event.Ask (asked.Place next []) ∷ [] → IsNextPlace asked_past next []
next_asked next past asked_past comes is = record { last = comes.last; last_is = ap last_place is ∙ fold-append place_after None past (event.Ask (asked.Place next []) ∷ []) ∙ comes.last_is; step = comes.step; joined = λ k d low. absurd (omega (arith, low)) }
