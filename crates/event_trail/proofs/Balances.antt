-- In a legal list no more steps stand than were asked for.
use Rattle.std.proofs.Common.{◌≡◌, ℕ, zero, suc, ◌≤◌, List, [], ◌∷◌, ◌++◌, length, refl, sym, ap, ◌∙◌, subst, inl, inr, arith, Bool, length-append}
use Rattle.std.specs.Prelude.{◌⊎◌}
use Rattle.std.proofs.lemmas.Bool.{cases_eq}
use Rattle.std.proofs.lemmas.List.{take-append-le}
use Rattle.placement_core.specs.m3_model.Members.{IsIn}
use Rattle.cluster_core.specs.Asks.{IsAskFor, IsLike, WasAsked, StepWasAsked}
use Rattle.cluster_core.specs.Legal.{Legal, LawfulAt}
use Rattle.cluster_core.specs.Lists.{At, IsDistinct}
use Rattle.cluster_core.specs.declared.event.Asked.TheVariants as asked
use Rattle.cluster_core.specs.declared.event.Event.{Event}
use Rattle.cluster_core.specs.declared.event.Event.TheVariants as event
use Rattle.cluster_core.specs.declared.event.StepCall.{StepCall}
use Rattle.cluster_core.specs.declared.event.StepCall.TheVariants as call
use Rattle.cluster_core.specs.declared.event.StepReply.{StepReply}
use Rattle.cluster_core.proofs.ExtendLemmas.{at_push, at_last, legal_last}
use Rattle.cluster_core.proofs.ListLemmas.{at_within, at_append}

-- not more events like it stand in the list than Asks for it
pub record IsBalanced (past : List Event) (e : Event) : Type 0 where
  pub asks : List ℕ
  pub answered : List ℕ
  pub distinct : IsDistinct asks
  pub are_asks : (i : ℕ) → IsIn asks i → (ask : Event) × At past i ask × IsAskFor e ask
  pub are_all : (i : ℕ) (other : Event) → 2 ≤ i → At past i other → IsLike e other → IsIn answered i
  pub enough : length answered ≤ length asks

pub legal_init : (tells : Bool) (xs ys : List Event) → Legal tells (xs ++ ys) → Legal tells xs
legal_init tells xs ys legal i x there =
    let low = at_within xs i x there in
    subst (λ past. LawfulAt tells i past x) (take-append-le i xs ys (omega (arith, low))) (legal i x (at_append xs ys i x there))

snoc : {X : Type 0} (x : X) (xs : List X) → (ys : List X) × (y : X) × (x ∷ xs ≡ ys ++ y ∷ [])
snoc x [] = ([], x, refl)
snoc x (z ∷ xs) = let r = snoc z xs in (x ∷ r.0, r.1, ap (λ l. x ∷ l) r.2)

module _ (n s : ℕ) (c : StepCall) (a : StepReply) where
  abbrev pub own : Event
  own = event.Step n s c a

  ask_any : (b : StepReply) (ask : Event) → IsAskFor (event.Step n s c b) ask → IsAskFor (event.Step n s c a) ask
  ask_any b (event.Ask (asked.Step m t d)) h = h
  ask_any b (event.Ask _) h = absurd h
  ask_any b _ h = absurd h

  like_any : (b : StepReply) (x : Event) → IsLike (event.Step n s c a) x → IsLike (event.Step n s c b) x
  like_any b (event.Step m t d r) h = h
  like_any b _ h = absurd h

  asked_any : (b : StepReply) (past : List Event) → WasAsked past (event.Step n s c b) → IsBalanced past (event.Step n s c a) × WasAsked past (event.Step n s c a)
  asked_any b past w =
      let more = w.more in (
        record {
          asks = w.asks;
          answered = w.answered;
          distinct = w.distinct;
          are_asks = λ i m. let x = w.are_asks i m in (x.0, x.1, ask_any b x.0 x.2);
          are_all = λ i other two at like. w.are_all i other two at (like_any b other like);
          enough = omega (arith, more);
        },
        record {
          asks = w.asks;
          answered = w.answered;
          distinct = w.distinct;
          are_asks = λ i m. let x = w.are_asks i m in (x.0, x.1, ask_any b x.0 x.2);
          are_all = λ i other two at like. w.are_all i other two at (like_any b other like);
          more = more;
        },
      )

  asked_unless : (d : StepCall) (past : List Event) (b : StepReply) → (d ≡ call.Report → ⊥) → StepWasAsked past (event.Step n s d b) → WasAsked past (event.Step n s d b)
  asked_unless call.Report past b other h = absurd (other refl)
  asked_unless _ past b other h = h

  empty_balanced : IsBalanced [] own
  empty_balanced = record { asks = []; answered = []; distinct = tt; are_asks = λ i m. absurd m; are_all = λ i other two at like. let low = at_within [] i other at in absurd (omega (arith, low)); enough = omega arith }

  -- one that isn't like it, or one of the first two, comes
  balanced_other : (past : List Event) (x : Event) → (2 ≤ length past → IsLike own x → ⊥) → IsBalanced past own → IsBalanced (past ++ x ∷ []) own
  balanced_other past x apart b = record {
    asks = b.asks;
    answered = b.answered;
    distinct = b.distinct;
    are_asks = λ i m. let y = b.are_asks i m in (y.0, at_append past (x ∷ []) i y.0 y.1, y.2);
    are_all = λ i other two at like. elim (at_push past x i other at) as (λ _. IsIn b.answered i) [
      | inl old ↦ b.are_all i other two old like
      | inr new ↦ absurd (apart (subst (λ k. 2 ≤ k) new.0 two) (subst (IsLike own) (sym new.1) like))
    ];
    enough = b.enough;
  }

  -- one like it comes, which was asked for
  balanced_own : (past : List Event) (x : Event) → WasAsked past own → IsBalanced (past ++ x ∷ []) own
  balanced_own past x w =
      let more = w.more in
      record {
        asks = w.asks;
        answered = length past ∷ w.answered;
        distinct = w.distinct;
        are_asks = λ i m. let y = w.are_asks i m in (y.0, at_append past (x ∷ []) i y.0 y.1, y.2);
        are_all = λ i other two at like. elim (at_push past x i other at) as (λ _. (length past ≡ i) ⊎ IsIn w.answered i) [
          | inl old ↦ inr (w.are_all i other two old like)
          | inr new ↦ inl (sym new.0)
        ];
        enough = omega (arith, more);
      }

  module _ (same : (x y : StepCall) → (x ≡ y) ⊎ (x ≡ y → ⊥)) (asks : c ≡ call.Report → ⊥) (tells : Bool) where
    push_step : (past : List Event) (m t : ℕ) (d : StepCall) (r : StepReply) → (m ≡ n) → (t ≡ s) → (d ≡ c) → StepWasAsked past (event.Step m t d r) → IsBalanced (past ++ event.Step m t d r ∷ []) own
    push_step past m t d r node shard made h =
        let w : WasAsked past (event.Step n s c r) = asked_unless c past r asks (subst (λ k. StepWasAsked past (event.Step k s c r)) node (subst (λ k. StepWasAsked past (event.Step m k c r)) shard (subst (λ k. StepWasAsked past (event.Step m t k r)) made h))) in
        balanced_own past (event.Step m t d r) (asked_any r past w).1

    push : (past : List Event) (x : Event) → LawfulAt tells (length past) past x → IsBalanced past own → IsBalanced (past ++ x ∷ []) own
    push past (event.Step m t d r) law b =
        elim (cases_eq m n) as (λ _. IsBalanced (past ++ event.Step m t d r ∷ []) own) [
          | inr other ↦ balanced_other past (event.Step m t d r) (λ two like. let is = like.0 in absurd (omega (arith, is, other))) b
          | inl node ↦ elim (cases_eq t s) as (λ _. IsBalanced (past ++ event.Step m t d r ∷ []) own) [
            | inr other ↦ balanced_other past (event.Step m t d r) (λ two like. let is = like.1 in absurd (omega (arith, is, other))) b
            | inl shard ↦ elim (same d c) as (λ _. IsBalanced (past ++ event.Step m t d r ∷ []) own) [
              | inr other ↦ balanced_other past (event.Step m t d r) (λ two like. other like.2) b
              | inl made ↦ at_position past law node shard made b
            ]
          ]
        ]
      where
        at_position : (xs : List Event) → LawfulAt tells (length xs) xs (event.Step m t d r) → m ≡ n → t ≡ s → d ≡ c → IsBalanced xs own → IsBalanced (xs ++ event.Step m t d r ∷ []) own
        at_position [] law node shard made b = absurd law
        at_position (y ∷ []) law node shard made b = absurd law
        at_position (y ∷ z ∷ xs) law node shard made b = push_step (y ∷ z ∷ xs) m t d r node shard made law.0
    push past _ law b = balanced_other past _ (λ two like. absurd like) b

    by_length : (k : ℕ) (past : List Event) → length past ≡ k → Legal tells past → IsBalanced past own
    by_length k [] is legal = empty_balanced
    by_length zero (x ∷ past) is legal = absurd (omega (arith, is))
    by_length (suc k) (x ∷ past) is legal =
        let last = snoc x past in
        let legal' : Legal tells (last.0 ++ last.1 ∷ []) = subst (Legal tells) last.2 legal in
        let long = ap length last.2 ∙ length-append last.0 (last.1 ∷ []) in
        subst (λ l. IsBalanced l own) (sym last.2) (push last.0 last.1 (legal_last tells last.0 last.1 legal') (by_length k last.0 (omega (arith, is, long)) (legal_init tells last.0 (last.1 ∷ []) legal')))

    pub balanced : (past : List Event) → Legal tells past → IsBalanced past own
    balanced past legal = by_length (length past) past refl legal

  pub was_asked : (past : List Event) → IsBalanced past (event.Step n s c a) → WasAsked (past ++ event.Ask (asked.Step n s c) ∷ []) (event.Step n s c a)
  was_asked past b =
      let enough = b.enough in
      record {
        asks = length past ∷ b.asks;
        answered = b.answered;
        distinct = (λ j m same. let x = b.are_asks j m in let low = at_within past j x.0 x.1 in absurd (omega (arith, same, low)), b.distinct);
        are_asks = λ i m. elim m as (λ _. (ask : Event) × At (past ++ event.Ask (asked.Step n s c) ∷ []) i ask × IsAskFor (event.Step n s c a) ask) [
          | inl here ↦ (event.Ask (asked.Step n s c), subst (λ k. At (past ++ event.Ask (asked.Step n s c) ∷ []) k (event.Ask (asked.Step n s c))) here (at_last past (event.Ask (asked.Step n s c))), (refl, refl, refl))
          | inr old ↦ let x = b.are_asks i old in (x.0, at_append past (event.Ask (asked.Step n s c) ∷ []) i x.0 x.1, x.2)
        ];
        are_all = λ i other two at like. elim (at_push past (event.Ask (asked.Step n s c)) i other at) as (λ _. IsIn b.answered i) [
          | inl old ↦ b.are_all i other two old like
          | inr new ↦ absurd (subst (IsLike (event.Step n s c a)) (sym new.1) like)
        ];
        more = omega (arith, enough);
      }

-- a step that was asked for, whatever it is
pub asked_by : (past : List Event) (n s : ℕ) (c : StepCall) (a : StepReply) → WasAsked past (event.Step n s c a) → StepWasAsked past (event.Step n s c a)
asked_by past n s call.Report a h = tt
asked_by past n s _ a h = h
