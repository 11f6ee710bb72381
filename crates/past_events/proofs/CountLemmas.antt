-- Counting the events of a list that are as asked.
use Rattle.std.proofs.Common.{◌≡◌, ◌⊎◌, ◌↔◌, ℕ, suc, ◌+◌, ◌<◌, ◌≤◌, List, [], ◌∷◌, take, length, refl, sym, subst, inl, inr, arith, add-one}
use Rattle.std.proofs.lemmas.Bool.{cases_eq}
use Rattle.m3_model.specs.Members.{IsIn}
use Rattle.cluster_core.specs.Asks.{IsAskFor, IsLike, WasAsked}
use Rattle.cluster_core.specs.Lists.{At, IsDistinct}
use Rattle.cluster_core.specs.declared.event.Event.{Event}
use Rattle.cluster_core.proofs.ListLemmas.{at_same, at_take, take_at}
use Rattle.cluster_core.proofs.QuorumLemmas.{distinct_within}

-- n positions of the list have an event that is as asked
pub record Counted (P : ℕ → Event → Type 0) (past : List Event) (n : ℕ) : Type 0 where
  pub positions : List ℕ
  pub distinct : IsDistinct positions
  pub sound : (i : ℕ) → IsIn positions i → (e : Event) × At past i e × P i e
  pub all : (i : ℕ) (e : Event) → At past i e → P i e → IsIn positions i
  pub number : length positions ≡ n

pub counted_none : (P : ℕ → Event → Type 0) (past : List Event) → Counted P (take 0 past) 0
counted_none P past = record { positions = []; distinct = tt; sound = λ i m. absurd m; all = λ i e at p. absurd (omega (arith, (at_take past i 0 e at).1)); number = refl }

counted_suc : (P : ℕ → Event → Type 0) (past : List Event) (i n : ℕ) (e : Event) → At past i e → P i e → Counted P (take i past) n → Counted P (take (suc i) past) (n + 1)
counted_suc P past i n e there p h = record {
  positions = i ∷ h.positions;
  distinct = (λ j m same. let s = h.sound j m in absurd (omega (arith, same, (at_take past j i s.0 s.1).1)), h.distinct);
  sound = λ j m. elim m as (λ _. (x : Event) × At (take (suc i) past) j x × P j x) [
    | inl same ↦ subst (λ k. (x : Event) × At (take (suc i) past) k x × P k x) same (e, take_at past i (suc i) e there (omega arith), p)
    | inr later ↦ let s = h.sound j later in let t = at_take past j i s.0 s.1 in (s.0, take_at past j (suc i) s.0 t.0 (omega (arith, t.1)), s.2)
  ];
  all = λ j x at q. let t = at_take past j (suc i) x at in elim (cases_eq i j) as (λ _. (i ≡ j) ⊎ IsIn h.positions j) [
    | inl same ↦ inl same
    | inr other ↦ inr (h.all j x (take_at past j i x t.0 (omega (arith, t.1, other))) q)
  ];
  number = omega (arith, h.number);
}

counted_same : (P : ℕ → Event → Type 0) (past : List Event) (i n : ℕ) (e : Event) → At past i e → ¬ P i e → Counted P (take i past) n → Counted P (take (suc i) past) n
counted_same P past i n e there isnt h = record {
  positions = h.positions;
  distinct = h.distinct;
  sound = λ j m. let s = h.sound j m in let t = at_take past j i s.0 s.1 in (s.0, take_at past j (suc i) s.0 t.0 (omega (arith, t.1)), s.2);
  all = λ j x at q. let t = at_take past j (suc i) x at in elim (cases_eq i j) as (λ _. IsIn h.positions j) [
    | inl same ↦ absurd (isnt (subst (λ k. P k e) (sym same) (subst (P j) (at_same past j x e t.0 (subst (λ k. At past k e) same there)) q)))
    | inr other ↦ h.all j x (take_at past j i x t.0 (omega (arith, t.1, other))) q
  ];
  number = h.number;
}

pub counted_here : (P : ℕ → Event → Type 0) (past : List Event) (i n : ℕ) (e : Event) → At past i e → P i e → Counted P (take i past) n → Counted P (take (i + 1) past) (n + 1)
counted_here P past i n e there p h = subst (λ k. Counted P (take k past) (n + 1)) (sym (add-one i)) (counted_suc P past i n e there p h)

pub counted_not : (P : ℕ → Event → Type 0) (past : List Event) (i n : ℕ) (e : Event) → At past i e → ¬ P i e → Counted P (take i past) n → Counted P (take (i + 1) past) n
counted_not P past i n e there isnt h = subst (λ k. Counted P (take k past) n) (sym (add-one i)) (counted_same P past i n e there isnt h)

-- an Ask for the event
abbrev pub Asking : Event → ℕ → Event → Type 0
Asking e i ask = IsAskFor e ask

-- an event like it, past the first two
abbrev pub Answering : Event → ℕ → Event → Type 0
Answering e i other = (2 ≤ i) × IsLike e other

pub asked_decided : (past : List Event) (e : Event) (asks answered : ℕ) → Counted (Asking e) past asks → Counted (Answering e) past answered → (answered < asks) ↔ WasAsked past e
asked_decided past e asks answered a b = (
  λ less. record {
    asks = a.positions;
    answered = b.positions;
    distinct = a.distinct;
    are_asks = a.sound;
    are_all = λ i other low at like. b.all i other at (low, like);
    more = omega (arith, a.number, b.number, less);
  },
  λ h.
      let many = distinct_within h.asks a.positions h.distinct (λ i m. let k = h.are_asks i m in a.all i k.0 k.1 k.2) in
      let few = distinct_within b.positions h.answered b.distinct (λ i m. let k = b.sound i m in h.are_all i k.0 (k.2).0 k.1 (k.2).1) in
      omega (arith, many, few, h.more, a.number, b.number),
)
