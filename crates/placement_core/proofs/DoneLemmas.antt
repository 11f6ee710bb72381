-- Done lists.
use Rattle.std.proofs.Common.{◌≡◌, ◌↔◌, ℕ, suc, ◌+◌, ◌<◌, ◌≤◌, List, [], ◌∷◌, drop, get_or, length, Some, None, Option, IfSome, IfNone, is_some, ◌≢◌, zero, Bool, true, false, nat_eq, cond, arith, inl, inr, sym, subst, ap, refl, ◌∙◌, ◌⊎◌}
use Rattle.std.proofs.lemmas.Bool.{cases_eq, cases_lt, eq-eqb, ne_eqb}
use Rattle.std.proofs.lemmas.List.{drop_more}
use Rattle.m3_model.specs.Members.{IsIn}
use Rattle.m3_model.specs.Ascends.{Ascends}
use Rattle.placement_core.specs.Steps.{IsDoneList, done_at}

-- a done list whose shards are at least the first number, and below the second
pub record IsDoneFrom (least shards : ℕ) (done : List (ℕ × ℕ)) : Type 0 where
  pub ascending : Ascends (λ d e. d.0 < e.0) done
  pub from : (d : ℕ × ℕ) → IsIn done d → least ≤ d.0
  pub within : (d : ℕ × ℕ) → IsIn done d → d.0 < shards

pub later_done : (least shards : ℕ) (d : ℕ × ℕ) (ds : List (ℕ × ℕ)) → IsDoneFrom least shards (d ∷ ds) → IsDoneFrom (d.0 + 1) shards ds
later_done least shards d ds h = record {
  ascending = (h.ascending).1;
  from = λ e m. omega (arith, (h.ascending).0 e m);
  within = λ e m. h.within e (inr m);
}

pub more_done : (least shards : ℕ) (d : ℕ × ℕ) (ds : List (ℕ × ℕ)) → least ≤ d.0 → d.0 < shards → IsDoneFrom (d.0 + 1) shards ds → IsDoneFrom least shards (d ∷ ds)
more_done least shards d ds low high h = record {
  ascending = (λ e m. omega (arith, h.from e m), h.ascending);
  from = λ e m. elim m as (λ _. least ≤ e.0) [ inl same ↦ omega (arith, ap (λ (p : ℕ × ℕ). p.0) same) | inr r ↦ omega (arith, h.from e r) ];
  within = λ e m. elim m as (λ _. e.0 < shards) [ inl same ↦ omega (arith, ap (λ (p : ℕ × ℕ). p.0) same) | inr r ↦ h.within e r ];
}

-- one more pair is looked at
pub done_step : (Q : Type 0) (least shards i : ℕ) (done : List (ℕ × ℕ)) (d : ℕ × ℕ) → i < length done → least ≤ (get_or done i d).0 → (get_or done i d).0 < shards
    → Q ↔ IsDoneFrom least shards (drop i done) → Q ↔ IsDoneFrom ((get_or done i d).0 + 1) shards (drop (i + 1) done)
done_step Q least shards i done d lt low high h = (
  λ q. later_done least shards (get_or done i d) (drop (i + 1) done) (subst (IsDoneFrom least shards) (drop_more done i d lt) (h.0 q)),
  λ f. h.1 (subst (IsDoneFrom least shards) (sym (drop_more done i d lt)) (more_done least shards (get_or done i d) (drop (i + 1) done) low high f)),
)

-- the pair that is looked at is refused
pub done_refused : (Q : Type 0) (least shards i : ℕ) (done : List (ℕ × ℕ)) (d : ℕ × ℕ) → i < length done → ((get_or done i d).0 < least) ⊎ (shards ≤ (get_or done i d).0)
    → Q ↔ IsDoneFrom least shards (drop i done) → ¬ Q
done_refused Q least shards i done d lt out h q =
    let f : IsDoneFrom least shards (get_or done i d ∷ drop (i + 1) done) = subst (IsDoneFrom least shards) (drop_more done i d lt) (h.0 q) in
    elim out as (λ _. ⊥) [
      | inl low ↦ absurd (omega (arith, low, f.from (get_or done i d) (inl refl)))
      | inr high ↦ absurd (omega (arith, high, f.within (get_or done i d) (inl refl)))
    ]

-- ---- the cursor of a done list

at_by : (shard : ℕ) (d : ℕ × ℕ) (ds : List (ℕ × ℕ)) (b : Bool) → nat_eq d.0 shard ≡ b → b ≡ false → cond b (Some d.1) (done_at shard ds) ≡ done_at shard ds
at_by shard d ds true is off = let clash : true ≡ false = off in cc
at_by shard d ds false is off = refl

-- a pair of another shard doesn't count
pub at_other : (shard : ℕ) (d : ℕ × ℕ) (ds : List (ℕ × ℕ)) → (d.0 ≡ shard → ⊥) → done_at shard (d ∷ ds) ≡ done_at shard ds
at_other shard d ds ne = at_by shard d ds (nat_eq d.0 shard) refl (ne_eqb d.0 shard ne)

here_by : (shard : ℕ) (d : ℕ × ℕ) (ds : List (ℕ × ℕ)) (b : Bool) → nat_eq d.0 shard ≡ b → b ≡ true → cond b (Some d.1) (done_at shard ds) ≡ Some d.1
here_by shard d ds true is on = refl
here_by shard d ds false is on = let clash : false ≡ true = on in cc

pub at_here : (shard : ℕ) (d : ℕ × ℕ) (ds : List (ℕ × ℕ)) → d.0 ≡ shard → done_at shard (d ∷ ds) ≡ Some d.1
at_here shard d ds e = here_by shard d ds (nat_eq d.0 shard) refl (eq-eqb d.0 shard e)

-- no pair of a list that begins above the shard is the shard's
pub at_none : (shard least shards : ℕ) (done : List (ℕ × ℕ)) → IsDoneFrom least shards done → shard < least → done_at shard done ≡ None
at_none shard least shards [] h lt = refl
at_none shard least shards (d ∷ ds) h lt =
    at_other shard d ds (λ e. absurd (omega (arith, h.from d (inl refl), e))) ∙ at_none shard least shards ds (record { ascending = (h.ascending).1; from = λ e m. h.from e (inr m); within = λ e m. h.within e (inr m) }) lt

-- what the pairs from a shard on say of it, and which are left
pub record Cursor (done rest : List (ℕ × ℕ)) (number shards : ℕ) : Type 0 where
  pub left : IsDoneFrom number shards rest
  pub same : (s : ℕ) → number ≤ s → done_at s rest ≡ done_at s done

-- the first pair is the shard's
pub cursor_takes : (done rest : List (ℕ × ℕ)) (number shards : ℕ) (d : ℕ × ℕ) (later : List (ℕ × ℕ)) → Cursor done rest number shards → rest ≡ d ∷ later → d.0 ≡ number
    → Cursor done later (number + 1) shards × (done_at number done ≡ Some d.1)
cursor_takes done rest number shards d later c is e =
    let left : IsDoneFrom number shards (d ∷ later) = subst (IsDoneFrom number shards) is c.left in (
      record {
        left = subst (λ n. IsDoneFrom (n + 1) shards later) e (later_done number shards d later left);
        same = λ s le. sym (at_other s d later (λ f. absurd (omega (arith, e, f, le)))) ∙ ap (done_at s) (sym is) ∙ c.same s (omega (arith, le));
      },
      sym (c.same number (omega arith)) ∙ ap (done_at number) is ∙ at_here number d later e,
    )

-- the first pair is another shard's, or there is none
pub cursor_waits : (done rest : List (ℕ × ℕ)) (number shards : ℕ) → Cursor done rest number shards → ((d : ℕ × ℕ) (later : List (ℕ × ℕ)) → rest ≡ d ∷ later → d.0 ≡ number → ⊥)
    → Cursor done rest (number + 1) shards × (done_at number done ≡ None)
cursor_waits done [] number shards c other = (
  record { left = record { ascending = tt; from = λ d m. absurd m; within = λ d m. absurd m }; same = λ s le. c.same s (omega (arith, le)) },
  sym (c.same number (omega arith)),
)
cursor_waits done (d ∷ later) number shards c other =
    let above : number + 1 ≤ d.0 = elim (cases_eq d.0 number) as (λ _. number + 1 ≤ d.0) [ inl e ↦ absurd (other d later refl e) | inr ne ↦ omega (arith, ne, (c.left).from d (inl refl)) ] in
    let left : IsDoneFrom (number + 1) shards (d ∷ later) = record {
      ascending = (c.left).ascending;
      from = λ e m. elim m as (λ _. number + 1 ≤ e.0) [ inl same ↦ omega (arith, above, ap (λ (p : ℕ × ℕ). p.0) same) | inr r ↦ omega (arith, above, ((c.left).ascending).0 e r) ];
      within = (c.left).within;
    } in
    (record { left = left; same = λ s le. c.same s (omega (arith, le)) }, sym (c.same number (omega arith)) ∙ at_none number (number + 1) shards (d ∷ later) left (omega arith))

pub cursor_start : (done : List (ℕ × ℕ)) (shards : ℕ) → IsDoneList shards done → Cursor done done 0 shards
cursor_start done shards h = record { left = record { ascending = h.ascending; from = λ d m. omega arith; within = h.within }; same = λ s le. refl }

head_of_rest : {X : Type 0} (xs : List X) (i : ℕ) (d : X) (later : List X) (z : X) → drop i xs ≡ d ∷ later → (i < length xs) × (get_or xs i z ≡ d)
head_of_rest [] zero d later z e = cc
head_of_rest [] (suc i) d later z e = cc
head_of_rest (x ∷ xs) zero d later z e = (omega arith, cc)
head_of_rest (x ∷ xs) (suc i) d later z e = let h = head_of_rest xs i d later z e in (omega (arith, h.0), h.1)

-- the cursor moves on where the shard has a pair
pub cursor_moves : (done : List (ℕ × ℕ)) (at after number shards : ℕ) (joining : Option ℕ) → Cursor done (drop at done) number shards
    → IfSome joining (λ node. (at < length done) × (get_or done at (0, 0) ≡ (number, node)))
    → IfNone joining (at < length done → (get_or done at (0, 0)).0 ≢ number)
    → ((is_some joining ≡ true) × (after ≡ at + 1)) ⊎ ((is_some joining ≡ false) × (after ≡ at))
    → Cursor done (drop after done) (number + 1) shards × (done_at number done ≡ joining)
cursor_moves done at after number shards None c found other way =
    let waits = cursor_waits done (drop at done) number shards c (λ d later e f. let h = head_of_rest done at d later (0, 0) e in other h.0 (ap (λ (p : ℕ × ℕ). p.0) h.1 ∙ f)) in
    elim way as (λ _. Cursor done (drop after done) (number + 1) shards × (done_at number done ≡ None)) [
      | inl w ↦ let clash : false ≡ true = w.0 in cc
      | inr w ↦ (subst (λ n. Cursor done (drop n done) (number + 1) shards) (sym w.1) waits.0, waits.1)
    ]
cursor_moves done at after number shards (Some node) c found other way =
    let takes = cursor_takes done (drop at done) number shards (get_or done at (0, 0)) (drop (at + 1) done) c (drop_more done at (0, 0) found.0) (ap (λ (p : ℕ × ℕ). p.0) found.1) in
    elim way as (λ _. Cursor done (drop after done) (number + 1) shards × (done_at number done ≡ Some node)) [
      | inl w ↦ (subst (λ n. Cursor done (drop n done) (number + 1) shards) (sym w.1) takes.0, takes.1 ∙ ap (λ (p : ℕ × ℕ). Some p.1) found.1)
      | inr w ↦ let clash : true ≡ false = w.0 in cc
    ]

-- ---- done lists that say the same of each shard are one

later_from : (least shards : ℕ) (d : ℕ × ℕ) (ds : List (ℕ × ℕ)) → IsDoneFrom least shards (d ∷ ds) → IsDoneFrom least shards ds
later_from least shards d ds h = record { ascending = (h.ascending).1; from = λ e m. h.from e (inr m); within = λ e m. h.within e (inr m) }

first_least : (shards : ℕ) (least : ℕ) (d : ℕ × ℕ) (ds : List (ℕ × ℕ)) → IsDoneFrom least shards (d ∷ ds) → IsDoneFrom d.0 shards (d ∷ ds)
first_least shards least d ds h = record {
  ascending = h.ascending;
  from = λ e m. elim m as (λ _. d.0 ≤ e.0) [ inl same ↦ omega (arith, ap (λ (p : ℕ × ℕ). p.0) same) | inr r ↦ omega (arith, (h.ascending).0 e r) ];
  within = h.within;
}

-- a list that says something of a shard doesn't begin above it
not_above : (shards least least' : ℕ) (d e : ℕ × ℕ) (ds es : List (ℕ × ℕ)) → IsDoneFrom least shards (d ∷ ds) → IsDoneFrom least' shards (e ∷ es)
    → ((s : ℕ) → s < shards → done_at s (d ∷ ds) ≡ done_at s (e ∷ es)) → e.0 ≤ d.0
not_above shards least least' d e ds es hd he same =
    elim (cases_lt d.0 e.0) as (λ _. e.0 ≤ d.0) [
      | inl lt ↦
          let told : Some d.1 ≡ None = sym (at_here d.0 d ds refl) ∙ same d.0 (hd.within d (inl refl)) ∙ at_none d.0 e.0 shards (e ∷ es) (first_least shards least' e es he) lt in
          cc
      | inr ge ↦ ge
    ]

tails_same : (shards least least' : ℕ) (d e : ℕ × ℕ) (ds es : List (ℕ × ℕ)) → IsDoneFrom least shards (d ∷ ds) → IsDoneFrom least' shards (e ∷ es) → d.0 ≡ e.0
    → ((s : ℕ) → s < shards → done_at s (d ∷ ds) ≡ done_at s (e ∷ es)) → (s : ℕ) → s < shards → done_at s ds ≡ done_at s es
tails_same shards least least' d e ds es hd he first same s lt =
    elim (cases_eq d.0 s) as (λ _. done_at s ds ≡ done_at s es) [
      | inl at ↦ at_none s (d.0 + 1) shards ds (later_done least shards d ds hd) (omega (arith, at)) ∙ sym (at_none s (e.0 + 1) shards es (later_done least' shards e es he) (omega (arith, at, first)))
      | inr ne ↦ sym (at_other s d ds ne) ∙ same s lt ∙ at_other s e es (λ f. ne (first ∙ f))
    ]

pub one_done_list : (shards least least' : ℕ) (done other : List (ℕ × ℕ)) → IsDoneFrom least shards done → IsDoneFrom least' shards other → ((s : ℕ) → s < shards → done_at s done ≡ done_at s other) → done ≡ other
one_done_list shards least least' [] [] hd he same = refl
one_done_list shards least least' [] (e ∷ es) hd he same = let told : None ≡ Some e.1 = same e.0 (he.within e (inl refl)) ∙ at_here e.0 e es refl in cc
one_done_list shards least least' (d ∷ ds) [] hd he same = let told : Some d.1 ≡ None = sym (at_here d.0 d ds refl) ∙ same d.0 (hd.within d (inl refl)) in cc
one_done_list shards least least' (d ∷ ds) (e ∷ es) hd he same =
    let low = not_above shards least least' d e ds es hd he same in
    let high = not_above shards least' least e d es ds he hd (λ s lt. sym (same s lt)) in
    let first : d.0 ≡ e.0 = omega (arith, low, high) in
    let told : Some d.1 ≡ Some e.1 = sym (at_here d.0 d ds refl) ∙ same d.0 (hd.within d (inl refl)) ∙ at_here d.0 e es (sym first) in
    let node : d.1 ≡ e.1 = cc in
    let rest = one_done_list shards least least' ds es (later_from least shards d ds hd) (later_from least' shards e es he) (tails_same shards least least' d e ds es hd he first same) in
    λ i. (first i, node i) ∷ rest i

pub from_start : (shards : ℕ) (done : List (ℕ × ℕ)) → IsDoneList shards done → IsDoneFrom 0 shards done
from_start shards done h = record { ascending = h.ascending; from = λ d m. omega arith; within = h.within }
