-- The best of the nodes so far.
use Rattle.std.proofs.Common.{◌≡◌, ◌<◌, ◌+◌, ℕ, List, Bool, true, false, cond, Option, Some, None, IfSome, IfNone, MatchOption, refl, sym, ap, subst, inl, inr, arith}
use Rattle.std.specs.Cmp.{IsTotalOrder}
use Rattle.std.specs.Ordering.{is_gt, is_lt, ordering_reverse}
use Rattle.std.specs.declared.cmp.Ordering.{Ordering}
use Rattle.std.specs.declared.cmp.Ordering.TheVariants.{Less, Equal, Greater}
use Rattle.std.proofs.lemmas.Bool.{cases_eq}
use Rattle.std.proofs.lemmas.Cmp.{then_total, on_total, nat_cmp_total, nat_list_cmp_total, upto, tied_itself}
use Rattle.placement_core.specs.m3_model.declared.placement.Instance.{Instance}
use Rattle.placement_core.specs.NodeNames.{name_of}
use Rattle.placement_plan.specs.Choices.{taking_cmp, IsLeastLoaded}

pub taking_total : (instances : List Instance) (load_at : ℕ → ℕ) → IsTotalOrder (taking_cmp instances load_at)
taking_total instances load_at = then_total (on_total load_at nat_cmp_total) (on_total (name_of instances) nat_list_cmp_total)

-- of the nodes below this number that may, this one is to be taken first
pub record IsBest (cmp : ℕ → ℕ → Ordering) (May : ℕ → Type 0) (n best : ℕ) : Type 0 where
  pub below : best < n
  pub may : May best
  pub least : (other : ℕ) → other < n → May other → is_gt (cmp best other) ≡ false

abbrev pub BestBelow : (ℕ → ℕ → Ordering) → (ℕ → Type 0) → ℕ → Option ℕ → Type 0
BestBelow cmp May n best = MatchOption best ((other : ℕ) → other < n → ¬ May other) (IsBest cmp May n)

pub best_skip : (cmp : ℕ → ℕ → Ordering) (May : ℕ → Type 0) (n : ℕ) (best : Option ℕ) → ¬ May n → BestBelow cmp May n best → BestBelow cmp May (n + 1) best
best_skip cmp May n None not h = λ other lt may. elim (cases_eq other n) as (λ _. ⊥) [ inl e ↦ not (subst May e may) | inr ne ↦ h other (omega (arith, lt, ne)) may ]
best_skip cmp May n (Some b) not h = record {
  below = omega (arith, h.below);
  may = h.may;
  least = λ other lt may. elim (cases_eq other n) as (λ _. is_gt (cmp b other) ≡ false) [ inl e ↦ absurd (not (subst May e may)) | inr ne ↦ h.least other (omega (arith, lt, ne)) may ];
}

not_above : (o p : Ordering) → p ≡ ordering_reverse o → is_lt o ≡ false → is_gt p ≡ false
not_above Less p e f = let clash : true ≡ false = f in cc
not_above Equal p e f = ap is_gt e
not_above Greater p e f = ap is_gt e

below_not : (o : Ordering) → is_lt o ≡ true → is_gt o ≡ false
below_not Less e = refl
below_not Equal e = let clash : false ≡ true = e in cc
below_not Greater e = let clash : false ≡ true = e in cc

takes_by : (cmp : ℕ → ℕ → Ordering) (total : IsTotalOrder cmp) (May : ℕ → Type 0) (n b r : ℕ) (test : Bool) → is_lt (cmp n b) ≡ test → r ≡ cond test n b → May n → IsBest cmp May n b → IsBest cmp May (n + 1) r
takes_by cmp total May n b r true is e may h = subst (IsBest cmp May (n + 1)) (sym e) (record {
  below = omega arith;
  may = may;
  least = λ other lt other_may. elim (cases_eq other n) as (λ _. is_gt (cmp n other) ≡ false) [
    | inl same ↦ subst (λ k. is_gt (cmp n k) ≡ false) (sym same) (ap is_gt (tied_itself total n))
    | inr ne ↦ upto total n b other (below_not (cmp n b) is) (h.least other (omega (arith, lt, ne)) other_may)
  ];
})
takes_by cmp total May n b r false is e may h = subst (IsBest cmp May (n + 1)) (sym e) (record {
  below = omega (arith, h.below);
  may = h.may;
  least = λ other lt other_may. elim (cases_eq other n) as (λ _. is_gt (cmp b other) ≡ false) [
    | inl same ↦ subst (λ k. is_gt (cmp b k) ≡ false) (sym same) (not_above (cmp n b) (cmp b n) (total.antisymm b n) is)
    | inr ne ↦ h.least other (omega (arith, lt, ne)) other_may
  ];
})

pub best_takes : (cmp : ℕ → ℕ → Ordering) (total : IsTotalOrder cmp) (May : ℕ → Type 0) (n r : ℕ) (best : Option ℕ) → IfNone best (r ≡ n) → IfSome best (λ b. r ≡ cond (is_lt (cmp n b)) n b) → May n → BestBelow cmp May n best → BestBelow cmp May (n + 1) (Some r)
best_takes cmp total May n r None alone before may h = subst (IsBest cmp May (n + 1)) (sym alone) (record {
  below = omega arith;
  may = may;
  least = λ other lt other_may. elim (cases_eq other n) as (λ _. is_gt (cmp n other) ≡ false) [
    | inl same ↦ subst (λ k. is_gt (cmp n k) ≡ false) (sym same) (ap is_gt (tied_itself total n))
    | inr ne ↦ absurd (h other (omega (arith, lt, ne)) other_may)
  ];
})
best_takes cmp total May n r (Some b) alone before may h = takes_by cmp total May n b r (is_lt (cmp n b)) refl before may h

pub best_found : (instances : List Instance) (load_at : ℕ → ℕ) (May : ℕ → Type 0) (n : ℕ) (best : Option ℕ) → ((m : ℕ) → May m → m < n) → BestBelow (taking_cmp instances load_at) May n best → IfSome best (IsLeastLoaded instances load_at May)
best_found instances load_at May n None within h = tt
best_found instances load_at May n (Some b) within h = record { may = h.may; least = λ other may. h.least other (within other may) may }

pub best_none : (cmp : ℕ → ℕ → Ordering) (May : ℕ → Type 0) (n : ℕ) (best : Option ℕ) → ((m : ℕ) → May m → m < n) → BestBelow cmp May n best → IfNone best ((node : ℕ) → ¬ May node)
best_none cmp May n None within h = λ node may. h node (within node may) may
best_none cmp May n (Some b) within h = tt

pub best_within : (cmp : ℕ → ℕ → Ordering) (May : ℕ → Type 0) (n bound : ℕ) (best : Option ℕ) → n < bound → BestBelow cmp May n best → IfSome best (λ b. b < bound)
best_within cmp May n bound None lt h = tt
best_within cmp May n bound (Some b) lt h = omega (arith, h.below, lt)
