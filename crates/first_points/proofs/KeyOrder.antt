-- The order of keys by their parts.
use Rattle.std.proofs.Common.{◌≡◌, ℕ, ◌<◌, ◌≤◌, ◌⊎◌, List, refl, sym, ap, ◌∙◌, subst, inl, inr, arith, true}
use Rattle.std.specs.Prelude.{nat_le}
use Rattle.std.specs.Ordering.{nat_cmp, ordering_then}
use Rattle.std.specs.Cmp.{tied_itself}
use Rattle.std.specs.Cmp.Lexicographic.{slice_cmp}
use Rattle.std.specs.declared.cmp.Ordering.TheVariants.{Less, Equal}
use Rattle.std.proofs.lemmas.Bool.{leb-true, le-leb}
use Rattle.std.proofs.lemmas.Bool.Decides.{nat_tests}
use Rattle.std.proofs.lemmas.Cmp.{nat_cmp_total, nat_list_cmp_total}
use Rattle.m3_model.specs.Keys.{key_cmp}
use Rattle.m3_model.specs.Tags.{IsBelow}
use Rattle.m3_model.specs.declared.point.Key.{Key}
use Rattle.first_points.proofs.TurnLemmas.{not_itself, not_both}

tied : (m n : ℕ) → m ≡ n → nat_cmp m n ≡ Equal
tied m n same = subst (λ k. nat_cmp m k ≡ Equal) same (tied_itself nat_cmp_total m)

tied_ids : (x y : List ℕ) → x ≡ y → slice_cmp nat_cmp x y ≡ Equal
tied_ids x y same = subst (λ z. slice_cmp nat_cmp x z ≡ Equal) same (tied_itself nat_list_cmp_total x)

pub below : (m n : ℕ) → m < n → nat_cmp m n ≡ Less
below m n less = grind (arith, nat_tests)

pub by_space : (a b : Key) → a.ns < b.ns → key_cmp a b ≡ Less
by_space a b less = ap (λ o. ordering_then o (ordering_then (slice_cmp nat_cmp a.id b.id) (nat_cmp a.t b.t))) (below a.ns b.ns less)

pub by_id : (a b : Key) → a.ns ≡ b.ns → IsBelow a.id b.id → key_cmp a b ≡ Less
by_id a b same less =
    ap (λ o. ordering_then o (ordering_then (slice_cmp nat_cmp a.id b.id) (nat_cmp a.t b.t))) (tied a.ns b.ns same) ∙ ap (λ o. ordering_then o (nat_cmp a.t b.t)) less

pub by_time : (a b : Key) → a.ns ≡ b.ns → a.id ≡ b.id → a.t < b.t → key_cmp a b ≡ Less
by_time a b same named less =
    ap (λ o. ordering_then o (ordering_then (slice_cmp nat_cmp a.id b.id) (nat_cmp a.t b.t))) (tied a.ns b.ns same)
    ∙ ap (λ o. ordering_then o (nat_cmp a.t b.t)) (tied_ids a.id b.id named) ∙ below a.t b.t less

-- a key of the same series isn't below one that isn't earlier
pub not_by_time : (a b : Key) → a.ns ≡ b.ns → a.id ≡ b.id → b.t ≤ a.t → key_cmp a b ≡ Less → ⊥
not_by_time a b same named late less = by (case late)
  where
    case : b.t ≤ a.t → (b.t < a.t) ⊎ (b.t ≡ a.t)
    case h = grind (arith, nat_tests)

    by : (b.t < a.t) ⊎ (b.t ≡ a.t) → ⊥
    by (inl early) = not_both a b less (by_time b a (sym same) (sym named) early)
    by (inr tie) = let e : a ≡ b = (λ i. record { ns = same i; id = named i; t = (sym tie) i }) in not_itself b (subst (λ k. key_cmp k b ≡ Less) e less)

-- what is before a time that isn't above one isn't either
pub not_above : (x y t : ℕ) → x < y → nat_le y t ≡ true → nat_le x t ≡ true
not_above x y t less pass = le-leb x t (let le = leb-true y t pass in omega (arith, le, less))
