-- The position of a namespace, as a loop finds it.
use Rattle.std.proofs.Common.{◌≡◌, ℕ, zero, suc, ◌+◌, ◌<◌, List, [], ◌∷◌, drop, length, get_or, refl, sym, ap, ◌∙◌, arith, add-one, true, false, cond}
use Rattle.std.specs.Prelude.{Option, Some, None, option_map, nat_eq}
use Rattle.std.specs.Cmp.Lexicographic.{pointwise}
use Rattle.m3_model.specs.declared.rules.Space.{Space}
use Rattle.m3_model.specs.Rules.{namespace_position}

drop_at : (spaces : List Space) (i : ℕ) (s : Space) → i < length spaces → s ≡ get_or spaces i s → drop i spaces ≡ s ∷ drop (suc i) spaces
drop_at [] i s h e = absurd (omega arith)
drop_at (x ∷ xs) zero s h e = ap (λ y. y ∷ xs) (sym e)
drop_at (x ∷ xs) (suc i) s h e = drop_at xs i s (omega arith) e

shift_by : (o : Option ℕ) (i : ℕ) → option_map (λ j. j + i) (option_map suc o) ≡ option_map (λ j. j + (i + 1)) o
shift_by None i = refl
shift_by (Some j) i = ap Some (omega arith)

-- the loop found the name
pub position_here : (name : List ℕ) (spaces : List Space) (i : ℕ) (s : Space) → i < length spaces → s ≡ get_or spaces i s → pointwise nat_eq name s.name ≡ true
    → namespace_position name spaces ≡ option_map (λ j. j + i) (namespace_position name (drop i spaces)) → Some i ≡ namespace_position name spaces
position_here name spaces i s h item same was =
    sym (was ∙ ap (λ xs. option_map (λ j. j + i) (namespace_position name xs)) (drop_at spaces i s h item)
    ∙ ap (λ b. option_map (λ j. j + i) (cond b (Some 0) (option_map suc (namespace_position name (drop (suc i) spaces))))) same ∙ ap Some (omega arith))

-- it goes on
pub position_later : (name : List ℕ) (spaces : List Space) (i : ℕ) (s : Space) → i < length spaces → s ≡ get_or spaces i s → pointwise nat_eq name s.name ≡ false
    → namespace_position name spaces ≡ option_map (λ j. j + i) (namespace_position name (drop i spaces)) → namespace_position name spaces ≡ option_map (λ j. j + (i + 1)) (namespace_position name (drop (i + 1) spaces))
position_later name spaces i s h item other was =
    was ∙ ap (λ xs. option_map (λ j. j + i) (namespace_position name xs)) (drop_at spaces i s h item)
    ∙ ap (λ b. option_map (λ j. j + i) (cond b (Some 0) (option_map suc (namespace_position name (drop (suc i) spaces))))) other
    ∙ shift_by (namespace_position name (drop (suc i) spaces)) i ∙ ap (λ n. option_map (λ j. j + (i + 1)) (namespace_position name (drop n spaces))) (sym (add-one i))
