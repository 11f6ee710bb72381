-- One list is made so, and one node is chosen.
use Rattle.std.proofs.Common.{◌≡◌, ◌≢◌, ◌<◌, ℕ, suc, List, [], ◌∷◌, length, take, Bool, true, false, nat_eq, slice_get, Some, Option, refl, sym, ap, ap₂, subst, ◌∙◌, arith}
use Rattle.std.specs.FinMap.{nat_cmp-IsAntisymmetric, slice_cmp-IsAntisymmetric}
use Rattle.std.specs.Option.{option_map_or}
use Rattle.std.specs.Ordering.{is_gt, nat_cmp, ordering_reverse, ordering_then}
use Rattle.std.specs.Cmp.{IsTotalOrder}
use Rattle.std.specs.Cmp.Lexicographic.{slice_cmp}
use Rattle.std.specs.declared.cmp.Ordering.{Ordering}
use Rattle.std.specs.declared.cmp.Ordering.TheVariants.{Less, Equal, Greater}
use Rattle.std.proofs.lemmas.Bool.{eqb-true, eqb-false}
use Rattle.std.proofs.lemmas.Option.{slice_get_within}
use Rattle.m3_model.specs.Ascends.{Ascends}
use Rattle.m3_model.specs.declared.placement.Instance.{Instance}
use Rattle.placement_core.specs.NodeNames.{name_of}
use Rattle.placement_core.proofs.OrderLemmas.{names_at}
use Rattle.placement_plan.specs.Choices.{IsLeastLoaded, taking_cmp}
use Rattle.placement_plan.specs.Plans.{MakesAll}
use Rattle.placement_plan.proofs.ChoiceLemmas.{taking_total}
use Rattle.placement_plan.proofs.DrainLemmas.{at_below}

-- ---- lists

-- lists of one length are the same where each element follows from those before it
pub same_by_prefix : {X : Type 0} (xs ys : List X) → length xs ≡ length ys
    → ((k : ℕ) (x y : X) → take k xs ≡ take k ys → slice_get xs k ≡ Some x → slice_get ys k ≡ Some y → x ≡ y) → xs ≡ ys
same_by_prefix [] [] e h = refl
same_by_prefix [] (y ∷ ys) e h = absurd (omega (arith, e))
same_by_prefix (x ∷ xs) [] e h = absurd (omega (arith, e))
same_by_prefix {X} (x ∷ xs) (y ∷ ys) e h =
    let first : x ≡ y = h 0 x y refl refl refl in
    let joined : (zs ws : List X) → zs ≡ ws → x ∷ zs ≡ y ∷ ws = λ zs ws same. ap₂ ◌∷◌ first same in
    joined xs ys (same_by_prefix xs ys (omega (arith, e)) (λ k a b f ea eb. h (suc k) a b (joined (take k xs) (take k ys) f) ea eb))

-- two lists that are made of one, where what is made of each element follows from it and those that are made before
pub made_once : {X : Type 0} (Made Also : ℕ → X → X → Type 0) (old one other : List X) → MakesAll Made old one → MakesAll Also old other
    → ((k : ℕ) (a b c : X) → slice_get old k ≡ Some a → take k one ≡ take k other → Made k a b → Also k a c → b ≡ c) → one ≡ other
made_once Made Also old one other m n h = same_by_prefix one other (m.count ∙ sym n.count) (λ k b c f eb ec.
    let a = at_below old k (subst (λ (z : ℕ). k < z) m.count (slice_get_within one k b eb)) in
    h k a.0 b c a.1 f (m.each k a.0 b a.1 eb) (n.each k a.0 c a.1 ec))

-- ---- nodes

name_is : (instances : List Instance) (n : ℕ) (x : Instance) → slice_get instances n ≡ Some x → name_of instances n ≡ x.name
name_is instances n x e = ap (λ (o : Option Instance). option_map_or (λ (i : Instance). i.name) o []) e

pub one_at : (instances : List Instance) (n m : ℕ) → Ascends (λ a b. a.name ≢ b.name) instances → (i j : Instance) → slice_get instances n ≡ Some i → slice_get instances m ≡ Some j → i.name ≡ j.name → n ≡ m
one_at instances n m distinct i j at also named = by (nat_eq n m) refl
  where
    by : (same : Bool) → nat_eq n m ≡ same → n ≡ m
    by true e = eqb-true n m e
    by false e = absurd (names_at instances n m i j distinct at also (eqb-false n m e) named)

none_above : (o p : Ordering) → o ≡ ordering_reverse p → is_gt o ≡ false → is_gt p ≡ false → o ≡ Equal
none_above o Less e f g = let clash : true ≡ false = ap is_gt (sym e) ∙ f in cc
none_above o Equal e f g = e
none_above o Greater e f g = let clash : true ≡ false = g in cc

second_equal : (a b : Ordering) → ordering_then a b ≡ Equal → b ≡ Equal
second_equal Less b e = cc
second_equal Equal b e = e
second_equal Greater b e = cc

-- of nodes with names of their own one comes first, in an order that ends with the names
pub one_first : (instances : List Instance) (cmp by_load : ℕ → ℕ → Ordering) → IsTotalOrder cmp → ((a b : ℕ) → cmp a b ≡ ordering_then (by_load a b) (slice_cmp nat_cmp (name_of instances a) (name_of instances b)))
    → Ascends (λ a b. a.name ≢ b.name) instances → (n m : ℕ) (i j : Instance) → slice_get instances n ≡ Some i → slice_get instances m ≡ Some j → is_gt (cmp n m) ≡ false → is_gt (cmp m n) ≡ false → n ≡ m
one_first instances cmp by_load total is distinct n m i j at also low high =
    let tied : cmp n m ≡ Equal = none_above (cmp n m) (cmp m n) (total.antisymm n m) low high in
    let named = slice_cmp-IsAntisymmetric nat_cmp-IsAntisymmetric (name_of instances n) (name_of instances m)
    (second_equal (by_load n m) (slice_cmp nat_cmp (name_of instances n) (name_of instances m)) (sym (is n m) ∙ tied)) in
    one_at instances n m distinct i j at also (sym (name_is instances n i at) ∙ named ∙ name_is instances m j also)

-- one node is the least loaded
pub one_least : (instances : List Instance) (load_at : ℕ → ℕ) (May : ℕ → Type 0) → Ascends (λ a b. a.name ≢ b.name) instances → ((n : ℕ) → May n → (i : Instance) × (slice_get instances n ≡ Some i))
    → (n m : ℕ) → IsLeastLoaded instances load_at May n → IsLeastLoaded instances load_at May m → n ≡ m
one_least instances load_at May distinct there n m one other =
    let i = there n one.may in
    let j = there m other.may in
    one_first instances (taking_cmp instances load_at) (λ a b. nat_cmp (load_at a) (load_at b)) (taking_total instances load_at) (λ a b. refl) distinct n m i.0 j.0 i.1 j.1 (one.least m other.may) (other.least n one.may)
