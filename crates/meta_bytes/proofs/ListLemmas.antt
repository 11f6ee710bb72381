-- Lists of values, read and written one after another.
use Rattle.std.proofs.Common.{◌≡◌, ℕ, suc, ◌+◌, ◌≤◌, List, [], ◌∷◌, ◌++◌, length, refl, sym, ap, subst, ◌∙◌, arith, append_assoc, append-nil}
use Rattle.std.specs.List.{flat_map}
use Rattle.std.proofs.lemmas.List.{length_push}
use Rattle.wire_bytes.specs.Fields.{Stands}
use Rattle.wire_bytes.proofs.FieldLemmas.{stands_both}
use Rattle.meta_bytes.specs.Forms.{Form, Times, HasForm, StandsAs}
use Rattle.meta_bytes.specs.Lists.{ItemsStand}
use Rattle.meta_bytes.proofs.FormLemmas.{times_more}

flat_push : {X : Type 0} (f : X → List ℕ) (xs : List X) (x : X) → flat_map f (xs ++ x ∷ []) ≡ flat_map f xs ++ f x
flat_push f [] x = append-nil (f x)
flat_push f (y ∷ xs) x = ap (λ (l : List ℕ). f y ++ l) (flat_push f xs x) ∙ sym (append_assoc (f y) (flat_map f xs) (f x))

pub no_items : {X : Type 0} (form : Form) (spelled : X → List ℕ) (bytes : List ℕ) (from : ℕ) → from ≤ length bytes → ItemsStand form spelled 0 [] bytes from from
no_items form spelled bytes from within = record { counted = refl; has = refl; stands = record { split = refl; ends = omega arith; within = within } }

pub one_more : {X : Type 0} (form : Form) (spelled : X → List ℕ) (n : ℕ) (xs : List X) (x : X) (bytes : List ℕ) (from offset next : ℕ) → ItemsStand form spelled n xs bytes from offset → StandsAs form (spelled x) bytes offset next → ItemsStand form spelled (n + 1) (xs ++ x ∷ []) bytes from next
one_more form spelled n xs x bytes from offset next all st =
    let push = flat_push spelled xs x in
    let up : suc n ≡ n + 1 = omega arith in
    record {
      counted = length_push xs x ∙ (let e : _ = all.counted in omega (arith, e));
      has = subst (λ (k : ℕ). Times k (HasForm form) (flat_map spelled (xs ++ x ∷ []))) up (subst (Times (suc n) (HasForm form)) (sym push) (times_more (HasForm form) n (flat_map spelled xs) (spelled x) all.has st.has));
      stands = subst (λ (l : List ℕ). Stands l bytes from next) (sym push) (stands_both (flat_map spelled xs) (spelled x) bytes from offset next all.stands st.stands);
    }

-- what is appended to what was appended
pub then_put : (p q r b c : List ℕ) → q ≡ p ++ b → r ≡ q ++ c → r ≡ p ++ (b ++ c)
then_put p q r b c e f = f ∙ ap (λ (l : List ℕ). l ++ c) e ∙ append_assoc p b c
