-- Values that have no float and nest no deeper than a bound.
use Rattle.std.proofs.Common.{◌≡◌, ℕ, ℤ, pos, negsuc, suc, ◌≤◌, List, [], ◌∷◌, map, Bool, false, refl, subst, sym, arith}
use Rattle.std.specs.Prelude.{fold}
use Rattle.std.proofs.lemmas.Bool.{or_parts, or_from}
use Rattle.std.specs.declared.cmp.Ordering.TheVariants.{Less, Equal, Greater}
use Rattle.std.specs.Cmp.Lexicographic.{slice_cmp}
use Rattle.std.specs.FinMap.{put}
use Rattle.std.specs.FinMap.Entries.{by_order}
use Rattle.std.specs.Ordering.{nat_cmp}
use Rattle.serde_json.specs.Data.{Data, boolean, number, string, depth, items_depth, members_depth}
use Rattle.serde_json.specs.Find.{of_integer, is_float}
use Rattle.serde_json.specs.View.{items_of}
use Rattle.serde_json.specs.Written.{has_float, items_have_float, members_have_float}
use Rattle.reply_values.specs.Json.{members_in, object_of, array_of, list_of, natural}
use Rattle.reply_values.specs.Order.{by_name}
use Rattle.reply_values.proofs.RollLemmas.{put_item, by_name-fold}

pub record IsPlain (n : ℕ) (d : Data) : Type 0 where
  pub no_float : has_float d ≡ false
  pub shallow : depth d ≤ n

-- the same of each item of a list
pub record ArePlain (n : ℕ) (ds : List Data) : Type 0 where
  pub no_float : items_have_float (items_of ds) ≡ false
  pub shallow : items_depth (items_of ds) ≤ n

-- the same of the value of each field
pub record HavePlain (n : ℕ) (fields : List (List ℕ × Data)) : Type 0 where
  pub no_float : members_have_float (members_in fields) ≡ false
  pub shallow : members_depth (members_in fields) ≤ n

integer_no_float : (z : ℤ) → is_float (of_integer z) ≡ false
integer_no_float (pos n) = refl
integer_no_float (negsuc n) = refl

pub plain_text : (n : ℕ) (s : List ℕ) → IsPlain n (string s)
plain_text n s = record { no_float = refl; shallow = omega arith }

pub plain_flag : (n : ℕ) (b : Bool) → IsPlain n (boolean b)
plain_flag n b = record { no_float = refl; shallow = omega arith }

pub plain_natural : (n m : ℕ) → IsPlain n (natural m)
plain_natural n m = record { no_float = refl; shallow = omega arith }

pub plain_integer : (n : ℕ) (z : ℤ) → IsPlain n (number (of_integer z))
plain_integer n z = record { no_float = integer_no_float z; shallow = omega arith }

pub plain_higher : {m n : ℕ} {d : Data} → m ≤ n → IsPlain m d → IsPlain n d
plain_higher below p = record { no_float = p.no_float; shallow = omega arith }

pub no_items_plain : (n : ℕ) → ArePlain n []
no_items_plain n = record { no_float = refl; shallow = omega arith }

pub item_plain : {n : ℕ} {d : Data} {ds : List Data} → IsPlain n d → ArePlain n ds → ArePlain n (d ∷ ds)
item_plain p q = record { no_float = or_from _ _ p.no_float q.no_float; shallow = omega arith }

pub plain_array : (n : ℕ) {ds : List Data} → ArePlain n ds → IsPlain (suc n) (array_of ds)
plain_array n p = record { no_float = p.no_float; shallow = omega arith }

pub each_plain : {X : Type 0} {n : ℕ} (f : X → Data) → ((x : X) → IsPlain n (f x)) → (xs : List X) → ArePlain n (map f xs)
each_plain {n = n} f each [] = no_items_plain n
each_plain f each (x ∷ xs) = item_plain (each x) (each_plain f each xs)

pub plain_list : {X : Type 0} (n : ℕ) (f : X → Data) → ((x : X) → IsPlain n (f x)) → (xs : List X) → IsPlain (suc n) (list_of f xs)
plain_list n f each xs = plain_array n (each_plain f each xs)

pub no_fields_plain : (n : ℕ) → HavePlain n []
no_fields_plain n = record { no_float = refl; shallow = omega arith }

pub field_plain : {n : ℕ} {k : List ℕ} {d : Data} {fields : List (List ℕ × Data)} → IsPlain n d → HavePlain n fields → HavePlain n ((k, d) ∷ fields)
field_plain p q = record { no_float = or_from _ _ p.no_float q.no_float; shallow = omega arith }

pub plain_object : (n : ℕ) {fields : List (List ℕ × Data)} → HavePlain n fields → IsPlain (suc n) (object_of fields)
plain_object n p = record { no_float = p.no_float; shallow = omega arith }

-- ---- lists in the order of names

abbrev values_in : List (List ℕ × Data) → List Data
values_in es = map (λ e. e.1) es

item_parts : (n : ℕ) (d : Data) (ds : List Data) → ArePlain n (d ∷ ds) → IsPlain n d × ArePlain n ds
item_parts n d ds p =
    let parts = or_parts (has_float d) (items_have_float (items_of ds)) p.no_float in
    let shallow = p.shallow in
    (record { no_float = parts.0; shallow = omega arith }, record { no_float = parts.1; shallow = omega arith })

put_plain : (n : ℕ) (k : List ℕ) (d : Data) (es : List (List ℕ × Data)) → IsPlain n d → ArePlain n (values_in es) → ArePlain n (values_in (put (slice_cmp nat_cmp) k d es))
put_plain n k d [] p all = item_plain p (no_items_plain n)
put_plain n k d (e ∷ es) p all =
    let parts = item_parts n e.1 (values_in es) all in
    elim (slice_cmp nat_cmp k e.0) as (λ o. ArePlain n (values_in (by_order o ((k, d) ∷ e ∷ es) ((e.0, d) ∷ es) (e ∷ put (slice_cmp nat_cmp) k d es)))) [
      | Less ↦ item_plain p all
      | Equal ↦ item_plain p parts.1
      | Greater ↦ item_plain parts.0 (put_plain n k d es p parts.1)
    ]

fold_plain : {X : Type 0} (n : ℕ) (item_of : X → List ℕ × Data) → ((x : X) → IsPlain n (item_of x).1) → (xs : List X) (es : List (List ℕ × Data)) → ArePlain n (values_in es)
    → ArePlain n (values_in (fold put_item es (map item_of xs)))
fold_plain n item_of each [] es all = all
fold_plain n item_of each (x ∷ xs) es all = fold_plain n item_of each xs _ (put_plain n (item_of x).0 (item_of x).1 es (each x) all)

pub by_name_plain : {X : Type 0} (n : ℕ) (item_of : X → List ℕ × Data) → ((x : X) → IsPlain n (item_of x).1) → (xs : List X) → ArePlain n (by_name (map item_of xs))
by_name_plain n item_of each xs = subst (ArePlain n) (sym (by_name-fold (map item_of xs))) (fold_plain n item_of each xs [] (no_items_plain n))
