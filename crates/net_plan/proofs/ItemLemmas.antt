-- Rows of fates item by item.
use Rattle.std.proofs.Common.{◌≡◌, ◌≢◌, List, [], ◌∷◌, Bool, true, false, ◌||◌, refl, sym, ap, ◌∙◌, inl, inr}
use Rattle.std.specs.List.{list_any}
use Rattle.std.specs.Ordering.{eq_by_cmp}
use Rattle.m3_model.specs.Members.{IsIn}
use Rattle.m3_model.specs.declared.act.Fate.TheVariants.{Deliver}
use Rattle.net_plan.specs.FateKeys.{fate_key_cmp}
use Rattle.net_plan.specs.Fates.{Item, key_of, IsFatesRow}
use Rattle.net_plan.specs.declared.fate_key.FateKey.{FateKey}
use Rattle.net_plan.proofs.KeyLemmas.{same_key, own_key}

-- whether some item is of this message
abbrev pub has_item_of : FateKey → List Item → Bool
has_item_of key list = list_any (λ item. eq_by_cmp fate_key_cmp key (key_of item)) list

pub later_row : (x : Item) (xs : List Item) → IsFatesRow (x ∷ xs) → IsFatesRow xs
later_row x xs row = record { distinct = row.distinct.1; none_delivered = λ item h. row.none_delivered item (inr h) }

member_by : (key : FateKey) (y : Item) (ys : List Item) → (has_item_of key ys ≡ true → (item : Item) × IsIn ys item × (key ≡ key_of item))
    → (b : Bool) → eq_by_cmp fate_key_cmp key (key_of y) ≡ b → b || has_item_of key ys ≡ true → (item : Item) × IsIn (y ∷ ys) item × (key ≡ key_of item)
member_by key y ys later true is e = (y, inl refl, same_key key (key_of y) is)
member_by key y ys later false is e = let found = later e in (found.0, inr found.1, found.2)

-- the item that a test finds
found_item : (key : FateKey) (list : List Item) → has_item_of key list ≡ true → (item : Item) × IsIn list item × (key ≡ key_of item)
found_item key [] e = cc
found_item key (y ∷ ys) e = member_by key y ys (found_item key ys) (eq_by_cmp fate_key_cmp key (key_of y)) refl e

either_false : (a b : Bool) → a || b ≡ false → (a ≡ false) × (b ≡ false)
either_false true b e = cc
either_false false b e = (refl, e)

missed_item : (key : FateKey) (list : List Item) → has_item_of key list ≡ false → (item : Item) → IsIn list item → key ≢ key_of item
missed_item key [] e item h = absurd h
missed_item key (y ∷ ys) e item h =
    let parts = either_false (eq_by_cmp fate_key_cmp key (key_of y)) (has_item_of key ys) e in
    elim h as (λ _. key ≢ key_of item) [
      | inl is ↦ λ same. let clash : true ≡ false = sym (own_key key) ∙ ap (eq_by_cmp fate_key_cmp key) (same ∙ ap key_of (sym is)) ∙ parts.0 in cc
      | inr later ↦ missed_item key ys parts.1 item later
    ]

pub more_row : (x : Item) (xs : List Item) → x.3 ≢ Deliver → has_item_of (key_of x) xs ≡ false → IsFatesRow xs → IsFatesRow (x ∷ xs)
more_row x xs other alone row = record {
  distinct = (λ y h. missed_item (key_of x) xs alone y h, row.distinct);
  none_delivered = λ item h. elim h as (λ _. item.3 ≢ Deliver) [ inl is ↦ λ e. other (ap (λ (y : Item). y.3) is ∙ e) | inr later ↦ row.none_delivered item later ];
}

pub delivered_item : (x : Item) (xs : List Item) → x.3 ≡ Deliver → ¬ IsFatesRow (x ∷ xs)
delivered_item x xs is row = row.none_delivered x (inl refl) is

pub repeated_item : (x : Item) (xs : List Item) → has_item_of (key_of x) xs ≡ true → ¬ IsFatesRow (x ∷ xs)
repeated_item x xs e row = let found = found_item (key_of x) xs e in row.distinct.0 found.0 found.1 found.2
