-- Entries of an ordered map, seen as names with what stands for their values.
use Rattle.std.proofs.Common.{◌≡◌, ℕ, suc, ◌+◌, ◌<◌, Bool, true, false, cond, List, [], ◌∷◌, map, length, drop, get_or, drop-cons, add-one, refl, sym, ap, ◌∙◌, string_cmp}
use Rattle.std.specs.Prelude.{String, string_bytes, filter, fold}
use Rattle.std.specs.declared.alloc.Global.{Global}
use Rattle.std.specs.declared.cmp.Ordering.{Ordering}
use Rattle.std.specs.declared.cmp.Ordering.TheVariants.{Less, Equal, Greater}
use Rattle.std.specs.BTreeMap.{insert_entry}
use Rattle.std.specs.Cmp.Lexicographic.{slice_cmp}
use Rattle.std.specs.FinMap as finite
use Rattle.std.specs.FinMap.{put, entries, entries-insert, len-entries, len-empty}
use Rattle.std.specs.FinMap.Entries.{by_order}
use Rattle.std.specs.Ordering.{nat_cmp, match_ordering}
use Rattle.std.proofs.lemmas.Cmp.{nat_list_cmp_total}
use Rattle.std.proofs.lemmas.List.{nil_from_length}
use Rattle.serde_json.specs.Data.{Data}
use Rattle.serde_json.specs.View.{view}
use Rattle.serde_json.specs.declared.value.Value.{Value}
use Rattle.reply_values.specs.Order.{NamedValues, with_item, by_name}

abbrev pub Entry : Type 0
Entry = String Global × Value

abbrev pub shown : List Entry → List (List ℕ × Data)
shown es = map (λ e. (string_bytes e.0, view e.1)) es

shown-match : (o : Ordering) (a b c : List Entry) → shown (match_ordering o a b c) ≡ by_order o (shown a) (shown b) (shown c)
shown-match Less a b c = refl
shown-match Equal a b c = refl
shown-match Greater a b c = refl

pub shown-insert_entry : (es : List Entry) (k : String Global) (v : Value) → shown (insert_entry string_cmp es k v) ≡ put (slice_cmp nat_cmp) (string_bytes k) (view v) (shown es)
shown-insert_entry [] k v = refl
shown-insert_entry (e ∷ es) k v =
    shown-match (string_cmp k e.0) _ _ _
    ∙ ap (λ rest. by_order (string_cmp k e.0) (shown ((k, v) ∷ e ∷ es)) (shown ((e.0, v) ∷ es)) ((string_bytes e.0, view e.1) ∷ rest)) (shown-insert_entry es k v)

pub map-values : (es : List Entry) → map view (map (λ e. e.1) es) ≡ map (λ e. e.1) (shown es)
map-values [] = refl
map-values (e ∷ es) = ap (λ rest. view e.1 ∷ rest) (map-values es)

-- the entries after one item more
abbrev pub put_item : List (List ℕ × Data) → List ℕ × Data → List (List ℕ × Data)
put_item es item = put (slice_cmp nat_cmp) item.0 item.1 es

entries-fold : (values : NamedValues) (items : List (List ℕ × Data)) → entries (fold with_item values items) ≡ fold put_item (entries values) items
entries-fold values [] = refl
entries-fold values (item ∷ items) =
    entries-fold (with_item values item) items ∙ ap (λ es. fold put_item es items) (entries-insert nat_list_cmp_total values item.0 item.1)

entries-empty : entries (finite.empty {X = Data} {R = slice_cmp nat_cmp}) ≡ []
entries-empty = nil_from_length _ (sym (len-entries _) ∙ len-empty (slice_cmp nat_cmp) Data)

pub by_name-fold : (items : List (List ℕ × Data)) → by_name items ≡ map (λ e. e.1) (fold put_item [] items)
by_name-fold items = ap (map (λ e. e.1)) (entries-fold finite.empty items ∙ ap (λ es. fold put_item es items) entries-empty)

map_cond : {X : Type 0} (f : X → List ℕ × Data) (b : Bool) (x : X) (xs : List X) → map f (cond b (x ∷ xs) xs) ≡ cond b (f x ∷ map f xs) (map f xs)
map_cond f true x xs = refl
map_cond f false x xs = refl

-- one more element is enrolled
pub enrolled_turn : {X : Type 0} (item_of : X → List ℕ × Data) (xs : List X) (i : ℕ) (d : X) (es new total : List (List ℕ × Data)) → i < length xs
    → new ≡ put_item es (item_of (get_or xs i d)) → fold put_item es (map item_of (drop i xs)) ≡ total → fold put_item new (map item_of (drop (i + 1) xs)) ≡ total
enrolled_turn item_of xs i d es new total below placed was =
    let next : drop i xs ≡ get_or xs i d ∷ drop (i + 1) xs = rw add-one (drop-cons xs i d below) in
    ap (λ entries. fold put_item entries (map item_of (drop (i + 1) xs))) placed ∙ sym (ap (λ ys. fold put_item es (map item_of ys)) next) ∙ was

-- once all are, the list is the one in the order of names
pub enrolled_all : {X : Type 0} (item_of : X → List ℕ × Data) (xs left : List X) (es : List (List ℕ × Data)) → left ≡ [] → fold put_item es (map item_of left) ≡ fold put_item [] (map item_of xs)
    → map (λ e. e.1) es ≡ by_name (map item_of xs)
enrolled_all item_of xs left es none was =
    ap (map (λ e. e.1)) (sym (ap (λ ys. fold put_item es (map item_of ys)) none) ∙ was) ∙ sym (by_name-fold (map item_of xs))

module _ {X : Type 0} (item_of : X → List ℕ × Data) (passes : X → Bool) where
  -- the elements from the i-th on that pass, as items
  abbrev pub items_from : ℕ → List X → List (List ℕ × Data)
  items_from i xs = map item_of (filter passes (drop i xs))

  items_at : (xs : List X) (i : ℕ) (x : X) (b : Bool) → i < length xs → x ≡ get_or xs i x → passes x ≡ b → items_from i xs ≡ cond b (item_of x ∷ items_from (i + 1) xs) (items_from (i + 1) xs)
  items_at xs i x b below is test =
      rw add-one
      (ap (λ ys. map item_of (filter passes ys)) (drop-cons xs i x below ∙ ap (λ y. y ∷ drop (suc i) xs) (sym is)) ∙ ap (λ t. map item_of (cond t (x ∷ filter passes (drop (suc i) xs)) (filter passes (drop (suc i) xs)))) test
      ∙ map_cond item_of b x _)

  -- an element that passes is enrolled
  pub passed_turn : (xs : List X) (i : ℕ) (x : X) (es new total : List (List ℕ × Data)) → i < length xs → x ≡ get_or xs i x → passes x ≡ true → new ≡ put_item es (item_of x)
      → fold put_item es (items_from i xs) ≡ total → fold put_item new (items_from (i + 1) xs) ≡ total
  passed_turn xs i x es new total below is test placed was =
      ap (λ entries. fold put_item entries (items_from (i + 1) xs)) placed ∙ sym (ap (fold put_item es) (items_at xs i x true below is test)) ∙ was

  -- one that doesn't is left out
  pub refused_turn : (xs : List X) (i : ℕ) (x : X) (es new total : List (List ℕ × Data)) → i < length xs → x ≡ get_or xs i x → passes x ≡ false → new ≡ es
      → fold put_item es (items_from i xs) ≡ total → fold put_item new (items_from (i + 1) xs) ≡ total
  refused_turn xs i x es new total below is test same was =
      ap (λ entries. fold put_item entries (items_from (i + 1) xs)) same ∙ sym (ap (fold put_item es) (items_at xs i x false below is test)) ∙ was
