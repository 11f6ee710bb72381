-- The entries that are read keep to the limits.
use Rattle.std.proofs.Common.{◌≡◌, ℕ, ◌≤◌, suc, List, [], ◌∷◌, length, refl, ap, subst, inl, inr, arith}
use Rattle.std.specs.Prelude.{Result, Ok, IsTrue, nat_le}
use Rattle.std.proofs.lemmas.Bool.{and_parts, leb-true}
use Rattle.serde_json.specs.Data.{Data, Items, no_items, item}
use Rattle.serde_json.specs.Find.{as_array}
use Rattle.m3_model.specs.Members.{IsIn}
use Rattle.line_fields.specs.declared.fault.LineErr.{LineErr}
use Rattle.line_fields.specs.Fields.{◌>>=◌, needed, tested, field}
use Rattle.line_lists.specs.Lists.{item_count, has_count, items_at, entries_of, list_at}
use Rattle.line_lists.proofs.Steps.{from_steps, from_tested}

-- each entry that is read has P, and there are as many as items
record AreOfItems {A : Type 0} (P : A → Type 0) (items : Items) (entries : List A) : Type 0 where
  as_many : length entries ≡ item_count items
  each : (entry : A) → IsIn entries entry → P entry

of_items : {A : Type 0} (P : A → Type 0) (row : Data → Result A LineErr) → ((d : Data) (entry : A) → row d ≡ Ok entry → P entry) → (items : Items) (entries : List A) → entries_of row items ≡ Ok entries → AreOfItems P items entries
of_items P row one no_items entries e = let none : [] ≡ entries = cc in subst (AreOfItems P no_items) none (record { as_many = refl; each = λ entry inside. absurd inside })
of_items P row one (item d ds) entries e =
    let first = from_steps (row d) (λ entry. entries_of row ds >>= λ rest. Ok (entry ∷ rest)) entries e in
    let others = from_steps (entries_of row ds) (λ rest. Ok (first.0 ∷ rest)) entries first.2 in
    let whole : first.0 ∷ others.0 ≡ entries = cc in
    let rest = of_items P row one ds others.0 others.1 in
    subst (AreOfItems P (item d ds)) whole (record {
      as_many = ap suc rest.as_many;
      each = λ entry inside. elim inside as (λ _. P entry) [ inl same ↦ subst P same (one d first.0 first.1) | inr later ↦ rest.each entry later ];
    })

has_so_many : (key : List ℕ) (least most : ℕ) (d : Data) (items : Items) → items_at key least most d ≡ Ok items → IsTrue (has_count least most items)
unfolding items_at
has_so_many key least most d items e =
    let array = from_steps (field key d) (λ array. needed (as_array array) >>= tested (has_count least most)) items e in
    let found = from_steps (needed (as_array array.0)) (tested (has_count least most)) items array.2 in
    from_tested (has_count least most) found.0 items found.2

-- so many entries, each of which has P
pub record AreEntries {A : Type 0} (P : A → Type 0) (least most : ℕ) (entries : List A) : Type 0 where
  pub least_of : least ≤ length entries
  pub most_of : length entries ≤ most
  pub each : (entry : A) → IsIn entries entry → P entry

pub list_at-AreEntries : {A : Type 0} (P : A → Type 0) (row : Data → Result A LineErr) → ((d : Data) (entry : A) → row d ≡ Ok entry → P entry) → (key : List ℕ) (least most : ℕ) (d : Data) (entries : List A)
    → list_at row key least most d ≡ Ok entries → AreEntries P least most entries
list_at-AreEntries P row one key least most d entries e =
    let array = from_steps (items_at key least most d) (entries_of row) entries e in
    let read = of_items P row one array.0 entries array.2 in
    let bounds = and_parts (nat_le least (item_count array.0)) (nat_le (item_count array.0) most) (has_so_many key least most d array.0 array.1) in
    let low : least ≤ item_count array.0 = leb-true least (item_count array.0) bounds.0 in
    let high : item_count array.0 ≤ most = leb-true (item_count array.0) most bounds.1 in
    record { least_of = omega (arith, read.as_many); most_of = omega (arith, read.as_many); each = read.each }
