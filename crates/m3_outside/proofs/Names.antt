-- Names of files decide which file is meant, and maps that answer alike are equal.
use Rattle.std.proofs.Common.{◌≡◌, ◌⊎◌, inl, inr, ℕ, List, true, false, cond, refl, sym, ap, ◌∙◌, Some, None}
use Rattle.std.specs.Ordering.{nat_cmp, ordering_then, eq_by_cmp, is_eq}
use Rattle.std.specs.Cmp.{IsTotalOrder, tied_itself, Equal-is}
use Rattle.std.proofs.lemmas.Cmp.{then_total, on_total, nat_cmp_total}
use Rattle.std.specs.FinMap.{IsAntisymmetric, get, insert, remove, get-insert, get-remove, same_map, nat_cmp-IsAntisymmetric}
use Rattle.m3_model.proofs.Orders.{both_equal}
use Rattle.m3_outside.specs.declared.file_name.FileName.{FileName}
use Rattle.m3_outside.specs.Files.{Files, name_cmp}

pub name_total : IsTotalOrder name_cmp
name_total = then_total (on_total (λ n. n.kind) nat_cmp_total) (then_total (on_total (λ n. n.ns) nat_cmp_total) (then_total (on_total (λ n. n.block) nat_cmp_total) (on_total (λ n. n.number) nat_cmp_total)))

-- only equal names tie
pub name_same : IsAntisymmetric name_cmp
name_same m n e =
    let first = both_equal (nat_cmp m.kind n.kind) (ordering_then (nat_cmp m.ns n.ns) (ordering_then (nat_cmp m.block n.block) (nat_cmp m.number n.number))) e in
    let second = both_equal (nat_cmp m.ns n.ns) (ordering_then (nat_cmp m.block n.block) (nat_cmp m.number n.number)) first.1 in
    let third = both_equal (nat_cmp m.block n.block) (nat_cmp m.number n.number) second.1 in
    λ i. record {
      kind = nat_cmp-IsAntisymmetric m.kind n.kind first.0 i;
      ns = nat_cmp-IsAntisymmetric m.ns n.ns second.0 i;
      block = nat_cmp-IsAntisymmetric m.block n.block third.0 i;
      number = nat_cmp-IsAntisymmetric m.number n.number third.1 i;
    }

pub eq_itself : (n : FileName) → eq_by_cmp name_cmp n n ≡ true
eq_itself n = ap is_eq (tied_itself name_total n)

pub eq_true : (m n : FileName) → eq_by_cmp name_cmp m n ≡ true → m ≡ n
eq_true m n e = name_same m n ((Equal-is (name_cmp m n)).0 e)

pub name_is : (m n : FileName) → (m ≡ n) ⊎ (m ≡ n → ⊥)
name_is m n =
    elim (eq_by_cmp name_cmp m n) as (λ b. eq_by_cmp name_cmp m n ≡ b → (m ≡ n) ⊎ (m ≡ n → ⊥)) [
      | true ↦ λ e. inl (eq_true m n e)
      | false ↦ λ e. inr (λ same. cc (sym (ap (λ k. eq_by_cmp name_cmp m k) same) ∙ eq_itself m, e))
    ] refl

pub eq_false : (m n : FileName) → (m ≡ n → ⊥) → eq_by_cmp name_cmp m n ≡ false
eq_false m n apart =
    elim (eq_by_cmp name_cmp m n) as (λ b. eq_by_cmp name_cmp m n ≡ b → b ≡ false) [
      | true ↦ λ e. absurd (apart (eq_true m n e))
      | false ↦ λ e. refl
    ] refl

pub get_here : (m : Files) (n : FileName) (v : List ℕ) → get (insert m n v) n ≡ Some v
get_here m n v = get-insert name_total m n v n ∙ ap (λ b. cond b (Some v) (get m n)) (eq_itself n)

pub get_apart : (m : Files) (n : FileName) (v : List ℕ) (q : FileName) → (q ≡ n → ⊥) → get (insert m n v) q ≡ get m q
get_apart m n v q apart = get-insert name_total m n v q ∙ ap (λ b. cond b (Some v) (get m q)) (eq_false q n apart)

pub get_gone : (m : Files) (n : FileName) → get (remove m n) n ≡ None
get_gone m n = get-remove name_total m n n ∙ ap (λ b. cond b None (get m n)) (eq_itself n)

pub get_stays : (m : Files) (n : FileName) (q : FileName) → (q ≡ n → ⊥) → get (remove m n) q ≡ get m q
get_stays m n q apart = get-remove name_total m n q ∙ ap (λ b. cond b None (get m q)) (eq_false q n apart)

pub same_files : (m n : Files) → ((q : FileName) → get m q ≡ get n q) → m ≡ n
same_files m n alike = same_map name_total name_same m n alike

-- a map with a file put in is the one that has it there and is else the same
pub is_insert : (m c : Files) (n : FileName) (v : List ℕ) → get c n ≡ Some v → ((q : FileName) → (q ≡ n → ⊥) → get c q ≡ get m q) → c ≡ insert m n v
is_insert m c n v here apart = same_files c (insert m n v) at
  where
    at : (q : FileName) → get c q ≡ get (insert m n v) q
    at q = elim (name_is q n) [
      | inl same ↦ ap (get c) same ∙ here ∙ sym (get_here m n v) ∙ ap (get (insert m n v)) (sym same)
      | inr other ↦ apart q other ∙ sym (get_apart m n v q other)
    ]

pub is_remove : (m c : Files) (n : FileName) → get c n ≡ None → ((q : FileName) → (q ≡ n → ⊥) → get c q ≡ get m q) → c ≡ remove m n
is_remove m c n here apart = same_files c (remove m n) at
  where
    at : (q : FileName) → get c q ≡ get (remove m n) q
    at q = elim (name_is q n) [
      | inl same ↦ ap (get c) same ∙ here ∙ sym (get_gone m n) ∙ ap (get (remove m n)) (sym same)
      | inr other ↦ apart q other ∙ sym (get_stays m n q other)
    ]

pub insert_same : (m : Files) (n : FileName) (v : List ℕ) → get m n ≡ Some v → insert m n v ≡ m
insert_same m n v here = sym (is_insert m m n v here (λ q apart. refl))

pub insert_over : (m : Files) (n : FileName) (v w : List ℕ) → insert (insert m n v) n w ≡ insert m n w
insert_over m n v w = is_insert m (insert (insert m n v) n w) n w (get_here _ n w) (λ q apart. get_apart _ n w q apart ∙ get_apart m n v q apart)
