-- Known volumes beside the names of their checkpoints: one more, one fewer.
use Rattle.std.proofs.Common.{◌≡◌, ◌⊎◌, inl, inr, ⊎_elim, ℕ, List, [], ◌∷◌, refl, sym, ap, subst, ◌∙◌, Bool, true, false, cond, not, ◌&&◌, rules}
use Rattle.std.specs.Prelude.{filter, ◌==◌}
use Rattle.std.specs.Cmp.{tied_itself}
use Rattle.std.specs.Ordering.{nat_cmp, on, then_cmp, is_lt, ordering_then}
use Rattle.std.specs.declared.cmp.Ordering.{Ordering}
use Rattle.std.specs.declared.cmp.Ordering.TheVariants.{Less, Equal, Greater}
use Rattle.std.proofs.lemmas.Bool.{eqb-true, and_parts}
use Rattle.std.proofs.lemmas.Cmp.{nat_cmp_total}
use Rattle.m3_model.specs.Ascends.{Ascends}
use Rattle.m3_model.specs.Members.{IsIn}
use Rattle.m3_model.proofs.Orders.{less_from}
use Rattle.shard_files.specs.m3_outside.declared.file_name.FileName.{FileName}
use Rattle.shard_files.specs.m3_outside.Files.{Files, name_cmp}
use Rattle.shard_files.proofs.m3_outside_proofs.Names.{name_total, name_same}
use Rattle.shard_files.specs.wire_bytes.Volumes.{Checkpoint}
use Rattle.shard_files.specs.Parts.{part_name, part_of, KnownVolume, IsKnown, AreKnown}
use Rattle.shard_files.proofs.CountedLemmas.{Before}
use Rattle.volume_steps.specs.KnownLists.{head_cmp, with_volume, is_volume_at, without_volume}
use Rattle.volume_steps.specs.Laws.{OneMoreKnown}

eq_itself : (n : ℕ) → (n == n) ≡ true
eq_itself n = search rules

-- ---- the order of names of one kind

abbrev tail_cmp : FileName → FileName → Ordering
tail_cmp = then_cmp (on (λ n. n.ns) nat_cmp) (then_cmp (on (λ n. n.block) nat_cmp) (on (λ n. n.number) nat_cmp))

name_is_tail : (m n : FileName) → m.kind ≡ n.kind → name_cmp m n ≡ tail_cmp m n
name_is_tail m n e = ap (λ o. ordering_then o (tail_cmp m n)) (ap (λ k. nat_cmp k n.kind) e ∙ tied_itself nat_cmp_total n.kind)

before_of_less : (m n : FileName) → m.kind ≡ n.kind → is_lt (tail_cmp m n) ≡ true → Before m n
before_of_less m n e lt = name_is_tail m n e ∙ less_from (tail_cmp m n) lt

before_of_other : (m n : FileName) → m.kind ≡ n.kind → (m ≡ n → ⊥) → is_lt (tail_cmp m n) ≡ false → Before n m
before_of_other m n e apart lt = by (name_cmp m n) refl (ap is_lt (name_is_tail m n e) ∙ lt)
  where
    by : (o : Ordering) → name_cmp m n ≡ o → is_lt (name_cmp m n) ≡ false → Before n m
    by Less is low = absurd (let never : is_lt Less ≡ false = ap is_lt (sym is) ∙ low in cc)
    by Equal is low = absurd (apart (name_same m n is))
    by Greater is low = let back = name_total.antisymm n m in cc

-- ---- one more

-- with one name more, at its offset
abbrev pub insert_name : FileName → List FileName → List FileName
insert_name own [] = own ∷ []
insert_name own (n ∷ names) = cond (is_lt (tail_cmp n own)) (n ∷ insert_name own names) (own ∷ n ∷ names)

pub named_in : (own : FileName) (names : List FileName) (q : FileName) → IsIn (insert_name own names) q → (own ≡ q) ⊎ IsIn names q
named_in own [] q m = m
named_in own (n ∷ names) q m = by (is_lt (tail_cmp n own)) (named_in own names q) m
  where
    by : (b : Bool) → (IsIn (insert_name own names) q → (own ≡ q) ⊎ IsIn names q) → IsIn (cond b (n ∷ insert_name own names) (own ∷ n ∷ names)) q → (own ≡ q) ⊎ IsIn (n ∷ names) q
    by true later (inl e) = inr (inl e)
    by true later (inr rest) = ⊎_elim (λ (e : own ≡ q). inl e) (λ (r : IsIn names q). inr (inr r)) (later rest)
    by false later (inl e) = inl e
    by false later (inr rest) = inr rest

pub in_named : (own : FileName) (names : List FileName) (q : FileName) → (own ≡ q) ⊎ IsIn names q → IsIn (insert_name own names) q
in_named own [] q m = m
in_named own (n ∷ names) q m = by (is_lt (tail_cmp n own)) (in_named own names q) m
  where
    by : (b : Bool) → ((own ≡ q) ⊎ IsIn names q → IsIn (insert_name own names) q) → (own ≡ q) ⊎ IsIn (n ∷ names) q → IsIn (cond b (n ∷ insert_name own names) (own ∷ n ∷ names)) q
    by true later (inl e) = inr (later (inl e))
    by true later (inr (inl e)) = inl e
    by true later (inr (inr rest)) = inr (later (inr rest))
    by false later (inl e) = inl e
    by false later (inr rest) = inr rest

pub insert_ascends : (own : FileName) (names : List FileName) → ((n : FileName) → IsIn names n → (n.kind ≡ own.kind) × (n ≡ own → ⊥)) → Ascends Before names → Ascends Before (insert_name own names)
insert_ascends own [] other up = ((λ q m. absurd m), tt)
insert_ascends own (n ∷ names) other up = by (is_lt (tail_cmp n own)) refl (insert_ascends own names (λ k m. other k (inr m)) up.1)
  where
    first : (n.kind ≡ own.kind) × (n ≡ own → ⊥)
    first = other n (inl refl)

    by : (b : Bool) → is_lt (tail_cmp n own) ≡ b → Ascends Before (insert_name own names) → Ascends Before (cond b (n ∷ insert_name own names) (own ∷ n ∷ names))
    by true lt later = (
      (λ q m. ⊎_elim (λ (e : own ≡ q). subst (Before n) e (before_of_less n own first.0 lt)) (λ (r : IsIn names q). up.0 q r) (named_in own names q m)),
      later,
    )
    by false lt later =
        let low : Before own n = before_of_other n own first.0 first.1 lt in (
          (λ q m. ⊎_elim (λ (e : n ≡ q). subst (Before own) e low) (λ (r : IsIn names q). name_total.trans own n q low (up.0 q r)) m),
          up,
        )

-- the known volumes go with the names
pub insert_known : (y : Files) (own : FileName) (k : KnownVolume) → IsKnown y own k → (names : List FileName) (ks : List KnownVolume) → AreKnown y names ks → AreKnown y (insert_name own names) (with_volume k ks)
insert_known y own k is [] [] are = (is, tt)
insert_known y own k is [] (j ∷ js) are = absurd are
insert_known y own k is (n ∷ names) [] are = absurd are
insert_known y own k is (n ∷ names) (j ∷ js) are = by (is_lt (tail_cmp n own)) (is_lt (head_cmp j.head k.head)) same (insert_known y own k is names js are.1)
  where
    same : is_lt (tail_cmp n own) ≡ is_lt (head_cmp j.head k.head)
    same = ap (λ q. is_lt (tail_cmp q own)) are.0.named ∙ ap (λ q. is_lt (tail_cmp (part_of Checkpoint j.head) q)) is.named

    by : (a b : Bool) → a ≡ b → AreKnown y (insert_name own names) (with_volume k js) → AreKnown y (cond a (n ∷ insert_name own names) (own ∷ n ∷ names)) (cond b (j ∷ with_volume k js) (k ∷ j ∷ js))
    by true true e later = (are.0, later)
    by false false e later = (is, are)
    by true false e later = absurd (cc)
    by false true e later = absurd (cc)

pub in_with : (k j : KnownVolume) (ks : List KnownVolume) → IsIn (with_volume k ks) j → (j ≡ k) ⊎ IsIn ks j
in_with k j [] (inl e) = inl (sym e)
in_with k j [] (inr m) = absurd m
in_with k j (i ∷ ks) m = by (is_lt (head_cmp i.head k.head)) (in_with k j ks) m
  where
    by : (b : Bool) → (IsIn (with_volume k ks) j → (j ≡ k) ⊎ IsIn ks j) → IsIn (cond b (i ∷ with_volume k ks) (k ∷ i ∷ ks)) j → (j ≡ k) ⊎ IsIn (i ∷ ks) j
    by true later (inl e) = inr (inl e)
    by true later (inr rest) = ⊎_elim (λ (e : j ≡ k). inl e) (λ (r : IsIn ks j). inr (inr r)) (later rest)
    by false later (inl e) = inl (sym e)
    by false later (inr rest) = inr rest

pub with_in : (k j : KnownVolume) (ks : List KnownVolume) → (j ≡ k) ⊎ IsIn ks j → IsIn (with_volume k ks) j
with_in k j [] (inl e) = inl (sym e)
with_in k j [] (inr m) = absurd m
with_in k j (i ∷ ks) m = by (is_lt (head_cmp i.head k.head)) (with_in k j ks) m
  where
    by : (b : Bool) → ((j ≡ k) ⊎ IsIn ks j → IsIn (with_volume k ks) j) → (j ≡ k) ⊎ IsIn (i ∷ ks) j → IsIn (cond b (i ∷ with_volume k ks) (k ∷ i ∷ ks)) j
    by true later (inl e) = inr (later (inl e))
    by true later (inr (inl e)) = inl e
    by true later (inr (inr rest)) = inr (later (inr rest))
    by false later (inl e) = inl (sym e)
    by false later (inr rest) = inr rest

pub one_more_known : OneMoreKnown
one_more_known k j ks = (in_with k j ks, with_in k j ks)

-- ---- one fewer

module _ (ns start number : ℕ) where
  -- whether the name has this namespace, start and number
  abbrev pub name_at : FileName → Bool
  name_at n = (n.ns == ns) && ((n.block == start) && (n.number == number))

  pub at_is : (n : FileName) → n.kind ≡ 7 → name_at n ≡ true → n ≡ part_name Checkpoint ns start number
  at_is n kind e =
      let first = and_parts (n.ns == ns) ((n.block == start) && (n.number == number)) e in
      let second = and_parts (n.block == start) (n.number == number) first.1 in
      let a = eqb-true n.ns ns first.0 in
      let b = eqb-true n.block start second.0 in
      let c = eqb-true n.number number second.1 in
      λ i. record { kind = kind i; ns = a i; block = b i; number = c i }

  -- the known volumes go with the names
  pub filter_known : (y : Files) (names : List FileName) (ks : List KnownVolume) → AreKnown y names ks → AreKnown y (filter (λ n. not (name_at n)) names) (without_volume ns start number ks)
  filter_known y [] [] are = tt
  filter_known y [] (k ∷ ks) are = absurd are
  filter_known y (n ∷ names) [] are = absurd are
  filter_known y (n ∷ names) (k ∷ ks) are = by (name_at n) (is_volume_at ns start number k) (ap name_at are.0.named) (filter_known y names ks are.1)
    where
      by : (a b : Bool) → a ≡ b → AreKnown y (filter (λ m. not (name_at m)) names) (without_volume ns start number ks) → AreKnown y (cond (not a) (n ∷ filter (λ m. not (name_at m)) names) (filter (λ m. not (name_at m)) names)) (cond (not b) (k ∷ without_volume ns start number ks) (without_volume ns start number ks))
      by true true e later = later
      by false false e later = (are.0, later)
      by true false e later = absurd (cc)
      by false true e later = absurd (cc)

  pub at_itself : name_at (part_name Checkpoint ns start number) ≡ true
  at_itself = ap (λ b. b && ((start == start) && (number == number))) (eq_itself ns) ∙ ap (λ b. b && (number == number)) (eq_itself start) ∙ eq_itself number
