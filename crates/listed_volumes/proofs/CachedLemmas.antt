-- Blocks that are kept of volumes, after each call of a cache.
use Rattle.std.proofs.Common.{◌≡◌, ◌∙◌, ℕ, ◌-◌, List, [], ◌∷◌, ◌++◌, take, Option, Some, None, Bool, true, false, cond, refl, sym, ap, subst, inl, inr}
use Rattle.std.specs.Prelude.{◌⊎◌, IfSome, IsSome}
use Rattle.std.specs.List.{IsDistinct}
use Rattle.std.specs.Map.{keys_of, lookup, lookup_entry, remove_entry}
use Rattle.std.specs.Option.{option_map_or}
use Rattle.std.proofs.lemmas.Map.{lookup-remove_entry}
use Rattle.m3_model.specs.Members.{IsIn}
use Rattle.m3_model.specs.declared.point.Pick.{Pick}
use Rattle.m3_model.specs.declared.point.Pick.TheVariants as pick
use Rattle.m3_model.specs.declared.point.Series.{Series}
use Rattle.m3_model.proofs.MemberLemmas.{IsIn-append_cases, IsIn-append_left, IsIn-append_right}
use Rattle.volume_points.specs.m3_outside.Files.{Files}
use Rattle.volume_points.specs.wire_bytes.Volumes.{Checkpoint, VolumeHead}
use Rattle.volume_points.specs.shard_files.Parts.{KnownVolume, VolumeHolds, part_of}
use Rattle.volume_points.proofs.shard_files_proofs.PartLemmas.{one_known}
use Rattle.volume_points.specs.volume_bytes.declared.heads.Head.{Head}
use Rattle.volume_points.specs.volume_bytes.Heads.{head_of}
use Rattle.volume_points.specs.Candidates.{AreCandidates}
use Rattle.volume_points.specs.Picked.{AreAscending}
use Rattle.block_cache.specs.Blocks.{BlockKey, Blocks, after_forget, after_get, after_put, rows_of, same_block}
use Rattle.block_cache.proofs.BlockLemmas.{lookup_first, lookup_put, lookup_without, same_equiv, same_true}
use Rattle.listed_volumes.specs.Cached.{AreInOrder, AreOfVolumes, AreRight, HasForgotten, IsMatch, IsKeyOfOne, StayOfVolumes, StayRight, cache_key}

-- ---- keys

keys : (a b : BlockKey) → (a ≡ b) ⊎ (same_block a b ≡ false)
keys a b = by (same_block a b) refl
  where
    by : (t : Bool) → same_block a b ≡ t → (a ≡ b) ⊎ (same_block a b ≡ false)
    by true e = inl (same_true a b e)
    by false e = inr e

-- the entry of a key has the rows of the key
entry_is : (test : BlockKey → Bool) (es : List (BlockKey × List Series)) (f : BlockKey × List Series) → lookup_entry test es ≡ Some f → (lookup test es ≡ Some f.1) × (test f.0 ≡ true)
entry_is test [] f h = absurd (cc)
entry_is test (e ∷ es) f h = by (test e.0) refl (entry_is test es f)
  where
    by : (t : Bool) → test e.0 ≡ t → (lookup_entry test es ≡ Some f → (lookup test es ≡ Some f.1) × (test f.0 ≡ true)) → (lookup test (e ∷ es) ≡ Some f.1) × (test f.0 ≡ true)
    by true t rest =
        let first : Some e ≡ Some f = sym (ap (λ b. cond b (Some e) (lookup_entry test es)) t) ∙ h in
        let same : e ≡ f = cc in
        (ap (λ b. cond b (Some e.1) (lookup test es)) t ∙ ap (λ (x : BlockKey × List Series). Some x.1) same, ap (λ (x : BlockKey × List Series). test x.0) (sym same) ∙ t)
    by false t rest =
        let later = rest (sym (ap (λ b. cond b (Some e) (lookup_entry test es)) t) ∙ h) in
        (ap (λ b. cond b (Some e.1) (lookup test es)) t ∙ later.0, later.1)

-- ---- used

got_itself : (key : BlockKey) (es : List (BlockKey × List Series)) (o : Option (BlockKey × List Series)) → lookup_entry (same_block key) es ≡ o
    → lookup (same_block key) (option_map_or (λ e. e ∷ remove_entry (same_block key) es) o es) ≡ lookup (same_block key) es
got_itself key es None h = refl
got_itself key es (Some f) h =
    let is = entry_is (same_block key) es f h in
    ap (λ b. cond b (Some f.1) (lookup (same_block key) (remove_entry (same_block key) es))) is.1 ∙ sym is.0

-- whichever is used, the rows of each block stay
got : (key other : BlockKey) (b : Blocks) → rows_of other (after_get key b) ≡ rows_of other b
got key other b = by (keys other key)
  where
    by : (other ≡ key) ⊎ (same_block other key ≡ false) → rows_of other (after_get key b) ≡ rows_of other b
    by (inl same) = subst (λ (k : BlockKey). rows_of k (after_get key b) ≡ rows_of k b) (sym same) (got_itself key b.held (lookup_entry (same_block key) b.held) refl)
    by (inr apart) = lookup_first key other b.held (lookup_entry (same_block key) b.held) refl apart

-- ---- forgotten

pub forgot_gone : (key : BlockKey) (b : Blocks) → IsDistinct same_block (keys_of b.held) → rows_of key (after_forget key b) ≡ None
forgot_gone key b once =
    lookup-remove_entry same_equiv (same_block key) (λ x y t. ap (λ k. same_block k y) (same_true key x t)) key b.held once ∙ ap (λ t. cond t None (lookup (same_block key) b.held)) (same_equiv.refl key)

forgot : (key other : BlockKey) (b : Blocks) → same_block other key ≡ false → rows_of other (after_forget key b) ≡ rows_of other b
forgot key other b apart = lookup_without key other b.held apart

-- one of a list of heads has the key, or none has
one_of : (heads : List Head) (key : BlockKey) → IsKeyOfOne heads key ⊎ (IsKeyOfOne heads key → ⊥)
one_of [] key = inr (λ h. absurd h.1)
one_of (h ∷ heads) key = by (keys (cache_key (head_of h)) key) (one_of heads key)
  where
    by : (cache_key (head_of h) ≡ key) ⊎ (same_block (cache_key (head_of h)) key ≡ false) → IsKeyOfOne heads key ⊎ (IsKeyOfOne heads key → ⊥) → IsKeyOfOne (h ∷ heads) key ⊎ (IsKeyOfOne (h ∷ heads) key → ⊥)
    by (inl same) later = inl (h, inl refl, same)
    by (inr apart) (inl found) = inl (found.0, inr found.1, found.2)
    by (inr apart) (inr none) = inr (λ found. neither found.0 found.1 found.2)
      where
        neither : (g : Head) → (h ≡ g) ⊎ IsIn heads g → cache_key (head_of g) ≡ key → ⊥
        neither g (inl e) same =
            let itself : same_block (cache_key (head_of h)) key ≡ true = subst (λ (k : BlockKey). same_block (cache_key (head_of h)) k ≡ true) (ap (λ (x : Head). cache_key (head_of x)) e ∙ same) (same_equiv.refl (cache_key (head_of h))) in
            let bad : false ≡ true = sym apart ∙ itself in cc
        neither g (inr m) same = none (g, m, same)

unequal : (a b : BlockKey) → (a ≡ b → ⊥) → same_block a b ≡ false
unequal a b none = by (keys a b)
  where
    by : (a ≡ b) ⊎ (same_block a b ≡ false) → same_block a b ≡ false
    by (inl same) = absurd (none same)
    by (inr apart) = apart

-- one head
pub forgot_one : (h : Head) (old new : Blocks) → new ≡ after_forget (cache_key (head_of h)) old → rows_of (cache_key (head_of h)) new ≡ None → HasForgotten (h ∷ []) old new
forgot_one h old new is gone = record {
  gone = λ g m. by g m;
  others = λ key none. ap (rows_of key) is ∙ forgot (cache_key (head_of h)) key old (unequal key (cache_key (head_of h)) (λ e. none (h, inl refl, sym e)));
}
  where
    by : (g : Head) → (h ≡ g) ⊎ IsIn [] g → rows_of (cache_key (head_of g)) new ≡ None
    by g (inl e) = subst (λ (x : Head). rows_of (cache_key (head_of x)) new ≡ None) e gone
    by g (inr m) = absurd m

-- no head
pub forgot_none : (b : Blocks) → HasForgotten [] b b
forgot_none b = record { gone = λ g m. absurd m; others = λ key none. refl }

-- one head more
pub forgot_more : (front : List Head) (h : Head) (old mid new : Blocks) → HasForgotten front old mid → HasForgotten (h ∷ []) mid new → HasForgotten (front ++ h ∷ []) old new
forgot_more front h old mid new a b = record {
  gone = λ g m. by g (IsIn-append_cases front (h ∷ []) g m);
  others = λ key none. b.others key (λ found. none (found.0, IsIn-append_right front (h ∷ []) found.0 found.1, found.2)) ∙ a.others key (λ found. none (found.0, IsIn-append_left front (h ∷ []) found.0 found.1, found.2));
}
  where
    apart_from : (g : Head) → IsIn front g → IsKeyOfOne (h ∷ []) (cache_key (head_of g)) ⊎ (IsKeyOfOne (h ∷ []) (cache_key (head_of g)) → ⊥) → rows_of (cache_key (head_of g)) new ≡ None
    apart_from g m (inl found) = subst (λ (k : BlockKey). rows_of k new ≡ None) found.2 (b.gone found.0 found.1)
    apart_from g m (inr none) = b.others (cache_key (head_of g)) none ∙ a.gone g m

    by : (g : Head) → IsIn front g ⊎ IsIn (h ∷ []) g → rows_of (cache_key (head_of g)) new ≡ None
    by g (inl m) = apart_from g m (one_of (h ∷ []) (cache_key (head_of g)))
    by g (inr m) = b.gone g m

-- ---- put

put_first : (key : BlockKey) (rows : List Series) (n : ℕ) (es : List (BlockKey × List Series)) (o : Option (BlockKey × List Series)) → lookup_entry (same_block key) es ≡ o
    → lookup (same_block key) (option_map_or (λ e. (e.0, rows) ∷ remove_entry (same_block key) es) o ((key, rows) ∷ take n es)) ≡ Some rows
put_first key rows n es None h = ap (λ b. cond b (Some rows) (lookup (same_block key) (take n es))) (same_equiv.refl key)
put_first key rows n es (Some f) h = ap (λ b. cond b (Some rows) (lookup (same_block key) (remove_entry (same_block key) es))) (entry_is (same_block key) es f h).1

put_itself : (key : BlockKey) (rows : List Series) (b : Blocks) → rows_of key (after_put key rows b) ≡ Some rows
put_itself key rows b = put_first key rows (b.most - 1) b.held (lookup_entry (same_block key) b.held) refl

put_other : (key other : BlockKey) (rows : List Series) (b : Blocks) → same_block other key ≡ false → (rows_of other (after_put key rows b) ≡ rows_of other b) ⊎ (rows_of other (after_put key rows b) ≡ None)
put_other key other rows b apart = lookup_put key other rows (b.most - 1) b.held (lookup_entry (same_block key) b.held) refl apart

-- ---- order

same_if : (P : List Series → Type 0) (o later : Option (List Series)) → later ≡ o → IfSome o P → IfSome later P
same_if P o later is h = subst (λ (x : Option (List Series)). IfSome x P) (sym is) h

none_if : (P : List Series → Type 0) (later : Option (List Series)) → later ≡ None → IfSome later P
none_if P later is = subst (λ (x : Option (List Series)). IfSome x P) (sym is) tt

pub order_got : (key : BlockKey) (b : Blocks) → AreInOrder b → AreInOrder (after_get key b)
order_got key b h other = same_if AreAscending (rows_of other b) (rows_of other (after_get key b)) (got key other b) (h other)

pub order_forgot : (key : BlockKey) (old new : Blocks) → new ≡ after_forget key old → rows_of key new ≡ None → AreInOrder old → AreInOrder new
order_forgot key old new is gone h other = by (keys other key)
  where
    by : (other ≡ key) ⊎ (same_block other key ≡ false) → IfSome (rows_of other new) AreAscending
    by (inl same) = none_if AreAscending (rows_of other new) (ap (λ (k : BlockKey). rows_of k new) same ∙ gone)
    by (inr apart) = same_if AreAscending (rows_of other old) (rows_of other new) (ap (rows_of other) is ∙ forgot key other old apart) (h other)

order_put : (key : BlockKey) (rows : List Series) (b : Blocks) → AreAscending rows → AreInOrder b → AreInOrder (after_put key rows b)
order_put key rows b asc h other = by (keys other key)
  where
    later : Option (List Series)
    later = rows_of other (after_put key rows b)

    apart_from : (later ≡ rows_of other b) ⊎ (later ≡ None) → IfSome later AreAscending
    apart_from (inl same) = same_if AreAscending (rows_of other b) later same (h other)
    apart_from (inr none) = none_if AreAscending later none

    by : (other ≡ key) ⊎ (same_block other key ≡ false) → IfSome later AreAscending
    by (inl same) = same_if AreAscending (Some rows) later (ap (λ (k : BlockKey). rows_of k (after_put key rows b)) same ∙ put_itself key rows b) asc
    by (inr apart) = apart_from (put_other key other rows b apart)

-- kept, or not
pub order_kept : (key : BlockKey) (rows : List Series) (old new : Blocks) → (new ≡ old) ⊎ (new ≡ after_put key rows old) → AreAscending rows → AreInOrder old → AreInOrder new
order_kept key rows old new (inl same) asc h = subst AreInOrder (sym same) h
order_kept key rows old new (inr is) asc h = subst AreInOrder (sym is) (order_put key rows old asc h)

-- ---- which are listed, and right

pub listed_got : (vs : List KnownVolume) (key : BlockKey) (old new : Blocks) → new ≡ after_get key old → StayOfVolumes vs old new
listed_got vs key old new is known among listed other some = listed other (subst IsSome (ap (rows_of other) is ∙ got key other old) some)

pub right_got : (files : Files) (key : BlockKey) (old new : Blocks) → new ≡ after_get key old → StayRight files old new
right_got files key old new is known held right k m =
    same_if (λ rows. rows ≡ k.rows) (rows_of (cache_key k.head) old) (rows_of (cache_key k.head) new) (ap (rows_of (cache_key k.head)) is ∙ got key (cache_key k.head) old) (right k m)

not_none : (o : Option (List Series)) → o ≡ None → IsSome o → ⊥
not_none o is some = let bad : false ≡ true = subst IsSome is some in cc

listed_put : (k : KnownVolume) (rows : List Series) (b : Blocks) → StayOfVolumes (k ∷ []) b (after_put (cache_key k.head) rows b)
listed_put k rows b known among listed other some = by (keys other (cache_key k.head))
  where
    apart_from : (rows_of other (after_put (cache_key k.head) rows b) ≡ rows_of other b) ⊎ (rows_of other (after_put (cache_key k.head) rows b) ≡ None) → (j : KnownVolume) × IsIn known j × (cache_key j.head ≡ other)
    apart_from (inl same) = listed other (subst IsSome same some)
    apart_from (inr none) = absurd (not_none (rows_of other (after_put (cache_key k.head) rows b)) none some)

    by : (other ≡ cache_key k.head) ⊎ (same_block other (cache_key k.head) ≡ false) → (j : KnownVolume) × IsIn known j × (cache_key j.head ≡ other)
    by (inl same) = (k, among k (inl refl), sym same)
    by (inr apart) = apart_from (put_other (cache_key k.head) other rows b apart)

-- of volumes that are there, those with one key have the same rows
same_volume : (files : Files) (v : VolumeHead) (rows : List Series) (k : KnownVolume) → VolumeHolds v rows files → VolumeHolds k.head k.rows files → cache_key k.head ≡ cache_key v → rows ≡ k.rows
same_volume files v rows k a b same =
    let j : KnownVolume = record { head = v; rows = rows } in
    let name : part_of Checkpoint v ≡ part_of Checkpoint k.head = λ i. record { kind = 7; ns = (sym same i).0; block = (sym same i).1; number = (sym same i).2 } in
    ap (λ (x : KnownVolume). x.rows) (one_known files (part_of Checkpoint v) j k (record { named = refl; holds = a }) (record { named = name; holds = b }))

right_put : (files : Files) (v : VolumeHead) (rows : List Series) (b : Blocks) → VolumeHolds v rows files → StayRight files b (after_put (cache_key v) rows b)
right_put files v rows b holds known held right k m = by (keys (cache_key k.head) (cache_key v))
  where
    later : Option (List Series)
    later = rows_of (cache_key k.head) (after_put (cache_key v) rows b)

    apart_from : (later ≡ rows_of (cache_key k.head) b) ⊎ (later ≡ None) → IfSome later (λ xs. xs ≡ k.rows)
    apart_from (inl same) = same_if (λ xs. xs ≡ k.rows) (rows_of (cache_key k.head) b) later same (right k m)
    apart_from (inr none) = none_if (λ xs. xs ≡ k.rows) later none

    by : (cache_key k.head ≡ cache_key v) ⊎ (same_block (cache_key k.head) (cache_key v) ≡ false) → IfSome later (λ xs. xs ≡ k.rows)
    by (inl same) = same_if (λ xs. xs ≡ k.rows) (Some rows) later (ap (λ (x : BlockKey). rows_of x (after_put (cache_key v) rows b)) same ∙ put_itself (cache_key v) rows b) (same_volume files v rows k holds (held k m) same)
    by (inr apart) = apart_from (put_other (cache_key v) (cache_key k.head) rows b apart)

pub listed_kept : (k : KnownVolume) (rows : List Series) (old new : Blocks) → (new ≡ old) ⊎ (new ≡ after_put (cache_key k.head) rows old) → StayOfVolumes (k ∷ []) old new
listed_kept k rows old new (inl same) known among listed = subst (AreOfVolumes known) (sym same) listed
listed_kept k rows old new (inr is) known among listed = subst (AreOfVolumes known) (sym is) (listed_put k rows old known among listed)

pub right_kept : (files : Files) (v : VolumeHead) (rows : List Series) (old new : Blocks) → VolumeHolds v rows files → (new ≡ old) ⊎ (new ≡ after_put (cache_key v) rows old) → StayRight files old new
right_kept files v rows old new holds (inl same) known held right = subst (AreRight known) (sym same) right
right_kept files v rows old new holds (inr is) known held right = subst (AreRight known) (sym is) (right_put files v rows old holds known held right)

-- for matchers all rows are looked at
pub matched_all : (pick : Pick) (rows found : List Series) → IsMatch pick → found ≡ rows → AreCandidates pick rows found
matched_all (pick.One ns id) rows found match is = absurd match
matched_all (pick.Match ns wanted) rows found match is = is

-- the rows that are kept of a volume
pub right_rows : (k : KnownVolume) (b : Blocks) (rows : List Series) → AreRight (k ∷ []) b → rows_of (cache_key k.head) b ≡ Some rows → rows ≡ k.rows
right_rows k b rows right is = subst (λ (o : Option (List Series)). IfSome o (λ xs. xs ≡ k.rows)) is (right k (inl refl))

-- ---- volumes that go or come

module _ (known now : List KnownVolume) (heads : List Head) (old new : Blocks) (forgotten : HasForgotten heads old new) where
  pub listed_left : ((k : KnownVolume) → IsIn known k → IsIn now k ⊎ IsKeyOfOne heads (cache_key k.head)) → AreOfVolumes known old → AreOfVolumes now new
  listed_left stays listed key some = by (one_of heads key)
    where
      at : (k : KnownVolume) → cache_key k.head ≡ key → (IsKeyOfOne heads key → ⊥) → IsIn now k ⊎ IsKeyOfOne heads (cache_key k.head) → (j : KnownVolume) × IsIn now j × (cache_key j.head ≡ key)
      at k is none (inl m) = (k, m, is)
      at k is none (inr found) = absurd (none (subst (IsKeyOfOne heads) is found))

      by : IsKeyOfOne heads key ⊎ (IsKeyOfOne heads key → ⊥) → (j : KnownVolume) × IsIn now j × (cache_key j.head ≡ key)
      by (inl found) = absurd (not_none (rows_of key new) (subst (λ (x : BlockKey). rows_of x new ≡ None) found.2 (forgotten.gone found.0 found.1)) some)
      by (inr none) =
          let of = listed key (subst IsSome (forgotten.others key none) some) in
          at of.0 of.2 none (stays of.0 of.1)

  pub right_left : ((k : KnownVolume) → IsIn now k → IsIn known k ⊎ IsKeyOfOne heads (cache_key k.head)) → AreRight known old → AreRight now new
  right_left came right k m = by (one_of heads (cache_key k.head)) (came k m)
    where
      gone : IsKeyOfOne heads (cache_key k.head) → IfSome (rows_of (cache_key k.head) new) (λ rows. rows ≡ k.rows)
      gone found = none_if (λ rows. rows ≡ k.rows) (rows_of (cache_key k.head) new) (subst (λ (x : BlockKey). rows_of x new ≡ None) found.2 (forgotten.gone found.0 found.1))

      by : IsKeyOfOne heads (cache_key k.head) ⊎ (IsKeyOfOne heads (cache_key k.head) → ⊥) → IsIn known k ⊎ IsKeyOfOne heads (cache_key k.head) → IfSome (rows_of (cache_key k.head) new) (λ rows. rows ≡ k.rows)
      by (inl found) n = gone found
      by (inr none) (inr found) = gone found
      by (inr none) (inl n) = same_if (λ rows. rows ≡ k.rows) (rows_of (cache_key k.head) old) (rows_of (cache_key k.head) new) (forgotten.others (cache_key k.head) none) (right k n)
