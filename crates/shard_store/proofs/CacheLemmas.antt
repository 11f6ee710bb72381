-- Rows of volumes that a store keeps, where its calls go on.
use Rattle.std.proofs.Common.{◌≡◌, ◌∙◌, List, [], ◌∷◌, map, Bool, true, false, Option, Some, Result, inl, inr, refl, sym, ap, subst}
use Rattle.std.specs.Prelude.{◌⊎◌, ◌==◌, ◌&&◌, ◌||◌, OnOk, IsErrOf, filter, not}
use Rattle.std.proofs.lemmas.Bool.{eqb-true}
use Rattle.m3_model.specs.Members.{IsIn}
use Rattle.m3_model.specs.declared.rules.Rules.{Rules}
use Rattle.m3_model.proofs.MemberLemmas.{IsIn-map, map-IsIn}
use Rattle.m3_model.proofs.RangeLemmas.{both_true}
use Rattle.m3_outside.specs.DiskState.{DiskState, Told}
use Rattle.store_log.specs.listed_volumes.shard_files.Parts.{KnownVolume}
use Rattle.store_log.proofs.listed_volumes_proofs.shard_files_proofs.CountedLemmas.{IsIn-filter, filter-IsIn}
use Rattle.store_log.specs.listed_volumes.volume_bytes.declared.heads.Head.{Head}
use Rattle.store_log.specs.listed_volumes.volume_bytes.Heads.{head_of}
use Rattle.store_log.specs.snapshot_steps.volume_steps.KnownLists.{is_one_of, is_volume_at, with_volume, without_volumes}
use Rattle.store_log.proofs.snapshot_steps_proofs.volume_steps_proofs.ListLemmas.{in_with, with_in}
use Rattle.store_log.specs.listed_volumes.Cached.{AreOfVolumes, AreRight, HasForgotten, IsKeyOfOne, StayOfVolumes, StayRight, cache_key}
use Rattle.store_log.specs.listed_volumes.Listed.{AreHeld, known_in}
use Rattle.store_log.specs.listed_volumes.declared.volume.ListedVolume.{ListedVolume}
use Rattle.store_log.specs.listed_volumes.declared.row_cache.RowCache.{RowCache}
use Rattle.store_log.proofs.listed_volumes_proofs.CachedLemmas.{listed_left, right_left}
use Rattle.store_log.specs.listed_volumes.fileset_read.declared.file_err.FileErr.{FileErr}
use Rattle.store_log.specs.listed_volumes.fileset_read.declared.file_err.FileErr.TheVariants as failures
use Rattle.shard_store.specs.Stores.{StoreState}
use Rattle.shard_store.specs.StoreParts.{state_of}
use Rattle.shard_store.specs.Ticks.{has_outlived, live_volumes}
use Rattle.shard_store.specs.declared.opened.Opened.{Opened}
use Rattle.store_log.proofs.LogStepLemmas.{on_ok_as}

-- what is kept of these volumes, as a store with them keeps it
abbrev pub AreCached : List KnownVolume → RowCache → DiskState → Type 0
AreCached known blocks d = AreOfVolumes known blocks × Told d (λ _. AreRight known blocks)

module _ (known now : List KnownVolume) (old new : RowCache) (a b : DiskState) (same : b.tells ≡ a.tells) where
  -- volumes and rows are as they were
  pub cached_still : now ≡ known → new ≡ old → AreCached known old a → AreCached now new b
  cached_still is stays has = (
    subst (λ (ks : List KnownVolume). AreOfVolumes ks new) (sym is) (subst (AreOfVolumes known) (sym stays) has.0),
    λ tells. subst (λ (ks : List KnownVolume). AreRight ks new) (sym is) (subst (AreRight known) (sym stays) (has.1 (sym same ∙ tells))),
  )

  -- some volumes come or go, and nothing is kept of them
  cached_left : (heads : List Head) → HasForgotten heads old new → ((k : KnownVolume) → IsIn known k → IsIn now k ⊎ IsKeyOfOne heads (cache_key k.head)) → ((k : KnownVolume) → IsIn now k → IsIn known k ⊎ IsKeyOfOne heads (cache_key k.head))
      → AreCached known old a → AreCached now new b
  cached_left heads forgotten stays came has = (
    listed_left known now heads old new forgotten stays has.0,
    λ tells. right_left known now heads old new forgotten came (has.1 (sym same ∙ tells)),
  )

  -- one volume more
  pub cached_added : (h : Head) (k : KnownVolume) → cache_key (head_of h) ≡ cache_key k.head → now ≡ with_volume k known → HasForgotten (h ∷ []) old new → AreCached known old a → AreCached now new b
  cached_added h k key is forgotten has =
      cached_left (h ∷ []) forgotten (λ j m. inl (subst (λ (l : List KnownVolume). IsIn l j) (sym is) (with_in k j known (inr m))))
      (λ j m. by j (in_with k j known (subst (λ (l : List KnownVolume). IsIn l j) is m))) has
    where
      by : (j : KnownVolume) → (j ≡ k) ⊎ IsIn known j → IsIn known j ⊎ IsKeyOfOne (h ∷ []) (cache_key j.head)
      by j (inr m) = inl m
      by j (inl e) = inr (h, inl refl, key ∙ ap (λ (x : KnownVolume). cache_key x.head) (sym e))

  -- those that go have their keys among these heads
  cached_filtered : (heads : List Head) (test : KnownVolume → Bool) → ((k : KnownVolume) → IsIn known k → test k ≡ false → IsKeyOfOne heads (cache_key k.head)) → now ≡ filter test known → HasForgotten heads old new
      → AreCached known old a → AreCached now new b
  cached_filtered heads test goes is forgotten has =
      cached_left heads forgotten (λ k m. by k m (test k) refl) (λ k m. inl (IsIn-filter test known k (subst (λ (l : List KnownVolume). IsIn l k) is m))) has
    where
      by : (k : KnownVolume) → IsIn known k → (t : Bool) → test k ≡ t → IsIn now k ⊎ IsKeyOfOne heads (cache_key k.head)
      by k m true e = inl (subst (λ (l : List KnownVolume). IsIn l k) (sym is) (filter-IsIn test known k m e))
      by k m false e = inr (goes k m e)

  at_key : (h : Head) (k : KnownVolume) → is_volume_at h.ns h.start h.number k ≡ true → cache_key (head_of h) ≡ cache_key k.head
  at_key h k t =
      let outer = both_true (k.head.ns == h.ns) ((k.head.start == h.start) && (k.head.number == h.number)) t in
      let inner = both_true (k.head.start == h.start) (k.head.number == h.number) outer.1 in
      let ns = eqb-true k.head.ns h.ns outer.0 in
      let start = eqb-true k.head.start h.start inner.0 in
      let number = eqb-true k.head.number h.number inner.1 in
      λ i. (sym ns i, sym start i, sym number i)

  found_in : (heads : List Head) (k : KnownVolume) → is_one_of heads k ≡ true → IsKeyOfOne heads (cache_key k.head)
  found_in [] k t = absurd (cc)
  found_in (h ∷ heads) k t = by (is_volume_at h.ns h.start h.number k) refl (found_in heads k)
    where
      by : (x : Bool) → is_volume_at h.ns h.start h.number k ≡ x → (is_one_of heads k ≡ true → IsKeyOfOne heads (cache_key k.head)) → IsKeyOfOne (h ∷ heads) (cache_key k.head)
      by true e later = (h, inl refl, at_key h k e)
      by false e later = let rest = later (sym (ap (λ y. y || is_one_of heads k) e) ∙ t) in (rest.0, inr rest.1, rest.2)

  untrue : (x : Bool) → not x ≡ false → x ≡ true
  untrue true e = refl
  untrue false e = absurd (cc)

  -- without some volumes
  pub cached_without : (olds : List Head) → now ≡ without_volumes olds known → HasForgotten olds old new → AreCached known old a → AreCached now new b
  cached_without olds is forgotten has = cached_filtered olds (λ k. not (is_one_of olds k)) (λ k m e. found_in olds k (untrue (is_one_of olds k) e)) is forgotten has

  -- without those that have expired as a whole
  pub cached_live : (rules : Rules) (goes : List Head) → map head_of goes ≡ map (λ k. k.head) (filter (has_outlived rules) known) → now ≡ live_volumes rules known → HasForgotten goes old new → AreCached known old a → AreCached now new b
  cached_live rules goes are is forgotten has = cached_filtered goes (λ k. not (has_outlived rules k)) (λ k m e. gone k m (untrue (has_outlived rules k) e)) is forgotten has
    where
      gone : (k : KnownVolume) → IsIn known k → has_outlived rules k ≡ true → IsKeyOfOne goes (cache_key k.head)
      gone k m e =
          let there = map-IsIn (λ (j : KnownVolume). j.head) (filter (has_outlived rules) known) k (filter-IsIn (has_outlived rules) known k m e) in
          let of = IsIn-map head_of goes k.head (subst (λ l. IsIn l k.head) (sym are) there) in
          (of.0, of.1, ap cache_key of.2)

-- after a read
pub cached_fetched : (vs ws : List ListedVolume) → ws ≡ vs → (old new : RowCache) (a b : DiskState) → b.tells ≡ a.tells → Told a (AreHeld (known_in vs)) → StayOfVolumes (known_in ws) old new → (a.tells ≡ true → StayRight a.files old new)
    → AreCached (known_in vs) old a → AreCached (known_in vs) new b
cached_fetched vs ws is old new a b same held listed right has = (
  listed (known_in vs) (λ k m. subst (λ (l : List ListedVolume). IsIn (known_in l) k) is m) has.0,
  λ tells. let told = sym same ∙ tells in right told (known_in vs) (held told) (has.1 told),
)

-- ---- a store that was read, as its contract has it

module _ {D : Type 0} (disk last : D) (first later : Opened) (same : later ≡ record first { cache = later.cache }) (s : StoreState D) (shown : state_of disk (Some first) ≡ s) (new : Option Opened) where
  left : new ≡ Some later → state_of last new ≡ record s { disk = last }
  left open_ = ap (state_of last) (open_ ∙ ap Some same) ∙ ap (λ (x : StoreState D). record x { disk = last }) shown

  module _ {T : Type 0} (r q : Result T FileErr) (said : q ≡ r) where
    pub fetched_ok : OnOk r (new ≡ Some later) → OnOk q (state_of last new ≡ record s { disk = last })
    fetched_ok open_ = subst (λ x. OnOk x (state_of last new ≡ record s { disk = last })) (sym said) (on_ok_as r left open_)

    pub fetched_memory : (IsErrOf r failures.Memory → new ≡ Some later) → IsErrOf q failures.Memory → state_of last new ≡ record s { disk = last }
    fetched_memory open_ is = left (open_ (sym said ∙ is))
