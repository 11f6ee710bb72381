-- Points merged into what a store has open.
use Rattle.std.proofs.Common.{◌≡◌, ◌≤◌, ◌∙◌, inl, inr, ⊎_elim, ℕ, zero, suc, ℤ, ◌≤ℤ◌, Bool, true, false, List, [], length, Option, Some, None, Result, Ok, Err, refl, sym, ap, subst, arith}
use Rattle.std.specs.Prelude.{◌⊎◌, ◌≢◌, ⊤, IfErr, IfOk, OnOk, IsErrAnd, IsErrOf, int_lt}
use Rattle.std.specs.FinMap.{get}
use Rattle.std.proofs.lemmas.Int.{ints}
use Rattle.std.proofs.lemmas.List.{length-map, nil_from_length}
use Rattle.std.proofs.lemmas.Result.{err_from_is_err_and}
use Rattle.m3_model.specs.Answers.{HasPoint}
use Rattle.m3_model.specs.Contents.{Contents, Holds, is_higher, key_of}
use Rattle.m3_model.specs.Members.{IsIn}
use Rattle.m3_model.specs.declared.limits.TheConstants.{MOST_PAGE_POINTS}
use Rattle.m3_model.specs.declared.point.Point.{Point}
use Rattle.m3_outside.specs.Causes.{CountsFaults}
use Rattle.m3_outside.specs.DiskCalls.{LeavesFiles}
use Rattle.m3_outside.specs.DiskState.{DiskState}
use Rattle.m3_outside.specs.declared.disk_err.DiskErr.{DiskErr}
use Rattle.m3_outside.specs.declared.disk_err.DiskErr.TheVariants.{Memory as WantOfMemory, Failed as DiskFailed}
use Rattle.m3_outside.proofs.Moments.{elapses_as}
use Rattle.store_log.specs.listed_volumes.block_buffer.Joins.{joined}
use Rattle.store_log.specs.listed_volumes.fileset_read.Volumes.{of_disk}
use Rattle.store_log.specs.listed_volumes.fileset_read.declared.file_err.FileErr.{FileErr}
use Rattle.store_log.specs.listed_volumes.fileset_read.declared.file_err.FileErr.TheVariants as failures
use Rattle.store_log.specs.listed_volumes.declared.volume.ListedVolume.{ListedVolume}
use Rattle.store_log.specs.listed_volumes.wire_bytes.Entries.{AllBounded, ArePoints}
use Rattle.store_log.specs.held_pages.declared.rising.Rise.{Rise}
use Rattle.store_log.specs.held_pages.Rises.{points_of}
use Rattle.store_log.specs.joined_reads.Beside.{content_beside, risen_in, rises}
use Rattle.store_log.specs.Whole.{BringsWhole, of_points}
use Rattle.store_log.specs.listed_volumes.shard_files.Gains.{Gain, nothing}
use Rattle.store_log.proofs.LogStepLemmas.{counts_for}
use Rattle.store_log.proofs.WholeLemmas.{nothing_is_whole, nothing_read, whole_after, whole_all, whole_err, whole_nothing, whole_ok, whole_same}
use Rattle.store_log.proofs.listed_volumes_proofs.series_merge_proofs.JoinLemmas.{join_swap, joined_stays}
use Rattle.store_log.proofs.listed_volumes_proofs.shard_files_proofs.CountedLemmas.{IsIn-filter, filter-IsIn}
use Rattle.shard_store.specs.Merges.{HasMerged}
use Rattle.shard_store.specs.Stores.{StoreState}
use Rattle.shard_store.specs.StoreParts.{IsCachedIn, IsCountedIn, IsKept, IsOpenOn, content_of_opened, state_of}
use Rattle.shard_store.specs.declared.opened.Opened.{Opened}
use Rattle.shard_store.proofs.PointLemmas.{joined_holds, same_joins}

-- ---- points that rise, joined, are all joined

not_above : (w v : ℤ) → int_lt w v ≡ false → v ≤ℤ w
not_above w v e = grind (arith, ints, e)

-- what doesn't rise is held
pub held_else : (c : Contents) (p : Point) → rises c p ≡ false → Holds c p
held_else c p down = by (get c (key_of p)) refl down
  where
    by : (o : Option ℤ) → get c (key_of p) ≡ o → is_higher o p.v ≡ false → Holds c p
    by None e d = absurd (cc)
    by (Some w) e d = record { value = w; at_least = not_above w p.v d; stands = e }

pub risen_joins : (c : Contents) (ps : List Point) → joined c (risen_in c ps) ≡ joined c ps
risen_joins c ps =
    same_joins c c (risen_in c ps) ps (λ p h. ⊎_elim (λ (here : HasPoint c p). joined_holds c ps p (inl here)) (λ (m : IsIn (risen_in c ps) p). joined_holds c ps p (inr (IsIn-filter (rises c) ps p m))) h)
    (λ p h. ⊎_elim (λ (here : HasPoint c p). joined_holds c (risen_in c ps) p (inl here)) (λ (m : IsIn ps p). by p m (rises c p) refl) h)
  where
    by : (p : Point) → IsIn ps p → (b : Bool) → rises c p ≡ b → Holds (joined c (risen_in c ps)) p
    by p m true up = joined_holds c (risen_in c ps) p (inr (filter-IsIn (rises c) ps p m up))
    by p m false down = joined_stays (risen_in c ps) c p (held_else c p down)

-- they may be joined to what is in memory, with the points of volumes beside it
pub merged_content : (memory : Contents) (volumes ps : List Point) → joined (joined memory (risen_in (joined memory volumes) ps)) volumes ≡ joined (joined memory volumes) ps
merged_content memory volumes ps = join_swap (risen_in (joined memory volumes) ps) volumes memory ∙ risen_joins (joined memory volumes) ps

-- ---- what was found to rise

-- of the volumes by another name
pub rises_are : (vs ws : List ListedVolume) (m : Contents) (ps : List Point) (found : List Rise) → ws ≡ vs → points_of found ≡ risen_in (content_beside m ws) ps → points_of found ≡ risen_in (content_beside m vs) ps
rises_are vs ws m ps found is same = same ∙ ap (λ (l : List ListedVolume). risen_in (content_beside m l) ps) is

pub none_of : (found : List Rise) (rs : List Point) → length found ≡ 0 → points_of found ≡ rs → rs ≡ []
none_of found rs none same = sym same ∙ ap points_of (nil_from_length found none)

pub so_many : (found : List Rise) (rs : List Point) → points_of found ≡ rs → length found ≡ length rs
so_many found rs same = sym (length-map found (λ (r : Rise). r.point)) ∙ ap length same

-- they may stand in an entry
pub are_points : (found : List Rise) (n : ℕ) → (length found ≡ 0 → ⊥) → length found ≤ n → n ≤ MOST_PAGE_POINTS → AllBounded (points_of found) → ArePoints (points_of found)
are_points found n some few most bounded =
    let many = length-map found (λ (r : Rise). r.point) in
    let least : 1 ≤ length found = at_least (length found) some in
    record { some = omega (arith, many, least); most = omega (arith, many, few, most); bounded = bounded }
  where
    at_least : (k : ℕ) → (k ≡ 0 → ⊥) → 1 ≤ k
    at_least zero some = absurd (some refl)
    at_least (suc k) some = omega arith

-- ---- what a merge brings to the disk

module _ (a b : DiskState) (F : Type 0) (leaves : LeavesFiles F a b) where
  -- reading was refused
  pub unread_brings : (gain : Gain) (H : Type 0) (q : Result ℕ FileErr) (e : FileErr) → q ≡ Err e → (H → F) → BringsWhole gain H q a b
  unread_brings gain H q e is to = whole_nothing gain H q a b e is (nothing_read F a b leaves) leaves.proceeds.tells (counts_for F H a.faults b.faults to leaves.proceeds.faults)

  -- nothing rises
  pub none_brings : (rs : List Point) (H : Type 0) (q : Result ℕ FileErr) (n : ℕ) → q ≡ Ok n → (H → F) → (a.tells ≡ true → rs ≡ []) → BringsWhole (of_points rs) H q a b
  none_brings rs H q n is to none =
      whole_same [] rs H q a b (λ tells. sym (none tells))
      (whole_all (of_points []) H q a b n is (λ tells. elapses_as a b (λ x y image gains. nothing_is_whole nothing x y gains) (nothing_read F a b leaves tells)) (λ tells. (nothing_read F a b leaves tells).images) leaves.proceeds.tells
      (counts_for F H a.faults b.faults to leaves.proceeds.faults))

  -- what rises is taken, after a reader that didn't fail
  pub taken_brings : (fs rs : List Point) (r : Result ⊤ DiskErr) (c : DiskState) → (F → ⊥) → (a.tells ≡ true → fs ≡ rs) → BringsWhole (of_points fs) (IsErrOf r DiskFailed) r b c → BringsWhole (of_points rs) (IsErrOf r DiskFailed) r a c
  taken_brings fs rs r c fine same brings =
      whole_same fs rs (IsErrOf r DiskFailed) r a c same (whole_after (of_points fs) a b c (nothing_read F a b leaves) leaves.proceeds.tells (IsErrOf r DiskFailed) r (counts_for F ⊥ a.faults b.faults (λ no. absurd no) leaves.proceeds.faults) brings)

err_and : {X : Type 0} (q : Result X FileErr) (x : FileErr) → IsErrAnd q (λ e. e ≡ x) → q ≡ Err x
err_and q x is = let p = err_from_is_err_and q is in p.1 ∙ ap Err p.2

-- a fault of the disk, handed on as one of the files, and want of memory
pub fault_handed : {X Y : Type 0} (r : Result X DiskErr) (q : Result Y FileErr) (e : DiskErr) → r ≡ Err e → IsErrAnd q (λ x. x ≡ of_disk e) → IsErrOf r DiskFailed → IsErrOf q failures.Disk
fault_handed r q DiskFailed was is f = err_and q failures.Disk is
fault_handed {X} r q WantOfMemory was is f = let bad : ◌≡◌ {A = Result X DiskErr} (Err WantOfMemory) (Err DiskFailed) = sym was ∙ f in absurd (cc)

pub memory_taken : {X Y : Type 0} (r : Result X DiskErr) (q : Result Y FileErr) (e : DiskErr) → r ≡ Err e → IsErrAnd q (λ x. x ≡ of_disk e) → IsErrOf q failures.Memory → IsErrOf r WantOfMemory
memory_taken r q WantOfMemory was is m = was
memory_taken {X} {Y} r q DiskFailed was is m = let bad : ◌≡◌ {A = Result Y FileErr} (Err failures.Disk) (Err failures.Memory) = sym (err_and q failures.Disk is) ∙ m in absurd (cc)

module _ (gain : Gain) (a c : DiskState) where
  pub brings_handed : (r : Result ⊤ DiskErr) (q : Result ℕ FileErr) (e : DiskErr) → r ≡ Err e → IsErrAnd q (λ x. x ≡ of_disk e) → BringsWhole gain (IsErrOf r DiskFailed) r a c → BringsWhole gain (IsErrOf q failures.Disk) q a c
  brings_handed r q e was is brings =
      let same = err_and q (of_disk e) is in
      subst (λ (x : Result ℕ FileErr). BringsWhole gain (IsErrOf x failures.Disk) x a c) (sym same) (by e (subst (λ (x : Result ⊤ DiskErr). BringsWhole gain (IsErrOf x DiskFailed) x a c) was brings))
    where
      by : (e : DiskErr) → (let x : Result ⊤ DiskErr = Err e in BringsWhole gain (IsErrOf x DiskFailed) x a c) → (let y : Result ℕ FileErr = Err (of_disk e) in BringsWhole gain (IsErrOf y failures.Disk) y a c)
      by DiskFailed one = whole_err gain (let x : Result ⊤ DiskErr = Err DiskFailed in IsErrOf x DiskFailed) (let y : Result ℕ FileErr = Err failures.Disk in IsErrOf y failures.Disk) a c DiskFailed failures.Disk (λ f. refl) (λ f. refl) one
      by WantOfMemory one = whole_err gain (let x : Result ⊤ DiskErr = Err WantOfMemory in IsErrOf x DiskFailed) (let y : Result ℕ FileErr = Err failures.Memory in IsErrOf y failures.Disk) a c WantOfMemory failures.Memory (λ f. absurd (cc)) (λ f. absurd (cc)) one

  pub brings_done : (r : Result ⊤ DiskErr) (u : ⊤) (n : ℕ) → r ≡ Ok u → BringsWhole gain (IsErrOf r DiskFailed) r a c → (let y : Result ℕ FileErr = Ok n in BringsWhole gain (IsErrOf y failures.Disk) y a c)
  brings_done r u n was brings =
      whole_ok gain (let x : Result ⊤ DiskErr = Ok u in IsErrOf x DiskFailed) (let y : Result ℕ FileErr = Ok n in IsErrOf y failures.Disk) a c u n (λ f. absurd (cc)) (subst (λ (x : Result ⊤ DiskErr). BringsWhole gain (IsErrOf x DiskFailed) x a c) was brings)

-- ---- a store after a merge of what it has open

-- it is open, as it is then, or closed
pub merged_or_closed : {T : Type 0} (r : Result T FileErr) (later : Opened) (new : Option Opened) (d : DiskState) → IfErr r (λ why. why ≢ failures.Memory → new ≡ None) → OnOk r (new ≡ Some later) → (IsErrOf r failures.Memory → new ≡ Some later)
    → ((IsErrOf r failures.Disk → ⊥) → IsOpenOn later d) → ((IsErrOf r failures.Disk → ⊥) → IsCountedIn later d) → IsCachedIn later d → IsKept new d
merged_or_closed {T} (Ok x) later new d closed ok memory kept counted cached = subst (λ o. IsKept o d) (sym ok) (kept fine, counted fine, cached)
  where
    fine : (let q : Result T FileErr = Ok x in IsErrOf q failures.Disk) → ⊥
    fine f = cc
merged_or_closed {T} (Err failures.Memory) later new d closed ok memory kept counted cached = subst (λ o. IsKept o d) (sym (memory refl)) (kept fine, counted fine, cached)
  where
    fine : (let q : Result T FileErr = Err failures.Memory in IsErrOf q failures.Disk) → ⊥
    fine f = cc
merged_or_closed (Err failures.Disk) later new d closed ok memory kept counted cached = subst (λ o. IsKept o d) (sym (closed (λ e. let bad : failures.Disk ≡ failures.Memory = e in cc))) tt
merged_or_closed (Err (failures.Form f)) later new d closed ok memory kept counted cached = subst (λ o. IsKept o d) (sym (closed (λ e. let bad : failures.Form f ≡ failures.Memory = e in cc))) tt

module _ {D : Type 0} (state : D → DiskState) (disk last : D) (first later : Opened) (numbers : (later.tenure ≡ first.tenure) × (later.fence ≡ first.fence)) (r q : Result ℕ FileErr) (said : q ≡ r) (s : StoreState D) (shown : state_of disk (Some first) ≡ s) where
  pub store_merged : (ps : List Point) (new : Option Opened) → OnOk r (new ≡ Some later) → ((state disk).tells ≡ true → OnOk r (later.held.points ≡ joined first.held.points (risen_in (content_of_opened first) ps)))
      → ((state disk).tells ≡ true → OnOk r (content_of_opened later ≡ joined (content_of_opened first) ps)) → ((state disk).tells ≡ true → IfOk r (λ n. n ≡ length (risen_in (content_of_opened first) ps)))
      → IfOk q (HasMerged state ps s (state_of last new))
  store_merged ps new open_ held content count = subst (λ x. IfOk x (HasMerged state ps s (state_of last new))) (sym said) (by r open_ held content count)
    where
      by : (r : Result ℕ FileErr) → OnOk r (new ≡ Some later) → ((state disk).tells ≡ true → OnOk r (later.held.points ≡ joined first.held.points (risen_in (content_of_opened first) ps)))
          → ((state disk).tells ≡ true → OnOk r (content_of_opened later ≡ joined (content_of_opened first) ps)) → ((state disk).tells ≡ true → IfOk r (λ n. n ≡ length (risen_in (content_of_opened first) ps)))
          → IfOk r (HasMerged state ps s (state_of last new))
      by (Ok n) open_ held content count =
          subst (λ (x : StoreState D). HasMerged state ps x (state_of last new) n) shown
          (subst (λ (o : Option Opened). HasMerged state ps (state_of disk (Some first)) (state_of last o) n) (sym open_) (record {
            same = λ i. record { disk = last; open_ = true; buffered = later.held.points; content = content_of_opened later; tenure = numbers.0 i; fence = numbers.1 i };
            buffered = held;
            content = content;
            count = count;
          }))
      by (Err e) open_ held content count = tt

  pub store_unmerged : (new : Option Opened) → (IsErrOf r failures.Memory → new ≡ Some later) → (IsErrOf r failures.Memory → later.held ≡ first.held) → later.volumes ≡ first.volumes → IsErrOf q failures.Memory → state_of last new ≡ record s { disk = last }
  store_unmerged new open_ held volumes is =
      let m = sym said ∙ is in
      let there = ap (state_of last) (open_ m) in
      let stays : state_of last (Some later) ≡ record (state_of disk (Some first)) { disk = last } =
      λ i. record { disk = last; open_ = true; buffered = (held m i).points; content = content_of_opened (record first { held = held m i; volumes = volumes i }); tenure = numbers.0 i; fence = numbers.1 i } in
      there ∙ stays ∙ ap (λ (x : StoreState D). record x { disk = last }) shown

  pub store_brings : (ps : List Point) → BringsWhole (of_points (risen_in (content_of_opened first) ps)) (IsErrOf r failures.Disk) r (state disk) (state last) → BringsWhole (of_points (risen_in s.content ps)) (IsErrOf q failures.Disk) q (state s.disk) (state last)
  store_brings ps one =
      subst (λ (x : StoreState D). BringsWhole (of_points (risen_in x.content ps)) (IsErrOf q failures.Disk) q (state x.disk) (state last)) shown
      (subst (λ (x : Result ℕ FileErr). BringsWhole (of_points (risen_in (content_of_opened first) ps)) (IsErrOf x failures.Disk) x (state disk) (state last)) (sym said) one)
