-- What a tick takes from the content, counted by reads, and what its removals leave.
use Rattle.std.proofs.Common.{◌≡◌, inl, inr, ⊎_elim, ℕ, ◌+◌, ◌-◌, ◌<◌, ◌≤◌, List, [], ◌∷◌, length, map, refl, sym, ap, subst, ◌∙◌, arith, Bool, true, false, not, ◌&&◌, Some, None, Option, Result, Ok, Err, IsErrAnd}
use Rattle.std.specs.Prelude.{◌==◌, ◌↔◌, IsTrue, IfOk, IfErr, IfSome, IsSome, IsErrOf, filter, nat_eq, nat_le, nat_lt, slice_get}
use Rattle.std.specs.FinMap.{len, retain_keys}
use Rattle.std.proofs.lemmas.Bool.{eqb-true, leb-true, ltb-true}
use Rattle.m3_model.specs.Answers.{HasPoint, IsAnswer}
use Rattle.m3_model.specs.Contents.{Contents, content_of, key_of}
use Rattle.m3_model.specs.Members.{IsIn}
use Rattle.m3_model.specs.declared.point.Key.{Key}
use Rattle.m3_model.specs.declared.point.Matcher.{Matcher}
use Rattle.m3_model.specs.declared.point.Pick.TheVariants as pick
use Rattle.m3_model.specs.declared.point.Point.{Point}
use Rattle.m3_model.specs.declared.point.Series.{Series}
use Rattle.m3_model.specs.declared.rules.Rules.{Rules}
use Rattle.m3_model.specs.declared.rules.Space.{Space}
use Rattle.m3_outside.specs.DiskCalls.{LeavesFiles}
use Rattle.m3_outside.specs.DiskState.{DiskState, EachImage, IsLawfulDisk, Told}
use Rattle.m3_outside.specs.Files.{Files}
use Rattle.m3_outside.specs.declared.disk_err.DiskErr.{DiskErr}
use Rattle.m3_outside.specs.declared.disk_err.DiskErr.TheVariants.{Failed as DiskFailed, Memory as WantOfMemory}
use Rattle.store_log.specs.listed_volumes.block_buffer.Held.{has_expired, is_in_block, without}
use Rattle.store_log.specs.listed_volumes.block_buffer.Joins.{joined}
use Rattle.store_log.proofs.listed_volumes_proofs.commit_log_proofs.Leaves.{leaves_none, leaves_then}
use Rattle.store_log.proofs.listed_volumes_proofs.commit_log_proofs.ReadLemmas.{passed_err}
use Rattle.store_log.specs.listed_volumes.fileset_read.Volumes.{of_disk}
use Rattle.store_log.specs.listed_volumes.fileset_read.declared.file_err.FileErr.{FileErr}
use Rattle.store_log.specs.listed_volumes.fileset_read.declared.file_err.FileErr.TheVariants as unread
use Rattle.store_log.specs.listed_volumes.series_merge.Merges.{IsMergeOf}
use Rattle.store_log.proofs.listed_volumes_proofs.series_merge_proofs.OrderLemmas.{content_in}
use Rattle.store_log.specs.listed_volumes.wire_bytes.Volumes.{count_of}
use Rattle.store_log.specs.listed_volumes.volume_bytes.declared.heads.Head.{Head}
use Rattle.store_log.specs.listed_volumes.volume_bytes.Heads.{head_of}
use Rattle.store_log.specs.listed_volumes.shard_files.FilesHold.{volume_points}
use Rattle.store_log.specs.listed_volumes.shard_files.Keeps.{Rearranges}
use Rattle.store_log.specs.listed_volumes.shard_files.Parts.{KnownVolume, VolumesAre}
use Rattle.store_log.proofs.listed_volumes_proofs.shard_files_proofs.ContentLemmas.{content_holds}
use Rattle.store_log.proofs.listed_volumes_proofs.shard_files_proofs.CountedLemmas.{IsIn-filter, both}
use Rattle.store_log.proofs.listed_volumes_proofs.shard_files_proofs.GainLemmas.{covers_itself}
use Rattle.store_log.specs.snapshot_steps.volume_steps.Known.{HaveContent, HoldsKnown}
use Rattle.store_log.specs.snapshot_steps.volume_steps.KnownLists.{without_volumes}
use Rattle.store_log.proofs.snapshot_steps_proofs.volume_steps_proofs.KnownLemmas.{hold_with_fewer}
use Rattle.store_log.proofs.snapshot_steps_proofs.volume_steps_proofs.LawLemmas.{join_is_there}
use Rattle.store_log.proofs.snapshot_steps_proofs.volume_steps_proofs.RemovalLemmas.{left_moment}
use Rattle.shard_store.specs.Stores.{joined_with}
use Rattle.shard_store.specs.Ticks.{expired_in, has_outlived, keys_in, live_volumes, ticked_content}
use Rattle.shard_store.proofs.BlockLemmas.{more_points}
use Rattle.shard_store.proofs.CountLemmas.{answer_counted, merge_counted}
use Rattle.shard_store.proofs.KnownReads.{known_counted}
use Rattle.shard_store.proofs.PointLemmas.{has_fewer, has_kept, has_untested, kept_has, joined_holds, joined_source, same_by_points}
use Rattle.shard_store.proofs.TickCounts.{first_len, here_expired, is_gone, last_without, step_len}
use Rattle.shard_store.proofs.TickLemmas.{have_live, live_same, parts_joined, without_going}

-- ---- what is known of a disk whose files were left

pub told_left : (P : Files → Type 0) (F : Type 0) (a b : DiskState) → LeavesFiles F a b → Told a P → Told b P
told_left P F a b leaves told tells = let before = sym leaves.proceeds.tells ∙ tells in subst P (sym (leaves.files before)) (told before)

-- an error of a disk that wanted no memory is a fault
pub only_fault : {X Y : Type 0} (r : Result X FileErr) (q : Result Y DiskErr) (x : DiskErr) → q ≡ Err x → (IsErrOf q WantOfMemory → ⊥) → IsErrAnd r (λ e. e ≡ of_disk x) → IfErr r (λ why. why ≡ unread.Disk)
only_fault r q WantOfMemory was never is = absurd (never was)
only_fault (Ok u) q DiskFailed was never is = absurd is
only_fault (Err e) q DiskFailed was never is = is

-- a fault that is handed on isn't want of memory
pub never_memory : {X Y : Type 0} (r : Result X FileErr) (q : Result Y FileErr) (x : FileErr) → q ≡ Err x → IfErr q (λ why. why ≡ unread.Disk) → IsErrAnd r (λ e. e ≡ x) → IsErrOf r unread.Memory → ⊥
never_memory {X} {Y} r q x was err is wanted = by q err (passed_err r q x unread.Memory was is wanted)
  where
    by : (q : Result Y FileErr) → IfErr q (λ why. why ≡ unread.Disk) → q ≡ Err unread.Memory → ⊥
    by (Ok u) err e = cc
    by (Err x) err e = let bad : ◌≡◌ {A = Result Y FileErr} (Err unread.Disk) (Err unread.Memory) = ap Err (sym err) ∙ e in cc

-- ---- a difference of two counts

-- what the difference is of, where both were counted
pub counted_out : {P : ℕ → Type 0} (r : Result ℕ FileErr) (more less : Option ℕ) (x y : ℕ) → IfOk r (λ n. IfSome more (λ a. IfSome less (λ b. n ≡ a - b))) → IfOk r (λ n. IsSome more × IsSome less) → IfSome more (λ a. a ≡ x) → IfSome less (λ b. b ≡ y)
    → ((n : ℕ) → n ≡ x - y → P n) → IfOk r P
counted_out (Err e) more less x y is some a b to = tt
counted_out (Ok n) (Some a) (Some b) x y is some a_is b_is to = to n (is ∙ (λ i. a_is i - b_is i))
counted_out (Ok n) (Some a) None x y is some a_is b_is to = let bad : false ≡ true = some.1 in absurd (cc)
counted_out (Ok n) None less x y is some a_is b_is to = let bad : false ≡ true = some.0 in absurd (cc)

-- ---- keys of one namespace, below an end

-- where a content has no points with such keys, its join with others has those of the others
keys_beside : (c : Contents) (ps : List Point) (test : Key → Bool) → ((p : Point) → HasPoint c p → test (key_of p) ≡ true → ⊥) → retain_keys (joined c ps) test ≡ retain_keys (content_of ps) test
keys_beside c ps test none = same_by_points (retain_keys (joined c ps) test) (retain_keys (content_of ps) test)
    (λ p h.
    let k = has_kept (joined c ps) test p h in
    let there : IsIn ps p = ⊎_elim (λ (here : HasPoint c p). absurd (none p here k.1)) (λ (m : IsIn ps p). m) (joined_source c ps p k.0) in
    let high = content_holds ps p (covers_itself ps p there) in
    record { value = high.value; at_least = high.at_least; stands = kept_has (content_of ps) test (record p { v = high.value }) high.stands k.1 })
    (λ p h.
    let k = has_kept (content_of ps) test p h in
    let high = joined_holds c ps p (inr (content_in ps p k.0)) in
    record { value = high.value; at_least = high.at_least; stands = kept_has (joined c ps) test (record p { v = high.value }) high.stands k.1 })

empty_is : (xs : List Series) → length xs ≡ 0 → xs ≡ []
empty_is [] e = refl
empty_is (x ∷ xs) e = absurd (omega (arith, e))

-- where an answer is empty, the content has no points there
none_there : (c : Contents) (ns end : ℕ) → IsAnswer c (pick.Match ns []) 0 end [] → (p : Point) → HasPoint c p → is_in_block ns 0 end (key_of p) ≡ true → ⊥
none_there c ns end a p h t =
    let outer = both (nat_eq ns p.ns) (nat_le 0 p.t && nat_lt p.t (0 + end)) t in
    let inner = both (nat_le 0 p.t) (nat_lt p.t (0 + end)) outer.1 in
    let space = eqb-true ns p.ns outer.0 in
    let low = leb-true 0 p.t inner.0 in
    let under = ltb-true p.t (0 + end) inner.1 in
    a.whole p (record { stands = h; matches = (sym space, λ tags has q none. absurd none); in_range = (low, omega (arith, under)) })

-- ---- one namespace after another

-- So many keys were lost in the first so many namespaces, by reads alone.
pub record Losing (rules : Rules) (ks : List KnownVolume) (m : Contents) (n lost : ℕ) (old now : DiskState) : Type 0 where
  pub leaves : LeavesFiles ⊥ old now
  pub sum : old.tells ≡ true → lost + len (without (joined_with m ks) (is_gone rules n)) + len (ticked_content rules m ks) ≡ len (without (ticked_content rules m ks) (is_gone rules n)) + len (joined_with m ks)

module _ (rules : Rules) (ks : List KnownVolume) (m : Contents) where
  -- what is in memory or in volumes that go
  abbrev going_content : Contents
  going_content = joined m (volume_points (filter (has_outlived rules) ks))

  -- what stays of volumes
  abbrev staying_points : List Point
  staying_points = volume_points (live_volumes rules ks)

  module _ (ns end : ℕ) where
    keys_all : keys_in (joined going_content staying_points) ns end ≡ keys_in (joined_with m ks) ns end
    keys_all = ap (λ c. keys_in c ns end) (parts_joined rules ks m)

    -- nothing goes
    pub lost_none : (wanted : List Matcher) → wanted ≡ [] → (one : List Series) → (length one == 0) ≡ true → IsAnswer going_content (pick.Match ns wanted) 0 end one → 0 + keys_in (content_of staying_points) ns end ≡ keys_in (joined_with m ks) ns end
    lost_none wanted every one is answer =
        let none : IsAnswer going_content (pick.Match ns []) 0 end [] =
        subst (λ (l : List Series). IsAnswer going_content (pick.Match ns []) 0 end l) (empty_is one (eqb-true (length one) 0 is)) (subst (λ (w : List Matcher). IsAnswer going_content (pick.Match ns w) 0 end one) every answer) in
        let beside = ap len (keys_beside going_content staying_points (is_in_block ns 0 end) (none_there going_content ns end none)) in
        let all = keys_all in
        omega (arith, beside, all)

    -- what goes is what is there with it and not without it
    pub lost_counted : (wanted : List Matcher) → wanted ≡ [] → (one other all : List Series) (n : ℕ) → IsAnswer (content_of staying_points) (pick.Match ns wanted) 0 end other → IsAnswer (joined going_content staying_points) (pick.Match ns wanted) 0 end all
        → IsMergeOf one other all → n ≡ count_of all - count_of other → n + keys_in (content_of staying_points) ns end ≡ keys_in (joined_with m ks) ns end
    lost_counted wanted every one other all n stays whole merge is =
        let a = answer_counted (content_of staying_points) ns end other (subst (λ (w : List Matcher). IsAnswer (content_of staying_points) (pick.Match ns w) 0 end other) every stays) in
        let b = answer_counted (joined going_content staying_points) ns end all (subst (λ (w : List Matcher). IsAnswer (joined going_content staying_points) (pick.Match ns w) 0 end all) every whole) in
        let le = merge_counted ns one other all stays.ordered merge in
        let same = keys_all in
        omega (arith, a, b, le, same, is)

  -- what a tick leaves
  abbrev ticked : Contents
  ticked = ticked_content rules m ks

  module _ (n : ℕ) (space : Space) (stands : slice_get rules.spaces n ≡ Some space) (end : ℕ) (ends : (t : ℕ) → IsTrue (expired_in space.retention rules.now t) ↔ (t < end)) where
    -- of what expired only the points of volumes that stay are left
    ticked_keys : keys_in ticked n end ≡ keys_in (content_of staying_points) n end
    ticked_keys = ap len (keys_beside (without m (has_expired rules)) staying_points (is_in_block n 0 end)
        (λ p h t. let at = here_expired rules n space stands end ends (key_of p) t in let bad : true ≡ false = sym at.1 ∙ has_untested m (has_expired rules) p h in absurd (cc)))

  pub losing_none : (d : DiskState) → Losing rules ks m 0 0 d d
  losing_none d = record {
    leaves = leaves_none ⊥ d (λ never. never);
    sum = λ tells. let a = first_len rules (joined_with m ks) in let b = first_len rules ticked in omega (arith, a, b);
  }

  pub losing_more : (n lost more : ℕ) (space : Space) → slice_get rules.spaces n ≡ Some space → (end : ℕ) → ((t : ℕ) → IsTrue (expired_in space.retention rules.now t) ↔ (t < end)) → (a b c : DiskState) → Losing rules ks m n lost a b → LeavesFiles ⊥ b c
      → (b.tells ≡ true → more + keys_in (content_of staying_points) n end ≡ keys_in (joined_with m ks) n end) → Losing rules ks m (n + 1) (lost + more) a c
  losing_more n lost more space stands end ends a b c before leaves counted = record {
    leaves = leaves_then ⊥ ⊥ a b c before.leaves leaves;
    sum = λ tells.
        let so_far = before.sum tells in
        let here = counted (before.leaves.proceeds.tells ∙ tells) in
        let kept = ticked_keys n space stands end ends in
        let old = step_len rules n space stands end ends (joined_with m ks) in
        let new = step_len rules n space stands end ends ticked in
        omega (arith, so_far, here, kept, old, new);
  }

  module _ (x : Files) (are : VolumesAre ks x) where
    -- all that is lost
    pub lost_all : (n lost : ℕ) (old now : DiskState) → length rules.spaces ≤ n → Losing rules ks m n lost old now → old.tells ≡ true → lost ≡ len (joined_with m ks) - len ticked
    lost_all n lost old now le losing tells =
        let sum = losing.sum tells in
        let same = ap len (last_without rules n (joined_with m ks) le ∙ sym (live_same rules ks x are m) ∙ sym (last_without rules n ticked le)) in
        omega (arith, sum, same)

  -- ---- what removals leave

  -- what a tick leaves is there before it
  pub ticked_there : HaveContent m ks ticked
  ticked_there p h = ⊎_elim (λ (here : HasPoint (without m (has_expired rules)) p). inl (has_fewer m (has_expired rules) p here))
      (λ (v : IsIn staying_points p). inr (more_points (live_volumes rules ks) ks (λ k mem. IsIn-filter (λ j. not (has_outlived rules j)) ks k mem) p v))
      (joined_source (without m (has_expired rules)) staying_points p h)

  -- a call that leaves the files keeps what hasn't expired
  pub live_kept : (tenure fence : ℕ) (F : Type 0) (a b : DiskState) → EachImage a (HoldsKnown m ks tenure fence) → LeavesFiles F a b → Rearranges (without (joined_with m ks) (has_expired rules)) F a b
  live_kept tenure fence F a b each leaves = record {
    any_moment = λ tells.
        left_moment F a b leaves (without (joined_with m ks) (has_expired rules)) m ks tenure fence each (λ p h. join_is_there m ks p (has_fewer (joined_with m ks) (has_expired rules) p h)) tells;
    tells = leaves.proceeds.tells;
    faults = leaves.proceeds.faults;
  }

  abbrev live : Contents
  live = without m (has_expired rules)

  module _ (goes : List Head) (goes_are : map head_of goes ≡ map (λ k. k.head) (filter (has_outlived rules) ks)) (tenure fence : ℕ) (a : DiskState) (lawful : IsLawfulDisk a) (each : EachImage a (HoldsKnown m ks tenure fence)) where
    pub live_known : EachImage a (HoldsKnown live ks tenure fence)
    live_known tells x image = hold_with_fewer m live ks tenure fence x (each tells x image) (λ p h. has_fewer m (has_expired rules) p h)

    going_left : a.tells ≡ true → without_volumes goes ks ≡ live_volumes rules ks
    going_left tells = without_going rules ks a.files (known_counted m ks tenure fence a lawful each tells) goes goes_are

    pub live_there : a.tells ≡ true → HaveContent live (without_volumes goes ks) (without (joined_with m ks) (has_expired rules))
    live_there tells = subst (λ js. HaveContent live js (without (joined_with m ks) (has_expired rules))) (sym (going_left tells)) (have_live rules ks a.files (known_counted m ks tenure fence a lawful each tells) m)

    pub live_left : (b : DiskState) → b.tells ≡ a.tells → EachImage b (HoldsKnown live (without_volumes goes ks) tenure fence) → EachImage b (HoldsKnown live (live_volumes rules ks) tenure fence)
    live_left b same left tells x image = subst (λ js. HoldsKnown live js tenure fence x) (going_left (sym same ∙ tells)) (left tells x image)
