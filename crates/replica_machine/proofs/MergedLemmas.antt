-- A merge is a step of the core.
use Rattle.std.proofs.Common.{◌≡◌, ◌≢◌, ◌≤◌, ◌∙◌, inl, inr, ⊎_elim, ℕ, max, List, ◌++◌, Bool, true, false, refl, sym, ap, subst, arith, Option, Some, None, Result, Ok, Err}
use Rattle.std.specs.Prelude.{◌⊎◌, OnOk, IfOk, IfErr, IsErrOf}
use Rattle.m3_model.specs.Answers.{HasPoint}
use Rattle.m3_model.specs.Contents.{Contents, Holds, key_of, point_at}
use Rattle.m3_model.specs.Members.{IsIn}
use Rattle.m3_model.specs.Reads.{Covers}
use Rattle.m3_model.specs.Rules.{HasExpired}
use Rattle.m3_model.specs.declared.point.Page.{Page}
use Rattle.m3_model.specs.declared.point.Point.{Point}
use Rattle.m3_model.specs.declared.reason.Damage.{Damage}
use Rattle.m3_model.specs.declared.reason.Reason.{Reason}
use Rattle.m3_model.specs.declared.reason.Reason.TheVariants as reason
use Rattle.m3_model.specs.declared.replica.Standing.{Standing}
use Rattle.m3_model.specs.declared.replica.Standing.TheVariants as standing
use Rattle.m3_model.proofs.MemberLemmas.{IsIn-append_left, IsIn-append_right, IsIn-append_cases}
use Rattle.m3_outside.specs.Files.{Files}
use Rattle.m3_outside.specs.DiskState.{DiskState, StepOf}
use Rattle.placement_core.proofs.ListLemmas.{All-from_each, each-from_All, Any-from_IsIn, IsIn-from_Any}
use Rattle.shard_store.specs.block_buffer.Joins.{joined}
use Rattle.shard_store.specs.shard_files.Damage.{OfForm}
use Rattle.shard_store.specs.shard_files.FilesHold.{FilesHold}
use Rattle.shard_store.specs.shard_files.Gains.{Gains, MayGain}
use Rattle.shard_store.specs.fileset_read.Volumes.{IsUndamaged}
use Rattle.shard_store.specs.fileset_read.declared.file_err.FileErr.{FileErr}
use Rattle.shard_store.specs.fileset_read.declared.file_err.FileErr.TheVariants as unread
use Rattle.shard_store.specs.Beside.{risen_in, rises}
use Rattle.shard_store.specs.Merges.{HasMerged}
use Rattle.shard_store.specs.Stores.{StoreState, closed_over}
use Rattle.shard_store.specs.Whole.{BringsWhole, of_points}
use Rattle.shard_store.proofs.Counts.{counts_for}
use Rattle.shard_store.proofs.LogStepLemmas.{counts_same}
use Rattle.shard_store.proofs.MergeLemmas.{held_else}
use Rattle.shard_store.proofs.PointLemmas.{joined_holds, joined_source}
use Rattle.shard_store.proofs.WholeLemmas.{whole_err, whole_is_part, whole_none, whole_ok}
use Rattle.shard_store.proofs.shard_files_proofs.CountedLemmas.{IsIn-filter, filter-IsIn}
use Rattle.shard_store.proofs.shard_files_proofs.GainLemmas.{≤ℤ_trans, covers_itself, covers_then}
use Rattle.cluster_core.specs.Refusals.{untenured, first_refusal}
use Rattle.cluster_core.specs.Replicas.{IsGone, Shows, down}
use Rattle.cluster_core.specs.declared.event.StepCall.TheVariants as call
use Rattle.cluster_core.specs.declared.event.StepReply.TheVariants as reply
use Rattle.cluster_core.specs.declared.replica_state.ReplicaState.{ReplicaState}
use Rattle.replica_machine.specs.declared.work.Work.{Work}
use Rattle.replica_machine.specs.Boots.{IsRefused}
use Rattle.replica_machine.specs.Damages.{told_of, IsFileDamage}
use Rattle.replica_machine.specs.Machines.{MachineState, IsMachineOf, IsHeldBy, refusal, unheld, shut_machine}
use Rattle.replica_machine.specs.Merged.{IsMerged}
use Rattle.replica_machine.specs.Reading.{IsRefusedReading, files_answer}
use Rattle.replica_machine.specs.Works.{with_merge, work_after}
use Rattle.replica_machine.specs.Steps.{reply_by, IsStep}
use Rattle.replica_machine.proofs.DiskLemmas.{each_step, each_whole}
use Rattle.replica_machine.proofs.FilesLemmas.{damage_named, plain_named, plain_left, refused_some, refused_none, shut_is}
use Rattle.replica_machine.proofs.HeldByLemmas.{held_part}
use Rattle.replica_machine.proofs.PagedLemmas.{holds_it, owning}
use Rattle.replica_machine.proofs.PlainLemmas.{plain_step, plain_unfailed}
use Rattle.replica_machine.proofs.ReasonLemmas.{shut_alike, unheld_plain}
use Rattle.replica_machine.proofs.StepLemmas.{machine_of, kept_machine, shut_follows, disk_moved, shut_kept}

-- ---- files that a replica may begin with, where a page was merged

-- the key of a point is gone whatever its value
gone_alike : (r : ReplicaState) (p : Point) (other : Point) → other ≡ record p { v = other.v } → IsGone r other → IsGone r p
gone_alike r p other is gone =
    let found = IsIn-from_Any (λ rules. HasExpired rules other) r.ticks gone in
    let expired = found.2 in
    Any-from_IsIn (λ rules. HasExpired rules p) r.ticks found.0 found.1 (subst (λ (x : Point). HasExpired found.0 (record x { v = p.v })) is (record { space = expired.space; stands = expired.stands; ended = expired.ended }))

module _ (r : ReplicaState) (ps : List Point) (content : Contents) (shows : Shows r content) (x y : Files) (gains : Gains (of_points (risen_in content ps)) x y) (h : IsHeldBy r x) where
  covers_old : (points : List Point) → ((p : Point) → IsIn h.points p → IsIn points p) → (p : Point) → IsIn r.sure p → ¬ IsGone r p → Covers points p
  covers_old points stay p old stays = covers_then h.points points p (each-from_All (λ p. ¬ IsGone r p → Covers h.points p) r.sure h.all_there p old stays) (λ q n. covers_itself points q (stay q n))

  covers_new : (points : List Point) → ((p : Point) → IsIn h.points p → IsIn points p) → ((p : Point) → IsIn (risen_in content ps) p → Covers points p) → (p : Point) → IsIn ps p → ¬ IsGone r p → Covers points p
  covers_new points stay comes p new stays = by (rises content p) refl
    where
      by : (b : Bool) → rises content p ≡ b → Covers points p
      by true up = comes p (filter-IsIn (rises content) ps p new up)
      by false low =
          let held = held_else content p low in
          let other : Point = record p { v = held.value } in
          let c = covers_old points stay other (shows.sure (key_of p) held.value held.stands) (λ gone. stays (gone_alike r p other refl gone)) in
          record { value = c.value; at_least = ≤ℤ_trans held.at_least c.at_least; stands = c.stands }

  pub held_merged : IsHeldBy (record r { sure = r.sure ++ ps }) y
  held_merged =
      let all = gains.held h.points h.tenure h.fence h.held in
      let t : max h.tenure 0 ≡ h.tenure = omega arith in
      let f : max h.fence 0 ≡ h.fence = omega arith in
      record {
        points = all.points;
        tenure = h.tenure;
        fence = h.fence;
        held = subst (λ (n : ℕ). FilesHold all.points n h.fence y) t (subst (λ (n : ℕ). FilesHold all.points (max h.tenure 0) n y) f all.held);
        source = All-from_each (λ p. IsIn (r.sure ++ ps) p ⊎ IsIn r.doubt p) all.points (λ p m.
            ⊎_elim (λ (old : IsIn h.points p). ⊎_elim (λ (s : IsIn r.sure p). inl (IsIn-append_left r.sure ps p s)) (λ (d : IsIn r.doubt p). inr d) (each-from_All (λ p. IsIn r.sure p ⊎ IsIn r.doubt p) h.points h.source p old))
            (λ (new : IsIn (risen_in content ps) p). inl (IsIn-append_right r.sure ps p (IsIn-filter (rises content) ps p new))) (all.grows.nothing_else p m));
        all_there = All-from_each (λ p. ¬ IsGone r p → Covers all.points p) (r.sure ++ ps) (λ p m stays.
            ⊎_elim (λ (old : IsIn r.sure p). covers_old all.points all.grows.stays p old stays) (λ (new : IsIn ps p). covers_new all.points all.grows.stays all.comes p new stays) (IsIn-append_cases r.sure ps p m));
        none_higher = h.none_higher;
        known = h.known;
        fence_is = h.fence_is;
      }

-- points in doubt
held_doubts : (r : ReplicaState) (ps rs : List Point) → ((p : Point) → IsIn rs p → IsIn ps p) → (x y : Files) → MayGain (of_points rs) x y → IsHeldBy r x → IsHeldBy (record r { standing = standing.Down; doubt = r.doubt ++ ps }) y
held_doubts r ps rs among x y may h =
    let q : ReplicaState = record r { standing = standing.Down; doubt = r.doubt ++ ps } in
    held_part r q (of_points rs)
    (record {
      kept = λ o either. ⊎_elim (λ (m : IsIn r.sure o). inl m) (λ (m : IsIn r.doubt o). inr (IsIn-append_left r.doubt ps o m)) either;
      gained = λ o m. inr (IsIn-append_right r.doubt ps o (among o m));
      gone = λ o stays. stays;
    })
    (record { begun = λ t all. all; known = λ t is. is; fence = λ t f is. is }) x y h refl refl (λ o m. m) may

-- a content joined with the points that the replica takes shows it still
shows_joined : (r : ReplicaState) (c : Contents) (ps : List Point) → Shows r c → Shows (record r { sure = r.sure ++ ps }) (joined c ps)
shows_joined r c ps h = record {
  sure = λ k v e.
      ⊎_elim (λ (here : HasPoint c (point_at k v)). IsIn-append_left r.sure ps (point_at k v) (h.sure k v here)) (λ (new : IsIn ps (point_at k v)). IsIn-append_right r.sure ps (point_at k v) new) (joined_source c ps (point_at k v) e);
  all = λ q m stays.
      ⊎_elim (λ (old : IsIn r.sure q).
      let was = h.all q old stays in
      let now = joined_holds c ps (record q { v = was.value }) (inl was.stands) in
      let holds : Holds (joined c ps) q = record { value = now.value; at_least = ≤ℤ_trans was.at_least now.at_least; stands = now.stands } in
      holds)
      (λ (new : IsIn ps q). joined_holds c ps q (inr new)) (IsIn-append_cases r.sure ps q m);
}

-- what it answers and leaves
pub record MergeDone {D : Type 0} (state : D → DiskState) (old : MachineState D) (page : Page) (result : Result ℕ Reason) (new : MachineState D) : Type 0 where
  pub ok : IfOk result (IsMerged state page.points old new)
  pub err : IfErr result (IsRefused old new)
  pub plain : refusal old (call.Merge page) ≢ None → new ≡ old
  pub refused : IsRefusedReading state (refusal old (call.Merge page)) old result
  pub form : (damage : Damage) → IsErrOf result (reason.Corrupt damage) → IsFileDamage damage
  pub disk : BringsWhole (of_points (risen_in old.content page.points)) (IsErrOf result reason.Disk) result (state old.disk) (state new.disk)
  pub step : IsStep state old (call.Merge page) (reply_by (λ n. reply.Count n) result) new

module _ {D : Type 0} (state : D → DiskState) (old : MachineState D) (page : Page) where
  abbrev Said : Type 0
  Said = Result ℕ Reason

  abbrev coming : List Point
  coming = risen_in old.content page.points

  alike : {base : Files → Type 0} → (r : ReplicaState) → IsMachineOf state base r old → first_refusal r (call.Merge page) ≡ refusal old (call.Merge page)
  alike r h = shut_alike state r old h (λ t f. untenured t)

  -- refused before the store was called
  pub merge_refused : (why : Reason) → unheld old ≡ Some why → MergeDone state old page (Err why) old
  merge_refused why first =
      let plain = unheld_plain old.standing old.tenure why first in
      record {
        ok = tt;
        err = plain_left old why plain;
        plain = λ not. refl;
        refused = refused_some ℕ state old (refusal old (call.Merge page)) why first;
        form = plain_named ℕ why plain;
        disk = whole_none (of_points coming) (let r : Said = Err why in IsErrOf r reason.Disk) (Err why) (state old.disk) why refl (plain_unfailed ℕ why plain);
        step = plain_step state old (call.Merge page) (λ tells r e. e) why plain (λ made r h. alike r h ∙ first);
      }

  module _ (served : unheld old ≡ None) where
    -- no memory before the store was called
    pub merge_unasked : MergeDone state old page (Err reason.Memory) old
    merge_unasked = record {
      ok = tt;
      err = refl;
      plain = λ not. refl;
      refused = refused_none ℕ state old (refusal old (call.Merge page)) (Err unread.Memory) served (λ tells. tt);
      form = damage_named ℕ unread.Memory;
      disk = whole_none (of_points coming) (let r : Said = Err reason.Memory in IsErrOf r reason.Disk) (Err reason.Memory) (state old.disk) reason.Memory refl (λ f. never f);
      step = record {
        lawful = λ made r h past n s given. tt;
        follows = λ made r h. h;
        opens = λ made r h told none. tt;
        sound = λ damage e. absurd (cc);
        tells = refl;
        faults = counts_same _ _ (λ e. absurd (cc));
      };
    }
      where
        never : (let r : Said = Err reason.Memory in IsErrOf r reason.Disk) → ⊥
        never f = cc

    module _ (d : D) where
      -- with points that are in the log
      merged_follows : {base : Files → Type 0} → (r : ReplicaState) (buffered content : Contents) (work : Work) → (state d).tells ≡ (state old.disk).tells
          → ((state old.disk).tells ≡ true → (c : Files) → (state d).images c → StepOf (Gains (of_points coming)) (state old.disk).images c) → ((state old.disk).tells ≡ true → content ≡ joined old.content page.points)
          → IsMachineOf state base r old → IsMachineOf state base (record r { sure = r.sure ++ page.points }) (record old { disk = d; buffered = buffered; content = content; work = work })
      merged_follows {base} r buffered content work same steps is h =
          let is_open = (holds_it old.standing old.tenure served).open_ in
          let a = h.open_ is_open in
          let q : ReplicaState = record r { sure = r.sure ++ page.points } in
          record {
            stands = h.stands;
            begun = h.begun;
            below = h.below;
            empty = λ e. absurd (a.begun e);
            open_ = λ o. record {
              begun = a.begun;
              tenure = a.tenure;
              fence = a.fence;
              sure = a.sure;
              sure_fences = a.sure_fences;
              shows = λ t. let told = sym same ∙ t in subst (Shows q) (sym (is told)) (shows_joined r old.content page.points (a.shows told));
            };
            files = λ b tells c image.
                let told = sym same ∙ tells in
                let s = steps told c image in
                held_merged r page.points old.content (a.shows told) s.before c s.stepped (h.files b told s.before s.was);
            unbegun = λ none. absurd (a.begun none);
            snapshots = each_whole (state old.disk) (state d) base same steps (λ x y gains. gains.snapshots) h.snapshots;
          }

      merge_ok : (n : ℕ) (buffered content : Contents) → IsMerged state page.points old (record old { disk = d; buffered = buffered; content = content; work = with_merge n old.work }) n
          → (let said : Result ℕ FileErr = Ok n in BringsWhole (of_points coming) (IsErrOf said unread.Disk) said (state old.disk) (state d)) → MergeDone state old page (Ok n) (record old { disk = d; buffered = buffered; content = content; work = with_merge n old.work })
      merge_ok n buffered content merged brings = record {
        ok = merged;
        err = tt;
        plain = λ not. absurd (not served);
        refused = refused_none ℕ state old (refusal old (call.Merge page)) (Ok n) served (λ tells. tt);
        form = λ damage f. absurd (never (reason.Corrupt damage) f);
        disk = whole_ok (of_points coming) (let said : Result ℕ FileErr = Ok n in IsErrOf said unread.Disk) (let r : Said = Ok n in IsErrOf r reason.Disk) (state old.disk) (state d) n n (λ f. absurd (never reason.Disk f)) brings;
        step = record {
          lawful = λ made r h past m s given. (owning state (state made).images r old h served, given);
          follows = λ made r h. merged_follows r buffered content (with_merge n old.work) brings.tells (λ t. brings.acknowledged t) merged.content h;
          opens = λ made r h told none. tt;
          sound = λ damage e. absurd (cc);
          tells = brings.tells;
          faults = counts_for _ _ _ _ (λ e. absurd (cc)) brings.faults;
        };
      }
        where
          never : (why : Reason) → (let r : Said = Ok n in IsErrOf r why) → ⊥
          never why f = cc

      merge_memory : (let said : Result ℕ FileErr = Err unread.Memory in BringsWhole (of_points coming) (IsErrOf said unread.Disk) said (state old.disk) (state d)) → MergeDone state old page (Err reason.Memory) (record old { disk = d })
      merge_memory brings = record {
        ok = tt;
        err = refl;
        plain = λ not. absurd (not served);
        refused = refused_none ℕ state old (refusal old (call.Merge page)) (Err unread.Memory) served (λ tells. tt);
        form = damage_named ℕ unread.Memory;
        disk = whole_err (of_points coming) (let said : Result ℕ FileErr = Err unread.Memory in IsErrOf said unread.Disk) (let r : Said = Err reason.Memory in IsErrOf r reason.Disk) (state old.disk) (state d) unread.Memory reason.Memory (λ f. absurd (never f)) (λ f. absurd (fine f)) brings;
        step = record {
          lawful = λ made r h past n s given. tt;
          follows = λ made r h. kept_machine state (state made).images r old d brings.tells (λ t. brings.unchanged t fine) h;
          opens = λ made r h told none. tt;
          sound = λ damage e. absurd (cc);
          tells = brings.tells;
          faults = counts_for _ _ _ _ (λ e. absurd (cc)) brings.faults;
        };
      }
        where
          never : (let r : Said = Err reason.Memory in IsErrOf r reason.Disk) → ⊥
          never f = cc

          fine : (let said : Result ℕ FileErr = Err unread.Memory in IsErrOf said unread.Disk) → ⊥
          fine f = cc

      merge_fault : (let said : Result ℕ FileErr = Err unread.Disk in BringsWhole (of_points coming) (IsErrOf said unread.Disk) said (state old.disk) (state d)) → MergeDone state old page (Err reason.Disk) (shut_machine standing.Down old d)
      merge_fault brings = record {
        ok = tt;
        err = refl;
        plain = λ not. absurd (not served);
        refused = refused_none ℕ state old (refusal old (call.Merge page)) (Err unread.Disk) served (λ tells. tt);
        form = damage_named ℕ unread.Disk;
        disk = whole_err (of_points coming) (let said : Result ℕ FileErr = Err unread.Disk in IsErrOf said unread.Disk) (let r : Said = Err reason.Disk in IsErrOf r reason.Disk) (state old.disk) (state d) unread.Disk reason.Disk (λ f. refl) (λ f. refl) brings;
        step = record {
          lawful = λ made r h past n s given. record { uses = refl; taken = alike r h ∙ served; clock = tt; there = given };
          follows = λ made r h.
              let q : ReplicaState = record r { standing = standing.Down; doubt = r.doubt ++ page.points } in
              shut_follows state (state made).images r q old standing.Down d (λ e. cc) refl refl refl refl h
              (λ b. each_step (state old.disk) (state d) (IsHeldBy r) (IsHeldBy q) brings.tells (λ t. (brings.any_moment t).images)
              (λ x y may held. held_doubts r page.points coming (λ p m. IsIn-filter (rises old.content) page.points p m) x y (whole_is_part (of_points coming) x y may) held) (h.files b))
              (λ none. absurd ((h.open_ (holds_it old.standing old.tenure served).open_).begun none)) (each_whole (state old.disk) (state d) (state made).images brings.tells (λ t. (brings.any_moment t).images) (λ x y may. may.snapshots) h.snapshots);
          opens = λ made r h told none. tt;
          sound = λ damage e. absurd (cc);
          tells = brings.tells;
          faults = counts_for _ _ _ _ (λ e. refl) brings.faults;
        };
      }

      merge_damage : (file : _) → ((state old.disk).tells ≡ true → ⊥) → (let said : Result ℕ FileErr = Err (unread.Form file) in BringsWhole (of_points coming) (IsErrOf said unread.Disk) said (state old.disk) (state d))
          → MergeDone state old page (Err (reason.Corrupt (told_of (OfForm file 0)))) (shut_machine standing.Down old d)
      merge_damage file untold brings = record {
        ok = tt;
        err = refl;
        plain = λ not. absurd (not served);
        refused = refused_none ℕ state old (refusal old (call.Merge page)) (Err (unread.Form file)) served untold;
        form = damage_named ℕ (unread.Form file);
        disk = whole_err (of_points coming) (let said : Result ℕ FileErr = Err (unread.Form file) in IsErrOf said unread.Disk) (let r : Said = Err (reason.Corrupt (told_of (OfForm file 0))) in IsErrOf r reason.Disk) (state old.disk) (state d) (unread.Form file) (reason.Corrupt (told_of (OfForm file 0)))
            (λ f. absurd (never f)) (λ f. absurd (fine f)) brings;
        step = record {
          lawful = λ made r h past n s given. record { reads = refl; taken = alike r h ∙ served; clock = tt };
          follows = λ made r h. shut_kept state (state made).images r old d brings.tells (λ t. brings.unchanged t fine) h;
          opens = λ made r h told none. tt;
          sound = λ damage e tells. absurd (untold tells);
          tells = brings.tells;
          faults = counts_for _ _ _ _ (λ e. absurd (cc)) brings.faults;
        };
      }
        where
          never : (let r : Said = Err (reason.Corrupt (told_of (OfForm file 0))) in IsErrOf r reason.Disk) → ⊥
          never f = cc

          fine : (let said : Result ℕ FileErr = Err (unread.Form file) in IsErrOf said unread.Disk) → ⊥
          fine f = cc

pub ok_then : {X E Q : Type 0} {P : X → Type 0} (r : Result X E) → ((x : X) → P x → Q) → IfOk r P → OnOk r Q
ok_then (Ok x) to p = to x p
ok_then (Err e) to p = tt

-- by a machine's parts: what the store's merge said, and what it left
module _ {D : Type 0} (state : D → DiskState) (s : Standing) (tenure : Option ℕ) (begun : ℕ) (work : Work) (before now : StoreState D) (page : Page) (served : unheld (machine_of s tenure begun work before) ≡ None) where
  abbrev Done : Result ℕ Reason → MachineState D → Type 0
  Done result new = MergeDone state (machine_of s tenure begun work before) page result new

  moved : (now_s : Standing) (w : Work) → now_s ≡ s → now ≡ record before { disk = now.disk; buffered = now.buffered; content = now.content }
      → machine_of now_s tenure begun w now ≡ record (machine_of s tenure begun work before) { disk = now.disk; buffered = now.buffered; content = now.content; work = w }
  moved now_s w same is = ap (λ (x : Standing). machine_of x tenure begun w now) same ∙ ap (machine_of s tenure begun w) is

  merge_said : (said : Result ℕ FileErr) (now_s : Standing) → IfOk said (HasMerged state page.points before now) → (IsErrOf said unread.Memory → now ≡ record before { disk = now.disk }) → IfErr said (λ why. why ≢ unread.Memory → now ≡ closed_over now.disk)
      → ((state before.disk).tells ≡ true → IfErr said IsUndamaged) → BringsWhole (of_points (risen_in before.content page.points)) (IsErrOf said unread.Disk) said (state before.disk) (state now.disk) → OnOk said (now_s ≡ s)
      → IfErr said (λ why. why ≢ unread.Memory → now_s ≡ standing.Down) → (IsErrOf said unread.Memory → now_s ≡ s) → Done (files_answer said) (machine_of now_s tenure begun (work_after with_merge said work) now)
  merge_said (Ok n) now_s merged memory closed sound brings stays down same =
      subst (Done (Ok n)) (sym (moved now_s (with_merge n work) stays merged.same)) (merge_ok state (machine_of s tenure begun work before) page served now.disk n now.buffered now.content (record { same = refl; buffered = merged.buffered; content = merged.content; count = merged.count }) brings)
  merge_said (Err unread.Memory) now_s merged memory closed sound brings stays down same = subst (Done (Err reason.Memory)) (sym (disk_moved s tenure begun work before now now_s (same refl) (memory refl))) (merge_memory state (machine_of s tenure begun work before) page served now.disk brings)
  merge_said (Err unread.Disk) now_s merged memory closed sound brings stays down same =
      subst (Done (Err reason.Disk)) (sym (shut_is s tenure begun work before now now_s (down (λ e. cc)) (closed (λ e. cc)))) (merge_fault state (machine_of s tenure begun work before) page served now.disk brings)
  merge_said (Err (unread.Form file)) now_s merged memory closed sound brings stays down same =
      subst (Done (Err (reason.Corrupt (told_of (OfForm file 0))))) (sym (shut_is s tenure begun work before now now_s (down (λ e. cc)) (closed (λ e. cc)))) (merge_damage state (machine_of s tenure begun work before) page served now.disk file (λ tells. sound tells) brings)

  pub merge_done : (said : Result ℕ FileErr) (result : Result ℕ Reason) (now_s : Standing) → result ≡ files_answer said → IfOk said (HasMerged state page.points before now) → (IsErrOf said unread.Memory → now ≡ record before { disk = now.disk })
      → IfErr said (λ why. why ≢ unread.Memory → now ≡ closed_over now.disk) → ((state before.disk).tells ≡ true → IfErr said IsUndamaged) → BringsWhole (of_points (risen_in before.content page.points)) (IsErrOf said unread.Disk) said (state before.disk) (state now.disk)
      → OnOk said (now_s ≡ s) → IfErr said (λ why. why ≢ unread.Memory → now_s ≡ standing.Down) → (IsErrOf said unread.Memory → now_s ≡ s) → Done result (machine_of now_s tenure begun (work_after with_merge said work) now)
  merge_done said result now_s is merged memory closed sound brings stays down same = subst (λ (r : Result ℕ Reason). Done r (machine_of now_s tenure begun (work_after with_merge said work) now)) (sym is) (merge_said said now_s merged memory closed sound brings stays down same)
