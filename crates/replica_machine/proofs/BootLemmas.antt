-- A begin is a step of the core.
use Rattle.std.proofs.Common.{◌≡◌, ◌<◌, ◌≤◌, inl, inr, ⊎_elim, ℕ, max, List, [], ◌∷◌, ◌++◌, refl, sym, ap, subst, ◌∙◌, arith, true, Some, None, Result, Ok, Err, All}
use Rattle.std.specs.Prelude.{⊤, ◌≢◌, ◌⊎◌, Option, IsErrOf}
use Rattle.std.proofs.lemmas.Bool.{OnTrue_from}
use Rattle.m3_model.specs.Contents.{Contents, content_of, point_at}
use Rattle.m3_model.specs.Members.{IsIn}
use Rattle.m3_model.specs.Reads.{Covers}
use Rattle.m3_model.specs.declared.point.Point.{Point}
use Rattle.m3_model.specs.declared.reason.Damage.{Damage}
use Rattle.m3_model.specs.declared.reason.Reason.{Reason}
use Rattle.m3_model.specs.declared.reason.Reason.TheVariants as reason
use Rattle.m3_model.specs.declared.replica.Standing.{Standing}
use Rattle.m3_model.specs.declared.replica.Standing.TheVariants as standing
use Rattle.m3_model.proofs.MemberLemmas.{IsIn-append_left, IsIn-append_right, IsIn-append_cases, IsIn-push}
use Rattle.m3_outside.specs.Causes.{CountsFaults}
use Rattle.m3_outside.specs.Files.{Files}
use Rattle.m3_outside.specs.DiskState.{DiskState, Told, EachImage, StepOf}
use Rattle.m3_outside.specs.declared.disk_err.DiskErr.{DiskErr}
use Rattle.m3_outside.specs.declared.disk_err.DiskErr.TheVariants as refused
use Rattle.placement_core.proofs.ListLemmas.{All-from_each, each-from_All, Any-from_IsIn}
use Rattle.shard_store.specs.shard_files.FilesHold.{IsSound}
use Rattle.shard_store.specs.shard_files.Once.{HeldOnce}
use Rattle.shard_store.specs.shard_files.Gains.{nothing, a_tenure, Gains, MayGain, Brings}
use Rattle.shard_store.specs.Stores.{StoreState, closed_over}
use Rattle.shard_store.proofs.shard_files_proofs.GainLemmas.{covers_itself}
use Rattle.shard_store.proofs.shard_files_proofs.FilesHoldLemmas.{files_hold_one}
use Rattle.shard_store.proofs.LogStepLemmas.{counts_same}
use Rattle.shard_store.proofs.Counts.{counts_both, counts_for}
use Rattle.shard_store.proofs.shard_files_proofs.ContentLemmas.{content_holds, content_source}
use Rattle.cluster_core.specs.Refusals.{closed, first_refusal}
use Rattle.cluster_core.specs.Replicas.{Shows, IsGone, after}
use Rattle.cluster_core.specs.Rows.{NoneHigher, MayBeHigher, IsBegan, LawfulStep}
use Rattle.cluster_core.specs.declared.event.StepCall.TheVariants as call
use Rattle.cluster_core.specs.declared.event.StepReply.{StepReply}
use Rattle.cluster_core.specs.declared.event.StepReply.TheVariants as reply
use Rattle.cluster_core.specs.declared.replica_state.ReplicaState.{ReplicaState}
use Rattle.cluster_core.proofs.ReplicaLemmas.{some_there}
use Rattle.replica_machine.specs.declared.work.Work.{Work}
use Rattle.replica_machine.specs.Bases.{CameFrom}
use Rattle.replica_machine.specs.Machines.{MachineState, IsMachineOf, IsHeldBy, IsOwn, shut_machine, reason_of, left_by}
use Rattle.replica_machine.specs.Steps.{IsStep, BringsTo}
use Rattle.replica_machine.specs.Boots.{AreBesideVolumes, HoldsHigher, IsRefused, BeganFrom, BeganAgain}
use Rattle.replica_machine.specs.declared.machine.Began.{Began}
use Rattle.replica_machine.proofs.DiskLemmas.{each_step, brings_ok, brings_err, each_whole}
use Rattle.replica_machine.proofs.BaseLemmas.{came_tried}
use Rattle.replica_machine.proofs.HeldByLemmas.{greater_is_max}
use Rattle.replica_machine.proofs.ReasonLemmas.{own_reason}
use Rattle.replica_machine.proofs.StepLemmas.{machine_of, settled_is, failed_is, kept_machine, shut_follows, shut_kept}
use Rattle.replica_machine.proofs.TenureLemmas.{held_tried, held_began, held_again, loaded_covers, loaded}

empty_or : (xs : List ℕ) → (xs ≡ []) ⊎ (xs ≢ [])
empty_or [] = inl refl
empty_or (x ∷ xs) = inr (λ e. cc)

module _ {D : Type 0} (state : D → DiskState) (old : MachineState D) (t : ℕ) where
  low_begun : {base : Files → Type 0} → (r : ReplicaState) → IsMachineOf state base r old → old.begun ≤ t → (b : ℕ) → IsIn r.begun b → b ≤ t
  low_begun r h high b m = let le = each-from_All (λ one. one ≤ old.begun) r.begun h.begun.none_higher b m in omega (arith, le, high)

  none_higher : {base : Files → Type 0} → (r : ReplicaState) → IsMachineOf state base r old → old.begun ≤ t → NoneHigher r t
  none_higher r h high = All-from_each (λ begun. begun ≤ t) r.begun (low_begun r h high)

  all_begun : {base : Files → Type 0} → (r : ReplicaState) → IsMachineOf state base r old → old.begun ≤ t → All (λ one. one ≤ t) (r.begun ++ t ∷ [])
  all_begun r h high =
      All-from_each (λ one. one ≤ t) (r.begun ++ t ∷ []) (λ b m.
      ⊎_elim (λ (was : IsIn r.begun b). low_begun r h high b was) (λ (new : (t ≡ b) ⊎ ⊥). ⊎_elim (λ (same : t ≡ b). let le : b ≤ t = omega (arith, same) in le) (λ (none : ⊥). absurd none) new) (IsIn-append_cases r.begun (t ∷ []) b m))

  not_closed : {base : Files → Type 0} → (r : ReplicaState) → IsMachineOf state base r old → closed old.standing ≡ None → first_refusal r (call.Begin t) ≡ None
  not_closed r h up = ap closed (sym h.stands) ∙ up

  all_below : {base : Files → Type 0} → (r : ReplicaState) → IsMachineOf state base r old → old.begun ≤ t → (fence : ℕ) → t ≤ fence → All (λ one. one ≤ fence) (r.begun ++ t ∷ [])
  all_below r h high fence le = All-from_each (λ one. one ≤ fence) (r.begun ++ t ∷ []) (λ b m. let low = each-from_All (λ one. one ≤ t) (r.begun ++ t ∷ []) (all_begun r h high) b m in omega (arith, low, le))

  -- ---- refused

  pub begin_down : old.standing ≡ standing.Down → IsStep state old (call.Begin t) (reply.Refused reason.Down) old
  begin_down is_down = record { lawful = λ made r h past n s given. ap closed (sym h.stands ∙ is_down); follows = λ made r h. h; opens = λ made r h told none. tt; sound = λ damage e. absurd (cc); tells = refl; faults = counts_same _ _ (λ e. cc) }

  pub begin_unowned : closed old.standing ≡ None → t < old.begun → IsStep state old (call.Begin t) (reply.Refused reason.NotOwned) old
  begin_unowned up lt = record {
    lawful = λ made r h past n s given.
        (not_closed r h up, OnTrue_from (state old.disk).tells (MayBeHigher r t) (λ e. ⊎_elim (λ (zero_is : old.begun ≡ 0). absurd (omega (arith, lt, zero_is))) (λ (m : IsIn r.begun old.begun). inl (Any-from_IsIn (λ begun. t < begun) r.begun old.begun m lt)) h.begun.one_of));
    follows = λ made r h. h;
    opens = λ made r h told none. tt;
    sound = λ damage e. absurd (cc);
    tells = refl;
    faults = counts_same _ _ (λ e. cc);
  }

  module _ (d : D) (same : (state d).tells ≡ (state old.disk).tells) (F : Type 0) (counts : CountsFaults F (state old.disk).faults (state d).faults) where
    pub begin_memory : ((state old.disk).tells ≡ true → (c : Files) → (state d).images c → StepOf (Gains nothing) (state old.disk).images c) → IsStep state old (call.Begin t) (reply.Refused reason.Memory) (record old { disk = d })
    begin_memory steps = record { lawful = λ made r h past n s given. tt; follows = λ made r h. kept_machine state (state made).images r old d same steps h; opens = λ made r h told none. tt; sound = λ damage e. absurd (cc); tells = same; faults = counts_for _ _ _ _ (λ e. absurd (cc)) counts }

    pub begin_fault : F → closed old.standing ≡ None → old.begun ≤ t → ((state old.disk).tells ≡ true → (c : Files) → (state d).images c → StepOf (MayGain (a_tenure t)) (state old.disk).images c)
        → IsStep state old (call.Begin t) (reply.Refused reason.Disk) (shut_machine standing.Down old d)
    begin_fault fault up high steps = record {
      lawful = λ made r h past n s given. record { uses = refl; taken = (not_closed r h up, OnTrue_from (state old.disk).tells (NoneHigher r t) (λ e. none_higher r h high)); clock = tt; there = tt };
      follows = λ made r h.
          let q : ReplicaState = record r { standing = standing.Down; doubt_fences = r.doubt_fences ++ t ∷ []; tried = r.tried ++ t ∷ [] } in
          shut_follows state (state made).images r q old standing.Down d (λ e. cc) refl refl refl refl h (λ b. each_step (state old.disk) (state d) (IsHeldBy r) (IsHeldBy q) same steps (λ x y may held. held_tried r t x y may held) (h.files b))
          (λ none. each_step (state old.disk) (state d) (CameFrom (state made).images r.tried) (CameFrom (state made).images (r.tried ++ t ∷ [])) same steps (λ x y may came. came_tried (state made).images r.tried t x y may came) (h.unbegun none))
          (each_whole (state old.disk) (state d) (state made).images same steps (λ x y may. may.snapshots) h.snapshots);
      opens = λ made r h told none. tt;
      sound = λ damage e. absurd (cc);
      tells = same;
      faults = counts_for _ _ _ _ (λ e. fault) counts;
    }

    pub begin_damage : closed old.standing ≡ None → old.begun ≤ t → ((state old.disk).tells ≡ true → (c : Files) → (state d).images c → StepOf (Gains nothing) (state old.disk).images c) → (damage : Damage) → Told (state old.disk) (λ files. ¬ IsSound files)
        → IsStep state old (call.Begin t) (reply.Refused (reason.Corrupt damage)) (shut_machine standing.Down old d)
    begin_damage up high steps damage unsound = record {
      lawful = λ made r h past n s given. record { reads = refl; taken = (not_closed r h up, OnTrue_from (state old.disk).tells (NoneHigher r t) (λ e. none_higher r h high)); clock = tt };
      follows = λ made r h. shut_kept state (state made).images r old d same steps h;
      opens = λ made r h told none. tt;
      sound = λ other e. unsound;
      tells = same;
      faults = counts_for _ _ _ _ (λ e. absurd (cc)) counts;
    }

    pub begin_higher : closed old.standing ≡ None → Told (state old.disk) (HoldsHigher t) → Told (state old.disk) (state old.disk).images → ((state old.disk).tells ≡ true → (c : Files) → (state d).images c → StepOf (Gains nothing) (state old.disk).images c)
        → IsStep state old (call.Begin t) (reply.Refused reason.NotOwned) (record old { disk = d })
    begin_higher up higher image steps = record {
      lawful = λ made r h past n s given. (
        not_closed r h up,
        OnTrue_from (state old.disk).tells (MayBeHigher r t) (λ told.
            ⊎_elim (λ (none : r.begun ≡ []). inr (inr none))
            (λ (some : r.begun ≢ []).
            let was = h.files some told (state old.disk).files (image told) in
            let now = higher told in
            let one = files_hold_one was.points now.points was.tenure now.held_tenure was.fence now.fence (state old.disk).files was.held now.held in
            let one_t = one.1 in
            let above = now.higher in
            let lt : t < was.tenure = omega (arith, one_t, above) in
            ⊎_elim (λ (m : IsIn r.begun was.tenure). inl (Any-from_IsIn (λ begun. t < begun) r.begun was.tenure m lt)) (λ (m : IsIn r.tried was.tenure × IsIn r.doubt_fences was.tenure). inr (inl (Any-from_IsIn (λ tried. t < tried) r.tried was.tenure m.0 lt))) was.known)
            (empty_or r.begun)),
      );
      follows = λ made r h. kept_machine state (state made).images r old d same steps h;
      opens = λ made r h told none. tt;
      sound = λ damage e. absurd (cc);
      tells = same;
      faults = counts_for _ _ _ _ (λ e. absurd (cc)) counts;
    }

    -- ---- done

    module _ (high : old.begun ≤ t) (fence : ℕ) (steps : (state old.disk).tells ≡ true → (c : Files) → (state d).images c → StepOf (Gains (a_tenure t)) (state old.disk).images c) where
      module _ (boot : old.standing ≡ standing.Boot) (points : List Point) (tenure_found fence_found : ℕ) (low : tenure_found ≤ t) (fence_is : fence ≡ max fence_found t) (held : Told (state old.disk) (HeldOnce points tenure_found fence_found))
          (only : EachImage (state old.disk) (λ c. c ≡ (state old.disk).files)) (image : Told (state old.disk) (state old.disk).images) where
        covered : {base : Files → Type 0} → (r : ReplicaState) → IsMachineOf state base r old → (state old.disk).tells ≡ true → (p : Point) → IsIn r.sure p → ¬ IsGone r p → Covers points p
        covered r h told p m stays =
            ⊎_elim (λ (none : r.begun ≡ []). absurd (subst (λ (l : List Point). IsIn l p) (h.empty none) m))
            (λ (some : r.begun ≢ []). loaded_covers r points tenure_found fence_found (state old.disk).files (held told) (h.files some told (state old.disk).files (image told)) p m stays) (empty_or r.begun)

        pub began_step : (buffered content : Contents) (work : Work) → ((state old.disk).tells ≡ true → content ≡ content_of points)
            → IsStep state old (call.Begin t) (reply.Began fence points) (record { standing = standing.Open; tenure = Some t; begun = t; fence = fence; buffered = buffered; content = content; disk = d; work = work })
        began_step buffered content work content_is = record {
          lawful = λ made r h past n s given. record {
            not_down = λ e. let clash : standing.Boot ≡ standing.Down = sym boot ∙ h.stands ∙ e in absurd (cc);
            fence_high = omega (arith, fence_is);
            given = given;
            none_higher = OnTrue_from (state old.disk).tells (NoneHigher r t) (λ e. none_higher r h high);
            began = OnTrue_from (state old.disk).tells (IsBegan r.standing r.begun r t fence points) (λ told.
                subst (λ (s : Standing). IsBegan s r.begun r t fence points) (sym boot ∙ h.stands)
                (λ some. loaded r points tenure_found fence_found (state old.disk).files (held told) (h.files some told (state old.disk).files (image told)) t fence low fence_is));
          };
          follows = λ made r h. record {
            stands = refl;
            begun = record { none_higher = all_begun r h high; one_of = inr (IsIn-push r.begun t) };
            below = all_below r h high fence (omega (arith, fence_is));
            empty = λ e. absurd (some_there r.begun t e);
            open_ = λ o. record {
              begun = some_there r.begun t;
              tenure = refl;
              fence = refl;
              sure = refl;
              sure_fences = refl;
              shows = λ tells. subst (λ (c : Contents). Shows (after r (call.Begin t) (reply.Began fence points)) c) (sym (content_is (sym same ∙ tells))) (record {
                sure = λ k v e. IsIn-append_right r.sure points (point_at k v) (content_source points k v e);
                all = λ p m stays. content_holds points p (⊎_elim (λ (was : IsIn r.sure p). covered r h (sym same ∙ tells) p was stays) (λ (new : IsIn points p). covers_itself points p new) (IsIn-append_cases r.sure points p m));
              });
            };
            files = λ b tells c now.
                let told : (state old.disk).tells ≡ true = sym same ∙ tells in
                let step = steps told c now in
                held_began r t fence points tenure_found fence_found (state old.disk).files c (held told) low fence_is (low_begun r h high) (covered r h told)
                (subst (λ (x : Files). Gains (a_tenure t) x c) (only told step.before step.was) step.stepped);
            unbegun = λ none. absurd (some_there r.begun t none);
            snapshots = each_whole (state old.disk) (state d) (state made).images same steps (λ x y gains. gains.snapshots) h.snapshots;
          };
          opens = λ made r h told none.
              let files = (state old.disk).files in
              let found = held told in
              record { files = files; came = h.unbegun none told files (image told); all = found.all; tenure_found = tenure_found; fence_found = fence_found; held = found.held; once = found.once; not_higher = low; fence_is = fence_is };
          sound = λ damage e. absurd (cc);
          tells = same;
          faults = counts_for _ _ _ _ (λ e. absurd (cc)) counts;
        }

      pub began_again_step : old.standing ≡ standing.Open → fence ≡ max old.fence t → IsStep state old (call.Begin t) (reply.Began fence []) (record old { tenure = Some t; begun = t; fence = fence; disk = d })
      began_again_step is_open fence_is = record {
        lawful = λ made r h past n s given.
            let all = h.open_ is_open in
            let same_fence = all.fence in
            let up : fence ≡ max t r.fence = omega (arith, fence_is, same_fence) in
            record {
              not_down = λ e. let clash : standing.Open ≡ standing.Down = sym is_open ∙ h.stands ∙ e in absurd (cc);
              fence_high = omega (arith, fence_is);
              given = given;
              none_higher = OnTrue_from (state old.disk).tells (NoneHigher r t) (λ e. none_higher r h high);
              began = OnTrue_from (state old.disk).tells (IsBegan r.standing r.begun r t fence []) (λ told. subst (λ (s : Standing). IsBegan s r.begun r t fence []) (sym is_open ∙ h.stands) (refl, up ∙ sym (greater_is_max t r.fence)));
            };
        follows = λ made r h.
            let all = h.open_ is_open in
            let same_fence = all.fence in
            let up : fence ≡ max r.fence t = omega (arith, fence_is, same_fence) in
            let q : ReplicaState = record r { standing = standing.Open; tenure = Some t; fence = fence; sure = r.sure ++ []; doubt = []; doubt_fences = []; begun = r.begun ++ t ∷ [] } in
            record {
              stands = is_open;
              begun = record { none_higher = all_begun r h high; one_of = inr (IsIn-push r.begun t) };
              below = all_below r h high fence (omega (arith, fence_is));
              empty = λ e. absurd (some_there r.begun t e);
              open_ = λ o. record {
                begun = some_there r.begun t;
                tenure = refl;
                fence = refl;
                sure = refl;
                sure_fences = refl;
                shows = λ tells.
                    let shown = all.shows (sym same ∙ tells) in
                    record {
                      sure = λ k v e. IsIn-append_left r.sure [] (point_at k v) (shown.sure k v e);
                      all = λ p m stays. shown.all p (⊎_elim (λ (was : IsIn r.sure p). was) (λ (none : ⊥). absurd none) (IsIn-append_cases r.sure [] p m)) stays;
                    };
              };
              files = λ b. each_step (state old.disk) (state d) (IsHeldBy r) (IsHeldBy q) same steps (λ x y gains was. held_again r t fence all.sure all.sure_fences up (low_begun r h high) x y gains was) (h.files all.begun);
              unbegun = λ none. absurd (some_there r.begun t none);
              snapshots = each_whole (state old.disk) (state d) (state made).images same steps (λ x y gains. gains.snapshots) h.snapshots;
            };
        opens = λ made r h told none. absurd ((h.open_ is_open).begun none);
        sound = λ damage e. absurd (cc);
        tells = same;
        faults = counts_for _ _ _ _ (λ e. absurd (cc)) counts;
      }

-- ---- what the disk refused

-- what a begin answers and leaves where the store was refused
pub record BeginLeft {D : Type 0} (state : D → DiskState) (old : MachineState D) (t : ℕ) (why : Reason) (new : MachineState D) : Type 0 where
  pub err : IsRefused old new why
  pub own : IsOwn why
  pub disk : let result : Result Began Reason = Err why in BringsTo (a_tenure t) result (state old.disk) (state new.disk)
  pub step : IsStep state old (call.Begin t) (reply.Refused why) new

module _ {D : Type 0} (state : D → DiskState) (old : MachineState D) (t : ℕ) (d : D) (up : closed old.standing ≡ None) (high : old.begun ≤ t) where
  begin_left_by : (e : DiskErr) → (let said : Result ⊤ DiskErr = Err e in Brings (a_tenure t) said (state old.disk) (state d)) → BeginLeft state old t (reason_of e) (left_by e (record old { disk = d }))
  begin_left_by refused.Failed brings = record {
    err = refl;
    own = own_reason refused.Failed;
    disk = brings_err (a_tenure t) refused.Failed (state old.disk) (state d) brings;
    step = begin_fault state old t d brings.tells _ brings.faults refl up high (λ told. (brings.any_moment told).images);
  }
  begin_left_by refused.Memory brings = record {
    err = refl;
    own = own_reason refused.Memory;
    disk = brings_err (a_tenure t) refused.Memory (state old.disk) (state d) brings;
    step = begin_memory state old t d brings.tells _ brings.faults (λ told. brings.unchanged told refl);
  }

  pub begin_left : (e : DiskErr) (why : Reason) (new : MachineState D) → why ≡ reason_of e → new ≡ left_by e (record old { disk = d }) → (let said : Result ⊤ DiskErr = Err e in Brings (a_tenure t) said (state old.disk) (state d)) → BeginLeft state old t why new
  begin_left e why new is left brings = subst (λ (w : Reason). BeginLeft state old t w new) (sym is) (subst (λ (m : MachineState D). BeginLeft state old t (reason_of e) m) (sym left) (begin_left_by e brings))

-- after a call that left the files
pub step_after_stays : {D : Type 0} {F : Type 0} (state : D → DiskState) (old : MachineState D) (t : ℕ) (a : StepReply) (d : D) (new : MachineState D) → (state d).tells ≡ (state old.disk).tells → CountsFaults F (state old.disk).faults (state d).faults
    → ((state old.disk).tells ≡ true → (c : Files) → (state d).images c → StepOf (Gains nothing) (state old.disk).images c) → ((damage : Damage) → a ≡ reply.Refused (reason.Corrupt damage) → ⊥) → IsStep state (record old { disk = d }) (call.Begin t) a new → IsStep state old (call.Begin t) a new
step_after_stays state old t a d new same counts steps clean step = record {
  lawful = λ made r h past n s given. subst (λ tells. LawfulStep tells past n s r (call.Begin t) a) same (step.lawful made r (kept_machine state (state made).images r old d same steps h) past n s given);
  follows = λ made r h. step.follows made r (kept_machine state (state made).images r old d same steps h);
  opens = λ made r h told none. step.opens made r (kept_machine state (state made).images r old d same steps h) (same ∙ told) none;
  sound = λ damage e. absurd (clean damage e);
  tells = step.tells ∙ same;
  faults = counts_both _ _ _ _ _ counts step.faults;
}

-- ---- by a machine's parts

module _ {D : Type 0} (state : D → DiskState) (s : Standing) (tenure : Option ℕ) (begun : ℕ) (work : Work) (old : MachineState D) (before now : StoreState D) (view : machine_of s tenure begun work before ≡ old) (t : ℕ) where
  disk_is : before.disk ≡ old.disk
  disk_is = ap (λ (m : MachineState D). m.disk) view

  pub begin_left_of : closed old.standing ≡ None → old.begun ≤ t → (e : DiskErr) (why : Reason) (new : MachineState D) → now ≡ record before { disk = now.disk } → why ≡ reason_of e → new ≡ left_by e (machine_of s tenure begun work now)
      → (let said : Result ⊤ DiskErr = Err e in Brings (a_tenure t) said (state before.disk) (state now.disk)) → BeginLeft state old t why new
  begin_left_of up high e why new moved is left brings =
      begin_left state old t now.disk up high e why new is (left ∙ ap (left_by e) (ap (machine_of s tenure begun work) moved ∙ ap (λ (m : MachineState D). record m { disk = now.disk }) view))
      (subst (λ (d : D). let said : Result ⊤ DiskErr = Err e in Brings (a_tenure t) said (state d) (state now.disk)) disk_is brings)

  -- of an open machine, whose store a fault closed
  pub again_left : closed old.standing ≡ None → old.begun ≤ t → (e : DiskErr) (now_s : Standing) (why : Reason) → (let said : Result ⊤ DiskErr = Err e in IsErrOf said refused.Memory → now ≡ record before { disk = now.disk })
      → (let said : Result ⊤ DiskErr = Err e in IsErrOf said refused.Failed → now ≡ closed_over now.disk) → why ≡ reason_of e → (e ≡ refused.Failed → now_s ≡ standing.Down) → ((e ≡ refused.Failed → ⊥) → now_s ≡ s)
      → (let said : Result ⊤ DiskErr = Err e in Brings (a_tenure t) said (state before.disk) (state now.disk)) → BeginLeft state old t why (machine_of now_s tenure begun work now)
  again_left up high e now_s why memory fault is down stays brings =
      let left = settled_is s tenure begun work before now now_s (Err e) memory fault (λ f. down (failed_is e f)) (λ fine. stays (λ f. fine (ap Err f))) in
      begin_left state old t now.disk up high e why (machine_of now_s tenure begun work now) is (left ∙ ap (λ (m : MachineState D). left_by e (record m { disk = now.disk })) view)
      (subst (λ (d : D). let said : Result ⊤ DiskErr = Err e in Brings (a_tenure t) said (state d) (state now.disk)) disk_is brings)

-- what an open machine's begin answers and leaves
pub record AgainDone {D : Type 0} (state : D → DiskState) (old : MachineState D) (t : ℕ) (began : Began) (new : MachineState D) : Type 0 where
  pub again : BeganAgain t old new began
  pub disk : let result : Result Began Reason = Ok began in BringsTo (a_tenure t) result (state old.disk) (state new.disk)
  pub step : IsStep state old (call.Begin t) (reply.Began began.fence began.points) new

module _ {D : Type 0} (state : D → DiskState) (s : Standing) (tenure : Option ℕ) (begun : ℕ) (work : Work) (old : MachineState D) (before now : StoreState D) (view : machine_of s tenure begun work before ≡ old) (t : ℕ) (began : Began) (u : ⊤) where
  pub again_done : old.standing ≡ standing.Open → old.begun ≤ t → now ≡ record { disk = now.disk; open_ = true; buffered = before.buffered; content = before.content; tenure = max before.tenure t; fence = max before.fence t } → Brings (a_tenure t) (Ok u) (state before.disk) (state now.disk)
      → began.fence ≡ now.fence → began.points ≡ [] → AgainDone state old t began (machine_of s (Some t) t work now)
  again_done is_open high ok brings fence none =
      let new = machine_of s (Some t) t work now in
      let left : new ≡ record old { tenure = Some t; begun = t; fence = max old.fence t; disk = now.disk } = ap (machine_of s (Some t) t work) ok ∙ ap (λ (m : MachineState D). record m { tenure = Some t; begun = t; fence = max m.fence t; disk = now.disk }) view in
      let fence_is : began.fence ≡ max old.fence t = fence ∙ ap (λ (m : MachineState D). m.fence) left in
      let new_is : new ≡ record old { tenure = Some t; begun = t; fence = began.fence; disk = now.disk } = left ∙ ap (λ (f : ℕ). record old { tenure = Some t; begun = t; fence = f; disk = now.disk }) (sym fence_is) in
      let same = subst (λ (d : D). Brings (a_tenure t) (Ok u) (state d) (state now.disk)) (ap (λ (m : MachineState D). m.disk) view) brings in
      record {
        again = record { no_points = none; fence_is = fence_is; new_is = new_is };
        disk = brings_ok (a_tenure t) u began (state old.disk) (state now.disk) same;
        step =
            subst (λ (points : List Point). IsStep state old (call.Begin t) (reply.Began began.fence points) new) (sym none)
            (subst (λ (m : MachineState D). IsStep state old (call.Begin t) (reply.Began began.fence []) m) (sym new_is) (began_again_step state old t now.disk same.tells _ same.faults high began.fence (λ told. same.acknowledged told) is_open fence_is));
      }

-- what a begin from Boot answers and leaves
pub record OpenDone {D : Type 0} (state : D → DiskState) (old : MachineState D) (t : ℕ) (began : Began) (new : MachineState D) : Type 0 where
  pub from : BeganFrom state t old new began
  pub disk : let result : Result Began Reason = Ok began in BringsTo (a_tenure t) result (state old.disk) (state new.disk)
  pub step : IsStep state old (call.Begin t) (reply.Began began.fence began.points) new

module _ {D : Type 0} (state : D → DiskState) (s : Standing) (tenure : Option ℕ) (begun : ℕ) (work : Work) (old : MachineState D) (before now : StoreState D) (view : machine_of s tenure begun work before ≡ old) (t : ℕ) (began : Began) (u : ⊤) where
  pub open_done : old.standing ≡ standing.Boot → old.begun ≤ t → (points : List Point) (tenure_found fence_found : ℕ) → tenure_found ≤ t → Told (state old.disk) (HeldOnce points tenure_found fence_found) → EachImage (state old.disk) (λ c. c ≡ (state old.disk).files)
      → Told (state old.disk) (state old.disk).images → (buffered : Contents) → now ≡ record { disk = now.disk; open_ = true; buffered = buffered; content = now.content; tenure = max tenure_found t; fence = max fence_found t } → ((state old.disk).tells ≡ true → now.content ≡ content_of points)
      → Told (state old.disk) (AreBesideVolumes points buffered) → Brings (a_tenure t) (Ok u) (state before.disk) (state now.disk)
      → began.fence ≡ now.fence → began.points ≡ points → OpenDone state old t began (machine_of standing.Open (Some t) t work now)
  open_done boot high points tenure_found fence_found low held only image buffered ok content_is beside brings fence there =
      let new = machine_of standing.Open (Some t) t work now in
      let fence_is : began.fence ≡ max fence_found t = fence ∙ ap (λ (store : StoreState D). store.fence) ok in
      let now_fence : now.fence ≡ began.fence = sym fence in
      let work_is : work ≡ old.work = ap (λ (m : MachineState D). m.work) view in
      let new_is : new ≡ record { standing = standing.Open; tenure = Some t; begun = t; fence = began.fence; buffered = now.buffered; content = now.content; disk = now.disk; work = old.work } =
      λ i. record { standing = standing.Open; tenure = Some t; begun = t; fence = now_fence i; buffered = now.buffered; content = now.content; disk = now.disk; work = work_is i } in
      let buffered_is : now.buffered ≡ buffered = ap (λ (store : StoreState D). store.buffered) ok in
      let same = subst (λ (d : D). Brings (a_tenure t) (Ok u) (state d) (state now.disk)) (ap (λ (m : MachineState D). m.disk) view) brings in
      record {
        from = record {
          tenure_found = tenure_found;
          fence_found = fence_found;
          held = λ told. subst (λ (ps : List Point). HeldOnce ps tenure_found fence_found (state old.disk).files) (sym there) (held told);
          not_higher = low;
          fence_is = fence_is;
          new_is = new_is;
          content = λ told. content_is told ∙ sym (ap content_of there);
          buffered = λ told. subst (λ (ps : List Point). AreBesideVolumes ps now.buffered (state old.disk).files) (sym there) (subst (λ (c : Contents). AreBesideVolumes points c (state old.disk).files) (sym buffered_is) (beside told));
        };
        disk = brings_ok (a_tenure t) u began (state old.disk) (state now.disk) same;
        step =
            subst (λ (ps : List Point). IsStep state old (call.Begin t) (reply.Began began.fence ps) new) (sym there)
            (subst (λ (m : MachineState D). IsStep state old (call.Begin t) (reply.Began began.fence points) m) (sym new_is)
            (began_step state old t now.disk same.tells _ same.faults high began.fence (λ told. same.acknowledged told) boot points tenure_found fence_found low fence_is held only image now.buffered now.content old.work content_is));
      }
