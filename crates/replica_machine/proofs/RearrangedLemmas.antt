-- A replica over whose disk a call went that brings no point is still its machine's.
use Rattle.std.proofs.Common.{◌≡◌, ◌≤◌, ⊎_elim, ℕ, true, List, [], ◌∷◌, ◌++◌, refl, sym, subst, ◌∙◌, All, Any}
use Rattle.std.specs.Prelude.{◌⊎◌, ◌≢◌}
use Rattle.m3_model.specs.Contents.{Contents, Holds, point_at}
use Rattle.m3_model.specs.Members.{IsIn}
use Rattle.m3_model.specs.Reads.{Covers}
use Rattle.m3_model.specs.Rules.{HasExpired}
use Rattle.m3_model.specs.declared.point.Point.{Point}
use Rattle.m3_model.specs.declared.reason.Reason.TheVariants as reason
use Rattle.m3_model.specs.declared.replica.Standing.{Standing}
use Rattle.m3_model.specs.declared.replica.Standing.TheVariants as standing
use Rattle.m3_model.specs.declared.rules.Rules.{Rules}
use Rattle.m3_model.proofs.MemberLemmas.{IsIn-append_left, IsIn-push}
use Rattle.m3_outside.specs.Files.{Files}
use Rattle.m3_outside.specs.DiskState.{DiskState, EachImage}
use Rattle.placement_core.proofs.ListLemmas.{All-from_each, each-from_All, Any-from_IsIn, IsIn-from_Any}
use Rattle.shard_store.specs.shard_files.Parts.{AreWhole}
use Rattle.shard_store.specs.shard_files.Keeps.{Keeps, HoldContent}
use Rattle.cluster_core.specs.Replicas.{Shows, IsGone, down}
use Rattle.cluster_core.specs.declared.event.StepReply.TheVariants as reply
use Rattle.cluster_core.specs.declared.replica_state.ReplicaState.{ReplicaState}
use Rattle.replica_machine.specs.Machines.{MachineState, IsHeldBy, IsMachineOf, IsGreatest, shut_machine}
use Rattle.replica_machine.specs.Rearranged.{KeepsLive, KeptReplica, TickedReplica, KeepsImages, KeptMachine, TickedMachine}
use Rattle.replica_machine.proofs.DiskLemmas.{each_step, each_whole}

-- where the content has a value at the key, its point covers this one
covers_by : (content : Contents) (points : List Point) (p : Point) (h : Holds content p) → IsIn points (record p { v = h.value }) → Covers points p
covers_by content points p h there = record { value = h.value; at_least = h.at_least; stands = there }

-- The replica, however it stands and whatever ticks it had. Files that it may begin with are such files of this one too where a content is kept that has its
-- sure points which aren't gone.
kept_by : (r : ReplicaState) (s : Standing) (ticks : List Rules) (kept : Contents) (x y : Files) → (let q = record r { standing = s; ticks = ticks } in (p : Point) → IsIn r.sure p → ¬ IsGone q p → Holds kept p) → Keeps kept x y → IsHeldBy r x
    → IsHeldBy (record r { standing = s; ticks = ticks }) y
kept_by r s ticks kept x y there keeps h =
    let k = keeps.held h.points h.tenure h.fence h.held in
    let q : ReplicaState = record r { standing = s; ticks = ticks } in
    record {
      points = k.points;
      tenure = h.tenure;
      fence = h.fence;
      held = k.held;
      source = All-from_each (λ p. IsIn r.sure p ⊎ IsIn r.doubt p) k.points (λ p m. each-from_All (λ p. IsIn r.sure p ⊎ IsIn r.doubt p) h.points h.source p (k.sheds.nothing_else p m));
      all_there = All-from_each (λ p. ¬ IsGone q p → Covers k.points p) r.sure (λ p m stays. let has = there p m stays in covers_by kept k.points p has (k.sheds.whole (record p { v = has.value }) has.stands));
      none_higher = h.none_higher;
      known = h.known;
      fence_is = h.fence_is;
    }

pub kept_replica : KeptReplica
kept_replica r s content x y shows keeps h = kept_by r s r.ticks content x y shows.all keeps h

-- ---- ticks

-- the same key expires alike
expired_as : (rules : Rules) (p : Point) (v : _) → HasExpired rules (record p { v = v }) → HasExpired rules p
expired_as rules p v e = record { space = e.space; stands = e.stands; ended = e.ended }

any_left : {X : Type 0} (P : X → Type 0) (xs ys : List X) → Any P xs → Any P (xs ++ ys)
any_left P xs ys any = let m = IsIn-from_Any P xs any in Any-from_IsIn P (xs ++ ys) m.0 (IsIn-append_left xs ys m.0 m.1) m.2

any_last : {X : Type 0} (P : X → Type 0) (xs : List X) (y : X) → P y → Any P (xs ++ y ∷ [])
any_last P xs y p = Any-from_IsIn P (xs ++ y ∷ []) y (IsIn-push xs y) p

-- the replica, ticked by these rules
abbrev ticked : ReplicaState → Standing → Rules → ReplicaState
ticked r s rules = record r { standing = s; ticks = r.ticks ++ rules ∷ [] }

module _ (r : ReplicaState) (s : Standing) (rules : Rules) (content kept : Contents) (shows : Shows r content) (live : KeepsLive rules content kept) where
  -- what isn't gone then wasn't before, and the content that is kept has it
  still_there : (p : Point) → IsIn r.sure p → ¬ IsGone (ticked r s rules) p → Holds kept p
  still_there p m stays =
      let there = shows.all p m (λ gone. stays (any_left (λ rs. HasExpired rs p) r.ticks (rules ∷ []) gone)) in
      let stands = live (record p { v = there.value }) there.stands (λ e. stays (any_last (λ rs. HasExpired rs p) r.ticks rules (expired_as rules p there.value e))) in
      record { value = there.value; at_least = there.at_least; stands = stands }

  -- each of its points is one that files had which the replica may begin with, and nothing is in doubt
  ticked_shows : (files : Files) → IsHeldBy r files → r.doubt ≡ [] → HoldContent kept files → Shows (ticked r s rules) kept
  ticked_shows files h none had = record {
    sure = λ k v e.
        let p = point_at k v in
        ⊎_elim (λ (sure : IsIn r.sure p). sure) (λ (doubt : IsIn r.doubt p). absurd (subst (λ (l : List Point). IsIn l p) none doubt)) (each-from_All (λ p. IsIn r.sure p ⊎ IsIn r.doubt p) h.points h.source p (had p e h.points h.tenure h.fence h.held));
    all = still_there;
  }

  ticked_held : (x y : Files) → Keeps kept x y → IsHeldBy r x → IsHeldBy (ticked r s rules) y
  ticked_held x y keeps h = kept_by r s (r.ticks ++ rules ∷ []) kept x y still_there keeps h

pub ticked_replica : TickedReplica
ticked_replica r rules (reply.Count n) content kept x y is shows to keeps h = ticked_held r r.standing rules content kept shows to x y keeps h
ticked_replica r rules (reply.Refused reason.Disk) content kept x y is shows to keeps h = ticked_held r standing.Down rules content kept shows to x y keeps h
ticked_replica r rules (reply.Refused (reason.Corrupt damage)) content kept x y is shows to keeps h = ticked_held r standing.Down rules content kept shows to x y keeps h
ticked_replica r rules _ content kept x y is shows to keeps h = absurd is

-- ---- machines

module _ {D : Type 0} (state : D → DiskState) (base : Files → Type 0) (r : ReplicaState) (m : MachineState D) (d : D) (is_open : m.standing ≡ standing.Open) (h : IsMachineOf state base r m) where
  -- of an open machine the replica began, and the disk tells a content that shows it
  began : r.begun ≢ []
  began = (h.open_ is_open).begun

  -- a closed machine over images that the replica, or what is left of it, may begin with
  closed_by : (q : ReplicaState) → q.standing ≡ standing.Down → q.begun ≡ r.begun → q.fence ≡ r.fence → q.sure ≡ r.sure → EachImage (state d) (IsHeldBy q) → (((c : Files) → base c → AreWhole c) → EachImage (state d) AreWhole) → IsMachineOf state base q (shut_machine standing.Down m d)
  closed_by q down begun fence sure files snapshots = record {
    stands = sym down;
    begun = subst (λ l. IsGreatest m.begun l) (sym begun) h.begun;
    below = subst (λ (l : List ℕ). All (λ b. b ≤ q.fence) l) (sym begun) (subst (λ (f : ℕ). All (λ b. b ≤ f) r.begun) (sym fence) h.below);
    empty = λ e. sure ∙ h.empty (sym begun ∙ e);
    open_ = λ o. cc;
    files = λ b. files;
    unbegun = λ none. absurd (began (sym begun ∙ none));
    snapshots = snapshots;
  }

  -- an open one, with a content that shows what is left of the replica
  open_by : (q : ReplicaState) (buffered content : Contents) → q.standing ≡ r.standing → q.begun ≡ r.begun → q.fence ≡ r.fence → q.sure ≡ r.sure → q.tenure ≡ r.tenure → q.doubt ≡ r.doubt → q.doubt_fences ≡ r.doubt_fences → ((state d).tells ≡ true → Shows q content)
      → EachImage (state d) (IsHeldBy q) → (((c : Files) → base c → AreWhole c) → EachImage (state d) AreWhole) → IsMachineOf state base q (record m { disk = d; buffered = buffered; content = content })
  open_by q buffered content stands begun fence sure tenure doubt fences shows files snapshots =
      let a = h.open_ is_open in
      record {
        stands = h.stands ∙ sym stands;
        begun = subst (λ l. IsGreatest m.begun l) (sym begun) h.begun;
        below = subst (λ (l : List ℕ). All (λ b. b ≤ q.fence) l) (sym begun) (subst (λ (f : ℕ). All (λ b. b ≤ f) r.begun) (sym fence) h.below);
        empty = λ e. sure ∙ h.empty (sym begun ∙ e);
        open_ = λ o. record { begun = λ e. a.begun (sym begun ∙ e); tenure = a.tenure ∙ sym tenure; fence = a.fence ∙ sym fence; sure = doubt ∙ a.sure; sure_fences = fences ∙ a.sure_fences; shows = shows };
        files = λ b. files;
        unbegun = λ none. absurd (began (sym begun ∙ none));
        snapshots = snapshots;
      }

module _ {D : Type 0} (state : D → DiskState) where
  -- each image of a disk that tells, a step on
  images : (kept : Contents) (old new : DiskState) (P Q : Files → Type 0) → KeepsImages kept old new → (old.tells ≡ true → (x y : Files) → Keeps kept x y → P x → Q y) → EachImage old P → EachImage new Q
  images kept old new P Q keeps to each tells = let told = sym keeps.tells ∙ tells in each_step old new P Q keeps.tells keeps.images (to told) each tells

  whole : (kept : Contents) (old new : DiskState) (base : Files → Type 0) → KeepsImages kept old new → (((c : Files) → base c → AreWhole c) → EachImage old AreWhole) → ((c : Files) → base c → AreWhole c) → EachImage new AreWhole
  whole kept old new base keeps each = each_whole old new base keeps.tells keeps.images (λ x y one. one.snapshots) each

  pub kept_machine : KeptMachine state
  kept_machine = record {
    open_ = λ first r m d buffered content is_open keeps same h.
        let a = h.open_ is_open in
        open_by state (state first).images r m d is_open h r buffered content refl refl refl refl refl refl refl
        (λ tells. let told = sym keeps.tells ∙ tells in subst (Shows r) (sym (same told)) (a.shows told))
        (images m.content (state m.disk) (state d) (IsHeldBy r) (IsHeldBy r) keeps (λ told x y kept held. kept_replica r r.standing m.content x y (a.shows told) kept held) (h.files a.begun))
        (whole m.content (state m.disk) (state d) (state first).images keeps h.snapshots);
    closed = λ first r m d is_open keeps h.
        let a = h.open_ is_open in
        closed_by state (state first).images r m d is_open h (down r) refl refl refl refl
        (images m.content (state m.disk) (state d) (IsHeldBy r) (IsHeldBy (down r)) keeps (λ told x y kept held. kept_replica r standing.Down m.content x y (a.shows told) kept held) (h.files a.begun))
        (whole m.content (state m.disk) (state d) (state first).images keeps h.snapshots);
  }

  closed_tick : (first : D) (r : ReplicaState) (m : MachineState D) (d : D) (rules : Rules) (kept : Contents) → m.standing ≡ standing.Open → KeepsLive rules m.content kept → KeepsImages kept (state m.disk) (state d) → IsMachineOf state (state first).images r m
      → IsMachineOf state (state first).images (ticked r standing.Down rules) (shut_machine standing.Down m d)
  closed_tick first r m d rules kept is_open live keeps h =
      let a = h.open_ is_open in
      let q = ticked r standing.Down rules in
      closed_by state (state first).images r m d is_open h q refl refl refl refl
      (images kept (state m.disk) (state d) (IsHeldBy r) (IsHeldBy q) keeps (λ told x y one held. ticked_held r standing.Down rules m.content kept (a.shows told) live x y one held) (h.files a.begun))
      (whole kept (state m.disk) (state d) (state first).images keeps h.snapshots)

  pub ticked_machine : TickedMachine state
  ticked_machine = record {
    done = λ first r m d rules n kept buffered left is_open live keeps to h.
        let a = h.open_ is_open in
        let q = ticked r r.standing rules in
        open_by state (state first).images r m d is_open h q buffered left refl refl refl refl refl refl refl
        (λ tells.
        let told = sym keeps.tells ∙ tells in
        let had = (to told).there told in
        ticked_shows r r.standing rules m.content left (a.shows told) (to told).live (state m.disk).files (h.files a.begun told (state m.disk).files had.0) a.sure had.1)
        (images kept (state m.disk) (state d) (IsHeldBy r) (IsHeldBy q) keeps (λ told x y one held. ticked_held r r.standing rules m.content kept (a.shows told) live x y one held) (h.files a.begun))
        (whole kept (state m.disk) (state d) (state first).images keeps h.snapshots);
    failed = λ first r m d rules kept is_open live keeps h. closed_tick first r m d rules kept is_open live keeps h;
    damaged = λ first r m d rules damage kept is_open live keeps h. closed_tick first r m d rules kept is_open live keeps h;
  }
