-- What calls leave of a machine is what they leave of its replica.
use Rattle.std.proofs.Common.{◌≡◌, inl, inr, ℕ, ◌≤◌, max, true, List, [], ◌∷◌, ◌++◌, refl, sym, ap, subst, ◌∙◌, Option, None, Result, Ok, Err, All, arith}
use Rattle.std.specs.Prelude.{⊤, ◌≢◌, OnOk, IsErrOf}
use Rattle.m3_model.specs.Contents.{Contents, Holds, raised, point_at}
use Rattle.m3_model.specs.Members.{IsIn}
use Rattle.m3_model.specs.declared.point.Point.{Point}
use Rattle.m3_model.specs.declared.replica.Standing.{Standing}
use Rattle.m3_model.specs.declared.replica.Standing.TheVariants as standing
use Rattle.m3_model.proofs.JoinLemmas.{raised_holds, raised_keeps, raised_source}
use Rattle.m3_model.proofs.MemberLemmas.{IsIn-append_left, IsIn-append_cases, IsIn-push}
use Rattle.m3_outside.specs.Files.{Files}
use Rattle.m3_outside.specs.DiskState.{DiskState, EachImage, StepOf}
use Rattle.placement_core.proofs.ListLemmas.{All-from_each, each-from_All}
use Rattle.shard_store.specs.shard_files.Parts.{AreWhole}
use Rattle.shard_store.specs.shard_files.Gains.{nothing, a_point, a_fence, Gains}
use Rattle.cluster_core.specs.Replicas.{Shows, down, greater}
use Rattle.cluster_core.specs.Rows.{IsServingAt}
use Rattle.cluster_core.specs.declared.replica_state.ReplicaState.{ReplicaState}
use Rattle.m3_outside.specs.declared.disk_err.DiskErr.{DiskErr}
use Rattle.m3_outside.specs.declared.disk_err.DiskErr.TheVariants as refused
use Rattle.shard_store.specs.Stores.{StoreState, closed_over}
use Rattle.replica_machine.specs.declared.work.Work.{Work}
use Rattle.replica_machine.specs.Bases.{CameFrom}
use Rattle.replica_machine.specs.Machines.{MachineState, IsStoreOf, IsMachineOf, IsHeldBy, IsGreatest, shut_machine, settled, unserved}
use Rattle.replica_machine.proofs.DiskLemmas.{each_step, each_whole}
use Rattle.replica_machine.proofs.BaseLemmas.{came_nothing}
use Rattle.replica_machine.proofs.HeldByLemmas.{StandsElse, held_nothing, held_point, held_fence, greater_is_max}
use Rattle.replica_machine.proofs.RefusalLemmas.{IsUp, up}

-- a content that gains the point that the replica takes shows it still
shows_raised : (r : ReplicaState) (c : Contents) (p : Point) → Shows r c → Shows (record r { sure = r.sure ++ p ∷ [] }) (raised c p)
shows_raised r c p h = record {
  sure = λ k v e.
      elim (raised_source c p k v e) as (λ _. IsIn (r.sure ++ p ∷ []) (point_at k v)) [
        | inl new ↦ subst (IsIn (r.sure ++ p ∷ [])) new (IsIn-push r.sure p)
        | inr old ↦ IsIn-append_left r.sure (p ∷ []) (point_at k v) (h.sure k v old)
      ];
  all = λ q m stays.
      elim (IsIn-append_cases r.sure (p ∷ []) q m) as (λ _. Holds (raised c p) q) [
        | inl old ↦ raised_keeps c p q (h.all q old stays)
        | inr new ↦ elim new as (λ _. Holds (raised c p) q) [ inl same ↦ subst (Holds (raised c p)) same (raised_holds c p) | inr none ↦ absurd none ]
      ];
}

pub stands_same : (r : ReplicaState) → StandsElse r r
stands_same r = record { sure = refl; moves = record { kept = λ p m. m; gained = λ p m. absurd m; gone = λ p stays. stays }; numbers = record { begun = λ t all. all; known = λ t is. is; fence = λ t f is. is } }

pub stands_at : (r : ReplicaState) (s : Standing) → StandsElse r (record r { standing = s })
stands_at r s = record { sure = refl; moves = record { kept = λ p m. m; gained = λ p m. absurd m; gone = λ p stays. stays }; numbers = record { begun = λ t all. all; known = λ t is. is; fence = λ t f is. is } }

pub stands_untenured : (r : ReplicaState) → StandsElse r (record r { tenure = None })
stands_untenured r = record { sure = refl; moves = record { kept = λ p m. m; gained = λ p m. absurd m; gone = λ p stays. stays }; numbers = record { begun = λ t all. all; known = λ t is. is; fence = λ t f is. is } }

module _ {D : Type 0} (state : D → DiskState) (base : Files → Type 0) where
  -- a machine whose disk is as it was
  pub kept_machine : (r : ReplicaState) (old : MachineState D) (d : D) → (state d).tells ≡ (state old.disk).tells → ((state old.disk).tells ≡ true → (c : Files) → (state d).images c → StepOf (Gains nothing) (state old.disk).images c)
      → IsMachineOf state base r old → IsMachineOf state base r (record old { disk = d })
  kept_machine r old d same steps h = record {
    stands = h.stands;
    begun = h.begun;
    below = h.below;
    empty = h.empty;
    open_ = λ o. let a = h.open_ o in record { begun = a.begun; tenure = a.tenure; fence = a.fence; sure = a.sure; sure_fences = a.sure_fences; shows = λ t. a.shows (sym same ∙ t) };
    files = λ b. each_step (state old.disk) (state d) (IsHeldBy r) (IsHeldBy r) same steps (λ x y gains held. held_nothing r r (stands_same r) x y gains held) (h.files b);
    unbegun = λ none. each_step (state old.disk) (state d) (CameFrom base r.tried) (CameFrom base r.tried) same steps (λ x y gains came. came_nothing base r.tried x y gains came) (h.unbegun none);
    snapshots = each_whole (state old.disk) (state d) base same steps (λ x y gains. gains.snapshots) h.snapshots;
  }

  -- a machine that isn't open any more
  pub shut_follows : (r q : ReplicaState) (old : MachineState D) (s : Standing) (d : D) → s ≢ standing.Open → q.standing ≡ s → q.begun ≡ r.begun → q.fence ≡ r.fence → q.sure ≡ r.sure → IsMachineOf state base r old → (r.begun ≢ [] → EachImage (state d) (IsHeldBy q))
      → (r.begun ≡ [] → EachImage (state d) (CameFrom base q.tried)) → (((c : Files) → base c → AreWhole c) → EachImage (state d) AreWhole) → IsMachineOf state base q (shut_machine s old d)
  shut_follows r q old s d not stands begun fence sure h files unbegun snapshots = record {
    stands = sym stands;
    begun = subst (IsGreatest old.begun) (sym begun) h.begun;
    below = subst (λ (l : List ℕ). All (λ b. b ≤ q.fence) l) (sym begun) (subst (λ (f : ℕ). All (λ b. b ≤ f) r.begun) (sym fence) h.below);
    empty = λ e. sure ∙ h.empty (sym begun ∙ e);
    open_ = λ o. absurd (not o);
    files = λ b. files (λ e. b (begun ∙ e));
    unbegun = λ none. unbegun (sym begun ∙ none);
    snapshots = snapshots;
  }

  -- one that a fault or damage took down, and whose disk is as it was
  pub shut_kept : (r : ReplicaState) (old : MachineState D) (d : D) → (state d).tells ≡ (state old.disk).tells → ((state old.disk).tells ≡ true → (c : Files) → (state d).images c → StepOf (Gains nothing) (state old.disk).images c)
      → IsMachineOf state base r old → IsMachineOf state base (down r) (shut_machine standing.Down old d)
  shut_kept r old d same steps h =
      let q = down r in
      shut_follows r q old standing.Down d (λ e. cc) refl refl refl refl h
      (λ b. each_step (state old.disk) (state d) (IsHeldBy r) (IsHeldBy q) same steps (λ x y gains held. held_nothing r q (stands_at r standing.Down) x y gains held) (h.files b))
      (λ none. each_step (state old.disk) (state d) (CameFrom base r.tried) (CameFrom base r.tried) same steps (λ x y gains came. came_nothing base r.tried x y gains came) (h.unbegun none))
      (each_whole (state old.disk) (state d) base same steps (λ x y gains. gains.snapshots) h.snapshots)

  -- with a point that is in the log
  pub put_follows : (r : ReplicaState) (old : MachineState D) (d : D) (p : Point) → old.standing ≡ standing.Open → (state d).tells ≡ (state old.disk).tells
      → ((state old.disk).tells ≡ true → (c : Files) → (state d).images c → StepOf (Gains (a_point p)) (state old.disk).images c) → IsMachineOf state base r old
      → IsMachineOf state base (record r { sure = r.sure ++ p ∷ [] }) (record old { disk = d; buffered = raised old.buffered p; content = raised old.content p })
  put_follows r old d p is_open same steps h =
      let a = h.open_ is_open in
      record {
        stands = h.stands;
        begun = h.begun;
        below = h.below;
        empty = λ e. absurd (a.begun e);
        open_ = λ o. record { begun = a.begun; tenure = a.tenure; fence = a.fence; sure = a.sure; sure_fences = a.sure_fences; shows = λ t. shows_raised r old.content p (a.shows (sym same ∙ t)) };
        files = λ b. each_step (state old.disk) (state d) (IsHeldBy r) (IsHeldBy (record r { sure = r.sure ++ p ∷ [] })) same steps (λ x y gains held. held_point r p x y gains held) (h.files b);
        unbegun = λ none. absurd (a.begun none);
        snapshots = each_whole (state old.disk) (state d) base same steps (λ x y gains. gains.snapshots) h.snapshots;
      }

  -- with a fence that is in the log
  pub fence_follows : (r : ReplicaState) (old : MachineState D) (d : D) (version : ℕ) → old.standing ≡ standing.Open → (state d).tells ≡ (state old.disk).tells
      → ((state old.disk).tells ≡ true → (c : Files) → (state d).images c → StepOf (Gains (a_fence version)) (state old.disk).images c) → IsMachineOf state base r old
      → IsMachineOf state base (record r { fence = greater r.fence version }) (record old { disk = d; fence = max old.fence version })
  fence_follows r old d version is_open same steps h =
      let a = h.open_ is_open in
      record {
        stands = h.stands;
        begun = h.begun;
        below = All-from_each (λ b. b ≤ greater r.fence version) r.begun (λ b m. let le = each-from_All (λ b. b ≤ r.fence) r.begun h.below b m in let up = greater_is_max r.fence version in omega (arith, le, up));
        empty = h.empty;
        open_ = λ o. record {
          begun = a.begun;
          tenure = a.tenure;
          fence = ap (λ (f : ℕ). max f version) a.fence ∙ sym (greater_is_max r.fence version);
          sure = a.sure;
          sure_fences = a.sure_fences;
          shows = λ t. let shown = a.shows (sym same ∙ t) in record { sure = shown.sure; all = shown.all };
        };
        files = λ b. each_step (state old.disk) (state d) (IsHeldBy r) (IsHeldBy (record r { fence = greater r.fence version })) same steps (λ x y gains held. held_fence r version a.sure_fences x y gains held) (h.files b);
        unbegun = λ none. absurd (a.begun none);
        snapshots = each_whole (state old.disk) (state d) base same steps (λ x y gains. gains.snapshots) h.snapshots;
      }

  -- where nothing stands against a version the replica serves it
  pub serving : (r : ReplicaState) (m : MachineState D) (version : ℕ) → IsMachineOf state base r m → unserved m version ≡ None → IsServingAt r version
  serving r m version h e =
      let is_up : IsUp m.standing m.tenure m.fence version = up m.standing m.tenure m.fence version e in
      let all = h.open_ is_up.open_ in
      record {
        owner = record { open_ = sym h.stands ∙ is_up.open_; tenure = is_up.tenure; owned = sym all.tenure ∙ is_up.owned; tenure_low = is_up.tenure_low };
        fence_low = subst (λ f. f ≤ version) all.fence is_up.fence_low;
      }

  pub shown : (r : ReplicaState) (m : MachineState D) (version : ℕ) → IsMachineOf state base r m → unserved m version ≡ None → (state m.disk).tells ≡ true → Shows r m.content
  shown r m version h e tells = (h.open_ (up m.standing m.tenure m.fence version e).open_).shows tells

  -- its work is no matter of the replica
  pub whatever_work : (r : ReplicaState) (m : MachineState D) (w : Work) → IsMachineOf state base r m → IsMachineOf state base r (record m { work = w })
  whatever_work r m w h = record {
    stands = h.stands;
    begun = h.begun;
    below = h.below;
    empty = h.empty;
    open_ = λ o. let a = h.open_ o in record { begun = a.begun; tenure = a.tenure; fence = a.fence; sure = a.sure; sure_fences = a.sure_fences; shows = a.shows };
    files = h.files;
    unbegun = h.unbegun;
    snapshots = h.snapshots;
  }

-- the store of an open machine is open
pub store_open : {D : Type 0} (s : Standing) (store : StoreState D) → IsStoreOf s store → s ≡ standing.Open → store.open_ ≡ true
store_open s store of is_open = subst (λ (x : Standing). IsStoreOf x store) is_open of

pub store_stays : {D : Type 0} (s : Standing) (store : StoreState D) → s ≡ standing.Open → store.open_ ≡ true → IsStoreOf s store
store_stays s store is_open open_ = subst (λ (x : Standing). IsStoreOf x store) (sym is_open) open_

-- a machine by its own fields and its store
abbrev pub machine_of : {D : Type 0} → Standing → Option ℕ → ℕ → Work → StoreState D → MachineState D
machine_of s tenure begun work store = record { standing = s; tenure = tenure; begun = begun; fence = store.fence; buffered = store.buffered; content = store.content; disk = store.disk; work = work }

-- one of whose store only the disk changed
pub disk_moved : {D : Type 0} (s : Standing) (tenure : Option ℕ) (begun : ℕ) (work : Work) (before now : StoreState D) (now_s : Standing) → now_s ≡ s → now ≡ record before { disk = now.disk }
    → machine_of now_s tenure begun work now ≡ record (machine_of s tenure begun work before) { disk = now.disk }
disk_moved s tenure begun work before now now_s same is = ap (λ (x : Standing). machine_of x tenure begun work now) same ∙ ap (machine_of s tenure begun work) is

pub failed_is : (e : DiskErr) → (let said : Result ⊤ DiskErr = Err e in IsErrOf said refused.Failed) → e ≡ refused.Failed
failed_is e f = cc

-- ---- what a store's call leaves of an open machine, which a fault takes down

module _ {D : Type 0} (s : Standing) (tenure : Option ℕ) (begun : ℕ) (work : Work) (before now : StoreState D) where
  -- the machine with what the call did, or as it was where it was refused
  abbrev pub middle : MachineState D → Result ⊤ DiskErr → MachineState D
  middle old (Ok u) = machine_of s tenure begun work now
  middle old (Err why) = record old { disk = now.disk }

  pub settled_is : (now_s : Standing) (said : Result ⊤ DiskErr) → (IsErrOf said refused.Memory → now ≡ record before { disk = now.disk }) → (IsErrOf said refused.Failed → now ≡ closed_over now.disk) → (IsErrOf said refused.Failed → now_s ≡ standing.Down)
      → ((IsErrOf said refused.Failed → ⊥) → now_s ≡ s) → machine_of now_s tenure begun work now ≡ settled said (middle (machine_of s tenure begun work before) said)
  settled_is now_s (Ok u) memory fault down stays = ap (λ (x : Standing). machine_of x tenure begun work now) (stays (λ f. cc))
  settled_is now_s (Err refused.Memory) memory fault down stays = ap (λ (x : Standing). machine_of x tenure begun work now) (stays (λ f. cc)) ∙ ap (machine_of s tenure begun work) (memory refl)
  settled_is now_s (Err refused.Failed) memory fault down stays = ap (λ (x : Standing). machine_of x tenure begun work now) (down refl) ∙ ap (machine_of standing.Down tenure begun work) (fault refl)

  pub store_after : {X : Type 0} (now_s : Standing) (said : Result X DiskErr) → s ≡ standing.Open → before.open_ ≡ true → OnOk said (now.open_ ≡ true) → (IsErrOf said refused.Memory → now ≡ record before { disk = now.disk }) → (IsErrOf said refused.Failed → now ≡ closed_over now.disk)
      → (IsErrOf said refused.Failed → now_s ≡ standing.Down) → ((IsErrOf said refused.Failed → ⊥) → now_s ≡ s) → IsStoreOf now_s now
  store_after now_s (Ok u) is_open opened ok memory fault down stays = store_stays now_s now (stays (λ f. cc) ∙ is_open) ok
  store_after now_s (Err refused.Memory) is_open opened ok memory fault down stays = store_stays now_s now (stays (λ f. cc) ∙ is_open) (ap (λ (x : StoreState D). x.open_) (memory refl) ∙ opened)
  store_after now_s (Err refused.Failed) is_open opened ok memory fault down stays = subst (λ (x : Standing). IsStoreOf x now) (sym (down refl)) (fault refl)
