-- Files that a replica may begin with once it began, or was to begin.
use Rattle.std.proofs.Common.{◌≡◌, ◌<◌, ◌≤◌, inl, inr, ⊎_elim, ℕ, max, List, [], ◌∷◌, ◌++◌, sym, ap, subst, ◌∙◌, arith, All, Any, Some}
use Rattle.std.specs.Prelude.{◌⊎◌}
use Rattle.std.proofs.lemmas.Bool.{cases_lt}
use Rattle.m3_model.specs.Members.{IsIn}
use Rattle.m3_model.specs.Reads.{Covers}
use Rattle.m3_model.specs.declared.point.Point.{Point}
use Rattle.m3_model.specs.declared.replica.Standing.TheVariants as standing
use Rattle.m3_model.proofs.MemberLemmas.{IsIn-append_left, IsIn-append_right, IsIn-append_cases, IsIn-push}
use Rattle.m3_outside.specs.Files.{Files}
use Rattle.placement_core.proofs.ListLemmas.{All-from_each, each-from_All, Any-from_IsIn, IsIn-from_Any}
use Rattle.shard_store.specs.shard_files.FilesHold.{FilesHold}
use Rattle.shard_store.specs.shard_files.Once.{HaveSamePoints, HeldOnce}
use Rattle.shard_store.specs.shard_files.Gains.{a_tenure, Gains, MayGain}
use Rattle.shard_store.proofs.shard_files_proofs.GainLemmas.{covers_itself, covers_then}
use Rattle.shard_store.proofs.shard_files_proofs.FilesHoldLemmas.{files_hold_one}
use Rattle.cluster_core.specs.Replicas.{greater, IsGone}
use Rattle.cluster_core.specs.Rows.{IsLoaded}
use Rattle.cluster_core.specs.declared.replica_state.ReplicaState.{ReplicaState}
use Rattle.replica_machine.specs.Machines.{MayHaveTenure, IsHeldBy}
use Rattle.replica_machine.proofs.HeldByLemmas.{MayHaveFence, MovesOn, held_after, greater_is_max, only_fence}

-- ---- a tenure that was to begin

abbrev tried : ReplicaState → ℕ → ReplicaState
tried r t = record r { standing = standing.Down; doubt_fences = r.doubt_fences ++ t ∷ []; tried = r.tried ++ t ∷ [] }

still_known : (r : ReplicaState) (t u : ℕ) → MayHaveTenure r u → MayHaveTenure (tried r t) u
still_known r t u (inl begun) = inl begun
still_known r t u (inr was) = inr (IsIn-append_left r.tried (t ∷ []) u was.0, IsIn-append_left r.doubt_fences (t ∷ []) u was.1)

still_fenced : (r : ReplicaState) (t u f : ℕ) → MayHaveFence r u f → MayHaveFence (tried r t) u f
still_fenced r t u f (inl is) = inl is
still_fenced r t u f (inr any) =
    let d = IsIn-from_Any (λ doubtful. f ≡ max doubtful (max u r.fence)) r.doubt_fences any in
    inr (Any-from_IsIn (λ doubtful. f ≡ max doubtful (max u r.fence)) (r.doubt_fences ++ t ∷ []) d.0 (IsIn-append_left r.doubt_fences (t ∷ []) d.0 d.1) d.2)

up_known : (r : ReplicaState) (t u : ℕ) → MayHaveTenure r u → MayHaveTenure (tried r t) (max u t)
up_known r t u known =
    ⊎_elim (λ (lt : u < t). let is : t ≡ max u t = omega (arith, lt) in inr (subst (IsIn (r.tried ++ t ∷ [])) is (IsIn-push r.tried t), subst (IsIn (r.doubt_fences ++ t ∷ [])) is (IsIn-push r.doubt_fences t)))
    (λ (ge : t ≤ u). let is : u ≡ max u t = omega (arith, ge) in subst (MayHaveTenure (tried r t)) is (still_known r t u known)) (cases_lt u t)

up_fenced : (r : ReplicaState) (t u f : ℕ) → MayHaveFence r u f → MayHaveFence r (max u t) (max f t)
up_fenced r t u f (inl is) = let up : max f t ≡ max (max u t) r.fence = omega (arith, is) in inl up
up_fenced r t u f (inr any) =
    let d = IsIn-from_Any (λ doubtful. f ≡ max doubtful (max u r.fence)) r.doubt_fences any in
    let is = d.2 in
    let up : max f t ≡ max d.0 (max (max u t) r.fence) = omega (arith, is) in
    inr (Any-from_IsIn (λ doubtful. max f t ≡ max doubtful (max (max u t) r.fence)) r.doubt_fences d.0 d.1 up)

up_higher : (begun : List ℕ) (t u : ℕ) → All (λ b. b ≤ u) begun → All (λ b. b ≤ max u t) begun
up_higher begun t u all = All-from_each (λ b. b ≤ max u t) begun (λ b m. let le = each-from_All (λ b. b ≤ u) begun all b m in omega (arith, le))

pub held_tried : (r : ReplicaState) (t : ℕ) (x y : Files) → MayGain (a_tenure t) x y → IsHeldBy r x → IsHeldBy (record r { standing = standing.Down; doubt_fences = r.doubt_fences ++ t ∷ []; tried = r.tried ++ t ∷ [] }) y
held_tried r t x y may h =
    let q = tried r t in
    let part = may.held h.points h.tenure h.fence h.held in
    let moves : MovesOn r q (a_tenure t) = record { kept = λ o m. m; gained = λ o m. absurd m; gone = λ o stays. stays } in
    ⊎_elim (λ (same : (part.tenure_now ≡ h.tenure) × (part.fence_now ≡ h.fence)).
    held_after r q (a_tenure t) moves x y h part.points h.tenure h.fence (subst (λ (n : ℕ). FilesHold part.points n h.fence y) same.0 (subst (λ (n : ℕ). FilesHold part.points part.tenure_now n y) same.1 part.held)) part.grows (λ o m. inl m)
    h.none_higher (still_known r t h.tenure h.known) (still_fenced r t h.tenure h.fence h.fence_is))
    (λ (more : (part.tenure_now ≡ max h.tenure t) × (part.fence_now ≡ max h.fence t)).
    held_after r q (a_tenure t) moves x y h part.points (max h.tenure t) (max h.fence t) (subst (λ (n : ℕ). FilesHold part.points n (max h.fence t) y) more.0 (subst (λ (n : ℕ). FilesHold part.points part.tenure_now n y) more.1 part.held)) part.grows (λ o m. inl m)
    (up_higher r.begun t h.tenure h.none_higher) (up_known r t h.tenure h.known) (still_fenced r t (max h.tenure t) (max h.fence t) (up_fenced r t h.tenure h.fence h.fence_is)))
    part.numbers

-- ---- a tenure that began

-- from files of which all is loaded
pub held_began : (r : ReplicaState) (t fence : ℕ) (points : List Point) (tenure_found fence_found : ℕ) (x y : Files) → HeldOnce points tenure_found fence_found x → tenure_found ≤ t → fence ≡ max fence_found t → ((b : ℕ) → IsIn r.begun b → b ≤ t)
    → ((p : Point) → IsIn r.sure p → ¬ IsGone r p → Covers points p) → Gains (a_tenure t) x y
    → IsHeldBy (record r { standing = standing.Open; tenure = Some t; fence = fence; sure = r.sure ++ points; doubt = []; doubt_fences = []; begun = r.begun ++ t ∷ [] }) y
held_began r t fence points tenure_found fence_found x y loaded low fence_is none_higher there gains =
    let all = gains.held loaded.all tenure_found fence_found loaded.held in
    let tenure_is : t ≡ max tenure_found t = omega (arith, low) in
    record {
      points = all.points;
      tenure = max tenure_found t;
      fence = max fence_found t;
      held = all.held;
      source = All-from_each (λ p. IsIn (r.sure ++ points) p ⊎ ⊥) all.points (λ p m. ⊎_elim (λ (old : IsIn loaded.all p). inl (IsIn-append_right r.sure points p ((loaded.once.same p).1 old))) (λ (none : ⊥). absurd none) (all.grows.nothing_else p m));
      all_there = All-from_each (λ p. ¬ IsGone r p → Covers all.points p) (r.sure ++ points) (λ p m stays.
          covers_then points all.points p (⊎_elim (λ (old : IsIn r.sure p). there p old stays) (λ (new : IsIn points p). covers_itself points p new) (IsIn-append_cases r.sure points p m)) (λ q n. covers_itself all.points q (all.grows.stays q ((loaded.once.same q).0 n))));
      none_higher = All-from_each (λ b. b ≤ max tenure_found t) (r.begun ++ t ∷ []) (λ b m.
          ⊎_elim (λ (old : IsIn r.begun b). let le = none_higher b old in omega (arith, le)) (λ (new : (t ≡ b) ⊎ ⊥). ⊎_elim (λ (same : t ≡ b). omega (arith, same)) (λ (none : ⊥). absurd none) new) (IsIn-append_cases r.begun (t ∷ []) b m));
      known = inl (subst (IsIn (r.begun ++ t ∷ [])) tenure_is (IsIn-push r.begun t));
      fence_is = inl (omega (arith, low, fence_is));
    }

-- of an open replica, of which no fence is in doubt
pub held_again : (r : ReplicaState) (t fence : ℕ) → r.doubt ≡ [] → r.doubt_fences ≡ [] → fence ≡ max r.fence t → ((b : ℕ) → IsIn r.begun b → b ≤ t) → (x y : Files) → Gains (a_tenure t) x y → IsHeldBy r x
    → IsHeldBy (record r { standing = standing.Open; tenure = Some t; fence = fence; sure = r.sure ++ []; doubt = []; doubt_fences = []; begun = r.begun ++ t ∷ [] }) y
held_again r t fence no_doubt none fence_is none_higher x y gains h =
    let q : ReplicaState = record r { standing = standing.Open; tenure = Some t; fence = fence; sure = r.sure ++ []; doubt = []; doubt_fences = []; begun = r.begun ++ t ∷ [] } in
    let all = gains.held h.points h.tenure h.fence h.held in
    let was = only_fence r h.tenure h.fence none h.fence_is in
    let is : max h.fence t ≡ max (max h.tenure t) fence = omega (arith, was, fence_is) in
    let moves : MovesOn r q (a_tenure t) = record {
      kept = λ o either. ⊎_elim (λ (m : IsIn r.sure o). inl (IsIn-append_left r.sure [] o m)) (λ (m : IsIn r.doubt o). absurd (subst (λ (l : List Point). IsIn l o) no_doubt m)) either;
      gained = λ o m. absurd m;
      gone = λ o stays. stays;
    } in
    held_after r q (a_tenure t) moves x y h all.points (max h.tenure t) (max h.fence t) all.held all.grows (λ o m. ⊎_elim (λ (old : IsIn r.sure o). inl old) (λ (new : ⊥). absurd new) (IsIn-append_cases r.sure [] o m))
    (All-from_each (λ b. b ≤ max h.tenure t) (r.begun ++ t ∷ []) (λ b m.
    ⊎_elim (λ (old : IsIn r.begun b). let le = none_higher b old in omega (arith, le)) (λ (new : (t ≡ b) ⊎ ⊥). ⊎_elim (λ (same : t ≡ b). omega (arith, same)) (λ (none : ⊥). absurd none) new) (IsIn-append_cases r.begun (t ∷ []) b m)))
    (⊎_elim (λ (lt : h.tenure < t). let up : t ≡ max h.tenure t = omega (arith, lt) in inl (subst (IsIn (r.begun ++ t ∷ [])) up (IsIn-push r.begun t)))
    (λ (ge : t ≤ h.tenure).
    let up : h.tenure ≡ max h.tenure t = omega (arith, ge) in
    subst (MayHaveTenure q) up (⊎_elim (λ (begun : IsIn r.begun h.tenure). inl (IsIn-append_left r.begun (t ∷ []) h.tenure begun)) (λ (was : IsIn r.tried h.tenure × IsIn r.doubt_fences h.tenure). absurd (subst (λ (l : List ℕ). IsIn l h.tenure) none was.1)) h.known)) (cases_lt h.tenure t))
    (inl is)

-- ---- what the core says of a Began

-- the points of files that the replica may begin with
module _ (r : ReplicaState) (points : List Point) (tenure_found fence_found : ℕ) (files : Files) (held : HeldOnce points tenure_found fence_found files) (h : IsHeldBy r files) where
  -- what the replica may begin with is what was loaded
  same_points : HaveSamePoints points h.points
  same_points p =
      let same = (files_hold_one h.points held.all h.tenure tenure_found h.fence fence_found files h.held held.held).0 in
      (λ m. subst (λ (l : List Point). IsIn l p) (sym same) ((held.once.same p).0 m), λ m. (held.once.same p).1 (subst (λ (l : List Point). IsIn l p) same m))

  pub loaded_covers : (p : Point) → IsIn r.sure p → ¬ IsGone r p → Covers points p
  loaded_covers p m stays =
      let there = each-from_All (λ p. ¬ IsGone r p → Covers h.points p) r.sure h.all_there p m stays in
      record { value = there.value; at_least = there.at_least; stands = (same_points (record p { v = there.value })).1 there.stands }

  pub loaded : (t fence : ℕ) → tenure_found ≤ t → fence ≡ max fence_found t → IsLoaded r t fence points
  loaded t fence low fence_is =
      let same = files_hold_one h.points held.all h.tenure tenure_found h.fence fence_found files h.held held.held in
      let same_t = same.1 in
      let same_f = same.2 in
      record {
        source = All-from_each (λ p. IsIn r.sure p ⊎ IsIn r.doubt p) points (λ p m. each-from_All (λ p. IsIn r.sure p ⊎ IsIn r.doubt p) h.points h.source p ((same_points p).0 m));
        all_there = All-from_each (λ p. ¬ IsGone r p → Covers points p) r.sure loaded_covers;
        fence_is =
            ⊎_elim (λ (is : h.fence ≡ max h.tenure r.fence). let up : fence ≡ max t r.fence = omega (arith, is, same_t, same_f, low, fence_is) in inl (up ∙ sym (greater_is_max t r.fence)))
            (λ (any : Any (λ doubtful. h.fence ≡ max doubtful (max h.tenure r.fence)) r.doubt_fences).
            let d = IsIn-from_Any (λ doubtful. h.fence ≡ max doubtful (max h.tenure r.fence)) r.doubt_fences any in
            let is = d.2 in
            let up : fence ≡ max d.0 (max t r.fence) = omega (arith, is, same_t, same_f, low, fence_is) in
            inr (Any-from_IsIn (λ doubtful. fence ≡ greater doubtful (greater t r.fence)) r.doubt_fences d.0 d.1 (up ∙ sym (ap (max d.0) (greater_is_max t r.fence)) ∙ sym (greater_is_max d.0 (greater t r.fence)))))
            h.fence_is;
      }
