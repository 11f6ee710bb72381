-- Files that a replica may begin with, a step on.
use Rattle.std.proofs.Common.{◌≡◌, ◌≤◌, inl, inr, ⊎_elim, ℕ, max, List, [], ◌∷◌, ◌++◌, refl, sym, subst, arith, All, Any, Bool, true, false, cond}
use Rattle.std.specs.Prelude.{◌⊎◌, nat_le}
use Rattle.std.proofs.lemmas.Bool.{leb-true, leb-false}
use Rattle.m3_model.specs.Members.{IsIn}
use Rattle.m3_model.specs.Reads.{Covers}
use Rattle.m3_model.specs.Rules.{HasExpired}
use Rattle.m3_model.specs.declared.point.Point.{Point}
use Rattle.m3_model.proofs.MemberLemmas.{IsIn-append_left, IsIn-append_cases, IsIn-push}
use Rattle.m3_outside.specs.Files.{Files}
use Rattle.placement_core.proofs.ListLemmas.{All-from_each, each-from_All, Any-from_IsIn, IsIn-from_Any}
use Rattle.shard_store.specs.shard_files.FilesHold.{FilesHold}
use Rattle.shard_store.specs.shard_files.Gains.{Gain, nothing, a_point, a_fence, Grows, Gains, MayGain}
use Rattle.shard_store.proofs.shard_files_proofs.GainLemmas.{covers_itself, covers_then}
use Rattle.cluster_core.specs.Replicas.{greater, IsGone}
use Rattle.cluster_core.specs.declared.replica_state.ReplicaState.{ReplicaState}
use Rattle.replica_machine.specs.Machines.{MayHaveTenure, IsHeldBy}

pub greater_is_max : (m n : ℕ) → greater m n ≡ max m n
greater_is_max m n = by (nat_le m n) refl
  where
    by : (b : Bool) → nat_le m n ≡ b → cond b n m ≡ max m n
    by true e = let le = leb-true m n e in omega (arith, le)
    by false e = let lt = leb-false m n e in omega (arith, lt)

-- the fence of files: the replica's, or one in doubt
abbrev pub MayHaveFence : ReplicaState → ℕ → ℕ → Type 0
MayHaveFence r tenure fence = (fence ≡ max tenure r.fence) ⊎ Any (λ doubtful. fence ≡ max doubtful (max tenure r.fence)) r.doubt_fences

-- what the one replica holds the other holds, and what comes to it
pub record MovesOn (r q : ReplicaState) (gain : Gain) : Type 0 where
  pub kept : (p : Point) → IsIn r.sure p ⊎ IsIn r.doubt p → IsIn q.sure p ⊎ IsIn q.doubt p
  pub gained : (p : Point) → IsIn gain.points p → IsIn q.sure p ⊎ IsIn q.doubt p
  pub gone : (p : Point) → ¬ IsGone q p → ¬ IsGone r p

module _ (r q : ReplicaState) (gain : Gain) (moves : MovesOn r q gain) (x y : Files) (h : IsHeldBy r x) where
  pub held_after : (points : List Point) (tenure fence : ℕ) → FilesHold points tenure fence y → Grows h.points gain points → ((p : Point) → IsIn q.sure p → IsIn r.sure p ⊎ Covers points p)
      → All (λ begun. begun ≤ tenure) q.begun → MayHaveTenure q tenure → MayHaveFence q tenure fence → IsHeldBy q y
  held_after points tenure fence held grows there none_higher known fence_is = record {
    points = points;
    tenure = tenure;
    fence = fence;
    held = held;
    source = All-from_each (λ p. IsIn q.sure p ⊎ IsIn q.doubt p) points (λ p m.
        ⊎_elim (λ (old : IsIn h.points p). moves.kept p (each-from_All (λ p. IsIn r.sure p ⊎ IsIn r.doubt p) h.points h.source p old)) (λ (new : IsIn gain.points p). moves.gained p new) (grows.nothing_else p m));
    all_there = All-from_each (λ p. ¬ IsGone q p → Covers points p) q.sure (λ p m stays.
        ⊎_elim (λ (old : IsIn r.sure p). covers_then h.points points p (each-from_All (λ p. ¬ IsGone r p → Covers h.points p) r.sure h.all_there p old (moves.gone p stays)) (λ q n. covers_itself points q (grows.stays q n))) (λ (new : Covers points p). new) (there p m));
    none_higher = none_higher;
    known = known;
    fence_is = fence_is;
  }

-- the tenures, the fence and those in doubt are the same
pub record HasNumbersOf (r q : ReplicaState) : Type 0 where
  pub begun : (t : ℕ) → All (λ begun. begun ≤ t) r.begun → All (λ begun. begun ≤ t) q.begun
  pub known : (t : ℕ) → MayHaveTenure r t → MayHaveTenure q t
  pub fence : (t f : ℕ) → MayHaveFence r t f → MayHaveFence q t f

-- files of which tenure and fence stay
module _ (r q : ReplicaState) (gain : Gain) (moves : MovesOn r q gain) (numbers : HasNumbersOf r q) (x y : Files) (h : IsHeldBy r x) where
  held_points : (points : List Point) (tenure fence : ℕ) → FilesHold points tenure fence y → tenure ≡ h.tenure → fence ≡ h.fence → Grows h.points gain points → ((p : Point) → IsIn q.sure p → IsIn r.sure p ⊎ Covers points p) → IsHeldBy q y
  held_points points tenure fence held t f grows there =
      held_after r q gain moves x y h points h.tenure h.fence (subst (λ (n : ℕ). FilesHold points n h.fence y) t (subst (λ (n : ℕ). FilesHold points tenure n y) f held)) grows there
      (numbers.begun h.tenure h.none_higher) (numbers.known h.tenure h.known) (numbers.fence h.tenure h.fence h.fence_is)

  pub held_all : gain.tenure ≡ 0 → gain.fence ≡ 0 → ((p : Point) → IsIn q.sure p → IsIn r.sure p ⊎ IsIn gain.points p) → Gains gain x y → IsHeldBy q y
  held_all no_tenure no_fence there gains =
      let all = gains.held h.points h.tenure h.fence h.held in
      held_points all.points (max h.tenure gain.tenure) (max h.fence gain.fence) all.held (omega (arith, no_tenure)) (omega (arith, no_fence)) all.grows
      (λ p m. ⊎_elim (λ (old : IsIn r.sure p). inl old) (λ (new : IsIn gain.points p). inr (all.comes p new)) (there p m))

  pub held_part : gain.tenure ≡ 0 → gain.fence ≡ 0 → ((p : Point) → IsIn q.sure p → IsIn r.sure p) → MayGain gain x y → IsHeldBy q y
  held_part no_tenure no_fence there may =
      let part = may.held h.points h.tenure h.fence h.held in
      let same : (part.tenure_now ≡ h.tenure) × (part.fence_now ≡ h.fence) =
      ⊎_elim (λ (same : (part.tenure_now ≡ h.tenure) × (part.fence_now ≡ h.fence)). same)
      (λ (more : (part.tenure_now ≡ max h.tenure gain.tenure) × (part.fence_now ≡ max h.fence gain.fence)). let t = more.0 in let f = more.1 in (omega (arith, t, no_tenure), omega (arith, f, no_fence))) part.numbers in
      held_points part.points part.tenure_now part.fence_now part.held same.0 same.1 part.grows (λ p m. inl (there p m))

-- ---- steps that bring nothing, or a point

-- the same but for how it stands
pub record StandsElse (r q : ReplicaState) : Type 0 where
  pub sure : q.sure ≡ r.sure
  pub moves : MovesOn r q nothing
  pub numbers : HasNumbersOf r q

pub held_nothing : (r q : ReplicaState) → StandsElse r q → (x y : Files) → Gains nothing x y → IsHeldBy r x → IsHeldBy q y
held_nothing r q else x y gains h = held_all r q nothing else.moves else.numbers x y h refl refl (λ p m. inl (subst (λ (l : List Point). IsIn l p) else.sure m)) gains

pub held_point : (r : ReplicaState) (p : Point) (x y : Files) → Gains (a_point p) x y → IsHeldBy r x → IsHeldBy (record r { sure = r.sure ++ p ∷ [] }) y
held_point r p x y gains h =
    let q : ReplicaState = record r { sure = r.sure ++ p ∷ [] } in
    held_all r q (a_point p)
    (record {
      kept = λ o either. ⊎_elim (λ (m : IsIn r.sure o). inl (IsIn-append_left r.sure (p ∷ []) o m)) (λ (m : IsIn r.doubt o). inr m) either;
      gained = λ o m. ⊎_elim (λ (same : p ≡ o). inl (subst (IsIn (r.sure ++ p ∷ [])) same (IsIn-push r.sure p))) (λ (none : ⊥). absurd none) m;
      gone = λ o stays. stays;
    })
    (record { begun = λ t all. all; known = λ t is. is; fence = λ t f is. is }) x y h refl refl (λ o m. IsIn-append_cases r.sure (p ∷ []) o m) gains

-- a point in doubt
pub held_doubt : (r q : ReplicaState) (p : Point) → q.sure ≡ r.sure → q.doubt ≡ r.doubt ++ p ∷ [] → q.ticks ≡ r.ticks → HasNumbersOf r q → (x y : Files) → MayGain (a_point p) x y → IsHeldBy r x → IsHeldBy q y
held_doubt r q p sure doubt ticks numbers x y may h =
    held_part r q (a_point p)
    (record {
      kept = λ o either. ⊎_elim (λ (m : IsIn r.sure o). inl (subst (λ (l : List Point). IsIn l o) (sym sure) m)) (λ (m : IsIn r.doubt o). inr (subst (λ (l : List Point). IsIn l o) (sym doubt) (IsIn-append_left r.doubt (p ∷ []) o m))) either;
      gained = λ o m. ⊎_elim (λ (same : p ≡ o). inr (subst (λ (l : List Point). IsIn l o) (sym doubt) (subst (IsIn (r.doubt ++ p ∷ [])) same (IsIn-push r.doubt p)))) (λ (none : ⊥). absurd none) m;
      gone = λ o stays gone. stays (subst (λ l. Any (λ rules. HasExpired rules o) l) (sym ticks) gone);
    })
    numbers x y h refl refl (λ o m. subst (λ (l : List Point). IsIn l o) sure m) may

-- ---- steps that bring a fence or a tenure

-- a fence of a replica of which none is in doubt
pub only_fence : (r : ReplicaState) (tenure fence : ℕ) → r.doubt_fences ≡ [] → MayHaveFence r tenure fence → fence ≡ max tenure r.fence
only_fence r tenure fence none (inl is) = is
only_fence r tenure fence none (inr any) = absurd ((IsIn-from_Any (λ doubtful. fence ≡ max doubtful (max tenure r.fence)) [] (subst (λ l. Any (λ doubtful. fence ≡ max doubtful (max tenure r.fence)) l) none any)).1)

pub held_fence : (r : ReplicaState) (version : ℕ) → r.doubt_fences ≡ [] → (x y : Files) → Gains (a_fence version) x y → IsHeldBy r x → IsHeldBy (record r { fence = greater r.fence version }) y
held_fence r version none x y gains h =
    let q : ReplicaState = record r { fence = greater r.fence version } in
    let all = gains.held h.points h.tenure h.fence h.held in
    let was = only_fence r h.tenure h.fence none h.fence_is in
    let same : max h.tenure 0 ≡ h.tenure = omega arith in
    let up = greater_is_max r.fence version in
    let is : max h.fence version ≡ max h.tenure (greater r.fence version) = omega (arith, was, up) in
    held_after r q (a_fence version) (record { kept = λ o m. m; gained = λ o m. absurd m; gone = λ o stays. stays }) x y h all.points h.tenure (max h.fence version) (subst (λ (n : ℕ). FilesHold all.points n (max h.fence version) y) same all.held) all.grows
    (λ o m. inl m) h.none_higher h.known (inl is)

pub held_fence_doubt : (r : ReplicaState) (version : ℕ) → r.doubt_fences ≡ [] → (q : ReplicaState) → q.sure ≡ r.sure → q.fence ≡ r.fence → q.doubt_fences ≡ r.doubt_fences ++ version ∷ [] → MovesOn r q nothing
    → ((t : ℕ) → All (λ begun. begun ≤ t) r.begun → All (λ begun. begun ≤ t) q.begun) → ((t : ℕ) → MayHaveTenure r t → MayHaveTenure q t)
    → (x y : Files) → MayGain (a_fence version) x y → IsHeldBy r x → IsHeldBy q y
held_fence_doubt r version none q sure fence doubts moves begun known x y may h =
    let part = may.held h.points h.tenure h.fence h.held in
    let was = only_fence r h.tenure h.fence none h.fence_is in
    let there : MovesOn r q (a_fence version) = record { kept = moves.kept; gained = λ o m. absurd m; gone = moves.gone } in
    let more : (part.tenure_now ≡ h.tenure) × ((part.fence_now ≡ max h.tenure q.fence) ⊎ (part.fence_now ≡ max version (max h.tenure q.fence))) =
    ⊎_elim (λ (same : (part.tenure_now ≡ h.tenure) × (part.fence_now ≡ h.fence)). let t = same.0 in let f = same.1 in let is : part.fence_now ≡ max h.tenure q.fence = omega (arith, f, was, fence) in (t, inl is))
    (λ (up : (part.tenure_now ≡ max h.tenure 0) × (part.fence_now ≡ max h.fence version)).
    let t = up.0 in
    let f = up.1 in
    let t_is : part.tenure_now ≡ h.tenure = omega (arith, t) in
    let is : part.fence_now ≡ max version (max h.tenure q.fence) = omega (arith, f, was, fence) in
    (t_is, inr is))
    part.numbers in
    held_after r q (a_fence version) there x y h part.points h.tenure part.fence_now (subst (λ (n : ℕ). FilesHold part.points n part.fence_now y) more.0 part.held) part.grows (λ o m. inl (subst (λ (l : List Point). IsIn l o) sure m))
    (begun h.tenure h.none_higher) (known h.tenure h.known)
    (⊎_elim (λ (is : part.fence_now ≡ max h.tenure q.fence). inl is)
    (λ (is : part.fence_now ≡ max version (max h.tenure q.fence)).
    inr (subst (λ l. Any (λ doubtful. part.fence_now ≡ max doubtful (max h.tenure q.fence)) l) (sym doubts) (Any-from_IsIn (λ doubtful. part.fence_now ≡ max doubtful (max h.tenure q.fence)) (r.doubt_fences ++ version ∷ []) version (IsIn-push r.doubt_fences version) is)))
    (more.1))
