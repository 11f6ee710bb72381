-- Tenure and fence of files that a replica may begin with.
use Rattle.std.proofs.Common.{◌≡◌, inl, inr, ⊎_elim, ℕ, ◌≤◌, max, sym, subst, arith, Bool, true, false, refl, Any}
use Rattle.std.specs.Prelude.{◌⊎◌, nat_le}
use Rattle.std.proofs.lemmas.Bool.{leb-true, leb-false}
use Rattle.m3_model.specs.Members.{IsIn}
use Rattle.m3_outside.specs.DiskState.{DiskState}
use Rattle.placement_core.proofs.ListLemmas.{each-from_All, IsIn-from_Any}
use Rattle.cluster_core.specs.declared.replica_state.ReplicaState.{ReplicaState}
use Rattle.replica_machine.specs.MachineLaws.{MayHaveOwnFence, NumbersAreKnown}

-- a number that is in doubt, or not above the replica's fence, leaves of the two the replica's fence or one in doubt
own_or_doubtful : (r : ReplicaState) (n f : ℕ) → IsIn r.doubt_fences n ⊎ (n ≤ r.fence) → MayHaveOwnFence r f → MayHaveOwnFence r (max n f)
own_or_doubtful r n f (inr low) (inl own) = inl (omega (arith, low, own))
own_or_doubtful r n f (inr low) (inr (m, high)) = let same : f ≡ max n f = omega (arith, low, high) in inr (subst (IsIn r.doubt_fences) same m, omega (arith, high))
own_or_doubtful r n f (inl doubt) known = by (nat_le f n) refl
  where
    by : (b : Bool) → nat_le f n ≡ b → MayHaveOwnFence r (max n f)
    by true e =
        let le = leb-true f n e in
        let same : n ≡ max n f = omega (arith, le) in
        let low : r.fence ≤ n = ⊎_elim (λ (own : f ≡ r.fence). omega (arith, le, own)) (λ (m : IsIn r.doubt_fences f × (r.fence ≤ f)). let h = m.1 in omega (arith, le, h)) known in
        inr (subst (IsIn r.doubt_fences) same doubt, omega (arith, same, low))
    by false e = let lt = leb-false f n e in let same : f ≡ max n f = omega (arith, lt) in subst (MayHaveOwnFence r) same known

pub numbers_are_known : {D : Type 0} (state : D → DiskState) → NumbersAreKnown state
numbers_are_known state first r m is some tells c image =
    let h = is.files some tells c image in
    let tenure : IsIn r.doubt_fences h.tenure ⊎ (h.tenure ≤ r.fence) =
    ⊎_elim (λ (begun : IsIn r.begun h.tenure). inr (each-from_All (λ b. b ≤ r.fence) r.begun is.below h.tenure begun)) (λ (doubt : IsIn r.tried h.tenure × IsIn r.doubt_fences h.tenure). inl doubt.1) h.known in
    let first = own_or_doubtful r h.tenure r.fence tenure (inl refl) in
    record {
      points = h.points;
      tenure = h.tenure;
      fence = h.fence;
      held = h.held;
      tenure_known = h.known;
      none_higher = h.none_higher;
      fence_known =
          ⊎_elim (λ (own : h.fence ≡ max h.tenure r.fence). subst (MayHaveOwnFence r) (sym own) first)
          (λ (any : Any (λ doubtful. h.fence ≡ max doubtful (max h.tenure r.fence)) r.doubt_fences).
          let d = IsIn-from_Any (λ doubtful. h.fence ≡ max doubtful (max h.tenure r.fence)) r.doubt_fences any in
          subst (MayHaveOwnFence r) (sym d.2) (own_or_doubtful r d.0 (max h.tenure r.fence) (inl d.1) first)) h.fence_is;
    }
