-- What a machine's disk holds, and with what its replica first begins, by the disk over which the machine was made.
use Rattle.std.proofs.Common.{◌≡◌, inl, inr, ⊎_elim, ℕ, ◌≤◌, max, List, [], ◌∷◌, ◌++◌, refl, sym, subst, arith, Any}
use Rattle.std.specs.Prelude.{◌⊎◌, ◌≢◌}
use Rattle.m3_model.specs.Members.{IsIn}
use Rattle.m3_model.specs.declared.point.Point.{Point}
use Rattle.m3_model.proofs.MemberLemmas.{IsIn-append_left, IsIn-append_right, IsIn-push}
use Rattle.m3_outside.specs.Files.{Files}
use Rattle.m3_outside.specs.DiskState.{DiskState}
use Rattle.placement_core.proofs.ListLemmas.{Any-from_IsIn, IsIn-from_Any}
use Rattle.shard_store.specs.shard_files.Once.{HaveSamePoints}
use Rattle.shard_store.proofs.shard_files_proofs.FilesHoldLemmas.{files_hold_one}
use Rattle.cluster_core.specs.declared.replica_state.ReplicaState.{ReplicaState}
use Rattle.replica_machine.specs.Bases.{CameFrom}
use Rattle.replica_machine.specs.Machines.{MayHaveTenure}
use Rattle.replica_machine.specs.Openings.{AllSound, IsUpTo, HoldAsMade, StaysAsMade, FirstBeginIsAsMade, HasTenureUpTo, StaysSound, TenuresAreKnown}

-- a number raised to none, or to one of these
up_to : (base n : ℕ) (tried : List ℕ) → (n ≡ 0) ⊎ IsIn tried n → IsUpTo base tried (max base n)
up_to base n tried (inl none) = inl (omega (arith, none))
up_to base n tried (inr m) =
    ⊎_elim (λ (le : base ≤ n). let is : max base n ≤ n = omega (arith, le) in inr (Any-from_IsIn (λ t. max base n ≤ t) tried n m is)) (λ (ge : n ≤ base). let is : max base n ≤ base = omega (arith, ge) in inl is) (le_or base n)
  where
    le_or : (n t : ℕ) → (n ≤ t) ⊎ (t ≤ n)
    le_or n t = grind arith

up_more : (base : ℕ) (tried : List ℕ) (t n : ℕ) → IsUpTo base tried n → IsUpTo base (tried ++ t ∷ []) n
up_more base tried t n (inl low) = inl low
up_more base tried t n (inr any) = let d = IsIn-from_Any (λ t. n ≤ t) tried any in inr (Any-from_IsIn (λ t. n ≤ t) (tried ++ t ∷ []) d.0 (IsIn-append_left tried (t ∷ []) d.0 d.1) d.2)

up_max : (base : ℕ) (tried : List ℕ) (t n : ℕ) → IsUpTo base tried n → IsUpTo base (tried ++ t ∷ []) (max n t)
up_max base tried t n up =
    ⊎_elim (λ (le : n ≤ t). let is : max n t ≤ t = omega (arith, le) in inr (Any-from_IsIn (λ u. max n t ≤ u) (tried ++ t ∷ []) t (IsIn-push tried t) is))
    (λ (ge : t ≤ n). let is : n ≡ max n t = omega (arith, ge) in subst (IsUpTo base (tried ++ t ∷ [])) is (up_more base tried t n up)) (le_or n t)
  where
    le_or : (n t : ℕ) → (n ≤ t) ⊎ (t ≤ n)
    le_or n t = grind arith

-- what came from sound files holds as they did
pub came_as_made : (base : Files → Type 0) (tried : List ℕ) (c : Files) → AllSound base → CameFrom base tried c → HoldAsMade base tried c
came_as_made base tried c sound came =
    let s = sound came.before came.was in
    let has = came.stepped s.points s.tenure s.fence s.held in
    record {
      before = came.before;
      was = came.was;
      points_before = s.points;
      tenure_before = s.tenure;
      fence_before = s.fence;
      held_before = s.held;
      points = has.points;
      tenure = max s.tenure has.raised_to;
      fence = max s.fence has.raised_to;
      held = has.held;
      same = has.same;
      tenure_low = omega arith;
      tenure_up = up_to s.tenure has.raised_to tried has.one_of;
      fence_low = omega arith;
      fence_up = up_to s.fence has.raised_to tried has.one_of;
    }

module _ {D : Type 0} (state : D → DiskState) where
  pub stays_as_made : StaysAsMade state
  stays_as_made first r m sound is none tells c image = came_as_made (state first).images r.tried c sound (is.unbegun none tells c image)

  pub first_begin_is_as_made : FirstBeginIsAsMade state
  first_begin_is_as_made first r tenure fence points old new sound tells is none step =
      let opens = step.opens first r is tells none in
      let h = came_as_made (state first).images r.tried opens.files sound opens.came in
      let one = files_hold_one h.points opens.all h.tenure opens.tenure_found h.fence opens.fence_found opens.files h.held opens.held in
      let same = subst (λ (ps : List Point). HaveSamePoints ps h.points_before) one.0 h.same in
      let up : IsUpTo h.fence_before (r.tried ++ tenure ∷ []) (max opens.fence_found tenure) = up_max h.fence_before r.tried tenure opens.fence_found (subst (IsUpTo h.fence_before r.tried) one.2 h.fence_up) in
      record {
        before = h.before;
        was = h.was;
        points_before = h.points_before;
        tenure_before = h.tenure_before;
        fence_before = h.fence_before;
        held_before = h.held_before;
        once = record { ascending = opens.once.ascending; same = λ p. (λ m. (same p).0 ((opens.once.same p).0 m), λ m. (opens.once.same p).1 ((same p).1 m)) };
        fence_up = subst (IsUpTo h.fence_before (r.tried ++ tenure ∷ [])) (sym opens.fence_is) up;
      }

  empty_or : (xs : List ℕ) → (xs ≡ []) ⊎ (xs ≢ [])
  empty_or [] = inl refl
  empty_or (x ∷ xs) = inr (λ e. cc)

  among : (r : ReplicaState) (t : ℕ) → MayHaveTenure r t → IsIn (r.begun ++ r.tried) t
  among r t (inl begun) = IsIn-append_left r.begun r.tried t begun
  among r t (inr doubt) = IsIn-append_right r.begun r.tried t doubt.0

  pub tenures_are_known : TenuresAreKnown state
  tenures_are_known first r m sound is tells c image =
      ⊎_elim (λ (none : r.begun ≡ []).
      let h = stays_as_made first r m sound is none tells c image in
      let up : HasTenureUpTo (state first).images (r.begun ++ r.tried) c = record {
        points = h.points;
        tenure = h.tenure;
        fence = h.fence;
        held = h.held;
        up = ⊎_elim (λ (low : h.tenure ≤ h.tenure_before). inr (h.before, h.points_before, h.tenure_before, h.fence_before, h.was, h.held_before, low))
            (λ (any : Any (λ t. h.tenure ≤ t) r.tried).
            let d = IsIn-from_Any (λ t. h.tenure ≤ t) r.tried any in inl (Any-from_IsIn (λ t. h.tenure ≤ t) (r.begun ++ r.tried) d.0 (IsIn-append_right r.begun r.tried d.0 d.1) d.2)) h.tenure_up;
      } in
      up)
      (λ (some : r.begun ≢ []).
      let h = is.files some tells c image in
      let up : HasTenureUpTo (state first).images (r.begun ++ r.tried) c = record { points = h.points; tenure = h.tenure; fence = h.fence; held = h.held; up = inl (Any-from_IsIn (λ t. h.tenure ≤ t) (r.begun ++ r.tried) h.tenure (among r h.tenure h.known) (omega arith)) } in
      up)
      (empty_or r.begun)

  pub stays_sound : StaysSound state
  stays_sound first r m sound is tells c image =
      let known = tenures_are_known first r m (λ files base. let s = (sound files base) in record { points = s.points; tenure = s.tenure; fence = s.fence; held = s.whole.held }) is tells c image in
      record { points = known.points; tenure = known.tenure; fence = known.fence; whole = record { held = known.held; snapshots = is.snapshots (λ files base. (sound files base).whole.snapshots) tells c image } }
