-- What stands in files over which a machine was made, a step on.
use Rattle.std.proofs.Common.{◌≡◌, ◌≤◌, inl, inr, ⊎_elim, ℕ, max, List, [], ◌∷◌, ◌++◌, refl, subst, arith}
use Rattle.std.specs.Prelude.{◌⊎◌}
use Rattle.m3_model.specs.Members.{IsIn}
use Rattle.m3_model.specs.declared.point.Point.{Point}
use Rattle.m3_model.proofs.MemberLemmas.{IsIn-append_left, IsIn-push}
use Rattle.m3_outside.specs.Files.{Files}
use Rattle.shard_store.specs.shard_files.FilesHold.{FilesHold}
use Rattle.shard_store.specs.shard_files.Once.{HaveSamePoints}
use Rattle.shard_store.specs.shard_files.Gains.{nothing, a_tenure, Grows, Gains, MayGain}
use Rattle.replica_machine.specs.Bases.{HoldsTried, MayHaveTried, CameFrom}

-- a list that grew by no points has the same
same_grown : (before points all : List Point) → HaveSamePoints before all → Grows before nothing points → HaveSamePoints points all
same_grown before points all same grows p = (λ m. (same p).0 (⊎_elim (λ (old : IsIn before p). old) (λ (none : ⊥). absurd none) (grows.nothing_else p m)), λ m. grows.stays p ((same p).1 m))

-- none, or one of these
abbrev pub IsTried : List ℕ → ℕ → Type 0
IsTried tried n = (n ≡ 0) ⊎ IsIn tried n

one_more : (tried : List ℕ) (t n : ℕ) → IsTried tried n → IsTried (tried ++ t ∷ []) n
one_more tried t n (inl none) = inl none
one_more tried t n (inr m) = inr (IsIn-append_left tried (t ∷ []) n m)

-- the greater of two
pub greater_of : (tried : List ℕ) (m n : ℕ) → IsTried tried m → IsTried tried n → IsTried tried (max m n)
greater_of tried m n one other =
    ⊎_elim (λ (le : m ≤ n). let is : n ≡ max m n = omega (arith, le) in subst (IsTried tried) is other) (λ (ge : n ≤ m). let is : m ≡ max m n = omega (arith, ge) in subst (IsTried tried) is one) (le_or m n)
  where
    le_or : (m n : ℕ) → (m ≤ n) ⊎ (n ≤ m)
    le_or m n = grind arith

greater_one : (tried : List ℕ) (t n : ℕ) → IsTried tried n → IsTried (tried ++ t ∷ []) (max n t)
greater_one tried t n one = greater_of (tried ++ t ∷ []) n t (one_more tried t n one) (inr (IsIn-push tried t))

pub held_at : (points : List Point) (t u f g : ℕ) (files : Files) → t ≡ u → f ≡ g → FilesHold points t f files → FilesHold points u g files
held_at points t u f g files same_t same_f held = subst (λ (n : ℕ). FilesHold points n g files) same_t (subst (λ (n : ℕ). FilesHold points t n files) same_f held)

pub came_itself : (base : Files → Type 0) (tried : List ℕ) (c : Files) → base c → CameFrom base tried c
came_itself base tried c is = record {
  before = c;
  was = is;
  stepped = λ before tenure fence held. record { points = before; raised_to = 0; one_of = inl refl; held = held_at before tenure (max tenure 0) fence (max fence 0) c (omega arith) (omega arith) held; same = λ p. (λ m. m, λ m. m) };
}

module _ (base : Files → Type 0) (tried : List ℕ) where
  pub came_nothing : (x y : Files) → Gains nothing x y → CameFrom base tried x → CameFrom base tried y
  came_nothing x y gains came = record {
    before = came.before;
    was = came.was;
    stepped = λ before tenure fence held.
        let has = came.stepped before tenure fence held in
        let all = gains.held has.points (max tenure has.raised_to) (max fence has.raised_to) has.held in
        record {
          points = all.points;
          raised_to = has.raised_to;
          one_of = has.one_of;
          held = held_at all.points (max (max tenure has.raised_to) 0) (max tenure has.raised_to) (max (max fence has.raised_to) 0) (max fence has.raised_to) y (omega arith) (omega arith) all.held;
          same = same_grown has.points all.points before has.same all.grows;
        };
  }

  pub came_tried : (t : ℕ) (x y : Files) → MayGain (a_tenure t) x y → CameFrom base tried x → CameFrom base (tried ++ t ∷ []) y
  came_tried t x y may came = record { before = came.before; was = came.was; stepped = part }
    where
      part : MayHaveTried (tried ++ t ∷ []) came.before y
      part before tenure fence held =
          let has = came.stepped before tenure fence held in
          let now = may.held has.points (max tenure has.raised_to) (max fence has.raised_to) has.held in
          let same : HaveSamePoints now.points before = same_grown has.points now.points before has.same (record { nothing_else = now.grows.nothing_else; stays = now.grows.stays }) in
          let is : HoldsTried before tenure fence (tried ++ t ∷ []) y =
          ⊎_elim (λ (same_numbers : (now.tenure_now ≡ max tenure has.raised_to) × (now.fence_now ≡ max fence has.raised_to)). record {
            points = now.points;
            raised_to = has.raised_to;
            one_of = one_more tried t has.raised_to has.one_of;
            held = held_at now.points now.tenure_now (max tenure has.raised_to) now.fence_now (max fence has.raised_to) y same_numbers.0 same_numbers.1 now.held;
            same = same;
          })
          (λ (more : (now.tenure_now ≡ max (max tenure has.raised_to) t) × (now.fence_now ≡ max (max fence has.raised_to) t)). record {
            points = now.points;
            raised_to = max has.raised_to t;
            one_of = greater_one tried t has.raised_to has.one_of;
            held = let up_t = more.0 in let up_f = more.1 in held_at now.points now.tenure_now (max tenure (max has.raised_to t)) now.fence_now (max fence (max has.raised_to t)) y (omega (arith, up_t)) (omega (arith, up_f)) now.held;
            same = same;
          })
          now.numbers in
          is
