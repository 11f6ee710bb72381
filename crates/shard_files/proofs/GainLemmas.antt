-- What calls bring to files, one after another.
use Rattle.std.proofs.Common.{◌≡◌, inl, inr, ⊎_elim, ℕ, max, List, ℤ, ◌≤ℤ◌, refl, subst, arith}
use Rattle.std.specs.Int.Signed.{≤ℤ_refl, <ℤ-≤ℤ_trans, <ℤ_irrefl}
use Rattle.std.proofs.lemmas.Int.{by_lt_z}
use Rattle.commit_log.specs.m3_model.Members.{IsIn}
use Rattle.commit_log.specs.m3_model.Reads.{Covers}
use Rattle.commit_log.specs.m3_model.declared.point.Point.{Point}
use Rattle.commit_log.specs.m3_outside.Files.{Files}
use Rattle.commit_log.specs.m3_outside.DiskState.{DiskState, StepOf, IsLawfulDisk}
use Rattle.shard_files.specs.FilesHold.{FilesHold}
use Rattle.shard_files.specs.Gains.{Gain, nothing, Grows, HoldsPart, Gains, MayGain}
use Rattle.shard_files.specs.HeldLaws.{StopLeavesPart, WasGrown}

pub ≤ℤ_trans : {a b c : ℤ} → a ≤ℤ b → b ≤ℤ c → a ≤ℤ c
≤ℤ_trans {a} {b} {c} h k = by_lt_z c a (λ lt. absurd (<ℤ_irrefl (<ℤ-≤ℤ_trans (<ℤ-≤ℤ_trans lt h) k))) (λ le. le)

pub covers_itself : (ps : List Point) (p : Point) → IsIn ps p → Covers ps p
covers_itself ps p m = record { value = p.v; at_least = ≤ℤ_refl p.v; stands = m }

pub covers_then : (ps qs : List Point) (p : Point) → Covers ps p → ((q : Point) → IsIn ps q → Covers qs q) → Covers qs p
covers_then ps qs p c there = let d = there (record p { v = c.value }) c.stands in record { value = d.value; at_least = ≤ℤ_trans c.at_least d.at_least; stands = d.stands }

-- a list grows by what is a part of it
pub grows_itself : (ps : List Point) (gain : Gain) → Grows ps gain ps
grows_itself ps gain = record { nothing_else = λ p m. inl m; stays = λ p m. m }

-- first by nothing, and then by a gain
grows_then : (ps qs rs : List Point) (gain : Gain) → Grows ps nothing qs → Grows qs gain rs → Grows ps gain rs
grows_then ps qs rs gain one two = record {
  nothing_else = λ p m. ⊎_elim (λ (q : IsIn qs p). ⊎_elim (λ (r : IsIn ps p). inl r) (λ (none : ⊥). absurd none) (one.nothing_else p q)) (λ (g : IsIn gain.points p). inr g) (two.nothing_else p m);
  stays = λ p m. two.stays p (one.stays p m);
}

module _ (gain : Gain) (x y : Files) where
  pub all_is_part : Gains gain x y → MayGain gain x y
  all_is_part gains = record {
    held = λ before tenure fence held.
        let all = gains.held before tenure fence held in
        record { points = all.points; tenure_now = max tenure gain.tenure; fence_now = max fence gain.fence; held = all.held; grows = all.grows; numbers = inr (refl, refl) };
    snapshots = gains.snapshots;
  }

  pub nothing_is_part : Gains nothing x y → MayGain gain x y
  nothing_is_part gains = record {
    held = λ before tenure fence held.
        let all = gains.held before tenure fence held in
        record {
          points = all.points;
          tenure_now = max tenure 0;
          fence_now = max fence 0;
          held = all.held;
          grows = record { nothing_else = λ p m. ⊎_elim (λ (q : IsIn before p). inl q) (λ (none : ⊥). absurd none) (all.grows.nothing_else p m); stays = all.grows.stays };
          numbers = inl (omega arith, omega arith);
        };
    snapshots = gains.snapshots;
  }

  pub nothing_then_all : (z : Files) → Gains nothing x y → Gains gain y z → Gains gain x z
  nothing_then_all z one two = record {
    held = λ before tenure fence held.
        let first = one.held before tenure fence held in
        let last = two.held first.points (max tenure 0) (max fence 0) first.held in
        let t : max (max tenure 0) gain.tenure ≡ max tenure gain.tenure = omega arith in
        let f : max (max fence 0) gain.fence ≡ max fence gain.fence = omega arith in
        record {
          points = last.points;
          held = subst (λ (n : ℕ). FilesHold last.points n (max fence gain.fence) z) t (subst (λ (n : ℕ). FilesHold last.points (max (max tenure 0) gain.tenure) n z) f last.held);
          grows = grows_then before first.points last.points gain first.grows last.grows;
          comes = last.comes;
        };
    snapshots = λ all. two.snapshots (one.snapshots all);
  }

  pub nothing_then_part : (z : Files) → Gains nothing x y → MayGain gain y z → MayGain gain x z
  nothing_then_part z one two = record {
    held = λ before tenure fence held.
        let first = one.held before tenure fence held in
        let last = two.held first.points (max tenure 0) (max fence 0) first.held in
        record {
          points = last.points;
          tenure_now = last.tenure_now;
          fence_now = last.fence_now;
          held = last.held;
          grows = grows_then before first.points last.points gain first.grows last.grows;
          numbers = ⊎_elim (λ (same : (last.tenure_now ≡ max tenure 0) × (last.fence_now ≡ max fence 0)). let t = same.0 in let f = same.1 in inl (omega (arith, t), omega (arith, f)))
              (λ (more : (last.tenure_now ≡ max (max tenure 0) gain.tenure) × (last.fence_now ≡ max (max fence 0) gain.fence)). let t = more.0 in let f = more.1 in inr (omega (arith, t), omega (arith, f))) last.numbers;
        };
    snapshots = λ all. two.snapshots (one.snapshots all);
  }

pub gains_nothing : (x : Files) → Gains nothing x x
gains_nothing x = record {
  held = λ before tenure fence held.
      let t : tenure ≡ max tenure 0 = omega arith in
      let f : fence ≡ max fence 0 = omega arith in
      record {
        points = before;
        held = subst (λ (n : ℕ). FilesHold before n (max fence 0) x) t (subst (λ (n : ℕ). FilesHold before tenure n x) f held);
        grows = grows_itself before nothing;
        comes = λ p m. absurd m;
      };
  snapshots = λ all. all;
}

part_of_itself : (gain : Gain) (before : List Point) (tenure fence : ℕ) (x : Files) → FilesHold before tenure fence x → HoldsPart before tenure fence gain x
part_of_itself gain before tenure fence x held = record { points = before; tenure_now = tenure; fence_now = fence; held = held; grows = grows_itself before gain; numbers = inl (refl, refl) }

module _ {D : Type 0} (state : D → DiskState) (lawful : (d : D) → IsLawfulDisk (state d)) where
  pub stop_leaves_part : StopLeavesPart state
  stop_leaves_part old new gain tells sound elapses c left =
      ⊎_elim (λ (was : (state old).since (state old).moment c).
      let image = (lawful old).only_now c was in
      let has = sound tells c image in
      let grown : WasGrown gain (state old).images c = record { before = c; was = image; points = has.points; tenure = has.tenure; fence = has.fence; held = has.held; left = part_of_itself gain has.points has.tenure has.fence c has.held } in
      grown)
      (λ (step : StepOf (MayGain gain) (state old).images c).
      let has = sound tells step.before step.was in
      let grown : WasGrown gain (state old).images c = record { before = step.before; was = step.was; points = has.points; tenure = has.tenure; fence = has.fence; held = has.held; left = step.stepped.held has.points has.tenure has.fence has.held } in
      grown)
      (elapses.nothing_else (state old).moment c (omega arith) left)
