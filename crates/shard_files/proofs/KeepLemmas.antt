-- Calls that rearrange, one after another, and what a stop within one leaves.
use Rattle.std.proofs.Common.{⊎_elim, arith}
use Rattle.commit_log.specs.m3_outside.DiskState.{DiskState, StepOf, IsLawfulDisk}
use Rattle.shard_files.specs.Keeps.{Keeps, KeepsThen, WasKept, StopKeeps}

pub keeps_then : KeepsThen
keeps_then kept x y z one two = record {
  held = λ before tenure fence held.
      let first = one.held before tenure fence held in
      let last = two.held first.points tenure fence first.held in
      record { points = last.points; held = last.held; sheds = record { nothing_else = λ p m. first.sheds.nothing_else p (last.sheds.nothing_else p m); whole = last.sheds.whole } };
  snapshots = λ all. two.snapshots (one.snapshots all);
}

module _ {D : Type 0} (state : D → DiskState) (lawful : (d : D) → IsLawfulDisk (state d)) where
  pub stop_keeps : StopKeeps state
  stop_keeps old new kept tells sound there elapses c left =
      ⊎_elim (λ (was : (state old).since (state old).moment c).
      let image = (lawful old).only_now c was in
      let has = sound tells c image in
      let kept_is : WasKept kept (state old).images c = record {
        before = c;
        was = image;
        points = has.points;
        tenure = has.tenure;
        fence = has.fence;
        held = has.held;
        left = record { points = has.points; held = has.held; sheds = record { nothing_else = λ p m. m; whole = λ p k. there tells c image p k has.points has.tenure has.fence has.held } };
      } in
      kept_is)
      (λ (step : StepOf (Keeps kept) (state old).images c).
      let has = sound tells step.before step.was in
      let kept_is : WasKept kept (state old).images c = record { before = step.before; was = step.was; points = has.points; tenure = has.tenure; fence = has.fence; held = has.held; left = step.stepped.held has.points has.tenure has.fence has.held } in
      kept_is)
      (elapses.nothing_else (state old).moment c (omega arith) left)
