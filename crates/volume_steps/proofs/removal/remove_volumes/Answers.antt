use Rattle.std.proofs.Common.{◌∙◌, List, ap, sym, subst, arith}
use Rattle.std.specs.FinMap.{get}
use Rattle.shard_files.specs.m3_outside.Files.{Files}
use Rattle.std.proofs.lemmas.List.{take_all}
use Rattle.m3_model.specs.Members.{IsIn}
use Rattle.volume_bytes.specs.declared.heads.Head.{Head}
use Rattle.shard_files.proofs.m3_outside_proofs.Moments.{becomes_stays, counts_then, counts_none}
use Rattle.shard_files.proofs.commit_log_proofs.Begin.{stands_stays}
use Rattle.volume_steps.proofs.RemovalLemmas.{reserved_moment, not_removing, next_moment, next_gone, next_known, next_others, all_removed}
use Rattle.volume_steps.proofs.removal.remove_volumes.Goals as goal

pub returns-in_err-reserve-clause-any_moment : goal.returns-in_err-reserve-clause-any_moment
returns-in_err-reserve-clause-any_moment g c kept memory known tenure fence each have tells =
    reserved_moment c.args.olds.now _ (g.D.Disk.state c.args.disk.now) (g.D.Disk.state c.reserve.new.self) c.reserve.ensures.leaves kept memory known tenure fence each have tells

pub returns-in_err-reserve-clause-memory : goal.returns-in_err-reserve-clause-memory
returns-in_err-reserve-clause-memory g c tells wanted = becomes_stays _ (g.D.Disk.state c.args.disk.now) (g.D.Disk.state c.reserve.new.self) c.reserve.ensures.leaves tells

pub returns-in_err-reserve-clause-log_stands : goal.returns-in_err-reserve-clause-log_stands
returns-in_err-reserve-clause-log_stands g c log stands = stands_stays log _ (g.D.Disk.state c.args.disk.now) (g.D.Disk.state c.reserve.new.self) c.reserve.ensures.leaves stands

pub loop-old-init : goal.loop-old-init
loop-old-init g c = not_removing c.args.olds.now _ (g.D.Disk.state c.args.disk.now) (g.D.Disk.state c.reserve.new.self) c.reserve.ensures.leaves (λ f. let is = c.in_ok-reserve.was in absurd (cc)) c.in_ok-reserve.ensures.enough

pub returns-in_err-remove_volume-clause-any_moment : goal.returns-in_err-remove_volume-clause-any_moment
returns-in_err-remove_volume-clause-any_moment g c kept memory known tenure fence each have tells =
    next_moment c.args.olds.now c.loop-old.old-index _ c.loop-old-test.true (g.D.Disk.state c.args.disk.now) (g.D.Disk.state c.loop-old.disk) (g.D.Disk.state c.remove_volume.new.disk) c.loop-old.invariant kept memory known tenure fence each have tells
    (λ ks held all told. c.remove_volume.ensures.any_moment kept memory ks tenure fence held all told)

pub returns-in_err-remove_volume-clause-log_stands : goal.returns-in_err-remove_volume-clause-log_stands
returns-in_err-remove_volume-clause-log_stands g c log stands = c.remove_volume.ensures.log_stands log (c.loop-old.invariant.stands log stands)

pub loop-old-preserved : goal.loop-old-preserved
loop-old-preserved g c = record {
  tells = c.remove_volume.ensures.tells ∙ c.loop-old.invariant.tells;
  faults = counts_then ⊥ _ _ _ c.loop-old.invariant.faults (counts_none _ _ _ (λ f. let is = c.in_ok-remove_volume.was in absurd (cc)) c.remove_volume.ensures.faults);
  room = omega (arith, c.loop-old.invariant.room, c.remove_volume.ensures.spare);
  segments = λ tells. c.remove_volume.ensures.segments (c.loop-old.invariant.tells ∙ tells) ∙ c.loop-old.invariant.segments tells;
  gone = λ tells.
      next_gone c.args.olds.now c.loop-old.old-index _ c.loop-old-test.true (g.D.Disk.state c.args.disk.now) (g.D.Disk.state c.loop-old.disk) (g.D.Disk.state c.remove_volume.new.disk) c.loop-old.invariant tells
      (c.in_ok-remove_volume.ensures.gone (c.loop-old.invariant.tells ∙ tells)) (c.remove_volume.ensures.others (c.loop-old.invariant.tells ∙ tells));
  others = λ tells. next_others c.args.olds.now c.loop-old.old-index _ c.loop-old-test.true (g.D.Disk.state c.args.disk.now) (g.D.Disk.state c.loop-old.disk) (g.D.Disk.state c.remove_volume.new.disk) c.loop-old.invariant (c.remove_volume.ensures.others (c.loop-old.invariant.tells ∙ tells)) tells;
  stands = λ log stands. c.remove_volume.ensures.log_stands log (c.loop-old.invariant.stands log stands);
  known = λ memory known tenure fence each.
      next_known c.args.olds.now c.loop-old.old-index _ c.loop-old-test.true (g.D.Disk.state c.args.disk.now) (g.D.Disk.state c.loop-old.disk) (g.D.Disk.state c.remove_volume.new.disk) c.loop-old.invariant memory known tenure fence each
      (λ ks held. c.in_ok-remove_volume.ensures.known memory ks tenure fence held);
  elapses = λ kept memory known tenure fence each have tells.
      next_moment c.args.olds.now c.loop-old.old-index _ c.loop-old-test.true (g.D.Disk.state c.args.disk.now) (g.D.Disk.state c.loop-old.disk) (g.D.Disk.state c.remove_volume.new.disk) c.loop-old.invariant kept memory known tenure fence each have tells
      (λ ks held all told. c.remove_volume.ensures.any_moment kept memory ks tenure fence held all told);
}

pub returns-clause-known : goal.returns-clause-known
returns-clause-known g c memory known tenure fence each = all_removed c.args.olds.now c.loop-old.old-index (g.D.Disk.state c.args.disk.now) (g.D.Disk.state c.loop-old.disk) (omega (arith, c.loop-old-test.false)) c.loop-old.invariant memory known tenure fence each

pub returns-clause-gone : goal.returns-clause-gone
returns-clause-gone g c tells h m = c.loop-old.invariant.gone tells h (subst (λ (l : List Head). IsIn l h) (sym (take_all c.loop-old.old-index c.args.olds.now (omega (arith, c.loop-old-test.false)))) m)

pub returns-in_err-reserve-clause-others : goal.returns-in_err-reserve-clause-others
returns-in_err-reserve-clause-others g c tells q apart = ap (λ (f : Files). get f q) (c.reserve.ensures.leaves.files tells)

pub returns-in_err-remove_volume-clause-others : goal.returns-in_err-remove_volume-clause-others
returns-in_err-remove_volume-clause-others g c tells = next_others c.args.olds.now c.loop-old.old-index _ c.loop-old-test.true (g.D.Disk.state c.args.disk.now) (g.D.Disk.state c.loop-old.disk) (g.D.Disk.state c.remove_volume.new.disk) c.loop-old.invariant (c.remove_volume.ensures.others (c.loop-old.invariant.tells ∙ tells)) tells
