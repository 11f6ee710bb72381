use Rattle.std.proofs.Common.{◌≡◌, ◌+◌, inl, sym, ap, subst, arith}
use Rattle.commit_log.specs.LogEnd.{LogEnd, LogEndStands}
use Rattle.log_chunks.proofs.m3_outside_proofs.Moments.{same_becomes}
use Rattle.commit_log.proofs.Begin.{begun_stands, failed_above, none_from_next, elapses_none}
use Rattle.commit_log.proofs.log.Log.begin_next.Goals as goal

pub returns-then-self-clause-any_moment : goal.returns-then-self-clause-any_moment
returns-then-self-clause-any_moment g c = λ t. elapses_none (c.args.self.now.number + 1) (g.D.Disk.state c.args.disk.now)

pub returns-then-self-clause-files : goal.returns-then-self-clause-files
returns-then-self-clause-files g c = λ t. inl (same_becomes (g.D.Disk.state c.args.disk.now))

pub returns-in-Err-Failed-clause-stands : goal.returns-in-Err-Failed-clause-stands
returns-in-Err-Failed-clause-stands g c =
    let number = c.self.inside.number + 1 in
    let next : number ≡ c.args.self.now.number + 1 = ap (λ (v : LogEnd). v.number + 1) c.self.view_is in
    subst (λ (l : LogEnd). LogEndStands l (g.D.Disk.state c.create.new.self)) (sym c.move_to-in-Err-Failed.ensures)
    (record {
      kept = λ clean. absurd (cc);
      above = failed_above number c.segment_name.result c.segment_name.ensures (g.D.Disk.state c.args.disk.now) (g.D.Disk.state c.create.new.self) c.in-Err-Failed.field-0 c.in-Err-Failed.ensures
          (λ t. none_from_next c.args.self.now.number number (g.D.Disk.state c.args.disk.now).files next (c.requires.above t));
      within = omega arith;
    })

pub returns-in-Ok-clause-stands : goal.returns-in-Ok-clause-stands
returns-in-Ok-clause-stands g c =
    let number = c.self.inside.number + 1 in
    let next : number ≡ c.args.self.now.number + 1 = ap (λ (v : LogEnd). v.number + 1) c.self.view_is in
    subst (λ (l : LogEnd). LogEndStands l (g.D.Disk.state c.create.new.self)) (sym c.move_to.ensures)
    (begun_stands number c.segment_name.result c.segment_name.ensures (g.D.Disk.state c.args.disk.now) (g.D.Disk.state c.create.new.self) c.in-Ok.field-0 c.in-Ok.ensures
    (λ t. none_from_next c.args.self.now.number number (g.D.Disk.state c.args.disk.now).files next (c.requires.above t)))
