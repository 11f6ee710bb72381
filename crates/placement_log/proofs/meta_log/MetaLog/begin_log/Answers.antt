use Rattle.std.proofs.Common.{ℕ, ◌+◌, ◌≤◌, ap, subst, ◌∙◌, arith}
use Rattle.m3_model.specs.declared.limits.TheConstants.{NUMBER_END}
use Rattle.m3_outside.specs.DiskState.{Elapses}
use Rattle.commit_log.specs.LogEnd.{MayBeginSegment, BeganOrNot}
use Rattle.placement_log.specs.MetaHolds.{MetaEnd}
use Rattle.placement_log.proofs.DiskLemmas.{keeps_none}
use Rattle.placement_log.proofs.CallLemmas.{begin_moment, failed_stands}
use Rattle.placement_log.proofs.meta_log.MetaLog.begin_log.Goals as goal

pub returns-then-self-ge-NUMBER_END-clause-any_moment : goal.returns-then-self-ge-NUMBER_END-clause-any_moment
returns-then-self-ge-NUMBER_END-clause-any_moment g c = λ t. keeps_none (g.D.Disk.state c.args.disk.now)

pub returns-in-Ok-clause-any_moment : goal.returns-in-Ok-clause-any_moment
returns-in-Ok-clause-any_moment g c = λ t.
    begin_moment c.args.self.now (g.D.Disk.state c.args.disk.now) (g.D.Disk.state c.begin.new.disk) (g.met.D.Disk.lawful c.args.disk.now) c.requires.none c.requires.stands t
    (subst (λ (n : ℕ). Elapses (MayBeginSegment n) (g.D.Disk.state c.args.disk.now) (g.D.Disk.state c.begin.new.disk)) (ap (λ (v : MetaEnd). v.next) c.self.view_is) (c.begin.ensures.any_moment t))

pub returns-in-Err-Memory-clause-any_moment : goal.returns-in-Err-Memory-clause-any_moment
returns-in-Err-Memory-clause-any_moment g c = λ t.
    begin_moment c.args.self.now (g.D.Disk.state c.args.disk.now) (g.D.Disk.state c.begin.new.disk) (g.met.D.Disk.lawful c.args.disk.now) c.requires.none c.requires.stands t
    (subst (λ (n : ℕ). Elapses (MayBeginSegment n) (g.D.Disk.state c.args.disk.now) (g.D.Disk.state c.begin.new.disk)) (ap (λ (v : MetaEnd). v.next) c.self.view_is) (c.begin.ensures.any_moment t))

pub returns-in-Err-Failed-clause-any_moment : goal.returns-in-Err-Failed-clause-any_moment
returns-in-Err-Failed-clause-any_moment g c = λ t.
    begin_moment c.args.self.now (g.D.Disk.state c.args.disk.now) (g.D.Disk.state c.begin.new.disk) (g.met.D.Disk.lawful c.args.disk.now) c.requires.none c.requires.stands t
    (subst (λ (n : ℕ). Elapses (MayBeginSegment n) (g.D.Disk.state c.args.disk.now) (g.D.Disk.state c.begin.new.disk)) (ap (λ (v : MetaEnd). v.next) c.self.view_is) (c.begin.ensures.any_moment t))

pub returns-in-Err-Failed-clause-stands : goal.returns-in-Err-Failed-clause-stands
returns-in-Err-Failed-clause-stands g c =
    let few : c.self.inside.next + 1 ≤ NUMBER_END = omega (arith, c.if-self-ge-NUMBER_END.false) in
    failed_stands c.args.self.now _ (g.D.Disk.state c.args.disk.now) (g.D.Disk.state c.begin.new.disk) c.requires.none (ap (λ (v : MetaEnd). v.log) c.self.view_is ∙ c.requires.none)
    (ap (λ (v : MetaEnd). v.next + 1) c.self.view_is) few c.requires.stands c.begin.ensures.tells
    (λ t. subst (λ (n : ℕ). BeganOrNot n (g.D.Disk.state c.args.disk.now) (g.D.Disk.state c.begin.new.disk)) (ap (λ (v : MetaEnd). v.next) c.self.view_is) (c.begin.ensures.files t))
