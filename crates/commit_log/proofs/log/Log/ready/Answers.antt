use Rattle.std.proofs.Common.{◌+◌, ◌∙◌}
use Rattle.log_chunks.proofs.m3_outside_proofs.Moments.{becomes_both, becomes_stays}
use Rattle.commit_log.proofs.Begin.{stays_begun, stays_then_begun, stays_then_began}
use Rattle.commit_log.proofs.log.Log.ready.Goals as goal

pub returns-in_err-reserve-clause-unchanged : goal.returns-in_err-reserve-clause-unchanged
returns-in_err-reserve-clause-unchanged g c = λ t wants. becomes_stays _ (g.D.Disk.state c.args.disk.now) (g.D.Disk.state c.reserve.new.self) c.reserve.ensures.leaves t

pub returns-in_err-reserve-clause-any_moment : goal.returns-in_err-reserve-clause-any_moment
returns-in_err-reserve-clause-any_moment g c = λ t. stays_begun (c.args.self.now.number + 1) (g.D.Disk.state c.args.disk.now) (g.D.Disk.state c.reserve.new.self) (c.reserve.ensures.leaves.proceeds.told t)

pub returns-then-has_room-clause-any_moment : goal.returns-then-has_room-clause-any_moment
returns-then-has_room-clause-any_moment g c = λ t. stays_begun (c.args.self.now.number + 1) (g.D.Disk.state c.args.disk.now) (g.D.Disk.state c.reserve.new.self) (c.reserve.ensures.leaves.proceeds.told t)

pub returns-clause-unchanged : goal.returns-clause-unchanged
returns-clause-unchanged g c = λ t wants.
    becomes_both (λ files. files) (λ files. files) (λ files. files) (g.D.Disk.state c.args.disk.now) (g.D.Disk.state c.reserve.new.self) (g.D.Disk.state c.begin_next.new.disk) (λ x y e. e)
    (becomes_stays _ (g.D.Disk.state c.args.disk.now) (g.D.Disk.state c.reserve.new.self) c.reserve.ensures.leaves t) (c.begin_next.ensures.unchanged (c.reserve.ensures.leaves.proceeds.tells ∙ t) wants)

pub returns-clause-files : goal.returns-clause-files
returns-clause-files g c = λ t. stays_then_began (c.args.self.now.number + 1) _ (g.D.Disk.state c.args.disk.now) (g.D.Disk.state c.reserve.new.self) (g.D.Disk.state c.begin_next.new.disk) c.reserve.ensures.leaves t (c.begin_next.ensures.files (c.reserve.ensures.leaves.proceeds.tells ∙ t))

pub returns-clause-any_moment : goal.returns-clause-any_moment
returns-clause-any_moment g c = λ t. stays_then_begun (c.args.self.now.number + 1) (g.D.Disk.state c.args.disk.now) (g.D.Disk.state c.reserve.new.self) (g.D.Disk.state c.begin_next.new.disk) (c.reserve.ensures.leaves.proceeds.told t) (c.begin_next.ensures.any_moment (c.reserve.ensures.leaves.proceeds.tells ∙ t))
