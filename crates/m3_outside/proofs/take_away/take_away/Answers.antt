use Rattle.std.proofs.Common.{sym, ◌∙◌}
use Rattle.m3_outside.proofs.Removal.{not_going, stopped, take_failed, taken_so_far, gone_on, goes_on, present}
use Rattle.m3_outside.proofs.take_away.take_away.Goals as goal

pub loop-name-init : goal.loop-name-init
loop-name-init g c = not_going c.args.names.now (g.D.Disk.state c.args.disk.now) c.requires.present c.requires.room

pub remove-requires-clause-present : goal.remove-requires-clause-present
remove-requires-clause-present g c = λ t.
    present c.args.names.now c.loop-name.name-index _ c.loop-name-test.true (g.D.Disk.state c.args.disk.now) (g.D.Disk.state c.loop-name.disk) (g.D.Disk.state c.loop-name.disk) c.loop-name.invariant (sym c.loop-name.invariant.tells ∙ t)

pub returns-in_err-remove-clause-proceeds : goal.returns-in_err-remove-clause-proceeds
returns-in_err-remove-clause-proceeds g c =
    stopped c.args.names.now c.loop-name.name-index _ c.loop-name-test.true (g.D.Disk.state c.args.disk.now) (g.D.Disk.state c.loop-name.disk) (g.D.Disk.state c.remove.new.self) c.loop-name.invariant _ c.in_err-remove.field-0.0 c.in_err-remove.ensures

pub returns-in_err-remove-clause-files : goal.returns-in_err-remove-clause-files
returns-in_err-remove-clause-files g c = λ t.
    take_failed c.args.names.now c.loop-name.name-index _ c.loop-name-test.true (g.D.Disk.state c.args.disk.now) (g.D.Disk.state c.loop-name.disk) (g.D.Disk.state c.remove.new.self) c.loop-name.invariant c.in_err-remove.field-0.0 c.in_err-remove.ensures t

pub loop-name-preserved : goal.loop-name-preserved
loop-name-preserved g c =
    goes_on c.args.names.now c.loop-name.name-index _ c.loop-name-test.true (g.D.Disk.state c.args.disk.now) (g.D.Disk.state c.loop-name.disk) (g.D.Disk.state c.remove.new.self) c.loop-name.invariant c.in_ok-remove.field-0 c.in_ok-remove.ensures

pub returns-clause-files : goal.returns-clause-files
returns-clause-files g c = λ t. taken_so_far c.args.names.now c.loop-name.name-index (g.D.Disk.state c.args.disk.now) (g.D.Disk.state c.loop-name.disk) c.loop-name.invariant t

pub returns-clause-proceeds : goal.returns-clause-proceeds
returns-clause-proceeds g c = gone_on _ c.args.names.now c.loop-name.name-index (g.D.Disk.state c.args.disk.now) (g.D.Disk.state c.loop-name.disk) (λ f. absurd (cc)) c.loop-name.invariant
