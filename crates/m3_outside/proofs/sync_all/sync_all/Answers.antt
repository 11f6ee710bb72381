use Rattle.std.proofs.Common.{◌∙◌, arith}
use Rattle.m3_outside.proofs.SyncLemmas.{failed_as, none_synced, stays_then, sync_failed, synced_so_far, one_present, one_synced, all_synced}
use Rattle.m3_outside.proofs.sync_all.sync_all.Goals as goal

pub returns-in_err-reserve-clause-proceeds : goal.returns-in_err-reserve-clause-proceeds
returns-in_err-reserve-clause-proceeds g c =
    stays_then _ _ _ (g.D.Disk.state c.args.disk.now) (g.D.Disk.state c.list.new.self) (g.D.Disk.state c.reserve.new.self) (λ f. let is = c.in_ok-names.was in absurd (cc)) (failed_as _ _ c.from_residual-in_err-reserve.ensures.1) c.list.ensures.leaves.proceeds c.in_err-reserve.ensures.leaves.proceeds

pub loop-name-init : goal.loop-name-init
loop-name-init g c = none_synced c.as_slice-names.result.now (g.D.Disk.state c.args.disk.now) (g.D.Disk.state c.list.new.self) (g.D.Disk.state c.reserve.new.self) _ _ c.list.ensures.leaves c.reserve.ensures.leaves (λ f. let is = c.in_ok-names.was in absurd (cc)) (λ f. let is = c.in_ok-reserve.was in absurd (cc)) c.in_ok-reserve.ensures.enough

pub sync-requires-clause-present : goal.sync-requires-clause-present
sync-requires-clause-present g c = one_present c.as_slice-names.result.now c.loop-name.name-index _ c.loop-name-test.true (g.D.Disk.state c.args.disk.now) (g.D.Disk.state c.loop-name.disk) (g.D.Disk.state c.loop-name.disk) c.loop-name.invariant (λ tells. c.as_slice-names.ensures ∙ c.in_ok-names.ensures.names tells)

pub returns-in_err-sync-clause-proceeds : goal.returns-in_err-sync-clause-proceeds
returns-in_err-sync-clause-proceeds g c = sync_failed c.as_slice-names.result.now c.loop-name.name-index _ c.loop-name-test.true (g.D.Disk.state c.args.disk.now) (g.D.Disk.state c.loop-name.disk) (g.D.Disk.state c.sync.new.self) c.loop-name.invariant _ c.in_err-sync.field-0.0 c.in_err-sync.ensures

pub loop-name-preserved : goal.loop-name-preserved
loop-name-preserved g c = one_synced c.as_slice-names.result.now c.loop-name.name-index _ c.loop-name-test.true (g.D.Disk.state c.args.disk.now) (g.D.Disk.state c.loop-name.disk) (g.D.Disk.state c.sync.new.self) c.loop-name.invariant c.in_ok-sync.field-0 c.in_ok-sync.ensures

pub returns-clause-synced : goal.returns-clause-synced
returns-clause-synced g c = all_synced c.as_slice-names.result.now c.loop-name.name-index (g.D.Disk.state c.args.disk.now) (g.D.Disk.state c.loop-name.disk) (omega (arith, c.loop-name-test.false)) c.loop-name.invariant (λ tells. c.as_slice-names.ensures ∙ c.in_ok-names.ensures.names tells) (g.met.D.Disk.lawful c.loop-name.disk)

pub returns-clause-proceeds : goal.returns-clause-proceeds
returns-clause-proceeds g c = synced_so_far _ c.as_slice-names.result.now c.loop-name.name-index (g.D.Disk.state c.args.disk.now) (g.D.Disk.state c.loop-name.disk) (λ f. absurd (cc)) c.loop-name.invariant
