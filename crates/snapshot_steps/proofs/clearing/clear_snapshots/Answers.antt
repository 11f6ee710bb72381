use Rattle.snapshot_steps.proofs.StepLemmas.{clear_moment, clear_each, clear_alone, clear_segments, clear_stands}
use Rattle.snapshot_steps.proofs.clearing.clear_snapshots.Goals as goal

pub returns-clause-any_moment : goal.returns-clause-any_moment
returns-clause-any_moment g c s kept memory known tenure fence le each have tells =
    clear_moment c.args.number (g.D.Disk.state c.args.disk.now) (g.D.Disk.state c.clear_before.new.disk) (g.met.D.Disk.lawful c.args.disk.now) s kept memory known tenure fence le each have tells (c.clear_before.ensures.any_moment tells)

pub returns-clause-saved : goal.returns-clause-saved
returns-clause-saved g c s memory known tenure fence le each =
    clear_each c.args.number (g.D.Disk.state c.args.disk.now) (g.D.Disk.state c.clear_before.new.disk) (g.met.D.Disk.lawful c.args.disk.now) s memory known tenure fence le c.clear_before.ensures.tells c.clear_before.ensures.any_moment each

pub returns-clause-alone : goal.returns-clause-alone
returns-clause-alone g c s memory known tenure fence is each =
    clear_alone c.args.number (g.D.Disk.state c.args.disk.now) (g.D.Disk.state c.clear_before.new.disk) (g.met.D.Disk.lawful c.args.disk.now) s memory known tenure fence is c.clear_before.ensures.tells c.clear_before.result c.clear_before.ensures.ok each

pub returns-clause-segments : goal.returns-clause-segments
returns-clause-segments g c tells = clear_segments c.args.number (g.D.Disk.state c.args.disk.now) (g.D.Disk.state c.clear_before.new.disk) (g.met.D.Disk.lawful c.args.disk.now) (c.clear_before.ensures.files tells)

pub returns-clause-log_stands : goal.returns-clause-log_stands
returns-clause-log_stands g c log stands =
    clear_stands c.args.number (g.D.Disk.state c.args.disk.now) (g.D.Disk.state c.clear_before.new.disk) (g.met.D.Disk.lawful c.args.disk.now) log c.clear_before.ensures.tells c.clear_before.ensures.files c.clear_before.ensures.any_moment stands
