use Rattle.snapshot_steps.proofs.StepLemmas.{cut_moment, cut_each, cut_segments}
use Rattle.snapshot_steps.proofs.cutting.cut_log.Goals as goal

pub returns-clause-any_moment : goal.returns-clause-any_moment
returns-clause-any_moment g c s kept memory known tenure fence each have tells =
    cut_moment c.args.number (g.D.Disk.state c.args.disk.now) (g.D.Disk.state c.cut_before.new.disk) (g.met.D.Disk.lawful c.args.disk.now) s kept memory known tenure fence each have tells (c.cut_before.ensures.any_moment tells)

pub returns-clause-saved : goal.returns-clause-saved
returns-clause-saved g c s memory known tenure fence each =
    cut_each c.args.number (g.D.Disk.state c.args.disk.now) (g.D.Disk.state c.cut_before.new.disk) (g.met.D.Disk.lawful c.args.disk.now) s memory known tenure fence c.cut_before.ensures.tells c.cut_before.ensures.any_moment each

pub returns-clause-segments : goal.returns-clause-segments
returns-clause-segments g c tells = cut_segments c.args.number (g.D.Disk.state c.args.disk.now) (g.D.Disk.state c.cut_before.new.disk) c.cut_before.result (c.cut_before.ensures.ok tells)
