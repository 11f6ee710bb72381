use Rattle.volume_steps.proofs.DiskLemmas.{remove_moment, removed_all, remove_gone, remove_others, remove_segments, remove_stands}
use Rattle.volume_steps.proofs.removal.remove_volume.Goals as goal

pub returns-clause-any_moment : goal.returns-clause-any_moment
returns-clause-any_moment g c kept memory known tenure fence each have tells =
    remove_moment c.args.ns c.args.start c.args.number (g.D.Disk.state c.args.disk.now) (g.D.Disk.state c.remove.new.disk) (g.met.D.Disk.lawful c.args.disk.now) c.remove.ensures.tells
    kept memory known tenure fence each have tells (c.remove.ensures.any_moment tells)

pub returns-clause-known : goal.returns-clause-known
returns-clause-known g c memory known tenure fence each =
    removed_all c.args.ns c.args.start c.args.number (g.D.Disk.state c.args.disk.now) (g.D.Disk.state c.remove.new.disk) (g.met.D.Disk.lawful c.args.disk.now) c.remove.ensures.tells
    c.remove.result memory known tenure fence each c.remove.ensures.ok

pub returns-clause-gone : goal.returns-clause-gone
returns-clause-gone g c tells =
    remove_gone c.args.ns c.args.start c.args.number (g.D.Disk.state c.args.disk.now) (g.D.Disk.state c.remove.new.disk) (g.met.D.Disk.lawful c.args.disk.now) c.remove.ensures.tells
    c.remove.result (c.remove.ensures.ok tells)

pub returns-clause-others : goal.returns-clause-others
returns-clause-others g c tells =
    remove_others c.args.ns c.args.start c.args.number (g.D.Disk.state c.args.disk.now) (g.D.Disk.state c.remove.new.disk) (g.met.D.Disk.lawful c.args.disk.now) c.remove.ensures.tells
    (c.remove.ensures.files tells)

pub returns-clause-segments : goal.returns-clause-segments
returns-clause-segments g c tells =
    remove_segments c.args.ns c.args.start c.args.number (g.D.Disk.state c.args.disk.now) (g.D.Disk.state c.remove.new.disk) (g.met.D.Disk.lawful c.args.disk.now) c.remove.ensures.tells
    (c.remove.ensures.files tells)

pub returns-clause-log_stands : goal.returns-clause-log_stands
returns-clause-log_stands g c log stands =
    remove_stands c.args.ns c.args.start c.args.number (g.D.Disk.state c.args.disk.now) (g.D.Disk.state c.remove.new.disk) (g.met.D.Disk.lawful c.args.disk.now) c.remove.ensures.tells
    log c.remove.ensures.files c.remove.ensures.any_moment stands
