use Rattle.volume_steps.proofs.DiskLemmas.{write_moment, wrote_known, wrote_none, write_segments, write_stands}
use Rattle.volume_steps.proofs.writing.write_volume.Goals as goal

pub returns-clause-any_moment : goal.returns-clause-any_moment
returns-clause-any_moment g c kept memory known tenure fence each have from tells =
    write_moment (g.D.Disk.state c.args.disk.now) (g.D.Disk.state c.write.new.disk) (g.met.D.Disk.lawful c.args.disk.now) c.write.ensures.tells c.args.ns c.args.start c.args.size c.args.rows.now
    kept memory known tenure fence each have from tells (c.write.ensures.any_moment tells)

pub returns-clause-known : goal.returns-clause-known
returns-clause-known g c memory known tenure fence each =
    wrote_known (g.D.Disk.state c.args.disk.now) (g.D.Disk.state c.write.new.disk) (g.met.D.Disk.lawful c.args.disk.now) c.write.ensures.tells c.args.ns c.args.start c.args.size c.args.rows.now
    memory known tenure fence each c.write.result c.write.ensures.number c.write.ensures.acknowledged

pub returns-clause-memory : goal.returns-clause-memory
returns-clause-memory g c memory known tenure fence each wanted =
    wrote_none (g.D.Disk.state c.args.disk.now) (g.D.Disk.state c.write.new.disk) (g.met.D.Disk.lawful c.args.disk.now) c.write.ensures.tells c.args.ns c.args.start c.args.size c.args.rows.now
    memory known tenure fence each (λ tells. c.write.ensures.memory tells wanted)

pub returns-clause-segments : goal.returns-clause-segments
returns-clause-segments g c tells =
    write_segments (g.D.Disk.state c.args.disk.now) (g.D.Disk.state c.write.new.disk) (g.met.D.Disk.lawful c.args.disk.now) c.write.ensures.tells c.args.ns c.args.start c.args.size c.args.rows.now
    (c.write.ensures.files tells)

pub returns-clause-log_stands : goal.returns-clause-log_stands
returns-clause-log_stands g c log stands =
    write_stands (g.D.Disk.state c.args.disk.now) (g.D.Disk.state c.write.new.disk) (g.met.D.Disk.lawful c.args.disk.now) c.write.ensures.tells c.args.ns c.args.start c.args.size c.args.rows.now
    log c.write.ensures.files c.write.ensures.any_moment stands
