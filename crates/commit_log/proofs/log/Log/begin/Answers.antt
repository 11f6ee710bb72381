use Rattle.std.proofs.Common.{inl}
use Rattle.log_chunks.proofs.m3_outside_proofs.Moments.{same_becomes}
use Rattle.commit_log.proofs.Begin.{begun_stands, elapses_none}
use Rattle.commit_log.proofs.log.Log.begin.Goals as goal

pub returns-then-number-ge-NUMBER_END-clause-files : goal.returns-then-number-ge-NUMBER_END-clause-files
returns-then-number-ge-NUMBER_END-clause-files g c = λ t. inl (same_becomes (g.D.Disk.state c.args.disk.now))

pub returns-then-number-ge-NUMBER_END-clause-any_moment : goal.returns-then-number-ge-NUMBER_END-clause-any_moment
returns-then-number-ge-NUMBER_END-clause-any_moment g c = λ t. elapses_none c.args.number (g.D.Disk.state c.args.disk.now)

pub returns-clause-stands : goal.returns-clause-stands
returns-clause-stands g c =
    begun_stands c.args.number c.segment_name.result c.segment_name.ensures (g.D.Disk.state c.args.disk.now) (g.D.Disk.state c.create.new.self) c.in_ok-create.field-0 c.in_ok-create.ensures c.requires
