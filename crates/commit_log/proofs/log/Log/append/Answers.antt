use Rattle.std.proofs.Common.{ℕ, ap, subst}
use Rattle.log_chunks.specs.m3_outside.Files.{Files}
use Rattle.log_chunks.specs.m3_outside.DiskState.{StepOf}
use Rattle.commit_log.specs.Segment.{segment, Adds}
use Rattle.commit_log.proofs.log.Log.append.Goals as goal

pub returns-clause-acknowledged : goal.returns-clause-acknowledged
returns-clause-acknowledged g c = λ t.
    subst (λ (n : ℕ). (f : Files) → (g.D.Disk.state c.put_chunk.new.disk).images f → StepOf (Adds (segment n) c.args.chunk.now) (g.D.Disk.state c.args.disk.now).images f)
    (ap (λ v. v.number) c.self.view_is) (c.in_ok-put_chunk.ensures.acknowledged t)
