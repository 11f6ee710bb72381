use Rattle.fileset_write.proofs.FilesLemmas.{PutSoFar}
use Rattle.fileset_write.proofs.put_file.put_files.Given as goal

abbrev pub invariant-loop-file : goal.invariant-loop-file
invariant-loop-file g l = PutSoFar l.files l.file-index (g.D.Disk.state l.fn.disk) (g.D.Disk.state l.disk)
