use Rattle.std.proofs.Common.{◌≡◌, ℕ, List, sym, ap, subst, ◌∙◌, arith}
use Rattle.fileset_read.specs.shard_files.Damage.{IsGate}
use Rattle.fileset_check.specs.PartFiles.{part_in}
use Rattle.fileset_check.proofs.DigestLemmas.{gate_there, gate_bytes, breaks_form}
use Rattle.fileset_check.proofs.digests.read_gate.Goals as goal

pub digest_at-requires : goal.digest_at-requires
digest_at-requires c = let long = gate_bytes c.bytes_in-bytes.result.now c.in-None.ensures.none in omega (arith, long)

pub returns-in-None-clause-ok : goal.returns-in-None-clause-ok
returns-in-None-clause-ok c = gate_there (part_in c.args.parts.now 7) c.bytes_in-bytes.result.now c.digest_at.result c.bytes_in-bytes.ensures c.in-None.ensures.none c.digest_at.ensures

pub returns-in-Some-clause-err : goal.returns-in-Some-clause-err
returns-in-Some-clause-err c = λ files p. breaks_form c.args.of files c.args.parts.now p IsGate 7 c.bytes_in-bytes.result.now c.file_of.result c.in-Some.at (omega arith) (omega arith) c.bytes_in-bytes.ensures c.file_of.ensures c.in-Some.ensures.some
