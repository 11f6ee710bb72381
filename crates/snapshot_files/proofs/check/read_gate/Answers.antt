use Rattle.std.proofs.Common.{arith}
use Rattle.fileset_check.specs.shard_files.Parts.{snapshot_checkpoint}
use Rattle.fileset_check.specs.shard_files.Damage.{IsGate}
use Rattle.fileset_check.proofs.DigestLemmas.{gate_there, gate_bytes}
use Rattle.snapshot_files.proofs.CheckLemmas.{breaks_form}
use Rattle.snapshot_files.proofs.check.read_gate.Goals as goal

pub digest_in-requires : goal.digest_in-requires
digest_in-requires c = let long = gate_bytes c.bytes_in-bytes.result.now c.in-None.ensures.none in omega (arith, long)

pub returns-in-None-clause-ok : goal.returns-in-None-clause-ok
returns-in-None-clause-ok c = gate_there c.args.gate.now c.bytes_in-bytes.result.now c.digest_in.result c.bytes_in-bytes.ensures c.in-None.ensures.none c.digest_in.ensures

pub returns-in-Some-clause-err : goal.returns-in-Some-clause-err
returns-in-Some-clause-err c = λ files is.
    breaks_form IsGate files (snapshot_checkpoint c.args.number) c.checkpoint_name.result c.args.gate.now c.bytes_in-bytes.result.now c.in-Some.at is c.bytes_in-bytes.ensures c.checkpoint_name.ensures c.in-Some.ensures.some
