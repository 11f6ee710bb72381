use Rattle.std.proofs.Common.{ap, ◌∙◌, rules}
use Rattle.sha2.specs.Sha256.{sha256}
use Rattle.fileset_check.specs.shard_files.Parts.{snapshot_data}
use Rattle.snapshot_files.proofs.CheckLemmas.{digest_told}
use Rattle.snapshot_files.proofs.check.check_digest.Goals as goal

pub returns-then-ne-clause-err : goal.returns-then-ne-clause-err
returns-then-ne-clause-err c = λ files is.
    digest_told files (snapshot_data c.args.number) c.data_name-file.result c.args.body.now c.args.kept c.digest-found.result is c.data_name-file.ensures (search rules) (c.digest-found.ensures ∙ ap sha256 c.bytes_in.ensures) (search rules)
