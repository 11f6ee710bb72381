use Rattle.std.proofs.Common.{◌≡◌, ℕ, List, sym, ap, subst, ◌∙◌, arith, rules}
use Rattle.sha2.specs.Sha256.{sha256}
use Rattle.fileset_check.specs.PartFiles.{part_in, bytes_in}
use Rattle.fileset_check.proofs.DigestLemmas.{there, breaks_gone, breaks_digest}
use Rattle.fileset_check.proofs.digests.check_digest.Goals as goal

pub returns-then-not-is_there-clause-err : goal.returns-then-not-is_there-clause-err
returns-then-not-is_there-clause-err c = λ files p. breaks_gone c.args.of files c.args.parts.now p c.args.kept c.args.kind c.file_of-file.result c.requires.low c.requires.high c.file_of-file.ensures (search rules)

pub returns-then-ne-clause-err : goal.returns-then-ne-clause-err
returns-then-ne-clause-err c = λ files p.
    breaks_digest c.args.of files c.args.parts.now p c.args.kept c.digest-found.result c.args.kind c.file_of-file.result c.requires.low c.requires.high c.file_of-file.ensures (search rules) (c.digest-found.ensures ∙ ap sha256 c.bytes_in.ensures) (search rules)

pub returns-clause-ok : goal.returns-clause-ok
returns-clause-ok c = record {
  bytes = bytes_in c.args.parts.now c.args.kind;
  there = there (part_in c.args.parts.now c.args.kind) (search rules);
  is = search rules;
}
