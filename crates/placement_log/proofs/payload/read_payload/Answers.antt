use Rattle.std.proofs.Common.{◌≡◌, rules, refl, sym, ap, ◌∙◌, arith}
use Rattle.std.proofs.lemmas.List.{take_rest}
use Rattle.sha2.specs.Sha256.{sha256}
use Rattle.placement_log.specs.Damage.{Short}
use Rattle.placement_log.proofs.ReadLemmas.{short_none, digests_differ}
use Rattle.placement_log.proofs.payload.read_payload.Goals as goal

pub returns-then-chunk-lt-DIGEST_BYTES-clause-err : goal.returns-then-chunk-lt-DIGEST_BYTES-clause-err
returns-then-chunk-lt-DIGEST_BYTES-clause-err c = (short_none c.args.chunk.now c.if-chunk-lt-DIGEST_BYTES.true, Short c.if-chunk-lt-DIGEST_BYTES.true refl)

pub returns-then-ne-clause-err : goal.returns-then-ne-clause-err
returns-then-ne-clause-err c =
    digests_differ c.args.chunk.now c.kept_digest-kept.result c.digest-found.result (omega (arith, c.if-chunk-lt-DIGEST_BYTES.false)) c.kept_digest-kept.ensures (c.digest-found.ensures ∙ ap sha256 (take_rest c.args.chunk.now 32)) (search rules)

pub read_behind-requires-clause-digest : goal.read_behind-requires-clause-digest
read_behind-requires-clause-digest c =
    let same : c.kept_digest-kept.result ≡ c.digest-found.result = search rules in
    sym c.kept_digest-kept.ensures ∙ same ∙ c.digest-found.ensures ∙ ap sha256 (take_rest c.args.chunk.now 32)
