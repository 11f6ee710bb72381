use Rattle.std.proofs.Common.{◌≡◌, ℕ, List, [], ◌∷◌, length, sym, ap, subst, ◌∙◌, arith, rules, refl}
use Rattle.sha2.specs.Sha256.{sha256}
use Rattle.fileset_read.specs.wire_bytes.Volumes.{Digests, Checkpoint}
use Rattle.fileset_read.specs.shard_files.Damage.{AtForm, AtDigest, IsGate, BreaksForm, BreaksDigest}
use Rattle.fileset_read.proofs.shard_files_proofs.SegmentStops.{passed_on}
use Rattle.fileset_check.specs.PartFiles.{part_in, bytes_in, file_of}
use Rattle.fileset_check.specs.Told.{LookTells, FirstTells, Says, at_gates}
use Rattle.fileset_check.proofs.FirstLemmas.{first_here, first_there, says_as}
use Rattle.fileset_check.proofs.GateLemmas.{HasLength, length_stops}
use Rattle.fileset_check.proofs.DigestLemmas.{gate_none, kept_none, breaks_kept, breaks_form, kept_five}
use Rattle.fileset_check.proofs.digests.check_gates.Goals as goal

pub returns-in_err-kept-clause-err : goal.returns-in_err-kept-clause-err
returns-in_err-kept-clause-err c = λ files p.
    let of = c.args.of in
    passed_on c.from_residual.result c.in_err-kept.field-0.0 (Says (FirstTells at_gates of files)) c.from_residual.ensures.1
    (says_as (BreaksForm IsGate files (file_of 7 of)) (FirstTells at_gates of files) c.in_err-kept.field-0.0 (λ d f. first_here (LookTells of.ns of.block of.number files) (AtForm Checkpoint) (AtDigest Digests ∷ AtForm Digests ∷ []) d f) (c.in_err-kept.ensures.err files p))

pub returns-in_err-check_digest-clause-err : goal.returns-in_err-check_digest-clause-err
returns-in_err-check_digest-clause-err c = λ files p.
    let of = c.args.of in
    let parts = c.args.parts.now in
    let kept = c.in_ok-kept.kept in
    let gate = c.in_ok-kept.ensures.ok in
    let Finds = LookTells of.ns of.block of.number files in
    passed_on c.from_residual-in_err-check_digest.result c.in_err-check_digest.field-0.0 (Says (FirstTells at_gates of files)) c.from_residual-in_err-check_digest.ensures.1
    (says_as (BreaksDigest kept files (file_of 6 of)) (FirstTells at_gates of files) c.in_err-check_digest.field-0.0
    (λ d f. first_there Finds (AtForm Checkpoint) (AtDigest Digests ∷ AtForm Digests ∷ []) d (gate_none of files parts p kept c.in_ok-kept.ensures.long gate) (first_here Finds (AtDigest Digests) (AtForm Digests ∷ []) d (breaks_kept of files parts p kept d gate f))) (c.in_err-check_digest.ensures.err files p))

pub returns-then-long-ne-FIVE_DIGESTS-clause-err : goal.returns-then-long-ne-FIVE_DIGESTS-clause-err
returns-then-long-ne-FIVE_DIGESTS-clause-err c = λ files p.
    let of = c.args.of in
    let parts = c.args.parts.now in
    let kept = c.in_ok-kept.kept in
    let gate = c.in_ok-kept.ensures.ok in
    let Finds = LookTells of.ns of.block of.number files in
    first_there Finds (AtForm Checkpoint) (AtDigest Digests ∷ AtForm Digests ∷ []) _ (gate_none of files parts p kept c.in_ok-kept.ensures.long gate)
    (first_there Finds (AtDigest Digests) (AtForm Digests ∷ []) _ (kept_none of files parts p kept gate c.in_ok-check_digest.ensures.ok)
    (first_here Finds (AtForm Digests) [] _ (breaks_form of files parts p (HasLength 160) 6 (bytes_in parts 6) c.file_of.result c.min.result (omega arith) (omega arith) refl c.file_of.ensures (length_stops 160 c.min.result (bytes_in parts 6) (search rules) (search rules)))))

pub returns-clause-ok : goal.returns-clause-ok
returns-clause-ok c = kept_five c.args.parts.now c.in_ok-kept.kept c.in_ok-kept.ensures.ok c.in_ok-check_digest.ensures.ok (search rules)
