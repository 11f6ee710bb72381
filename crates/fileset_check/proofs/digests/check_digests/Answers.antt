use Rattle.std.proofs.Common.{◌≡◌, ℕ, List, length, take, drop, sym, ap, subst, ◌∙◌, arith}
use Rattle.std.proofs.lemmas.Result.{on_ok_weaker}
use Rattle.fileset_read.specs.shard_files.Damage.{BreaksDigest}
use Rattle.fileset_read.proofs.shard_files_proofs.SegmentStops.{passed_on}
use Rattle.fileset_check.specs.PartFiles.{Keeps, AreSealed, part_in, file_of}
use Rattle.fileset_check.specs.Told.{LookTells, FirstTells, Says, at_gates, at_five, at_digests}
use Rattle.fileset_check.proofs.FirstLemmas.{first_front, says_as, err_as}
use Rattle.fileset_check.proofs.DigestLemmas.{five_in}
use Rattle.fileset_check.proofs.FiveLemmas.{one_broken, two_broken, three_broken, four_broken, five_broken}
use Rattle.fileset_check.proofs.digests.check_digests.Goals as goal

pub returns-in_err-check_gates-clause-err : goal.returns-in_err-check_gates-clause-err
returns-in_err-check_gates-clause-err c = λ files p.
    let of = c.args.of in
    passed_on c.from_residual.result c.in_err-check_gates.field-0.0 (Says (FirstTells at_digests of files)) c.from_residual.ensures.1
    (says_as (FirstTells at_gates of files) (FirstTells at_digests of files) c.in_err-check_gates.field-0.0 (λ d f. first_front (LookTells of.ns of.block of.number files) at_gates at_five d f) (c.in_err-check_gates.ensures.err files p))

pub returns-in_err-check_digest-clause-err : goal.returns-in_err-check_digest-clause-err
returns-in_err-check_digest-clause-err c = λ files p.
    let of = c.args.of in
    let parts = c.args.parts.now in
    let a = c.in_ok-check_gates.ensures.ok in
    let five : c.bytes_in-five.result.now ≡ a.five = c.bytes_in-five.ensures ∙ five_in parts a in
    passed_on c.from_residual-in_err-check_digest.result c.in_err-check_digest.field-0.0 (Says (FirstTells at_digests of files)) c.from_residual-in_err-check_digest.ensures.1
    (says_as (BreaksDigest c.digest_at.result files (file_of 1 of)) (FirstTells at_digests of files) c.in_err-check_digest.field-0.0
    (λ d b. one_broken of files parts p a d (subst (λ (l : List ℕ). BreaksDigest l files (file_of 1 of) d) (c.digest_at.ensures ∙ ap (λ (l : List ℕ). take 32 l) five) b)) (c.in_err-check_digest.ensures.err files p))

pub returns-in_err-check_digest-2-clause-err : goal.returns-in_err-check_digest-2-clause-err
returns-in_err-check_digest-2-clause-err c = λ files p.
    let of = c.args.of in
    let parts = c.args.parts.now in
    let a = c.in_ok-check_gates.ensures.ok in
    let five : c.bytes_in-five.result.now ≡ a.five = c.bytes_in-five.ensures ∙ five_in parts a in
    let k1 : Keeps (take 32 a.five) (part_in parts 1) = subst (λ (l : List ℕ). Keeps l (part_in parts 1)) (c.digest_at.ensures ∙ ap (λ (l : List ℕ). take 32 l) five) c.in_ok-check_digest.ensures.ok in
    passed_on c.from_residual-in_err-check_digest-2.result c.in_err-check_digest-2.field-0.0 (Says (FirstTells at_digests of files)) c.from_residual-in_err-check_digest-2.ensures.1
    (says_as (BreaksDigest c.digest_at-2.result files (file_of 2 of)) (FirstTells at_digests of files) c.in_err-check_digest-2.field-0.0
    (λ d b. two_broken of files parts p a d k1 (subst (λ (l : List ℕ). BreaksDigest l files (file_of 2 of) d) (c.digest_at-2.ensures ∙ ap (λ (l : List ℕ). take 32 (drop 32 l)) five) b)) (c.in_err-check_digest-2.ensures.err files p))

pub returns-in_err-check_digest-3-clause-err : goal.returns-in_err-check_digest-3-clause-err
returns-in_err-check_digest-3-clause-err c = λ files p.
    let of = c.args.of in
    let parts = c.args.parts.now in
    let a = c.in_ok-check_gates.ensures.ok in
    let five : c.bytes_in-five.result.now ≡ a.five = c.bytes_in-five.ensures ∙ five_in parts a in
    let k1 : Keeps (take 32 a.five) (part_in parts 1) = subst (λ (l : List ℕ). Keeps l (part_in parts 1)) (c.digest_at.ensures ∙ ap (λ (l : List ℕ). take 32 l) five) c.in_ok-check_digest.ensures.ok in
    let k2 : Keeps (take 32 (drop 32 a.five)) (part_in parts 2) = subst (λ (l : List ℕ). Keeps l (part_in parts 2)) (c.digest_at-2.ensures ∙ ap (λ (l : List ℕ). take 32 (drop 32 l)) five) c.in_ok-check_digest-2.ensures.ok in
    passed_on c.from_residual-in_err-check_digest-3.result c.in_err-check_digest-3.field-0.0 (Says (FirstTells at_digests of files)) c.from_residual-in_err-check_digest-3.ensures.1
    (says_as (BreaksDigest c.digest_at-3.result files (file_of 3 of)) (FirstTells at_digests of files) c.in_err-check_digest-3.field-0.0
    (λ d b. three_broken of files parts p a d k1 k2 (subst (λ (l : List ℕ). BreaksDigest l files (file_of 3 of) d) (c.digest_at-3.ensures ∙ ap (λ (l : List ℕ). take 32 (drop 64 l)) five) b)) (c.in_err-check_digest-3.ensures.err files p))

pub returns-in_err-check_digest-4-clause-err : goal.returns-in_err-check_digest-4-clause-err
returns-in_err-check_digest-4-clause-err c = λ files p.
    let of = c.args.of in
    let parts = c.args.parts.now in
    let a = c.in_ok-check_gates.ensures.ok in
    let five : c.bytes_in-five.result.now ≡ a.five = c.bytes_in-five.ensures ∙ five_in parts a in
    let k1 : Keeps (take 32 a.five) (part_in parts 1) = subst (λ (l : List ℕ). Keeps l (part_in parts 1)) (c.digest_at.ensures ∙ ap (λ (l : List ℕ). take 32 l) five) c.in_ok-check_digest.ensures.ok in
    let k2 : Keeps (take 32 (drop 32 a.five)) (part_in parts 2) = subst (λ (l : List ℕ). Keeps l (part_in parts 2)) (c.digest_at-2.ensures ∙ ap (λ (l : List ℕ). take 32 (drop 32 l)) five) c.in_ok-check_digest-2.ensures.ok in
    let k3 : Keeps (take 32 (drop 64 a.five)) (part_in parts 3) = subst (λ (l : List ℕ). Keeps l (part_in parts 3)) (c.digest_at-3.ensures ∙ ap (λ (l : List ℕ). take 32 (drop 64 l)) five) c.in_ok-check_digest-3.ensures.ok in
    passed_on c.from_residual-in_err-check_digest-4.result c.in_err-check_digest-4.field-0.0 (Says (FirstTells at_digests of files)) c.from_residual-in_err-check_digest-4.ensures.1
    (says_as (BreaksDigest c.digest_at-4.result files (file_of 4 of)) (FirstTells at_digests of files) c.in_err-check_digest-4.field-0.0
    (λ d b. four_broken of files parts p a d k1 k2 k3 (subst (λ (l : List ℕ). BreaksDigest l files (file_of 4 of) d) (c.digest_at-4.ensures ∙ ap (λ (l : List ℕ). take 32 (drop 96 l)) five) b)) (c.in_err-check_digest-4.ensures.err files p))

pub returns-clause-err : goal.returns-clause-err
returns-clause-err c = λ files p.
    let of = c.args.of in
    let parts = c.args.parts.now in
    let a = c.in_ok-check_gates.ensures.ok in
    let five : c.bytes_in-five.result.now ≡ a.five = c.bytes_in-five.ensures ∙ five_in parts a in
    let k1 : Keeps (take 32 a.five) (part_in parts 1) = subst (λ (l : List ℕ). Keeps l (part_in parts 1)) (c.digest_at.ensures ∙ ap (λ (l : List ℕ). take 32 l) five) c.in_ok-check_digest.ensures.ok in
    let k2 : Keeps (take 32 (drop 32 a.five)) (part_in parts 2) = subst (λ (l : List ℕ). Keeps l (part_in parts 2)) (c.digest_at-2.ensures ∙ ap (λ (l : List ℕ). take 32 (drop 32 l)) five) c.in_ok-check_digest-2.ensures.ok in
    let k3 : Keeps (take 32 (drop 64 a.five)) (part_in parts 3) = subst (λ (l : List ℕ). Keeps l (part_in parts 3)) (c.digest_at-3.ensures ∙ ap (λ (l : List ℕ). take 32 (drop 64 l)) five) c.in_ok-check_digest-3.ensures.ok in
    let k4 : Keeps (take 32 (drop 96 a.five)) (part_in parts 4) = subst (λ (l : List ℕ). Keeps l (part_in parts 4)) (c.digest_at-4.ensures ∙ ap (λ (l : List ℕ). take 32 (drop 96 l)) five) c.in_ok-check_digest-4.ensures.ok in
    err_as c.check_digest-5.result (BreaksDigest c.digest_at-5.result files (file_of 5 of)) (FirstTells at_digests of files)
    (λ d b. five_broken of files parts p a d k1 k2 k3 k4 (subst (λ (l : List ℕ). BreaksDigest l files (file_of 5 of) d) (c.digest_at-5.ensures ∙ ap (λ (l : List ℕ). take 32 (drop 128 l)) five) b)) (c.check_digest-5.ensures.err files p)

pub returns-clause-ok : goal.returns-clause-ok
returns-clause-ok c =
    let parts = c.args.parts.now in
    let a = c.in_ok-check_gates.ensures.ok in
    let five : c.bytes_in-five.result.now ≡ a.five = c.bytes_in-five.ensures ∙ five_in parts a in
    let k1 : Keeps (take 32 a.five) (part_in parts 1) = subst (λ (l : List ℕ). Keeps l (part_in parts 1)) (c.digest_at.ensures ∙ ap (λ (l : List ℕ). take 32 l) five) c.in_ok-check_digest.ensures.ok in
    let k2 : Keeps (take 32 (drop 32 a.five)) (part_in parts 2) = subst (λ (l : List ℕ). Keeps l (part_in parts 2)) (c.digest_at-2.ensures ∙ ap (λ (l : List ℕ). take 32 (drop 32 l)) five) c.in_ok-check_digest-2.ensures.ok in
    let k3 : Keeps (take 32 (drop 64 a.five)) (part_in parts 3) = subst (λ (l : List ℕ). Keeps l (part_in parts 3)) (c.digest_at-3.ensures ∙ ap (λ (l : List ℕ). take 32 (drop 64 l)) five) c.in_ok-check_digest-3.ensures.ok in
    let k4 : Keeps (take 32 (drop 96 a.five)) (part_in parts 4) = subst (λ (l : List ℕ). Keeps l (part_in parts 4)) (c.digest_at-4.ensures ∙ ap (λ (l : List ℕ). take 32 (drop 96 l)) five) c.in_ok-check_digest-4.ensures.ok in
    on_ok_weaker c.check_digest-5.result
    (λ k. record { digests = a; info = k1; summaries = k2; index = k3; body = k4; bloom = subst (λ (l : List ℕ). Keeps l (part_in parts 5)) (c.digest_at-5.ensures ∙ ap (λ (l : List ℕ). take 32 (drop 128 l)) five) k }) c.check_digest-5.ensures.ok
