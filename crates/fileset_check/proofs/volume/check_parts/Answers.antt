use Rattle.std.proofs.Common.{◌≡◌, ℕ, List, ◌∷◌, length, sym, ap, subst, ◌∙◌, refl, arith, rules}
use Rattle.fileset_read.specs.shard_files.Damage.{Damage, AtForm, AtHead, BreaksForm}
use Rattle.fileset_read.proofs.shard_files_proofs.SegmentStops.{passed_on}
use Rattle.fileset_read.specs.wire_bytes.Volumes.{Data}
use Rattle.fileset_read.specs.volume_bytes.Heads.{head_of}
use Rattle.fileset_check.specs.PartFiles.{bytes_in}
use Rattle.fileset_check.specs.Told.{LookTells, Says, VolumeTells, FirstTells, BreaksHead, IsUnfit, at_digests, at_derived}
use Rattle.fileset_check.proofs.FirstLemmas.{first_here, first_there, first_front, first_behind, says_as}
use Rattle.fileset_check.proofs.DigestLemmas.{digests_none}
use Rattle.fileset_check.proofs.DerivedLemmas.{head_none, body_none}
use Rattle.fileset_check.proofs.WholeLemmas.{volume_holds, checkpoint_named}
use Rattle.fileset_check.proofs.volume.check_parts.Goals as goal

pub returns-in_err-check_digests-clause-err : goal.returns-in_err-check_digests-clause-err
returns-in_err-check_digests-clause-err c = λ files p.
    let of = c.args.of in
    let Finds = LookTells of.ns of.block of.number files in
    passed_on c.from_residual.result c.in_err-check_digests.field-0.0 (Says (VolumeTells files of)) c.from_residual.ensures.1
    (says_as (FirstTells at_digests of files) (VolumeTells files of) c.in_err-check_digests.field-0.0 (λ d f. first_front Finds at_digests (AtHead ∷ AtForm Data ∷ at_derived) d f) (c.in_err-check_digests.ensures.err files p))

pub returns-in_err-head-clause-err : goal.returns-in_err-head-clause-err
returns-in_err-head-clause-err c = λ files p.
    let of = c.args.of in
    let Finds = LookTells of.ns of.block of.number files in
    passed_on c.from_residual-in_err-head.result c.in_err-head.field-0.0 (Says (VolumeTells files of)) c.from_residual-in_err-head.ensures.1
    (says_as (BreaksHead of.ns of.block of.number files) (VolumeTells files of) c.in_err-head.field-0.0
    (λ d f. first_behind Finds at_digests (AtHead ∷ AtForm Data ∷ at_derived) d (digests_none of files c.args.parts.now p c.in_ok-check_digests.ensures.ok) (first_here Finds AtHead (AtForm Data ∷ at_derived) d f)) (c.in_err-head.ensures.err files p))

pub returns-in_err-body-clause-err : goal.returns-in_err-body-clause-err
returns-in_err-body-clause-err c = λ files p.
    let of = c.args.of in
    let parts = c.args.parts.now in
    let Finds = LookTells of.ns of.block of.number files in
    let v = head_of c.in_ok-head.head in
    passed_on c.from_residual-in_err-body.result c.in_err-body.field-0.0 (Says (VolumeTells files of)) c.from_residual-in_err-body.ensures.1
    (says_as (IsUnfit of.ns of.block of.number files) (VolumeTells files of) c.in_err-body.field-0.0
    (λ d f. first_behind Finds at_digests (AtHead ∷ AtForm Data ∷ at_derived) d (digests_none of files parts p c.in_ok-check_digests.ensures.ok)
    (first_there Finds AtHead (AtForm Data ∷ at_derived) d (head_none of files parts p v c.in_ok-head.ensures.ok) (first_here Finds (AtForm Data) at_derived d f))) (c.in_err-body.ensures.err files p))

pub returns-in_err-check_derived-clause-err : goal.returns-in_err-check_derived-clause-err
returns-in_err-check_derived-clause-err c = λ files p.
    let of = c.args.of in
    let parts = c.args.parts.now in
    let Finds = LookTells of.ns of.block of.number files in
    let v = head_of c.in_ok-head.head in
    let x = c.in_ok-head.ensures.ok in
    let body = c.in_ok-body.ensures.ok in
    passed_on c.from_residual-in_err-check_derived.result c.in_err-check_derived.field-0.0 (Says (VolumeTells files of)) c.from_residual-in_err-check_derived.ensures.1
    (says_as (FirstTells at_derived of files) (VolumeTells files of) c.in_err-check_derived.field-0.0
    (λ d f. first_behind Finds at_digests (AtHead ∷ AtForm Data ∷ at_derived) d (digests_none of files parts p c.in_ok-check_digests.ensures.ok)
    (first_there Finds AtHead (AtForm Data ∷ at_derived) d (head_none of files parts p v x) (first_there Finds (AtForm Data) at_derived d (body_none of files parts p v x c.in_ok-body.body.rows body.values body.is) f))) (c.in_err-check_derived.ensures.err files p))

pub returns-clause-ok : goal.returns-clause-ok
returns-clause-ok c = λ files p.
    let of = c.args.of in
    let parts = c.args.parts.now in
    let v = head_of c.in_ok-head.head in
    let x = c.in_ok-head.ensures.ok in
    let body = c.in_ok-body.ensures.ok in
    let rows = c.in_ok-body.body.rows in
    let holds = volume_holds of files parts v rows p c.in_ok-check_digests.ensures.ok x body.values body.is c.in_ok-check_derived.ensures.ok in
    record {
      known = record { head = v; rows = rows };
      is_known = record { named = checkpoint_named of v (bytes_in parts 1) x; holds = holds };
      listed_is = λ i. record { head = c.in_ok-head.head; series = c.len.ensures i; points = body.tables.points i };
    }
