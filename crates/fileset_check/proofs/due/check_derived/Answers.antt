use Rattle.std.proofs.Common.{◌≡◌, List, ℕ, [], ◌∷◌, sym, ap, subst, ◌∙◌}
use Rattle.std.proofs.lemmas.Result.{on_ok_weaker}
use Rattle.fileset_read.specs.wire_bytes.Volumes.{Info, Summaries, Index, Bloom, part_bytes}
use Rattle.fileset_read.specs.shard_files.Damage.{Damage, AtForm, BreaksForm}
use Rattle.fileset_read.proofs.shard_files_proofs.SegmentStops.{passed_on}
use Rattle.fileset_read.specs.volume_bytes.Heads.{head_of}
use Rattle.fileset_check.specs.PartFiles.{Spells, AreDerived, bytes_in, file_of}
use Rattle.fileset_check.specs.Told.{LookTells, FirstTells, Says, at_derived}
use Rattle.fileset_check.proofs.FirstLemmas.{first_here, first_there, says_as, err_as}
use Rattle.fileset_check.proofs.DerivedLemmas.{breaks_info, breaks_summaries, breaks_index, breaks_bloom, info_none, summaries_none, index_none}
use Rattle.fileset_check.proofs.due.check_derived.Goals as goal

pub returns-in_err-check_info-clause-err : goal.returns-in_err-check_info-clause-err
returns-in_err-check_info-clause-err c = λ files p.
    let of = c.args.of in
    let parts = c.args.parts.now in
    let v = head_of c.args.head.now in
    let rows = c.args.body.now.rows in
    let b = c.requires.body in
    let Finds = LookTells of.ns of.block of.number files in
    passed_on c.from_residual.result c.in_err-check_info.field-0.0 (Says (FirstTells at_derived of files)) c.from_residual.ensures.1
    (says_as (BreaksForm (Spells (part_bytes Info v rows)) files (file_of 1 of)) (FirstTells at_derived of files) c.in_err-check_info.field-0.0
    (λ d f. first_here Finds (AtForm Info) (AtForm Summaries ∷ AtForm Index ∷ AtForm Bloom ∷ []) d (breaks_info of files parts p v c.requires.head rows b.values b.is d f)) (c.in_err-check_info.ensures.err files p))

pub returns-in_err-check_due-clause-err : goal.returns-in_err-check_due-clause-err
returns-in_err-check_due-clause-err c = λ files p.
    let of = c.args.of in
    let parts = c.args.parts.now in
    let v = head_of c.args.head.now in
    let rows = c.args.body.now.rows in
    let b = c.requires.body in
    let Finds = LookTells of.ns of.block of.number files in
    let due : c.as_slice.result.now ≡ part_bytes Summaries v rows = c.as_slice.ensures ∙ b.tables.summaries in
    passed_on c.from_residual-in_err-check_due.result c.in_err-check_due.field-0.0 (Says (FirstTells at_derived of files)) c.from_residual-in_err-check_due.ensures.1
    (says_as (BreaksForm (Spells c.as_slice.result.now) files (file_of 2 of)) (FirstTells at_derived of files) c.in_err-check_due.field-0.0
    (λ d f. first_there Finds (AtForm Info) (AtForm Summaries ∷ AtForm Index ∷ AtForm Bloom ∷ []) d (info_none of files parts p v c.requires.head rows b.values b.is c.in_ok-check_info.ensures.ok)
    (first_here Finds (AtForm Summaries) (AtForm Index ∷ AtForm Bloom ∷ []) d (breaks_summaries of files parts p v c.requires.head rows b.values b.is d (subst (λ (l : List ℕ). BreaksForm (Spells l) files (file_of 2 of) d) due f)))) (c.in_err-check_due.ensures.err files p))

pub returns-in_err-check_due-2-clause-err : goal.returns-in_err-check_due-2-clause-err
returns-in_err-check_due-2-clause-err c = λ files p.
    let of = c.args.of in
    let parts = c.args.parts.now in
    let v = head_of c.args.head.now in
    let rows = c.args.body.now.rows in
    let b = c.requires.body in
    let Finds = LookTells of.ns of.block of.number files in
    let summaries : c.as_slice.result.now ≡ part_bytes Summaries v rows = c.as_slice.ensures ∙ b.tables.summaries in
    let due : c.as_slice-2.result.now ≡ part_bytes Index v rows = c.as_slice-2.ensures ∙ b.tables.index in
    passed_on c.from_residual-in_err-check_due-2.result c.in_err-check_due-2.field-0.0 (Says (FirstTells at_derived of files)) c.from_residual-in_err-check_due-2.ensures.1
    (says_as (BreaksForm (Spells c.as_slice-2.result.now) files (file_of 3 of)) (FirstTells at_derived of files) c.in_err-check_due-2.field-0.0
    (λ d f. first_there Finds (AtForm Info) (AtForm Summaries ∷ AtForm Index ∷ AtForm Bloom ∷ []) d (info_none of files parts p v c.requires.head rows b.values b.is c.in_ok-check_info.ensures.ok)
    (first_there Finds (AtForm Summaries) (AtForm Index ∷ AtForm Bloom ∷ []) d (summaries_none of files parts p v c.requires.head rows b.values b.is (c.in_ok-check_due.ensures.ok ∙ summaries))
    (first_here Finds (AtForm Index) (AtForm Bloom ∷ []) d (breaks_index of files parts p v c.requires.head rows b.values b.is d (subst (λ (l : List ℕ). BreaksForm (Spells l) files (file_of 3 of) d) due f))))) (c.in_err-check_due-2.ensures.err files p))

pub returns-clause-err : goal.returns-clause-err
returns-clause-err c = λ files p.
    let of = c.args.of in
    let parts = c.args.parts.now in
    let v = head_of c.args.head.now in
    let rows = c.args.body.now.rows in
    let b = c.requires.body in
    let Finds = LookTells of.ns of.block of.number files in
    let summaries : c.as_slice.result.now ≡ part_bytes Summaries v rows = c.as_slice.ensures ∙ b.tables.summaries in
    let index : c.as_slice-2.result.now ≡ part_bytes Index v rows = c.as_slice-2.ensures ∙ b.tables.index in
    err_as c.check_bloom.result (BreaksForm (Spells (part_bytes Bloom v rows)) files (file_of 5 of)) (FirstTells at_derived of files)
    (λ d f. first_there Finds (AtForm Info) (AtForm Summaries ∷ AtForm Index ∷ AtForm Bloom ∷ []) d (info_none of files parts p v c.requires.head rows b.values b.is c.in_ok-check_info.ensures.ok)
    (first_there Finds (AtForm Summaries) (AtForm Index ∷ AtForm Bloom ∷ []) d (summaries_none of files parts p v c.requires.head rows b.values b.is (c.in_ok-check_due.ensures.ok ∙ summaries))
    (first_there Finds (AtForm Index) (AtForm Bloom ∷ []) d (index_none of files parts p v c.requires.head rows b.values b.is (c.in_ok-check_due-2.ensures.ok ∙ index))
    (first_here Finds (AtForm Bloom) [] d (breaks_bloom of files parts p v c.requires.head rows b.values b.is d f))))) (c.check_bloom.ensures.err files p)

pub returns-clause-ok : goal.returns-clause-ok
returns-clause-ok c =
    let parts = c.args.parts.now in
    let v = head_of c.args.head.now in
    let rows = c.args.body.now.rows in
    let b = c.requires.body in
    on_ok_weaker c.check_bloom.result
    (λ bloom. record { info = c.in_ok-check_info.ensures.ok; summaries = c.in_ok-check_due.ensures.ok ∙ c.as_slice.ensures ∙ b.tables.summaries; index = c.in_ok-check_due-2.ensures.ok ∙ c.as_slice-2.ensures ∙ b.tables.index; bloom = bloom }) c.check_bloom.ensures.ok
