use Rattle.std.proofs.Common.{◌+◌, ◌∙◌, List, sym, subst}
use Rattle.std.specs.Prelude.{filter}
use Rattle.m3_model.specs.Answers.{IsAnswer}
use Rattle.m3_model.specs.Contents.{content_of}
use Rattle.m3_model.specs.declared.point.Matcher.{Matcher}
use Rattle.m3_model.specs.declared.point.Pick.TheVariants as pick
use Rattle.fileset_check.proofs.commit_log_proofs.Leaves.{leaves_none}
use Rattle.held_points.proofs.series_slots_proofs.AnswerLemmas.{point_in}
use Rattle.fileset_check.specs.shard_files.FilesHold.{volume_points}
use Rattle.fileset_check.specs.volume_bytes.declared.heads.Head.{Head}
use Rattle.fileset_check.specs.volume_bytes.Heads.{head_of}
use Rattle.volume_points.specs.Blocks.{block_head}
use Rattle.volume_points.specs.Candidates.{MayStand}
use Rattle.volume_points.specs.Known.{AreOf, AreThere, is_head_of, is_of}
use Rattle.volume_points.proofs.BlockLemmas.{covers_each, joined_rows, known_inside, memory_alone, rows_inside, some_joined, too_large}
use Rattle.volume_points.proofs.KnownLemmas.{of_some, there_some}
use Rattle.volume_points.proofs.block.block_rows.Goals as goal

pub returns-in_err-found-clause-leaves : goal.returns-in_err-found-clause-leaves
returns-in_err-found-clause-leaves g c = leaves_none _ (g.D.Disk.state c.args.disk.now) (memory_alone c.from_residual.result c.from_residual.ensures.1)

pub read-requires : goal.read-requires
read-requires g c = λ tells.
    let files = (g.D.Disk.state c.args.disk.now).files in
    let test = λ (h : Head). is_head_of c.args.ns c.args.start c.args.size (head_of h) in
    subst (λ (l : List Head). AreThere l files) (sym (c.deref.ensures.value ∙ c.in_ok-found.ensures)) (there_some test c.args.volumes.now files (c.requires.there tells))

pub returns-then-not-may_stand-clause-large : goal.returns-then-not-may_stand-clause-large
returns-then-not-may_stand-clause-large g c = λ tells is known a.
    let files = (g.D.Disk.state c.args.disk.now).files in
    let ns = c.args.ns in
    let start = c.args.start in
    let size = c.args.size in
    let some_known = filter (is_of ns start size) known in
    let of : AreOf c.deref.result.now some_known files = subst (λ (l : List Head). AreOf l some_known files) (sym (c.deref.ensures.value ∙ c.in_ok-found.ensures)) (of_some ns start size c.args.volumes.now known files a) in
    let answer = subst (λ (w : List Matcher). IsAnswer (content_of (volume_points some_known)) (pick.Match ns w) start (start + size) c.in_ok-read.read) c.new.ensures (c.in_ok-read.ensures.answer tells some_known of) in
    let inside = known_inside ns start size c.args.volumes.now known files a in
    too_large ns start size c.in_ok-rows.rows _ c.requires.size c.in_ok-rows.ensures.ordered
    (joined_rows ns start size c.args.buffered c.in_ok-read.read c.in_ok-rows.rows (volume_points some_known) inside answer c.in_ok-rows.ensures)
    (rows_inside ns start size c.args.buffered c.in_ok-read.read c.in_ok-rows.rows (volume_points some_known) inside answer c.in_ok-rows.ensures
    (λ p m. let b = c.requires.bounded p m in record { space = (point_in ns c.args.buffered p m).2; bounded = b.0; range = b.1 }))
    (λ stands. let yes = c.may_stand.ensures.1 (subst (MayStand (block_head ns start size)) (sym c.as_slice.ensures) stands) in absurd (cc))

pub returns-clause-some : goal.returns-clause-some
returns-clause-some g c = some_joined c.args.ns c.args.start c.args.size c.args.buffered c.in_ok-read.read c.in_ok-rows.rows c.requires.ordered c.in_ok-rows.ensures

pub returns-clause-covers : goal.returns-clause-covers
returns-clause-covers g c = covers_each c.args.ns c.args.start c.args.size c.args.buffered c.in_ok-read.read c.in_ok-rows.rows c.in_ok-rows.ensures

pub returns-clause-content : goal.returns-clause-content
returns-clause-content g c = λ tells known a.
    let files = (g.D.Disk.state c.args.disk.now).files in
    let ns = c.args.ns in
    let start = c.args.start in
    let size = c.args.size in
    let some_known = filter (is_of ns start size) known in
    let of : AreOf c.deref.result.now some_known files = subst (λ (l : List Head). AreOf l some_known files) (sym (c.deref.ensures.value ∙ c.in_ok-found.ensures)) (of_some ns start size c.args.volumes.now known files a) in
    let answer = subst (λ (w : List Matcher). IsAnswer (content_of (volume_points some_known)) (pick.Match ns w) start (start + size) c.in_ok-read.read) c.new.ensures (c.in_ok-read.ensures.answer tells some_known of) in
    joined_rows ns start size c.args.buffered c.in_ok-read.read c.in_ok-rows.rows (volume_points some_known) (known_inside ns start size c.args.volumes.now known files a) answer c.in_ok-rows.ensures
