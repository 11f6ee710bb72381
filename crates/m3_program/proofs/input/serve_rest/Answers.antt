use Rattle.std.proofs.Common.{[], ◌∷◌, ◌++◌, ◌≡◌, refl, sym, ap, ◌∙◌}
use Rattle.std.proofs.lemmas.Bool.{eqb-true}
use Rattle.std.proofs.lemmas.List.{nil_from_length}
use Rattle.std.proofs.lemmas.Result.{on_err_weaker, on_ok_weaker}
use Rattle.std.specs.Prelude.{Err}
use Rattle.saved_cluster.specs.declared.lost.Lost.TheVariants as lost
use Rattle.m3_program.specs.Streams.{Stage, stage}
use Rattle.m3_program.proofs.CauseLemmas.{counts_none, counts_wanted, wanted_no_meta}
use Rattle.m3_program.proofs.PromiseLemmas.{may_close}
use Rattle.m3_program.proofs.StreamLemmas.{takes_line, drops_line, cuts_silently}
use Rattle.m3_program.proofs.input.serve_rest.Goals as goal

pub returns-then-is_empty-clause-ok : goal.returns-then-is_empty-clause-ok
returns-then-is_empty-clause-ok g c =
    let old : Stage g.row.X-D.Denot g.X.D.Disk = stage c.args.cluster.now (g.X.Disks.depot c.args.disks.now) in
    let new : Stage g.row.X-D.Denot g.X.D.Disk = stage c.answer_line.new.cluster (g.X.Disks.depot c.answer_line.new.disks) in
    let empty : c.args.line.now.items ≡ [] = sym c.as_slice.ensures.value ∙ nil_from_length c.as_slice.result.now (eqb-true _ _ (sym c.is_empty.ensures ∙ c.if-is_empty.true)) in
    on_ok_weaker c.answer_line.result (λ w. (
      w.0,
      w.1,
      takes_line g.X.D.Disk.state old new c.args.line.now.items c.args.rest.now w.0 c.args.rest.now c.args.line.now.items c.requires.whole (ap (λ l. l ++ c.args.rest.now) (sym empty)) empty w.2,
    )) c.answer_line.ensures.ok

pub returns-then-is_empty-clause-err : goal.returns-then-is_empty-clause-err
returns-then-is_empty-clause-err g c =
    let old : Stage g.row.X-D.Denot g.X.D.Disk = stage c.args.cluster.now (g.X.Disks.depot c.args.disks.now) in
    let new : Stage g.row.X-D.Denot g.X.D.Disk = stage c.answer_line.new.cluster (g.X.Disks.depot c.answer_line.new.disks) in
    let empty : c.args.line.now.items ≡ [] = sym c.as_slice.ensures.value ∙ nil_from_length c.as_slice.result.now (eqb-true _ _ (sym c.is_empty.ensures ∙ c.if-is_empty.true)) in
    on_err_weaker c.answer_line.result (λ w. drops_line g.X.D.Disk.state old new c.args.line.now.items c.args.rest.now c.args.rest.now _ c.requires.whole (ap (λ l. l ++ c.args.rest.now) (sym empty)) w) c.answer_line.ensures.err

pub returns-in-Err-clause-err : goal.returns-in-Err-clause-err
returns-in-Err-clause-err g c =
    let now : Stage g.row.X-D.Denot g.X.D.Disk = stage c.args.cluster.now (g.X.Disks.depot c.args.disks.now) in
    cuts_silently g.X.D.Disk.state now c.args.line.now.items (c.args.rest.now ++ 10 ∷ []) _ (wanted_no_meta {T = Unit {0}} (Err lost.Memory) refl)

pub returns-in-Err-clause-close : goal.returns-in-Err-clause-close
returns-in-Err-clause-close g c = may_close g.X.D.Disk.state c.args.cluster.now (g.X.Disks.depot c.args.disks.now).held c.requires.may

pub returns-in-Err-clause-meta : goal.returns-in-Err-clause-meta
returns-in-Err-clause-meta g c =
    let meta = (g.X.D.Disk.state c.args.cluster.now.meta).faults in
    counts_wanted ⊥ _ meta meta (counts_none meta) refl

pub returns-in-Ok-answer_line-clause-ok : goal.returns-in-Ok-answer_line-clause-ok
returns-in-Ok-answer_line-clause-ok g c =
    let old : Stage g.row.X-D.Denot g.X.D.Disk = stage c.args.cluster.now (g.X.Disks.depot c.args.disks.now) in
    let new : Stage g.row.X-D.Denot g.X.D.Disk = stage c.answer_line-2.new.cluster (g.X.Disks.depot c.answer_line-2.new.disks) in
    let w = c.in-Ok-answer_line.ensures.ok in
    let whole : c.as_slice-2.result.now ≡ c.args.line.now.items ++ c.args.rest.now = c.as_slice-2.ensures.value ∙ c.in-Ok.ensures.items in
    (w.0, w.1, takes_line g.X.D.Disk.state old new c.args.line.now.items c.args.rest.now w.0 c.as_slice-2.result.now c.clear.new.self.items c.requires.whole whole c.clear.ensures.items w.2)

pub returns-in-Err-answer_line-clause-err : goal.returns-in-Err-answer_line-clause-err
returns-in-Err-answer_line-clause-err g c =
    let old : Stage g.row.X-D.Denot g.X.D.Disk = stage c.args.cluster.now (g.X.Disks.depot c.args.disks.now) in
    let new : Stage g.row.X-D.Denot g.X.D.Disk = stage c.answer_line-2.new.cluster (g.X.Disks.depot c.answer_line-2.new.disks) in
    let whole : c.as_slice-2.result.now ≡ c.args.line.now.items ++ c.args.rest.now = c.as_slice-2.ensures.value ∙ c.in-Ok.ensures.items in
    drops_line g.X.D.Disk.state old new c.args.line.now.items c.args.rest.now c.as_slice-2.result.now _ c.requires.whole whole c.in-Err-answer_line.ensures.err
