use Rattle.std.proofs.Common.{◌≡◌, ℕ, refl, sym, ap, ◌∙◌, arith, rules, get_or, length, Result, Option, Err}
use Rattle.std.specs.Prelude.{IsErr, is_some, option_map}
use Rattle.std.specs.FinMap.{get}
use Rattle.std.proofs.lemmas.Grind.{drop_more_same}
use Rattle.shard_files.specs.m3_outside.declared.failed.Failed.{Failed}
use Rattle.shard_files.specs.m3_outside.declared.file_name.FileName.{FileName}
use Rattle.shard_files.specs.m3_outside.Files.{Files}
use Rattle.shard_files.proofs.commit_log_proofs.Leaves.{leaves_none, leaves_as, leaves_then}
use Rattle.fileset_write.proofs.FindLemmas.{sized, kept_more, rest_more}
use Rattle.fileset_write.proofs.removal.find_there.Goals as goal

err_is : (r : Result (Option ℕ) Failed) (e : Failed) → r ≡ Err e → IsErr r
err_is r e was = search (rules, was)

pub loop-i-init : goal.loop-i-init
loop-i-init g c = record { leaves = leaves_none ⊥ (g.D.Disk.state c.args.disk.now) (λ f. f); long = refl; few = omega arith; kept = λ t. refl; rest = refl }

pub loop-i-preserved : goal.loop-i-preserved
loop-i-preserved g c =
    let inv = c.loop-i.invariant in
    let none : FileName = record { kind = 0; ns = 0; block = 0; number = 0 } in
    let name : FileName = get_or c.loop-i.names c.loop-i.i none in
    record {
      leaves = leaves_then ⊥ ⊥ (g.D.Disk.state c.args.disk.now) (g.D.Disk.state c.loop-i.disk) (g.D.Disk.state c.size.new.self) inv.leaves (leaves_as _ ⊥ (g.D.Disk.state c.loop-i.disk) (g.D.Disk.state c.size.new.self) (λ f. absurd f) c.size.ensures.leaves);
      long = c.keep-count.ensures.long ∙ inv.long;
      few = omega (arith, c.keep-count.ensures.within, inv.few);
      kept = λ t.
          let found = c.is_some-is_there.ensures ∙ ap is_some (c.in_ok-size.ensures.size (inv.leaves.proceeds.tells ∙ t) ∙ ap (λ (f : Files). option_map length (get f name)) (inv.leaves.files t)) ∙ sized (get (g.D.Disk.state c.args.disk.now).files name) in
          kept_more c.loop-i.names c.args.names.now c.keep-count.new.names c.loop-i.i c.loop-i.count c.keep-count.result name none (g.D.Disk.state c.args.disk.now).files c.is_some-is_there.result
          (omega (arith, c.loop-i-test.true, inv.long)) inv.few inv.rest refl (sym found) (inv.kept t) c.keep-count.ensures.kept;
      rest = rest_more c.keep-count.new.names c.loop-i.names c.loop-i.count c.loop-i.i inv.few c.keep-count.ensures.rest ∙ drop_more_same c.loop-i.names c.args.names.now c.loop-i.i inv.rest;
    }

pub returns-in_err-size-clause-leaves : goal.returns-in_err-size-clause-leaves
returns-in_err-size-clause-leaves g c =
    leaves_then ⊥ _ (g.D.Disk.state c.args.disk.now) (g.D.Disk.state c.loop-i.disk) (g.D.Disk.state c.size.new.self) c.loop-i.invariant.leaves (leaves_as _ _ (g.D.Disk.state c.loop-i.disk) (g.D.Disk.state c.size.new.self) (λ f. err_is c.size.result _ c.in_err-size.was) c.size.ensures.leaves)
