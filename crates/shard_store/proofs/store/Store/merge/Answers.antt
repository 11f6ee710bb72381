use Rattle.std.proofs.Common.{◌≡◌, List, Option, Some, ap, sym, subst, ◌∙◌}
use Rattle.std.specs.Option.{option_copied_mut}
use Rattle.std.specs.Prelude.{IfOk, IsErrOf}
use Rattle.m3_model.specs.declared.point.Point.{Point}
use Rattle.store_log.specs.joined_reads.Beside.{risen_in}
use Rattle.store_log.specs.listed_volumes.fileset_read.declared.file_err.FileErr.TheVariants as failures
use Rattle.store_log.specs.Whole.{BringsWhole, of_points}
use Rattle.shard_store.specs.Merges.{HasMerged}
use Rattle.shard_store.specs.StoreParts.{IsKept, state_of}
use Rattle.shard_store.specs.declared.opened.Opened.{Opened}
use Rattle.shard_store.proofs.MergeLemmas.{merged_or_closed, store_brings, store_merged, store_unmerged}
use Rattle.shard_store.proofs.store.Store.merge.Goals as goal

pub invariant_of-self : goal.invariant_of-self
invariant_of-self g c =
    let some : c.self.inside.opened ≡ Some c.unwrap-opened.result.now = sym c.as_mut.ensures.value ∙ ap option_copied_mut c.unwrap-opened.ensures in
    let kept = subst (λ (o : Option Opened). IsKept o (g.D.Disk.state c.self.inside.disk)) some c.self.invariant in
    merged_or_closed c.merge-said.result c.merge-said.new.self c.close_unless.new.opened (g.D.Disk.state c.merge-said.new.disk) c.close_unless.ensures.closed c.close_unless.ensures.ok c.close_unless.ensures.memory c.merge-said.ensures.kept (λ fine. c.merge-said.ensures.counted fine kept.1) c.merge-said.ensures.cached

pub merge-said-requires-clause-kept : goal.merge-said-requires-clause-kept
merge-said-requires-clause-kept g c =
    let some : c.self.inside.opened ≡ Some c.unwrap-opened.result.now = sym c.as_mut.ensures.value ∙ ap option_copied_mut c.unwrap-opened.ensures in
    (subst (λ (o : Option Opened). IsKept o (g.D.Disk.state c.self.inside.disk)) some c.self.invariant).0

pub merge-said-requires-clause-cached : goal.merge-said-requires-clause-cached
merge-said-requires-clause-cached g c =
    let some : c.self.inside.opened ≡ Some c.unwrap-opened.result.now = sym c.as_mut.ensures.value ∙ ap option_copied_mut c.unwrap-opened.ensures in
    (subst (λ (o : Option Opened). IsKept o (g.D.Disk.state c.self.inside.disk)) some c.self.invariant).2

pub returns-clause-ok : goal.returns-clause-ok
returns-clause-ok g c =
    let opened = c.unwrap-opened.result.now in
    let some : c.self.inside.opened ≡ Some opened = sym c.as_mut.ensures.value ∙ ap option_copied_mut c.unwrap-opened.ensures in
    let shown = ap (λ (o : Option Opened). state_of c.self.inside.disk o) (sym some) ∙ c.self.view_is in
    subst (λ (l : List Point). IfOk c.close_unless.result (HasMerged g.D.Disk.state l c.args.self.now (state_of c.merge-said.new.disk c.close_unless.new.opened))) c.as_slice.ensures
    (store_merged g.D.Disk.state c.self.inside.disk c.merge-said.new.disk opened c.merge-said.new.self c.merge-said.ensures.numbers c.merge-said.result c.close_unless.result c.close_unless.ensures.said c.args.self.now shown c.as_slice.result.now c.close_unless.new.opened
    c.close_unless.ensures.ok c.merge-said.ensures.held c.merge-said.ensures.content c.merge-said.ensures.count)

pub returns-clause-memory : goal.returns-clause-memory
returns-clause-memory g c =
    let opened = c.unwrap-opened.result.now in
    let some : c.self.inside.opened ≡ Some opened = sym c.as_mut.ensures.value ∙ ap option_copied_mut c.unwrap-opened.ensures in
    let shown = ap (λ (o : Option Opened). state_of c.self.inside.disk o) (sym some) ∙ c.self.view_is in
    store_unmerged g.D.Disk.state c.self.inside.disk c.merge-said.new.disk opened c.merge-said.new.self c.merge-said.ensures.numbers c.merge-said.result c.close_unless.result c.close_unless.ensures.said c.args.self.now shown c.close_unless.new.opened
    c.close_unless.ensures.memory c.merge-said.ensures.memory c.merge-said.ensures.volumes

pub returns-clause-disk : goal.returns-clause-disk
returns-clause-disk g c =
    let opened = c.unwrap-opened.result.now in
    let some : c.self.inside.opened ≡ Some opened = sym c.as_mut.ensures.value ∙ ap option_copied_mut c.unwrap-opened.ensures in
    let shown = ap (λ (o : Option Opened). state_of c.self.inside.disk o) (sym some) ∙ c.self.view_is in
    subst (λ (l : List Point). BringsWhole (of_points (risen_in c.args.self.now.content l)) (IsErrOf c.close_unless.result failures.Disk) c.close_unless.result (g.D.Disk.state c.args.self.now.disk) (g.D.Disk.state c.merge-said.new.disk)) c.as_slice.ensures
    (store_brings g.D.Disk.state c.self.inside.disk c.merge-said.new.disk opened c.merge-said.new.self c.merge-said.ensures.numbers c.merge-said.result c.close_unless.result c.close_unless.ensures.said c.args.self.now shown c.as_slice.result.now c.merge-said.ensures.disk)
