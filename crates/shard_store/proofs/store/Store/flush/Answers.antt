use Rattle.std.proofs.Common.{◌≡◌, Option, Some, ap, sym, subst, ◌∙◌}
use Rattle.std.specs.Option.{option_copied_mut}
use Rattle.shard_store.specs.StoreParts.{IsKept, state_of}
use Rattle.shard_store.specs.declared.opened.Opened.{Opened}
use Rattle.shard_store.proofs.FlushedStore.{store_flushed, store_part, store_rearranged}
use Rattle.shard_store.proofs.StillLemmas.{kept_or_closed}
use Rattle.shard_store.proofs.store.Store.flush.Goals as goal

pub invariant_of-self : goal.invariant_of-self
invariant_of-self g c =
    let some : c.self.inside.opened ≡ Some c.unwrap-opened.result.now = sym c.as_mut.ensures.value ∙ ap option_copied_mut c.unwrap-opened.ensures in
    let kept = subst (λ (o : Option Opened). IsKept o (g.D.Disk.state c.self.inside.disk)) some c.self.invariant in
    kept_or_closed c.flush-said.result c.flush-said.new.self c.close_unless.new.opened (g.D.Disk.state c.flush-said.new.disk) c.close_unless.ensures.closed c.close_unless.ensures.ok c.close_unless.ensures.memory c.flush-said.ensures.kept_ok c.flush-said.ensures.kept (c.flush-said.ensures.counted kept.1) (c.flush-said.ensures.cached kept.2)

pub flush-said-requires-clause-kept : goal.flush-said-requires-clause-kept
flush-said-requires-clause-kept g c =
    let some : c.self.inside.opened ≡ Some c.unwrap-opened.result.now = sym c.as_mut.ensures.value ∙ ap option_copied_mut c.unwrap-opened.ensures in
    (subst (λ (o : Option Opened). IsKept o (g.D.Disk.state c.self.inside.disk)) some c.self.invariant).0

pub returns-clause-ok : goal.returns-clause-ok
returns-clause-ok g c =
    let opened = c.unwrap-opened.result.now in
    let some : c.self.inside.opened ≡ Some opened = sym c.as_mut.ensures.value ∙ ap option_copied_mut c.unwrap-opened.ensures in
    let shown = ap (λ (o : Option Opened). state_of c.self.inside.disk o) (sym some) ∙ c.self.view_is in
    let lawful = g.met.D.Disk.lawful in
    store_flushed g.D.Disk.state c.self.inside.disk c.flush-said.new.disk opened c.flush-said.new.self c.flush-said.ensures.numbers c.flush-said.ensures.content c.flush-said.result c.close_unless.result c.close_unless.ensures.said c.args.self.now shown
    c.args.rules.now (lawful c.self.inside.disk) (lawful c.flush-said.new.disk) c.flush-said.ensures.disk.tells (subst (λ (o : Option Opened). IsKept o (g.D.Disk.state c.self.inside.disk)) some c.self.invariant).0 c.close_unless.new.opened
    c.flush-said.ensures.kept_ok c.close_unless.ensures.ok c.flush-said.ensures.ok

pub returns-clause-memory : goal.returns-clause-memory
returns-clause-memory g c =
    let opened = c.unwrap-opened.result.now in
    let some : c.self.inside.opened ≡ Some opened = sym c.as_mut.ensures.value ∙ ap option_copied_mut c.unwrap-opened.ensures in
    let shown = ap (λ (o : Option Opened). state_of c.self.inside.disk o) (sym some) ∙ c.self.view_is in
    store_part g.D.Disk.state c.self.inside.disk c.flush-said.new.disk opened c.flush-said.new.self c.flush-said.ensures.numbers c.flush-said.ensures.content c.flush-said.result c.close_unless.result c.close_unless.ensures.said c.args.self.now shown
    c.close_unless.new.opened c.close_unless.ensures.memory c.flush-said.ensures.fewer

pub returns-clause-disk : goal.returns-clause-disk
returns-clause-disk g c =
    let opened = c.unwrap-opened.result.now in
    let some : c.self.inside.opened ≡ Some opened = sym c.as_mut.ensures.value ∙ ap option_copied_mut c.unwrap-opened.ensures in
    let shown = ap (λ (o : Option Opened). state_of c.self.inside.disk o) (sym some) ∙ c.self.view_is in
    store_rearranged g.D.Disk.state c.self.inside.disk c.flush-said.new.disk opened c.flush-said.new.self c.flush-said.ensures.numbers c.flush-said.ensures.content c.flush-said.result c.close_unless.result c.close_unless.ensures.said c.args.self.now shown
    c.flush-said.ensures.disk
