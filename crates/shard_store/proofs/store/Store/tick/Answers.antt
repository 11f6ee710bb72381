use Rattle.std.proofs.Common.{◌≡◌, Option, Some, true, ap, sym, subst, ◌∙◌}
use Rattle.std.specs.Option.{option_copied_mut}
use Rattle.shard_store.specs.StoreParts.{IsKept, state_of}
use Rattle.shard_store.specs.declared.opened.Opened.{Opened}
use Rattle.shard_store.proofs.StillLemmas.{kept_or_closed}
use Rattle.shard_store.proofs.TickedStore.{store_lost, store_stays, store_there, store_ticked, tick_left, tick_rearranged}
use Rattle.shard_store.proofs.store.Store.tick.Goals as goal

pub invariant_of-self : goal.invariant_of-self
invariant_of-self g c =
    let some : c.self.inside.opened ≡ Some c.unwrap-opened.result.now = sym c.as_mut.ensures.value ∙ ap option_copied_mut c.unwrap-opened.ensures in
    let kept = subst (λ (o : Option Opened). IsKept o (g.D.Disk.state c.self.inside.disk)) some c.self.invariant in
    kept_or_closed c.tick-said.result c.tick-said.new.self c.close_unless.new.opened (g.D.Disk.state c.tick-said.new.disk) c.close_unless.ensures.closed c.close_unless.ensures.ok c.close_unless.ensures.memory c.tick-said.ensures.kept c.tick-said.ensures.kept_still (c.tick-said.ensures.counted kept.1) (c.tick-said.ensures.cached kept.2)

pub tick-said-requires : goal.tick-said-requires
tick-said-requires g c = record {
  kept =
      let some : c.self.inside.opened ≡ Some c.unwrap-opened.result.now = sym c.as_mut.ensures.value ∙ ap option_copied_mut c.unwrap-opened.ensures in
      (subst (λ (o : Option Opened). IsKept o (g.D.Disk.state c.self.inside.disk)) some c.self.invariant).0;
}

pub returns-clause-ok : goal.returns-clause-ok
returns-clause-ok g c =
    let opened = c.unwrap-opened.result.now in
    let some : c.self.inside.opened ≡ Some opened = sym c.as_mut.ensures.value ∙ ap option_copied_mut c.unwrap-opened.ensures in
    let shown = ap (λ (o : Option Opened). state_of c.self.inside.disk o) (sym some) ∙ c.self.view_is in
    let lawful = g.met.D.Disk.lawful in
    store_ticked g.D.Disk.state c.self.inside.disk c.tick-said.new.disk opened c.tick-said.new.self c.args.rules.now c.tick-said.ensures.numbers c.tick-said.result c.close_unless.result c.close_unless.ensures.said c.args.self.now shown (lawful c.self.inside.disk)
    (subst (λ (o : Option Opened). IsKept o (g.D.Disk.state c.self.inside.disk)) some c.self.invariant).0 c.close_unless.new.opened (lawful c.tick-said.new.disk) c.tick-said.ensures.disk.tells c.tick-said.ensures.kept c.close_unless.ensures.ok c.tick-said.ensures.ok

pub returns-clause-there : goal.returns-clause-there
returns-clause-there g c =
    let opened = c.unwrap-opened.result.now in
    let some : c.self.inside.opened ≡ Some opened = sym c.as_mut.ensures.value ∙ ap option_copied_mut c.unwrap-opened.ensures in
    let shown = ap (λ (o : Option Opened). state_of c.self.inside.disk o) (sym some) ∙ c.self.view_is in
    let lawful = g.met.D.Disk.lawful in
    store_there g.D.Disk.state c.self.inside.disk c.tick-said.new.disk opened c.tick-said.new.self c.args.rules.now c.tick-said.ensures.numbers c.tick-said.result c.close_unless.result c.close_unless.ensures.said c.args.self.now shown (lawful c.self.inside.disk)
    (subst (λ (o : Option Opened). IsKept o (g.D.Disk.state c.self.inside.disk)) some c.self.invariant).0 c.close_unless.new.opened c.close_unless.ensures.ok c.tick-said.ensures.ok

pub returns-clause-stays : goal.returns-clause-stays
returns-clause-stays g c tells =
    let opened = c.unwrap-opened.result.now in
    let some : c.self.inside.opened ≡ Some opened = sym c.as_mut.ensures.value ∙ ap option_copied_mut c.unwrap-opened.ensures in
    let shown = ap (λ (o : Option Opened). state_of c.self.inside.disk o) (sym some) ∙ c.self.view_is in
    let lawful = g.met.D.Disk.lawful in
    store_stays g.D.Disk.state c.self.inside.disk c.tick-said.new.disk opened c.tick-said.new.self c.args.rules.now c.tick-said.ensures.numbers c.tick-said.result c.close_unless.result c.close_unless.ensures.said c.args.self.now shown (lawful c.self.inside.disk)
    (subst (λ (o : Option Opened). IsKept o (g.D.Disk.state c.self.inside.disk)) some c.self.invariant).0 c.close_unless.new.opened c.close_unless.ensures.ok c.tick-said.ensures.ok tells

pub returns-clause-memory : goal.returns-clause-memory
returns-clause-memory g c =
    let opened = c.unwrap-opened.result.now in
    let some : c.self.inside.opened ≡ Some opened = sym c.as_mut.ensures.value ∙ ap option_copied_mut c.unwrap-opened.ensures in
    let shown = ap (λ (o : Option Opened). state_of c.self.inside.disk o) (sym some) ∙ c.self.view_is in
    tick_left g.D.Disk.state c.self.inside.disk c.tick-said.new.disk opened c.tick-said.new.self c.args.rules.now c.tick-said.ensures.numbers c.tick-said.result c.close_unless.result c.close_unless.ensures.said c.args.self.now shown
    c.close_unless.new.opened c.close_unless.ensures.memory c.tick-said.ensures.memory

pub returns-clause-disk : goal.returns-clause-disk
returns-clause-disk g c =
    let opened = c.unwrap-opened.result.now in
    let some : c.self.inside.opened ≡ Some opened = sym c.as_mut.ensures.value ∙ ap option_copied_mut c.unwrap-opened.ensures in
    let shown = ap (λ (o : Option Opened). state_of c.self.inside.disk o) (sym some) ∙ c.self.view_is in
    tick_rearranged g.D.Disk.state c.self.inside.disk c.tick-said.new.disk opened c.tick-said.new.self c.args.rules.now c.tick-said.ensures.numbers c.tick-said.result c.close_unless.result c.close_unless.ensures.said c.args.self.now shown
    c.tick-said.ensures.disk

pub returns-clause-lost : goal.returns-clause-lost
returns-clause-lost g c tells =
    let opened = c.unwrap-opened.result.now in
    let some : c.self.inside.opened ≡ Some opened = sym c.as_mut.ensures.value ∙ ap option_copied_mut c.unwrap-opened.ensures in
    let shown = ap (λ (o : Option Opened). state_of c.self.inside.disk o) (sym some) ∙ c.self.view_is in
    let lawful = g.met.D.Disk.lawful in
    let told = subst (λ x. (g.D.Disk.state x).tells ≡ true) (sym (ap (λ s. s.disk) c.self.view_is)) tells in
    store_lost g.D.Disk.state c.self.inside.disk c.tick-said.new.disk opened c.tick-said.new.self c.args.rules.now c.tick-said.ensures.numbers c.tick-said.result c.close_unless.result c.close_unless.ensures.said c.args.self.now shown (lawful c.self.inside.disk)
    (subst (λ (o : Option Opened). IsKept o (g.D.Disk.state c.self.inside.disk)) some c.self.invariant).0 c.close_unless.new.opened c.close_unless.ensures.ok (c.tick-said.ensures.lost told)
