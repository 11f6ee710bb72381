use Rattle.std.proofs.Common.{◌≡◌, Option, Some, ap, sym, subst, ◌∙◌}
use Rattle.std.specs.Option.{option_copied_mut}
use Rattle.shard_store.specs.StoreParts.{IsCountedIn, IsKept, IsOpenOn, state_of}
use Rattle.shard_store.specs.declared.opened.Opened.{Opened}
use Rattle.shard_store.proofs.CacheLemmas.{fetched_memory, fetched_ok}
use Rattle.shard_store.proofs.CountedLemmas.{counted_left}
use Rattle.shard_store.proofs.StillLemmas.{opened_left, still_or_closed}
use Rattle.shard_store.proofs.store.Store.page.Goals as goal

pub invariant_of-self : goal.invariant_of-self
invariant_of-self g c =
    let opened = c.unwrap-opened.result.now in
    let later = c.page-said.new.self in
    let some : c.self.inside.opened ≡ Some opened = sym c.as_mut.ensures.value ∙ ap option_copied_mut c.unwrap-opened.ensures in
    let kept = subst (λ (o : Option Opened). IsKept o (g.D.Disk.state c.self.inside.disk)) some c.self.invariant in
    let a = g.D.Disk.state c.self.inside.disk in
    let b = g.D.Disk.state c.page-said.new.disk in
    let leaves = c.page-said.ensures.leaves in
    let same = sym c.page-said.ensures.same in
    let after : IsKept (Some later) b = (
      subst (λ (o : Opened). IsOpenOn o b) same (opened_left opened _ a b leaves kept.0),
      subst (λ (o : Opened). IsCountedIn o b) same (counted_left opened _ a b leaves kept.1),
      c.page-said.ensures.cached,
    ) in
    still_or_closed c.page-said.result (Some later) c.close_unless.new.opened b c.close_unless.ensures.closed c.close_unless.ensures.ok c.close_unless.ensures.memory after

pub page-said-requires-clause-kept : goal.page-said-requires-clause-kept
page-said-requires-clause-kept g c =
    let some : c.self.inside.opened ≡ Some c.unwrap-opened.result.now = sym c.as_mut.ensures.value ∙ ap option_copied_mut c.unwrap-opened.ensures in
    (subst (λ (o : Option Opened). IsKept o (g.D.Disk.state c.self.inside.disk)) some c.self.invariant).0

pub page-said-requires-clause-cached : goal.page-said-requires-clause-cached
page-said-requires-clause-cached g c =
    let some : c.self.inside.opened ≡ Some c.unwrap-opened.result.now = sym c.as_mut.ensures.value ∙ ap option_copied_mut c.unwrap-opened.ensures in
    (subst (λ (o : Option Opened). IsKept o (g.D.Disk.state c.self.inside.disk)) some c.self.invariant).2

pub returns-clause-ok : goal.returns-clause-ok
returns-clause-ok g c =
    let opened = c.unwrap-opened.result.now in
    let some : c.self.inside.opened ≡ Some opened = sym c.as_mut.ensures.value ∙ ap option_copied_mut c.unwrap-opened.ensures in
    let shown = ap (λ (o : Option Opened). state_of c.self.inside.disk o) (sym some) ∙ c.self.view_is in
    fetched_ok c.self.inside.disk c.page-said.new.disk opened c.page-said.new.self c.page-said.ensures.same c.args.self.now shown c.close_unless.new.opened c.page-said.result c.close_unless.result c.close_unless.ensures.said c.close_unless.ensures.ok

pub returns-clause-memory : goal.returns-clause-memory
returns-clause-memory g c =
    let opened = c.unwrap-opened.result.now in
    let some : c.self.inside.opened ≡ Some opened = sym c.as_mut.ensures.value ∙ ap option_copied_mut c.unwrap-opened.ensures in
    let shown = ap (λ (o : Option Opened). state_of c.self.inside.disk o) (sym some) ∙ c.self.view_is in
    fetched_memory c.self.inside.disk c.page-said.new.disk opened c.page-said.new.self c.page-said.ensures.same c.args.self.now shown c.close_unless.new.opened c.page-said.result c.close_unless.result c.close_unless.ensures.said c.close_unless.ensures.memory
