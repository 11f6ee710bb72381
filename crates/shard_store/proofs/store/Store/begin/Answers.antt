use Rattle.std.proofs.Common.{◌≡◌, Option, Some, ap, sym, subst, ◌∙◌}
use Rattle.std.specs.Option.{option_copied_mut}
use Rattle.store_log.specs.listed_volumes.Listed.{known_in}
use Rattle.shard_store.specs.StoreParts.{IsKept}
use Rattle.shard_store.specs.declared.opened.Opened.{Opened}
use Rattle.shard_store.proofs.CacheLemmas.{cached_still}
use Rattle.shard_store.proofs.CountedLemmas.{open_or_closed}
use Rattle.shard_store.proofs.store.Store.begin.Goals as goal

pub begin-said-requires : goal.begin-said-requires
begin-said-requires g c = record {
  kept =
      let some : c.self.inside.opened ≡ Some c.unwrap-opened.result.now = sym c.as_mut.ensures.value ∙ ap option_copied_mut c.unwrap-opened.ensures in
      (subst (λ (o : Option Opened). IsKept o (g.D.Disk.state c.self.inside.disk)) some c.self.invariant).0;
}

pub invariant_of-self : goal.invariant_of-self
invariant_of-self g c =
    let some : c.self.inside.opened ≡ Some c.unwrap-opened.result.now = sym c.as_mut.ensures.value ∙ ap option_copied_mut c.unwrap-opened.ensures in
    let kept = subst (λ (o : Option Opened). IsKept o (g.D.Disk.state c.self.inside.disk)) some c.self.invariant in
    open_or_closed c.begin-said.result c.begin-said.new.self c.close_after.new.opened (g.D.Disk.state c.begin-said.new.disk) c.close_after.ensures.closed c.close_after.ensures.stays c.begin-said.ensures.kept (λ fine. c.begin-said.ensures.counted fine kept.1)
    (cached_still (known_in c.unwrap-opened.result.now.volumes.items) (known_in c.begin-said.new.self.volumes.items) c.unwrap-opened.result.now.cache c.begin-said.new.self.cache (g.D.Disk.state c.self.inside.disk) (g.D.Disk.state c.begin-said.new.disk) c.begin-said.ensures.disk.tells
    (λ i. known_in (c.begin-said.ensures.volumes i).items) c.begin-said.ensures.cache kept.2)
