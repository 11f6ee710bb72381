use Rattle.shard_store.proofs.OpenLemmas.{shown_by_each}
use Rattle.shard_store.proofs.store.Store.images_hold.Goals as goal

pub returns : goal.returns
returns g c = shown_by_each g.D.Disk.state c.args.self.now c.self.inside.disk c.self.inside.opened c.self.view_is c.self.invariant
