use Rattle.std.proofs.Common.{◌≡◌, ◌++◌, ◌∷◌, List, take, drop, subst}
use Rattle.store_log.specs.snapshot_steps.volume_steps.KnownLists.{with_volume}
use Rattle.store_log.specs.listed_volumes.Listed.{known_as, known_in}
use Rattle.store_log.specs.listed_volumes.declared.volume.ListedVolume.{ListedVolume}
use Rattle.shard_store.proofs.VolumeLists.{added}
use Rattle.shard_store.proofs.volumes.add.Goals as goal

pub returns : goal.returns
returns c =
    let k = known_as c.args.volume in
    added c.args.listed.now.items c.insert.new.self.items c.position_of-position.result c.args.volume c.insert.result (with_volume k (known_in c.args.listed.now.items)) (c.insert.ensures.succeeds c.requires) c.insert.ensures.items
    (subst (λ (l : List ListedVolume). known_in (take c.position_of-position.result l) ++ (k ∷ known_in (drop c.position_of-position.result l)) ≡ with_volume k (known_in l)) c.deref.ensures.value (c.position_of-position.ensures.before c.args.volume.rows.value))
