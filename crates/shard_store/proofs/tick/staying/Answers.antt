use Rattle.std.proofs.Common.{not, rules}
use Rattle.store_log.specs.listed_volumes.wire_bytes.Volumes.{VolumeHead}
use Rattle.store_log.specs.listed_volumes.volume_bytes.declared.heads.Head.{Head}
use Rattle.store_log.specs.listed_volumes.volume_bytes.Heads.{head_of}
use Rattle.store_log.proofs.listed_volumes_proofs.RetainLemmas.{filtered}
use Rattle.shard_store.specs.Ticks.{is_outlived}
use Rattle.shard_store.proofs.VolumeLists.{some_heads}
use Rattle.shard_store.proofs.tick.staying.Goals as goal

pub returns-clause-ok : goal.returns-clause-ok
returns-clause-ok c =
    let test : VolumeHead → _ = λ v. not (is_outlived c.args.rules.now v) in
    some_heads test c.args.listed.now c.in_ok-found.found.items c.retain.new.self.items c.in_ok-found.ensures.ok (filtered _ (λ (h : Head). test (head_of h)) _ (λ x b g k. search rules) c.in_ok-found.found.items c.retain.new.self.items c.retain.ensures.filtered)
