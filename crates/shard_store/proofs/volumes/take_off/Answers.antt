use Rattle.std.proofs.Common.{ap, ◌∙◌, not, rules}
use Rattle.store_log.proofs.listed_volumes_proofs.RetainLemmas.{filtered}
use Rattle.store_log.specs.snapshot_steps.volume_steps.KnownLists.{is_one_of}
use Rattle.store_log.specs.listed_volumes.Listed.{known_as, known_in}
use Rattle.store_log.specs.listed_volumes.declared.volume.ListedVolume.{ListedVolume}
use Rattle.shard_store.proofs.VolumeLists.{filter_known}
use Rattle.shard_store.proofs.volumes.take_off.Goals as goal

pub returns : goal.returns
returns c =
    ap known_in (filtered _ (λ (v : ListedVolume). not (is_one_of c.args.heads.now (known_as v))) _ (λ x b g k. search rules) c.args.listed.now.items c.retain.new.self.items c.retain.ensures.filtered)
    ∙ filter_known (λ k. not (is_one_of c.args.heads.now k)) c.args.listed.now.items
