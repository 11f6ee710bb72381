use Rattle.std.proofs.Common.{ap, ◌∙◌, not, rules}
use Rattle.store_log.proofs.listed_volumes_proofs.RetainLemmas.{filtered}
use Rattle.store_log.specs.listed_volumes.Listed.{known_as, known_in}
use Rattle.shard_store.specs.Ticks.{has_outlived}
use Rattle.store_log.specs.listed_volumes.declared.volume.ListedVolume.{ListedVolume}
use Rattle.shard_store.proofs.VolumeLists.{filter_known}
use Rattle.shard_store.proofs.tick.forget.Goals as goal

pub returns : goal.returns
returns c =
    ap known_in (filtered _ (λ (v : ListedVolume). not (has_outlived c.args.rules.now (known_as v))) _ (λ x b g k. search rules) c.args.listed.now.items c.retain.new.self.items c.retain.ensures.filtered)
    ∙ filter_known (λ k. not (has_outlived c.args.rules.now k)) c.args.listed.now.items
