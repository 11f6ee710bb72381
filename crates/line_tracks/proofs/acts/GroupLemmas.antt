-- No events tell of an `init` whose nodes are in fewer isolation groups than a shard has replicas, and serve it.
use Rattle.std.proofs.Common.{[], refl}
use Rattle.m3_model.specs.declared.answer.Answer.TheVariants as answer
use Rattle.line_tracks.specs.acts.Inits.{LackingGroupsTell}
use Rattle.line_tracks.proofs.acts.InitLemmas.{unmade_leaves}

pub lacking_groups_tell : LackingGroupsTell
lacking_groups_tell tells turns rf shards seed nodes shard none lacks =
    unmade_leaves tells [] turns rf shards seed nodes (answer.Group shard) none (record { no_acks = λ nodes e. cc; not_unmet = λ h. h; no_found = refl; no_rules = refl; no_seed = refl }) tt tt refl (λ available place version e. cc) lacks (λ fault i. absurd i) tt
