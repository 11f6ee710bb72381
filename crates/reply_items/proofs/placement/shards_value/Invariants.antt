use Rattle.std.proofs.Common.{◌≡◌, map, take}
use Rattle.serde_json.specs.View.{view}
use Rattle.reply_items.specs.Placements.{shard_data}
use Rattle.reply_items.proofs.placement.shards_value.Given as goal

abbrev pub invariant-loop-shard : goal.invariant-loop-shard
invariant-loop-shard l = map view l.values.items ≡ map (shard_data l.instances) (take l.shard-index l.shards)
