-- Cases on what is in the way of a plan.
use Rattle.std.proofs.Common.{◌≡◌, ℕ, List, Option}
use Rattle.m3_model.specs.declared.act.Act.{Act}
use Rattle.m3_model.specs.declared.answer.Answer.{Answer}
use Rattle.m3_model.specs.declared.answer.Answer.TheVariants as answer
use Rattle.m3_model.specs.declared.placement.Placement.{Placement}
use Rattle.placement_core.specs.NodeNames.{name_of}
use Rattle.placement_plan.specs.declared.plan_err.PlaceErr.TheVariants as refused
use Rattle.placement_acts.specs.Acts.{IsInTheWay, Refuses, nodes_in}

module _ (place : Option Placement) (a : Act) (Q : Answer → Type 0)
    (busy : (name : List ℕ) (shard node : ℕ) → Refuses place a (refused.Busy shard node) → name ≡ name_of (nodes_in place) node → Q (answer.Busy name shard))
    (group : (shard : ℕ) → Refuses place a (refused.Group shard) → Q (answer.Group shard)) where
  pub by_way : (b : Answer) → IsInTheWay place a b → Q b
  by_way answer.Done h = absurd h
  by_way (answer.Placed placement version) h = absurd h
  by_way (answer.Acks acks) h = absurd h
  by_way (answer.Found series short) h = absurd h
  by_way (answer.Outcomes outcomes) h = absurd h
  by_way (answer.Available available placement version) h = absurd h
  by_way (answer.Swept done failed) h = absurd h
  by_way (answer.Repaired shards) h = absurd h
  by_way (answer.Status now replicas version) h = absurd h
  by_way answer.Form h = absurd h
  by_way answer.Long h = absurd h
  by_way answer.Order h = absurd h
  by_way (answer.Unknown name) h = absurd h
  by_way (answer.Limit limit) h = absurd h
  by_way (answer.Clock now) h = absurd h
  by_way (answer.Consistency got needed reasons shard) h = absurd h
  by_way (answer.Busy node shard) h = busy node shard h.0 h.1 h.2
  by_way (answer.Group shard) h = group shard h
  by_way (answer.Peers got needed reasons shard) h = absurd h
  by_way (answer.Disk node shard) h = absurd h
  by_way (answer.State node) h = absurd h
  by_way answer.Memory h = absurd h
  by_way answer.Full h = absurd h
  by_way (answer.Corrupt node shard damage) h = absurd h
  by_way answer.Later h = absurd h
