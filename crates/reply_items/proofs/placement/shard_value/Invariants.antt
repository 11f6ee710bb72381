use Rattle.std.proofs.Common.{◌≡◌, [], map, drop}
use Rattle.std.specs.Prelude.{fold}
use Rattle.reply_values.specs.Order.{roll_entries}
use Rattle.reply_items.specs.Placements.{assignment_item}
use Rattle.reply_values.proofs.RollLemmas.{put_item}
use Rattle.reply_items.proofs.placement.shard_value.Given as goal

-- what is enrolled so far, and then the rest
abbrev pub invariant-loop-assignment : goal.invariant-loop-assignment
invariant-loop-assignment l =
    fold put_item (roll_entries l.roll) (map (assignment_item l.instances) (drop l.assignment-index l.assignments)) ≡ fold put_item [] (map (assignment_item l.instances) l.assignments)
