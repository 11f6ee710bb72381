use Rattle.std.proofs.Common.{◌≡◌, [], map, drop}
use Rattle.std.specs.Prelude.{fold, filter}
use Rattle.reply_values.specs.Order.{roll_entries}
use Rattle.reply_items.specs.Placements.{instance_item}
use Rattle.reply_values.proofs.RollLemmas.{put_item}
use Rattle.reply_items.proofs.placement.instances_value.Given as goal

-- what is enrolled so far, and then the rest
abbrev pub invariant-loop-instance : goal.invariant-loop-instance
invariant-loop-instance l =
    fold put_item (roll_entries l.roll) (map instance_item (filter (λ i. i.listed) (drop l.instance-index l.instances)))
    ≡ fold put_item [] (map instance_item (filter (λ i. i.listed) l.instances))
