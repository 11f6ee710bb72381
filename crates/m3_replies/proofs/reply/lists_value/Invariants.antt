use Rattle.std.proofs.Common.{◌≡◌, map, take}
use Rattle.serde_json.specs.View.{view}
use Rattle.reply_values.specs.Json.{list_of}
use Rattle.m3_replies.specs.Replies.{answer_data}
use Rattle.m3_replies.proofs.reply.lists_value.Given as goal

abbrev pub invariant-loop-list : goal.invariant-loop-list
invariant-loop-list l = map view l.values.items ≡ map (list_of (answer_data l.instances)) (take l.list-index l.lists)
