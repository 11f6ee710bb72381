use Rattle.std.proofs.Common.{◌≡◌, map, take}
use Rattle.serde_json.specs.View.{view}
use Rattle.m3_replies.specs.Replies.{answer_data}
use Rattle.m3_replies.proofs.reply.answers_value.Given as goal

abbrev pub invariant-loop-answer : goal.invariant-loop-answer
invariant-loop-answer l = map view l.values.items ≡ map (answer_data l.instances) (take l.answer-index l.answers)
