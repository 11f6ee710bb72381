-- The texts of replies.
use Rattle.std.specs.Prelude.{ℕ, List, [], ◌∷◌, Option, codes}
use Rattle.serde_json.specs.Data.{Data}
use Rattle.serde_json.specs.Written.{compact_text}
use Rattle.m3_model.specs.declared.answer.Answer.{Answer}
use Rattle.m3_model.specs.declared.answer.Answer.TheVariants as answer
use Rattle.m3_model.specs.declared.placement.Instance.{Instance}
use Rattle.m3_model.specs.declared.placement.Placement.{Placement}
use Rattle.m3_model.specs.declared.turn.Reply.{Reply}
use Rattle.m3_model.specs.declared.turn.Reply.TheVariants as reply
use Rattle.reply_values.specs.Json.{object_of, list_of, natural}
use Rattle.reply_values.specs.Refusals.{plain_fields, unknown_fields, limit_fields, clock_fields, replica_fields, group_fields, state_fields, corrupt_fields}
use Rattle.reply_items.specs.Names.{instances_of}
use Rattle.reply_items.specs.Outcomes.{outcome_data, merged_data, swept_data, failed_data}
use Rattle.reply_items.specs.Placements.{placement_data}
use Rattle.reply_items.specs.Repairs.{repair_data}
use Rattle.reply_texts.specs.Texts.{ok_field, acks_fields, found_fields}
use Rattle.m3_replies.specs.Shortfalls.{quorum_fields}
use Rattle.reply_items.specs.Statuses.{status_data}

-- the fields of the answer to one request, in the order of their keys
abbrev pub answer_fields : List Instance → Answer → List (List ℕ × Data)
answer_fields instances answer.Done = ok_field ∷ []
answer_fields instances (answer.Placed placement version) = ok_field ∷ (codes "placement", placement_data placement) ∷ (codes "version", natural version) ∷ []
answer_fields instances (answer.Acks acks) = acks_fields instances acks
answer_fields instances (answer.Found series short) = found_fields series short
answer_fields instances (answer.Outcomes outcomes) = ok_field ∷ (codes "outcomes", list_of (outcome_data instances) outcomes) ∷ []
answer_fields instances (answer.Available available placement version) =
    (codes "available", list_of (merged_data instances) available) ∷ ok_field ∷ (codes "placement", placement_data placement) ∷ (codes "version", natural version) ∷ []
answer_fields instances (answer.Swept done failed) =
    (codes "done", list_of (swept_data instances) done) ∷ (codes "failed", list_of (failed_data instances) failed) ∷ ok_field ∷ []
answer_fields instances (answer.Repaired shards) = ok_field ∷ (codes "shards", list_of (repair_data instances) shards) ∷ []
answer_fields instances (answer.Status now replicas version) =
    (codes "now", natural now) ∷ ok_field ∷ (codes "replicas", list_of (status_data instances) replicas) ∷ (codes "version", natural version) ∷ []
answer_fields instances answer.Form = plain_fields 1 (codes "form")
answer_fields instances answer.Long = plain_fields 2 (codes "long")
answer_fields instances answer.Order = plain_fields 3 (codes "order")
answer_fields instances (answer.Unknown name) = unknown_fields name
answer_fields instances (answer.Limit limit) = limit_fields limit
answer_fields instances (answer.Clock now) = clock_fields now
answer_fields instances (answer.Consistency got needed reasons shard) = quorum_fields 7 (codes "consistency") instances got needed reasons shard
answer_fields instances (answer.Busy node shard) = replica_fields 8 (codes "busy") node shard
answer_fields instances (answer.Group shard) = group_fields shard
answer_fields instances (answer.Peers got needed reasons shard) = quorum_fields 10 (codes "peers") instances got needed reasons shard
answer_fields instances (answer.Disk node shard) = replica_fields 11 (codes "disk") node shard
answer_fields instances (answer.State node) = state_fields node
answer_fields instances answer.Memory = plain_fields 13 (codes "memory")
answer_fields instances answer.Full = plain_fields 14 (codes "full")
answer_fields instances (answer.Corrupt node shard damage) = corrupt_fields node shard damage
answer_fields instances answer.Later = plain_fields 16 (codes "later")

-- the answer as an object
abbrev pub answer_data : List Instance → Answer → Data
answer_data instances a = object_of (answer_fields instances a)

-- lists of answers, in the places of their requests
abbrev pub answers_data : List Instance → List (List Answer) → Data
answers_data instances lists = list_of (list_of (answer_data instances)) lists

-- the fields of a reply, where the names of nodes come from these instances
abbrev pub reply_fields : List Instance → Reply → List (List ℕ × Data)
reply_fields instances (reply.One a) = answer_fields instances a
reply_fields instances (reply.Par clients workers) =
    (codes "clients", answers_data instances clients) ∷ ok_field ∷ (codes "workers", answers_data instances workers) ∷ []

-- the reply as an object
abbrev pub reply_data : List Instance → Reply → Data
reply_data instances r = object_of (reply_fields instances r)

-- the reply as compact JSON, with no newline; the names of nodes come from the placement
abbrev pub reply_text : Option Placement → Reply → List ℕ
reply_text place r = compact_text (reply_data (instances_of place) r)
