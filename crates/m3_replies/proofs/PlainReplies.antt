-- Replies have no float, and nest at most eight deep.
use Rattle.std.proofs.Common.{◌≡◌, ◌≤◌, ℕ, ℤ, suc, ap, subst, Bool, true, false, List, [], ◌∷◌, arith}
use Rattle.std.specs.Prelude.{Option, Some, None, filter}
use Rattle.serde_json.specs.Data.{Data, boolean, string, depth}
use Rattle.serde_json.specs.Read.{read, max_depth}
use Rattle.serde_json.specs.Written.{compact_text}
use Rattle.m3_model.specs.declared.answer.Answer.{Answer}
use Rattle.m3_model.specs.declared.answer.Answer.TheVariants as answer
use Rattle.m3_model.specs.declared.answer.RepairLine.{RepairLine}
use Rattle.m3_model.specs.declared.answer.StatusLine.{StatusLine}
use Rattle.m3_model.specs.declared.placement.Assignment.{Assignment}
use Rattle.m3_model.specs.declared.placement.Instance.{Instance}
use Rattle.m3_model.specs.declared.placement.Placement.{Placement}
use Rattle.m3_model.specs.declared.point.Series.{Series}
use Rattle.m3_model.specs.declared.reason.Damage.{Damage}
use Rattle.m3_model.specs.declared.reason.Damage.TheVariants as damage
use Rattle.m3_model.specs.declared.reason.Reason.{Reason}
use Rattle.m3_model.specs.declared.reason.Reason.TheVariants as reason
use Rattle.m3_model.specs.declared.turn.Reply.{Reply}
use Rattle.m3_model.specs.declared.turn.Reply.TheVariants as reply
use Rattle.reply_values.specs.Json.{list_of, natural}
use Rattle.reply_items.specs.Names.{node_name, node_data}
use Rattle.reply_items.specs.Outcomes.{outcome_data, merged_data, swept_data, failed_data}
use Rattle.reply_items.specs.Placements.{instance_item, assignment_item, source_items, shard_data, placement_data}
use Rattle.reply_items.specs.Reasons.{fence_items, reason_items, reason_data}
use Rattle.reply_values.specs.Refusals.{corrupt_fields}
use Rattle.m3_replies.specs.Shortfalls.{quorum_fields}
use Rattle.reply_items.specs.Repairs.{digest_data, repair_data}
use Rattle.m3_replies.specs.Replies.{answer_fields, answer_data, reply_data}
use Rattle.reply_items.specs.Series.{pair_data, series_data}
use Rattle.reply_items.specs.Statuses.{status_data}
use Rattle.m3_replies.proofs.PlainLemmas.{IsPlain, ArePlain, HavePlain, plain_text, plain_flag, plain_natural, plain_integer, plain_higher, no_items_plain, item_plain, plain_array, plain_list, no_fields_plain, field_plain, plain_object, by_name_plain}

pair_plain : (p : ℕ × ℤ) → IsPlain 1 (pair_data p)
pair_plain p = plain_array 0 (item_plain (plain_natural 0 p.0) (item_plain (plain_integer 0 p.1) (no_items_plain 0)))

series_plain : (s : Series) → IsPlain 3 (series_data s)
series_plain s = plain_object 2 (field_plain (plain_text 2 s.id) (field_plain (plain_list 1 pair_data pair_plain s.points) (no_fields_plain 2)))

-- ---- reasons

fence_plain : (r : Reason) → ArePlain 0 (fence_items r)
fence_plain (reason.Stale fence) = item_plain (plain_natural 0 fence) (no_items_plain 0)
fence_plain _ = no_items_plain 0

reason_items_plain : (r : Reason) → ArePlain 0 (reason_items r)
reason_items_plain r = item_plain (plain_text 0 _) (fence_plain r)

node_plain : (n : ℕ) (instances : List Instance) (node : ℕ) → IsPlain n (node_data instances node)
node_plain n instances node = plain_text n (node_name instances node)

reason_plain : (instances : List Instance) (r : ℕ × Reason) → IsPlain 1 (reason_data instances r)
reason_plain instances r = plain_array 0 (item_plain (node_plain 0 instances r.0) (reason_items_plain r.1))

reasons_plain : (instances : List Instance) (rs : List (ℕ × Reason)) → IsPlain 2 (list_of (reason_data instances) rs)
reasons_plain instances rs = plain_list 1 (reason_data instances) (reason_plain instances) rs

-- ---- placements

instance_plain : (i : Instance) → IsPlain 1 (instance_item i).1
instance_plain i = plain_array 0 (item_plain (plain_text 0 i.name) (item_plain (plain_text 0 i.group) (item_plain (plain_flag 0 i.drained) (no_items_plain 0))))

source_plain : (instances : List Instance) (source : Option ℕ) → ArePlain 0 (source_items instances source)
source_plain instances None = no_items_plain 0
source_plain instances (Some node) = item_plain (node_plain 0 instances node) (no_items_plain 0)

assignment_plain : (instances : List Instance) (a : Assignment) → IsPlain 1 (assignment_item instances a).1
assignment_plain instances a =
    plain_array 0 (item_plain (node_plain 0 instances a.node) (item_plain (plain_text 0 _) (item_plain (plain_natural 0 a.tenure) (source_plain instances a.source))))

shard_plain : (instances : List Instance) (assignments : List Assignment) → IsPlain 2 (shard_data instances assignments)
shard_plain instances assignments = plain_array 1 (by_name_plain 1 (assignment_item instances) (assignment_plain instances) assignments)

placement_plain : (p : Placement) → IsPlain 4 (placement_data p)
placement_plain p =
    plain_object 3
    (field_plain (plain_higher (omega arith) (plain_array 1 (by_name_plain 1 instance_item instance_plain (filter (λ i. i.listed) p.instances))))
    (field_plain (plain_natural 3 p.rf) (field_plain (plain_list 2 (shard_data p.instances) (shard_plain p.instances) p.shards) (no_fields_plain 3))))

-- ---- what calls did

outcome_plain : (instances : List Instance) (o : ℕ × ℕ × Option Reason) → IsPlain 1 (outcome_data instances o)
outcome_plain instances (node, shard, None) = plain_array 0 (item_plain (node_plain 0 instances node) (item_plain (plain_natural 0 shard) (item_plain (plain_text 0 _) (no_items_plain 0))))
outcome_plain instances (node, shard, Some r) = plain_array 0 (item_plain (node_plain 0 instances node) (item_plain (plain_natural 0 shard) (reason_items_plain r)))

merged_plain : (instances : List Instance) (m : ℕ × List ℕ) → IsPlain 2 (merged_data instances m)
merged_plain instances m =
    plain_array 1 (item_plain (plain_natural 1 m.0) (item_plain (plain_list 0 (node_data instances) (node_plain 0 instances) m.1) (no_items_plain 1)))

swept_plain : (instances : List Instance) (d : ℕ × ℕ × ℕ) → IsPlain 1 (swept_data instances d)
swept_plain instances d = plain_array 0 (item_plain (node_plain 0 instances d.0) (item_plain (plain_natural 0 d.1) (item_plain (plain_natural 0 d.2) (no_items_plain 0))))

failed_plain : (instances : List Instance) (f : ℕ × ℕ × Reason) → IsPlain 1 (failed_data instances f)
failed_plain instances f = plain_array 0 (item_plain (node_plain 0 instances f.0) (item_plain (plain_natural 0 f.1) (reason_items_plain f.2)))

digest_plain : (instances : List Instance) (d : ℕ × List ℕ) → IsPlain 1 (digest_data instances d)
digest_plain instances d = plain_array 0 (item_plain (node_plain 0 instances d.0) (item_plain (plain_text 0 _) (no_items_plain 0)))

repair_plain : (instances : List Instance) (r : RepairLine) → IsPlain 3 (repair_data instances r)
repair_plain instances r =
    plain_object 2
    (field_plain (plain_list 1 (digest_data instances) (digest_plain instances) r.digests)
    (field_plain (reasons_plain instances r.failed) (field_plain (plain_natural 2 r.merged) (field_plain (plain_natural 2 r.shard) (no_fields_plain 2)))))

status_plain : (instances : List Instance) (s : StatusLine) → IsPlain 1 (status_data instances s)
status_plain instances s =
    plain_object 0
    (field_plain (plain_natural 0 s.buffered)
    (field_plain (plain_natural 0 s.fence)
    (field_plain (node_plain 0 instances s.node)
    (field_plain (plain_natural 0 s.segments)
    (field_plain (plain_natural 0 s.shard)
    (field_plain (plain_natural 0 s.snapshot) (field_plain (plain_text 0 _) (field_plain (plain_text 0 _) (field_plain (plain_natural 0 s.volumes) (no_fields_plain 0))))))))))

-- ---- answers

-- two fields that texts or numbers stand in, as most refusals have them
code_plain : {fields : List (List ℕ × Data)} {k l : List ℕ} (code : ℕ) (error : List ℕ) → HavePlain 4 fields → HavePlain 4 ((k, natural code) ∷ (l, string error) ∷ fields)
code_plain code error rest = field_plain (plain_natural 4 code) (field_plain (plain_text 4 error) rest)

ok_plain : {k : List ℕ} {fields : List (List ℕ × Data)} (b : Bool) → HavePlain 4 fields → HavePlain 4 ((k, boolean b) ∷ fields)
ok_plain b rest = field_plain (plain_flag 4 b) rest

listed_plain : {X : Type 0} {k : List ℕ} {fields : List (List ℕ × Data)} (n : ℕ) (f : X → Data) → ((x : X) → IsPlain n (f x)) → (xs : List X) → suc n ≤ 4 → HavePlain 4 fields
    → HavePlain 4 ((k, list_of f xs) ∷ fields)
listed_plain n f each xs below rest = field_plain (plain_higher below (plain_list n f each xs)) rest

abbrev done : HavePlain 4 []
done = no_fields_plain 4

corrupt_plain : (node : List ℕ) (shard : ℕ) (d : Damage) → HavePlain 4 (corrupt_fields node shard d)
corrupt_plain node shard (damage.Digest file kept found) =
    code_plain 15 _ (field_plain (plain_text 4 file) (field_plain (plain_text 4 _) (field_plain (plain_text 4 _) (field_plain (plain_text 4 node) (ok_plain false (field_plain (plain_natural 4 shard) done))))))
corrupt_plain node shard (damage.Form file at) =
    field_plain (plain_natural 4 at) (code_plain 15 _ (field_plain (plain_text 4 file) (field_plain (plain_text 4 node) (ok_plain false (field_plain (plain_natural 4 shard) done)))))

quorum_plain : (instances : List Instance) (code : ℕ) (error : List ℕ) (got needed : ℕ) (reasons : List (ℕ × Reason)) (shard : ℕ) → HavePlain 4 (quorum_fields code error instances got needed reasons shard)
quorum_plain instances code error got needed reasons shard =
    code_plain code error
    (field_plain (plain_natural 4 got)
    (field_plain (plain_natural 4 needed)
    (ok_plain false (field_plain (plain_higher (omega arith) (reasons_plain instances reasons)) (field_plain (plain_natural 4 shard) done)))))

answer_fields_plain : (instances : List Instance) (a : Answer) → HavePlain 4 (answer_fields instances a)
answer_fields_plain instances answer.Done = ok_plain true done
answer_fields_plain instances (answer.Placed placement version) = ok_plain true (field_plain (placement_plain placement) (field_plain (plain_natural 4 version) done))
answer_fields_plain instances (answer.Acks acks) = listed_plain 0 (node_data instances) (node_plain 0 instances) acks (omega arith) (ok_plain true done)
answer_fields_plain instances (answer.Found series short) = ok_plain true (listed_plain 3 series_data series_plain series (omega arith) (field_plain (plain_flag 4 short) done))
answer_fields_plain instances (answer.Outcomes outcomes) = ok_plain true (listed_plain 1 (outcome_data instances) (outcome_plain instances) outcomes (omega arith) done)
answer_fields_plain instances (answer.Available available placement version) =
    listed_plain 2 (merged_data instances) (merged_plain instances) available (omega arith) (ok_plain true (field_plain (placement_plain placement) (field_plain (plain_natural 4 version) done)))
answer_fields_plain instances (answer.Swept finished failed) =
    listed_plain 1 (swept_data instances) (swept_plain instances) finished (omega arith) (listed_plain 1 (failed_data instances) (failed_plain instances) failed (omega arith) (ok_plain true done))
answer_fields_plain instances (answer.Repaired shards) = ok_plain true (listed_plain 3 (repair_data instances) (repair_plain instances) shards (omega arith) done)
answer_fields_plain instances (answer.Status now replicas version) =
    field_plain (plain_natural 4 now) (ok_plain true (listed_plain 1 (status_data instances) (status_plain instances) replicas (omega arith) (field_plain (plain_natural 4 version) done)))
answer_fields_plain instances answer.Form = code_plain 1 _ (ok_plain false done)
answer_fields_plain instances answer.Long = code_plain 2 _ (ok_plain false done)
answer_fields_plain instances answer.Order = code_plain 3 _ (ok_plain false done)
answer_fields_plain instances (answer.Unknown name) = code_plain 4 _ (field_plain (plain_text 4 name) (ok_plain false done))
answer_fields_plain instances (answer.Limit limit) = code_plain 5 _ (field_plain (plain_natural 4 limit) (ok_plain false done))
answer_fields_plain instances (answer.Clock now) = code_plain 6 _ (field_plain (plain_natural 4 now) (ok_plain false done))
answer_fields_plain instances (answer.Consistency got needed reasons shard) = quorum_plain instances 7 _ got needed reasons shard
answer_fields_plain instances (answer.Busy node shard) = code_plain 8 _ (field_plain (plain_text 4 node) (ok_plain false (field_plain (plain_natural 4 shard) done)))
answer_fields_plain instances (answer.Group shard) = code_plain 9 _ (ok_plain false (field_plain (plain_natural 4 shard) done))
answer_fields_plain instances (answer.Peers got needed reasons shard) = quorum_plain instances 10 _ got needed reasons shard
answer_fields_plain instances (answer.Disk node shard) = code_plain 11 _ (field_plain (plain_text 4 node) (ok_plain false (field_plain (plain_natural 4 shard) done)))
answer_fields_plain instances (answer.State node) = code_plain 12 _ (field_plain (plain_text 4 node) (ok_plain false done))
answer_fields_plain instances answer.Memory = code_plain 13 _ (ok_plain false done)
answer_fields_plain instances answer.Full = code_plain 14 _ (ok_plain false done)
answer_fields_plain instances (answer.Corrupt node shard d) = corrupt_plain node shard d
answer_fields_plain instances answer.Later = code_plain 16 _ (ok_plain false done)

answer_plain : (instances : List Instance) (a : Answer) → IsPlain 5 (answer_data instances a)
answer_plain instances a = plain_object 4 (answer_fields_plain instances a)

answers_plain : (instances : List Instance) (answers : List Answer) → IsPlain 6 (list_of (answer_data instances) answers)
answers_plain instances answers = plain_list 5 (answer_data instances) (answer_plain instances) answers

pub reply_plain : (instances : List Instance) (r : Reply) → IsPlain 8 (reply_data instances r)
reply_plain instances (reply.One a) = plain_higher (omega arith) (answer_plain instances a)
reply_plain instances (reply.Par clients workers) =
    plain_object 7
    (field_plain (plain_list 6 (list_of (answer_data instances)) (answers_plain instances) clients)
    (field_plain (plain_flag 7 true) (field_plain (plain_list 6 (list_of (answer_data instances)) (answers_plain instances) workers) (no_fields_plain 7))))

-- a reply's compact text reads as its JSON where one that isn't too deep does
pub shallow_read : (instances : List Instance) (r : Reply) (d : Data) → (depth d ≤ max_depth → read (compact_text d) ≡ Some d) → d ≡ reply_data instances r → read (compact_text (reply_data instances r)) ≡ Some (reply_data instances r)
shallow_read instances r d told same = subst (λ e. read (compact_text e) ≡ Some e) same (told (omega (arith, ap depth same, (reply_plain instances r).shallow)))
