use Rattle.std.proofs.Common.{ap, ap₂, ◌∙◌, ◌≡◌, subst}
use Rattle.std.specs.Cmp.Lexicographic.{slice_cmp}
use Rattle.std.specs.FinMap.{put}
use Rattle.std.specs.Ordering.{nat_cmp}
use Rattle.reply_values.specs.Order.{roll_entries}
use Rattle.std.proofs.lemmas.List.{drop_all}
use Rattle.std.specs.Prelude.{IfOk, None}
use Rattle.m3_model.specs.declared.placement.Assignment.{Assignment}
use Rattle.m3_model.specs.declared.placement.ShardState.TheVariants.{Initializing}
use Rattle.serde_json.specs.Data.{Data}
use Rattle.serde_json.specs.View.{view}
use Rattle.reply_values.specs.Json.{array_of}
use Rattle.reply_items.specs.Placements.{assignment_item}
use Rattle.reply_values.proofs.RollLemmas.{enrolled_turn, enrolled_all}
use Rattle.reply_items.proofs.placement.shard_value.Goals as goal

-- the assignment of zeros, which the lemma takes
abbrev blank : Assignment
blank = record { node = 0; tenure = 0; state = Initializing; source = None }

pub loop-assignment-preserved : goal.loop-assignment-preserved
loop-assignment-preserved c =
    let placed = c.in_ok-enroll.ensures.ok ∙ ap₂ (λ name value. put (slice_cmp nat_cmp) name value (roll_entries c.loop-assignment.roll)) c.node_name.ensures c.in_ok-value.ensures in
    enrolled_turn (assignment_item c.args.instances.now) c.args.assignments.now c.loop-assignment.assignment-index blank _ _ _ c.loop-assignment-test.true placed c.loop-assignment.invariant

pub returns : goal.returns
returns c =
    let all = enrolled_all (assignment_item c.args.instances.now) c.args.assignments.now _ _ (drop_all c.loop-assignment.assignment-index c.args.assignments.now c.loop-assignment-test.false) c.loop-assignment.invariant in
    let Prints : Data → Type 0 = λ d. IfOk c.into_list.result (λ value. view value ≡ d) in
    subst Prints (ap array_of all) c.into_list.ensures
