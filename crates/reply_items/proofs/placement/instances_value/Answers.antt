use Rattle.std.proofs.Common.{ap, ap₂, ◌∙◌, ◌≡◌, subst}
use Rattle.std.specs.Cmp.Lexicographic.{slice_cmp}
use Rattle.std.specs.FinMap.{put}
use Rattle.std.specs.Ordering.{nat_cmp}
use Rattle.reply_values.specs.Order.{roll_entries}
use Rattle.std.proofs.lemmas.List.{drop_all}
use Rattle.std.specs.Prelude.{IfOk, filter}
use Rattle.serde_json.specs.Data.{Data}
use Rattle.serde_json.specs.View.{view}
use Rattle.reply_values.specs.Json.{array_of}
use Rattle.reply_items.specs.Placements.{instance_item}
use Rattle.reply_values.proofs.RollLemmas.{passed_turn, refused_turn, enrolled_all}
use Rattle.reply_items.proofs.placement.instances_value.Goals.{then-instance+in_ok-value+in_ok-enroll, else-instance}
use Rattle.reply_items.proofs.placement.instances_value.Goals as goal

pub loop-instance-preserved : goal.loop-instance-preserved
loop-instance-preserved c =
    elim c.if-instance.branch [
      | then-instance+in_ok-value+in_ok-enroll w ↦
          let placed = ap roll_entries w.roll-is ∙ w.in_ok-enroll.ensures.ok
          ∙ ap₂ (λ name value. put (slice_cmp nat_cmp) name value (roll_entries c.loop-instance.roll)) w.as_str.ensures w.in_ok-value.ensures in
          passed_turn instance_item (λ i. i.listed) c.args.instances.now c.loop-instance.instance-index c.instance-item.result _ _ _ c.loop-instance-test.true c.instance-item.is w.if-instance.true placed c.loop-instance.invariant
      | else-instance w ↦
          refused_turn instance_item (λ i. i.listed) c.args.instances.now c.loop-instance.instance-index c.instance-item.result _ _ _ c.loop-instance-test.true c.instance-item.is w.if-instance.false (ap roll_entries w.roll-is) c.loop-instance.invariant
    ]

pub returns : goal.returns
returns c =
    let listed = filter (λ i. i.listed) c.args.instances.now in
    let none = ap (filter (λ i. i.listed)) (drop_all c.loop-instance.instance-index c.args.instances.now c.loop-instance-test.false) in
    let all = enrolled_all instance_item listed _ _ none c.loop-instance.invariant in
    let Prints : Data → Type 0 = λ d. IfOk c.into_list.result (λ value. view value ≡ d) in
    subst Prints (ap array_of all) c.into_list.ensures
