use Rattle.std.proofs.Common.{ap, ◌∙◌}
use Rattle.std.specs.Ordering.{nat_cmp}
use Rattle.std.specs.Cmp.Lexicographic.{slice_cmp}
use Rattle.std.specs.FinMap.{put}
use Rattle.serde_json.specs.View.{view}
use Rattle.reply_values.specs.Order.{roll_entries}
use Rattle.reply_values.proofs.RollLemmas.{shown, shown-insert_entry}
use Rattle.reply_values.proofs.order.Roll.enroll.Goals as goal

pub returns-clause-ok : goal.returns-clause-ok
returns-clause-ok c =
    ap shown c.in_ok-insert.ensures.entries ∙ shown-insert_entry c.args.self.now.values.entries c.in_ok-name.name c.args.value
    ∙ ap (λ name. put (slice_cmp nat_cmp) name (view c.args.value) (roll_entries c.args.self.now)) c.in_ok-name.ensures.ok
