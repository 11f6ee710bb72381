use Rattle.std.proofs.Common.{map, ap, ◌∙◌}
use Rattle.serde_json.proofs.Views.{view-Array}
use Rattle.serde_json.specs.View.{view}
use Rattle.reply_values.specs.Json.{array_of}
use Rattle.reply_values.proofs.RollLemmas.{map-values}
use Rattle.reply_values.proofs.order.Roll.into_list.Goals as goal

pub returns : goal.returns
returns c =
    let vec = c.in_ok-values_in_order.field-0 in
    view-Array vec ∙ ap array_of (ap (map view) c.in_ok-values_in_order.ensures ∙ map-values c.args.self.values.entries)
