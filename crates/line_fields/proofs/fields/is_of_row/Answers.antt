use Rattle.std.proofs.Common.{sym, ◌∙◌, ap, false}
use Rattle.std.specs.Option.{option_map, option_map_or}
use Rattle.std.proofs.Math.Bool.{and-true}
use Rattle.json.specs.Value.{members_view}
use Rattle.serde_json.specs.Data.{no_members}
use Rattle.line_parse.specs.Contents.{members_data}
use Rattle.line_fields.specs.Fields.{has_only, keys_within}
use Rattle.line_fields.proofs.Keys.{keys_within-members_data}
use Rattle.line_fields.proofs.fields.is_of_row.Goals as goal

pub returns-in-Some : goal.returns-in-Some
unfolding has_only
returns-in-Some g c =
    let members = c.in-Some.members.now in
    let object = sym c.as_object.ensures ∙ ap (option_map (λ m. members_data (members_view m.now) no_members)) c.in-Some.is in
    c.are_of_row.ensures ∙ sym (ap (λ o. option_map_or (keys_within g.R.Row.keys) o false) object ∙ keys_within-members_data g.R.Row.keys members no_members ∙ and-true _)
