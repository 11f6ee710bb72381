use Rattle.std.proofs.Common.{◌≡◌, Option, Some, None, option_map, Bor, Global, refl, sym, ap, ◌∙◌}
use Rattle.json.specs.Find as find
use Rattle.json.specs.Json.{object}
use Rattle.json.specs.Value.{value_view, members_view}
use Rattle.json.specs.declared.value.Value.{Value}
use Rattle.json.proofs.Trees.{view-Object}
use Rattle.line_parse.specs.Contents.{data_of, content}
use Rattle.line_parse.proofs.Levels.{get-data_of}
use Rattle.line_parse.proofs.values.get.Goals as goal

content_of_ref : (r : Option (Bor (Value Global))) → option_map (λ v. content v.now) r ≡ option_map data_of (option_map (λ v. value_view v.now) r)
content_of_ref None = refl
content_of_ref (Some v) = refl

pub returns-in-Object : goal.returns-in-Object
returns-in-Object c =
    let key = c.args.key.now in
    let is : value_view c.args.value.now ≡ object (members_view c.in-Object.members.items) = ap value_view c.in-Object.is ∙ view-Object c.in-Object.members in
    content_of_ref c.last_member.result ∙ ap (option_map data_of) c.last_member.ensures
    ∙ sym (get-data_of key (value_view c.args.value.now) ∙ ap (λ j. option_map data_of (find.get key j)) is)
