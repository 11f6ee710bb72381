use Rattle.std.proofs.Common.{Some, sym, ap, ◌∙◌}
use Rattle.serde_json.specs.Find.{as_array}
use Rattle.line_parse.specs.Contents.{content, contents}
use Rattle.line_parse.proofs.Levels.{content-Array}
use Rattle.line_parse.proofs.values.as_array.Goals as goal

pub returns-in-Array : goal.returns-in-Array
returns-in-Array c =
    ap (λ items. Some (contents items)) c.as_slice.ensures.value ∙ sym (ap as_array (ap content c.in-Array.is ∙ content-Array c.in-Array.items))
