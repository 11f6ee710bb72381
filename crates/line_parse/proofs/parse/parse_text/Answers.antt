use Rattle.std.proofs.Common.{◌≡◌, [], Some, sym, rules}
use Rattle.json.specs.Json.{value}
use Rattle.json.specs.Lex.{tokens}
use Rattle.json.specs.Value.{value_view}
use Rattle.serde_json.specs.Read.{max_depth}
use Rattle.line_parse.proofs.WholeTexts.{read_valued, read_valueless}
use Rattle.line_parse.proofs.parse.parse_text.Goals as goal

pub returns-then-has_values-clause-ok : goal.returns-then-has_values-clause-ok
returns-then-has_values-clause-ok c =
    let j = value_view c.in_ok-value.value in
    let none : c.read.new.reader ≡ [] = search rules in
    let whole : value max_depth (tokens c.args.text.now) ≡ Some (j, []) = rw (c.in_ok-reader.ensures.ok, none) at c.in_ok-value.ensures.ok in
    read_valued c.args.text.now j whole (sym c.if-has_values.ensures)

pub returns-clause-err : goal.returns-clause-err
returns-clause-err c other =
    let j = value_view c.in_ok-value.value in
    let none : c.read.new.reader ≡ [] = search rules in
    let whole : value max_depth (tokens c.args.text.now) ≡ Some (j, []) = rw (c.in_ok-reader.ensures.ok, none) at c.in_ok-value.ensures.ok in
    read_valueless c.args.text.now j whole (sym c.if-has_values.ensures)
