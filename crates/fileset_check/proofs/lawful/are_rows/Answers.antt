use Rattle.std.proofs.Common.{◌≡◌, ◌+◌, ◌↔◌, [], drop, get_or, refl, sym, ap, subst, ◌∙◌, rules}
use Rattle.std.proofs.lemmas.Str.{IsUtf8-nil}
use Rattle.fileset_read.specs.m3_model.Tags.{IsBelow}
use Rattle.fileset_read.specs.m3_model.declared.point.Series.{Series}
use Rattle.fileset_check.specs.Lawful.{AreRows, IsRowIn}
use Rattle.fileset_check.proofs.LawfulLemmas.{row_more, rows_end}
use Rattle.fileset_check.proofs.lawful.are_rows.Goals as goal

pub loop-row-init : goal.loop-row-init
loop-row-init c = record { text = IsUtf8-nil; left = (λ a. a, λ a. a) }

pub cmp-requires-text-self : goal.cmp-requires-text-self
cmp-requires-text-self c κs = c.loop-row.invariant.text

pub loop-row-preserved : goal.loop-row-preserved
loop-row-preserved c =
    let rows = c.args.rows.now in
    let i = c.loop-row.row-index in
    let item = c.row-item.result in
    let same : get_or rows i item ≡ item = search (rules, c.row-item.is) in
    let below : IsBelow c.loop-row.last.now item.id = search rules in
    let is : IsRowIn c.args.start c.args.end item = c.is_row.ensures.0 c.if-not-is_row.false in
    let more = row_more rows i item c.loop-row-test.true c.args.start c.args.end c.loop-row.last.now c.loop-row.invariant.left (subst (λ (s : Series). IsBelow c.loop-row.last.now s.id) (sym same) below) (subst (IsRowIn c.args.start c.args.end) (sym same) is) in
    let last : (get_or rows i item).id ≡ c.as_str-last.result.now = ap (λ (s : Series). s.id) same ∙ sym c.as_str-last.ensures in
    record { text = c.as_str-last.utf8; left = subst (λ l. AreRows c.args.start c.args.end l (drop (i + 1) rows) ↔ AreRows c.args.start c.args.end [] rows) last more }

pub returns : goal.returns
returns c = (λ is. rows_end c.args.rows.now c.loop-row.row-index c.args.start c.args.end c.loop-row.last.now c.loop-row-test.false c.loop-row.invariant.left, λ a. refl)
