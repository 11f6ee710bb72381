use Rattle.std.proofs.Common.{sym, ap, ◌+◌, ◌∙◌}
use Rattle.std.proofs.lemmas.List.{take_rest}
use Rattle.series_id.specs.Faults.{escapes_nothing}
use Rattle.series_id.proofs.Spellings.{spelled_plain, spelled_marked}
use Rattle.series_id.proofs.scan.spelling_len.Goals as goal

pub loop-n-preserved-then-byte-ne92 : goal.loop-n-preserved-then-byte-ne92
loop-n-preserved-then-byte-ne92 c = spelled_plain c.args.text.now c.loop-n.n c.loop-n.invariant c.loop-n-test.true c.if-byte-eq-QUOTE.false c.if-byte-ne92.true

pub loop-n-preserved : goal.loop-n-preserved
loop-n-preserved c =
    spelled_marked c.args.text.now c.loop-n.n c.loop-n.invariant c.loop-n-test.true c.if-byte-ne92.false
    (ap escapes_nothing (sym (take_rest c.args.text.now (c.loop-n.n + 1))) ∙ sym c.escapes_nothing.ensures ∙ c.if-escapes_nothing.false)
