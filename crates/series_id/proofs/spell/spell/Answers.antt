use Rattle.std.proofs.Common.{refl, ◌∙◌, arith}
use Rattle.series_id.proofs.Spelled.{begun_none, begun_more, begun_all}
use Rattle.series_id.proofs.spell.spell.Goals as goal

pub loop-number-init : goal.loop-number-init
loop-number-init c = begun_none c.args.tags.now _ _ c.new-text.ensures.items refl

pub loop-number-preserved : goal.loop-number-preserved
loop-number-preserved c =
    begun_more c.args.tags.now c.loop-number.number c.index-tags-number.result c.loop-number.text.items c.push.new.self.items c.push_tag.new.text.items c.loop-number.before.now
    c.as_bytes-name.result.now c.as_bytes-value.result.now c.mark_before.result c.len-at.result c.loop-number.fault c.later_fault-fault.result
    c.loop-number-test.true c.index-tags-number.is (c.as_bytes-name.ensures.value ∙ c.as_str.ensures) (c.as_bytes-value.ensures.value ∙ c.as_str-in-loop-number.ensures)
    c.mark_before.ensures c.in_ok-push.ensures.items (omega (arith, c.len-at.ensures, c.push.new.self.ok.0)) c.in_ok-push_tag.ensures c.as_bytes-name.ensures.utf8 c.as_bytes-value.ensures.utf8
    c.loop-number.invariant c.later_fault-fault.ensures

pub returns : goal.returns
returns c = begun_all c.args.tags.now c.loop-number.number c.loop-number.text.items c.push-2.new.self.items c.loop-number.before.now c.loop-number.fault c.loop-number-test.false c.in_ok-push-2.ensures.items c.loop-number.invariant
