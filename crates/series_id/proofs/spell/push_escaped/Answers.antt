use Rattle.std.proofs.Common.{◌++◌, [], ◌∷◌, take, get_or, sym, ap, ◌∙◌, append_assoc}
use Rattle.m3_model.specs.Tags.{escaped}
use Rattle.series_id.proofs.Spelled.{escaped_take}
use Rattle.series_id.proofs.spell.push_escaped.Goals as goal

pub loop-byte-preserved : goal.loop-byte-preserved
loop-byte-preserved c =
    let value = c.args.value.now in
    let n = c.loop-byte.byte-index in
    let more = escaped (get_or value n 0 ∷ []) in
    c.in_ok-push_byte.ensures ∙ ap (λ xs. xs ++ more) c.loop-byte.invariant ∙ append_assoc c.args.text.now.items (escaped (take n value)) more
    ∙ ap (λ xs. c.args.text.now.items ++ xs) (sym (escaped_take value n c.loop-byte-test.true))
