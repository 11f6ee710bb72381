use Rattle.std.proofs.Common.{◌≡◌, ◌+◌, ◌*◌, List, ℕ, [], ◌∷◌, ◌++◌, length, sym, ap, ◌∙◌, arith, append_assoc}
use Rattle.wire_bytes.specs.Volumes.{bits_from, number_of_bits}
use Rattle.volume_bytes.proofs.BitLemmas.{number_is, bits_more}
use Rattle.volume_bytes.proofs.bloom.push_bits.Goals as goal

pub loop-i-preserved : goal.loop-i-preserved
loop-i-preserved c =
    let rows = c.args.rows.now in
    let m = 16 * length rows in
    let i = c.loop-i.i in
    let byte = number_is rows c.args.bits.now c.requires.bits (8 * i) 8 (omega (arith, c.loop-i-test.true)) in
    c.in_ok-push.ensures.items
    ∙ ap (λ (b : ℕ). c.loop-i.out.items ++ b ∷ []) (c.byte_at.ensures ∙ byte)
    ∙ ap (λ (l : List ℕ). l ++ number_of_bits m rows (8 * i) 8 ∷ []) c.loop-i.invariant
    ∙ append_assoc c.args.out.now.items (bits_from m rows 0 i) (number_of_bits m rows (8 * i) 8 ∷ [])
    ∙ ap (λ (l : List ℕ). c.args.out.now.items ++ l) (sym (bits_more m rows i))
