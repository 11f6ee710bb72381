use Rattle.std.proofs.Common.{◌≡◌, ℕ, ℤ, ◌+◌, List, length, sym, ap, subst, ◌∙◌, arith, w64, to_z, of_z}
use Rattle.std.proofs.lemmas.Int.{to_z-of_z, of_z-to_z}
use Rattle.std.proofs.lemmas.List.{length_push}
use Rattle.fileset_read.proofs.LeftLemmas.{PairsLeft, next_pair, pair_read}
use Rattle.fileset_read.proofs.series.read_pairs.Goals as goal

pub returns-in_err-t : goal.returns-in_err-t
returns-in_err-t c = λ xs rest pairs long stands.
    let test = c.loop-i-test.true in
    let counted = c.loop-i.invariant.counted in
    let offset = c.loop-i.invariant.offset in
    let n = next_pair xs c.loop-i.pairs.items rest c.args.bytes.now c.loop-i.at (c.loop-i.invariant.left xs rest pairs long stands) (omega (arith, test, counted, long)) (let inside = c.requires in omega (arith, offset, inside, test)) in
    let no = c.in_err-t.ensures.whole n.one.0 (let fits = n.fits in omega (arith, fits)) n.time in
    absurd (cc)

pub returns-in_err-v : goal.returns-in_err-v
returns-in_err-v c = λ xs rest pairs long stands.
    let test = c.loop-i-test.true in
    let counted = c.loop-i.invariant.counted in
    let offset = c.loop-i.invariant.offset in
    let n = next_pair xs c.loop-i.pairs.items rest c.args.bytes.now c.loop-i.at (c.loop-i.invariant.left xs rest pairs long stands) (omega (arith, test, counted, long)) (let inside = c.requires in omega (arith, offset, inside, test)) in
    let no = c.in_err-v.ensures.whole _ (let word = n.word in omega (arith, word)) n.value in
    absurd (cc)

pub loop-i-preserved : goal.loop-i-preserved
loop-i-preserved c =
    let test = c.loop-i-test.true in
    let counted = c.loop-i.invariant.counted in
    let offset = c.loop-i.invariant.offset in
    let old = c.loop-i.pairs.items in
    let pushed = c.in_ok-push.ensures.items in
    record {
      offset = omega (arith, offset);
      counted = ap length pushed ∙ length_push old _ ∙ ap (λ (n : ℕ). n + 1) counted;
      left = λ xs rest pairs long stands.
          let n = next_pair xs old rest c.args.bytes.now c.loop-i.at (c.loop-i.invariant.left xs rest pairs long stands) (omega (arith, test, counted, long)) (let inside = c.requires in omega (arith, offset, inside, test)) in
          let t = c.in_ok-t.ensures.whole n.one.0 (let fits = n.fits in omega (arith, fits)) n.time in
          let v = c.in_ok-v.ensures.whole _ (let word = n.word in omega (arith, word)) n.value in
          let time : c.in_ok-t.t ≡ n.one.0 = cc in
          let word : c.in_ok-v.v ≡ _ = cc in
          let value : to_z w64 (of_z w64 c.cast_signed.result) ≡ n.one.1 =
          ap (λ z. to_z w64 (of_z w64 z)) c.cast_signed.ensures ∙ ap (to_z w64) (of_z-to_z w64 c.in_ok-v.v c.in_ok-v.ensures.fits) ∙ ap (to_z w64) word ∙ to_z-of_z w64 n.one.1 n.signed in
          subst (λ (l : List (ℕ × ℤ)). PairsLeft xs l rest c.args.bytes.now (c.loop-i.at + 16)) (sym pushed) (pair_read xs old rest c.args.bytes.now c.loop-i.at c.in_ok-t.t (to_z w64 (of_z w64 c.cast_signed.result)) n time value);
    }
