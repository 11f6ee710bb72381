use Rattle.std.proofs.Common.{◌≡◌, ℕ, List, ◌≤◌, ◌+◌, ◌-◌, ◌++◌, ◌∙◌, take, drop, length, sym, ap, arith, take-append-drop}
use Rattle.std.proofs.Math.Seq.{take-add}
use Rattle.std.proofs.lemmas.List.{take_at, drop-drop, length-take-le}
use Rattle.m3_outside.proofs.mem_source.copy_from.Goals as goal

-- what was copied to the front of a buffer
given : (bytes buf copied : List ℕ) (at n : ℕ) → n ≤ length buf → length copied ≡ length (take n buf) → copied ≡ take (at + n - at) (drop at bytes) → take n (copied ++ drop n buf) ≡ take n (drop at bytes)
given bytes buf copied at n fits len after = take_at copied (drop n buf) n (len ∙ length-take-le n buf fits) ∙ after ∙ ap (λ k. take k (drop at bytes)) (omega arith)

pub returns-clause-passed : goal.returns-clause-passed
returns-clause-passed c =
    let n = c.min-count.result in
    take-add c.args.at n c.args.bytes.now
    ∙ ap (λ l. take c.args.at c.args.bytes.now ++ l) (sym (given c.args.bytes.now c.args.buf.now c.copy_from_slice.new.self c.args.at n (omega (arith, c.min-count.ensures)) c.copy_from_slice.ensures.len c.copy_from_slice.ensures.after))

pub returns-clause-bytes : goal.returns-clause-bytes
returns-clause-bytes c =
    let n = c.min-count.result in
    sym (take-append-drop n (drop c.args.at c.args.bytes.now))
    ∙ ap (λ l. l ++ drop n (drop c.args.at c.args.bytes.now)) (sym (given c.args.bytes.now c.args.buf.now c.copy_from_slice.new.self c.args.at n (omega (arith, c.min-count.ensures)) c.copy_from_slice.ensures.len c.copy_from_slice.ensures.after))
    ∙ ap (λ l. take n (c.copy_from_slice.new.self ++ drop n c.args.buf.now) ++ l) (drop-drop n c.args.at c.args.bytes.now)
