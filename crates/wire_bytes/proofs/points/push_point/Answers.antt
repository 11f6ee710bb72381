use Rattle.std.proofs.Common.{ℕ, ◌++◌, length, ap, ◌∙◌, of_z, w64}
use Rattle.std.proofs.lemmas.Result.{on_ok_weaker}
use Rattle.std.proofs.lemmas.Int.{to_z-of_z}
use Rattle.byteorder.specs.Endian.{big_bytes}
use Rattle.wire_bytes.proofs.PointLemmas.{pushed}
use Rattle.wire_bytes.proofs.points.push_point.Goals as goal

pub returns-clause-ok : goal.returns-clause-ok
returns-clause-ok c = on_ok_weaker c.put_number-4.result
    (λ last. pushed c.args.out.now.items c.put_number.new.out.items c.put_number-2.new.out.items c.extend_from_slice.new.self.items c.put_number-3.new.out.items c.put_number-4.new.out.items
    (big_bytes 1 c.args.ns) (big_bytes 2 (length c.args.id.now)) c.args.id.now (big_bytes 8 c.args.t) (big_bytes 8 (of_z w64 c.args.v))
    (c.in_ok-put_number.ensures.ok ∙ ap (λ (n : ℕ). c.args.out.now.items ++ big_bytes 1 n) c.from.ensures) c.in_ok-put_number-2.ensures.ok c.in_ok-extend_from_slice.ensures.items c.in_ok-put_number-3.ensures.ok
    (last ∙ ap (λ (n : ℕ). c.put_number-3.new.out.items ++ big_bytes 8 n) (c.cast_unsigned.ensures ∙ ap (of_z w64) (to_z-of_z w64 c.args.v c.requires.value))))
    c.put_number-4.ensures.ok
