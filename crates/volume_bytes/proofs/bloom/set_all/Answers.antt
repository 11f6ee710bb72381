use Rattle.std.proofs.Common.{◌≡◌, ℕ, ◌+◌, ◌*◌, ◌<◌, ◌==◌, ◌||◌, Bool, List, [], ◌∷◌, ◌++◌, length, take, get_or, false, sym, ap, subst, ◌∙◌, arith}
use Rattle.std.specs.List.{list_any}
use Rattle.std.proofs.lemmas.List.{take_more}
use Rattle.wire_bytes.specs.m3_model.declared.point.Series.{Series}
use Rattle.wire_bytes.specs.Volumes.{bits_of, is_set}
use Rattle.volume_bytes.proofs.BitLemmas.{is_set_more}
use Rattle.volume_bytes.proofs.bloom.set_all.Goals as goal

pub loop-row-preserved : goal.loop-row-preserved
loop-row-preserved c =
    let rows = c.args.rows.now in
    let m = 16 * length rows in
    let i = c.loop-row.row-index in
    let s = c.row-item.result in
    let long = c.loop-row.invariant.long in
    record {
      long = c.set_bits.ensures.long ∙ long;
      set = λ k lt.
          c.set_bits.ensures.set k (omega (arith, lt, long))
          ∙ ap (λ (n : ℕ). list_any (λ b. b == k) (bits_of n c.as_str.result.now) || get_or c.loop-row.bits k false) long
          ∙ ap (λ (id : List ℕ). list_any (λ b. b == k) (bits_of m id) || get_or c.loop-row.bits k false) c.as_str.ensures
          ∙ ap (λ (b : Bool). list_any (λ b. b == k) (bits_of m s.id) || b) (c.loop-row.invariant.set k lt)
          ∙ sym (is_set_more m (take i rows) s k)
          ∙ ap (λ (l : List Series). is_set m l k) (sym (take_more rows i s c.loop-row-test.true ∙ ap (λ (r : Series). take i rows ++ r ∷ []) (sym c.row-item.is)));
    }
