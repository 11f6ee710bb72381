use Rattle.std.proofs.Common.{◌≡◌, true, false, refl, sym, ap, ◌∙◌}
use Rattle.std.specs.Prelude.{nat_le, slice_get}
use Rattle.std.proofs.lemmas.Option.{IfSome_then}
use Rattle.retention.specs.Expiry.{has_ended}
use Rattle.block_buffer.specs.Held.{has_expired}
use Rattle.block_buffer.specs.Spots.{IsKeyWithin}
use Rattle.block_buffer.proofs.SpotLemmas.{weaken_value, up_to, of_up_to}
use Rattle.block_buffer.proofs.all_series.AllSeries.expired_of.Goals as goal

pub returns-in_err-last-clause-none : goal.returns-in_err-last-clause-none
returns-in_err-last-clause-none c e k p =
    let never : has_expired c.args.rules.now k ≡ false = ap (λ n. has_ended (slice_get c.args.rules.now.spaces n) c.args.rules.now.now k.t) p.0 ∙ c.in_err-last.ensures.none refl k.t in
    let wrong : true ≡ false = sym p.1 ∙ never in
    cc

pub returns-clause-none : goal.returns-clause-none
returns-clause-none c e k p =
    let low : nat_le k.t c.in_ok-last.last ≡ true = sym (c.in_ok-last.ensures.some k.t) ∙ ap (λ n. has_ended (slice_get c.args.rules.now.spaces n) c.args.rules.now.now k.t) (sym p.0) ∙ p.1 in
    c.any_within.ensures.none e k (p.0, up_to c.in_ok-last.last k.t low)

pub returns-clause-some : goal.returns-clause-some
returns-clause-some c = IfSome_then c.any_within.result c.any_within.ensures.some (λ x h.
    weaken_value c.any_within.new.self (IsKeyWithin c.args.ns 0 c.in_ok-last.last) (λ k. has_expired c.args.rules.now k ≡ true) x.position x.t x.v
    (λ k p. ap (λ n. has_ended (slice_get c.args.rules.now.spaces n) c.args.rules.now.now k.t) p.0 ∙ c.in_ok-last.ensures.some k.t ∙ of_up_to c.in_ok-last.last k.t p.1) h)
