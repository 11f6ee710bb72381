use Rattle.std.proofs.Common.{◌≡◌, ◌++◌, ℕ, List, length, ap, ◌∙◌, arith}
use Rattle.sha2.specs.Sha256.{sha256}
use Rattle.meta_bytes.specs.States.{state_bytes}
use Rattle.placement_log.specs.States.{payload_bytes}
use Rattle.placement_log.proofs.LastLemmas.{payload_fits}
use Rattle.placement_log.proofs.payload.payload_of.Goals as goal

pub returns-clause-ok : goal.returns-clause-ok
returns-clause-ok c =
    let spelled : c.in_ok-bytes.bytes.items ≡ state_bytes c.args.state.now = c.in_ok-bytes.ensures in
    let head : c.in_ok-payload.payload.items ≡ sha256 (state_bytes c.args.state.now) = c.in_ok-payload.ensures.items ∙ c.digest.ensures ∙ ap sha256 (c.deref.ensures.value ∙ spelled) in
    let tail : c.deref-2.result.now ≡ state_bytes c.args.state.now = c.deref-2.ensures.value ∙ spelled in
    c.in_ok-extend_from_slice.ensures.items ∙ ap (λ (l : List ℕ). l ++ c.deref-2.result.now) head ∙ ap (λ (l : List ℕ). sha256 (state_bytes c.args.state.now) ++ l) tail

pub returns-clause-short : goal.returns-clause-short
returns-clause-short c =
    let is : c.extend_from_slice.new.self.items ≡ payload_bytes c.args.state.now = returns-clause-ok c in
    let long = ap length is in
    let fits = payload_fits c.args.state.now c.requires in
    omega (arith, long, fits)
