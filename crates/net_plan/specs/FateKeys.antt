-- The order of messages.
use Rattle.std.specs.Prelude.{ℕ, refl}
use Rattle.std.specs.Coded.{Coded, code_by, coded×, coded_ℕ}
use Rattle.std.specs.Ordering.{nat_cmp, on, then_cmp}
use Rattle.std.specs.declared.cmp.Ordering.{Ordering}
use Rattle.net_plan.specs.declared.fate_key.FateKey.{FateKey}

-- by client, then by the number of its call, then by node
abbrev pub fate_key_cmp : FateKey → FateKey → Ordering
fate_key_cmp = then_cmp (on (λ k. k.client) nat_cmp) (then_cmp (on (λ k. k.call) nat_cmp) (on (λ k. k.node) nat_cmp))

-- a message is stored as its three numbers
abbrev pub fate_key_code : Coded FateKey
fate_key_code = code_by (ℕ × (ℕ × ℕ)) (coded× coded_ℕ (coded× coded_ℕ coded_ℕ)) (λ k. (k.client, (k.call, k.node))) (λ p. record { client = p.0; call = p.1.0; node = p.1.1 }) (λ _. refl)
