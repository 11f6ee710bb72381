-- A merge as contracts see it.
use Rattle.std.specs.Prelude.{ℕ, List, refl}
use Rattle.std.specs.Coded.{Coded, code_by, coded×, coded_ℕ, coded_list}

-- The node joins the shard with this tenure, and has merged these former replicas whole.
pub record MergedOf : Type 0 where
  pub shard : ℕ
  pub node : ℕ
  pub tenure : ℕ
  pub peers : List ℕ

abbrev pub merged_code : Coded MergedOf
merged_code = code_by (ℕ × (ℕ × (ℕ × List ℕ))) (coded× coded_ℕ (coded× coded_ℕ (coded× coded_ℕ (coded_list coded_ℕ)))) (λ m. (m.shard, (m.node, (m.tenure, m.peers)))) (λ p. record { shard = p.0; node = p.1.0; tenure = p.1.1.0; peers = p.1.1.1 }) (λ _. refl)
