-- A shard that a node joined, as contracts see it.
use Rattle.std.specs.Prelude.{ℕ, List, refl}
use Rattle.std.specs.Coded.{Coded, code_by, coded×, coded_ℕ, coded_list}
use Rattle.peer_streams.specs.Joins.{Join}

-- The shard, the node from which it was taken over, and the former replicas that streamed whole.
pub record JoinedOf : Type 0 where
  pub shard : ℕ
  pub source : ℕ
  pub peers : List ℕ

abbrev pub joined_code : Coded JoinedOf
joined_code = code_by (ℕ × (ℕ × List ℕ)) (coded× coded_ℕ (coded× coded_ℕ (coded_list coded_ℕ))) (λ j. (j.shard, (j.source, j.peers))) (λ p. record { shard = p.0; source = p.1.0; peers = p.1.1 }) (λ _. refl)

-- the join of it
abbrev pub join_of : JoinedOf → Join
join_of j = record { source = j.source; peers = j.peers }
