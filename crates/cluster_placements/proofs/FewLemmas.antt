-- Slots that stand once, of few nodes and shards, are few; and lists of them in another order.
use Rattle.std.proofs.Common.{◌≡◌, ◌<◌, ◌≤◌, ◌+◌, ◌*◌, ℕ, zero, suc, List, [], ◌∷◌, length, map, refl, sym, ap, ◌∙◌, ◌⊎◌, inl, inr, arith}
use Rattle.std.proofs.lemmas.Bool.{cases_eq}
use Rattle.std.proofs.lemmas.List.{length-map}
use Rattle.m3_model.specs.Members.{IsIn}
use Rattle.m3_model.proofs.MemberLemmas.{IsIn-map}
use Rattle.cluster_core.specs.Lists.{IsDistinct}
use Rattle.cluster_core.proofs.QuorumLemmas.{distinct_within}
use Rattle.node_calls.specs.replica_exchange.declared.slot.Slot.{Slot}
use Rattle.first_cluster.specs.Slots.{AreApart}

-- ---- few

-- the numbers below this one
abbrev pub below : ℕ → List ℕ
below zero = []
below (suc n) = n ∷ below n

length-below : (n : ℕ) → length (below n) ≡ n
length-below zero = refl
length-below (suc n) = ap suc (length-below n)

in_below : (n k : ℕ) → k < n → IsIn (below n) k
in_below zero k low = absurd (omega (arith, low))
in_below (suc n) k low = by (cases_eq n k) (in_below n k)
  where
    by : (n ≡ k) ⊎ (n ≡ k → ⊥) → (k < n → IsIn (below n) k) → (n ≡ k) ⊎ IsIn (below n) k
    by (inl same) rest = inl same
    by (inr other) rest = inr (rest (omega (arith, low, other)))

-- a slot by one number
abbrev pub number_of : Slot → ℕ
number_of s = s.shard * 16 + s.node

same_number : (s t : Slot) → s.node < 16 → t.node < 16 → number_of s ≡ number_of t → s ≡ t
same_number s t low_s low_t same =
    let shards : s.shard ≡ t.shard = omega (arith, low_s, low_t, same) in
    let nodes : s.node ≡ t.node = omega (arith, low_s, low_t, same) in
    λ i. record { shard = shards i; node = nodes i }

distinct_numbers : (slots : List Slot) → ((s : Slot) → IsIn slots s → s.node < 16) → AreApart slots → IsDistinct (map number_of slots)
distinct_numbers [] low apart = tt
distinct_numbers (s ∷ slots) low apart = (
  λ n i same.
      let from = IsIn-map number_of slots n i in
      apart.0 from.0 from.1 (same_number s from.0 (low s (inl refl)) (low from.0 (inr from.1)) (same ∙ sym from.2)),
  distinct_numbers slots (λ t i. low t (inr i)) apart.1,
)

pub few_slots : (slots : List Slot) → ((s : Slot) → IsIn slots s → s.node < 16) → ((s : Slot) → IsIn slots s → s.shard < 64) → AreApart slots → length slots ≤ 1024
few_slots slots nodes shards apart =
    let few = distinct_within (map number_of slots) (below 1024) (distinct_numbers slots nodes apart)
    (λ n i. let from = IsIn-map number_of slots n i in in_below 1024 n (let node = nodes from.0 from.1 in let shard = shards from.0 from.1 in let is = from.2 in omega (arith, node, shard, is))) in
    let long = length-map slots number_of in
    let all = length-below 1024 in
    omega (arith, few, long, all)
