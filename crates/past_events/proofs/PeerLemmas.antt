-- The former replicas from which a node has merged a cover, one after the other.
use Rattle.std.proofs.Common.{◌≡◌, ◌≢◌, ◌↔◌, ℕ, ◌+◌, ◌/◌, ◌<◌, ◌≤◌, List, [], ◌∷◌, ◌++◌, length, Bool, true, false, cond, refl, sym, ap, ◌∙◌, subst, inl, inr, arith, Any, length-append}
use Rattle.std.proofs.lemmas.Bool.{cases_eq}
use Rattle.m3_model.specs.Members.{IsIn}
use Rattle.m3_model.proofs.MemberLemmas.{IsIn-append_left, IsIn-append_right, IsIn-append_cases}
use Rattle.m3_model.specs.declared.placement.Assignment.{Assignment}
use Rattle.m3_model.specs.declared.placement.ShardState.TheVariants.{Initializing}
use Rattle.placement_core.specs.Shards.{Shard, is_holder, is_steady, holders, former}
use Rattle.placement_core.proofs.HolderLemmas.{holds_of, not_joining, chosen_node, node_chosen}
use Rattle.placement_core.proofs.ListLemmas.{IsIn-from_Any, Any-from_IsIn}
use Rattle.past_events.specs.Joining.{IsNewPeer}
use Rattle.cluster_core.specs.Joins.{HasStreamed, HasJoined}
use Rattle.cluster_core.specs.Lists.{At, IsDistinct}
use Rattle.cluster_core.specs.declared.event.Event.{Event}
use Rattle.cluster_core.proofs.ListLemmas.{at_within, at_same, at_in, in_at}
use Rattle.cluster_core.proofs.QuorumLemmas.{dec_in, distinct_within, distinct-append}
use Rattle.cluster_core.proofs.ShardLemmas.{former_hold}

-- the nodes of the first assignments that hold the shard and from which a cover was merged, each once
pub record ArePeers (past : List Event) (shard : Shard) (s y tenure n : ℕ) (peers : List ℕ) : Type 0 where
  pub distinct : IsDistinct peers
  pub sound : (q : ℕ) → IsIn peers q → IsIn (holders shard) q × HasStreamed s y tenure q past
  pub all : (i : ℕ) (a : Assignment) → i < n → At shard i a → a.state ≢ Initializing → HasStreamed s y tenure a.node past → IsIn peers a.node
  pub few : length peers ≤ n

module _ (past : List Event) (shard : Shard) (s y tenure : ℕ) where
  pub no_peers : ArePeers past shard s y tenure 0 []
  no_peers = record { distinct = tt; sound = λ q m. absurd m; all = λ i a low at st h. absurd (omega arith); few = omega arith }

  -- the next assignment adds none
  pub same_peers : (i : ℕ) (a : Assignment) (peers : List ℕ) → At shard i a → (a.state ≢ Initializing → HasStreamed s y tenure a.node past → IsIn peers a.node)
      → ArePeers past shard s y tenure i peers → ArePeers past shard s y tenure (i + 1) peers
  same_peers i a peers at there h = record {
    distinct = h.distinct;
    sound = h.sound;
    all = λ j b low at_b st streamed. elim (cases_eq j i) as (λ _. IsIn peers b.node) [
      | inl e ↦
          let same : b ≡ a = at_same shard i b a (subst (λ k. At shard k b) e at_b) at in
          subst (λ (z : Assignment). IsIn peers z.node) (sym same) (there (λ is. st (ap (λ (z : Assignment). z.state) same ∙ is)) (subst (λ (z : Assignment). HasStreamed s y tenure z.node past) same streamed))
      | inr ne ↦ h.all j b (omega (arith, low, ne)) at_b st streamed
    ];
    few = omega (arith, h.few);
  }

  -- the next assignment's node is one more
  pub more_peers : (i : ℕ) (a : Assignment) (peers : List ℕ) → At shard i a → a.state ≢ Initializing → HasStreamed s y tenure a.node past → ¬ Any (λ p. p ≡ a.node) peers
      → ArePeers past shard s y tenure i peers → ArePeers past shard s y tenure (i + 1) (peers ++ a.node ∷ [])
  more_peers i a peers at st streamed new h =
      let fresh : (q : ℕ) → IsIn peers q → IsIn (a.node ∷ []) q → ⊥ =
      λ q m k. elim k as (λ _. ⊥) [
        | inl e ↦ new (Any_of peers a.node (subst (IsIn peers) (sym e) m))
        | inr none ↦ none
      ] in
      record {
        distinct = distinct-append peers (a.node ∷ []) h.distinct ((λ z m. absurd m), tt) fresh;
        sound = λ q m. elim (IsIn-append_cases peers (a.node ∷ []) q m) as (λ _. IsIn (holders shard) q × HasStreamed s y tenure q past) [
          | inl k ↦ h.sound q k
          | inr k ↦ elim k as (λ _. IsIn (holders shard) q × HasStreamed s y tenure q past) [
            | inl e ↦ (subst (IsIn (holders shard)) e (node_chosen is_holder shard a.node a (at_in shard i a at) refl (holds_of a.state st)), subst (λ k. HasStreamed s y tenure k past) e streamed)
            | inr none ↦ absurd none
          ]
        ];
        all = λ j b low at_b not_joining streams. elim (cases_eq j i) as (λ _. IsIn (peers ++ a.node ∷ []) b.node) [
          | inl e ↦
              let same : b ≡ a = at_same shard i b a (subst (λ k. At shard k b) e at_b) at in
              IsIn-append_right peers (a.node ∷ []) b.node (inl (ap (λ (z : Assignment). z.node) (sym same)))
          | inr ne ↦ IsIn-append_left peers (a.node ∷ []) b.node (h.all j b (omega (arith, low, ne)) at_b not_joining streams)
        ];
        few = omega (arith, h.few, length-append peers (a.node ∷ []));
      }
    where
      Any_of : (xs : List ℕ) (x : ℕ) → IsIn xs x → Any (λ p. p ≡ x) xs
      Any_of xs x m = Any-from_IsIn (λ p. p ≡ x) xs x m refl

  pub next_peer : (i : ℕ) (a : Assignment) (peers : List ℕ) → At shard i a → IsNewPeer past s y tenure a peers → ArePeers past shard s y tenure i peers → ArePeers past shard s y tenure (i + 1) (peers ++ a.node ∷ [])
  next_peer i a peers at is h = more_peers i a peers at is.holds is.streamed is.new h

  pub no_next_peer : (i : ℕ) (a : Assignment) (peers : List ℕ) → At shard i a → ¬ IsNewPeer past s y tenure a peers → ArePeers past shard s y tenure i peers → ArePeers past shard s y tenure (i + 1) peers
  no_next_peer i a peers at isnt h =
      same_peers i a peers at
      (λ holds streamed. elim (dec_in a.node peers) as (λ _. IsIn peers a.node) [
        | inl m ↦ m
        | inr other ↦ absurd (isnt (record { holds = holds; new = λ known. let k = IsIn-from_Any (λ p. p ≡ a.node) peers known in other (subst (IsIn peers) k.2 k.1); streamed = streamed }))
      ]) h

  -- more than half of rf are enough, where the shard moves
  pub joined_decided : (rf : ℕ) (peers : List ℕ) → ArePeers past shard s y tenure (length shard) peers → ((rf / 2 < length peers) × (is_steady shard ≡ false)) ↔ HasJoined past rf shard s y tenure
  joined_decided rf peers h = (
    λ t. record {
      peers = peers;
      enough = record {
        distinct = h.distinct;
        within = λ q m. subst (λ nodes. IsIn nodes q) (sym (moving t.1)) (h.sound q m).0;
        enough = omega (arith, t.0);
      };
      streamed = λ q m. (h.sound q m).1;
    },
    λ j.
        let all : length j.peers ≤ length peers = distinct_within j.peers peers (j.enough).distinct (λ q m.
        let a = chosen_node is_holder shard q (former_hold shard q ((j.enough).within q m)) in
        let position = in_at shard a.0 a.1 in
        subst (IsIn peers) a.2 (h.all position.0 a.0 (at_within shard position.0 a.0 position.1) position.1 (not_joining (a.0).state a.3) (subst (λ k. HasStreamed s y tenure k past) (sym a.2) (j.streamed q m)))) in
        (omega (arith, all, (j.enough).enough), by (is_steady shard) refl j),
  )
    where
      moving : is_steady shard ≡ false → former shard ≡ holders shard
      moving e = ap (λ (b : Bool). cond b [] (holders shard)) e

      none_within : (members : List ℕ) → ((n : ℕ) → IsIn members n → IsIn (former shard) n) → is_steady shard ≡ true → length members ≡ 0
      none_within [] within e = refl
      none_within (n ∷ members) within e = absurd (subst (λ nodes. IsIn nodes n) (ap (λ (b : Bool). cond b [] (holders shard)) e) (within n (inl refl)))

      by : (b : Bool) → is_steady shard ≡ b → HasJoined past rf shard s y tenure → b ≡ false
      by false e k = refl
      by true e k = absurd (omega (arith, none_within k.peers (k.enough).within e, (k.enough).enough))
