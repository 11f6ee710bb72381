-- The replacements of a and of d are as planned, and the moves end, whatever names are printed.
use Rattle.std.proofs.Common.{◌≡◌, ◌≢◌, ◌<◌, ℕ, zero, suc, true, false, List, [], ◌∷◌, ◌++◌, length, Some, None, refl, ap, subst, sym, inl, inr, arith, slice_get}
use Rattle.std.specs.Prelude.{◌⊎◌, codes, IsTrue}
use Rattle.std.proofs.lemmas.Option.{same_Some}
use Rattle.m3_model.specs.Members.{IsIn}
use Rattle.m3_model.specs.declared.placement.Assignment.{Assignment}
use Rattle.m3_model.specs.declared.placement.Instance.{Instance}
use Rattle.m3_model.specs.declared.placement.Placement.{Placement}
use Rattle.isolation_groups.specs.Groups.{IsFree, group_of}
use Rattle.placement_core.specs.Shards.{Shard, is_steady, shard_at}
use Rattle.placement_plan.specs.First.{first_instances}
use Rattle.placement_plan.specs.Nodes.{Has, fresh_node}
use Rattle.placement_plan.specs.Plans.{EndsAsNamed, IsJoiningPair, IsReplacement, MovesShardTo}
use Rattle.transcripts.specs.Caused.{EndsMoves}
use Rattle.transcripts.specs.Waiting.{is_covering}
use Rattle.model_laws.specs.Building.{nodes, place}
use Rattle.model_laws.proofs.EachLemmas.{◌also◌, ascends_by, each_in, texts_differ}
use Rattle.move_laws.specs.Moving.{joining}
use Rattle.join_laws.specs.Replaced.{a_to_d, d_to_e, on_d, on_e, with_d}

-- a placement of one shard follows another one where that shard is made of the other's
pub one_shard : (Made : ℕ → Shard → Shard → Type 0) (x y : Shard) → Made 0 x y → (k : ℕ) (a b : Shard) → slice_get (x ∷ []) k ≡ Some a → slice_get (y ∷ []) k ≡ Some b → Made k a b
one_shard Made x y made zero a b e f = subst (λ z. Made 0 z b) (same_Some x a e) (subst (Made 0 x) (same_Some y b f) made)
one_shard Made x y made (suc k) a b e f = let bad : None ≡ Some a = e in cc

pub replaces_a : IsReplacement place (codes "a") (codes "d") (codes "g1") a_to_d
replaces_a = record {
  node = 0;
  to = 3;
  may = record {
    is_new = refl;
    lists = record { instance = _; stands = refl; named = refl; listed = refl };
    can = inr (new, refl);
    room = λ unknown. omega arith;
    ready = each_in (λ (s : Shard). Has 0 s → is_steady s ≡ true) place.shards ((λ h. refl) also tt);
    free = each_in (λ (s : Shard). Has 0 s → IsFree place.instances s 0 (codes "g1")) place.shards (
        (λ h. each_in (λ (a : Assignment). a.node ≢ 0 → group_of place.instances a.node ≢ codes "g1") (shard_at place 0) ((λ other. absurd (other refl)) also (λ other. texts_differ _ _ refl refl) also (λ other. texts_differ _ _ refl refl) also tt))
        also tt);
  };
  joined = first_instances nodes ++ fresh_node (codes "d") (codes "g1") ∷ [];
  joins = inr (new, refl, refl);
  follows = record { version = refl; version_fits = omega arith; rf = refl; shards = record { count = refl; each = one_shard (λ s. MovesShardTo 2 0 3) (shard_at place 0) (shard_at a_to_d 0) (inr (inl refl, refl)) } };
  instances = refl;
}
  where
    new : (i : Instance) → IsIn (first_instances nodes) i → i.name ≢ codes "d"
    new = each_in (λ (i : Instance). i.name ≢ codes "d") (first_instances nodes) (texts_differ (codes "a") (codes "d") refl refl also texts_differ (codes "b") (codes "d") refl refl also texts_differ (codes "c") (codes "d") refl refl also tt)

pub replaces_d : IsReplacement on_d (codes "d") (codes "e") (codes "g1") d_to_e
replaces_d = record {
  node = 3;
  to = 4;
  may = record {
    is_new = refl;
    lists = record { instance = _; stands = refl; named = refl; listed = refl };
    can = inr (new, refl);
    room = λ unknown. omega arith;
    ready = each_in (λ (s : Shard). Has 3 s → is_steady s ≡ true) on_d.shards ((λ h. refl) also tt);
    free = each_in (λ (s : Shard). Has 3 s → IsFree on_d.instances s 3 (codes "g1")) on_d.shards (
        (λ h. each_in (λ (a : Assignment). a.node ≢ 3 → group_of on_d.instances a.node ≢ codes "g1") (shard_at on_d 0) ((λ other. texts_differ _ _ refl refl) also (λ other. texts_differ _ _ refl refl) also (λ other. absurd (other refl)) also tt))
        also tt);
  };
  joined = with_d ++ fresh_node (codes "e") (codes "g1") ∷ [];
  joins = inr (new, refl, refl);
  follows = record { version = refl; version_fits = omega arith; rf = refl; shards = record { count = refl; each = one_shard (λ s. MovesShardTo 4 3 4) (shard_at on_d 0) (shard_at d_to_e 0) (inr (inr (inr (inl refl)), refl)) } };
  instances = refl;
}
  where
    new : (i : Instance) → IsIn with_d i → i.name ≢ codes "e"
    new = each_in (λ (i : Instance). i.name ≢ codes "e") with_d (texts_differ (codes "a") (codes "e") refl refl also texts_differ (codes "b") (codes "e") refl refl also texts_differ (codes "c") (codes "e") refl refl also texts_differ (codes "d") (codes "e") refl refl also tt)

-- d has the shard then
unfoldable pub d_ends : (names : List ℕ) → EndsMoves a_to_d (codes "d") None ((0, names) ∷ []) on_d
d_ends names = record {
  node = 3;
  named = record { instance_ = _; stands = refl; holds = refl };
  by_shard = ascends_by (λ (x y : ℕ × List ℕ). x.0 < y.0) ((0, names) ∷ []) (tt also tt);
  covered = each_in (λ (x : ℕ × List ℕ). IsTrue (is_covering x.0 None)) ((0, names) ∷ []) (refl also tt);
  joining = each_in (IsJoiningPair a_to_d.shards) ((0, 3) ∷ []) (record { shard = shard_at a_to_d 0; stands = refl; joins = (0, (joining 3 2 0, inr (inr (inr (inl refl))), refl, (refl, refl))) } also tt);
  next = record { follows = record { version = refl; version_fits = omega arith; rf = refl; shards = record { count = refl; each = one_shard (EndsAsNamed ((0, 3) ∷ [])) (shard_at a_to_d 0) (shard_at on_d 0) (joining 3 2 0, inr (inr (inr (inl refl))), record { node = refl; from = 0; joins = (refl, refl); next_is = refl }) } }; instances = refl };
}

-- and e after it
pub e_ends : (names : List ℕ) → EndsMoves d_to_e (codes "e") None ((0, names) ∷ []) on_e
e_ends names = record {
  node = 4;
  named = record { instance_ = _; stands = refl; holds = refl };
  by_shard = ascends_by (λ (x y : ℕ × List ℕ). x.0 < y.0) ((0, names) ∷ []) (tt also tt);
  covered = each_in (λ (x : ℕ × List ℕ). IsTrue (is_covering x.0 None)) ((0, names) ∷ []) (refl also tt);
  joining = each_in (IsJoiningPair d_to_e.shards) ((0, 4) ∷ []) (record { shard = shard_at d_to_e 0; stands = refl; joins = (3, (joining 4 4 3, inr (inr (inr (inl refl))), refl, (refl, refl))) } also tt);
  next = record { follows = record { version = refl; version_fits = omega arith; rf = refl; shards = record { count = refl; each = one_shard (EndsAsNamed ((0, 4) ∷ [])) (shard_at d_to_e 0) (shard_at on_e 0) (joining 4 4 3, inr (inr (inr (inl refl))), record { node = refl; from = 3; joins = (refl, refl); next_is = refl }) } }; instances = refl };
}
