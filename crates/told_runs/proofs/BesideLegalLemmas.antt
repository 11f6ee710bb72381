-- The list of the run of two clients beside a worker is legal, event by event.
use Rattle.std.proofs.Common.{◌≡◌, ◌≢◌, ℕ, zero, suc, ◌≤◌, ◌<◌, ◌+◌, List, [], ◌∷◌, take, drop, refl, subst, inl, inr, arith, false, true}
use Rattle.std.specs.Prelude.{Some, None, IsTrue, slice_get}
use Rattle.std.specs.List.{All, Any}
use Rattle.std.proofs.lemmas.Option.{same_Some}
use Rattle.m3_model.specs.Members.{IsIn}
use Rattle.m3_model.specs.Names.{is_name}
use Rattle.m3_model.specs.declared.placement.Assignment.{Assignment}
use Rattle.m3_model.specs.declared.placement.Instance.{Instance}
use Rattle.m3_model.specs.declared.placement.ShardState.TheVariants.{Available, Leaving}
use Rattle.m3_model.proofs.Lists.{All-from_each}
use Rattle.placement_core.specs.Lawful.{IsLawful, IsShard, IsSpread, IsServing as IsServingShard}
use Rattle.placement_core.specs.Majorities.{IsMajority}
use Rattle.placement_core.specs.Shards.{Shard, former}
use Rattle.placement_core.specs.Steps.{IsShardStep, IsStep, done_at}
use Rattle.cluster_core.specs.Answers.{PageAsked}
use Rattle.cluster_core.specs.Earlier.{CountsNodes, GavePage, GivesTenure, HasPut, IsClock, IsSend, PlacesShard, TookPoint}
use Rattle.cluster_core.specs.Joins.{HasJoined, HasStreamed, MergedPage}
use Rattle.cluster_core.specs.Legal.{JoinedAt, JoinedThere, Lawful, LawfulAt, Legal}
use Rattle.cluster_core.specs.declared.event.Asked.TheVariants as asked
use Rattle.cluster_core.specs.declared.event.Event.TheVariants as event
use Rattle.cluster_core.specs.declared.event.StepCall.TheVariants as call
use Rattle.cluster_core.specs.declared.event.StepReply.TheVariants as reply
use Rattle.cluster_core.proofs.ListLemmas.{at_any}
use Rattle.told_by.specs.Broken.{joined_by, moved, moving, other_name}
use Rattle.told_by.specs.Sample.{name, point, rules}
use Rattle.told_by.proofs.LegalSampleLemmas.{asked_at}
use Rattle.told_by.proofs.SampleLemmas.{Each, each_at}
use Rattle.told_runs.specs.BesideSample.{events, page, put}

-- ---- the placements

abbrev pub leaving : Assignment
leaving = record { node = 0; tenure = 1; state = Leaving; source = None }

abbrev pub landed : Assignment
landed = record { node = 1; tenure = 2; state = Available; source = None }

abbrev pub first_node : Instance
first_node = record { name = name; group = name; listed = true; drained = false }

abbrev pub second_node : Instance
second_node = record { name = other_name; group = other_name; listed = true; drained = false }

abbrev pub under_way : Shard
under_way = leaving ∷ joined_by ∷ []

pub one : {X : Type 0} (P : X → Type 0) (x : X) → P x → (y : X) → IsIn (x ∷ []) y → P y
one P x h y m = elim m as (λ _. P y) [ inl e ↦ subst P e h | inr none ↦ absurd none ]

pub both : {X : Type 0} (P : X → Type 0) (x y : X) → P x → P y → (z : X) → IsIn (x ∷ y ∷ []) z → P z
both P x y h k z m = elim m as (λ _. P z) [ inl e ↦ subst P e h | inr rest ↦ one P y k z rest ]

first_same : (a b : ℕ) (xs ys : List ℕ) → a ∷ xs ≡ b ∷ ys → a ≡ b
first_same a b xs ys e = cc

pub names_differ : name ≢ other_name
names_differ e = omega (arith, first_same 97 98 [] [] e)

pub lawful_moving : IsLawful moving
lawful_moving = record {
  limits = record {
    some_replicas = omega arith;
    few_replicas = omega arith;
    some_shards = omega arith;
    few_shards = omega arith;
    few_nodes = omega arith;
    named = both (λ (i : Instance). IsTrue (is_name i.name) × IsTrue (is_name i.group)) first_node second_node (refl, refl) (refl, refl);
    distinct = (one (λ (i : Instance). name ≢ i.name) second_node names_differ, (λ y none. absurd none, tt));
    version_fits = omega arith;
  };
  shards = one (IsShard 1 2) under_way (record {
    distinct = (one (λ (a : Assignment). 0 ≢ a.node) joined_by (λ e. omega (arith, e)), (λ y none. absurd none, tt));
    tenures = both (λ (a : Assignment). a.tenure ≤ 2) leaving joined_by (omega arith) (omega arith);
    replicas = inr (
      record {
        leaving = leaving;
        stands = inl refl;
        is_leaving = (refl, refl);
        joining = joined_by;
        joins = inr (inl refl);
        is_joining = (refl, refl);
        others = both (λ (a : Assignment). a.node ≢ 0 → a.node ≢ 1 → IsServingShard a) leaving joined_by (λ no_leaving no_joining. absurd (no_leaving refl)) (λ no_leaving no_joining. absurd (no_joining refl));
      },
      refl,
    );
  });
  spread = one (IsSpread (first_node ∷ second_node ∷ [])) under_way (record {
    listed = both (λ (a : Assignment). (n : Instance) × (slice_get (first_node ∷ second_node ∷ []) a.node ≡ Some n) × (n.listed ≡ true)) leaving joined_by (first_node, refl, refl) (second_node, refl, refl);
    before = (λ y none. absurd none, tt);
    after = (λ y none. absurd none, tt);
  });
}

pub lawful_moved : IsLawful moved
lawful_moved = record {
  limits = record {
    some_replicas = omega arith;
    few_replicas = omega arith;
    some_shards = omega arith;
    few_shards = omega arith;
    few_nodes = omega arith;
    named = (lawful_moving.limits).named;
    distinct = (lawful_moving.limits).distinct;
    version_fits = omega arith;
  };
  shards = one (IsShard 1 3) (landed ∷ []) (record {
    distinct = (λ y none. absurd none, tt);
    tenures = one (λ (a : Assignment). a.tenure ≤ 3) landed (omega arith);
    replicas = inl (one IsServingShard landed (refl, refl), refl);
  });
  spread = one (IsSpread (first_node ∷ second_node ∷ [])) (landed ∷ []) (record {
    listed = one (λ (a : Assignment). (n : Instance) × (slice_get (first_node ∷ second_node ∷ []) a.node ≡ Some n) × (n.listed ≡ true)) landed (second_node, refl, refl);
    before = (λ y none. absurd none, tt);
    after = (λ y none. absurd none, tt);
  });
}

-- ---- what stands earlier

no : {X : Type 0} → X → ⊥ → ⊥
no x h = h

-- the leaving node is a majority of the former replicas
pub peers_enough : IsMajority 1 (former under_way) (0 ∷ [])
peers_enough = record { distinct = (λ y none. absurd none, tt); within = one (λ n. IsIn (0 ∷ []) n) 0 (inl refl); enough = omega arith }

-- the joining node was streamed what the leaving one has
pub streamed : HasStreamed 0 1 2 0 (take 13 events)
streamed = inr (inr (inr (inr (inr (inl (
  (refl, refl, refl),
  inr (inl (
    (refl, refl, omega arith),
    record {
      pages = (None, page) ∷ [];
      cover = (refl, refl);
      given = inr (inl ((refl, refl, refl, refl), tt));
      merged = one (λ (p : PageAsked). Any (MergedPage 1 0 p.1) (drop 6 (take 13 events))) (None, page) (at_any (MergedPage 1 0 page) (drop 6 (take 13 events)) 5 (event.Step 1 0 (call.Merge page) (reply.Count 0)) refl (refl, refl, refl));
    },
  )),
))))))

-- ---- the events

lawful_first : Lawful true (take 3 events) (event.Step 0 0 (call.Begin 1) (reply.Began 1 []))
lawful_first = (
  asked_at (take 3 events) (event.Step 0 0 (call.Begin 1) (reply.Began 1 [])) 2 (event.Ask (asked.Step 0 0 (call.Begin 1))) refl (refl, refl, refl) (no, (no, (no, tt))),
  record {
    not_down = λ e. cc;
    fence_high = omega arith;
    given = at_any (GivesTenure 0 0 1) (take 3 events) 0 (event.Place moving []) refl (under_way, refl, at_any (λ (a : Assignment). (a.node ≡ 0) × (a.tenure ≡ 1)) under_way 0 leaving refl (refl, refl));
    none_higher = λ k d lt. absurd (omega arith);
    began = λ some. absurd (some refl);
  },
)

lawful_second : Lawful true (take 5 events) (event.Step 1 0 (call.Begin 2) (reply.Began 2 []))
lawful_second = (
  asked_at (take 5 events) (event.Step 1 0 (call.Begin 2) (reply.Began 2 [])) 4 (event.Ask (asked.Step 1 0 (call.Begin 2))) refl (refl, refl, refl) (no, (no, (no, (λ late like. omega (arith, like.0), (no, tt))))),
  record {
    not_down = λ e. cc;
    fence_high = omega arith;
    given = at_any (GivesTenure 1 0 2) (take 5 events) 0 (event.Place moving []) refl (under_way, refl, at_any (λ (a : Assignment). (a.node ≡ 1) × (a.tenure ≡ 2)) under_way 1 joined_by refl (refl, refl));
    none_higher = λ k d lt. absurd (omega arith);
    began = λ some. absurd (some refl);
  },
)

lawful_fence : Lawful true (take 7 events) (event.Step 0 0 (call.Fence 2) reply.Done)
lawful_fence = (
  asked_at (take 7 events) (event.Step 0 0 (call.Fence 2) reply.Done) 6 (event.Ask (asked.Step 0 0 (call.Fence 2))) refl (refl, refl, refl)
      (no, (no, (no, (λ late like. let bad : call.Begin 1 ≡ call.Fence 2 = like.2 in cc, (no, (λ late like. omega (arith, like.0), (no, tt))))))),
  record { open_ = refl; tenure = 1; owned = refl; tenure_low = omega arith },
)

lawful_page : Lawful true (take 9 events) (event.Step 0 0 (call.Page None) (reply.Paged page))
lawful_page = (
  asked_at (take 9 events) (event.Step 0 0 (call.Page None) (reply.Paged page)) 8 (event.Ask (asked.Step 0 0 (call.Page None))) refl (refl, refl, refl)
      (no, (no, (no, (λ late like. let bad : call.Begin 1 ≡ call.Page None = like.2 in cc, (no, (λ late like. omega (arith, like.0), (no, (λ late like. let bad : call.Fence 2 ≡ call.Page None = like.2 in cc, (no, tt))))))))),
  (
    record { open_ = refl; tenure = 1; owned = refl },
    record { nothing_else = λ k d lt. absurd (omega arith); all_there = λ k d lt. absurd (omega arith); ascending = tt; few = omega arith; next = tt },
  ),
)

lawful_merge : Lawful true (take 11 events) (event.Step 1 0 (call.Merge page) (reply.Count 0))
lawful_merge = (
  asked_at (take 11 events) (event.Step 1 0 (call.Merge page) (reply.Count 0)) 10 (event.Ask (asked.Step 1 0 (call.Merge page))) refl (refl, refl, refl)
      (no, (no, (no, (λ late like. omega (arith, like.0), (no, (λ late like. let bad : call.Begin 2 ≡ call.Merge page = like.2 in cc, (no, (λ late like. omega (arith, like.0), (no, (λ late like. omega (arith, like.0), (no, tt))))))))))),
  (record { open_ = refl; tenure = 2; owned = refl }, at_any (GavePage 0 page) (take 11 events) 9 (event.Step 0 0 (call.Page None) (reply.Paged page)) refl (refl, refl)),
)

-- the move ends, and nothing else changes
pub ends_move : IsStep moving moved ((0, 1) ∷ [])
ends_move = record {
  version = refl;
  rf = refl;
  names = λ place was there. (was, there, refl);
  count = refl;
  listed = record { ascending = (λ y none. absurd none, tt); within = one (λ (d : ℕ × ℕ). d.0 < 1) (0, 1) (omega arith) };
  each = each_shard;
}
  where
    each_shard : (s : ℕ) (a b : Shard) → slice_get moving.shards s ≡ Some a → slice_get moved.shards s ≡ Some b → IsShardStep 3 a b (done_at s ((0, 1) ∷ []))
    each_shard zero a b was is =
        subst (λ x. IsShardStep 3 x b (Some 1)) (same_Some under_way a was)
        (subst (λ x. IsShardStep 3 under_way x (Some 1)) (same_Some (landed ∷ []) b is) (joined_by, inr (inl refl), record { node = refl; from = 0; joins = (refl, refl); next_is = refl }))
    each_shard (suc s) a b was is = cc

has_joined : HasJoined (take 13 events) 1 under_way 0 1 2
has_joined = record { peers = 0 ∷ []; enough = peers_enough; streamed = one (λ q. HasStreamed 0 1 2 q (take 13 events)) 0 streamed }

joined_there : JoinedAt (take 13 events) moving 0 1
joined_there shard there =
    subst (λ x. All (JoinedThere (take 13 events) 1 x 0 1) x) (same_Some under_way shard there)
    (All-from_each (JoinedThere (take 13 events) 1 under_way 0 1) under_way (both (JoinedThere (take 13 events) 1 under_way 0 1) leaving joined_by (λ here. absurd (omega (arith, here))) (λ here joins. has_joined)))

lawful_end : Lawful true (take 13 events) (event.Place moved ((0, 1) ∷ []))
lawful_end = (
  asked_at (take 13 events) (event.Place moved ((0, 1) ∷ [])) 12 (event.Ask (asked.Place moved ((0, 1) ∷ []))) refl (refl, refl)
      (λ late like. absurd (omega (arith, late)), (no, (no, (no, (no, (no, (no, (no, (no, (no, (no, (no, (no, tt))))))))))))),
  record { last = moving; last_is = refl; step = ends_move; joined = All-from_each (λ (d : ℕ × ℕ). JoinedAt (take 13 events) moving d.0 d.1) ((0, 1) ∷ []) (one (λ (d : ℕ × ℕ). JoinedAt (take 13 events) moving d.0 d.1) (0, 1) joined_there) },
)

lawful_put : Lawful true (take 16 events) (event.Step 1 0 put reply.Done)
lawful_put = (
  asked_at (take 16 events) (event.Step 1 0 put reply.Done) 15 (event.Ask (asked.Step 1 0 put)) refl (refl, refl, refl)
      (no, (no, (no, (λ late like. omega (arith, like.0), (no, (λ late like. let bad : call.Begin 2 ≡ put = like.2 in cc, (no, (λ late like. omega (arith, like.0), (no, (λ late like. omega (arith, like.0), (no, (λ late like. let bad : call.Merge page ≡ put = like.2 in cc, (no, (no, (no, (no, tt)))))))))))))))),
  record {
    serving = record { owner = record { open_ = refl; tenure = 2; owned = refl; tenure_low = omega arith }; fence_low = omega arith };
    in_window = record { space = record { name = name; block = 10; past = 5; future = 5; retention = 20 }; stands = refl; not_past = omega arith; not_future = omega arith };
    sent = at_any (IsSend 3 0 point) (take 16 events) 14 (event.Send 3 0 point) refl refl;
    clock = at_any (IsClock rules) (take 16 events) 1 (event.Clock rules) refl refl;
  },
)

lawful_ack : Lawful true (take 17 events) (event.Ack 14 (1 ∷ []))
lawful_ack = (
  event.Send 3 0 point,
  refl,
  (
    (λ y none. absurd none, tt),
    at_any (CountsNodes 3 0 (1 ∷ [])) (take 17 events) 13 (event.Place moved ((0, 1) ∷ [])) refl (refl, landed ∷ [], refl, All-from_each (λ n. IsIn (1 ∷ []) n) (1 ∷ []) (λ n m. m)),
    All-from_each (λ n. HasPut (take 17 events) n 0 3 point) (1 ∷ []) (one (λ n. HasPut (take 17 events) n 0 3 point) 1 (at_any (TookPoint 1 0 3 point) (take 17 events) 16 (event.Step 1 0 put reply.Done) refl (refl, refl, refl, refl))),
  ),
)

has_shard : Lawful true (take 14 events) (event.Send 3 0 point)
has_shard = at_any (PlacesShard 3 0) (take 14 events) 13 (event.Place moved ((0, 1) ∷ [])) refl (refl, landed ∷ [], refl)

lawful_each : Each (λ i e. LawfulAt true i (take i events) e) 0 events
lawful_each = (
  (lawful_moving, refl),
  (tt, (tt, (lawful_first, (tt, (lawful_second, (tt, (lawful_fence, (tt, (lawful_page, (tt, (lawful_merge, (tt, (lawful_end, (has_shard, (tt, (lawful_put, (lawful_ack, tt))))))))))))))))),
)

pub beside_legal : Legal true events
beside_legal i e there = let here : 0 + i ≡ i = omega arith in subst (λ k. LawfulAt true k (take k events) e) here (each_at (λ k x. LawfulAt true k (take k events) x) 0 events lawful_each i e there)
