-- The list of the short run is legal, event by event.
use Rattle.std.proofs.Common.{◌≡◌, ℕ, ◌≤◌, ◌+◌, List, [], ◌∷◌, take, drop, refl, subst, inl, inr, arith, false, true}
use Rattle.std.specs.Prelude.{Some, None, IsTrue, slice_get}
use Rattle.m3_model.specs.Names.{is_name}
use Rattle.std.specs.List.{All, Any}
use Rattle.m3_model.specs.Members.{IsIn}
use Rattle.m3_model.specs.Reads.{Covers, points_in}
use Rattle.m3_model.specs.declared.placement.Assignment.{Assignment}
use Rattle.m3_model.specs.declared.placement.Instance.{Instance}
use Rattle.m3_model.specs.declared.placement.ShardState.TheVariants.{Available}
use Rattle.m3_model.specs.declared.point.Pick.TheVariants as pick
use Rattle.m3_model.specs.declared.point.Series.{Series}
use Rattle.m3_model.proofs.Lists.{All-from_each}
use Rattle.placement_core.specs.Lawful.{IsLawful, IsShard, IsSpread, IsServing as IsServingShard}
use Rattle.placement_core.proofs.ListLemmas.{Any-from_IsIn}
use Rattle.cluster_core.specs.Answers.{IsWantedUnexpired}
use Rattle.cluster_core.specs.Asks.{IsAskFor, IsLike, WasAsked}
use Rattle.cluster_core.specs.Earlier.{CountsNodes, GaveAnswer, GivesTenure, HasClock, HasPut, HasShard, IsClock, IsSend, PlacesShard, TookPoint}
use Rattle.cluster_core.specs.Legal.{Lawful, LawfulAt}
use Rattle.cluster_core.specs.Lists.{At}
use Rattle.cluster_core.specs.Replicas.{IsGone, replica}
use Rattle.cluster_core.specs.declared.event.Asked.TheVariants as asked
use Rattle.cluster_core.specs.declared.event.Event.{Event}
use Rattle.cluster_core.specs.declared.event.Event.TheVariants as event
use Rattle.cluster_core.specs.declared.event.StepReply.TheVariants as reply
use Rattle.cluster_core.proofs.HeldLemmas.{covers_here}
use Rattle.cluster_core.proofs.ListLemmas.{at_any}
use Rattle.told_by.specs.Sample.{SampleIsLegal, begin, events, name, place, point, put, read, rules, series}
use Rattle.told_by.proofs.SampleLemmas.{Each, each_at, series_ordered}

abbrev own : Assignment
own = record { node = 0; tenure = 1; state = Available; source = None }

abbrev node : Instance
node = record { name = name; group = name; listed = true; drained = false }

-- ---- the placement

only : {X : Type 0} (P : X → Type 0) (x : X) → P x → (y : X) → IsIn (x ∷ []) y → P y
only P x h y m = elim m as (λ _. P y) [ inl e ↦ subst P e h | inr none ↦ absurd none ]

pub lawful_place : IsLawful place
lawful_place = record {
  limits = record {
    some_replicas = omega arith;
    few_replicas = omega arith;
    some_shards = omega arith;
    few_shards = omega arith;
    few_nodes = omega arith;
    named = only (λ (i : Instance). IsTrue (is_name i.name) × IsTrue (is_name i.group)) node (refl, refl);
    distinct = (λ y none. absurd none, tt);
    version_fits = omega arith;
  };
  shards = only (IsShard 1 1) (own ∷ []) (record {
    distinct = (λ y none. absurd none, tt);
    tenures = only (λ (a : Assignment). a.tenure ≤ 1) own (omega arith);
    replicas = inl (only IsServingShard own (refl, refl), refl);
  });
  spread = only (IsSpread (node ∷ [])) (own ∷ []) (record {
    listed = only (λ (a : Assignment). (n : Instance) × (slice_get (node ∷ []) a.node ≡ Some n) × (n.listed ≡ true)) own (node, refl, refl);
    before = (λ y none. absurd none, tt);
    after = (λ y none. absurd none, tt);
  });
}

-- ---- what stands earlier

-- an event is asked for where an Ask for it stands, and none like it
pub asked_at : (past : List Event) (e : Event) (i : ℕ) (ask : Event) → At past i ask → IsAskFor e ask → Each (λ j x. 2 ≤ j → IsLike e x → ⊥) 0 past → WasAsked past e
asked_at past e i ask there of none_like = record {
  asks = i ∷ [];
  answered = [];
  distinct = (λ y none. absurd none, tt);
  are_asks = only (λ j. (x : Event) × At past j x × IsAskFor e x) i (ask, there, of);
  are_all = λ j other late at like. absurd (each_at (λ k x. 2 ≤ k → IsLike e x → ⊥) 0 past none_like j other at (omega (arith, late)) like);
  more = omega arith;
}

no : {X : Type 0} → X → ⊥ → ⊥
no x h = h

has_shard : (past : List Event) → At past 0 (event.Place place []) → HasShard past 1 0
has_shard past there = at_any (PlacesShard 1 0) past 0 (event.Place place []) there (refl, own ∷ [], refl)

has_clock : (past : List Event) → At past 5 (event.Clock rules) → HasClock past rules
has_clock past there = at_any (IsClock rules) past 5 (event.Clock rules) there refl

counts : (past : List Event) → At past 0 (event.Place place []) → Any (CountsNodes 1 0 (0 ∷ [])) past
counts past there = at_any (CountsNodes 1 0 (0 ∷ [])) past 0 (event.Place place []) there (refl, own ∷ [], refl, All-from_each (λ n. IsIn (0 ∷ []) n) (0 ∷ []) (λ n m. m))

-- ---- the events

lawful_begin : Lawful true (take 3 events) (event.Step 0 0 begin (reply.Began 1 []))
lawful_begin = (
  asked_at (take 3 events) (event.Step 0 0 begin (reply.Began 1 [])) 2 (event.Ask (asked.Step 0 0 begin)) refl (refl, refl, refl) (no, (no, (no, tt))),
  record {
    not_down = λ e. cc;
    fence_high = omega arith;
    given = at_any (GivesTenure 0 0 1) (take 3 events) 0 (event.Place place []) refl (own ∷ [], refl, at_any (λ (a : Assignment). (a.node ≡ 0) × (a.tenure ≡ 1)) (own ∷ []) 0 own refl (refl, refl));
    none_higher = λ k d lt. absurd (omega arith);
    began = λ some. absurd (some refl);
  },
)

lawful_clock : Lawful true (take 5 events) (event.Clock rules)
lawful_clock = (
  asked_at (take 5 events) (event.Clock rules) 4 (event.Ask (asked.Clock rules)) refl refl (no, (λ late like. absurd (omega arith), (no, (no, (no, tt))))),
  record { last = record { now = 0; spaces = [] }; last_is = refl; not_lower = omega arith; grows = refl },
)

lawful_put : Lawful true (take 8 events) (event.Step 0 0 put reply.Done)
lawful_put = (
  asked_at (take 8 events) (event.Step 0 0 put reply.Done) 7 (event.Ask (asked.Step 0 0 put)) refl (refl, refl, refl)
      (no, (no, (no, (λ late like. let bad : begin ≡ put = like.2 in cc, (no, (no, (no, (no, tt)))))))),
  record {
    serving = record { owner = record { open_ = refl; tenure = 1; owned = refl; tenure_low = omega arith }; fence_low = omega arith };
    in_window = record { space = record { name = name; block = 10; past = 5; future = 5; retention = 20 }; stands = refl; not_past = omega arith; not_future = omega arith };
    sent = at_any (IsSend 1 0 point) (take 8 events) 6 (event.Send 1 0 point) refl refl;
    clock = has_clock (take 8 events) refl;
  },
)

lawful_ack : Lawful true (take 9 events) (event.Ack 6 (0 ∷ []))
lawful_ack = (
  event.Send 1 0 point,
  refl,
  (
    (λ y none. absurd none, tt),
    counts (take 9 events) refl,
    All-from_each (λ n. HasPut (take 9 events) n 0 1 point) (0 ∷ []) (only (λ n. HasPut (take 9 events) n 0 1 point) 0 (at_any (TookPoint 0 0 1 point) (take 9 events) 8 (event.Step 0 0 put reply.Done) refl (refl, refl, refl, refl))),
  ),
)

wanted : IsWantedUnexpired rules (pick.One 0 name) 0 10 point
wanted = record { matches = (refl, refl); in_range = (omega arith, omega arith); unexpired = λ h. omega (arith, h.ended) }

lawful_read : Lawful true (take 12 events) (event.Step 0 0 read (reply.Found series))
lawful_read = (
  asked_at (take 12 events) (event.Step 0 0 read (reply.Found series)) 11 (event.Ask (asked.Step 0 0 read)) refl (refl, refl, refl)
      (no, (no, (no, (λ late like. let bad : begin ≡ read = like.2 in cc, (no, (no, (no, (no, (λ late like. let bad : put ≡ read = like.2 in cc, (no, (no, (no, tt)))))))))))),
  (
    record { owner = record { open_ = refl; tenure = 1; owned = refl; tenure_low = omega arith }; fence_low = omega arith },
    has_clock (take 12 events) refl,
    record {
      nothing_else = All-from_each (λ p. IsIn (point ∷ []) p × IsWantedUnexpired rules (pick.One 0 name) 0 10 p) (point ∷ []) (only (λ p. IsIn (point ∷ []) p × IsWantedUnexpired rules (pick.One 0 name) 0 10 p) point (inl refl, wanted));
      all_there = All-from_each (λ p. ¬ IsGone (replica 0 0 (take 12 events)) p → IsWantedUnexpired rules (pick.One 0 name) 0 10 p → Covers (point ∷ []) p) (point ∷ []) (λ p m stays asks. covers_here p (point ∷ []) m);
      ordered = series_ordered;
    },
  ),
)

lawful_done : Lawful true (take 13 events) (event.FetchDone 10 (0 ∷ []) series)
lawful_done = (
  event.FetchStart 1 0 rules (pick.One 0 name) 0 10,
  refl,
  (
    (λ y none. absurd none, tt),
    counts (take 13 events) refl,
    record {
      answers = series ∷ [];
      answered = (
        at_any (GaveAnswer 0 (event.FetchStart 1 0 rules (pick.One 0 name) 0 10) series) (drop 11 (take 13 events)) 1 (event.Step 0 0 read (reply.Found series)) refl (refl, refl, refl, refl, refl, refl, refl, refl),
        tt,
      );
      joined = record {
        nothing_else = All-from_each (λ p. Any (λ answer. IsIn (points_in 0 answer) p) (series ∷ [])) (points_in 0 series) (λ p m. Any-from_IsIn (λ answer. IsIn (points_in 0 answer) p) (series ∷ []) series (inl refl) m);
        all_there = All-from_each (λ (answer : List Series). All (λ p. Covers (points_in 0 series) p) (points_in 0 answer)) (series ∷ [])
            (only (λ (answer : List Series). All (λ p. Covers (points_in 0 series) p) (points_in 0 answer)) series (All-from_each (λ p. Covers (points_in 0 series) p) (points_in 0 series) (λ p m. covers_here p (points_in 0 series) m)));
        ordered = series_ordered;
      };
    },
  ),
)

lawful_each : Each (λ i e. LawfulAt true i (take i events) e) 0 events
lawful_each = (
  (lawful_place, refl),
  (tt, (tt, (lawful_begin, (tt, (lawful_clock, (has_shard (take 6 events) refl, (tt, (lawful_put, (lawful_ack, ((has_shard (take 10 events) refl, has_clock (take 10 events) refl), (tt, (lawful_read, (lawful_done, tt))))))))))))),
)

pub sample_legal : SampleIsLegal
sample_legal i e there = let here : 0 + i ≡ i = omega arith in subst (λ k. LawfulAt true k (take k events) e) here (each_at (λ k x. LawfulAt true k (take k events) x) 0 events lawful_each i e there)
