-- What a call hears of one shard.
use Rattle.std.proofs.Common.{◌≡◌, ℕ, zero, suc, ◌+◌, ◌<◌, List, [], ◌∷◌, map, length, refl, sym, ap, subst, ◌∙◌, inl, inr, arith, true, false}
use Rattle.std.specs.Prelude.{Option, Some, IsTrue, Ok, Err, slice_get, slice_index_or}
use Rattle.std.proofs.lemmas.List.{length-map}
use Rattle.m3_model.specs.Ascends.{Ascends}
use Rattle.m3_model.specs.Calls.{is_call}
use Rattle.m3_model.specs.Delivery.{is_cut}
use Rattle.m3_model.specs.Members.{IsIn}
use Rattle.m3_model.specs.declared.placement.Assignment.{Assignment}
use Rattle.m3_model.specs.declared.placement.Instance.{Instance}
use Rattle.m3_model.specs.declared.placement.Placement.{Placement}
use Rattle.m3_model.specs.declared.reason.Reason.{Reason}
use Rattle.m3_model.specs.declared.reason.Reason.TheVariants as reason
use Rattle.m3_model.specs.declared.rules.MetaState.{MetaState}
use Rattle.m3_model.proofs.MemberLemmas.{IsIn-map, map-IsIn}
use Rattle.cluster_core.specs.Lists.{At}
use Rattle.cluster_core.specs.declared.event.Event.{Event}
use Rattle.cluster_core.specs.declared.event.Event.TheVariants as event
use Rattle.cluster_core.specs.declared.event.StepCall.{StepCall}
use Rattle.cluster_core.specs.declared.event.StepReply.{StepReply}
use Rattle.cluster_core.specs.declared.event.StepReply.TheVariants as reply
use Rattle.cluster_core.proofs.ListLemmas.{at_in}
use Rattle.net_plan.specs.Fates.{FateMap}
use Rattle.placement_core.specs.Lawful.{IsLawful}
use Rattle.placement_core.specs.NodeNames.{IsNamedBelow}
use Rattle.placement_core.specs.Shards.{Shard, counted, is_available, nodes_of, shard_at}
use Rattle.placement_core.proofs.HolderLemmas.{chosen_node}
use Rattle.session_net.specs.replica_exchange.declared.call_id.CallId.{CallId}
use Rattle.session_net.specs.Messages.{Heard, fate_to}
use Rattle.session_net.specs.Outcomes.{NodeOutcome, answering, refusing, told_of}
use Rattle.told_runs.specs.told_by.Hears.{HasServed, HasStep, Happens, HearsShard, IsHeard, IsOwnCall, DidAsAsked}
use Rattle.told_runs.specs.told_by.Makes.{IsDeliveredTo}
use Rattle.told_runs.specs.transcripts.Fates.{IsCutAt, fate_at}
use Rattle.told_runs.specs.transcripts.Placements.{IsCounted}
use Rattle.told_runs.specs.transcripts.Reasons.{IsShown}
use Rattle.told_runs.specs.transcripts.Record.{TurnPosition}
use Rattle.line_tracks.proofs.calls.HeardLemmas.{CameSo}
use Rattle.line_tracks.proofs.calls.ToldLemmas.{answering_ascend, heard_err, heard_ok, one_or_other, refusing_ascend, told-refusing, told_nodes}

-- ---- nodes

pub shard_there : (shards : List Shard) (s : ℕ) (a : Assignment) → IsIn (slice_index_or shards s []) a → At shards s (slice_index_or shards s [])
shard_there [] s a m = absurd m
shard_there (x ∷ shards) zero a m = refl
shard_there (x ∷ shards) (suc s) a m = shard_there shards s a m

-- a node of a shard of a lawful placement is listed
pub node_there : (place : Placement) → IsLawful place → (s n : ℕ) → IsIn (nodes_of (shard_at place s)) n → (own : Instance) × (slice_get place.instances n ≡ Some own)
node_there place lawful s n m =
    let a = IsIn-map (λ (x : Assignment). x.node) (shard_at place s) n m in
    let listed = (lawful.spread (shard_at place s) (at_in place.shards s (shard_at place s) (shard_there place.shards s a.0 a.1))).listed a.0 a.1 in
    (listed.0, subst (λ k. slice_get place.instances k ≡ Some listed.0) a.2 listed.1)

pub counted_among_nodes : (shard : Shard) (n : ℕ) → IsIn (counted shard) n → IsIn (nodes_of shard) n
counted_among_nodes shard n m = let a = chosen_node is_available shard n m in subst (IsIn (nodes_of shard)) a.2 (map-IsIn (λ (x : Assignment). x.node) shard a.0 a.1)

-- ---- the call

-- What is known of a call: the placement that it uses, and that its messages fare as the turn's fates say.
pub record IsCallBy (p : TurnPosition) (place : Placement) (fates : FateMap) (id : CallId) : Type 0 where
  pub calls : IsTrue (is_call p.turn.act)
  pub lawful : IsLawful place
  pub fates_are : (node : ℕ) (own : Instance) → slice_get place.instances node ≡ Some own → fate_to fates id node ≡ fate_at p own.name

-- why a step of a call was refused, where it may be said
abbrev pub MaySay : Reason → Type 0
MaySay reason.Cut = ⊥
MaySay (reason.Corrupt damage) = IsShown damage
MaySay _ = Unit {0}

-- each refusal that was heard, and that is a step's, may be said
abbrev pub MaySayAll : {X : Type 0} → ℕ → StepCall → List (Heard X) → List Event → Type 0
MaySayAll shard c heard events = (n : ℕ) (why : Reason) → IsIn heard (n, Err why) → IsIn events (event.Step n shard c (reply.Refused why)) → MaySay why

-- What was heard of the nodes that count for a shard, each by its name.
pub record AreHeardOf {X : Type 0} (ok : X → StepReply) (place : Placement) (fates : FateMap) (id : CallId) (shard : ℕ) (c : StepCall) (heard : List (Heard X)) (events : List Event) : Type 0 where
  pub within : (n : ℕ) → IsIn (map (λ x. x.0) heard) n → IsCounted place shard n
  pub all : (n : ℕ) → IsCounted place shard n → IsIn (map (λ x. x.0) heard) n
  pub many : length (map (λ x. x.0) heard) ≡ length (counted (shard_at place shard))
  pub by_name : Ascends (IsNamedBelow place) (map (λ x. x.0) heard)
  pub came : (x : Heard X) → IsIn heard x → CameSo ok (fate_to fates id x.0) x.0 shard c x.1 events

module _ (start : Option MetaState) (Here : ℕ → Event → Type 0) (p : TurnPosition) (place : Placement) (fates : FateMap) (id : CallId) (known : IsCallBy p place fates id) where
  pub delivered_to : (shard n : ℕ) → IsIn (nodes_of (shard_at place shard)) n → is_cut (fate_to fates id n) ≡ false → IsDeliveredTo p place n
  delivered_to shard n m uncut = let own = node_there place known.lawful shard n m in record { instance_ = own.0; stands = own.1; holds = ap is_cut (sym (known.fates_are n own.0 own.1)) ∙ uncut }

  cut_at : (shard n : ℕ) → IsIn (nodes_of (shard_at place shard)) n → is_cut (fate_to fates id n) ≡ true → IsCutAt p place n
  cut_at shard n m cut = let own = node_there place known.lawful shard n m in (known.calls, record { instance_ = own.0; stands = own.1; holds = ap is_cut (sym (known.fates_are n own.0 own.1)) ∙ cut })

  refused_so : (shard n : ℕ) (why : Reason) → MaySay why → HasStep Here (IsOwnCall start p place.version) n shard (reply.Refused why) → IsHeard start Here p place shard n why
  refused_so shard n reason.Cut say step = absurd say
  refused_so shard n reason.Memory say step = tt
  refused_so shard n (reason.Corrupt damage) say step = (say, step)
  refused_so shard n _ say step = step

  module _ {X : Type 0} (ok : X → StepReply) (shard : ℕ) (c : StepCall) (heard : List (Heard X)) (events : List Event) (own : IsOwnCall start p place.version c) (here : (e : Event) → IsIn events e → Happens Here e) (serves : (x : X) → DidAsAsked (ok x))
      (h : AreHeardOf ok place fates id shard c heard events) where
    pub counted_of : (n : ℕ) → IsIn (map (λ (x : Heard X). x.0) heard) n → IsCounted place shard n
    counted_of n m = h.within n m

    among : (x : Heard X) → IsIn heard x → IsIn (nodes_of (shard_at place shard)) x.0
    among x m = counted_among_nodes (shard_at place shard) x.0 (counted_of x.0 (map-IsIn (λ (y : Heard X). y.0) heard x m))

    served_by : (n : ℕ) (x : X) → IsIn heard (n, Ok x) → HasServed start Here p place shard n
    served_by n x m = let came = h.came (n, Ok x) m in (ok x, serves x, (c, own, here (event.Step n shard c (ok x)) came.1), delivered_to shard n (among (n, Ok x) m) came.0)

    heard_why : MaySayAll shard c heard events → (n : ℕ) (why : Reason) → IsIn heard (n, Err why) → IsHeard start Here p place shard n why
    heard_why say n why m = elim (h.came (n, Err why) m) as (λ _. IsHeard start Here p place shard n why) [
      | inl cut ↦ subst (IsHeard start Here p place shard n) (sym cut.0) (cut_at shard n (among (n, Err why) m) cut.1)
      | inr step ↦ refused_so shard n why (say n why m step.1) (c, own, here (event.Step n shard c (reply.Refused why)) step.1)
    ]

    abbrev pub told : List NodeOutcome
    told = map told_of heard

    -- a node that answered counts, and did as the call asks
    pub answering_counted : (n : ℕ) → IsIn (answering told) n → IsCounted place shard n
    answering_counted n m = let y = heard_ok heard n m in counted_of n (map-IsIn (λ (x : Heard X). x.0) heard (n, Ok y.0) y.1)

    pub answering_served : (n : ℕ) → IsIn (answering told) n → HasServed start Here p place shard n
    answering_served n m = let y = heard_ok heard n m in served_by n y.0 y.1

    in_order : Ascends (IsNamedBelow place) (map (λ (x : NodeOutcome). x.0) told)
    in_order = subst (Ascends (IsNamedBelow place)) (sym (told_nodes heard)) h.by_name

    pub answering_by_name : Ascends (IsNamedBelow place) (answering told)
    answering_by_name = answering_ascend (IsNamedBelow place) told in_order

    refused_counted : (r : ℕ × Reason) → IsIn (refusing told) r → IsCounted place shard r.0
    refused_counted r m = counted_of r.0 (map-IsIn (λ (x : Heard X). x.0) heard (r.0, Err r.1) (heard_err heard r m))

    others : length (answering told) + length (refusing told) ≡ length (counted (shard_at place shard))
    others = one_or_other told ∙ length-map heard told_of ∙ sym (length-map heard (λ (x : Heard X). x.0)) ∙ h.many

    some_in : (ns : List ℕ) → 0 < length ns → (n : ℕ) × IsIn ns n
    some_in [] lt = absurd (omega (arith, lt))
    some_in (n ∷ ns) lt = (n, inl refl)

    served_left : (n : ℕ) → IsCounted place shard n → ¬ IsIn (map (λ (r : ℕ × Reason). r.0) (refusing told)) n → HasServed start Here p place shard n
    served_left n m left =
        let x = IsIn-map (λ (y : Heard X). y.0) heard n (h.all n m) in
        by x.0 x.1 x.2
      where
        by : (x : Heard X) → IsIn heard x → x.0 ≡ n → HasServed start Here p place shard n
        by (k, Ok y) i e = subst (HasServed start Here p place shard) e (served_by k y i)
        by (k, Err why) i e =
            absurd (left (subst (IsIn (map (λ (r : ℕ × Reason). r.0) (refusing told))) e (map-IsIn (λ (r : ℕ × Reason). r.0) (refusing told) (k, why) (told-refusing told k why (map-IsIn told_of heard (k, Err why) i)))))

    pub hears_shard : MaySayAll shard c heard events → HearsShard start Here p place shard (length (answering told)) (refusing told)
    hears_shard say = record {
      others = others;
      counted = refused_counted;
      by_name = refusing_ascend (IsNamedBelow place) told in_order;
      heard = λ r m. heard_why say r.0 r.1 (heard_err heard r m);
      took = λ some. let n = some_in (answering told) some in (n.0, answering_served n.0 n.1);
      served = served_left;
    }
