-- The events of a call's messages: whom they ask, and that each answer that is heard is a step's.
use Rattle.std.proofs.Common.{◌≡◌, ℕ, ◌+◌, ◌*◌, ◌≤◌, length, arith, length-append, List, [], ◌∷◌, map, refl, sym, ap, subst, ◌∙◌, inl, inr, Bool, true, false}
use Rattle.std.specs.Prelude.{◌⊎◌, Result, Ok, Err, if◌then◌else◌, filter}
use Rattle.m3_model.specs.Delivery.{is_cut}
use Rattle.m3_model.specs.Members.{IsIn}
use Rattle.m3_model.specs.declared.act.Fate.{Fate}
use Rattle.m3_model.specs.declared.act.Fate.TheVariants as fate
use Rattle.m3_model.specs.declared.placement.Assignment.{Assignment}
use Rattle.m3_model.specs.declared.reason.Reason.{Reason}
use Rattle.m3_model.specs.declared.reason.Reason.TheVariants as reason
use Rattle.m3_model.proofs.MemberLemmas.{IsIn-append_cases, IsIn-append_left, IsIn-append_right}
use Rattle.cluster_core.specs.declared.event.Event.{Event}
use Rattle.cluster_core.specs.declared.event.Event.TheVariants as event
use Rattle.cluster_core.specs.declared.event.StepCall.{StepCall}
use Rattle.cluster_core.specs.declared.event.StepReply.{StepReply}
use Rattle.cluster_core.specs.declared.event.StepReply.TheVariants as reply
use Rattle.net_plan.specs.Fates.{FateMap}
use Rattle.placement_core.specs.Shards.{Shard, counted, counts, is_available, nodes_of}
use Rattle.session_net.specs.replica_exchange.Steps.{reply_by}
use Rattle.session_net.specs.replica_exchange.Exchanges.{ask_of}
use Rattle.session_net.specs.replica_exchange.declared.call_id.CallId.{CallId}
use Rattle.session_net.specs.Messages.{exchange, IsDelivery, IsHeard, Heard, AreHeard, fate_to}
use Rattle.session_net.specs.Writes.{counted_among}

-- ---- what the events are

-- the event asks this of the replica, or is its step
abbrev pub IsExchanged : ℕ → ℕ → StepCall → Event → Type 0
IsExchanged n s c e = (e ≡ ask_of n s c) ⊎ ((a : StepReply) × (e ≡ event.Step n s c a))

-- the same of one of these nodes to which messages are delivered
pub record IsExchangedBy (fates : FateMap) (id : CallId) (s : ℕ) (c : StepCall) (nodes : List ℕ) (e : Event) : Type 0 where
  pub node : ℕ
  pub among : IsIn nodes node
  pub delivered : is_cut (fate_to fates id node) ≡ false
  pub is : IsExchanged node s c e

in_exchange : (n s : ℕ) (c : StepCall) (a : StepReply) (e : Event) → IsIn (exchange n s c a) e → IsExchanged n s c e
in_exchange n s c a e (inl is) = inl (sym is)
in_exchange n s c a e (inr (inl is)) = inr (a, sym is)
in_exchange n s c a e (inr (inr none)) = absurd none

pub in_delivery : {X : Type 0} (ok : X → StepReply) (n s : ℕ) (c : StepCall) (said : Result X Reason) (events : List Event) → IsDelivery ok n s c said events → (e : Event) → IsIn events e → IsExchanged n s c e
in_delivery ok n s c said events is e m = in_exchange n s c (reply_by ok said) e (subst (λ es. IsIn es e) is m)

in_heard : {X : Type 0} (ok : X → StepReply) (f : Fate) (n s : ℕ) (c : StepCall) (said : Result X Reason) (events : List Event) → IsHeard ok f n s c said events → (e : Event) → IsIn events e → (is_cut f ≡ false) × IsExchanged n s c e
in_heard ok fate.Lose n s c said events h e m = absurd (subst (λ es. IsIn es e) h.1 m)
in_heard ok fate.Late n s c said events h e m = absurd (subst (λ es. IsIn es e) h.1 m)
in_heard ok fate.Deliver n s c said events h e m = (refl, in_delivery ok n s c said events h e m)
in_heard ok fate.Twice n s c said events h e m =
    (refl, elim (IsIn-append_cases h.heard h.unheard e (subst (λ es. IsIn es e) h.are m)) as (λ _. IsExchanged n s c e) [ inl l ↦ in_delivery ok n s c said h.heard h.first e l | inr r ↦ in_delivery ok n s c h.again h.unheard h.second e r ])

pub few_delivered : {X : Type 0} (ok : X → StepReply) (n s : ℕ) (c : StepCall) (said : Result X Reason) (events : List Event) → IsDelivery ok n s c said events → length events ≤ 2
few_delivered ok n s c said events is = let two : length events ≡ 2 = ap length is in omega (arith, two)

few_heard : {X : Type 0} (ok : X → StepReply) (f : Fate) (n s : ℕ) (c : StepCall) (said : Result X Reason) (events : List Event) → IsHeard ok f n s c said events → length events ≤ 4
few_heard ok fate.Lose n s c said events h = let none : length events ≡ 0 = ap length h.1 in omega (arith, none)
few_heard ok fate.Late n s c said events h = let none : length events ≡ 0 = ap length h.1 in omega (arith, none)
few_heard ok fate.Deliver n s c said events h = let few = few_delivered ok n s c said events h in omega (arith, few)
few_heard ok fate.Twice n s c said events h =
    let both : length events ≡ length h.heard + length h.unheard = ap length h.are ∙ length-append h.heard h.unheard in
    let first = few_delivered ok n s c said h.heard h.first in
    let second = few_delivered ok n s c h.again h.unheard h.second in
    omega (arith, both, first, second)

-- ---- what is heard

-- what a node is heard to say came so: it is the answer of a step where its message was delivered
abbrev pub CameSo : {X : Type 0} → (X → StepReply) → Fate → ℕ → ℕ → StepCall → Result X Reason → List Event → Type 0
CameSo ok f n s c (Ok x) events = (is_cut f ≡ false) × IsIn events (event.Step n s c (ok x))
CameSo ok f n s c (Err why) events = ((why ≡ reason.Cut) × (is_cut f ≡ true)) ⊎ ((is_cut f ≡ false) × IsIn events (event.Step n s c (reply.Refused why)))

same_why : {X : Type 0} (a b : Reason) → ◌≡◌ {A = Result X Reason} (Err a) (Err b) → a ≡ b
same_why a b e = cc

pub came_once : {X : Type 0} (ok : X → StepReply) (f : Fate) (n s : ℕ) (c : StepCall) (said : Result X Reason) (events : List Event) → is_cut f ≡ false → IsDelivery ok n s c said events → CameSo ok f n s c said events
came_once ok f n s c (Ok x) events uncut is = (uncut, subst (λ es. IsIn es (event.Step n s c (ok x))) (sym is) (inr (inl refl)))
came_once ok f n s c (Err why) events uncut is = inr (uncut, subst (λ es. IsIn es (event.Step n s c (reply.Refused why))) (sym is) (inr (inl refl)))

pub came_more : {X : Type 0} (ok : X → StepReply) (f : Fate) (n s : ℕ) (c : StepCall) (said : Result X Reason) (events more : List Event) → ((e : Event) → IsIn events e → IsIn more e) → CameSo ok f n s c said events → CameSo ok f n s c said more
came_more ok f n s c (Ok x) events more all h = (h.0, all (event.Step n s c (ok x)) h.1)
came_more ok f n s c (Err why) events more all (inl cut) = inl cut
came_more ok f n s c (Err why) events more all (inr h) = inr (h.0, all (event.Step n s c (reply.Refused why)) h.1)

came_cut : {X : Type 0} (ok : X → StepReply) (f : Fate) (n s : ℕ) (c : StepCall) (said : Result X Reason) (events : List Event) → is_cut f ≡ true → said ≡ Err reason.Cut → CameSo ok f n s c said events
came_cut ok f n s c (Ok x) events cut is = cc
came_cut {X} ok f n s c (Err why) events cut is = inl (same_why {X = X} why reason.Cut is, cut)

came_so : {X : Type 0} (ok : X → StepReply) (f : Fate) (n s : ℕ) (c : StepCall) (said : Result X Reason) (events : List Event) → IsHeard ok f n s c said events → CameSo ok f n s c said events
came_so ok fate.Lose n s c said events h = came_cut ok fate.Lose n s c said events refl h.0
came_so ok fate.Late n s c said events h = came_cut ok fate.Late n s c said events refl h.0
came_so ok fate.Deliver n s c said events h = came_once ok fate.Deliver n s c said events refl h
came_so ok fate.Twice n s c said events h =
    came_more ok fate.Twice n s c said h.heard events (λ e m. subst (λ es. IsIn es e) (sym h.are) (IsIn-append_left h.heard h.unheard e m)) (came_once ok fate.Twice n s c said h.heard refl h.first)

-- ---- one node after the other

module _ {X : Type 0} (ok : X → StepReply) (fates : FateMap) (id : CallId) (s : ℕ) (c : StepCall) where
  pub events_are : (nodes : List ℕ) (heard : List (Heard X)) (events : List Event) → AreHeard ok fates id s c nodes heard events → (e : Event) → IsIn events e → IsExchangedBy fates id s c nodes e
  events_are [] [] events h e m = absurd (subst (λ es. IsIn es e) h m)
  events_are [] (x ∷ heard) events h e m = absurd h
  events_are (n ∷ nodes) [] events h e m = absurd h
  events_are (n ∷ nodes) (x ∷ heard) events h e m = elim (IsIn-append_cases h.1 h.2 e (subst (λ es. IsIn es e) h.3 m)) as (λ _. IsExchangedBy fates id s c (n ∷ nodes) e) [
    | inl l ↦ let here = in_heard ok (fate_to fates id n) n s c x.1 h.1 h.4 e l in record { node = n; among = inl refl; delivered = here.0; is = here.1 }
    | inr r ↦ let later = events_are nodes heard h.2 h.5 e r in record { node = later.node; among = inr later.among; delivered = later.delivered; is = later.is }
  ]

  pub each_came : (nodes : List ℕ) (heard : List (Heard X)) (events : List Event) → AreHeard ok fates id s c nodes heard events → (x : Heard X) → IsIn heard x → CameSo ok (fate_to fates id x.0) x.0 s c x.1 events
  each_came [] [] events h x m = absurd m
  each_came [] (y ∷ heard) events h x m = absurd h
  each_came (n ∷ nodes) [] events h x m = absurd h
  each_came (n ∷ nodes) (y ∷ heard) events h x m = elim m as (λ _. CameSo ok (fate_to fates id x.0) x.0 s c x.1 events) [
    | inl same ↦ subst (λ (z : Heard X). CameSo ok (fate_to fates id z.0) z.0 s c z.1 events) same
        (subst (λ k. CameSo ok (fate_to fates id k) k s c y.1 events) (sym h.0)
        (came_more ok (fate_to fates id n) n s c y.1 h.1 events (λ e i. subst (λ es. IsIn es e) (sym h.3) (IsIn-append_left h.1 h.2 e i)) (came_so ok (fate_to fates id n) n s c y.1 h.1 h.4)))
    | inr rest ↦ came_more ok (fate_to fates id x.0) x.0 s c x.1 h.2 events (λ e i. subst (λ es. IsIn es e) (sym h.3) (IsIn-append_right h.1 h.2 e i)) (each_came nodes heard h.2 h.5 x rest)
  ]

  -- the nodes that were heard are those that were asked
  pub heard_nodes : (nodes : List ℕ) (heard : List (Heard X)) (events : List Event) → AreHeard ok fates id s c nodes heard events → map (λ x. x.0) heard ≡ nodes
  heard_nodes [] [] events h = refl
  heard_nodes [] (x ∷ heard) events h = absurd h
  heard_nodes (n ∷ nodes) [] events h = absurd h
  heard_nodes (n ∷ nodes) (x ∷ heard) events h = ap (λ k. k ∷ map (λ y. y.0) heard) h.0 ∙ ap (λ ns. n ∷ ns) (heard_nodes nodes heard h.2 h.5)

  -- each brings four events at most
  pub few_events : (nodes : List ℕ) (heard : List (Heard X)) (events : List Event) → AreHeard ok fates id s c nodes heard events → length events ≤ 4 * length nodes
  few_events [] [] events h = let none : length events ≡ 0 = ap length h in omega (arith, none)
  few_events [] (x ∷ heard) events h = absurd h
  few_events (n ∷ nodes) [] events h = absurd h
  few_events (n ∷ nodes) (x ∷ heard) events h =
      let both : length events ≡ length h.1 + length h.2 = ap length h.3 ∙ length-append h.1 h.2 in
      let here = few_heard ok (fate_to fates id n) n s c x.1 h.1 h.4 in
      let rest = few_events nodes heard h.2 h.5 in
      omega (arith, both, here, rest)

-- ---- those that count

in_if : {X : Type 0} (b : Bool) (x y : X) (xs ys : List X) → ((z : X) → IsIn xs z → IsIn ys z) → IsIn (if b then y ∷ xs else xs) x → IsIn (y ∷ ys) x
in_if true x y xs ys all m = elim m as (λ _. IsIn (y ∷ ys) x) [ inl same ↦ inl same | inr rest ↦ inr (all x rest) ]
in_if false x y xs ys all m = inr (all x m)

pub in_counted : {X : Type 0} (members : Shard) (heard : List X) (x : X) → IsIn (counted_among members heard) x → IsIn heard x
in_counted [] heard x m = absurd m
in_counted (a ∷ members) [] x m = absurd m
in_counted (a ∷ members) (y ∷ heard) x m = in_if (counts a.state) x y (counted_among members heard) heard (in_counted members heard) m

nodes_by : {X : Type 0} (b : Bool) (x : Heard X) (a : Assignment) (xs : List (Heard X)) (members : Shard) → x.0 ≡ a.node → map (λ y. y.0) xs ≡ nodes_of members → map (λ y. y.0) (if b then x ∷ xs else xs) ≡ nodes_of (if b then a ∷ members else members)
nodes_by true x a xs members e rest = ap (λ k. k ∷ map (λ y. y.0) xs) e ∙ ap (λ ns. a.node ∷ ns) rest
nodes_by false x a xs members e rest = rest

pub counted_nodes : {X : Type 0} (members : Shard) (heard : List (Heard X)) → map (λ x. x.0) heard ≡ nodes_of members → map (λ x. x.0) (counted_among members heard) ≡ counted members
counted_nodes [] [] e = refl
counted_nodes [] (x ∷ heard) e = cc
counted_nodes (a ∷ members) [] e = cc
counted_nodes {X} (a ∷ members) (x ∷ heard) e = nodes_by (counts a.state) x a (counted_among members heard) (filter is_available members) (first_same e) (counted_nodes members heard (rest_same e))
  where
    first_same : {m n : ℕ} {ms ns : List ℕ} → m ∷ ms ≡ n ∷ ns → m ≡ n
    first_same e = cc

    rest_same : {m n : ℕ} {ms ns : List ℕ} → m ∷ ms ≡ n ∷ ns → ms ≡ ns
    rest_same e = cc
