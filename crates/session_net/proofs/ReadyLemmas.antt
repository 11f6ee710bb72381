-- What stays where the events of a call came.
use Rattle.std.proofs.Common.{◌≡◌, ℕ, ◌+◌, ◌≤◌, List, [], ◌∷◌, ◌++◌, length, refl, sym, ap, ◌∙◌, subst, inl, inr, arith, length-append}
use Rattle.std.proofs.lemmas.Grind.{fold-append}
use Rattle.std.specs.Prelude.{⊤, ◌≢◌, ◌⊎◌, Option, Some, None, Result, fold}
use Rattle.std.specs.FinMap as finite
use Rattle.std.specs.List.{Any}
use Rattle.m3_model.specs.Members.{IsIn}
use Rattle.m3_model.specs.declared.act.Fate.{Fate}
use Rattle.m3_model.specs.declared.act.Fate.TheVariants as fate
use Rattle.m3_model.specs.declared.placement.Placement.{Placement}
use Rattle.m3_model.specs.declared.reason.Reason.{Reason}
use Rattle.m3_model.specs.declared.rules.MetaState.{MetaState}
use Rattle.m3_model.specs.declared.rules.Rules.{Rules}
use Rattle.m3_model.proofs.MemberLemmas.{IsIn-append_cases}
use Rattle.replica_calls.specs.m3_outside.DiskState.{DiskState}
use Rattle.replica_calls.specs.cluster_core.Earlier.{IsClock, HasClock, last_clock, last_place, clock_after, place_after}
use Rattle.replica_calls.specs.cluster_core.declared.event.Event.{Event}
use Rattle.replica_calls.specs.cluster_core.declared.event.Event.TheVariants as event
use Rattle.replica_calls.specs.cluster_core.declared.event.StepCall.{StepCall}
use Rattle.replica_calls.specs.cluster_core.declared.event.StepReply.{StepReply}
use Rattle.replica_calls.proofs.cluster_core_proofs.ExtendLemmas.{any_more}
use Rattle.replica_calls.proofs.cluster_core_proofs.ListLemmas.{some_same, in_at, at_any, any_at}
use Rattle.net_plan.specs.Fates.{FateMap}
use Rattle.net_plan.specs.declared.late_write.LateWrite.{LateWrite}
use Rattle.replica_calls.specs.MachineCalls.{HasRoom}
use Rattle.replica_calls.specs.CallId.{CallId}
use Rattle.replica_calls.specs.Member.{Member}
use Rattle.replica_calls.specs.Slot.{Slot}
use Rattle.replica_calls.specs.Calls.{Tracked}
use Rattle.session_net.specs.Messages.{exchange, IsDelivery, IsHeard, Heard, AreHeard}
use Rattle.session_net.specs.Ready.{IsReady, IsCallable, Places, IsLateSend}
use Rattle.session_net.specs.Runs.{steps_of, IsStepped, Ran, slot_at}

-- ---- what was there

pub any_after : {D : Type 0} (state : D → DiskState) (P : Event → Type 0) (old new : Tracked D) (more : List Event) → Ran state old more new → Any P old.events → Any P new.events
any_after state P old new more ran h = subst (λ es. Any P es) (sym ran.grew) (any_more P old.events more h)

pub there_after : {D : Type 0} (state : D → DiskState) (old new : Tracked D) (more : List Event) (s : Slot) → Ran state old more new → finite.get old.members s ≢ None → finite.get new.members s ≢ None
there_after {D} state old new more s ran there = by (finite.get old.members s) there (ran.stepped s)
  where
    by : (o : Option (Member D)) → o ≢ None → IsStepped state (steps_of s more) o (finite.get new.members s) → finite.get new.members s ≢ None
    by None t h gone = absurd (t refl)
    by (Some m) t h gone = let clash : Some h.0 ≡ None = sym h.1 ∙ gone in cc

pub room_after : {D : Type 0} (state : D → DiskState) (old new : Tracked D) (more : List Event) (n k : ℕ) → Ran state old more new → HasRoom n old.events → length more + k ≤ n → HasRoom k new.events
room_after state old new more n k ran room fits =
    let long : length new.events ≡ length old.events + length more = ap length ran.grew ∙ length-append old.events more in
    omega (arith, long, room, fits)

-- ---- events that set neither the moment nor the placement

abbrev pub IsQuiet : Event → Type 0
IsQuiet (event.Place place done) = ⊥
IsQuiet (event.Clock rules) = ⊥
IsQuiet _ = ⊤

abbrev pub AreQuiet : List Event → Type 0
AreQuiet events = (e : Event) → IsIn events e → IsQuiet e

clock_kept : (was : Option Rules) (e : Event) → IsQuiet e → clock_after was e ≡ was
clock_kept was (event.Clock rules) quiet = absurd quiet
clock_kept was _ quiet = refl

place_kept : (was : Option Placement) (e : Event) → IsQuiet e → place_after was e ≡ was
place_kept was (event.Place place done) quiet = absurd quiet
place_kept was _ quiet = refl

clocks_kept : (was : Option Rules) (more : List Event) → AreQuiet more → fold clock_after was more ≡ was
clocks_kept was [] quiet = refl
clocks_kept was (e ∷ more) quiet = ap (λ w. fold clock_after w more) (clock_kept was e (quiet e (inl refl))) ∙ clocks_kept was more (λ x m. quiet x (inr m))

places_kept : (was : Option Placement) (more : List Event) → AreQuiet more → fold place_after was more ≡ was
places_kept was [] quiet = refl
places_kept was (e ∷ more) quiet = ap (λ w. fold place_after w more) (place_kept was e (quiet e (inl refl))) ∙ places_kept was more (λ x m. quiet x (inr m))

-- calls may still be made after such events, with late writes that were sent
pub ready_after : {D : Type 0} (disk : D → DiskState) (state : MetaState) (old new : Tracked D) (bag later : List LateWrite) (more : List Event) → IsReady state old bag → Ran disk old more new → AreQuiet more
    → ((one : LateWrite) → IsIn later one → IsIn bag one ⊎ IsLateSend new one) → IsReady state new later
ready_after disk state old new bag later more was ran quiet kept = record {
  clock = ap last_clock ran.grew ∙ fold-append clock_after None old.events more ∙ clocks_kept (last_clock old.events) more quiet ∙ was.clock;
  place = ap last_place ran.grew ∙ fold-append place_after None old.events more ∙ places_kept (last_place old.events) more quiet ∙ was.place;
  lawful = was.lawful;
  there = λ n s m. there_after disk old new more (slot_at n s) ran (was.there n s m);
  late = λ one m. elim (kept one m) as (λ _. IsLateSend new one) [
    | inl before ↦ let sent = was.late one before in record { sent = any_after disk _ old new more ran sent.sent; there = there_after disk old new more (slot_at one.node one.shard) ran sent.there }
    | inr sent ↦ sent
  ];
}

-- so they may by any placement of the list
pub calls_after : {D : Type 0} (disk : D → DiskState) (state : MetaState) (old new : Tracked D) (bag later : List LateWrite) (more : List Event) → IsCallable state old bag → Ran disk old more new → AreQuiet more
    → ((one : LateWrite) → IsIn later one → IsIn bag one ⊎ IsLateSend new one) → IsCallable state new later
calls_after disk state old new bag later more was ran quiet kept = record {
  clock = ap last_clock ran.grew ∙ fold-append clock_after None old.events more ∙ clocks_kept (last_clock old.events) more quiet ∙ was.clock;
  place = any_after disk (Places state.place) old new more ran was.place;
  lawful = was.lawful;
  there = λ n s m. there_after disk old new more (slot_at n s) ran (was.there n s m);
  late = λ one m. elim (kept one m) as (λ _. IsLateSend new one) [
    | inl before ↦ let sent = was.late one before in record { sent = any_after disk _ old new more ran sent.sent; there = there_after disk old new more (slot_at one.node one.shard) ran sent.there }
    | inr sent ↦ sent
  ];
}

-- ---- messages are quiet

pub quiet_both : (xs ys : List Event) → AreQuiet xs → AreQuiet ys → AreQuiet (xs ++ ys)
quiet_both xs ys qx qy e m = elim (IsIn-append_cases xs ys e m) as (λ _. IsQuiet e) [ inl l ↦ qx e l | inr r ↦ qy e r ]

pub quiet_none : AreQuiet []
quiet_none e m = absurd m

quiet_exchange : (n s : ℕ) (c : StepCall) (a : StepReply) → AreQuiet (exchange n s c a)
quiet_exchange n s c a e (inl is) = subst IsQuiet is tt
quiet_exchange n s c a e (inr (inl is)) = subst IsQuiet is tt
quiet_exchange n s c a e (inr (inr none)) = absurd none

pub quiet_delivery : {X : Type 0} (ok : X → StepReply) (n s : ℕ) (c : StepCall) (said : Result X Reason) (events : List Event) → IsDelivery ok n s c said events → AreQuiet events
quiet_delivery ok n s c said events is = subst AreQuiet (sym is) (quiet_exchange n s c _)

pub quiet_message : {X : Type 0} (ok : X → StepReply) (f : Fate) (n s : ℕ) (c : StepCall) (said : Result X Reason) (events : List Event) → IsHeard ok f n s c said events → AreQuiet events
quiet_message ok fate.Lose n s c said events h = subst AreQuiet (sym h.1) quiet_none
quiet_message ok fate.Late n s c said events h = subst AreQuiet (sym h.1) quiet_none
quiet_message ok fate.Deliver n s c said events h = quiet_delivery ok n s c said events h
quiet_message ok fate.Twice n s c said events h = subst AreQuiet (sym h.are) (quiet_both h.heard h.unheard (quiet_delivery ok n s c said h.heard h.first) (quiet_delivery ok n s c h.again h.unheard h.second))

pub quiet_messages : {X : Type 0} (ok : X → StepReply) (fates : FateMap) (id : CallId) (s : ℕ) (c : StepCall) (nodes : List ℕ) (heard : List (Heard X)) (events : List Event) → AreHeard ok fates id s c nodes heard events → AreQuiet events
quiet_messages ok fates id s c [] [] events h = subst AreQuiet (sym h) quiet_none
quiet_messages ok fates id s c [] (x ∷ heard) events h = absurd h
quiet_messages ok fates id s c (n ∷ nodes) [] events h = absurd h
quiet_messages ok fates id s c (n ∷ nodes) (x ∷ heard) events h =
    subst AreQuiet (sym h.3) (quiet_both h.1 h.2 (quiet_message ok _ n s c x.1 h.1 h.4) (quiet_messages ok fates id s c nodes heard h.2 h.5))

pub quiet_between : (e : Event) (events : List Event) (rest : List Event) → IsQuiet e → AreQuiet events → AreQuiet rest → AreQuiet (e ∷ (events ++ rest))
quiet_between e events rest quiet qs qr x (inl is) = subst IsQuiet is quiet
quiet_between e events rest quiet qs qr x (inr m) = quiet_both events rest qs qr x m

-- ---- what stands is there

clock_set : (was : Option Rules) (e : Event) (rules : Rules) → clock_after was e ≡ Some rules → (was ≡ Some rules) ⊎ (e ≡ event.Clock rules)
clock_set was (event.Clock r) rules set = inr (ap (λ r. event.Clock r) (some_same r rules set))
clock_set was _ rules set = inl set

clock_in : (was : Option Rules) (events : List Event) (rules : Rules) → fold clock_after was events ≡ Some rules → (was ≡ Some rules) ⊎ IsIn events (event.Clock rules)
clock_in was [] rules set = inl set
clock_in was (e ∷ events) rules set = elim (clock_in (clock_after was e) events rules set) as (λ _. (was ≡ Some rules) ⊎ IsIn (e ∷ events) (event.Clock rules)) [
  | inl here ↦ elim (clock_set was e rules here) as (λ _. (was ≡ Some rules) ⊎ IsIn (e ∷ events) (event.Clock rules)) [ inl before ↦ inl before | inr is ↦ inr (inl is) ]
  | inr later ↦ inr (inr later)
]

pub any_in : (P : Event → Type 0) (events : List Event) (e : Event) → IsIn events e → P e → Any P events
any_in P events e m h = let at = in_at events e m in at_any P events at.0 e at.1 h

-- the last moment is one of the list
pub clock_there : (events : List Event) (rules : Rules) → last_clock events ≡ Some rules → HasClock events rules
clock_there events rules is = elim (clock_in None events rules is) as (λ _. HasClock events rules) [ inl none ↦ cc | inr m ↦ any_in (IsClock rules) events (event.Clock rules) m refl ]

place_set : (was : Option Placement) (e : Event) (place : Placement) → place_after was e ≡ Some place → (was ≡ Some place) ⊎ ((done : List (ℕ × ℕ)) × (e ≡ event.Place place done))
place_set was (event.Place p done) place set = inr (done, ap (λ p. event.Place p done) (some_same p place set))
place_set was _ place set = inl set

place_in : (was : Option Placement) (events : List Event) (place : Placement) → fold place_after was events ≡ Some place → (was ≡ Some place) ⊎ ((done : List (ℕ × ℕ)) × IsIn events (event.Place place done))
place_in was [] place set = inl set
place_in was (e ∷ events) place set = elim (place_in (place_after was e) events place set) as (λ _. (was ≡ Some place) ⊎ ((done : List (ℕ × ℕ)) × IsIn (e ∷ events) (event.Place place done))) [
  | inl here ↦ elim (place_set was e place here) as (λ _. (was ≡ Some place) ⊎ ((done : List (ℕ × ℕ)) × IsIn (e ∷ events) (event.Place place done))) [ inl before ↦ inl before | inr is ↦ inr (is.0, inl is.1) ]
  | inr later ↦ inr (later.0, inr later.1)
]

-- the last placement is one of the list
pub place_there : (P : Event → Type 0) (events : List Event) (place : Placement) → last_place events ≡ Some place → ((done : List (ℕ × ℕ)) → P (event.Place place done)) → Any P events
place_there P events place is holds = elim (place_in None events place is) as (λ _. Any P events) [ inl none ↦ cc | inr m ↦ any_in P events (event.Place place m.0) m.1 (holds m.0) ]

-- what holds of each Place of a placement of the list holds of one in it
pub placed_there : (P : Event → Type 0) (events : List Event) (place : Placement) → Any (Places place) events → ((done : List (ℕ × ℕ)) → P (event.Place place done)) → Any P events
placed_there P events place is holds = let a = any_at (Places place) events is in at_any P events a.0 a.1 a.2 (by a.1 a.3)
  where
    by : (e : Event) → Places place e → P e
    by (event.Place placed done) same = subst (λ p. P (event.Place p done)) (sym same) (holds done)
    by _ none = absurd none

-- where calls may be made, they may by the placement that stands
pub may_call : {D : Type 0} (state : MetaState) (replicas : Tracked D) (bag : List LateWrite) → IsReady state replicas bag → IsCallable state replicas bag
may_call state replicas bag ready = record {
  clock = ready.clock;
  place = place_there (Places state.place) replicas.events state.place ready.place (λ done. refl);
  lawful = ready.lawful;
  there = ready.there;
  late = ready.late;
}
