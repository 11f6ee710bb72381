-- What a put or a read that is refused as not owned, or for a fence, says of its replica.
use Rattle.std.proofs.Common.{◌≡◌, ℕ, ◌<◌, ◌≤◌, List, take, length, refl, sym, ap, ◌∙◌, subst, inl, inr, arith, Bool, true, false}
use Rattle.std.specs.Prelude.{◌⊎◌, Option, Some, None, nat_le, if◌then◌else◌, slice_get, ◌+◌}
use Rattle.std.specs.Option.{option_or}
use Rattle.std.proofs.lemmas.Bool.{leb-false, leb-true}
use Rattle.std.proofs.lemmas.Option.{same_Some}
use Rattle.m3_model.specs.declared.placement.Placement.{Placement}
use Rattle.m3_model.specs.declared.point.Point.{Point}
use Rattle.m3_model.specs.declared.reason.Reason.{Reason}
use Rattle.m3_model.specs.declared.reason.Reason.TheVariants as reason
use Rattle.m3_model.specs.declared.replica.Standing.{Standing}
use Rattle.m3_model.specs.declared.replica.Standing.TheVariants as standing
use Rattle.m3_model.specs.declared.rules.MetaState.{MetaState}
use Rattle.m3_model.specs.declared.rules.Rules.{Rules}
use Rattle.m3_model.specs.declared.rules.Space.{Space}
use Rattle.m3_model.specs.declared.turn.Turn.{Turn}
use Rattle.cluster_core.specs.Earlier.{last_place}
use Rattle.cluster_core.specs.Legal.{Legal}
use Rattle.cluster_core.specs.Refusals.{first_refusal, outdated, outside, outside_of, reason_if, shut, unowned, untenured}
use Rattle.cluster_core.specs.Replicas.{replica}
use Rattle.cluster_core.specs.Rows.{ReplicaMayRefuse}
use Rattle.cluster_core.specs.declared.event.Event.{Event}
use Rattle.cluster_core.specs.declared.event.StepCall.{StepCall}
use Rattle.cluster_core.specs.declared.event.StepCall.TheVariants as call
use Rattle.cluster_core.specs.declared.event.StepReply.TheVariants as reply
use Rattle.cluster_core.specs.declared.replica_state.ReplicaState.{ReplicaState}
use Rattle.cluster_core.proofs.TraceLemmas.{lawful_step}
use Rattle.transcripts.specs.Placements.{MayStand, printed}
use Rattle.transcripts.specs.Record.{TurnPosition, IsTurnPosition}
use Rattle.told_by.specs.Hears.{HasStep, InStretch, IsStreamCall}
use Rattle.told_by.specs.Told.{ToldBy}
use Rattle.told_causes.proofs.RefusalLemmas.{or_cases, refused_law}
use Rattle.told_moves.specs.Moves.{IsAtVersion, IsQuiet, IsRefusedAt}
use Rattle.told_moves.specs.Order.{IsInOrder}
use Rattle.told_causes.proofs.StoodLemmas.{may_stand}
use Rattle.told_moves.proofs.TenureLemmas.{stands_at}

-- the reasons that a move of the shard leaves
abbrev pub IsMoveReason : Reason → Type 0
IsMoveReason reason.NotOwned = Unit {0}
IsMoveReason (reason.Stale fence) = Unit {0}
IsMoveReason _ = ⊥

-- for such a reason the replica is open
open_or : (x : Standing) (rest : Option Reason) (why : Reason) → IsMoveReason why → option_or (shut x) rest ≡ Some why → (x ≡ standing.Open) × (rest ≡ Some why)
open_or standing.Down rest why is e = absurd (subst IsMoveReason (sym (same_Some reason.Down why e)) is)
open_or standing.Boot rest why is e = absurd (subst IsMoveReason (sym (same_Some reason.Boot why e)) is)
open_or standing.Open rest why is e = (refl, e)

if_not : (b : Bool) (own why : Reason) → (IsMoveReason own → ⊥) → IsMoveReason why → reason_if b own ≡ Some why → ⊥
if_not true own why not is e = not (subst IsMoveReason (sym (same_Some own why e)) is)
if_not false own why not is e = cc

outside_not : (rules : Rules) (p : Point) (o : Option Space) (why : Reason) → IsMoveReason why → outside_of rules p o ≡ Some why → ⊥
outside_not rules p None why is e = cc
outside_not rules p (Some space) why is e =
    elim (or_cases (reason_if (nat_le (p.t + space.past) rules.now) reason.Past) (reason_if (nat_le (rules.now + space.future) p.t) reason.Future) why e) as (λ _. ⊥) [
      | inl past ↦ if_not (nat_le (p.t + space.past) rules.now) reason.Past why (λ h. h) is past
      | inr future ↦ if_not (nat_le (rules.now + space.future) p.t) reason.Future why (λ h. h) is future
    ]

-- a tenure is above the version, or there is none; or it isn't above it
abbrev pub IsAbove : Option ℕ → ℕ → Type 0
IsAbove o version = (o ≡ None) ⊎ ((tenure : ℕ) × (o ≡ Some tenure) × (version < tenure))

abbrev pub IsUpTo : Option ℕ → ℕ → Type 0
IsUpTo o version = (tenure : ℕ) × (o ≡ Some tenure) × (tenure ≤ version)

unowned_cases : (o : Option ℕ) (version : ℕ) → ((unowned o version ≡ Some reason.NotOwned) × IsAbove o version) ⊎ ((unowned o version ≡ None) × IsUpTo o version)
unowned_cases None version = inl (refl, inl refl)
unowned_cases (Some tenure) version = by (nat_le tenure version) refl
  where
    by : (b : Bool) → nat_le tenure version ≡ b → (((if b then None else Some reason.NotOwned) ≡ Some reason.NotOwned) × IsAbove (Some tenure) version) ⊎ (((if b then None else Some reason.NotOwned) ≡ None) × IsUpTo (Some tenure) version)
    by true is = inr (refl, (tenure, refl, leb-true tenure version is))
    by false is = inl (refl, inr (tenure, refl, leb-false tenure version is))

outdated_cases : (fence version : ℕ) → ((outdated fence version ≡ Some (reason.Stale fence)) × (version < fence)) ⊎ (outdated fence version ≡ None)
outdated_cases fence version = by (nat_le fence version) refl
  where
    by : (b : Bool) → nat_le fence version ≡ b → (((if b then None else Some (reason.Stale fence)) ≡ Some (reason.Stale fence)) × (version < fence)) ⊎ ((if b then None else Some (reason.Stale fence)) ≡ None)
    by true is = inr refl
    by false is = inl (refl, leb-false fence version is)

-- which reason a tenure and a fence give
abbrev pub FoundsMove : Option ℕ → ℕ → ℕ → Reason → Type 0
FoundsMove tenure fence version reason.NotOwned = IsAbove tenure version
FoundsMove tenure fence version (reason.Stale at) = IsUpTo tenure version × (fence ≡ at) × (version < fence)
FoundsMove tenure fence version _ = ⊥

by_fence : (tenure : Option ℕ) (fence version : ℕ) (why : Reason) → IsMoveReason why → IsUpTo tenure version → outdated fence version ≡ Some why → FoundsMove tenure fence version why
by_fence tenure fence version why is within e =
    elim (outdated_cases fence version) as (λ _. FoundsMove tenure fence version why) [
      | inl stale ↦ subst (FoundsMove tenure fence version) (same_Some (reason.Stale fence) why (sym stale.0 ∙ e)) (within, refl, stale.1)
      | inr none ↦ let bad : None ≡ Some why = sym none ∙ e in cc
    ]

by_tenure : (tenure : Option ℕ) (fence version : ℕ) (rest : Option Reason) (why : Reason) → (IsUpTo tenure version → rest ≡ Some why → FoundsMove tenure fence version why) → option_or (unowned tenure version) rest ≡ Some why → FoundsMove tenure fence version why
by_tenure tenure fence version rest why later e =
    elim (unowned_cases tenure version) as (λ _. FoundsMove tenure fence version why) [
      | inl above ↦ subst (FoundsMove tenure fence version) (same_Some reason.NotOwned why (sym (ap (λ o. option_or o rest) above.0) ∙ e)) above.1
      | inr within ↦ later within.1 (sym (ap (λ o. option_or o rest) within.0) ∙ e)
    ]

-- a put or a read that is refused for such a reason is so by an open replica's tenure or fence
refused_move : (r : ReplicaState) (c : StepCall) (version : ℕ) (why : Reason) → IsAtVersion version c → IsMoveReason why → first_refusal r c ≡ Some why → (r.standing ≡ standing.Open) × FoundsMove r.tenure r.fence version why
refused_move r (call.Put client number rules at_version point) version why same is e =
    let h = open_or r.standing (option_or (unowned r.tenure at_version) (option_or (outdated r.fence at_version) (outside rules point))) why is e in (
      h.0,
      subst (λ v. FoundsMove r.tenure r.fence v why) same (by_tenure r.tenure r.fence at_version (option_or (outdated r.fence at_version) (outside rules point)) why (λ within rest.
          elim (or_cases (outdated r.fence at_version) (outside rules point) why rest) as (λ _. FoundsMove r.tenure r.fence at_version why) [
            | inl stale ↦ by_fence r.tenure r.fence at_version why is within stale
            | inr late ↦ absurd (outside_not rules point (slice_get rules.spaces point.ns) why is late)
          ]) h.1),
    )
refused_move r (call.Read client number rules at_version pick from to) version why same is e =
    let h = open_or r.standing (option_or (unowned r.tenure at_version) (outdated r.fence at_version)) why is e in
    (h.0, subst (λ v. FoundsMove r.tenure r.fence v why) same (by_tenure r.tenure r.fence at_version (outdated r.fence at_version) why (λ within rest. by_fence r.tenure r.fence at_version why is within rest) h.1))
refused_move r _ version why same is e = absurd same

-- such a reason of a put or a read is its first one
first_is : (tells : Bool) (past : List Event) (s : ℕ) (r : ReplicaState) (c : StepCall) (version : ℕ) (why : Reason) → IsAtVersion version c → IsMoveReason why → ReplicaMayRefuse tells past s r c why → first_refusal r c ≡ Some why
first_is tells past s r (call.Put client number rules at_version point) version reason.NotOwned same is h = h
first_is tells past s r (call.Read client number rules at_version pick from to) version reason.NotOwned same is h = h
first_is tells past s r c version (reason.Stale fence) same is h = h
first_is tells past s r (call.Put client number rules at_version point) version _ same is h = absurd is
first_is tells past s r (call.Read client number rules at_version pick from to) version _ same is h = absurd is
first_is tells past s r _ version _ same is h = absurd same

-- ---- the turn that is refused so

-- where within its stretch it is, and over which placement
pub record RefusedIn (start : Option MetaState) (turns : List Turn) (events : List Event) (told : ToldBy start turns events) (p : TurnPosition) (n s version : ℕ) (why : Reason) : Type 0 where
  pub at : ℕ
  pub low : told.spans.from p ≤ at
  pub high : at < told.spans.to p
  pub bound : at ≤ length events
  pub place : Placement
  pub last : last_place (take at events) ≡ Some place
  pub stands : MayStand start p place
  pub open_ : (replica n s (take at events)).standing ≡ standing.Open
  pub founds : FoundsMove (replica n s (take at events)).tenure (replica n s (take at events)).fence version why

pub refused_in : {tells : Bool} → (start : Option MetaState) (turns : List Turn) (events : List Event) → Legal tells events → (told : ToldBy start turns events) → IsInOrder start turns events told → (p : TurnPosition) → IsTurnPosition turns p → IsQuiet p
    → (used : Placement) (s n : ℕ) (why : Reason) → IsMoveReason why → IsRefusedAt start turns events told p used s n why → RefusedIn start turns events told p n s used.version why
refused_in {tells} start turns events legal told order p at quiet used s n why is h =
    let i = (h.refused).0 in
    let low = ((h.refused).1).0 in
    let high = ((h.refused).1).1 in
    let there = ((h.refused).1).2 in
    let r = replica n s (take i events) in
    let law = refused_law tells (take i events) n s r h.asked why (lawful_step events legal i n s h.asked (reply.Refused why) there) in
    let move = refused_move r h.asked used.version why h.at_version is (first_is tells (take i events) s r h.asked used.version why h.at_version is law) in
    let place = stands_at start turns events legal told order i n s h.asked (reply.Refused why) there in
    record { at = i; low = low; high = high; bound = omega (arith, high, (told.tells).order.not_above p at); place = place.0; last = place.1; stands = may_stand start turns events legal told order.places p at quiet.prints_none i low (omega (arith, high)) place.0 place.1; open_ = move.0; founds = move.1 }

-- ---- what is refused of a stream

-- a fence or a page that is refused as not owned is so by an open replica's tenure
stream_move : (r : ReplicaState) (c : StepCall) (version : ℕ) → IsStreamCall version c → first_refusal r c ≡ Some reason.NotOwned → (r.standing ≡ standing.Open) × IsAbove r.tenure version
stream_move r (call.Fence at_version) version same e =
    let h = open_or r.standing (unowned r.tenure at_version) reason.NotOwned tt e in (
      h.0,
      subst (IsAbove r.tenure) same (elim (unowned_cases r.tenure at_version) as (λ _. IsAbove r.tenure at_version) [ inl above ↦ above.1 | inr none ↦ (let bad : None ≡ Some reason.NotOwned = sym none.0 ∙ h.1 in cc) ]),
    )
stream_move r (call.Page from) version same e = let h = open_or r.standing (untenured r.tenure) reason.NotOwned tt e in (h.0, inl (no_tenure r.tenure h.1))
  where
    no_tenure : (o : Option ℕ) → untenured o ≡ Some reason.NotOwned → o ≡ None
    no_tenure None is = refl
    no_tenure (Some tenure) is = cc
stream_move r _ version same e = absurd same

first_of : (tells : Bool) (past : List Event) (s : ℕ) (r : ReplicaState) (c : StepCall) (version : ℕ) → IsStreamCall version c → ReplicaMayRefuse tells past s r c reason.NotOwned → first_refusal r c ≡ Some reason.NotOwned
first_of tells past s r (call.Fence at_version) version same h = h
first_of tells past s r (call.Page from) version same h = h
first_of tells past s r _ version same h = absurd same

pub refused_stream : {tells : Bool} → (start : Option MetaState) (turns : List Turn) (events : List Event) → Legal tells events → (told : ToldBy start turns events) → IsInOrder start turns events told → (p : TurnPosition) → IsTurnPosition turns p → printed p.turn.answer ≡ None
    → (version s n : ℕ) → HasStep (InStretch events (told.spans.from p) (told.spans.to p)) (IsStreamCall version) n s (reply.Refused reason.NotOwned) → RefusedIn start turns events told p n s version reason.NotOwned
refused_stream {tells} start turns events legal told order p at quiet version s n h =
    let i = (h.2).0 in
    let low = ((h.2).1).0 in
    let high = ((h.2).1).1 in
    let there = ((h.2).1).2 in
    let r = replica n s (take i events) in
    let law = refused_law tells (take i events) n s r h.0 reason.NotOwned (lawful_step events legal i n s h.0 (reply.Refused reason.NotOwned) there) in
    let move = stream_move r h.0 version h.1 (first_of tells (take i events) s r h.0 version h.1 law) in
    let place = stands_at start turns events legal told order i n s h.0 (reply.Refused reason.NotOwned) there in
    record { at = i; low = low; high = high; bound = omega (arith, high, (told.tells).order.not_above p at); place = place.0; last = place.1; stands = may_stand start turns events legal told order.places p at quiet i low (omega (arith, high)) place.0 place.1; open_ = move.0; founds = move.1 }
