-- What a begin of a replica leaves.
use Rattle.std.proofs.Common.{◌≡◌, ◌+◌, ◌≤◌, ℕ, zero, suc, List, [], ◌∷◌, ◌++◌, length, take, refl, sym, ap, ◌∙◌, subst, inl, inr, arith}
use Rattle.std.specs.Prelude.{◌≢◌, ◌⊎◌, ⊤, Result, Ok, Err, IfErr, IsErrOf, Option, Some, None, Bool, true, false}
use Rattle.std.specs.FinMap as finite
use Rattle.std.proofs.lemmas.List.{append-nil}
use Rattle.std.proofs.lemmas.Option.{same_Some}
use Rattle.m3_model.specs.declared.reason.Damage.{Damage}
use Rattle.m3_model.specs.declared.reason.Reason.{Reason}
use Rattle.m3_model.specs.declared.reason.Reason.TheVariants as reason
use Rattle.cluster_core.specs.Lists.{At}
use Rattle.session_net.specs.cluster_core.declared.event.StepCall.{StepCall}
use Rattle.session_net.specs.cluster_core.declared.event.StepCall.TheVariants as call
use Rattle.session_net.specs.cluster_core.declared.event.StepReply.{StepReply}
use Rattle.session_net.specs.cluster_core.declared.event.StepReply.TheVariants as reply
use Rattle.session_net.specs.m3_outside.DiskState.{DiskState}
use Rattle.session_net.specs.replica_calls.Calls.{AreMembersOf, IsMissed, MayCall, Tracked, WasCalled}
use Rattle.session_net.specs.replica_calls.Slots.{MemberMap}
use Rattle.session_net.specs.replica_exchange.Exchanges.{ask_of}
use Rattle.session_net.specs.replica_exchange.MachineCalls.{AddsBoth, HasRoom, Promise, result_of}
use Rattle.session_net.specs.replica_exchange.Promises.{Begins}
use Rattle.session_net.specs.replica_exchange.declared.call_err.CallErr.{CallErr}
use Rattle.session_net.specs.replica_exchange.declared.call_err.CallErr.TheVariants as call_err
use Rattle.session_net.specs.replica_exchange.declared.member.Member.{Member}
use Rattle.session_net.specs.replica_exchange.declared.slot.Slot.{Slot}
use Rattle.session_net.specs.replica_machine.Boots.{IsBootReason}
use Rattle.session_net.specs.replica_machine.Damages.{IsFileDamage}
use Rattle.session_net.specs.replica_machine.Machines.{MachineState}
use Rattle.session_net.specs.replica_machine.Steps.{reply_by}
use Rattle.session_net.specs.replica_machine.declared.machine.Began.{Began}
use Rattle.session_net.specs.Runs.{Ran, slot_at}
use Rattle.session_net.proofs.RunLemmas.{ran_called}
use Rattle.session_net.specs.cluster_core.declared.event.Event.{Event}
use Rattle.session_net.specs.cluster_core.declared.event.Event.TheVariants as event
use Rattle.peer_streams.specs.Joins.{begun_with}
use Rattle.peer_streams.specs.Streams.{replied}
use Rattle.node_joins.specs.Opens.{IsBeginTried, begin_told}
use Rattle.node_joins.specs.Unowned.{AreUnowned, CameUnowned, IsTenureUnowned}
use Rattle.node_joins.specs.declared.open_err.OpenErr.{OpenErr}
use Rattle.node_joins.proofs.UnownedLemmas.{came_by}

-- what the call was told, by what the replica said
told_ok : (said : Result Began Reason) (u : ⊤) → result_of {Y = ⊤} (λ b. tt) said ≡ Ok u → (b : Began) × (said ≡ Ok b)
told_ok (Ok b) u e = (b, refl)
told_ok (Err why) u e = cc

told_why : (said : Result Began Reason) (why : Reason) → result_of {Y = ⊤} (λ b. tt) said ≡ Err (call_err.Refused why) → said ≡ Err why
told_why (Ok b) why e = cc
told_why (Err own) why e = cc

told_never : (said : Result Began Reason) → result_of {Y = ⊤} (λ b. tt) said ≡ Err call_err.Full → ⊥
told_never (Ok b) e = cc
told_never (Err own) e = cc

-- what stands in a list of two
of_two : {X : Type 0} (x y : X) (j : ℕ) (z : X) → At (x ∷ y ∷ []) j z → (x ≡ z) ⊎ ((j ≡ 1) × (y ≡ z))
of_two x y zero z at = inl (same_Some x z at)
of_two x y (suc zero) z at = inr (refl, same_Some y z at)
of_two x y (suc (suc j)) z at = cc

-- a begin behind its Ask is of a tenure that isn't owned, where its refusal shows that
module _ {D : Type 0} (state : D → DiskState) (members : MemberMap D) (past : List Event) (node shard tenure : ℕ) (answer : StepReply)
    (own : answer ≡ reply.Refused reason.NotOwned → IsTenureUnowned state members (slot_at node shard) past tenure) where
  abbrev events : List Event
  events = replied node shard (call.Begin tenure) answer

  abbrev IsShown : ℕ → ℕ → ℕ → ℕ → Type 0
  IsShown n s t j = (k : ℕ) × (j ≡ suc k) × At events k (ask_of n s (call.Begin t)) × IsTenureUnowned state members (slot_at n s) (past ++ take k events) t

  shown_at : (n s t j : ℕ) → j ≡ 1 → node ≡ n → shard ≡ s → tenure ≡ t → answer ≡ reply.Refused reason.NotOwned → IsShown n s t j
  shown_at n s t j one node_is shard_is tenure_is answer_is =
      let same : slot_at node shard ≡ slot_at n s = λ i. slot_at (node_is i) (shard_is i) in
      let here : IsTenureUnowned state members (slot_at n s) past t = subst (λ x. IsTenureUnowned state members (slot_at n s) past x) tenure_is (subst (λ x. IsTenureUnowned state members x past tenure) same (own answer_is)) in
      (0, one, (λ i. Some (ask_of (node_is i) (shard_is i) (call.Begin (tenure_is i)))), subst (λ es. IsTenureUnowned state members (slot_at n s) es t) (sym (append-nil past)) here)

  by_step : (n s t j : ℕ) → j ≡ 1 → event.Step node shard (call.Begin tenure) answer ≡ event.Step n s (call.Begin t) (reply.Refused reason.NotOwned) → IsShown n s t j
  by_step n s t j one is = let node_is : node ≡ n = cc in let shard_is : shard ≡ s = cc in let tenure_is : tenure ≡ t = cc in let answer_is : answer ≡ reply.Refused reason.NotOwned = cc in shown_at n s t j one node_is shard_is tenure_is answer_is

  no_step : (n s t : ℕ) → ask_of node shard (call.Begin tenure) ≡ event.Step n s (call.Begin t) (reply.Refused reason.NotOwned) → ⊥
  no_step n s t is = cc

  begin_shown : AreUnowned state members past events
  begin_shown n s t j at =
      elim (of_two (ask_of node shard (call.Begin tenure)) (event.Step node shard (call.Begin tenure) answer) j (event.Step n s (call.Begin t) (reply.Refused reason.NotOwned)) at) as (λ _. IsShown n s t j) [
        | inl is ↦ absurd (no_step n s t is)
        | inr there ↦ by_step n s t j there.0 there.1
      ]

module _ {D : Type 0} (state : D → DiskState) (slot : Slot) (tenure : ℕ) (result : Result ⊤ CallErr) (old new : Tracked D) (there : finite.get old.members slot ≢ None) (room : HasRoom 2 old.events)
    (h : MayCall state slot (call.Begin tenure) (λ (b : Began). reply.Began b.fence b.points) (Begins state tenure) (λ (b : Began). tt) result old new) where
  not_missed : (o : Option (Member D)) → finite.get old.members slot ≡ o → IsMissed 2 o old.events result → ⊥
  not_missed None is m = absurd (there is)
  not_missed (Some m) is k = absurd (k.0 room)

  was : MayCall state slot (call.Begin tenure) (λ (b : Began). reply.Began b.fence b.points) (Begins state tenure) (λ (b : Began). tt) result old new
      → WasCalled state slot (call.Begin tenure) (λ (b : Began). reply.Began b.fence b.points) (Begins state tenure) (AddsBoth slot) (λ (b : Began). tt) result old new
  was (inl missed) = absurd (not_missed (finite.get old.members slot) refl missed.missed)
  was (inr called) = called

  called : WasCalled state slot (call.Begin tenure) (λ (b : Began). reply.Began b.fence b.points) (Begins state tenure) (AddsBoth slot) (λ (b : Began). tt) result old new
  called = was h

  ran : (said : Result Began Reason) → called.answered.said ≡ said → Ran state old (replied slot.node slot.shard (call.Begin tenure) (reply_by (λ (b : Began). reply.Began b.fence b.points) said)) new
  ran said is =
      subst (λ x. Ran state old (replied slot.node slot.shard (call.Begin tenure) (reply_by (λ (b : Began). reply.Began b.fence b.points) x)) new) is
      (ran_called state slot (call.Begin tenure) (λ (b : Began). reply.Began b.fence b.points) (Begins state tenure) (λ (b : Began). tt) result old new called)

  pub never_full : result ≡ Err call_err.Full → ⊥
  never_full full = told_never called.answered.said (sym called.answered.told ∙ full)

  -- it began
  pub has_begun : (u : ⊤) → result ≡ Ok u → IsBeginTried state slot.shard slot.node tenure old new (Ok true)
  has_begun u is =
      let said = told_ok called.answered.said u (sym called.answered.told ∙ is) in
      ((said.0).fence, (said.0).points, ran (Ok said.0) said.1)

  -- or was refused
  pub has_refused : (why : Reason) → result ≡ Err (call_err.Refused why) → IsBeginTried state slot.shard slot.node tenure old new (begin_told slot.shard why)
  has_refused why is = by why (told_why called.answered.said why (sym called.answered.told ∙ is)) called.answered.promised.reasons
    where
      form : (w : Reason) → called.answered.said ≡ Err w → (damage : Damage) → w ≡ reason.Corrupt damage → IsFileDamage damage
      form w said damage same = called.answered.promised.form damage (said ∙ ap (λ x. Err x) same)

      by : (w : Reason) → called.answered.said ≡ Err w → IfErr called.answered.said IsBootReason → IsBeginTried state slot.shard slot.node tenure old new (begin_told slot.shard w)
      by reason.Down said r = (reason.Down, tt, ran (Err reason.Down) said)
      by reason.NotOwned said r = (reason.NotOwned, tt, ran (Err reason.NotOwned) said)
      by reason.Disk said r = (refl, tt, form reason.Disk said, ran (Err reason.Disk) said)
      by (reason.Corrupt damage) said r = (refl, tt, form (reason.Corrupt damage) said, ran (Err (reason.Corrupt damage)) said)
      by reason.Memory said r = (refl, tt, form reason.Memory said, ran (Err reason.Memory) said)
      by reason.Cut said r = absurd (subst (λ x. IfErr x IsBootReason) said r)
      by reason.Boot said r = absurd (subst (λ x. IfErr x IsBootReason) said r)
      by (reason.Stale fence) said r = absurd (subst (λ x. IfErr x IsBootReason) said r)
      by reason.Past said r = absurd (subst (λ x. IfErr x IsBootReason) said r)
      by reason.Future said r = absurd (subst (λ x. IfErr x IsBootReason) said r)

  -- one that is refused as not owned shows why
  pub begin_unowned : AreMembersOf state old → CameUnowned state old new
  begin_unowned known = came_by state old new (replied slot.node slot.shard (call.Begin tenure) answer) (ran called.answered.said refl) (shown answer refl)
    where
      answer : StepReply
      answer = reply_by (λ (b : Began). reply.Began b.fence b.points) called.answered.said

      not_owned : (said : Result Began Reason) → reply_by (λ (b : Began). reply.Began b.fence b.points) said ≡ reply.Refused reason.NotOwned → IsErrOf said reason.NotOwned
      not_owned (Ok b) is = cc
      not_owned (Err why) is = cc

      own : (a : StepReply) → a ≡ answer → a ≡ reply.Refused reason.NotOwned → IsTenureUnowned state old.members slot old.events tenure
      own a same refused = record {
        was = called.before;
        there = called.there;
        now = called.before;
        is = known slot called.before called.there;
        first = refl;
        unowned = called.answered.promised.unowned (not_owned called.answered.said (sym same ∙ refused));
      }

      shown : (a : StepReply) → a ≡ answer → AreUnowned state old.members old.events (replied slot.node slot.shard (call.Begin tenure) a)
      shown a same = begin_shown state old.members old.events slot.node slot.shard tenure a (own a same)

-- room for four events is room for two
pub room_for : (events : List Event) → HasRoom 4 events → HasRoom 2 events
room_for events room = omega (arith, room)

-- what a begin added
pub begin_ran : {D : Type 0} (state : D → DiskState) (s y tenure : ℕ) (old new : Tracked D) (b : Bool) → IsBeginTried state s y tenure old new (Ok b) → (events : List Event) × Ran state old events new
begin_ran state s y tenure old new true h = (begun_with y s tenure h.0 h.1, h.2)
begin_ran state s y tenure old new false h = (replied y s (call.Begin tenure) (reply.Refused h.0), h.2)
