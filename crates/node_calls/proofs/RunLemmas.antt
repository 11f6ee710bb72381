-- Calls of replicas that are there, with room for them; and what several, one after the other, leave.
use Rattle.std.proofs.Common.{◌≡◌, ◌<◌, ◌≤◌, ◌+◌, ◌*◌, ℕ, suc, List, ◌∷◌, ◌++◌, length, take, drop, get_or, refl, sym, ap, ◌∙◌, subst, arith, Bool, true, false, inl, inr, length-append}
use Rattle.std.specs.Prelude.{nat_le, ◌≢◌, ⊤, Option, Some, None, Result, Ok, Err, filter, IfErr}
use Rattle.std.specs.FinMap as finite
use Rattle.std.specs.List.{flat_map}
use Rattle.std.proofs.lemmas.Bool.{le-leb, leb-true}
use Rattle.event_book.specs.Lists.{most_entries}
use Rattle.m3_model.specs.declared.reason.Reason.{Reason}
use Rattle.m3_model.specs.declared.rules.MetaState.{MetaState}
use Rattle.m3_model.proofs.Lists.{IsIn-flat_map}
use Rattle.m3_outside.specs.DiskState.{DiskState}
use Rattle.cluster_members.specs.cluster_core.declared.event.Event.{Event}
use Rattle.cluster_members.specs.cluster_core.declared.event.StepCall.{StepCall}
use Rattle.cluster_members.specs.cluster_core.declared.event.StepCall.TheVariants as call
use Rattle.cluster_members.specs.cluster_core.declared.event.StepReply.{StepReply}
use Rattle.cluster_members.specs.cluster_core.declared.event.StepReply.TheVariants as reply
use Rattle.net_plan.specs.declared.late_write.LateWrite.{LateWrite}
use Rattle.cluster_members.specs.replica_machine.Steps.{reply_by}
use Rattle.cluster_members.specs.replica_exchange.MachineCalls.{Promise, HasRoom, AddsBoth, result_of}
use Rattle.cluster_members.specs.replica_exchange.Promises.{Stops, Restarts}
use Rattle.cluster_members.specs.replica_exchange.declared.call_err.CallErr.{CallErr}
use Rattle.cluster_members.specs.replica_exchange.declared.call_err.CallErr.TheVariants as call_err
use Rattle.cluster_members.specs.replica_exchange.declared.member.Member.{Member}
use Rattle.cluster_members.specs.replica_exchange.declared.slot.Slot.{Slot}
use Rattle.cluster_members.specs.replica_calls.Calls.{Tracked, IsMissed, MayCall, WasCalled}
use Rattle.cluster_members.specs.session_net.Messages.{exchange}
use Rattle.cluster_members.specs.session_net.Ready.{IsReady}
use Rattle.cluster_members.specs.session_net.Runs.{IsStepped, Ran, steps_of}
use Rattle.cluster_members.proofs.session_net_proofs.ReadyLemmas.{AreQuiet, quiet_both, quiet_delivery, ready_after, room_after}
use Rattle.cluster_members.proofs.session_net_proofs.RunLemmas.{ran_called, ran_then}
use Rattle.node_calls.specs.Boots.{EndsRestarts, IsRestartTried}
use Rattle.node_calls.specs.Halts.{HaveSameSlots, IsRestartRefusal, IsUnrestarted, restart_at, stop_at}
use Rattle.node_calls.specs.declared.refused.Refused.{Refused}
use Rattle.node_calls.proofs.ListLemmas.{filter_parted, filter_short, filter_yes, flat_long, flat_push}

-- ---- one call

pub told_ok : {X Y : Type 0} (f : X → Y) (said : Result X Reason) (y : Y) → result_of f said ≡ Ok y → (x : X) × (said ≡ Ok x)
told_ok f (Ok x) y e = (x, refl)
told_ok f (Err why) y e = cc

pub told_why : {X Y : Type 0} (f : X → Y) (said : Result X Reason) (why : Reason) → result_of f said ≡ Err (call_err.Refused why) → said ≡ Err why
told_why f (Ok x) why e = cc
told_why f (Err own) why e = cc

never_told : {X Y : Type 0} (f : X → Y) (said : Result X Reason) → result_of f said ≡ Err call_err.Full → ⊥
never_told f (Ok x) e = cc
never_told f (Err why) e = cc

module _ {D X Y : Type 0} (state : D → DiskState) (slot : Slot) (c : StepCall) (ok : X → StepReply) (Promised : Promise D X) (f : X → Y) (result : Result Y CallErr) (old new : Tracked D) (there : finite.get old.members slot ≢ None) (room : HasRoom 2 old.events) where
  not_missed : (o : Option (Member D)) → finite.get old.members slot ≡ o → IsMissed 2 o old.events result → ⊥
  not_missed None is h = absurd (there is)
  not_missed (Some m) is h = absurd (h.0 room)

  -- it was called
  pub was_called : MayCall state slot c ok Promised f result old new → WasCalled state slot c ok Promised (AddsBoth slot) f result old new
  was_called (inl missed) = absurd (not_missed (finite.get old.members slot) refl missed.missed)
  was_called (inr called) = called

  -- with room for it
  pub never_full : MayCall state slot c ok Promised f result old new → result ≡ Err call_err.Full → ⊥
  never_full h full = let called = was_called h in never_told f called.answered.said (sym called.answered.told ∙ full)

  -- what it said
  pub ran_ok : (h : MayCall state slot c ok Promised f result old new) (y : Y) → result ≡ Ok y → (x : X) × Ran state old (exchange slot.node slot.shard c (ok x)) new
  ran_ok h y is =
      let called = was_called h in
      let said = told_ok f called.answered.said y (sym called.answered.told ∙ is) in
      (said.0, subst (λ s. Ran state old (exchange slot.node slot.shard c (reply_by ok s)) new) said.1 (ran_called state slot c ok Promised f result old new called))

  pub ran_err : (h : MayCall state slot c ok Promised f result old new) (why : Reason) → result ≡ Err (call_err.Refused why) → Ran state old (exchange slot.node slot.shard c (reply.Refused why)) new
  ran_err h why is =
      let called = was_called h in
      subst (λ s. Ran state old (exchange slot.node slot.shard c (reply_by ok s)) new) (told_why f called.answered.said why (sym called.answered.told ∙ is)) (ran_called state slot c ok Promised f result old new called)

-- ---- stops and restarts

module _ {D : Type 0} (state : D → DiskState) (slot : Slot) (result : Result ⊤ CallErr) (old new : Tracked D) (there : finite.get old.members slot ≢ None) (room : HasRoom 2 old.events) where
  -- a stop is never refused
  pub stop_done : MayCall state slot call.Stop (λ (u : ⊤). reply.Done) (Stops state) (λ u. u) result old new → (u : ⊤) → result ≡ Ok u → Ran state old (stop_at slot) new
  stop_done h u is = (ran_ok state slot call.Stop (λ (u : ⊤). reply.Done) (Stops state) (λ u. u) result old new there room h u is).1

  pub stop_never : MayCall state slot call.Stop (λ (u : ⊤). reply.Done) (Stops state) (λ u. u) result old new → (e : CallErr) → result ≡ Err e → ⊥
  stop_never h e is =
      let called = was_called state slot call.Stop (λ (u : ⊤). reply.Done) (Stops state) (λ u. u) result old new there room h in
      let told : result_of (λ (u : ⊤). u) (Ok tt) ≡ Err e = ap (result_of (λ (u : ⊤). u)) (sym called.answered.promised.ok) ∙ sym called.answered.told ∙ is in
      cc

  pub restart_done : MayCall state slot call.Restart (λ (u : ⊤). reply.Done) (Restarts state) (λ u. u) result old new → (u : ⊤) → result ≡ Ok u → Ran state old (restart_at slot) new
  restart_done h u is = (ran_ok state slot call.Restart (λ (u : ⊤). reply.Done) (Restarts state) (λ u. u) result old new there room h u is).1

  pub restart_told : (h : MayCall state slot call.Restart (λ (u : ⊤). reply.Done) (Restarts state) (λ u. u) result old new) (why : Reason) → result ≡ Err (call_err.Refused why) → IsRestartTried state slot old new (Err (record { shard = slot.shard; why = why }))
  restart_told h why is =
      let called = was_called state slot call.Restart (λ (u : ⊤). reply.Done) (Restarts state) (λ u. u) result old new there room h in
      let said = told_why (λ (u : ⊤). u) called.answered.said why (sym called.answered.told ∙ is) in
      (refl, refusal IsRestartRefusal called.answered.said said (called.answered.promised.err), ran_err state slot call.Restart (λ (u : ⊤). reply.Done) (Restarts state) (λ u. u) result old new there room h why is)
    where
      refusal : (P : Reason → Type 0) (said : Result ⊤ Reason) → said ≡ Err why → IfErr said P → P why
      refusal P said e h = subst (λ r. IfErr r P) e h

-- ---- one slot after the other

module _ {D : Type 0} (state : D → DiskState) (brings : Slot → List Event) (two : (s : Slot) → length (brings s) ≡ 2) (f : Slot → Bool) (slots : List Slot) (i : ℕ) (d : Slot) (old mid : Tracked D) (low : i < length slots) (ran : Ran state old (flat_map brings (filter f (take i slots))) mid) where
  -- there is room for one more
  pub room_here : HasRoom (2 * length (filter f slots)) old.events → f (get_or slots i d) ≡ true → HasRoom 2 mid.events
  room_here room passes =
      let long = flat_long brings two (filter f (take i slots)) in
      let short = filter_short f slots i d low passes in
      room_after state old mid (flat_map brings (filter f (take i slots))) (2 * length (filter f slots)) 2 ran room (omega (arith, long, short))

  -- a loop passes a slot, which brings this
  pub ran_more : (new : Tracked D) → f (get_or slots i d) ≡ true → Ran state mid (brings (get_or slots i d)) new → Ran state old (flat_map brings (filter f (take (i + 1) slots))) new
  ran_more new passes here =
      subst (λ es. Ran state old es new) (sym (ap (flat_map brings) (filter_yes f slots i d low passes) ∙ flat_push brings (filter f (take i slots)) (get_or slots i d)))
      (ran_then state (flat_map brings (filter f (take i slots))) (brings (get_or slots i d)) old mid new ran here)

-- a restart was refused
pub restarts_end : {D : Type 0} (state : D → DiskState) (f : Slot → Bool) (slots : List Slot) (i : ℕ) (d : Slot) (old mid : Tracked D) → i < length slots → Ran state old (flat_map restart_at (filter f (take i slots))) mid → (refused : Refused) (new : Tracked D)
    → f (get_or slots i d) ≡ true → IsRestartTried state (get_or slots i d) mid new (Err refused) → EndsRestarts state (filter f slots) refused.shard refused.why old new
restarts_end state f slots i d old mid low ran refused new passes tried =
    let slot : Slot = get_or slots i d in
    record {
      tried = flat_map restart_at (filter f (take i slots)) ++ exchange slot.node slot.shard call.Restart (reply.Refused refused.why);
      refused = record { before = filter f (take i slots); slot = slot; later = filter f (drop (suc i) slots); parts = filter_parted f slots i d low passes; shard_is = sym tried.0; refusal = tried.1; are = refl };
      ran = ran_then state (flat_map restart_at (filter f (take i slots))) (exchange slot.node slot.shard call.Restart (reply.Refused refused.why)) old mid new ran tried.2;
    }

-- ---- what all of them leave

pub exchange_two : (n s : ℕ) (c : StepCall) (a : StepReply) → length (exchange n s c a) ≡ 2
exchange_two n s c a = refl

pub quiet_exchange : (n s : ℕ) (c : StepCall) (a : StepReply) → AreQuiet (exchange n s c a)
quiet_exchange n s c a = quiet_delivery (λ (u : ⊤). a) n s c (Ok tt) (exchange n s c a) refl

pub quiet_flat : {X : Type 0} (f : X → List Event) → ((x : X) → AreQuiet (f x)) → (xs : List X) → AreQuiet (flat_map f xs)
quiet_flat f quiet xs e m = let found = IsIn-flat_map f xs e m in quiet found.0 e found.2

pub stops_quiet : (slots : List Slot) → AreQuiet (flat_map stop_at slots)
stops_quiet slots = quiet_flat stop_at (λ s. quiet_exchange s.node s.shard call.Stop reply.Done) slots

pub restarts_quiet : (slots : List Slot) → AreQuiet (flat_map restart_at slots)
restarts_quiet slots = quiet_flat restart_at (λ s. quiet_exchange s.node s.shard call.Restart reply.Done) slots

-- the events of a restart that was refused
pub unrestarted_few : (slots : List Slot) (shard : ℕ) (why : Reason) (events : List Event) → IsUnrestarted slots shard why events → length events ≤ 2 * length slots
unrestarted_few slots shard why events h =
    let s = h.slot in
    let one : List Event = exchange s.node s.shard call.Restart (reply.Refused why) in
    let long : length events ≡ length (flat_map restart_at h.before) + length one = ap length h.are ∙ length-append (flat_map restart_at h.before) one in
    let before = flat_long restart_at (λ x. refl) h.before in
    let all : length slots ≡ length h.before + length (h.slot ∷ h.later) = ap length h.parts ∙ length-append h.before (h.slot ∷ h.later) in
    omega (arith, long, before, all)

pub unrestarted_quiet : (slots : List Slot) (shard : ℕ) (why : Reason) (events : List Event) → IsUnrestarted slots shard why events → AreQuiet events
unrestarted_quiet slots shard why events h =
    let s = h.slot in
    subst AreQuiet (sym h.are) (quiet_both (flat_map restart_at h.before) (exchange s.node s.shard call.Restart (reply.Refused why)) (quiet_flat restart_at (λ x. quiet_exchange x.node x.shard call.Restart reply.Done) h.before) (quiet_exchange s.node s.shard call.Restart (reply.Refused why)))

module _ {D : Type 0} (state : D → DiskState) (old new : Tracked D) (more : List Event) (ran : Ran state old more new) where
  -- the same slots have replicas
  pub same_slots : HaveSameSlots old new
  same_slots s = (λ gone. back (finite.get old.members s) (ran.stepped s) gone, λ gone. on (finite.get old.members s) gone (ran.stepped s))
    where
      back : (o : Option (Member D)) → IsStepped state (steps_of s more) o (finite.get new.members s) → finite.get new.members s ≡ None → o ≡ None
      back None h gone = refl
      back (Some m) h gone = let clash : Some h.0 ≡ None = sym h.1 ∙ gone in cc

      on : (o : Option (Member D)) → o ≡ None → IsStepped state (steps_of s more) o (finite.get new.members s) → finite.get new.members s ≡ None
      on None gone h = h
      on (Some m) gone h = cc

  -- and calls may be made
  pub ready_still : (meta : MetaState) (bag : List LateWrite) → IsReady meta old bag → AreQuiet more → IsReady meta new bag
  ready_still meta bag ready quiet = ready_after state meta old new bag bag more ready ran quiet (λ one m. inl m)

pub same_itself : {D : Type 0} (t : Tracked D) → HaveSameSlots t t
same_itself t s = (λ e. e, λ e. e)

-- ---- room

-- the list has none for so many events, as the test says
pub no_room : (events : List Event) (n k : ℕ) (b : Bool) → k ≡ n → b ≡ nat_le (length events + k) most_entries → b ≡ false → ¬ HasRoom n events
no_room events n k b same is off room =
    let fits : length events + k ≤ most_entries = omega (arith, same, room) in
    let on : b ≡ true = is ∙ le-leb (length events + k) most_entries fits in
    let clash : true ≡ false = sym on ∙ off in
    cc

-- or it has
pub has_room : (events : List Event) (n k : ℕ) (b : Bool) → k ≡ n → b ≡ nat_le (length events + k) most_entries → b ≡ true → HasRoom n events
has_room events n k b same is on = let fits = leb-true (length events + k) most_entries (sym is ∙ on) in omega (arith, same, fits)

-- a restart that was refused leaves room to stop all
pub room_again : {D : Type 0} (state : D → DiskState) (slots : List Slot) (shard : ℕ) (why : Reason) (old new : Tracked D) → HasRoom (4 * length slots) old.events → EndsRestarts state slots shard why old new → HasRoom (2 * length slots) new.events
room_again state slots shard why old new room h =
    let few = unrestarted_few slots shard why h.tried h.refused in
    room_after state old new h.tried (4 * length slots) (2 * length slots) h.ran room (omega (arith, few))
