-- What a call of a replica brings, where the replica is there and the list has room.
use Rattle.std.proofs.Common.{◌≡◌, ℕ, suc, ◌+◌, ◌<◌, List, [], ◌∷◌, ◌++◌, length, take, get_or, refl, sym, ap, ◌∙◌, subst, inl, inr, arith, append_assoc, length-append}
use Rattle.std.specs.Prelude.{◌≢◌, ◌⊎◌, Option, Some, None, Result, Ok, Err}
use Rattle.std.specs.FinMap as finite
use Rattle.std.proofs.lemmas.List.{append-nil, take_more}
use Rattle.m3_model.specs.declared.act.Fate.{Fate}
use Rattle.m3_model.specs.declared.act.Fate.TheVariants as fate
use Rattle.m3_model.specs.declared.reason.Reason.{Reason}
use Rattle.m3_model.specs.declared.reason.Reason.TheVariants as reason
use Rattle.replica_calls.specs.m3_outside.DiskState.{DiskState}
use Rattle.replica_calls.specs.cluster_core.declared.event.Event.{Event}
use Rattle.replica_calls.specs.cluster_core.declared.event.StepCall.{StepCall}
use Rattle.replica_calls.specs.cluster_core.declared.event.StepReply.{StepReply}
use Rattle.net_plan.specs.Fates.{FateMap}
use Rattle.replica_calls.specs.Steps.{reply_by}
use Rattle.replica_calls.specs.MachineCalls.{Promise, HasRoom, result_of}
use Rattle.replica_calls.specs.CallErr.{CallErr}
use Rattle.replica_calls.specs.TheVariants as call_err
use Rattle.replica_calls.specs.CallId.{CallId}
use Rattle.replica_calls.specs.Member.{Member}
use Rattle.replica_calls.specs.Slot.{Slot}
use Rattle.replica_calls.specs.Calls.{Tracked, IsMissed, MayCall}
use Rattle.session_net.specs.Messages.{exchange, IsHeard, Heard, AreHeard, fate_to}
use Rattle.session_net.specs.Brought.{Delivered, Brought}
use Rattle.session_net.proofs.RunLemmas.{ran_nothing, ran_then, ran_called}

-- ---- one delivery

untold : {X : Type 0} → Result X CallErr → Result X Reason
untold (Ok x) = Ok x
untold (Err (call_err.Refused why)) = Err why
untold (Err call_err.Full) = Err reason.Memory

untold_told : {X : Type 0} (said : Result X Reason) → untold (result_of (λ x. x) said) ≡ said
unfolding untold
untold_told (Ok x) = refl
untold_told (Err why) = refl

same_told : {X : Type 0} (a b : Result X Reason) → result_of (λ x. x) a ≡ result_of (λ x. x) b → a ≡ b
same_told a b e = sym (untold_told a) ∙ ap untold e ∙ untold_told b

module _ {D X : Type 0} (state : D → DiskState) (slot : Slot) (c : StepCall) (ok : X → StepReply) (Promised : Promise D X) (result : Result X CallErr) (old new : Tracked D) (there : finite.get old.members slot ≢ None) (room : HasRoom 2 old.events) where
  not_missed : (o : Option (Member D)) → finite.get old.members slot ≡ o → IsMissed 2 o old.events result → ⊥
  not_missed None is h = absurd (there is)
  not_missed (Some m) is h = absurd (h.0 room)

  pub delivered : (said : Result X Reason) → result ≡ result_of (λ x. x) said → MayCall state slot c ok Promised (λ x. x) result old new → Delivered state ok slot.node slot.shard c said old new
  delivered said is (inl missed) = absurd (not_missed (finite.get old.members slot) refl missed.missed)
  delivered said is (inr called) = record {
    more = exchange slot.node slot.shard c (reply_by ok called.answered.said);
    is = ap (λ x. exchange slot.node slot.shard c (reply_by ok x)) (same_told called.answered.said said (sym called.answered.told ∙ is));
    few = omega arith;
    ran = ran_called state slot c ok Promised (λ x. x) result old new called;
  }

  -- there is room for it
  pub never_full : MayCall state slot c ok Promised (λ x. x) result old new → result ≡ Err call_err.Full → ⊥
  never_full (inl missed) full = not_missed (finite.get old.members slot) refl missed.missed
  never_full (inr called) full = by called.answered.said (sym called.answered.told ∙ full)
    where
      by : (said : Result X Reason) → result_of (λ x. x) said ≡ Err call_err.Full → ⊥
      by (Ok x) e = cc
      by (Err why) e = cc

-- ---- messages

module _ {D X : Type 0} (state : D → DiskState) (ok : X → StepReply) (n s : ℕ) (c : StepCall) where
  -- one that isn't delivered
  pub brought_cut : (f : Fate) (now : Tracked D) → (f ≡ fate.Lose) ⊎ (f ≡ fate.Late) → Brought state ok f n s c (Err reason.Cut) now now
  brought_cut f now (inl e) = subst (λ f. Brought state ok f n s c (Err reason.Cut) now now) (sym e) (record { more = []; is = (refl, refl); few = omega arith; ran = ran_nothing state now })
  brought_cut f now (inr e) = subst (λ f. Brought state ok f n s c (Err reason.Cut) now now) (sym e) (record { more = []; is = (refl, refl); few = omega arith; ran = ran_nothing state now })

  pub brought_once : (said : Result X Reason) (old new : Tracked D) → Delivered state ok n s c said old new → Brought state ok fate.Deliver n s c said old new
  brought_once said old new h = record { more = h.more; is = h.is; few = let few = h.few in omega (arith, few); ran = h.ran }

  pub brought_twice : (said again : Result X Reason) (old mid new : Tracked D) → Delivered state ok n s c said old mid → Delivered state ok n s c again mid new → Brought state ok fate.Twice n s c said old new
  brought_twice said again old mid new g h = record {
    more = g.more ++ h.more;
    is = record { heard = g.more; first = g.is; again = again; unheard = h.more; second = h.is; are = refl };
    few = let sum = length-append g.more h.more in let low = g.few in let high = h.few in omega (arith, sum, low, high);
    ran = ran_then state g.more h.more old mid new g.ran h.ran;
  }

-- ---- one node after the other

module _ {X : Type 0} (ok : X → StepReply) (fates : FateMap) (id : CallId) (s : ℕ) (c : StepCall) where
  pub heard_last : (nodes : List ℕ) (heard : List (Heard X)) (events : List Event) (n : ℕ) (said : Result X Reason) (more : List Event) → AreHeard ok fates id s c nodes heard events → IsHeard ok (fate_to fates id n) n s c said more
      → AreHeard ok fates id s c (nodes ++ n ∷ []) (heard ++ (n, said) ∷ []) (events ++ more)
  heard_last [] [] events n said more h here = (refl, more, [], ap (λ es. es ++ more) h ∙ sym (append-nil more), here, refl)
  heard_last [] (x ∷ heard) events n said more h here = absurd h
  heard_last (m ∷ nodes) [] events n said more h here = absurd h
  heard_last (m ∷ nodes) (x ∷ heard) events n said more h here =
      (h.0, h.1, h.2 ++ more, ap (λ es. es ++ more) h.3 ∙ append_assoc h.1 h.2 more, h.4, heard_last nodes heard h.2 n said more h.5 here)

  pub heard_more : (nodes : List ℕ) (i : ℕ) (heard : List (Heard X)) (events : List Event) (said : Result X Reason) (more : List Event) → i < length nodes → AreHeard ok fates id s c (take i nodes) heard events
      → IsHeard ok (fate_to fates id (get_or nodes i 0)) (get_or nodes i 0) s c said more → AreHeard ok fates id s c (take (i + 1) nodes) (heard ++ (get_or nodes i 0, said) ∷ []) (events ++ more)
  heard_more nodes i heard events said more below h here =
      subst (λ ns. AreHeard ok fates id s c ns (heard ++ (get_or nodes i 0, said) ∷ []) (events ++ more)) (sym (take_more nodes i 0 below)) (heard_last (take i nodes) heard events (get_or nodes i 0) said more h here)

  -- each node was heard
  pub as_many_heard : (nodes : List ℕ) (heard : List (Heard X)) (events : List Event) → AreHeard ok fates id s c nodes heard events → length nodes ≡ length heard
  as_many_heard [] [] events h = refl
  as_many_heard [] (x ∷ heard) events h = absurd h
  as_many_heard (m ∷ nodes) [] events h = absurd h
  as_many_heard (m ∷ nodes) (x ∷ heard) events h = ap suc (as_many_heard nodes heard h.2 h.5)
