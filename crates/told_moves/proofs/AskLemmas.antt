-- Who asked for a begin or a fence: an `init` or a bootstrap, over a placement that gives a node the shard with this tenure.
use Rattle.std.proofs.Common.{◌≡◌, ℕ, zero, suc, ◌<◌, ◌≤◌, List, [], ◌∷◌, take, length, refl, sym, ap, ◌∙◌, subst, inl, inr, arith, Bool}
use Rattle.std.specs.Prelude.{◌⊎◌, Option, Some, IsTrue}
use Rattle.m3_model.specs.Members.{IsIn}
use Rattle.m3_model.specs.declared.act.Act.{Act}
use Rattle.m3_model.specs.declared.act.Act.TheVariants as act
use Rattle.m3_model.specs.declared.placement.Assignment.{Assignment}
use Rattle.m3_model.specs.declared.placement.Placement.{Placement}
use Rattle.m3_model.specs.declared.rules.MetaState.{MetaState}
use Rattle.m3_model.specs.declared.turn.Turn.{Turn}
use Rattle.placement_core.proofs.ListLemmas.{Any-from_IsIn}
use Rattle.cluster_core.specs.Asks.{IsAskFor, StepWasAsked, WasAsked}
use Rattle.cluster_core.specs.Earlier.{last_place}
use Rattle.cluster_core.specs.Legal.{Legal}
use Rattle.cluster_core.specs.Lists.{At}
use Rattle.cluster_core.specs.declared.event.Asked.TheVariants as asked
use Rattle.cluster_core.specs.declared.event.Event.{Event}
use Rattle.cluster_core.specs.declared.event.Event.TheVariants as event
use Rattle.cluster_core.specs.declared.event.StepCall.{StepCall}
use Rattle.cluster_core.specs.declared.event.StepCall.TheVariants as call
use Rattle.cluster_core.specs.declared.event.StepReply.{StepReply}
use Rattle.cluster_core.proofs.ListLemmas.{at_take}
use Rattle.transcripts.specs.Fates.{OfNode}
use Rattle.transcripts.specs.Placements.{printed}
use Rattle.transcripts.specs.Record.{TurnPosition, IsTurnPosition}
use Rattle.transcripts.specs.Waiting.{is_covering}
use Rattle.told_by.specs.Makes.{IsAssigned, MayAsk}
use Rattle.told_by.specs.Spans.{IsWithin}
use Rattle.told_by.specs.Told.{ToldBy}
use Rattle.told_causes.proofs.HaltLemmas.{late_step, opening_low}
use Rattle.told_moves.specs.Order.{IsInitAct}

-- ---- asks

-- some Ask for the event stands earlier
asked_before : (past : List Event) (e : Event) → WasAsked past e → (k : ℕ) × (ask : Event) × At past k ask × IsAskFor e ask
asked_before past e was = by was.asks was.are_asks was.more
  where
    by : (asks : List ℕ) → ((i : ℕ) → IsIn asks i → (ask : Event) × At past i ask × IsAskFor e ask) → length was.answered < length asks → (k : ℕ) × (ask : Event) × At past k ask × IsAskFor e ask
    by [] each more = absurd (omega (arith, more))
    by (k ∷ asks) each more = let a = each k (inl refl) in (k, a.0, a.1, a.2)

ask_is : (n s : ℕ) (c : StepCall) (a : StepReply) (ask : Event) → IsAskFor (event.Step n s c a) ask → ask ≡ event.Ask (asked.Step n s c)
ask_is n s c a (event.Ask (asked.Step node shard own)) h = λ i. event.Ask (asked.Step (sym h.0 i) (sym h.1 i) (sym h.2 i))
ask_is n s c a _ h = absurd h

-- the turn is a bootstrap of the node, as the placement calls it, and of the shard
pub record IsBootOf (q : TurnPosition) (place : Placement) (node s : ℕ) : Type 0 where
  pub name : List ℕ
  pub only : Option ℕ
  pub act_is : q.turn.act ≡ act.Bootstrap name only
  pub covers : IsTrue (is_covering s only)
  pub named : OfNode place node (λ own. own ≡ name)

module _ {tells : Bool} (start : Option MetaState) (turns : List Turn) (events : List Event) (legal : Legal tells events) (told : ToldBy start turns events) where
  -- a turn asks there for a step of the slot
  record IsAsked (k n s : ℕ) (c : StepCall) : Type 0 where
    q : TurnPosition
    in_run : IsTurnPosition turns q
    within : IsWithin told.spans q k
    asks : MayAsk start (take k events) q q.turn.act (asked.Step n s c)

  asked_there : (k n s : ℕ) (c : StepCall) → At events k (event.Ask (asked.Step n s c)) → IsAsked k n s c
  asked_there zero n s c ask = absurd (legal 0 (event.Ask (asked.Step n s c)) ask)
  asked_there (suc zero) n s c ask = absurd (legal 1 (event.Ask (asked.Step n s c)) ask)
  asked_there (suc (suc k)) n s c ask =
      let late : 2 ≤ suc (suc k) = omega arith in
      let above = opening_low start (suc (suc k)) late in
      let what = event.Ask (asked.Step n s c) in
      let made = (told.tells).order.made (suc (suc k)) what above late ask tt in
      record { q = told.makers (suc (suc k)); in_run = made.0; within = made.1; asks = (told.tells).makes (suc (suc k)) what above late ask }

  -- each step that has to be asked for was, earlier
  asked_by : (i n s : ℕ) (c : StepCall) (a : StepReply) → ((past : List Event) → StepWasAsked past (event.Step n s c a) → WasAsked past (event.Step n s c a)) → At events i (event.Step n s c a) → (k : ℕ) × (k < i) × IsAsked k n s c
  asked_by i n s c a has there = by_position i (late_step events legal i n s c a there) there
    where
      by_position : (i : ℕ) → 2 ≤ i → At events i (event.Step n s c a) → (k : ℕ) × (k < i) × IsAsked k n s c
      by_position zero late there = absurd (omega (arith, late))
      by_position (suc zero) late there = absurd (omega (arith, late))
      by_position (suc (suc i)) late there =
          let b = asked_before (take (suc (suc i)) events) (event.Step n s c a) (has (take (suc (suc i)) events) (legal (suc (suc i)) (event.Step n s c a) there).0) in
          let at = at_take events b.0 (suc (suc i)) b.1 b.2 in
          (b.0, at.1, asked_there b.0 n s c (at.0 ∙ ap Some (ask_is n s c a b.1 b.3)))

  -- a turn asks there for what a node needs to have the shard with this tenure: a bootstrap of it, or an `init`
  pub record IsMoveAsk (k node s tenure : ℕ) : Type 0 where
    pub q : TurnPosition
    pub in_run : IsTurnPosition turns q
    pub within : IsWithin told.spans q k
    pub place : Placement
    pub last : last_place (take k events) ≡ Some place
    pub assigned : IsAssigned place node s tenure
    pub how : IsBootOf q place node s ⊎ (IsInitAct q.turn.act × (printed q.turn.answer ≡ Some place))

  pub begin_asked : (i n s tenure : ℕ) (a : StepReply) → At events i (event.Step n s (call.Begin tenure) a) → (k : ℕ) × (k < i) × IsMoveAsk k n s tenure
  begin_asked i n s tenure a there = let b = asked_by i n s (call.Begin tenure) a (λ past h. h) there in (b.0, b.1, by_act b.0 b.2 (b.2).q.turn.act refl (b.2).asks)
    where
      by_act : (k : ℕ) (b : IsAsked k n s (call.Begin tenure)) (x : Act) → (b.q).turn.act ≡ x → MayAsk start (take k events) b.q x (asked.Step n s (call.Begin tenure)) → IsMoveAsk k n s tenure
      by_act k b (act.Bootstrap name only) is h =
          let of_node = (h.slot).of_node in
          record { q = b.q; in_run = b.in_run; within = b.within; place = of_node.place; last = of_node.last; assigned = h.assigned; how = inl (record { name = name; only = only; act_is = is; covers = (h.slot).covers; named = of_node.named }) }
      by_act k b (act.Init rf shards seed nodes) is h = record { q = b.q; in_run = b.in_run; within = b.within; place = h.0; last = h.2; assigned = h.3; how = inr (subst IsInitAct (sym is) tt, h.1) }
      by_act k b _ is h = absurd h

  pub fence_asked : (i n s fence : ℕ) (a : StepReply) → At events i (event.Step n s (call.Fence fence) a) → (k : ℕ) × (k < i) × (node : ℕ) × IsMoveAsk k node s fence
  fence_asked i n s fence a there = let b = asked_by i n s (call.Fence fence) a (λ past h. h) there in let m = by_act b.0 b.2 (b.2).q.turn.act refl (b.2).asks in (b.0, b.1, m.0, m.1)
    where
      by_act : (k : ℕ) (b : IsAsked k n s (call.Fence fence)) (x : Act) → (b.q).turn.act ≡ x → MayAsk start (take k events) b.q x (asked.Step n s (call.Fence fence)) → (node : ℕ) × IsMoveAsk k node s fence
      by_act k b (act.Bootstrap name only) is h = (
        (h.joining).node,
        record {
          q = b.q;
          in_run = b.in_run;
          within = b.within;
          place = h.place;
          last = h.last;
          assigned = (h.assignments, h.there, Any-from_IsIn (λ (a : Assignment). (a.node ≡ (h.joining).node) × (a.tenure ≡ fence)) h.assignments h.joining h.joins (refl, h.tenure_is));
          how = inl (record { name = name; only = only; act_is = is; covers = h.covers; named = h.named });
        },
      )
      by_act k b _ is h = absurd h
