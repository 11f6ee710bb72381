-- Lines that make a placement: what is answered is what the planning rules lead to.
use Rattle.std.proofs.Common.{◌≡◌, ◌∙◌, ℕ, Bool, true, List, Option, Some, None, refl, sym, ap, ap₂, subst, inl, inr}
use Rattle.std.specs.Prelude.{◌⊎◌}
use Rattle.m3_model.specs.Limits.{MeetsLimits}
use Rattle.m3_model.specs.declared.act.Act.{Act}
use Rattle.m3_model.specs.declared.answer.Answer.{Answer}
use Rattle.m3_model.specs.declared.answer.Answer.TheVariants as answer
use Rattle.m3_model.specs.declared.placement.Placement.{Placement}
use Rattle.m3_model.specs.declared.rules.MetaState.{MetaState}
use Rattle.m3_model.specs.declared.turn.Turn.{Turn}
use Rattle.placement_core.specs.Lawful.{IsLawful}
use Rattle.placement_acts.specs.Acts.{IsDueBy as IsDueByPlan, IsInTheWay, IsRefused, LeadsTo, Plans, is_step_act, refusal_due}
use Rattle.placement_acts.proofs.ActLemmas.{by_step}
use Rattle.placement_lines.proofs.LawLemmas.{refused_steps_lead_nowhere, steps_have_one_refusal, steps_lead_to_one}
use Rattle.transcripts.specs.Caused.{CausedAt, IsDueBy, IsOwn, IsStepOf, IsUnmadeIn, kept_after, refusal_after}
use Rattle.transcripts.specs.Deliveries.{LateMessage}
use Rattle.transcripts.specs.Faults.{Fault}
use Rattle.transcripts.specs.Placements.{placement_at}
use Rattle.transcripts.specs.Record.{Life, TurnPosition, IsTurnPosition, inner_turns}
use Rattle.transcripts.proofs.RefusalLemmas.{step_refusal}
use Rattle.model_laws.proofs.PositionLemmas.{position_after, only_after, position_after-stands}
use Rattle.move_laws.specs.Steps.{IsFree, LedIsPrinted, NamesSlotOf, RefusedIsAnswered, StepLine}

-- ---- answers

-- the own answer of a step
own_step : (tells : Bool) (faults : List Fault) (start : Option MetaState) (messages : List LateMessage) (p : TurnPosition) (b : Answer) (a : Act) → is_step_act a ≡ true → IsOwn tells faults start messages p a b → IsStepOf faults start p a b
own_step tells faults start messages p b = by_step (λ a. IsOwn tells faults start messages p a b → IsStepOf faults start p a b) (λ node group h. h) (λ node h. h) (λ node h. h) (λ node h. h) (λ node by group h. h)

module _ (faults : List Fault) (start : Option MetaState) (place : Placement) (kept : ℕ) (a : Act) (lawful : IsLawful place) (step : is_step_act a ≡ true) where
  -- where nothing is due, what is in the way refuses the line, and a plan leads to its placement
  in_way : refusal_due (Some place) kept a ≡ None → (p : TurnPosition) → placement_at start p ≡ Some place → (b : Answer) → IsInTheWay (placement_at start p) a b → IsRefused (Some place) kept a b
  in_way free p at b way = subst (λ (o : Option Answer). IsDueByPlan (Some place) a o b) (sym free) (subst (λ (o : Option Placement). IsInTheWay o a b) at way)

  leads_by : refusal_due (Some place) kept a ≡ None → (p : TurnPosition) → placement_at start p ≡ Some place → (next : Placement) → Plans (placement_at start p) a next → LeadsTo (Some place) kept a next
  leads_by free p at next plan = record { free = free; plan = subst (λ (o : Option Placement). Plans o a next) at plan }

  led_by : MeetsLimits a → (next : Placement) → LeadsTo (Some place) kept a next → (p : TurnPosition) → placement_at start p ≡ Some place → (b : Answer) → IsStepOf faults start p a b → (b ≡ answer.Placed next next.version) ⊎ NamesSlotOf faults start p next b
  led_by limits next leads p at (answer.Placed other version) h =
      let same : other ≡ next = steps_lead_to_one place kept a other next lawful step limits (leads_by leads.free p at other h.1) leads in
      inl (ap₂ (λ x v. answer.Placed x v) same (h.2 ∙ ap (λ (x : Placement). x.version) same))
  led_by limits next leads p at (answer.Busy name shard) h = absurd (refused_steps_lead_nowhere place kept a next (answer.Busy name shard) lawful step leads (in_way leads.free p at (answer.Busy name shard) h))
  led_by limits next leads p at (answer.Group shard) h = absurd (refused_steps_lead_nowhere place kept a next (answer.Group shard) lawful step leads (in_way leads.free p at (answer.Group shard) h))
  led_by limits next leads p at (answer.Disk name shard) h =
      inr (subst (λ x. IsUnmadeIn faults start p x name shard) (steps_lead_to_one place kept a h.0 next lawful step limits (leads_by leads.free p at h.0 h.1) leads) h.2)
  led_by limits next leads p at _ h = absurd h

  refused_by : (refusal : Answer) → IsRefused (Some place) kept a refusal → refusal_due (Some place) kept a ≡ None → (p : TurnPosition) → placement_at start p ≡ Some place → (b : Answer) → IsStepOf faults start p a b → b ≡ refusal
  refused_by refusal refused free p at (answer.Placed next version) h = absurd (refused_steps_lead_nowhere place kept a next refusal lawful step (leads_by free p at next h.1) refused)
  refused_by refusal refused free p at (answer.Busy name shard) h = steps_have_one_refusal place kept a (answer.Busy name shard) refusal lawful step (in_way free p at (answer.Busy name shard) h) refused
  refused_by refusal refused free p at (answer.Group shard) h = steps_have_one_refusal place kept a (answer.Group shard) refusal lawful step (in_way free p at (answer.Group shard) h) refused
  refused_by refusal refused free p at (answer.Disk name shard) h = absurd (refused_steps_lead_nowhere place kept a h.0 refusal lawful step (leads_by free p at h.0 h.1) refused)
  refused_by refusal refused free p at _ h = absurd h

-- ---- lines

module _ {tells : Bool} (life : Life) (faults : List Fault) (lines : List Turn) (place : Placement) (a : Act) (b : Answer) (l : StepLine tells life faults lines place a b) where
  abbrev start : Option MetaState
  start = life.present.start

  abbrev kept : ℕ
  kept = kept_after start (inner_turns lines) place

  abbrev here : TurnPosition
  here = position_after lines a b

  abbrev late : List LateMessage
  late = (l.caused).delivered here

  in_run : IsTurnPosition life.present.turns here
  in_run = subst (λ turns. IsTurnPosition turns here) (sym l.in_run) (position_after-stands lines a b l.after)

  due_is : refusal_after start here (inner_turns lines) ≡ refusal_due (Some place) kept a
  due_is = step_refusal start here (inner_turns lines) place l.stands l.is_step

  due_or_free : CausedAt tells faults life.past start late here → IsFree b ⊎ IsDueBy tells faults start late here (refusal_due (Some place) kept a)
  due_or_free (inl memory) = inl (inl memory)
  due_or_free (inr (inl full)) = inl (inr full.0)
  due_or_free (inr (inr due)) =
      inr (subst (λ o. IsDueBy tells faults start late here o) due_is (subst (λ turns. IsDueBy tells faults start late here (refusal_after start here turns)) (only_after lines a b due.0 due.1) due.2))

  own : IsOwn tells faults start late here a b → IsStepOf faults start here a b
  own h = own_step tells faults start late here b a l.is_step h

  pub led : (next : Placement) → LeadsTo (Some place) kept a next → IsFree b ⊎ ((b ≡ answer.Placed next next.version) ⊎ NamesSlotOf faults start here next b)
  led next leads = elim (due_or_free ((l.caused).each here in_run)) as (λ _. IsFree b ⊎ ((b ≡ answer.Placed next next.version) ⊎ NamesSlotOf faults start here next b)) [
    | inl free ↦ inl free
    | inr due ↦ inr (led_by faults start place kept a l.lawful l.is_step l.limits next leads here l.stands b (own (subst (λ o. IsDueBy tells faults start late here o) leads.free due)))
  ]

  pub refused : (refusal : Answer) → IsRefused (Some place) kept a refusal → IsFree b ⊎ (b ≡ refusal)
  refused refusal h = elim (due_or_free ((l.caused).each here in_run)) as (λ _. IsFree b ⊎ (b ≡ refusal)) [
    | inl free ↦ inl free
    | inr due ↦ inr (by (refusal_due (Some place) kept a) refl h due)
  ]
    where
      by : (o : Option Answer) → refusal_due (Some place) kept a ≡ o → IsDueByPlan (Some place) a o refusal → IsDueBy tells faults start late here o → b ≡ refusal
      by (Some other) e is due = due ∙ sym is
      by None e way due = refused_by faults start place kept a l.lawful l.is_step refusal h e here l.stands b (own due)

pub led_is_printed : {tells : Bool} → LedIsPrinted tells
led_is_printed life faults lines place a b l = led life faults lines place a b l

pub refused_is_answered : {tells : Bool} → RefusedIsAnswered tells
refused_is_answered life faults lines place a b l = refused life faults lines place a b l
