-- What a line leads to, and what it is refused with.
use Rattle.std.proofs.Common.{◌≡◌, ◌≤◌, ◌<◌, ◌⊎◌, ℕ, true, Option, Some, None, refl, sym, ap, subst, ◌∙◌, inl, inr}
use Rattle.std.specs.Option.{option_or}
use Rattle.m3_model.specs.declared.act.Act.{Act}
use Rattle.m3_model.specs.declared.answer.Answer.{Answer}
use Rattle.m3_model.specs.declared.answer.Answer.TheVariants as answer
use Rattle.m3_model.specs.declared.limits.TheConstants.{MOST_VERSIONS}
use Rattle.m3_model.specs.declared.placement.Placement.{Placement}
use Rattle.placement_core.specs.NodeNames.{name_of}
use Rattle.placement_plan.specs.declared.plan_err.PlaceErr.TheVariants as refused
use Rattle.placement_acts.specs.Acts.{is_step_act, old_name, refusal_by_names, refusal_due, versions_due, IsDueBy, IsRefused, LeadsNowhere, LeadsTo, Plans, Refuses}
use Rattle.placement_acts.proofs.ActLemmas.{by_step}
use Rattle.placement_lines.proofs.DueLemmas.{versions_are_due, versions_are_not, planned_is_free, busy_is_free, stuck_is_free, exists_by_names, unknown_by_names, limit_by_names}

due_of_step : (place : Placement) (kept : ℕ) (a : Act) → is_step_act a ≡ true → refusal_due (Some place) kept a ≡ option_or (refusal_by_names place a) (versions_due kept a)
due_of_step place kept = by_step (λ a. refusal_due (Some place) kept a ≡ option_or (refusal_by_names place a) (versions_due kept a)) (λ node group. refl) (λ node. refl) (λ node. refl) (λ node. refl) (λ node by group. refl)

module _ (place : Placement) (kept : ℕ) (a : Act) (step : is_step_act a ≡ true) where
  due_by : (o : Option Answer) (b : Answer) → refusal_due (Some place) kept a ≡ o → IsDueBy (Some place) a o b → IsRefused (Some place) kept a b
  due_by o b e h = subst (λ (p : Option Answer). IsDueBy (Some place) a p b) (sym e) h

  -- the refusal by names is due first
  by_names : (refusal : Answer) → refusal_by_names place a ≡ Some refusal → IsRefused (Some place) kept a refusal
  by_names refusal e = due_by (Some refusal) refusal (due_of_step place kept a step ∙ ap (λ o. option_or o (versions_due kept a)) e) refl

  -- then that of versions
  by_versions : refusal_by_names place a ≡ None → MOST_VERSIONS ≤ kept → IsRefused (Some place) kept a (answer.Limit MOST_VERSIONS)
  by_versions free many =
      due_by (Some (answer.Limit MOST_VERSIONS)) (answer.Limit MOST_VERSIONS) (due_of_step place kept a step ∙ ap (λ o. option_or o (versions_due kept a)) free ∙ versions_are_due kept a step many) refl

  -- and else none
  pub free_if : refusal_by_names place a ≡ None → kept < MOST_VERSIONS → refusal_due (Some place) kept a ≡ None
  free_if free few = due_of_step place kept a step ∙ ap (λ o. option_or o (versions_due kept a)) free ∙ versions_are_not kept a step few

  -- ---- answers

  pub exists_told : Refuses (Some place) a refused.Exists → LeadsNowhere (Some place) kept a answer.Order
  exists_told h = inr (by_names answer.Order (exists_by_names place a step h))

  pub unknown_told : (b : Answer) → Refuses (Some place) a refused.Unknown → (b ≡ answer.Memory) ⊎ (b ≡ answer.Unknown (old_name a)) → LeadsNowhere (Some place) kept a b
  unknown_told b h told = elim told as (λ _. LeadsNowhere (Some place) kept a b) [
    | inl memory ↦ inl memory
    | inr is ↦ inr (subst (λ (x : Answer). IsRefused (Some place) kept a x) (sym is) (by_names (answer.Unknown (old_name a)) (unknown_by_names place a step h)))
  ]

  pub limit_told : (limit : ℕ) → Refuses (Some place) a (refused.Limit limit) → LeadsNowhere (Some place) kept a (answer.Limit limit)
  limit_told limit h = inr (by_names (answer.Limit limit) (limit_by_names place limit a step h))

  late_told : (b : Answer) → refusal_by_names place a ≡ None → MOST_VERSIONS ≤ kept → b ≡ answer.Limit MOST_VERSIONS → LeadsNowhere (Some place) kept a b
  late_told b free many is = inr (subst (λ (x : Answer). IsRefused (Some place) kept a x) (sym is) (by_versions free many))

  pub late_busy_told : (b : Answer) (shard node : ℕ) → Refuses (Some place) a (refused.Busy shard node) → MOST_VERSIONS ≤ kept → b ≡ answer.Limit MOST_VERSIONS → LeadsNowhere (Some place) kept a b
  late_busy_told b shard node h = late_told b (busy_is_free place shard node a step h)

  pub late_group_told : (b : Answer) (shard : ℕ) → Refuses (Some place) a (refused.Group shard) → MOST_VERSIONS ≤ kept → b ≡ answer.Limit MOST_VERSIONS → LeadsNowhere (Some place) kept a b
  late_group_told b shard h = late_told b (stuck_is_free place shard a step h)

  pub late_plan_told : (b : Answer) (next : Placement) → Plans (Some place) a next → MOST_VERSIONS ≤ kept → b ≡ answer.Limit MOST_VERSIONS → LeadsNowhere (Some place) kept a b
  late_plan_told b next plan = late_told b (planned_is_free place next a step plan)

  pub busy_told : (b : Answer) (shard node : ℕ) → Refuses (Some place) a (refused.Busy shard node) → kept < MOST_VERSIONS → (b ≡ answer.Memory) ⊎ (b ≡ answer.Busy (name_of place.instances node) shard) → LeadsNowhere (Some place) kept a b
  busy_told b shard node h few told = elim told as (λ _. LeadsNowhere (Some place) kept a b) [
    | inl memory ↦ inl memory
    | inr is ↦ inr (subst (λ (x : Answer). IsRefused (Some place) kept a x) (sym is) (due_by None (answer.Busy (name_of place.instances node) shard) (free_if (busy_is_free place shard node a step h) few) (node, h, refl)))
  ]

  pub group_told : (shard : ℕ) → Refuses (Some place) a (refused.Group shard) → kept < MOST_VERSIONS → LeadsNowhere (Some place) kept a (answer.Group shard)
  group_told shard h few = inr (due_by None (answer.Group shard) (free_if (stuck_is_free place shard a step h) few) h)

  pub plan_leads : (next : Placement) → Plans (Some place) a next → kept < MOST_VERSIONS → LeadsTo (Some place) kept a next
  plan_leads next plan few = record { free = free_if (planned_is_free place next a step plan) few; plan = plan }
