-- The state that a run leaves.
use Rattle.std.proofs.Common.{◌≡◌, ◌≤◌, ◌<◌, ℕ, List, [], ◌∷◌, length, refl, sym, ap, subst, ◌∙◌, inl, inr, arith, Some, None}
use Rattle.std.specs.Prelude.{Option, codes}
use Rattle.m3_model.specs.Rules.{namespace_position}
use Rattle.m3_model.specs.declared.placement.Placement.{Placement}
use Rattle.m3_model.specs.declared.rules.MetaState.{MetaState}
use Rattle.m3_model.specs.declared.rules.Rules.{Rules}
use Rattle.m3_model.specs.declared.turn.Request.{Request}
use Rattle.m3_model.specs.declared.turn.Turn.{Turn}
use Rattle.m3_outside.specs.DiskState.{DiskState}
use Rattle.m3_outside.specs.Slots.{Out, Unused}
use Rattle.transcripts.specs.Caused.{versions_after}
use Rattle.transcripts.specs.Record.{inner_turns}
use Rattle.transcripts.specs.Refusals.{kept_versions}
use Rattle.model_laws.specs.Building.{begun, eight_made, place, space}
use Rattle.join_laws.specs.Limits.{StandsLate, late}
use Rattle.join_laws.specs.Replaced.{a_to_d, moving_to_d, on_d}
use Rattle.join_laws.proofs.PlanLemmas.{d_ends}
use Rattle.m3_program.specs.Saved.{LeadsUnanswered, LeavesMeta, LeaveState, MayBeLast, MayLead}
use Rattle.run_laws.specs.States.{boot_d, cluster_at, go_to, in_place, name_it, stopped_d, with_nine, with_spaces}
use Rattle.run_laws.proofs.ClashLemmas.{true_not}

-- ---- accepted

pub left-accepted : MayBeLast None (begun 100 []) None (Some (cluster_at 100 0))
left-accepted = record { state = Some (cluster_at 100 0); leave = record { place = refl; rules = refl; seed = refl }; is = inl refl }

pub later-accepted : MayBeLast None (begun 100 []) (Some (go_to 200)) (Some (cluster_at 200 0))
later-accepted = record {
  state = Some (cluster_at 100 0);
  leave = record { place = refl; rules = refl; seed = refl };
  is = inr (cluster_at 200 0, refl, record { kept = 1; leads = (omega arith, refl); kept_is = refl; running = tt });
}

pub joined-accepted : MayBeLast None moving_to_d (Some boot_d) (Some (in_place on_d))
unfolding d_ends
joined-accepted = record {
  state = Some (in_place a_to_d);
  leave = record { place = refl; rules = refl; seed = refl };
  is = inr (
    in_place on_d,
    refl,
    record {
      kept = 2;
      leads = record { node = 3; named = refl; shards = 0 ∷ []; some = λ e. cc; covered = λ s i. refl; over = (d_ends []).next; room = omega arith; rules = refl; seed_is = refl };
      kept_is = refl;
      running = refl;
    },
  );
}

-- ---- refused

-- without an open request the state is the one that the turns leave
left_alone : (turns : List Turn) (last : Option MetaState) → (LeaveState None turns last → ⊥) → ¬ MayBeLast None turns None last
left_alone turns last never h = elim h.is as (λ _. ⊥) [ inl same ↦ never (subst (LeaveState None turns) (sym same) h.leave) | inr leads ↦ leads ]

-- with one that needs a state it is that one, or the one to which the request leads
led_on : (turns : List Turn) (asked : Request) (last : MetaState) → (LeaveState None turns (Some last) → ⊥) → ((next : MetaState) → LeadsUnanswered None turns None asked next → ⊥)
    → ((s next : MetaState) → LeaveState None turns (Some s) → LeadsUnanswered None turns (Some s) asked next → ⊥) → ¬ MayBeLast None turns (Some asked) (Some last)
led_on turns asked last left none some h = elim h.is as (λ _. ⊥) [ inl same ↦ left (subst (LeaveState None turns) (sym same) h.leave) | inr leads ↦ by h.state h.leave leads ]
  where
    by : (o : Option MetaState) → LeaveState None turns o → MayLead None turns o (Some asked) (Some last) → ⊥
    by None leave (next, is, on) = none next on
    by (Some s) leave (next, is, on) = some s next leave on

-- the moment of the rules, how many namespaces there are, and the version of a placement
abbrev moment_of : Rules → ℕ
moment_of rules = rules.now

abbrev spaces_of : Rules → ℕ
spaces_of rules = length rules.spaces

abbrev version_of : Option Placement → ℕ
version_of None = 0
version_of (Some p) = p.version

pub skipped-refused : ¬ MayBeLast None (begun 100 []) None (Some (cluster_at 0 0))
skipped-refused = left_alone (begun 100 []) (Some (cluster_at 0 0)) (λ leave. let now : 100 ≡ 0 = ap moment_of leave.rules in omega (arith, now))

pub seed-refused : ¬ MayBeLast None (begun 100 []) None (Some (cluster_at 100 7))
seed-refused = left_alone (begun 100 []) (Some (cluster_at 100 7)) (λ leave. let seed : 0 ≡ 7 = leave.seed in omega (arith, seed))

pub place-refused : ¬ MayBeLast None moving_to_d None (Some (in_place on_d))
place-refused = left_alone moving_to_d (Some (in_place on_d)) (λ leave. let version : 2 ≡ 3 = ap version_of leave.place in omega (arith, version))

pub nothing-refused : ¬ MayBeLast None (begun 100 []) None None
nothing-refused = left_alone (begun 100 []) None (λ leave. let version : 1 ≡ 0 = ap version_of leave.place in omega (arith, version))

pub falls-refused : ¬ MayBeLast None (begun 100 []) (Some (go_to 5)) (Some (cluster_at 5 0))
falls-refused = led_on (begun 100 []) (go_to 5) (cluster_at 5 0) (λ leave. let now : 100 ≡ 5 = ap moment_of leave.rules in omega (arith, now)) (λ next on. on.leads)
    (λ s next leave on.
    let now : 100 ≡ s.rules.now = ap moment_of leave.rules in
    let not_lower : s.rules.now ≤ 5 = on.leads.0 in
    omega (arith, now, not_lower))

pub twice-refused : ¬ MayBeLast None (begun 100 []) (Some (name_it (codes "m"))) (Some (with_spaces 100 (space ∷ space ∷ [])))
twice-refused = led_on (begun 100 []) (name_it (codes "m")) (with_spaces 100 (space ∷ space ∷ [])) (λ leave. let many : 1 ≡ 2 = ap spaces_of leave.rules in omega (arith, many)) (λ next on. on.leads)
    (λ s next leave on.
    let there : Some 0 ≡ namespace_position (codes "m") s.rules.spaces = ap (λ (rules : Rules). namespace_position (codes "m") rules.spaces) leave.rules in
    let clash : Some 0 ≡ None = there ∙ (on.leads.0).new in
    cc)

pub ninth-refused : ¬ MayBeLast None eight_made (Some (name_it (codes "m9"))) (Some with_nine)
ninth-refused = led_on eight_made (name_it (codes "m9")) with_nine (λ leave. let many : 8 ≡ 9 = ap spaces_of leave.rules in omega (arith, many)) (λ next on. on.leads)
    (λ s next leave on.
    let many : 8 ≡ length s.rules.spaces = ap spaces_of leave.rules in
    let few : length s.rules.spaces < 8 = (on.leads.0).few in
    omega (arith, many, few))

pub stopped-refused : ¬ MayBeLast None stopped_d (Some boot_d) (Some (in_place on_d))
stopped-refused = led_on stopped_d boot_d (in_place on_d) (λ leave. let version : 2 ≡ 3 = ap version_of leave.place in omega (arith, version)) (λ next on. on.leads) (λ s next leave on. true_not on.running)

pub limit-refused : (lines : List Turn) → StandsLate 1024 lines → ¬ MayBeLast None lines (Some boot_d) (Some (in_place (late 1025)))
limit-refused lines stands = led_on lines boot_d (in_place (late 1025))
    (λ leave. let version : 1024 ≡ 1025 = ap version_of (sym stands.place_is ∙ leave.place) in omega (arith, version)) (λ next on. on.leads)
    (λ s next leave on.
    let kept : on.kept ≡ 1024 = on.kept_is ∙ ap (λ p. kept_versions p (versions_after None (inner_turns lines))) (sym leave.place ∙ stands.place_is) ∙ ap (kept_versions (Some (late 1024))) stands.versions in
    let room : on.kept < 1024 = (on.leads).room in
    omega (arith, kept, room))

-- ---- the meta disk

module _ {D : Type 0} (state : D → DiskState) (lines : List Turn) where
  pub out-refused : ¬ LeavesMeta state Out None lines None
  out-refused h = let is = h.back in cc

  pub unused-refused : ¬ LeavesMeta state Unused None lines None
  unused-refused h = let is = h.back in cc
