-- What the tests of a state's rules tell, and which bytes are no state's.
use Rattle.std.proofs.Common.{◌≡◌, ◌↔◌, ℕ, List, length, sym, ◌∙◌, subst, ◌≤◌, IsTrue}
use Rattle.m3_model.specs.Names.{is_name}
use Rattle.m3_model.specs.declared.rules.Space.{Space}
use Rattle.m3_model.specs.declared.rules.MetaState.{MetaState}
use Rattle.m3_model.specs.declared.limits.TheConstants.{MOST_NAMESPACES}
use Rattle.meta_bytes.specs.Forms.{HasForm}
use Rattle.meta_bytes.specs.States.{FitsState, state_form, state_bytes, IsSpaceOf, AreSpaces, IsMetaState, IsNoState}
use Rattle.meta_bytes.specs.StateParts.{HasDurations, AreApart, HasMoment, HasParts}
use Rattle.meta_bytes.proofs.LimitLemmas.{in_form}
use Rattle.meta_bytes.proofs.OneLemmas.{states_are_one}

-- ---- rules

pub space_decided : (s : Space) → (IsTrue (is_name s.name) × HasDurations s) ↔ IsSpaceOf s
space_decided s = (
  λ t. record { named = t.0; some_block = (t.1).0; past_below = (t.1).1; future_below = (t.1).2; kept_longer = (t.1).3; retention_fits = (t.1).4 },
  λ h. (h.named, (h.some_block, h.past_below, h.future_below, h.kept_longer, h.retention_fits)),
)

pub spaces_decided : (spaces : List Space) → ((length spaces ≤ MOST_NAMESPACES) × AreApart spaces) ↔ AreSpaces spaces
spaces_decided spaces = (λ t. record { few = t.0; each = (t.1).0; distinct = (t.1).1 }, λ h. (h.few, (h.each, h.distinct)))

pub state_decided : (s : MetaState) → (HasMoment s × HasParts s) ↔ IsMetaState s
state_decided s = (λ t. record { moment = (t.0).0; seed = (t.0).1; place = (t.1).0; spaces = (t.1).1 }, λ h. ((h.moment, h.seed), (h.place, h.spaces)))

-- ---- bytes

-- bytes that haven't a state's form are no state's
pub no_form : (bytes : List ℕ) → ¬ (HasForm state_form bytes) → IsNoState bytes
no_form bytes none s h = none (subst (HasForm state_form) (sym h.is) (in_form s h.lawful).form)

-- nor are those of a state that no cluster may have
pub no_rules : (bytes : List ℕ) (s : MetaState) → bytes ≡ state_bytes s → FitsState s → ¬ (IsMetaState s) → IsNoState bytes
no_rules bytes s is fits none t h =
    let same : t ≡ s = states_are_one t s (in_form t h.lawful).fits fits (sym h.is ∙ is) in
    none (subst IsMetaState same h.lawful)
