-- The placements that a cluster keeps, and which of them a call uses.
use Rattle.std.specs.Prelude.{◌≡◌, ◌⊎◌, ℕ, ⊤, List, set, Option, Some, None, decimal, slice_get}
use Rattle.m3_model.specs.Members.{IsIn}
use Rattle.m3_model.specs.declared.answer.Answer.{Answer}
use Rattle.m3_model.specs.declared.answer.Answer.TheVariants as answer
use Rattle.m3_model.specs.declared.placement.Placement.{Placement}
use Rattle.m3_outside.specs.declared.disk.Disk.{Ghosts}
use Rattle.session_writes.specs.session_net.Ready.{IsCallable}
use Rattle.session_writes.specs.session_net.declared.net.Net.{Net}
use Rattle.cluster_members.specs.declared.kept.Kept.{Kept}
use Rattle.cluster_members.specs.declared.kept.Kept.TheVariants as kept
use Rattle.cluster_members.specs.declared.members.Members.{Members}

-- one of the placements that are kept: the one that stands, or one before it
abbrev pub IsKept : Placement → List Placement → Placement → Type 0
IsKept standing past place = (place ≡ standing) ⊎ IsIn past place

-- a call that gives this version, or none, uses this one: the one that stands, or that of the version
abbrev pub Uses : Placement → List Placement → Option ℕ → Placement → Type 0
Uses standing past None place = place ≡ standing
Uses standing past (Some version) place = IsKept standing past place × (place.version ≡ version)

-- none of the version is kept
abbrev pub KeepsNone : Placement → List Placement → Option ℕ → Type 0
KeepsNone standing past None = ⊥
KeepsNone standing past (Some version) = (place : Placement) → IsKept standing past place → ¬ (place.version ≡ version)

-- it stands there
abbrev pub StandsAt : Placement → List Placement → Kept → Placement → Type 0
StandsAt standing past kept.Standing place = place ≡ standing
StandsAt standing past (kept.Past i) place = slice_get past i ≡ Some place

-- the one that stands, and those before it, once it is exchanged for one that is kept
abbrev pub past_by : Placement → List Placement → Kept → List Placement
past_by standing past kept.Standing = past
past_by standing past (kept.Past i) = set past i standing

-- calls may go by each placement that is kept
abbrev pub PastServes : {D : Type 0} {G : Ghosts D} → Members D G → Type 0
PastServes m = (place : Placement) → IsIn m.past.items place → IsCallable (record m.net.state { place = place }) m.net.replicas m.net.bag

-- the same fields, by this placement
pub record IsBy {D : Type 0} {G : Ghosts D} (place : Placement) (net seen : Net D G) : Type 0 where
  pub state : seen.state ≡ record net.state { place = place }
  pub replicas : seen.replicas ≡ net.replicas
  pub fates : seen.fates ≡ net.fates
  pub bag : seen.bag ≡ net.bag

-- It was made by this placement; then the net goes by its own again.
pub record MadeBy {D : Type 0} {G : Ghosts D} (place : Placement) (Made : Net D G → Net D G → Type 0) (old new : Net D G) : Type 0 where
  pub before : Net D G
  pub began : IsBy place old before
  pub after : Net D G
  pub made : Made before after
  pub ended : IsBy place new after

-- The call went by a placement that it may use; then the cluster goes by its own again.
pub record WentBy {D : Type 0} {G : Ghosts D} (old : Members D G) (version : Option ℕ) (Made : Net D G → Net D G → Type 0) (new : Net D G) : Type 0 where
  pub place : Placement
  pub uses : Uses old.net.state.place old.past.items version place
  pub before : Net D G
  pub began : IsBy place old.net before
  pub after : Net D G
  pub made : Made before after
  pub ended : IsBy place new after

-- a number as the name of what isn't there; or there is no memory to say so
abbrev pub IsNumberOf : ℕ → Answer → Type 0
IsNumberOf number (answer.Unknown name) = name ≡ decimal number
IsNumberOf number answer.Memory = ⊤
IsNumberOf number _ = ⊥

-- no placement of the version is kept, which is answered by its number
abbrev pub IsUnkept : Placement → List Placement → Option ℕ → Answer → Type 0
IsUnkept standing past None answered = ⊥
IsUnkept standing past (Some version) answered = KeepsNone standing past (Some version) × IsNumberOf version answered
