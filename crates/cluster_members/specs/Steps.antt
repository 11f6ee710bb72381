-- What a cluster that stands answers of namespaces and of the moment, and what that leaves of it.
use Rattle.std.specs.Prelude.{◌≡◌, ℕ, ◌≤◌, ◌<◌, List, [], ◌∷◌, ◌++◌, length, None, IsSome}
use Rattle.std.specs.List.{All}
use Rattle.m3_outside.specs.DiskState.{DiskState}
use Rattle.m3_outside.specs.declared.disk.Disk.{Ghosts}
use Rattle.m3_model.specs.declared.limits.TheConstants.{MOST_NAMESPACES, TIME_END}
use Rattle.m3_model.specs.Rules.{namespace_position}
use Rattle.m3_model.specs.declared.answer.Answer.{Answer}
use Rattle.m3_model.specs.declared.answer.Answer.TheVariants as answer
use Rattle.m3_model.specs.declared.rules.Rules.{Rules}
use Rattle.m3_model.specs.declared.rules.Space.{Space}
use Rattle.session_writes.specs.cluster_core.declared.event.Asked.TheVariants as asked
use Rattle.session_writes.specs.cluster_core.declared.event.Event.{Event}
use Rattle.session_writes.specs.cluster_core.declared.event.Event.TheVariants as event
use Rattle.session_writes.specs.replica_exchange.MachineCalls.{HasRoom}
use Rattle.session_writes.specs.session_net.Runs.{Ran}
use Rattle.session_writes.specs.cluster_core.Legal.{IsNextClock}
use Rattle.cluster_members.specs.declared.members.Members.{Members}

abbrev pub spaces_in : {D : Type 0} {G : Ghosts D} → Members D G → List Space
spaces_in m = m.net.state.rules.spaces

-- a Clock of the rules is asked for, and added
abbrev pub clock_events : Rules → List Event
clock_events rules = event.Ask (asked.Clock rules) ∷ event.Clock rules ∷ []

-- the rules are set by a Clock, and all else stays
pub record SetsRules {D : Type 0} {G : Ghosts D} (state : D → DiskState) (rules : Rules) (old new : Members D G) : Type 0 where
  pub state_is : new.net.state ≡ record old.net.state { rules = rules }
  pub ran : Ran state old.net.replicas (clock_events rules) new.net.replicas
  pub fates : new.net.fates ≡ old.net.fates
  pub bag : new.net.bag ≡ old.net.bag
  pub slots : new.slots.items ≡ old.slots.items
  pub past : new.past.items ≡ old.past.items
  pub stopped : new.stopped.items ≡ old.stopped.items

-- the list has no room for a Clock and its Ask, and nothing changed
abbrev pub LacksRoom : {D : Type 0} {G : Ghosts D} → Members D G → Members D G → Type 0
LacksRoom old new = (new ≡ old) × ¬ HasRoom 2 old.net.replicas.events

-- a Clock of the rules may come, for which the list has room; and the rules are within the limits
pub record MaySetRules {D : Type 0} {G : Ghosts D} (m : Members D G) (rules : Rules) : Type 0 where
  pub next : IsNextClock m.net.replicas.events rules
  pub room : HasRoom 2 m.net.replicas.events
  pub few : length rules.spaces ≤ MOST_NAMESPACES
  pub sizes : All (λ (space : Space). 0 < space.block) rules.spaces
  pub moment : rules.now < TIME_END

-- ---- namespaces

-- one more namespace, the others as they are
abbrev pub with_space : Space → Rules → Rules
with_space space rules = record rules { spaces = rules.spaces ++ space ∷ [] }

-- its name is new, and there is room for one more
pub record MayName (spaces : List Space) (space : Space) : Type 0 where
  pub new : namespace_position space.name spaces ≡ None
  pub few : length spaces < MOST_NAMESPACES

-- a namespace is made; one of a name that is there is out of order, and there is a limit to them
abbrev pub IsSpaceAdded : {D : Type 0} {G : Ghosts D} → (D → DiskState) → Members D G → Space → Answer → Members D G → Type 0
IsSpaceAdded state old space answer.Done new = MayName (spaces_in old) space × SetsRules state (with_space space old.net.state.rules) old new
IsSpaceAdded state old space answer.Order new = IsSome (namespace_position space.name (spaces_in old)) × (new ≡ old)
IsSpaceAdded state old space (answer.Limit limit) new = (namespace_position space.name (spaces_in old) ≡ None) × (MOST_NAMESPACES ≤ length (spaces_in old)) × (limit ≡ MOST_NAMESPACES) × (new ≡ old)
IsSpaceAdded state old space answer.Memory new = MayName (spaces_in old) space × (new ≡ old)
IsSpaceAdded state old space answer.Full new = MayName (spaces_in old) space × LacksRoom old new
IsSpaceAdded state old space _ new = ⊥

-- the rules with it may be set
pub record IsSpacePlanned {D : Type 0} {G : Ghosts D} (m : Members D G) (space : Space) (rules : Rules) : Type 0 where
  pub may_name : MayName (spaces_in m) space
  pub rules_are : rules ≡ with_space space m.net.state.rules
  pub may_set : MaySetRules m rules

-- it is refused so, before anything changes
abbrev pub RefusesSpace : {D : Type 0} {G : Ghosts D} → Members D G → Space → Answer → Type 0
RefusesSpace m space answer.Order = IsSome (namespace_position space.name (spaces_in m))
RefusesSpace m space (answer.Limit limit) = (namespace_position space.name (spaces_in m) ≡ None) × (MOST_NAMESPACES ≤ length (spaces_in m)) × (limit ≡ MOST_NAMESPACES)
RefusesSpace m space answer.Memory = MayName (spaces_in m) space
RefusesSpace m space answer.Full = MayName (spaces_in m) space × ¬ HasRoom 2 m.net.replicas.events
RefusesSpace m space _ = ⊥

-- ---- the moment

-- the same namespaces at another moment
abbrev pub at_moment : ℕ → Rules → Rules
at_moment now rules = record rules { now = now }

-- the moment moves on; it never falls
abbrev pub IsMoved : {D : Type 0} {G : Ghosts D} → (D → DiskState) → Members D G → ℕ → Answer → Members D G → Type 0
IsMoved state old now answer.Done new = (old.net.state.rules.now ≤ now) × SetsRules state (at_moment now old.net.state.rules) old new
IsMoved state old now (answer.Clock moment) new = (now < old.net.state.rules.now) × (moment ≡ old.net.state.rules.now) × (new ≡ old)
IsMoved state old now answer.Memory new = (old.net.state.rules.now ≤ now) × (new ≡ old)
IsMoved state old now answer.Full new = (old.net.state.rules.now ≤ now) × LacksRoom old new
IsMoved state old now _ new = ⊥

-- the rules at it may be set
pub record IsMovePlanned {D : Type 0} {G : Ghosts D} (m : Members D G) (now : ℕ) (rules : Rules) : Type 0 where
  pub not_lower : m.net.state.rules.now ≤ now
  pub rules_are : rules ≡ at_moment now m.net.state.rules
  pub may_set : MaySetRules m rules

-- it is refused so, before anything changes
abbrev pub RefusesMove : {D : Type 0} {G : Ghosts D} → Members D G → ℕ → Answer → Type 0
RefusesMove m now (answer.Clock moment) = (now < m.net.state.rules.now) × (moment ≡ m.net.state.rules.now)
RefusesMove m now answer.Memory = m.net.state.rules.now ≤ now
RefusesMove m now answer.Full = (m.net.state.rules.now ≤ now) × ¬ HasRoom 2 m.net.replicas.events
RefusesMove m now _ = ⊥
