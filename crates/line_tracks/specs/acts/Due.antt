-- Which refusal is due of an act in the next line: said of the rules, the placement and the stopped nodes that the turns left.
use Rattle.std.specs.Prelude.{◌≡◌, ℕ, ℤ, ◌≤◌, ◌<◌, List, length, Option, Some, None, IsSome, Bool, true, false, slice_get, decimal, ⊤}
use Rattle.m3_model.specs.Members.{IsIn}
use Rattle.m3_model.specs.Rules.{namespace_position}
use Rattle.m3_model.specs.declared.act.Act.{Act}
use Rattle.m3_model.specs.declared.act.Act.TheVariants as act
use Rattle.m3_model.specs.declared.act.Fate.{Fate}
use Rattle.m3_model.specs.declared.act.ReadLevel.{ReadLevel}
use Rattle.m3_model.specs.declared.act.WriteLevel.{WriteLevel}
use Rattle.m3_model.specs.declared.answer.Answer.{Answer}
use Rattle.m3_model.specs.declared.answer.Answer.TheVariants as answer
use Rattle.m3_model.specs.declared.limits.TheConstants.{MOST_NAMESPACES}
use Rattle.m3_model.specs.declared.placement.Placement.{Placement}
use Rattle.m3_model.specs.declared.point.Matcher.{Matcher}
use Rattle.m3_model.specs.declared.rules.MetaState.{MetaState}
use Rattle.m3_model.specs.declared.rules.Rules.{Rules}
use Rattle.m3_model.specs.declared.turn.Turn.{Turn}
use Rattle.told_runs.specs.placement_acts.Acts.{is_step_act, refusal_due}
use Rattle.net_plan.specs.Fates.{Item}
use Rattle.told_runs.specs.told_by.Lines.{position_after}
use Rattle.told_runs.specs.told_moves.Order.{IsInitAct}
use Rattle.transcripts.specs.Caused.{kept_after, refusal_after}
use Rattle.transcripts.specs.Fates.{is_stopped}
use Rattle.transcripts.specs.Placements.{placement_after, placements, start_placement}
use Rattle.transcripts.specs.Record.{inner_turns}
use Rattle.transcripts.specs.Rules.{rules_after, start_rules}
use Rattle.line_tracks.specs.calls.Left.{AreStoppedBy}
use Rattle.node_calls.specs.cluster_members.Names.{AreNumbered, first_missing, node_named}

-- this refusal is due of the act in the next line, or none is
abbrev pub IsDueNext : Option MetaState → List Turn → Act → Answer → Option Answer → Type 0
IsDueNext start turns a b refusal = refusal_after start (position_after turns a b) (inner_turns turns) ≡ refusal

-- the turns left these rules and this placement, or none
pub record HaveLeft (start : Option MetaState) (turns : List Turn) (place : Option Placement) (rules : Rules) : Type 0 where
  pub rules_are : rules_after (start_rules start) (inner_turns turns) ≡ rules
  pub place_is : placement_after (start_placement start) (inner_turns turns) ≡ place

-- ---- where no placement stands

-- all acts but an `init` are out of order
abbrev pub OrderIsDue : Type 0
OrderIsDue = (start : Option MetaState) (turns : List Turn) → placement_after (start_placement start) (inner_turns turns) ≡ None → (a : Act) (b : Answer) → ¬ IsInitAct a → IsDueNext start turns a b (Some answer.Order)

-- and nothing is refused of an `init`
abbrev pub FirstInitIsFree : Type 0
FirstInitIsFree = (start : Option MetaState) (turns : List Turn) → placement_after (start_placement start) (inner_turns turns) ≡ None → (a : Act) (b : Answer) → IsInitAct a → IsDueNext start turns a b None

-- ---- where one stands

-- what is so of all acts that the turns left these of
abbrev pub WhereLeft : (Option MetaState → List Turn → Placement → Rules → Type 0) → Type 0
WhereLeft Due = (start : Option MetaState) (turns : List Turn) (place : Placement) (rules : Rules) → HaveLeft start turns (Some place) rules → Due start turns place rules

-- an `init` is out of order
abbrev pub InitsAreDue : Type 0
InitsAreDue = WhereLeft (λ start turns place rules. (a : Act) (b : Answer) → IsInitAct a → IsDueNext start turns a b (Some answer.Order))

-- of a namespace: its name, the limit, or nothing
pub record NamespaceDue (start : Option MetaState) (turns : List Turn) (rules : Rules) (name : List ℕ) (block past future retention : ℕ) (b : Answer) : Type 0 where
  pub taken : IsSome (namespace_position name rules.spaces) → IsDueNext start turns (act.Namespace name block past future retention) b (Some answer.Order)
  pub limit : namespace_position name rules.spaces ≡ None → MOST_NAMESPACES ≤ length rules.spaces → IsDueNext start turns (act.Namespace name block past future retention) b (Some (answer.Limit MOST_NAMESPACES))
  pub free : namespace_position name rules.spaces ≡ None → length rules.spaces < MOST_NAMESPACES → IsDueNext start turns (act.Namespace name block past future retention) b None

abbrev pub NamespacesAreDue : Type 0
NamespacesAreDue = WhereLeft (λ start turns place rules. (name : List ℕ) (block past future retention : ℕ) (b : Answer) → NamespaceDue start turns rules name block past future retention b)

-- of a moment: that it would fall, or nothing
pub record MomentDue (start : Option MetaState) (turns : List Turn) (rules : Rules) (now : ℕ) (b : Answer) : Type 0 where
  pub falls : now < rules.now → IsDueNext start turns (act.Now now) b (Some (answer.Clock rules.now))
  pub free : rules.now ≤ now → IsDueNext start turns (act.Now now) b None

abbrev pub MomentsAreDue : Type 0
MomentsAreDue = WhereLeft (λ start turns place rules. (now : ℕ) (b : Answer) → MomentDue start turns rules now b)

-- ---- calls

-- a placement of the version was found or printed, where the call gives one
abbrev pub IsKnown : Option MetaState → List Turn → Option ℕ → Type 0
IsKnown start turns None = ⊤
IsKnown start turns (Some version) = (place : Placement) × IsIn (placements start (inner_turns turns)) place × (place.version ≡ version)

-- of a call in this namespace that gives this version, or none: that the namespace isn't there, or no placement of the version, or nothing
pub record SpaceDue (start : Option MetaState) (turns : List Turn) (rules : Rules) (ns : List ℕ) (version : Option ℕ) (a : Act) (b : Answer) : Type 0 where
  pub unknown : namespace_position ns rules.spaces ≡ None → IsDueNext start turns a b (Some (answer.Unknown ns))
  pub unkept : (k v : ℕ) → namespace_position ns rules.spaces ≡ Some k → version ≡ Some v → ((place : Placement) → IsIn (placements start (inner_turns turns)) place → ¬ (place.version ≡ v)) → IsDueNext start turns a b (Some (answer.Unknown (decimal v)))
  pub free : (k : ℕ) → namespace_position ns rules.spaces ≡ Some k → IsKnown start turns version → IsDueNext start turns a b None

-- of each call
pub record CallDue (start : Option MetaState) (turns : List Turn) (rules : Rules) : Type 0 where
  pub write : (ns id : List ℕ) (t : ℕ) (v : ℤ) (level : WriteLevel) (version : Option ℕ) (b : Answer) → SpaceDue start turns rules ns version (act.Write ns id t v level version) b
  pub fetch : (ns id : List ℕ) (from to : ℕ) (level : ReadLevel) (version : Option ℕ) (b : Answer) → SpaceDue start turns rules ns version (act.Fetch ns id from to level version) b
  pub find : (ns : List ℕ) (wanted : List Matcher) (from to : ℕ) (level : ReadLevel) (version : Option ℕ) (b : Answer) → SpaceDue start turns rules ns version (act.Match ns wanted from to level version) b

abbrev pub CallsAreDue : Type 0
CallsAreDue = WhereLeft (λ start turns place rules. CallDue start turns rules)

-- nothing of a delivery
abbrev pub DeliveriesAreDue : Type 0
DeliveriesAreDue = WhereLeft (λ start turns place rules. (b : Answer) → IsDueNext start turns act.Deliver b None)

-- ---- nodes

-- a node's flag tells whether it is stopped, by its name
abbrev pub FlagsTell : Type 0
FlagsTell = (turns : List Turn) (place : Placement) (flags : List Bool) → AreStoppedBy turns place flags → (name : List ℕ) (node : ℕ) (halted : Bool) → node_named name place.instances ≡ Some node → slice_get flags node ≡ Some halted → is_stopped (inner_turns turns) name ≡ halted

-- of fates: the first name that no node has, or nothing where each has its number
pub record FateDue (start : Option MetaState) (turns : List Turn) (place : Placement) (list : List (ℕ × ℕ × List ℕ × Fate)) (b : Answer) : Type 0 where
  pub unknown : (name : List ℕ) → first_missing place.instances list ≡ Some name → IsDueNext start turns (act.Fates list) b (Some (answer.Unknown name))
  pub free : (items : List Item) → AreNumbered place.instances list items → IsDueNext start turns (act.Fates list) b None

abbrev pub FatesAreDue : Type 0
FatesAreDue = WhereLeft (λ start turns place rules. (list : List (ℕ × ℕ × List ℕ × Fate)) (b : Answer) → FateDue start turns place list b)

-- of a stop: that there is no such node, that it is stopped, or nothing
pub record StopDue (start : Option MetaState) (turns : List Turn) (place : Placement) (name : List ℕ) (b : Answer) : Type 0 where
  pub unknown : node_named name place.instances ≡ None → IsDueNext start turns (act.Stop name) b (Some (answer.Unknown name))
  pub state : (node : ℕ) → node_named name place.instances ≡ Some node → is_stopped (inner_turns turns) name ≡ true → IsDueNext start turns (act.Stop name) b (Some (answer.State name))
  pub free : (node : ℕ) → node_named name place.instances ≡ Some node → is_stopped (inner_turns turns) name ≡ false → IsDueNext start turns (act.Stop name) b None

abbrev pub StopsAreDue : Type 0
StopsAreDue = WhereLeft (λ start turns place rules. (name : List ℕ) (b : Answer) → StopDue start turns place name b)

-- of a restart: that there is no such node, that it isn't stopped, or nothing
pub record RestartDue (start : Option MetaState) (turns : List Turn) (place : Placement) (name : List ℕ) (pick : ℕ) (b : Answer) : Type 0 where
  pub unknown : node_named name place.instances ≡ None → IsDueNext start turns (act.Restart name pick) b (Some (answer.Unknown name))
  pub state : (node : ℕ) → node_named name place.instances ≡ Some node → is_stopped (inner_turns turns) name ≡ false → IsDueNext start turns (act.Restart name pick) b (Some (answer.State name))
  pub free : (node : ℕ) → node_named name place.instances ≡ Some node → is_stopped (inner_turns turns) name ≡ true → IsDueNext start turns (act.Restart name pick) b None

abbrev pub RestartsAreDue : Type 0
RestartsAreDue = WhereLeft (λ start turns place rules. (name : List ℕ) (pick : ℕ) (b : Answer) → RestartDue start turns place name pick b)

-- of a bootstrap: that there is no such node or no such shard, that it is stopped, or nothing
pub record BootstrapDue (start : Option MetaState) (turns : List Turn) (place : Placement) (name : List ℕ) (asked : Option ℕ) (b : Answer) : Type 0 where
  pub unknown : node_named name place.instances ≡ None → IsDueNext start turns (act.Bootstrap name asked) b (Some (answer.Unknown name))
  pub no_shard : (node shard : ℕ) → node_named name place.instances ≡ Some node → asked ≡ Some shard → length place.shards ≤ shard → IsDueNext start turns (act.Bootstrap name asked) b (Some (answer.Unknown (decimal shard)))
  pub state : (node : ℕ) → node_named name place.instances ≡ Some node → ((shard : ℕ) → asked ≡ Some shard → shard < length place.shards) → is_stopped (inner_turns turns) name ≡ true → IsDueNext start turns (act.Bootstrap name asked) b (Some (answer.State name))
  pub free : (node : ℕ) → node_named name place.instances ≡ Some node → ((shard : ℕ) → asked ≡ Some shard → shard < length place.shards) → is_stopped (inner_turns turns) name ≡ false → IsDueNext start turns (act.Bootstrap name asked) b None

abbrev pub BootstrapsAreDue : Type 0
BootstrapsAreDue = WhereLeft (λ start turns place rules. (name : List ℕ) (asked : Option ℕ) (b : Answer) → BootstrapDue start turns place name asked b)

-- of a line that makes a placement: what its names and the limits refuse it for, or nothing
abbrev pub StepsAreDue : Type 0
StepsAreDue = WhereLeft (λ start turns place rules. (a : Act) (b : Answer) → is_step_act a ≡ true → IsDueNext start turns a b (refusal_due (Some place) (kept_after start (inner_turns turns) place) a))
