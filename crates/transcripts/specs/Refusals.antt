-- What the turns before an act refuse it for: its position among the lines, a name, a limit, a moment.
use Rattle.std.specs.Prelude.{ℕ, suc, ◌-◌, List, length, Option, Some, None, option_map, option_and_then, Bool, true, false, if◌then◌else◌, not, is_some, nat_eq, nat_le, nat_lt, ◌∷◌, [], decimal}
use Rattle.std.specs.List.{list_any}
use Rattle.std.specs.Option.{option_map_or, option_or}
use Rattle.m3_model.specs.Rules.{namespace_position}
use Rattle.placement_core.specs.NodeNames.{is_listed}
use Rattle.m3_model.specs.declared.placement.Placement.{Placement}
use Rattle.m3_model.specs.declared.rules.Space.{Space}
use Rattle.m3_model.specs.declared.rules.Rules.{Rules}
use Rattle.m3_model.specs.declared.limits.TheConstants.{MOST_NAMESPACES}
use Rattle.m3_model.specs.declared.act.Act.{Act}
use Rattle.m3_model.specs.declared.act.Act.TheVariants as act
use Rattle.m3_model.specs.declared.act.Fate.{Fate}
use Rattle.m3_model.specs.declared.answer.Answer.{Answer}
use Rattle.m3_model.specs.declared.answer.Answer.TheVariants as answer
use Rattle.placement_acts.specs.Acts.{answer_if, names_due, versions_due}

-- a name that the act is to make is there already
abbrev pub is_taken : Placement → List Space → Act → Bool
is_taken place spaces (act.Namespace name block past future retention) = is_some (namespace_position name spaces)
is_taken place spaces (act.Add node group) = is_listed node place
is_taken place spaces (act.Replace node by group) = is_listed by place
is_taken place spaces _ = false

-- an `init` stands already, or none stands, or a name to be made is there
abbrev pub is_out_of_order : Option Placement → List Space → Act → Bool
is_out_of_order place spaces (act.Init rf shards seed nodes) = is_some place
is_out_of_order place spaces a = option_map_or (λ p. is_taken p spaces a) place true

-- the name, where no namespace has it
abbrev pub missing_space : List Space → List ℕ → Option (List ℕ)
missing_space spaces name = if is_some (namespace_position name spaces) then None else Some name

-- the name, where no listed node has it
abbrev pub missing_node : Option Placement → List ℕ → Option (List ℕ)
missing_node place name = if option_map_or (is_listed name) place false then None else Some name

-- the number of a shard as a text, where no shard has it
abbrev pub missing_shard : Option Placement → Option ℕ → Option (List ℕ)
missing_shard (Some place) (Some shard) = if nat_lt shard (length place.shards) then None else Some (decimal shard)
missing_shard _ _ = None

-- the version as a text, where no placement of it is kept
abbrev pub missing_version : List ℕ → Option ℕ → Option (List ℕ)
missing_version versions None = None
missing_version versions (Some version) = if list_any (nat_eq version) versions then None else Some (decimal version)

-- the namespace or else the version of a call, where it isn't there
abbrev pub missing_of_call : List ℕ → List Space → List ℕ → Option ℕ → Option (List ℕ)
missing_of_call versions spaces ns version = option_or (missing_space spaces ns) (missing_version versions version)

-- the first name in a list of fates that no listed node has
abbrev pub missing_in : Option Placement → List (ℕ × ℕ × List ℕ × Fate) → Option (List ℕ)
missing_in place [] = None
missing_in place (item ∷ list) = option_or (missing_node place item.2) (missing_in place list)

-- the name in an act that should be there and isn't
abbrev pub missing_name : Option Placement → List ℕ → List Space → Act → Option (List ℕ)
missing_name place versions spaces (act.Write ns id t v level version) = missing_of_call versions spaces ns version
missing_name place versions spaces (act.Fetch ns id from to level version) = missing_of_call versions spaces ns version
missing_name place versions spaces (act.Match ns wanted from to level version) = missing_of_call versions spaces ns version
missing_name place versions spaces (act.Fates list) = missing_in place list
missing_name place versions spaces (act.Stop node) = missing_node place node
missing_name place versions spaces (act.Restart node pick) = missing_node place node
missing_name place versions spaces (act.Bootstrap node shard) = option_or (missing_node place node) (missing_shard place shard)
missing_name place versions spaces (act.Drain node) = missing_node place node
missing_name place versions spaces (act.Cancel node) = missing_node place node
missing_name place versions spaces (act.Remove node) = missing_node place node
missing_name place versions spaces (act.Replace node by group) = missing_node place node
missing_name place versions spaces _ = None

-- the name of a node is new, and as many are known as may be
abbrev pub names_reached : Option Placement → List ℕ → Option Answer
names_reached place name = option_and_then (λ p. names_due p name) place

-- How many versions are kept, of these that were printed, one more than once perhaps: all from that of the first placement, which the run opened with or made,
-- to that of the one that stands.
abbrev pub kept_versions : Option Placement → List ℕ → ℕ
kept_versions (Some place) (first ∷ versions) = suc place.version - first
kept_versions _ _ = 0

-- the limit that an act would pass: of namespaces, of names of nodes, or else of versions
abbrev pub limit_reached : Option Placement → List ℕ → List Space → Act → Option Answer
limit_reached place versions spaces (act.Namespace name block past future retention) = answer_if (nat_le MOST_NAMESPACES (length spaces)) (answer.Limit MOST_NAMESPACES)
limit_reached place versions spaces (act.Add node group) = option_or (names_reached place node) (versions_due (kept_versions place versions) (act.Add node group))
limit_reached place versions spaces (act.Replace node by group) = option_or (names_reached place by) (versions_due (kept_versions place versions) (act.Replace node by group))
limit_reached place versions spaces a = versions_due (kept_versions place versions) a

-- the moment, where an act would lower it
abbrev pub lowered_moment : ℕ → Act → Option Answer
lowered_moment moment (act.Now now) = answer_if (nat_lt now moment) (answer.Clock moment)
lowered_moment moment _ = None

-- a node to be stopped or bootstrapped that is stopped, or one to be restarted that isn't
abbrev pub wrong_state : (List ℕ → Bool) → Act → Option Answer
wrong_state stopped (act.Stop node) = answer_if (stopped node) (answer.State node)
wrong_state stopped (act.Bootstrap node shard) = answer_if (stopped node) (answer.State node)
wrong_state stopped (act.Restart node pick) = answer_if (not (stopped node)) (answer.State node)
wrong_state stopped _ = None

-- the first refusal that the turns before decide, by the placement that stands, the versions that were printed, the rules and the stopped nodes: out of order, unknown, limit, clock, state
abbrev pub refusal_by : Option Placement → List ℕ → Rules → (List ℕ → Bool) → Act → Option Answer
refusal_by place versions rules stopped a =
    option_or (answer_if (is_out_of_order place rules.spaces a) answer.Order)
    (option_or (option_map (λ name. answer.Unknown name) (missing_name place versions rules.spaces a))
    (option_or (limit_reached place versions rules.spaces a) (option_or (lowered_moment rules.now a) (wrong_state stopped a))))
