-- What nodes are heard to say, counted: those that did as the call asks, and the others with their reasons.
use Rattle.std.specs.Prelude.{◌≡◌, ◌<◌, ℕ, List, map, filter, length, Option, is_none, IsPermutation}
use Rattle.std.specs.List.{filter_map}
use Rattle.std.specs.Option.{option_map}
use Rattle.std.specs.Result.{result_err}
use Rattle.m3_model.specs.Ascends.{Ascends}
use Rattle.m3_model.specs.declared.placement.Placement.{Placement}
use Rattle.m3_model.specs.declared.reason.Reason.{Reason}
use Rattle.replica_calls.specs.placement_core.Lawful.{IsLawful}
use Rattle.replica_calls.specs.placement_core.NodeNames.{IsNamedBelow}
use Rattle.replica_calls.specs.placement_core.Shards.{shard_at, counted}
use Rattle.session_net.specs.Messages.{Heard}
use Rattle.session_net.specs.declared.session_err.SessionErr.{SessionErr}
use Rattle.session_net.specs.declared.session_err.SessionErr.TheVariants as err

-- the nodes whose answers count for the shard, each once; in a lawful placement they ascend by name
pub record AreCountedOnce (place : Placement) (shard : ℕ) (nodes : List ℕ) : Type 0 where
  pub same : IsPermutation (counted (shard_at place shard)) nodes
  pub by_name : IsLawful place → Ascends (IsNamedBelow place) nodes

-- A node with the reason for which it didn't answer, or with none where it did.
abbrev pub NodeOutcome : Type 0
NodeOutcome = ℕ × Option Reason

-- what is counted of what a node said
abbrev pub told_of : {X : Type 0} → Heard X → NodeOutcome
told_of x = (x.0, result_err x.1)

-- the nodes that answered, in their order
abbrev pub answering : List NodeOutcome → List ℕ
answering told = map (λ x. x.0) (filter (λ x. is_none x.1) told)

-- the others with their reasons, in their order
abbrev pub refusing : List NodeOutcome → List (ℕ × Reason)
refusing told = filter_map (λ x. option_map (λ why. (x.0, why)) x.1) told

-- fewer than due of the nodes that were asked of the shard answered, and the others have these reasons
pub record IsTooFew (due asked : ℕ) (told : List NodeOutcome) (shard needed got : ℕ) (reasons : List (ℕ × Reason)) : Type 0 where
  pub shard_is : shard ≡ asked
  pub needed_is : needed ≡ due
  pub got_is : got ≡ length (answering told)
  pub fewer : got < needed
  pub reasons_are : reasons ≡ refusing told

-- the same, by the nodes that answered and the others with their reasons
abbrev pub IsShortOf : ℕ → ℕ → List ℕ → List (ℕ × Reason) → SessionErr → Type 0
IsShortOf due asked answered others (err.Consistency shard needed got reasons) = (shard ≡ asked) × (needed ≡ due) × (got ≡ length answered) × (got < needed) × (reasons ≡ others)
IsShortOf due asked answered others _ = ⊥
