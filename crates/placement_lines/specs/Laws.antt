-- What is so of each line that makes a placement, as laws that are proved of the definitions.
use Rattle.std.specs.Prelude.{◌≡◌, ℕ, List, Some, None, true}
use Rattle.m3_model.specs.Limits.{IsInit, MeetsLimits}
use Rattle.m3_model.specs.declared.act.Act.{Act}
use Rattle.m3_model.specs.declared.act.Act.TheVariants as act
use Rattle.m3_model.specs.declared.answer.Answer.{Answer}
use Rattle.m3_model.specs.declared.placement.Placement.{Placement}
use Rattle.placement_core.specs.Lawful.{IsLawful}
use Rattle.placement_acts.specs.Acts.{IsRefused, LeadsTo, is_step_act}

-- a step that is refused leads to no placement
abbrev pub RefusedStepsLeadNowhere : Type 0
RefusedStepsLeadNowhere = (place : Placement) (kept : ℕ) (a : Act) (next : Placement) (b : Answer) → IsLawful place → is_step_act a ≡ true → LeadsTo (Some place) kept a next → ¬ IsRefused (Some place) kept a b

-- it is refused with one answer
abbrev pub StepsHaveOneRefusal : Type 0
StepsHaveOneRefusal = (place : Placement) (kept : ℕ) (a : Act) (b c : Answer) → IsLawful place → is_step_act a ≡ true → IsRefused (Some place) kept a b → IsRefused (Some place) kept a c → b ≡ c

-- an `init` that is refused leads to no placement
abbrev pub RefusedInitsLeadNowhere : Type 0
RefusedInitsLeadNowhere =
    (rf shards seed : ℕ) (nodes : List (List ℕ × List ℕ)) (kept : ℕ) (next : Placement) (b : Answer) → IsInit rf shards seed nodes → LeadsTo None kept (act.Init rf shards seed nodes) next → ¬ IsRefused None kept (act.Init rf shards seed nodes) b

-- it is refused with one answer
abbrev pub InitsHaveOneRefusal : Type 0
InitsHaveOneRefusal = (rf shards seed : ℕ) (nodes : List (List ℕ × List ℕ)) (kept : ℕ) (b c : Answer) → IsRefused None kept (act.Init rf shards seed nodes) b → IsRefused None kept (act.Init rf shards seed nodes) c → b ≡ c

-- a step leads to one placement
abbrev pub StepsLeadToOne : Type 0
StepsLeadToOne = (place : Placement) (kept : ℕ) (a : Act) (one other : Placement) → IsLawful place → is_step_act a ≡ true → MeetsLimits a → LeadsTo (Some place) kept a one → LeadsTo (Some place) kept a other → one ≡ other

-- an `init` leads to one placement
abbrev pub InitsLeadToOne : Type 0
InitsLeadToOne =
    (rf shards seed : ℕ) (nodes : List (List ℕ × List ℕ)) (kept : ℕ) (one other : Placement) → IsInit rf shards seed nodes
    → LeadsTo None kept (act.Init rf shards seed nodes) one → LeadsTo None kept (act.Init rf shards seed nodes) other → one ≡ other
