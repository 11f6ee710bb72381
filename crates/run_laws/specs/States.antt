-- States that a run may be said to leave.
use Rattle.std.specs.Prelude.{ℕ, List, [], ◌∷◌, ◌++◌, None, map, codes}
use Rattle.m3_model.specs.declared.act.Act.TheVariants as act
use Rattle.m3_model.specs.declared.placement.Placement.{Placement}
use Rattle.m3_model.specs.declared.rules.MetaState.{MetaState}
use Rattle.m3_model.specs.declared.rules.Space.{Space}
use Rattle.m3_model.specs.declared.turn.Request.{Request}
use Rattle.m3_model.specs.declared.turn.Request.TheVariants as request
use Rattle.m3_model.specs.declared.turn.Turn.{Turn}
use Rattle.model_laws.specs.Building.{eight_names, namespace_of, place, space}
use Rattle.model_laws.specs.Messages.{stopped}
use Rattle.join_laws.specs.Replaced.{moving_to_d}

-- the three nodes' cluster with the namespace `m`, at this moment, with this seed
abbrev pub cluster_at : ℕ → ℕ → MetaState
cluster_at now seed = record { rules = record { now = now; spaces = space ∷ [] }; seed = seed; place = place }

-- the same cluster at this moment with these namespaces
abbrev pub with_spaces : ℕ → List Space → MetaState
with_spaces now spaces = record { rules = record { now = now; spaces = spaces }; seed = 0; place = place }

-- with no namespace, at moment 0, and this placement
abbrev pub in_place : Placement → MetaState
in_place next = record { rules = record { now = 0; spaces = [] }; seed = 0; place = next }

-- a namespace of this name, which is else as `m`
abbrev pub space_named : List ℕ → Space
space_named name = record { name = name; block = 200; past = 100; future = 50; retention = 500 }

-- the cluster with nine
abbrev pub with_nine : MetaState
with_nine = with_spaces 0 (map space_named eight_names ++ space_named (codes "m9") ∷ [])

-- a request to go to this moment
abbrev pub go_to : ℕ → Request
go_to now = request.One (act.Now now)

-- a request for a namespace of this name
abbrev pub name_it : List ℕ → Request
name_it name = request.One (namespace_of name)

-- d is to join, and is stopped
abbrev pub stopped_d : List Turn
stopped_d = moving_to_d ++ stopped (codes "d") ∷ []

-- a bootstrap of d
abbrev pub boot_d : Request
boot_d = request.One (act.Bootstrap (codes "d") None)
