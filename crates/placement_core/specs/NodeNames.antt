-- The names of nodes.
use Rattle.std.specs.Prelude.{◌≡◌, ℕ, List, [], Some, Bool, ◌&&◌, nat_eq, slice_get}
use Rattle.std.specs.Option.{option_map_or}
use Rattle.std.specs.List.{list_any}
use Rattle.std.specs.Cmp.Lexicographic.{pointwise}
use Rattle.m3_model.specs.Tags.{IsBelow}
use Rattle.m3_model.specs.declared.placement.Instance.{Instance}
use Rattle.m3_model.specs.declared.placement.Placement.{Placement}

-- the name of the node, empty where there is none
abbrev pub name_of : List Instance → ℕ → List ℕ
name_of instances node = option_map_or (λ instance. instance.name) (slice_get instances node) []

-- a listed node has this name
abbrev pub is_listed : List ℕ → Placement → Bool
is_listed name place = list_any (λ node. node.listed && pointwise nat_eq name node.name) place.instances

-- one node's name is below another's
pub record IsNamedBelow (place : Placement) (a b : ℕ) : Type 0 where
  pub one : Instance
  pub other : Instance
  pub of_one : slice_get place.instances a ≡ Some one
  pub of_other : slice_get place.instances b ≡ Some other
  pub below : IsBelow one.name other.name
