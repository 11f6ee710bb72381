-- What a moment and the namespaces say of a point; M3DB's page "Namespace Configuration".
use Rattle.std.specs.Prelude.{◌≡◌, ℕ, suc, ◌+◌, ◌≤◌, ◌<◌, List, [], ◌∷◌, Option, Some, None, option_map, if◌then◌else◌, nat_eq, slice_get}
use Rattle.std.specs.Cmp.Lexicographic.{pointwise}
use Rattle.m3_model.specs.declared.point.Point.{Point}
use Rattle.m3_model.specs.declared.rules.Space.{Space}
use Rattle.m3_model.specs.declared.rules.Rules.{Rules}

-- the position of a namespace among the namespaces, by its name
abbrev pub namespace_position : List ℕ → List Space → Option ℕ
namespace_position name [] = None
namespace_position name (space ∷ spaces) = if pointwise nat_eq name space.name then Some 0 else option_map suc (namespace_position name spaces)

-- the point's namespace is there, and a write of it is taken at this moment
pub record InWindow (rules : Rules) (point : Point) : Type 0 where
  pub space : Space
  pub stands : slice_get rules.spaces point.ns ≡ Some space
  pub not_past : rules.now < point.t + space.past
  pub not_future : point.t < rules.now + space.future

-- the point's namespace is there, and the point's retention has ended
pub record HasExpired (rules : Rules) (point : Point) : Type 0 where
  pub space : Space
  pub stands : slice_get rules.spaces point.ns ≡ Some space
  pub ended : point.t + space.retention ≤ rules.now

-- the point's namespace is there, and the point is still kept
pub record IsLive (rules : Rules) (point : Point) : Type 0 where
  pub space : Space
  pub stands : slice_get rules.spaces point.ns ≡ Some space
  pub kept : rules.now < point.t + space.retention

-- the point's namespace is there, and a write of it comes too late at this moment
pub record IsPast (rules : Rules) (point : Point) : Type 0 where
  pub space : Space
  pub stands : slice_get rules.spaces point.ns ≡ Some space
  pub too_old : point.t + space.past ≤ rules.now

-- the point's namespace is there, and a write of it comes too early at this moment
pub record IsFuture (rules : Rules) (point : Point) : Type 0 where
  pub space : Space
  pub stands : slice_get rules.spaces point.ns ≡ Some space
  pub too_new : rules.now + space.future ≤ point.t
