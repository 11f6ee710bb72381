-- What a content answers, and that a replica which it shows may answer so.
use Rattle.std.specs.Prelude.{◌≡◌, ◌⊎◌, ◌≤◌, ℕ, ℤ, List, [], ◌++◌, length, Some, None}
use Rattle.std.specs.FinMap as map
use Rattle.m3_model.specs.Ascends.{Ascends}
use Rattle.m3_model.specs.Contents.{Contents, key_of, point_at}
use Rattle.m3_model.specs.Members.{IsIn}
use Rattle.m3_model.specs.Reads.{points_in, space_picked, IsOrdered}
use Rattle.m3_model.specs.declared.point.Key.{Key}
use Rattle.m3_model.specs.declared.point.Page.{Page}
use Rattle.m3_model.specs.declared.point.Pick.{Pick}
use Rattle.m3_model.specs.declared.point.Point.{Point}
use Rattle.m3_model.specs.declared.point.Series.{Series}
use Rattle.m3_model.specs.declared.rules.Rules.{Rules}
use Rattle.cluster_core.specs.Answers.{IsWantedUnexpired, IsFoundBy, IsKeyBelow, AsksFor, IsPage, page_size}
use Rattle.cluster_core.specs.Lists.{At}
use Rattle.cluster_core.specs.Replicas.{Shows}
use Rattle.cluster_core.specs.declared.event.StepCall.{StepCall}
use Rattle.cluster_core.specs.declared.replica_state.ReplicaState.{ReplicaState}

-- the series are just the wanted points of the content
pub record IsFoundIn (content : Contents) (rules : Rules) (pick : Pick) (from to : ℕ) (series : List Series) : Type 0 where
  pub sound : (p : Point) → IsIn (points_in (space_picked pick) series) p → (map.get content (key_of p) ≡ Some p.v) × IsWantedUnexpired rules pick from to p
  pub all : (k : Key) (v : ℤ) → map.get content k ≡ Some v → IsWantedUnexpired rules pick from to (point_at k v) → IsIn (points_in (space_picked pick) series) (point_at k v)
  pub ordered : IsOrdered series

-- nothing follows the page, or it is full and says so
abbrev pub Says : Page → List Point → Type 0
Says page rest = ((rest ≡ []) × (page.next ≡ None)) ⊎ ((more : Point) × IsIn rest more × (length page.points ≡ page_size) × (last : Point) × At page.points 63 last × (page.next ≡ Some (key_of last)))

-- the page, and what follows it, are in order just the points of the content that the call asks for
pub record IsPageOf (content : Contents) (c : StepCall) (page : Page) : Type 0 where
  pub rest : List Point
  pub sound : (p : Point) → IsIn (page.points ++ rest) p → (map.get content (key_of p) ≡ Some p.v) × AsksFor c p
  pub all : (k : Key) (v : ℤ) → map.get content k ≡ Some v → AsksFor c (point_at k v) → IsIn (page.points ++ rest) (point_at k v)
  pub ascending : Ascends (λ a b. IsKeyBelow (key_of a) (key_of b)) (page.points ++ rest)
  pub few : length page.points ≤ page_size
  pub next : Says page rest

-- what a content that shows the replica answers to a read, the replica may answer
abbrev pub FoundShows : Type 0
FoundShows = (r : ReplicaState) (content : Contents) (rules : Rules) (pick : Pick) (from to : ℕ) (series : List Series) → Shows r content → IsFoundIn content rules pick from to series → IsFoundBy r rules pick from to series

-- and so with pages
abbrev pub PageShows : Type 0
PageShows = (r : ReplicaState) (content : Contents) (c : StepCall) (page : Page) → Shows r content → IsPageOf content c page → IsPage r c page
