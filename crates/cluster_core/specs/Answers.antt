-- What a replica may show of its points. Each form says of the answer itself what it is to be the answer of some content
-- that shows the replica.
use Rattle.std.specs.Prelude.{◌≡◌, ◌<◌, ◌≤◌, ◌+◌, ℕ, ⊤, List, [], ◌∷◌, length, Option, Some, None, MatchOption}
use Rattle.m3_model.specs.declared.limits.TheConstants.{MOST_PAGE_POINTS}
use Rattle.std.specs.List.{All, Any}
use Rattle.std.specs.declared.cmp.Ordering.TheVariants.{Less}
use Rattle.m3_model.specs.Ascends.{Ascends}
use Rattle.m3_model.specs.Contents.{key_of}
use Rattle.m3_model.specs.Keys.{key_cmp}
use Rattle.m3_model.specs.Members.{IsIn}
use Rattle.m3_model.specs.Reads.{Matches, InRange, points_in, space_picked, Covers, IsOrdered}
use Rattle.m3_model.specs.Rules.{HasExpired}
use Rattle.m3_model.specs.Tags.{HasTags, MatcherHolds}
use Rattle.m3_model.specs.declared.point.Key.{Key}
use Rattle.m3_model.specs.declared.point.Matcher.{Matcher}
use Rattle.m3_model.specs.declared.point.Page.{Page}
use Rattle.m3_model.specs.declared.point.Pick.{Pick}
use Rattle.m3_model.specs.declared.point.Point.{Point}
use Rattle.m3_model.specs.declared.point.Series.{Series}
use Rattle.m3_model.specs.declared.rules.Rules.{Rules}
use Rattle.cluster_core.specs.Lists.{At}
use Rattle.cluster_core.specs.Replicas.{IsGone}
use Rattle.cluster_core.specs.declared.event.StepCall.{StepCall}
use Rattle.cluster_core.specs.declared.event.StepCall.TheVariants as call
use Rattle.cluster_core.specs.declared.replica_state.ReplicaState.{ReplicaState}

-- ---- reads

-- the matcher holds of the tags that the identifier has
unfoldable pub HoldsOf : List ℕ → Matcher → Type 0
HoldsOf id m = (tags : List (List ℕ × List ℕ)) → HasTags id tags → MatcherHolds tags m

-- a point that a read asks for, and that hasn't expired
pub record IsWantedUnexpired (rules : Rules) (pick : Pick) (from to : ℕ) (p : Point) : Type 0 where
  pub matches : Matches pick p
  pub in_range : InRange from to p
  pub unexpired : ¬ HasExpired rules p

-- the series have only wanted points that are sure, and cover each such point that isn't gone
pub record IsFoundBy (r : ReplicaState) (rules : Rules) (pick : Pick) (from to : ℕ) (series : List Series) : Type 0 where
  pub nothing_else : All (λ p. IsIn r.sure p × IsWantedUnexpired rules pick from to p) (points_in (space_picked pick) series)
  pub all_there : All (λ p. ¬ IsGone r p → IsWantedUnexpired rules pick from to p → Covers (points_in (space_picked pick) series) p) r.sure
  pub ordered : IsOrdered series

-- the series are the join of the answers of several replicas
pub record IsJoin (ns : ℕ) (answers : List (List Series)) (series : List Series) : Type 0 where
  pub nothing_else : All (λ p. Any (λ answer. IsIn (points_in ns answer) p) answers) (points_in ns series)
  pub all_there : All (λ answer. All (λ p. Covers (points_in ns series) p) (points_in ns answer)) answers
  pub ordered : IsOrdered series

-- ---- pages

-- how many points a page has where more follow
abbrev pub page_size : ℕ
page_size = MOST_PAGE_POINTS

abbrev pub IsKeyBelow : Key → Key → Type 0
IsKeyBelow a b = key_cmp a b ≡ Less

-- above the key, where there is one
abbrev pub IsPastKey : Option Key → Key → Type 0
IsPastKey None k = ⊤
IsPastKey (Some a) k = IsKeyBelow a k

-- not above the key, where there is one
abbrev pub IsUpTo : Option Key → Key → Type 0
IsUpTo None k = ⊤
IsUpTo (Some a) k = ¬ IsKeyBelow a k

-- the points of a block: `start <= t < start + size`
pub record IsInBlock (ns start size : ℕ) (p : Point) : Type 0 where
  pub space : p.ns ≡ ns
  pub low : start ≤ p.t
  pub high : p.t < start + size

-- a point that the call for a page asks for: above its key, and for Block within the block
abbrev pub AsksFor : StepCall → Point → Type 0
AsksFor (call.Page from) p = IsPastKey from (key_of p)
AsksFor (call.Block ns start size from) p = IsPastKey from (key_of p) × IsInBlock ns start size p
AsksFor _ p = ⊥

-- a page goes on from its last key where it is full and a sure point that is asked for follows
pub record GoesOn (r : ReplicaState) (c : StepCall) (page : Page) (next : Key) : Type 0 where
  pub full : length page.points ≡ page_size
  pub last : Point
  pub at_end : At page.points 63 last
  pub next_is : key_of last ≡ next
  pub more : Any (λ p. AsksFor c p × IsKeyBelow next (key_of p)) r.sure

-- the page has the first points that are asked for: only sure ones, and up to where it goes on it covers all that aren't gone
pub record IsPage (r : ReplicaState) (c : StepCall) (page : Page) : Type 0 where
  pub nothing_else : All (λ p. IsIn r.sure p × AsksFor c p) page.points
  pub all_there : All (λ p. ¬ IsGone r p → AsksFor c p → IsUpTo page.next (key_of p) → Covers page.points p) r.sure
  pub ascending : Ascends (λ a b. IsKeyBelow (key_of a) (key_of b)) page.points
  pub few : length page.points ≤ page_size
  pub next : MatchOption page.next ⊤ (λ k. GoesOn r c page k)

-- ---- covers

-- a page with the key with which it was asked for
abbrev pub PageAsked : Type 0
PageAsked = Option Key × Page

-- each page was asked for with the key from which the one before goes on, and just the last one goes on from none
abbrev pub IsCoverFrom : Option Key → List PageAsked → Type 0
IsCoverFrom from [] = ⊥
IsCoverFrom from (p ∷ pages) = (p.0 ≡ from) × MatchOption p.1.next (pages ≡ []) (λ k. IsCoverFrom (Some k) pages)

-- the pages cover a replica: the first was asked for without a key
abbrev pub IsCover : List PageAsked → Type 0
IsCover pages = IsCoverFrom None pages
