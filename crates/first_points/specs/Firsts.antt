-- The first points of a content above a key, and the page of them.
use Rattle.std.specs.Prelude.{◌≡◌, ℕ, ℤ, ◌≤◌, ◌<◌, ⊤, List, [], ◌∷◌, length, Option, Some, None, MatchOption}
use Rattle.std.specs.FinMap.{get}
use Rattle.std.specs.declared.cmp.Ordering.TheVariants.{Less}
use Rattle.m3_model.specs.declared.limits.TheConstants.{MOST_PAGE_POINTS}
use Rattle.m3_model.specs.Answers.{HasPoint}
use Rattle.m3_model.specs.Contents.{Contents, key_of}
use Rattle.m3_model.specs.Keys.{key_cmp}
use Rattle.m3_model.specs.declared.point.Key.{Key}
use Rattle.m3_model.specs.declared.point.Page.{Page}
use Rattle.m3_model.specs.declared.point.Point.{Point}

-- above the key, where there is one
abbrev pub IsPast : Option Key → Key → Type 0
IsPast None k = ⊤
IsPast (Some a) k = key_cmp a k ≡ Less

-- no point stands above the key
abbrev pub HasNonePast : Contents → Option Key → Type 0
HasNonePast c after = (k : Key) (v : ℤ) → get c k ≡ Some v → IsPast after k → ⊥

-- the point is the first one that stands above the key
pub record IsNext (c : Contents) (after : Option Key) (p : Point) : Type 0 where
  pub stands : HasPoint c p
  pub past : IsPast after (key_of p)
  pub first : (k : Key) (v : ℤ) → get c k ≡ Some v → IsPast after k → key_cmp k (key_of p) ≡ Less → ⊥

-- the first point is the first one above the key, and each further one the first above the one before
abbrev pub AreInTurn : Contents → Option Key → List Point → Type 0
AreInTurn c after [] = ⊤
AreInTurn c after (p ∷ ps) = IsNext c after p × AreInTurn c (Some (key_of p)) ps

-- the key of the last point; without points the one above which they begin
abbrev pub last_key : Option Key → List Point → Option Key
last_key after [] = after
last_key after (p ∷ ps) = last_key (Some (key_of p)) ps

-- the first points of the content above the key: so many, or all
pub record AreFirst (c : Contents) (after : Option Key) (limit : ℕ) (points : List Point) : Type 0 where
  pub in_turn : AreInTurn c after points
  pub few : length points ≤ limit
  pub all : length points < limit → HasNonePast c (last_key after points)

-- the page goes on from its last key, above which a point stands
pub record GoesOnFrom (c : Contents) (after : Option Key) (page : Page) (k : Key) : Type 0 where
  pub last : last_key after page.points ≡ Some k
  pub more : Point
  pub follows : IsNext c (Some k) more

-- the page of the first points above the key: it goes on exactly where a point stands above its last one
pub record IsPageOf (c : Contents) (after : Option Key) (page : Page) : Type 0 where
  pub first : AreFirst c after MOST_PAGE_POINTS page.points
  pub next : MatchOption page.next (HasNonePast c (last_key after page.points)) (GoesOnFrom c after page)
