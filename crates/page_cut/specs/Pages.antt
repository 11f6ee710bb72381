-- Pages of a list of points.
use Rattle.std.specs.Prelude.{◌≡◌, ◌-◌, ◌&&◌, ℕ, List, [], ◌∷◌, length, take, Option, Some, None, Bool, true, nat_le, slice_get, if◌then◌else◌, MatchOption}
use Rattle.std.specs.List.{filter}
use Rattle.std.specs.Option.{option_map}
use Rattle.std.specs.Ordering.{is_lt}
use Rattle.std.specs.declared.cmp.Ordering.TheVariants.{Less}
use Rattle.m3_model.specs.Contents.{key_of}
use Rattle.m3_model.specs.Keys.{key_cmp}
use Rattle.m3_model.specs.declared.point.Key.{Key}
use Rattle.m3_model.specs.declared.point.Page.{Page}
use Rattle.m3_model.specs.declared.point.Point.{Point}

-- the one point's key is below the other's
abbrev pub IsBefore : Point → Point → Type 0
IsBefore a b = key_cmp (key_of a) (key_of b) ≡ Less

-- whether the list begins with a point above this one, or is empty
abbrev pub is_below_first : Point → List Point → Bool
is_below_first p [] = true
is_below_first p (q ∷ later) = is_lt (key_cmp (key_of p) (key_of q))

-- whether each point is below the next one
abbrev pub in_order : List Point → Bool
in_order [] = true
in_order (p ∷ later) = is_below_first p later && in_order later

-- whether the point's key is above this one, if there is one
abbrev pub is_past : Option Key → Point → Bool
is_past None p = true
is_past (Some k) p = is_lt (key_cmp k (key_of p))

-- the points above the key
abbrev pub points_past : Option Key → List Point → List Point
points_past after points = filter (is_past after) points

-- the page of these points: all of them, where they aren't too many, and else the first ones, with the key of the last of these
abbrev pub page_from : ℕ → List Point → Page
page_from limit rest =
    if nat_le (length rest) limit then record { points = rest; next = None } else record { points = take limit rest; next = option_map key_of (slice_get rest (limit - 1)) }

-- the page of the first points above the key
abbrev pub page_of : List Point → ℕ → Option Key → Page
page_of points limit after = page_from limit (points_past after points)

-- pages of one list: the first above this key, each further one above the key from which the page before goes on, and just the last one goes on from none
abbrev pub ArePagesFrom : List Point → ℕ → Option Key → List Page → Type 0
ArePagesFrom points limit after [] = ⊥
ArePagesFrom points limit after (page ∷ pages) = (page ≡ page_of points limit after) × MatchOption page.next (pages ≡ []) (λ k. ArePagesFrom points limit (Some k) pages)
