-- What is so of the pages of one list.
use Rattle.std.specs.Prelude.{◌≡◌, ◌≤◌, ℕ, List, length, Option, None, OnSome}
use Rattle.std.specs.List.{flat_map}
use Rattle.m3_model.specs.Ascends.{Ascends}
use Rattle.m3_model.specs.declared.point.Key.{Key}
use Rattle.m3_model.specs.declared.point.Page.{Page}
use Rattle.m3_model.specs.declared.point.Point.{Point}
use Rattle.page_cut.specs.Pages.{IsBefore, page_of, ArePagesFrom}

-- the pages' points, one page after the other, are the list
abbrev pub HoldWhole : Type 0
HoldWhole =
    (points : List Point) (limit : ℕ) (pages : List Page) → 1 ≤ limit → Ascends IsBefore points → ArePagesFrom points limit None pages → flat_map (λ page. page.points) pages ≡ points

-- each list has such pages
abbrev pub TheyEnd : Type 0
TheyEnd = (points : List Point) (limit : ℕ) → 1 ≤ limit → Ascends IsBefore points → ((pages : List Page) × ArePagesFrom points limit None pages)

-- a page has at most so many points
abbrev pub LimitsPages : Type 0
LimitsPages = (points : List Point) (limit : ℕ) (after : Option Key) → length (page_of points limit after).points ≤ limit

-- one that goes on has as many
abbrev pub FillsPages : Type 0
FillsPages = (points : List Point) (limit : ℕ) (after : Option Key) → OnSome (page_of points limit after).next (length (page_of points limit after).points ≡ limit)
