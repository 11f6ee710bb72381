-- Points that are to be joined, with their series.
use Rattle.std.specs.Prelude.{◌≡◌, List, map, IsSome}
use Rattle.std.specs.FinMap.{get}
use Rattle.m3_model.specs.Contents.{Contents, key_of}
use Rattle.m3_model.specs.Members.{IsIn}
use Rattle.m3_model.specs.declared.point.Point.{Point}
use Rattle.series_slots.specs.SeriesKeys.{series_of, key_at}
use Rattle.held_pages.specs.declared.rising.Rise.{Rise}

abbrev pub points_of : List Rise → List Point
points_of rises = map (λ r. r.point) rises

-- the series of each is that of its point
abbrev pub AreOfSeries : List Rise → Type 0
AreOfSeries rises = (r : Rise) → IsIn rises r → r.series ≡ series_of (key_of r.point)

-- a point stands at the key of each
abbrev pub AllStand : Contents → List Rise → Type 0
AllStand c rises = (r : Rise) → IsIn rises r → IsSome (get c (key_at r.series r.point.t))
