-- Points up to a last one, in the order of keys.
use Rattle.std.specs.Prelude.{List, Option, Some, None, Bool, true, not}
use Rattle.std.specs.List.{filter}
use Rattle.std.specs.Ordering.{is_lt}
use Rattle.m3_model.specs.Contents.{key_of}
use Rattle.m3_model.specs.Keys.{key_cmp}
use Rattle.m3_model.specs.declared.point.Key.{Key}
use Rattle.m3_model.specs.declared.point.Point.{Point}

-- whether the key isn't above that of the last point, where there is one
abbrev pub is_up_to : Option Point → Key → Bool
is_up_to None k = true
is_up_to (Some last) k = not (is_lt (key_cmp (key_of last) k))

-- the points that aren't above the last one
abbrev pub points_up_to : Option Point → List Point → List Point
points_up_to last points = filter (λ p. is_up_to last (key_of p)) points
