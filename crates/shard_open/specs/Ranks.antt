-- Points as keys with values, of which a set has each once and in order.
use Rattle.std.specs.Prelude.{ℤ, List, ◌↔◌}
use Rattle.std.specs.Ordering.{int_cmp, ordering_then}
use Rattle.std.specs.declared.cmp.Ordering.{Ordering}
use Rattle.m3_model.specs.Contents.{key_of, point_at}
use Rattle.m3_model.specs.Keys.{key_cmp}
use Rattle.m3_model.specs.Members.{IsIn}
use Rattle.m3_model.specs.declared.point.Key.{Key}
use Rattle.m3_model.specs.declared.point.Point.{Point}

abbrev pub ranked : Point → Key × ℤ
ranked p = (key_of p, p.v)

abbrev pub unranked : Key × ℤ → Point
unranked r = point_at r.0 r.1

-- by key, and then by value
abbrev pub rank_cmp : Key × ℤ → Key × ℤ → Ordering
rank_cmp a b = ordering_then (key_cmp a.0 b.0) (int_cmp a.1 b.1)

-- these are the keys and values of these points, and no others
pub record AreRanksOf (points : List Point) (ranks : List (Key × ℤ)) : Type 0 where
  pub each : (p : Point) → IsIn ranks (ranked p) ↔ IsIn points p
