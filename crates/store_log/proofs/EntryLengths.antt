-- How long an entry of points is.
use Rattle.std.proofs.Common.{◌≡◌, ℕ, ◌+◌, ◌*◌, ◌≤◌, List, [], ◌∷◌, ◌++◌, length, arith, length-append}
use Rattle.std.specs.Int.{w64, cast_unsigned}
use Rattle.byteorder.specs.Endian.{big_bytes}
use Rattle.m3_model.specs.declared.limits.TheConstants.{SEGMENT_BYTES}
use Rattle.m3_model.specs.declared.point.Point.{Point}
use Rattle.joined_reads.specs.listed_volumes.wire_bytes.Entries.{AllBounded, ArePoints, IsBounded, bytes_of_point, points_bytes, points_entry}

-- a point has at most 531 bytes
point_short : (p : Point) → IsBounded p → length (bytes_of_point p) ≤ 531
point_short p bounded =
    let behind = length-append p.id (big_bytes 8 p.t ++ big_bytes 8 (cast_unsigned w64 p.v)) in
    let most = bounded.most in
    omega (arith, behind, most)

points_short : (ps : List Point) → AllBounded ps → length (points_bytes ps) ≤ 531 * length ps
points_short [] all = omega arith
points_short (p ∷ ps) all =
    let both = length-append (bytes_of_point p) (points_bytes ps) in
    let one = point_short p all.0 in
    let later = points_short ps all.1 in
    omega (arith, both, one, later)

-- so an entry has at most 33,987, which an empty segment has room for
pub entry_short : (ps : List Point) → ArePoints ps → length (points_entry ps) ≤ 33987
entry_short ps are =
    let points = points_short ps are.bounded in
    let most = are.most in
    omega (arith, points, most)

pub entry_fits : (ps : List Point) → ArePoints ps → 5 + length (points_entry ps) ≤ SEGMENT_BYTES
entry_fits ps are = let short = entry_short ps are in omega (arith, short)
