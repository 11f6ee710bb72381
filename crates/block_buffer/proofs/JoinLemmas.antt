-- Joining points one after the other.
use Rattle.std.proofs.Common.{◌≡◌, ℕ, ◌+◌, ◌<◌, ℤ, List, ◌++◌, take, drop, map, length, get_or, ap, sym, ◌∙◌}
use Rattle.std.proofs.lemmas.List.{take_more, map_push, map-append, take-append-drop}
use Rattle.std.proofs.lemmas.List.Sums.{fold_push}
use Rattle.m3_model.specs.declared.point.Point.{Point}
use Rattle.m3_model.specs.Contents.{Contents, raised}
use Rattle.m3_model.specs.declared.point.Series.{Series}
use Rattle.block_buffer.specs.Joins.{joined, points_of_series}
use Rattle.block_buffer.specs.Taken.{settled_at, settled_with}

abbrev pub timed_point : ℕ → List ℕ → ℕ × ℤ → Point
timed_point ns id x = record { ns = ns; id = id; t = x.0; v = x.1 }

-- one more pair of a series
pub joined_more : (c : Contents) (ns : ℕ) (id : List ℕ) (pairs : List (ℕ × ℤ)) (i : ℕ) (d : ℕ × ℤ) → i < length pairs
    → joined c (map (timed_point ns id) (take (i + 1) pairs)) ≡ raised (joined c (map (timed_point ns id) (take i pairs))) (timed_point ns id (get_or pairs i d))
joined_more c ns id pairs i d low =
    ap (λ (ps : List (ℕ × ℤ)). joined c (map (timed_point ns id) ps)) (take_more pairs i d low)
    ∙ ap (λ (ps : List Point). joined c ps) (map_push (timed_point ns id) (take i pairs) (get_or pairs i d))
    ∙ fold_push raised c (map (timed_point ns id) (take i pairs)) (timed_point ns id (get_or pairs i d))

-- one more pair of a series was settled
pub settled_more : (c : Contents) (ns : ℕ) (id : List ℕ) (pairs : List (ℕ × ℤ)) (i : ℕ) (d : ℕ × ℤ) → i < length pairs
    → settled_with c (map (timed_point ns id) (take (i + 1) pairs)) ≡ settled_at (settled_with c (map (timed_point ns id) (take i pairs))) (timed_point ns id (get_or pairs i d))
settled_more c ns id pairs i d low =
    ap (λ (ps : List (ℕ × ℤ)). settled_with c (map (timed_point ns id) ps)) (take_more pairs i d low)
    ∙ ap (λ (ps : List Point). settled_with c ps) (map_push (timed_point ns id) (take i pairs) (get_or pairs i d))
    ∙ fold_push settled_at c (map (timed_point ns id) (take i pairs)) (timed_point ns id (get_or pairs i d))

-- the points of the first pairs of a series are the first ones of its points
pub first_points : (ns : ℕ) (s : Series) (i : ℕ) → points_of_series ns s ≡ map (timed_point ns s.id) (take i s.points) ++ map (timed_point ns s.id) (drop i s.points)
first_points ns s i =
    ap (λ (ps : List (ℕ × ℤ)). map (timed_point ns s.id) ps) (sym (take-append-drop i s.points)) ∙ map-append (timed_point ns s.id) (take i s.points) (drop i s.points)
