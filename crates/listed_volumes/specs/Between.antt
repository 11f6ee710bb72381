-- From which identifier on a volume's rows have the points above a key, and up to which those up to a last point.
use Rattle.std.specs.Prelude.{ℕ, ◌==◌, if◌then◌else◌, List, [], Option, Some, None}
use Rattle.m3_model.specs.declared.point.Key.{Key}
use Rattle.m3_model.specs.declared.point.Point.{Point}

-- the key's, where it is of the namespace; else the lowest of all
abbrev pub first_id : ℕ → Option Key → List ℕ
first_id ns None = []
first_id ns (Some k) = if k.ns == ns then k.id else []

-- the last point's, where it is of the namespace; else there is none
abbrev pub last_id : ℕ → Option Point → Option (List ℕ)
last_id ns None = None
last_id ns (Some p) = if p.ns == ns then Some p.id else None
