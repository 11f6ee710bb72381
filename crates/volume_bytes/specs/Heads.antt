-- Heads of volumes that are written.
use Rattle.std.specs.Prelude.{ℕ, ◌+◌, ◌*◌, ◌<◌, ◌≤◌, ◌^◌, List, length, All, FitsSigned}
use Rattle.std.specs.Int.{w64}
use Rattle.wire_bytes.specs.m3_model.Members.{IsIn}
use Rattle.wire_bytes.specs.m3_model.declared.limits.TheConstants.{MOST_ID_BYTES}
use Rattle.wire_bytes.specs.m3_model.declared.point.Series.{Series}
use Rattle.wire_bytes.specs.Volumes.{VolumeHead}
use Rattle.volume_bytes.specs.declared.heads.Head.{Head}

-- the head as a volume of format 1 has it
abbrev pub head_of : Head → VolumeHead
head_of head = record { format = 1; ns = head.ns; start = head.start; size = head.size; number = head.number }

-- each count and each value of the series fits its field
pub record FitsFields (s : Series) : Type 0 where
  pub id : length s.id ≤ MOST_ID_BYTES
  pub long : 6 + length s.id + 16 * length s.points < 2 ^ 32
  pub values : All (λ x. FitsSigned w64 x.1) s.points

abbrev pub AllFit : List Series → Type 0
AllFit rows = (s : Series) → IsIn rows s → FitsFields s
