-- What is read of a volume for a read.
use Rattle.std.specs.Prelude.{◌≡◌, ℕ, ◌≤◌, List, [], ◌∷◌, length, Option, Some, None}
use Rattle.m3_model.specs.declared.point.Pick.{Pick}
use Rattle.m3_model.specs.declared.point.Pick.TheVariants as pick
use Rattle.m3_model.specs.declared.point.Series.{Series}
use Rattle.fileset_check.specs.wire_bytes.Volumes.{VolumeHead, IsVolume}
use Rattle.fileset_check.specs.fileset_read.Rows.{IsSeriesOf}

abbrev pub one_or_none : Option Series → List Series
one_or_none None = []
one_or_none (Some s) = s ∷ []

-- of these series the one with this identifier, if there is one
pub record IsOneOf (id : List ℕ) (rows found : List Series) : Type 0 where
  pub one : Option Series
  pub is : IsSeriesOf id rows one
  pub found_is : found ≡ one_or_none one

-- of a volume's series the one with the identifier that is asked for, or all where matchers ask
abbrev pub AreCandidates : Pick → List Series → List Series → Type 0
AreCandidates (pick.One ns id) rows found = IsOneOf id rows found
AreCandidates (pick.Match ns wanted) rows found = found ≡ rows

-- there may be a volume of this head with these series, or there are none
abbrev pub MayStand : VolumeHead → List Series → Type 0
MayStand v found = 1 ≤ length found → IsVolume v found
