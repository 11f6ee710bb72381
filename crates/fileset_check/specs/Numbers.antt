-- Numbers that stand one after another, each within its bounds.
use Rattle.std.specs.Prelude.{◌≡◌, ⊤, ℕ, ◌-◌, ◌≤◌, ◌<◌, ◌^◌, List, [], ◌∷◌, ◌++◌}
use Rattle.fileset_read.specs.m3_model.declared.limits.TheConstants.{DURATION_END}
use Rattle.fileset_read.specs.wire_bytes.Numbers.{ANumber}
use Rattle.fileset_read.specs.wire_bytes.declared.wire_err.WireErr.{WireErr}
use Rattle.fileset_read.specs.wire_bytes.declared.wire_err.WireErr.TheVariants as errors
use Rattle.fileset_check.specs.declared.numbers.Field.{Field}

-- some number has these bounds, and each that has them fits its bytes
pub record IsField (f : Field) : Type 0 where
  pub least : 1 ≤ f.width
  pub most : f.width ≤ 8
  pub order : f.low ≤ f.high
  pub fits : f.high < 256 ^ f.width

abbrev pub AreFields : List Field → Type 0
AreFields [] = ⊤
AreFields (f ∷ fs) = IsField f × AreFields fs

-- a number of this field, and then bytes of the later form
pub record NumberThen (f : Field) (Later : List ℕ → Type 0) (bytes : List ℕ) : Type 0 where
  pub front : List ℕ
  pub rest : List ℕ
  pub number : ANumber f.width f.low f.high front
  pub later : Later rest
  pub joined : bytes ≡ front ++ rest

-- a number of each field in turn, and nothing else
abbrev pub AreNumbers : List Field → List ℕ → Type 0
AreNumbers [] bytes = bytes ≡ []
AreNumbers (f ∷ fs) bytes = NumberThen f (AreNumbers fs) bytes

-- the offset of a fault in so many bytes
abbrev pub offset_of : ℕ → WireErr → ℕ
offset_of long errors.Short = long
offset_of long (errors.Bad at) = at

-- the fields of the info of a volume of this name
abbrev pub info_fields : ℕ → ℕ → ℕ → List Field
info_fields ns start number =
    record { width = 1; low = 1; high = 1 } ∷ record { width = 1; low = ns; high = ns } ∷ record { width = 8; low = start; high = start } ∷ record { width = 8; low = 1; high = DURATION_END - 1 }
    ∷ record { width = 8; low = number; high = number } ∷ record { width = 4; low = 1; high = 2 ^ 32 - 1 } ∷ record { width = 8; low = 0; high = 2 ^ 64 - 1 } ∷ []
