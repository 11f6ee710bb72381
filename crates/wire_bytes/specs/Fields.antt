-- A field of a file by its spellings: what stands at an offset of some bytes, and why no spelling does.
use Rattle.std.specs.Prelude.{◌≡◌, ℕ, suc, ◌+◌, ◌-◌, ◌<◌, ◌≤◌, List, ◌∷◌, ◌++◌, length, take, drop}
use Rattle.wire_bytes.specs.declared.wire_err.WireErr.{WireErr}
use Rattle.wire_bytes.specs.declared.wire_err.WireErr.TheVariants as errors

-- these bytes stand from the one offset to the other
pub record Stands (field bytes : List ℕ) (at next : ℕ) : Type 0 where
  pub split : drop at bytes ≡ field ++ drop next bytes
  pub ends : next ≡ at + length field
  pub within : next ≤ length bytes

-- some spelling begins with these bytes
pub record Begins (Field : List ℕ → Type 0) (bytes : List ℕ) : Type 0 where
  pub rest : List ℕ
  pub whole : Field (bytes ++ rest)

-- some spelling begins with these bytes, and has more
pub record GoesOn (Field : List ℕ → Type 0) (bytes : List ℕ) : Type 0 where
  pub next : ℕ
  pub rest : List ℕ
  pub whole : Field (bytes ++ next ∷ rest)

-- some spelling goes on after the first n bytes, and none with the byte there
pub record Misfits (Field : List ℕ → Type 0) (bytes : List ℕ) (n : ℕ) : Type 0 where
  pub within : n < length bytes
  pub fits : GoesOn Field (take n bytes)
  pub none : ¬ (Begins Field (take (suc n) bytes))

-- why no spelling of the field stands at the offset: the bytes end within one, or none has this byte there
abbrev pub IsFault : (List ℕ → Type 0) → List ℕ → ℕ → WireErr → Type 0
IsFault Field bytes at errors.Short = GoesOn Field (drop at bytes)
IsFault Field bytes at (errors.Bad offset) = (at ≤ offset) × Misfits Field (drop at bytes) (offset - at)

-- with some bytes more
pub record Extends (old new : List ℕ) : Type 0 where
  pub more : List ℕ
  pub is : new ≡ old ++ more

-- The bytes have not this form, by this offset: some bytes of the form begin with those before it, and none go on with the byte there, or the bytes end there.
pub record StopsAt (Form : List ℕ → Type 0) (bytes : List ℕ) (at : ℕ) : Type 0 where
  pub inside : at ≤ length bytes
  pub begins : Begins Form (take at bytes)
  pub stops : at < length bytes → ¬ (Begins Form (take (suc at) bytes))
  pub none : ¬ (Form bytes)
