-- Forms of bytes: what may stand where, field by field.
use Rattle.std.specs.Prelude.{◌≡◌, ⊤, ℕ, zero, suc, ◌<◌, ◌≤◌, ◌^◌, List, [], ◌++◌, Bool, IsTrue}
use Rattle.byteorder.specs.Endian.{big_bytes}
use Rattle.wire_bytes.specs.Fields.{Stands, IsFault}
use Rattle.wire_bytes.specs.Numbers.{ANumber}
use Rattle.meta_bytes.specs.declared.read_err.ReadErr.{ReadErr}
use Rattle.meta_bytes.specs.declared.read_err.ReadErr.TheVariants as refused

-- a byte that passes a test; a number in so many bytes, from one to another; one form and then another; a count in a byte, from one to another, and so many of a form
pub data Form : Type 0 where
  Byte : (ℕ → Bool) → Form
  Number : ℕ → ℕ → ℕ → Form
  Both : Form → Form → Form
  Counted : ℕ → ℕ → Form → Form

pub record AByte (passes : ℕ → Bool) (bytes : List ℕ) : Type 0 where
  pub n : ℕ
  pub small : n < 256
  pub passed : IsTrue (passes n)
  pub spelled : bytes ≡ big_bytes 1 n

pub record TwoHave (F G : List ℕ → Type 0) (bytes : List ℕ) : Type 0 where
  pub a : List ℕ
  pub b : List ℕ
  pub first : F a
  pub second : G b
  pub joined : bytes ≡ a ++ b

-- so many, one after another
abbrev pub Times : ℕ → (List ℕ → Type 0) → List ℕ → Type 0
Times zero F bytes = bytes ≡ []
Times (suc n) F bytes = TwoHave F (Times n F) bytes

pub record CountHas (low high : ℕ) (F : List ℕ → Type 0) (bytes : List ℕ) : Type 0 where
  pub n : ℕ
  pub b : List ℕ
  pub least : low ≤ n
  pub most : n ≤ high
  pub items : Times n F b
  pub joined : bytes ≡ big_bytes 1 n ++ b

-- these bytes have the form
abbrev pub HasForm : Form → List ℕ → Type 0
HasForm (Byte passes) bytes = AByte passes bytes
HasForm (Number width low high) bytes = ANumber width low high bytes
HasForm (Both f g) bytes = TwoHave (HasForm f) (HasForm g) bytes
HasForm (Counted low high f) bytes = CountHas low high (HasForm f) bytes

-- a byte passes the test
pub record IsPassed (passes : ℕ → Bool) : Type 0 where
  pub n : ℕ
  pub small : n < 256
  pub passed : IsTrue (passes n)

-- some bytes have the form, and its counts fit a byte
abbrev pub IsFair : Form → Type 0
IsFair (Byte passes) = IsPassed passes
IsFair (Number width low high) = (low ≤ high) × (high < 256 ^ width)
IsFair (Both f g) = IsFair f × IsFair g
IsFair (Counted low high f) = (low ≤ high) × (high < 256) × IsFair f

-- these bytes of the form stand from the one offset to the other
pub record StandsAs (form : Form) (s bytes : List ℕ) (at next : ℕ) : Type 0 where
  pub has : HasForm form s
  pub stands : Stands s bytes at next

-- why none stand there; memory may always be wanted
abbrev pub MayFault : (List ℕ → Type 0) → List ℕ → ℕ → ReadErr → Type 0
MayFault F bytes at refused.Memory = ⊤
MayFault F bytes at (refused.Wire why) = IsFault F bytes at why
