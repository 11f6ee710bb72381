-- How many bytes a form has at most.
use Rattle.std.proofs.Common.{ℕ, zero, suc, ◌+◌, ◌≤◌, List, length, ap, ◌∙◌, arith, length-append}
use Rattle.byteorder.specs.Endian.{big_bytes}
use Rattle.wire_bytes.proofs.NumberLemmas.{length_number}
use Rattle.meta_bytes.specs.Forms.{Form, Byte, Number, Both, Counted, Times, HasForm}
use Rattle.meta_bytes.specs.States.{state_form}

-- so many times as many
abbrev most_times : ℕ → ℕ → ℕ
most_times zero m = 0
most_times (suc n) m = m + most_times n m

abbrev most_bytes : Form → ℕ
most_bytes (Byte passes) = 1
most_bytes (Number width low high) = width
most_bytes (Both f g) = most_bytes f + most_bytes g
most_bytes (Counted low high f) = 1 + most_times high (most_bytes f)

times_up : (n k m : ℕ) → n ≤ k → most_times n m ≤ most_times k m
times_up zero k m le = omega arith
times_up (suc n) zero m le = absurd (omega arith)
times_up (suc n) (suc k) m le = let up = times_up n k m (omega arith) in omega (arith, up)

times_short : (F : List ℕ → Type 0) (m : ℕ) → ((b : List ℕ) → F b → length b ≤ m) → (n : ℕ) (b : List ℕ) → Times n F b → length b ≤ most_times n m
times_short F m short zero b h = let e = ap length h in omega (arith, e)
times_short F m short (suc n) b h =
    let one = short h.a h.first in
    let rest = times_short F m short n h.b h.second in
    let e = ap length h.joined ∙ length-append h.a h.b in
    omega (arith, one, rest, e)

short : (f : Form) (b : List ℕ) → HasForm f b → length b ≤ most_bytes f
short (Byte passes) b h = let e = ap length h.spelled ∙ length_number 1 h.n in omega (arith, e)
short (Number width low high) b h = let e = ap length h.spelled ∙ length_number width h.n in omega (arith, e)
short (Both f g) b h =
    let one = short f h.a h.first in
    let two = short g h.b h.second in
    let e = ap length h.joined ∙ length-append h.a h.b in
    omega (arith, one, two, e)
short (Counted low high f) b h =
    let items = times_short (HasForm f) (most_bytes f) (short f) h.n h.b h.items in
    let up = times_up h.n high (most_bytes f) h.most in
    let e = ap length h.joined ∙ length-append (big_bytes 1 h.n) h.b in
    let count = length_number 1 h.n in
    omega (arith, items, up, e, count)

pub state_short : (b : List ℕ) → HasForm state_form b → length b ≤ 5905
state_short b h = short state_form b h
