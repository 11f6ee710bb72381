-- Forms one after another: where a field fails, the whole fails there.
use Rattle.std.proofs.Common.{◌≡◌, ℕ, zero, suc, ◌<◌, ◌≤◌, ◌^◌, List, [], ◌++◌, refl, sym, ap, ◌∙◌, arith, append_assoc, append-nil, Bool}
use Rattle.byteorder.specs.Endian.{big_bytes}
use Rattle.wire_bytes.specs.Fields.{Stands, IsFault}
use Rattle.wire_bytes.specs.Numbers.{ANumber}
use Rattle.wire_bytes.specs.declared.wire_err.WireErr.{WireErr}
use Rattle.wire_bytes.proofs.FieldLemmas.{EndsItself, Some_of, Then, first_fault, second_fault, then_ends, fault_as, stands_both}
use Rattle.wire_bytes.proofs.NumberLemmas.{number_ends}
use Rattle.wire_bytes.proofs.PointLemmas.{Counted as OfCount, counted_ends, counted_one, counted_fault}
use Rattle.meta_bytes.specs.Forms.{Form, Byte, Number, Both, Counted, AByte, TwoHave, Times, CountHas, HasForm, IsFair, StandsAs, MayFault}
use Rattle.meta_bytes.specs.declared.read_err.ReadErr.{ReadErr}
use Rattle.meta_bytes.specs.declared.read_err.ReadErr.TheVariants as refused

-- a field without a value
record Plain (F : List ℕ → Type 0) (x : ℕ) (bytes : List ℕ) : Type 0 where
  pub none : x ≡ 0
  pub has : F bytes

plain_ends : (F : List ℕ → Type 0) → EndsItself F → EndsItself (Some_of (Plain F))
plain_ends F ends a r f g = ends a r f.1.has g.1.has

plain_one : (F : List ℕ → Type 0) (x y : ℕ) (a : List ℕ) → Plain F x a → Plain F y a → x ≡ y
plain_one F x y a f g = f.none ∙ sym g.none

two_then : (F G : List ℕ → Type 0) (b : List ℕ) → TwoHave F G b → Then (Plain F) (λ x. G) b
two_then F G b t = record { x = 0; a = t.a; b = t.b; first = record { none = refl; has = t.first }; second = t.second; joined = t.joined }

then_two : (F G : List ℕ → Type 0) (b : List ℕ) → Then (Plain F) (λ x. G) b → TwoHave F G b
then_two F G b t = record { a = t.a; b = t.b; first = t.first.has; second = t.second; joined = t.joined }

abbrev Some : (List ℕ → Type 0) → Type 0
Some F = (b : List ℕ) × F b

-- two fields
two_ends : (F G : List ℕ → Type 0) → EndsItself F → EndsItself G → EndsItself (TwoHave F G)
two_ends F G e d a r f g = then_ends (Plain F) (λ x. G) (plain_ends F e) (plain_one F) (λ x b h. d) a r (two_then F G a f) (two_then F G (a ++ r) g)

two_first : (F G : List ℕ → Type 0) → EndsItself F → Some G → (bytes : List ℕ) (at : ℕ) (e : WireErr) → IsFault F bytes at e → IsFault (TwoHave F G) bytes at e
two_first F G ends more bytes at e a =
    fault_as (Then (Plain F) (λ x. G)) (TwoHave F G) bytes at e (then_two F G) (two_then F G)
    (first_fault (Plain F) (λ x. G) (plain_ends F ends) bytes at e (λ x b f. more)
    (fault_as F (Some_of (Plain F)) bytes at e (λ b f. (0, record { none = refl; has = f })) (λ b f. f.1.has) a))

two_second : (F G : List ℕ → Type 0) → EndsItself F → (s bytes : List ℕ) (at mid : ℕ) (e : WireErr) → F s → Stands s bytes at mid → IsFault G bytes mid e → IsFault (TwoHave F G) bytes at e
two_second F G ends s bytes at mid e f st a =
    fault_as (Then (Plain F) (λ x. G)) (TwoHave F G) bytes at e (then_two F G) (two_then F G)
    (second_fault (Plain F) (λ x. G) (plain_ends F ends) (plain_one F) 0 s (record { none = refl; has = f }) bytes at mid e st a)

-- many fields
pub times_ends : (F : List ℕ → Type 0) → EndsItself F → (n : ℕ) → EndsItself (Times n F)
times_ends F ends zero a r f g = sym (ap (λ (l : List ℕ). l ++ r) f) ∙ g
times_ends F ends (suc n) a r f g = two_ends F (Times n F) ends (times_ends F ends n) a r f g

pub times_some : (F : List ℕ → Type 0) → Some F → (n : ℕ) → Some (Times n F)
times_some F one zero = ([], refl)
times_some F one (suc n) = let l = times_some F one n in (one.0 ++ l.0, record { a = one.0; b = l.0; first = one.1; second = l.1; joined = refl })

pub times_first : (F : List ℕ → Type 0) → EndsItself F → Some F → (n : ℕ) (bytes : List ℕ) (at : ℕ) (e : WireErr) → IsFault F bytes at e → IsFault (Times (suc n) F) bytes at e
times_first F ends one n bytes at e a = two_first F (Times n F) ends (times_some F one n) bytes at e a

pub times_later : (F : List ℕ → Type 0) → EndsItself F → (n : ℕ) (s bytes : List ℕ) (at mid : ℕ) (e : WireErr) → F s → Stands s bytes at mid → IsFault (Times n F) bytes mid e → IsFault (Times (suc n) F) bytes at e
times_later F ends n s bytes at mid e f st a = two_second F (Times n F) ends s bytes at mid e f st a

-- one more at the end
pub times_more : (F : List ℕ → Type 0) (n : ℕ) (b s : List ℕ) → Times n F b → F s → Times (suc n) F (b ++ s)
times_more F zero b s t f = record { a = s; b = []; first = f; second = refl; joined = ap (λ (l : List ℕ). l ++ s) t ∙ sym (append-nil s) }
times_more F (suc n) b s t f = record { a = t.a; b = t.b ++ s; first = t.first; second = times_more F n t.b s t.second f; joined = ap (λ (l : List ℕ). l ++ s) t.joined ∙ append_assoc t.a t.b s }

-- a count and so many fields
count_then : (low high : ℕ) (F : List ℕ → Type 0) (b : List ℕ) → CountHas low high F b → Then (OfCount 1 low high) (λ n. Times n F) b
count_then low high F b c = record { x = c.n; a = big_bytes 1 c.n; b = c.b; first = record { least = c.least; most = c.most; spelled = refl }; second = c.items; joined = c.joined }

then_count : (low high : ℕ) (F : List ℕ → Type 0) (b : List ℕ) → Then (OfCount 1 low high) (λ n. Times n F) b → CountHas low high F b
then_count low high F b t = record { n = t.x; b = t.b; least = t.first.least; most = t.first.most; items = t.second; joined = t.joined ∙ ap (λ (l : List ℕ). l ++ t.b) t.first.spelled }

small_count : (high : ℕ) → high < 256 → high < 256 ^ 1
small_count high lt = omega (arith, lt)

count_ends : (low high : ℕ) (F : List ℕ → Type 0) → high < 256 → EndsItself F → EndsItself (CountHas low high F)
count_ends low high F lt ends a r f g =
    then_ends (OfCount 1 low high) (λ n. Times n F) (counted_ends 1 low high) (counted_one 1 low high (small_count high lt)) (λ n b h. times_ends F ends n) a r (count_then low high F a f) (count_then low high F (a ++ r) g)

count_first : (low high : ℕ) (F : List ℕ → Type 0) → Some F → (bytes : List ℕ) (at : ℕ) (e : WireErr) → IsFault (ANumber 1 low high) bytes at e → IsFault (CountHas low high F) bytes at e
count_first low high F one bytes at e a =
    fault_as (Then (OfCount 1 low high) (λ n. Times n F)) (CountHas low high F) bytes at e (then_count low high F) (count_then low high F)
    (first_fault (OfCount 1 low high) (λ n. Times n F) (counted_ends 1 low high) bytes at e (λ n b f. times_some F one n) (counted_fault 1 low high bytes at e a))

count_later : (low high : ℕ) (F : List ℕ → Type 0) → high < 256 → (n : ℕ) (bytes : List ℕ) (at mid : ℕ) (e : WireErr) → low ≤ n → n ≤ high → Stands (big_bytes 1 n) bytes at mid → IsFault (Times n F) bytes mid e → IsFault (CountHas low high F) bytes at e
count_later low high F lt n bytes at mid e least most st a =
    fault_as (Then (OfCount 1 low high) (λ n. Times n F)) (CountHas low high F) bytes at e (then_count low high F) (count_then low high F)
    (second_fault (OfCount 1 low high) (λ n. Times n F) (counted_ends 1 low high) (counted_one 1 low high (small_count high lt)) n (big_bytes 1 n) (record { least = least; most = most; spelled = refl }) bytes at mid e st a)

-- a byte
byte_ends : (passes : ℕ → Bool) → EndsItself (AByte passes)
byte_ends passes a r f g =
    number_ends 1 0 255 a r (record { n = f.n; least = omega arith; most = omega (arith, f.small); spelled = f.spelled }) (record { n = g.n; least = omega arith; most = omega (arith, g.small); spelled = g.spelled })

-- ---- any form

pub form_ends : (f : Form) → IsFair f → EndsItself (HasForm f)
form_ends (Byte passes) fair = byte_ends passes
form_ends (Number width low high) fair = number_ends width low high
form_ends (Both f g) fair = two_ends (HasForm f) (HasForm g) (form_ends f fair.0) (form_ends g fair.1)
form_ends (Counted low high f) fair = count_ends low high (HasForm f) fair.1 (form_ends f fair.2)

pub form_some : (f : Form) → IsFair f → Some (HasForm f)
form_some (Byte passes) fair = (big_bytes 1 fair.n, record { n = fair.n; small = fair.small; passed = fair.passed; spelled = refl })
form_some (Number width low high) fair = (big_bytes width low, record { n = low; least = omega arith; most = fair.0; spelled = refl })
form_some (Both f g) fair = let a = form_some f fair.0 in let b = form_some g fair.1 in (a.0 ++ b.0, record { a = a.0; b = b.0; first = a.1; second = b.1; joined = refl })
form_some (Counted low high f) fair =
    let l = times_some (HasForm f) (form_some f fair.2) low in
    (big_bytes 1 low ++ l.0, record { n = low; b = l.0; least = omega arith; most = fair.0; items = l.1; joined = refl })

-- ---- what a reading answers

pub may_first : (f g : Form) → IsFair f → IsFair g → (bytes : List ℕ) (at : ℕ) (e : ReadErr) → MayFault (HasForm f) bytes at e → MayFault (HasForm (Both f g)) bytes at e
may_first f g fair more bytes at refused.Memory a = tt
may_first f g fair more bytes at (refused.Wire why) a = two_first (HasForm f) (HasForm g) (form_ends f fair) (form_some g more) bytes at why a

pub may_second : (f g : Form) → IsFair f → (s bytes : List ℕ) (at mid : ℕ) (e : ReadErr) → StandsAs f s bytes at mid → MayFault (HasForm g) bytes mid e → MayFault (HasForm (Both f g)) bytes at e
may_second f g fair s bytes at mid refused.Memory st a = tt
may_second f g fair s bytes at mid (refused.Wire why) st a = two_second (HasForm f) (HasForm g) (form_ends f fair) s bytes at mid why st.has st.stands a

pub may_count : (low high : ℕ) (f : Form) → IsFair f → (bytes : List ℕ) (at : ℕ) (e : ReadErr) → MayFault (HasForm (Number 1 low high)) bytes at e → MayFault (HasForm (Counted low high f)) bytes at e
may_count low high f fair bytes at refused.Memory a = tt
may_count low high f fair bytes at (refused.Wire why) a = count_first low high (HasForm f) (form_some f fair) bytes at why a

pub may_items : (low high : ℕ) (f : Form) → high < 256 → (n : ℕ) (bytes : List ℕ) (at mid : ℕ) (e : ReadErr) → low ≤ n → n ≤ high → Stands (big_bytes 1 n) bytes at mid → MayFault (Times n (HasForm f)) bytes mid e → MayFault (HasForm (Counted low high f)) bytes at e
may_items low high f lt n bytes at mid refused.Memory least most st a = tt
may_items low high f lt n bytes at mid (refused.Wire why) least most st a = count_later low high (HasForm f) lt n bytes at mid why least most st a

pub may_one : (f : Form) → IsFair f → (n : ℕ) (bytes : List ℕ) (at : ℕ) (e : ReadErr) → MayFault (HasForm f) bytes at e → MayFault (Times (suc n) (HasForm f)) bytes at e
may_one f fair n bytes at refused.Memory a = tt
may_one f fair n bytes at (refused.Wire why) a = times_first (HasForm f) (form_ends f fair) (form_some f fair) n bytes at why a

pub may_later : (f : Form) → IsFair f → (n : ℕ) (s bytes : List ℕ) (at mid : ℕ) (e : ReadErr) → StandsAs f s bytes at mid → MayFault (Times n (HasForm f)) bytes mid e → MayFault (Times (suc n) (HasForm f)) bytes at e
may_later f fair n s bytes at mid refused.Memory st a = tt
may_later f fair n s bytes at mid (refused.Wire why) st a = times_later (HasForm f) (form_ends f fair) n s bytes at mid why st.has st.stands a

-- two forms that stand one after the other
pub both_stand : (f g : Form) (s t bytes : List ℕ) (at mid next : ℕ) → StandsAs f s bytes at mid → StandsAs g t bytes mid next → StandsAs (Both f g) (s ++ t) bytes at next
both_stand f g s t bytes at mid next a b = record {
  has = record { a = s; b = t; first = a.has; second = b.has; joined = refl };
  stands = stands_both s t bytes at mid next a.stands b.stands;
}

-- a count and its items
pub count_stands : (low high : ℕ) (f : Form) (n : ℕ) (t bytes : List ℕ) (at mid next : ℕ) → low ≤ n → n ≤ high → Stands (big_bytes 1 n) bytes at mid → Times n (HasForm f) t → Stands t bytes mid next → StandsAs (Counted low high f) (big_bytes 1 n ++ t) bytes at next
count_stands low high f n t bytes at mid next least most a items b = record {
  has = record { n = n; b = t; least = least; most = most; items = items; joined = refl };
  stands = stands_both (big_bytes 1 n) t bytes at mid next a b;
}

-- ---- a reading that goes on

-- where the rest of a form fails at the offset, the whole form fails at its begin
abbrev pub Behind : Form → Form → List ℕ → ℕ → ℕ → Type 0
Behind whole rest bytes at offset = (e : ReadErr) → MayFault (HasForm rest) bytes offset e → MayFault (HasForm whole) bytes at e

pub behind : (whole f g : Form) → IsFair f → (s bytes : List ℕ) (at offset mid : ℕ) → Behind whole (Both f g) bytes at offset → StandsAs f s bytes offset mid → Behind whole g bytes at mid
behind whole f g fair s bytes at offset mid b st = λ e a. b e (may_second f g fair s bytes offset mid e st a)

pub fails : (whole f g : Form) → IsFair f → IsFair g → (bytes : List ℕ) (at offset : ℕ) → Behind whole (Both f g) bytes at offset → (e : ReadErr) → MayFault (HasForm f) bytes offset e → MayFault (HasForm whole) bytes at e
fails whole f g fair more bytes at offset b e a = b e (may_first f g fair more bytes offset e a)
