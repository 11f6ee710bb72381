-- Numbers one after another: where one of them stops, all stop there.
use Rattle.std.proofs.Common.{◌≡◌, ℕ, suc, ◌+◌, ◌-◌, ◌<◌, ◌≤◌, List, [], ◌∷◌, ◌++◌, length, take, drop, get_or, refl, sym, ap, subst, ◌∙◌, arith, append_assoc, append-nil, length-append, length-drop}
use Rattle.std.proofs.lemmas.List.{drop_more, take-append-drop, length-take-le, take_at}
use Rattle.std.proofs.Math.ListN.{drop_of_length-le}
use Rattle.byteorder.specs.Endian.{big_bytes}
use Rattle.fileset_read.specs.wire_bytes.Fields.{Stands, Begins, GoesOn, Misfits, IsFault, StopsAt}
use Rattle.fileset_read.specs.wire_bytes.Numbers.{ANumber}
use Rattle.fileset_read.specs.wire_bytes.declared.wire_err.WireErr.{WireErr}
use Rattle.fileset_read.specs.wire_bytes.declared.wire_err.WireErr.TheVariants as errors
use Rattle.fileset_read.proofs.wire_bytes_proofs.FieldLemmas.{front_of, begins_take}
use Rattle.fileset_read.proofs.wire_bytes_proofs.NumberLemmas.{length_number}
use Rattle.fileset_read.proofs.wire_bytes_proofs.PointLemmas.{both_parts}
use Rattle.fileset_check.specs.Numbers.{IsField, AreFields, NumberThen, AreNumbers, offset_of}
use Rattle.fileset_check.specs.declared.numbers.Field.{Field}

-- the least numbers
pub record Example (Form : List ℕ → Type 0) : Type 0 where
  pub bytes : List ℕ
  pub is : Form bytes

pub some_numbers : (fs : List Field) → AreFields fs → Example (AreNumbers fs)
some_numbers [] a = record { bytes = []; is = refl }
some_numbers (f ∷ fs) a =
    let later = some_numbers fs a.1 in
    record {
      bytes = big_bytes f.width f.low ++ later.bytes;
      is = record { front = big_bytes f.width f.low; rest = later.bytes; number = record { n = f.low; least = omega arith; most = a.0.order; spelled = refl }; later = later.is; joined = refl };
    }

front_long : (f : Field) (front : List ℕ) → ANumber f.width f.low f.high front → length front ≡ f.width
front_long f front a = ap length a.spelled ∙ length_number f.width a.n

-- ---- one number, and what is behind it

module _ (f : Field) (Later : List ℕ → Type 0) where
  abbrev Both : List ℕ → Type 0
  Both bytes = NumberThen f Later bytes

  abbrev First : List ℕ → Type 0
  First bytes = ANumber f.width f.low f.high bytes

  -- behind a number
  behind : (front rest : List ℕ) → First front → Both (front ++ rest) → Later rest
  behind front rest a b =
      let same = both_parts front rest b.front b.rest (front_long f front a ∙ sym (front_long f b.front b.number)) b.joined in
      subst Later (sym same.1) b.later

  begins_behind : (front rest : List ℕ) → First front → Begins Both (front ++ rest) → Begins Later rest
  begins_behind front rest a b = record { rest = b.rest; whole = behind front (rest ++ b.rest) a (subst Both (append_assoc front rest b.rest) b.whole) }

  cut : (front rest : List ℕ) (n : ℕ) → take (length front + n) (front ++ rest) ≡ front ++ take n rest
  cut [] rest n = let e : 0 + n ≡ n = omega arith in ap (λ (k : ℕ). take k rest) e
  cut (x ∷ front) rest n = let e : suc (length front) + n ≡ suc (length front + n) = omega arith in ap (λ (k : ℕ). take k (x ∷ (front ++ rest))) e ∙ ap (λ (l : List ℕ). x ∷ l) (cut front rest n)

  pub stops_behind : (front rest : List ℕ) (at : ℕ) → First front → StopsAt Later rest at → StopsAt Both (front ++ rest) (length front + at)
  stops_behind front rest at a s =
      let long = length-append front rest in
      record {
        inside = (let inside = s.inside in omega (arith, long, inside));
        begins = subst (Begins Both) (sym (cut front rest at)) (record { rest = s.begins.rest; whole = record { front = front; rest = take at rest ++ s.begins.rest; number = a; later = s.begins.whole; joined = append_assoc front (take at rest) s.begins.rest } });
        stops = λ lt b. let e : suc (length front + at) ≡ length front + suc at = omega arith in s.stops (omega (arith, long, lt)) (begins_behind front (take (suc at) rest) a (subst (Begins Both) (ap (λ (k : ℕ). take k (front ++ rest)) e ∙ cut front rest (suc at)) b));
        none = λ b. s.none (behind front rest a b);
      }

  -- within a number
  begins_first : (some : Example Later) (l : List ℕ) → GoesOn First l → Begins Both l
  begins_first some l g = record {
    rest = (g.next ∷ g.rest) ++ some.bytes;
    whole = record { front = l ++ g.next ∷ g.rest; rest = some.bytes; number = g.whole; later = some.is; joined = sym (append_assoc l (g.next ∷ g.rest) some.bytes) };
  }

  goes_long : (l : List ℕ) → GoesOn First l → length l < f.width
  goes_long l g = let long = front_long f _ g.whole in let sum = length-append l (g.next ∷ g.rest) in omega (arith, long, sum)

  pub stops_short : (some : Example Later) (l : List ℕ) → GoesOn First l → StopsAt Both l (length l)
  stops_short some l g = record {
    inside = omega arith;
    begins = subst (Begins Both) (sym (take_at l [] (length l) refl) ∙ ap (take (length l)) (append-nil l)) (begins_first some l g);
    stops = λ lt. absurd (omega (arith, lt));
    none = λ b. let short = goes_long l g in let long = front_long f b.front b.number in let all = ap length b.joined in let sum = length-append b.front b.rest in omega (arith, short, long, all, sum);
  }

  shorter : (l : List ℕ) → length l ≤ f.width → Begins Both l → Begins First l
  shorter l le b =
      let w = b.whole in
      let is = front_of l b.rest w.front w.rest w.joined (let long = front_long f w.front w.number in omega (arith, le, long)) in
      record { rest = drop (length l) w.front; whole = subst First is w.number }

  pub stops_within : (some : Example Later) (l : List ℕ) (n : ℕ) → Misfits First l n → StopsAt Both l n
  stops_within some l n m =
      let within = m.within in
      let short = goes_long (take n l) m.fits in
      let here = length-take-le n l (omega (arith, within)) in
      let next = length-take-le (suc n) l (omega (arith, within)) in
      let stops : Begins Both (take (suc n) l) → ⊥ = λ b. m.none (shorter (take (suc n) l) (omega (arith, next, here, short)) b) in
      record {
        inside = omega (arith, within);
        begins = begins_first some (take n l) m.fits;
        stops = λ lt b. stops b;
        none = λ b. stops (begins_take Both (suc n) l (record { rest = []; whole = subst Both (sym (append-nil l)) b }));
      }

-- ---- all of them

-- what is told behind the first fields is told of all
pub record Carries (fs later : List Field) (bytes : List ℕ) (at : ℕ) : Type 0 where
  pub within : at ≤ length bytes
  pub fields : AreFields later
  pub stops : (n : ℕ) → StopsAt (AreNumbers later) (drop at bytes) n → StopsAt (AreNumbers fs) bytes (at + n)
  pub whole : AreNumbers later (drop at bytes) → AreNumbers fs bytes

pub carries_none : (fs : List Field) (bytes : List ℕ) → AreFields fs → Carries fs fs bytes 0
carries_none fs bytes a = record { within = omega arith; fields = a; stops = λ n s. let e : n ≡ 0 + n = omega arith in subst (StopsAt (AreNumbers fs) bytes) e s; whole = λ w. w }

pub carries_more : (fs : List Field) (f : Field) (later : List Field) (bytes : List ℕ) (at n : ℕ) → Carries fs (f ∷ later) bytes at → f.low ≤ n → n ≤ f.high → Stands (big_bytes f.width n) bytes at (at + f.width) → Carries fs later bytes (at + f.width)
carries_more fs f later bytes at n c low high st =
    let front = big_bytes f.width n in
    let a : ANumber f.width f.low f.high front = record { n = n; least = low; most = high; spelled = refl } in
    let long = length_number f.width n in
    record {
      within = st.within;
      fields = c.fields.1;
      stops = λ k s.
          let one : StopsAt (AreNumbers (f ∷ later)) (drop at bytes) (length front + k) = subst (λ (l : List ℕ). StopsAt (AreNumbers (f ∷ later)) l (length front + k)) (sym st.split) (stops_behind f (AreNumbers later) front (drop (at + f.width) bytes) k a s) in
          let sum : at + (length front + k) ≡ at + f.width + k = omega (arith, long) in
          subst (StopsAt (AreNumbers fs) bytes) sum (c.stops (length front + k) one);
      whole = λ w. c.whole (record { front = front; rest = drop (at + f.width) bytes; number = a; later = w; joined = st.split });
    }

carries_short : (fs : List Field) (f : Field) (later : List Field) (bytes : List ℕ) (at : ℕ) → Carries fs (f ∷ later) bytes at → IsFault (ANumber f.width f.low f.high) bytes at errors.Short → StopsAt (AreNumbers fs) bytes (length bytes)
carries_short fs f later bytes at c g =
    let inside = c.within in
    let left = length-drop at bytes in
    let sum : at + length (drop at bytes) ≡ length bytes = omega (arith, inside, left) in
    subst (StopsAt (AreNumbers fs) bytes) sum (c.stops (length (drop at bytes)) (stops_short f (AreNumbers later) (some_numbers later c.fields.1) (drop at bytes) g))

carries_bad : (fs : List Field) (f : Field) (later : List Field) (bytes : List ℕ) (at offset : ℕ) → Carries fs (f ∷ later) bytes at → IsFault (ANumber f.width f.low f.high) bytes at (errors.Bad offset) → StopsAt (AreNumbers fs) bytes offset
carries_bad fs f later bytes at offset c g =
    let after = g.0 in
    let sum : at + (offset - at) ≡ offset = omega (arith, after) in
    subst (StopsAt (AreNumbers fs) bytes) sum (c.stops (offset - at) (stops_within f (AreNumbers later) (some_numbers later c.fields.1) (drop at bytes) (offset - at) g.1))

pub carries_err : (fs : List Field) (f : Field) (later : List Field) (bytes : List ℕ) (at : ℕ) (e : WireErr) → Carries fs (f ∷ later) bytes at → IsFault (ANumber f.width f.low f.high) bytes at e → StopsAt (AreNumbers fs) bytes (offset_of (length bytes) e)
carries_err fs f later bytes at errors.Short c g = carries_short fs f later bytes at c g
carries_err fs f later bytes at (errors.Bad offset) c g = carries_bad fs f later bytes at offset c g

pub carries_long : (fs : List Field) (bytes : List ℕ) (at : ℕ) → Carries fs [] bytes at → at < length bytes → StopsAt (AreNumbers fs) bytes at
carries_long fs bytes at c lt =
    let left = length-drop at bytes in
    let sum : at + 0 ≡ at = omega arith in
    subst (StopsAt (AreNumbers fs) bytes) sum (c.stops 0 (record {
      inside = omega arith;
      begins = record { rest = []; whole = refl };
      stops = λ more b. let all = ap length b.whole in let sum = length-append (take 1 (drop at bytes)) b.rest in let one = length-take-le 1 (drop at bytes) (omega (arith, more)) in omega (arith, all, sum, one);
      none = λ none. let all = ap length none in omega (arith, all, left, lt);
    }))

pub carries_end : (fs : List Field) (bytes : List ℕ) (at : ℕ) → Carries fs [] bytes at → length bytes ≤ at → AreNumbers fs bytes
carries_end fs bytes at c le = c.whole (drop_of_length-le bytes le)

-- one more is looked at, or all are
pub carries_at : (fs : List Field) (bytes : List ℕ) (at i : ℕ) (d : Field) → i < length fs → Carries fs (drop i fs) bytes at → Carries fs (get_or fs i d ∷ drop (i + 1) fs) bytes at
carries_at fs bytes at i d lt c = subst (λ (l : List Field). Carries fs l bytes at) (drop_more fs i d lt) c

pub carries_all : (fs : List Field) (bytes : List ℕ) (at i : ℕ) → length fs ≤ i → Carries fs (drop i fs) bytes at → Carries fs [] bytes at
carries_all fs bytes at i le c = subst (λ (l : List Field). Carries fs l bytes at) (drop_of_length-le fs le) c
