-- Where a checkpoint, or a file of one length, stops to be one.
use Rattle.std.proofs.Common.{◌≡◌, ◌⊎◌, inl, inr, ℕ, zero, suc, ◌+◌, ◌-◌, ◌<◌, ◌≤◌, List, [], ◌∷◌, ◌++◌, length, get_or, take, drop, refl, sym, ap, subst, ◌∙◌, arith, length-append, append-nil, take-append-drop, min, replicate}
use Rattle.std.proofs.lemmas.List.{length-take-le, length-replicate, take_all, take_at}
use Rattle.std.proofs.lemmas.Bool.{cases_lt}
use Rattle.std.proofs.Math.Seq.{drop-cons}
use Rattle.fileset_read.specs.wire_bytes.Fields.{Begins, StopsAt}
use Rattle.fileset_read.proofs.wire_bytes_proofs.StopLemmas.{one_spelling_stops}
use Rattle.fileset_read.specs.shard_files.Damage.{IsGate}
use Rattle.fileset_check.specs.PartFiles.{Spells}

abbrev pub HasLength : ℕ → List ℕ → Type 0
HasLength n bytes = length bytes ≡ n

-- a file of another length stops at the lesser of both
pub length_stops : (due at : ℕ) (bytes : List ℕ) → (length bytes ≡ due → ⊥) → at ≡ min (length bytes) due → StopsAt (HasLength due) bytes at
length_stops due at bytes other is = record {
  inside = omega (arith, is);
  begins = (let cut : length (take at bytes) ≡ at = length-take-le at bytes (omega (arith, is)) in record { rest = replicate (due - at) 0; whole = (let sum = length-append (take at bytes) (replicate (due - at) 0) in let zeros = length-replicate {A = ℕ} (due - at) 0 in omega (arith, sum, zeros, cut, is)) });
  stops = λ lt b.
      let cut : length (take (suc at) bytes) ≡ suc at = length-take-le (suc at) bytes (omega (arith, lt)) in
      let sum = length-append (take (suc at) bytes) b.rest in
      let whole = b.whole in
      absurd (other (omega (arith, lt, is, cut, sum, whole)));
  none = other;
}

-- ---- a gate

some_gate : Begins IsGate []
some_gate = record { rest = 1 ∷ replicate 32 0; whole = record { digest = replicate 32 0; long = length-replicate {A = ℕ} 32 0; is = refl } }

heads : (a b : ℕ) (x y : List ℕ) → a ∷ x ≡ b ∷ y → (a ≡ b) × (x ≡ y)
heads a b x y e = (cc, cc)

gate_other : (b : ℕ) (bytes : List ℕ) → (b ≡ 1 → ⊥) → StopsAt IsGate (b ∷ bytes) 0
gate_other b bytes other = record {
  inside = omega arith;
  begins = some_gate;
  stops = λ lt g. other (heads b 1 _ g.whole.digest g.whole.is).0;
  none = λ g. other (heads b 1 bytes g.digest g.is).0;
}

gate_none : StopsAt IsGate [] 0
gate_none = record {
  inside = omega arith;
  begins = some_gate;
  stops = λ lt. absurd (omega (arith, lt));
  none = λ g. let long = ap length g.is in omega (arith, long);
}

-- behind an open gate it is a matter of the length
gate_long : (rest : List ℕ) (at : ℕ) → (length rest ≡ 32 → ⊥) → at ≡ min (length rest) 32 → StopsAt IsGate (1 ∷ rest) (suc at)
gate_long rest at other is =
    let s = length_stops 32 at rest other is in
    record {
      inside = let inside = s.inside in omega (arith, inside);
      begins = record { rest = s.begins.rest; whole = record { digest = take at rest ++ s.begins.rest; long = s.begins.whole; is = refl } };
      stops = λ lt g. s.stops (omega (arith, lt)) (record { rest = g.rest; whole = ap length (heads 1 1 (take (suc at) rest ++ g.rest) g.whole.digest g.whole.is).1 ∙ g.whole.long });
      none = λ g. other (ap length (heads 1 1 rest g.digest g.is).1 ∙ g.long);
    }

pub gate_shut : (bytes : List ℕ) → (0 < length bytes → get_or bytes 0 0 ≡ 1 → ⊥) → StopsAt IsGate bytes 0
gate_shut [] shut = gate_none
gate_shut (b ∷ bytes) shut = gate_other b bytes (λ e. shut (omega arith) e)

pub gate_cut : (bytes : List ℕ) (at : ℕ) → 0 < length bytes → get_or bytes 0 0 ≡ 1 → (length bytes ≡ 33 → ⊥) → at ≡ min (length bytes) 33 → StopsAt IsGate bytes at
gate_cut [] at some first other is = absurd (omega (arith, some))
gate_cut (b ∷ bytes) at some first other is =
    let lesser : at ≡ suc (min (length bytes) 32) = omega (arith, is) in
    subst (StopsAt IsGate (b ∷ bytes)) (sym lesser) (subst (λ (n : ℕ). StopsAt IsGate (n ∷ bytes) (suc (min (length bytes) 32))) (sym first) (gate_long bytes (min (length bytes) 32) (λ e. other (omega (arith, e))) refl))

pub gate_is : (bytes : List ℕ) → length bytes ≡ 33 → get_or bytes 0 0 ≡ 1 → IsGate bytes
gate_is [] long first = absurd (omega (arith, long))
gate_is (b ∷ bytes) long first = record { digest = bytes; long = omega (arith, long); is = ap (λ (n : ℕ). n ∷ bytes) first }

-- ---- two lists of bytes

at_next : (l : List ℕ) (i : ℕ) → i < length l → l ≡ take i l ++ get_or l i 0 ∷ drop (suc i) l
at_next l i lt = sym (take-append-drop i l) ∙ ap (λ (r : List ℕ). take i l ++ r) (drop-cons l i 0 lt)

pub differ_at : (due bytes : List ℕ) (i : ℕ) → i < length due → i < length bytes → take i bytes ≡ take i due → (get_or due i 0 ≡ get_or bytes i 0 → ⊥) → StopsAt (Spells due) bytes i
differ_at due bytes i inside within same other =
    let long : length (take i due) ≡ i = length-take-le i due (omega (arith, inside)) in
    subst (StopsAt (Spells due) bytes) long
    (one_spelling_stops.other due bytes (take i due) (get_or due i 0) (get_or bytes i 0) (drop (suc i) due) (drop (suc i) bytes) (at_next due i inside) (at_next bytes i within ∙ ap (λ (l : List ℕ). l ++ get_or bytes i 0 ∷ drop (suc i) bytes) same) other)

take_long : (l : List ℕ) (n : ℕ) → length l ≤ n → take n l ≡ l
take_long l n le = take_all n l le

pub same_all : (due bytes : List ℕ) (n : ℕ) → n ≡ min (length due) (length bytes) → length due ≡ length bytes → take n bytes ≡ take n due → bytes ≡ due
same_all due bytes n is long same = sym (take_long bytes n (omega (arith, is, long))) ∙ same ∙ take_long due n (omega (arith, is, long))

pub differ_end : (due bytes : List ℕ) (n : ℕ) → n ≡ min (length due) (length bytes) → (length due ≡ length bytes → ⊥) → take n bytes ≡ take n due → StopsAt (Spells due) bytes n
differ_end due bytes n is other same = by (cases_lt (length bytes) (length due))
  where
    by : (length bytes < length due) ⊎ (length due ≤ length bytes) → StopsAt (Spells due) bytes n
    by (inl lt) =
        let here : n ≡ length bytes = omega (arith, is, lt) in
        let front : take n due ≡ bytes = sym same ∙ take_long bytes n (omega (arith, here)) in
        let word : due ≡ bytes ++ get_or due n 0 ∷ drop (suc n) due = at_next due n (omega (arith, here, lt)) ∙ ap (λ (l : List ℕ). l ++ get_or due n 0 ∷ drop (suc n) due) front in
        subst (StopsAt (Spells due) bytes) (sym here) (one_spelling_stops.short due bytes (get_or due n 0) (drop (suc n) due) word)
    by (inr le) =
        let here : n ≡ length due = omega (arith, is, le) in
        let more : length due < length bytes = omega (arith, le, other) in
        let front : take n bytes ≡ due = same ∙ take_long due n (omega (arith, here)) in
        let word : bytes ≡ due ++ get_or bytes n 0 ∷ drop (suc n) bytes = at_next bytes n (omega (arith, here, more)) ∙ ap (λ (l : List ℕ). l ++ get_or bytes n 0 ∷ drop (suc n) bytes) front in
        subst (StopsAt (Spells due) bytes) (sym here) (one_spelling_stops.long due bytes (get_or bytes n 0) (drop (suc n) bytes) word)
