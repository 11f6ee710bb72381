-- The device calls of `append` one after another, over any disk.
use Rattle.std.proofs.Common.{◌≡◌, ℕ, ◌+◌, ◌-◌, suc, List, [], ◌∷◌, ◌++◌, length, replicate, refl, sym, ap, subst, ◌∙◌, Some, arith, true, append_assoc, length-append}
use Rattle.std.proofs.lemmas.List.{length-replicate, replicate-append-replicate, append-nil}
use Rattle.std.specs.FinMap.{get}
use Rattle.byteorder.specs.Endian.{big_bytes}
use Rattle.log_chunks.specs.m3_outside.declared.file_name.FileName.{FileName}
use Rattle.log_chunks.specs.m3_outside.Files.{Files, Torn, Wrote, Stays, IsInside, IsPresent}
use Rattle.log_chunks.specs.m3_outside.DiskState.{DiskState, StepOf, Elapses}
use Rattle.commit_log.specs.Segment.{segment, written, chunk_bytes, MayAdd, Adds, IsAtRest, IsReady, OthersStay}
use Rattle.log_chunks.proofs.m3_outside_proofs.Names.{get_apart}
use Rattle.log_chunks.proofs.Shapes.{closed, begun, gated, run1, run2, run3, run4, run5, may, done, wrote_field, wrote_body, wrote_gate, length-closed}

abbrev zeros : ℕ → List ℕ
zeros k = replicate k 0

written_more : (chunks : List (List ℕ)) (chunk field behind : List ℕ) → field ≡ big_bytes 4 (length chunk)
    → written chunks ++ (1 ∷ (field ++ (chunk ++ behind))) ≡ written (chunks ++ chunk ∷ []) ++ behind
written_more [] chunk field behind is =
    ap (λ (l : List ℕ). 1 ∷ l) (sym (append_assoc field chunk behind)
    ∙ ap (λ (l : List ℕ). l ++ behind) (ap (λ (f : List ℕ). f ++ chunk) is ∙ sym (append-nil _)))
written_more (c ∷ chunks) chunk field behind is =
    append_assoc (chunk_bytes c) (written chunks) _ ∙ ap (λ (l : List ℕ). chunk_bytes c ++ l) (written_more chunks chunk field behind is) ∙ sym (append_assoc (chunk_bytes c) (written (chunks ++ chunk ∷ [])) behind)

length-written_more : (chunks : List (List ℕ)) (chunk field : List ℕ) → field ≡ big_bytes 4 (length chunk) → length (written (chunks ++ chunk ∷ [])) ≡ length (written chunks) + (1 + (length field + length chunk))
length-written_more chunks chunk field is =
    let none : List ℕ = [] in
    ap length (sym (append-nil _) ∙ sym (written_more chunks chunk field none is)) ∙ (length-append (written chunks) (1 ∷ (field ++ (chunk ++ none))) ∙ simp (length-append) (omega arith))

zeros_split : (a b c d : ℕ) → a ≡ suc (b + (c + d)) → replicate {A = ℕ} a 0 ≡ 0 ∷ (replicate {A = ℕ} b 0 ++ (replicate {A = ℕ} c 0 ++ replicate {A = ℕ} d 0))
zeros_split a b c d is =
    ap (λ (k : ℕ). replicate {A = ℕ} k 0) is
    ∙ ap (λ (l : List ℕ). 0 ∷ l) (sym (replicate-append-replicate b (c + d) 0) ∙ ap (λ (l : List ℕ). replicate b 0 ++ l) (sym (replicate-append-replicate c d 0)))

module _ (number at : ℕ) (chunk field : List ℕ) (name : FileName) (named : name ≡ segment number) (field_eq : field ≡ big_bytes 4 (length chunk)) (field_is : length field ≡ 4)
    (w0 : DiskState) (ready : IsReady number at (length chunk) w0) (tells : w0.tells ≡ true) where
  rest : IsAtRest number at w0.files
  rest = ready.kept.rest tells

  abbrev n : ℕ
  n = length chunk

  abbrev behind : ℕ
  behind = 65536 - at - 5 - n

  total : at + (5 + (n + behind)) ≡ 65536
  total = omega (arith, ready.room)

  first : get w0.files (segment number) ≡ Some (begun name rest.chunks at n behind field chunk rest.offset field_is refl field_eq total)
  first = rest.there ∙ ap (λ (l : List ℕ). Some (written rest.chunks ++ l)) (zeros_split (65536 - at) 4 n behind (omega (arith, ready.room)))

  here : get w0.files name ≡ Some (begun name rest.chunks at n behind field chunk rest.offset field_is refl field_eq total)
  here = ap (get w0.files) named ∙ first

  each : (c : Files) → w0.images c → get c name ≡ Some (begun name rest.chunks at n behind field chunk rest.offset field_is refl field_eq total)
  each c image = ap (get c) named ∙ ready.kept.synced tells c image ∙ first

  four : (w1 : DiskState) → Elapses (Torn name (at + 1) (length field)) w0 w1 → Elapses (Torn name (at + 1) 4) w0 w1
  four w1 t = subst (λ k. Elapses (Torn name (at + 1) k) w0 w1) field_is t

  at_segment : (w : DiskState) → Elapses (MayAdd name chunk) w0 w → Elapses (MayAdd (segment number) chunk) w0 w
  at_segment w t = subst (λ m. Elapses (MayAdd m chunk) w0 w) named t

  pub inside0 : IsInside name (at + 1) (length field) w0.files
  inside0 = record { file = _; there = here; within = omega (arith, ready.room, field_is, length-closed name rest.chunks at n behind field chunk rest.offset field_is refl field_eq total (replicate 4 0) (replicate n 0) (length-replicate {A = ℕ} 4 0) (length-replicate {A = ℕ} n 0)) }

  pub moment1 : (w1 : DiskState) → Elapses (Torn name (at + 1) (length field)) w0 w1 → Elapses (MayAdd (segment number) chunk) w0 w1
  moment1 w1 t1 = at_segment w1 (may name rest.chunks at n behind field chunk rest.offset field_is refl field_eq total w0 w1 w1 w1 w1 w1 each (four w1 t1) w1 (run1 name rest.chunks at n behind field chunk rest.offset field_is refl field_eq total w0 w1 w1 w1 w1 w1 each (four w1 t1)))

  file1 : (w1 : DiskState) → Wrote name (at + 1) field w0.files w1.files → get w1.files name ≡ Some (closed name rest.chunks at n behind field chunk rest.offset field_is refl field_eq total field (replicate n 0))
  file1 w1 wrote = wrote_field name rest.chunks at n behind field chunk rest.offset field_is refl field_eq total w0.files w1.files (replicate 4 0) (replicate n 0) field here (length-replicate {A = ℕ} 4 0) field_is wrote

  pub inside1 : (w1 : DiskState) → Wrote name (at + 1) field w0.files w1.files → IsInside name (at + 5) (length chunk) w1.files
  inside1 w1 wrote = record { file = _; there = file1 w1 wrote; within = omega (arith, ready.room, length-closed name rest.chunks at n behind field chunk rest.offset field_is refl field_eq total field (replicate n 0) field_is (length-replicate {A = ℕ} n 0)) }

  pub moment2 : (w1 w2 : DiskState) → Elapses (Torn name (at + 1) (length field)) w0 w1 → Elapses (Torn name (at + 5) (length chunk)) w1 w2 → Elapses (MayAdd (segment number) chunk) w0 w2
  moment2 w1 w2 t1 t2 = at_segment w2 (may name rest.chunks at n behind field chunk rest.offset field_is refl field_eq total w0 w1 w2 w2 w2 w2 each (four w1 t1) w2 (run2 name rest.chunks at n behind field chunk rest.offset field_is refl field_eq total w0 w1 w2 w2 w2 w2 each (four w1 t1) t2))

  file2 : (w1 w2 : DiskState) → Wrote name (at + 1) field w0.files w1.files → Wrote name (at + 5) chunk w1.files w2.files → get w2.files name ≡ Some (closed name rest.chunks at n behind field chunk rest.offset field_is refl field_eq total field chunk)
  file2 w1 w2 one two = wrote_body name rest.chunks at n behind field chunk rest.offset field_is refl field_eq total w1.files w2.files field (replicate n 0) chunk (file1 w1 one) field_is (length-replicate {A = ℕ} n 0) refl two

  pub present2 : (w1 w2 : DiskState) → Wrote name (at + 1) field w0.files w1.files → Wrote name (at + 5) chunk w1.files w2.files → IsPresent name w2.files
  present2 w1 w2 one two = record { file = _; there = file2 w1 w2 one two }

  pub moment3 : (w1 w2 w3 : DiskState) → Elapses (Torn name (at + 1) (length field)) w0 w1 → Elapses (Torn name (at + 5) (length chunk)) w1 w2 → Elapses Stays w2 w3 → Elapses (MayAdd (segment number) chunk) w0 w3
  moment3 w1 w2 w3 t1 t2 t3 = at_segment w3 (may name rest.chunks at n behind field chunk rest.offset field_is refl field_eq total w0 w1 w2 w3 w3 w3 each (four w1 t1) w3 (run3 name rest.chunks at n behind field chunk rest.offset field_is refl field_eq total w0 w1 w2 w3 w3 w3 each (four w1 t1) t2 t3))

  -- from the first sync on
  module _ (w1 w2 w3 : DiskState) (t1 : Elapses (Torn name (at + 1) (length field)) w0 w1) (t2 : Elapses (Torn name (at + 5) (length chunk)) w1 w2) (t3 : Elapses Stays w2 w3)
      (one : Wrote name (at + 1) field w0.files w1.files) (two : Wrote name (at + 5) chunk w1.files w2.files) (same : w3.files ≡ w2.files)
      (synced : (c : Files) → w3.images c → get c name ≡ get w3.files name) where
    file3 : get w3.files name ≡ Some (closed name rest.chunks at n behind field chunk rest.offset field_is refl field_eq total field chunk)
    file3 = ap (λ (m : Files). get m name) same ∙ file2 w1 w2 one two

    staged : (c : Files) → w3.images c → get c name ≡ Some (closed name rest.chunks at n behind field chunk rest.offset field_is refl field_eq total field chunk)
    staged c image = synced c image ∙ file3

    pub inside3 : IsInside name at 1 w3.files
    inside3 = record { file = _; there = file3; within = omega (arith, ready.room, length-closed name rest.chunks at n behind field chunk rest.offset field_is refl field_eq total field chunk field_is refl) }

    pub moment4 : (w4 : DiskState) → Elapses (Torn name at 1) w3 w4 → Elapses (MayAdd (segment number) chunk) w0 w4
    moment4 w4 t4 = at_segment w4 (run4 name rest.chunks at n behind field chunk rest.offset field_is refl field_eq total w0 w1 w2 w3 w4 w4 each (four w1 t1) t2 t3 staged t4)

    file4 : (w4 : DiskState) → Wrote name at (1 ∷ []) w3.files w4.files → get w4.files name ≡ Some (gated name rest.chunks at n behind field chunk rest.offset field_is refl field_eq total 1)
    file4 w4 wrote = wrote_gate name rest.chunks at n behind field chunk rest.offset field_is refl field_eq total w3.files w4.files file3 wrote

    pub present4 : (w4 : DiskState) → Wrote name at (1 ∷ []) w3.files w4.files → IsPresent name w4.files
    present4 w4 wrote = record { file = _; there = file4 w4 wrote }

    pub moment5 : (w4 w5 : DiskState) → Elapses (Torn name at 1) w3 w4 → Elapses Stays w4 w5 → Elapses (MayAdd (segment number) chunk) w0 w5
    moment5 w4 w5 t4 t5 = at_segment w5 (run5 name rest.chunks at n behind field chunk rest.offset field_is refl field_eq total w0 w1 w2 w3 w4 w5 each (four w1 t1) t2 t3 staged t4 t5)

    pub acknowledged : (w4 w5 : DiskState) → Elapses (Torn name at 1) w3 w4 → Elapses Stays w4 w5 → Wrote name at (1 ∷ []) w3.files w4.files → w5.files ≡ w4.files
        → ((c : Files) → w5.images c → get c name ≡ get w5.files name) → (c : Files) → w5.images c → StepOf (Adds (segment number) chunk) w0.images c
    acknowledged w4 w5 t4 t5 wrote same5 synced5 c image =
        subst (λ m. StepOf (Adds m chunk) w0.images c) named
        (done name rest.chunks at n behind field chunk rest.offset field_is refl field_eq total w0 w1 w2 w3 w4 w5 each (four w1 t1) t2 t3 staged t4 t5 c image
        (synced5 c image ∙ ap (λ (m : Files). get m name) same5 ∙ file4 w4 wrote))

    pub kept : (w4 w5 : DiskState) (after : ℕ) → after ≡ at + 5 + n → Wrote name at (1 ∷ []) w3.files w4.files → w5.files ≡ w4.files
        → IsAtRest number after w5.files
    kept w4 w5 after at_is wrote same5 = record {
      chunks = rest.chunks ++ chunk ∷ [];
      offset = length-written_more rest.chunks chunk field field_eq ∙ omega (arith, rest.offset, field_is, at_is);
      there =
          ap (get w5.files) (sym named) ∙ ap (λ (m : Files). get m name) same5 ∙ file4 w4 wrote
          ∙ ap (λ (l : List ℕ). Some l) (written_more rest.chunks chunk field (zeros behind) field_eq ∙ ap (λ k. written (rest.chunks ++ chunk ∷ []) ++ zeros k) (omega (arith, at_is, ready.room)));
    }

-- the other files through a write
pub torn_others : (name : FileName) (at n : ℕ) (x y : Files) → Torn name at n x y → OthersStay name x y
torn_others name at n x y torn = λ q apart. ap (λ (m : Files). get m q) torn.wrote.after ∙ get_apart x name _ q apart

pub others_then : (name : FileName) (x y z : Files) → OthersStay name x y → OthersStay name y z → OthersStay name x z
others_then name x y z a b = λ q apart. b q apart ∙ a q apart

pub same_others : (name : FileName) (x y z : Files) → OthersStay name x y → z ≡ y → OthersStay name x z
same_others name x y z a same = λ q apart. ap (λ (m : Files). get m q) same ∙ a q apart
