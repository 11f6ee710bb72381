-- The segment while a chunk is added: each write in turn, and what each leaves.
use Rattle.std.proofs.Common.{◌≡◌, inl, inr, ⊎_elim, ℕ, zero, suc, ◌+◌, List, [], ◌∷◌, ◌++◌, length, get_or, replicate, refl, sym, ap, subst, ◌∙◌, Some, arith, append_assoc, length-append}
use Rattle.std.proofs.lemmas.List.{length-replicate, append-nil}
use Rattle.std.proofs.lemmas.Bool.{cases_eq}
use Rattle.std.specs.FinMap.{get, insert}
use Rattle.std.proofs.lemmas.Option.{same_Some}
use Rattle.m3_outside.specs.declared.file_name.FileName.{FileName}
use Rattle.m3_outside.specs.Files.{Files, Torn, Wrote, Stays, patched}
use Rattle.m3_outside.specs.DiskState.{DiskState, StepOf, Elapses}
use Rattle.m3_outside.proofs.Names.{get_here, get_apart, insert_over}
use Rattle.m3_outside.proofs.Patches.{patched_parts}
use Rattle.m3_outside.proofs.Moments.{elapses_as, elapses_then}
use Rattle.byteorder.specs.Endian.{big_bytes}
use Rattle.log_chunks.specs.Segment.{chunk_bytes, written, ReadsChunks, HasChunks, MayAdd, Adds}

-- old with another file there
pub record Over (name : FileName) (P : List ℕ → Type 0) (old new : Files) : Type 0 where
  pub file : List ℕ
  pub has : P file
  pub after : new ≡ insert old name file

one_byte : (l : List ℕ) → length l ≡ 1 → l ≡ get_or l 0 0 ∷ []
one_byte [] e = absurd (omega arith)
one_byte (x ∷ []) e = refl
one_byte (x ∷ y ∷ l) e = absurd (omega arith)

stay : {P : List ℕ → Type 0} (name : FileName) (x y z : Files) → Over name P x y → z ≡ y → Over name P x z
stay {P} name x y z over same = record { file = over.file; has = over.has; after = same ∙ over.after }

pub reads_written : (chunks more : List (List ℕ)) (rest : List ℕ) → ReadsChunks more rest → ReadsChunks (chunks ++ more) (written chunks ++ rest)
reads_written [] more rest ends = ends
reads_written (c ∷ chunks) more rest ends = (written chunks ++ rest, append_assoc (chunk_bytes c) (written chunks) rest, reads_written chunks more rest ends)

pub zeros_end : (n : ℕ) → ReadsChunks [] (replicate n 0)
zeros_end n = ends n (replicate n 0) refl
  where
    ends : (n : ℕ) (l : List ℕ) → l ≡ replicate n 0 → ReadsChunks [] l
    ends n [] e = tt
    ends zero (x ∷ l) e = absurd (cc)
    ends (suc n) (x ∷ l) e = inl (λ one. absurd (cc))

module _ (name : FileName) (chunks : List (List ℕ)) (at n behind : ℕ) (field chunk : List ℕ)
    (offset : length (written chunks) ≡ at) (field_is : length field ≡ 4) (chunk_is : length chunk ≡ n) (field_eq : field ≡ big_bytes 4 (length chunk)) (total : at + (5 + (n + behind)) ≡ 65536) where
  -- a closed gate, any n bytes behind the field's offset, and zeros
  abbrev pub closed : List ℕ → List ℕ → List ℕ
  closed f b = written chunks ++ (0 ∷ (f ++ (b ++ replicate behind 0)))

  pub record IsClosed (file : List ℕ) : Type 0 where
    pub f : List ℕ
    pub b : List ℕ
    pub f_is : length f ≡ 4
    pub b_is : length b ≡ n
    pub file_is : file ≡ closed f b

  field_patch : (f b bytes : List ℕ) → length f ≡ 4 → length bytes ≡ 4 → patched (closed f b) (at + 1) bytes ≡ closed bytes b
  field_patch f b bytes f_is bytes_is =
      let split : (g : List ℕ) → closed g b ≡ (written chunks ++ 0 ∷ []) ++ (g ++ (b ++ replicate behind 0)) = λ (g : List ℕ). sym (append_assoc (written chunks) (0 ∷ []) (g ++ (b ++ replicate behind 0))) in
      ap (λ (l : List ℕ). patched l (at + 1) bytes) (split f)
      ∙ patched_parts (written chunks ++ 0 ∷ []) f (b ++ replicate behind 0) (at + 1) bytes (omega (arith, length-append (written chunks) (0 ∷ []), offset)) (bytes_is ∙ sym f_is)
      ∙ sym (split bytes)

  body_patch : (f b bytes : List ℕ) → length f ≡ 4 → length b ≡ n → length bytes ≡ n → patched (closed f b) (at + 5) bytes ≡ closed f bytes
  body_patch f b bytes f_is b_is bytes_is =
      let split : (g : List ℕ) → closed f g ≡ (written chunks ++ (0 ∷ f)) ++ (g ++ replicate behind 0) = λ (g : List ℕ). sym (append_assoc (written chunks) (0 ∷ f) (g ++ replicate behind 0)) in
      ap (λ (l : List ℕ). patched l (at + 5) bytes) (split b)
      ∙ patched_parts (written chunks ++ (0 ∷ f)) b (replicate behind 0) (at + 5) bytes (omega (arith, length-append (written chunks) (0 ∷ f), offset, f_is)) (bytes_is ∙ sym b_is)
      ∙ sym (split bytes)

  abbrev pub gated : ℕ → List ℕ
  gated gate = written chunks ++ (gate ∷ (field ++ (chunk ++ replicate behind 0)))

  gate_patch : (bytes : List ℕ) → length bytes ≡ 1 → patched (closed field chunk) at bytes ≡ written chunks ++ (bytes ++ (field ++ (chunk ++ replicate behind 0)))
  gate_patch bytes bytes_is = patched_parts (written chunks) (0 ∷ []) (field ++ (chunk ++ replicate behind 0)) at bytes offset bytes_is

  -- the steps, on files
  pub field_step : (x y : Files) → (f b : List ℕ) → get x name ≡ Some (closed f b) → length f ≡ 4 → length b ≡ n → Torn name (at + 1) 4 x y → Over name IsClosed x y
  field_step x y f b there f_is b_is torn =
      let same = same_Some _ _ (sym torn.wrote.there ∙ there) in
      record {
        file = patched torn.wrote.file (at + 1) torn.bytes;
        has = record { f = torn.bytes; b = b; f_is = torn.same_length; b_is = b_is; file_is = ap (λ (l : List ℕ). patched l (at + 1) torn.bytes) same ∙ field_patch f b torn.bytes f_is torn.same_length };
        after = torn.wrote.after;
      }

  pub body_step : (x y z : Files) → Over name IsClosed x y → Torn name (at + 5) n y z → Over name IsClosed x z
  body_step x y z over torn =
      let is = over.has in
      let there : get y name ≡ Some over.file = ap (λ (m : Files). get m name) over.after ∙ get_here x name over.file in
      let same = same_Some _ _ (sym torn.wrote.there ∙ there) ∙ is.file_is in
      record {
        file = patched torn.wrote.file (at + 5) torn.bytes;
        has = record { f = is.f; b = torn.bytes; f_is = is.f_is; b_is = torn.same_length; file_is = ap (λ (l : List ℕ). patched l (at + 5) torn.bytes) same ∙ body_patch is.f is.b torn.bytes is.f_is is.b_is torn.same_length };
        after = torn.wrote.after ∙ ap (λ (m : Files). insert m name (patched torn.wrote.file (at + 5) torn.bytes)) over.after ∙ insert_over x name over.file _;
      }

  abbrev pub begun : List ℕ
  begun = closed (replicate 4 0) (replicate n 0)

  closed_reads : (f b : List ℕ) → ReadsChunks chunks (closed f b)
  closed_reads f b = subst (λ (cs : List (List ℕ)). ReadsChunks cs (closed f b)) (append-nil chunks) (reads_written chunks [] (0 ∷ (f ++ (b ++ replicate behind 0))) (inl (λ e. absurd (omega arith))))

  open_reads : ReadsChunks (chunks ++ chunk ∷ []) (gated 1)
  open_reads = reads_written chunks (chunk ∷ []) (1 ∷ (field ++ (chunk ++ replicate behind 0)))
      (replicate behind 0, ap (λ (l : List ℕ). 1 ∷ l) (sym (append_assoc field chunk (replicate behind 0)) ∙ ap (λ (l : List ℕ). (l ++ chunk) ++ replicate behind 0) field_eq), zeros_end behind)

  shut_reads : (gate : ℕ) → (gate ≡ 1 → ⊥) → ReadsChunks chunks (gated gate)
  shut_reads gate shut = subst (λ (cs : List (List ℕ)). ReadsChunks cs (gated gate)) (append-nil chunks) (reads_written chunks [] (gate ∷ (field ++ (chunk ++ replicate behind 0))) (inl shut))

  pub record IsGated (file : List ℕ) : Type 0 where
    pub gate : ℕ
    pub file_is : file ≡ gated gate

  pub gate_step : (x y z : Files) → Over name IsClosed x y → get y name ≡ Some (closed field chunk) → Torn name at 1 y z → Over name IsGated x z
  gate_step x y z over there torn =
      let same = same_Some _ _ (sym torn.wrote.there ∙ there) in
      record {
        file = patched torn.wrote.file at torn.bytes;
        has = record {
          gate = get_or torn.bytes 0 0;
          file_is = ap (λ (l : List ℕ). patched l at torn.bytes) same ∙ gate_patch torn.bytes torn.same_length ∙ ap (λ (l : List ℕ). written chunks ++ (l ++ (field ++ (chunk ++ replicate behind 0)))) (one_byte torn.bytes torn.same_length);
        };
        after = torn.wrote.after ∙ ap (λ (m : Files). insert m name (patched torn.wrote.file at torn.bytes)) over.after ∙ insert_over x name over.file _;
      }

  there_of : {P : List ℕ → Type 0} (x y : Files) (over : Over name P x y) → get y name ≡ Some over.file
  there_of {P} x y over = ap (λ (m : Files). get m name) over.after ∙ get_here x name over.file

  others_of : {P : List ℕ → Type 0} (x y : Files) → Over name P x y → (q : FileName) → (q ≡ name → ⊥) → get y q ≡ get x q
  others_of {P} x y over q apart = ap (λ (m : Files). get m q) over.after ∙ get_apart x name over.file q apart

  pub length-closed : (f b : List ℕ) → length f ≡ 4 → length b ≡ n → length (closed f b) ≡ at + (5 + (n + behind))
  length-closed f b f_is b_is = simp (length-append, length-replicate) (omega (arith, offset, f_is, b_is))

  length-gated : (gate : ℕ) → length (gated gate) ≡ at + (5 + (n + behind))
  length-gated gate = simp (length-append, length-replicate) (omega (arith, offset, field_is, chunk_is))

  had : (x : Files) → get x name ≡ Some begun → HasChunks name chunks x
  had x there = record { file = begun; there = there; size = length-closed (replicate 4 0) (replicate n 0) (length-replicate {A = ℕ} 4 0) (length-replicate {A = ℕ} n 0) ∙ total; reads = closed_reads (replicate 4 0) (replicate n 0) }

  pub closed_may : (x y : Files) → get x name ≡ Some begun → Over name IsClosed x y → MayAdd name chunk x y
  closed_may x y there over = record {
    chunks = chunks;
    before = had x there;
    after = inl (record { file = over.file; there = there_of x y over; size = ap length over.has.file_is ∙ length-closed over.has.f over.has.b over.has.f_is over.has.b_is ∙ total; reads = subst (λ (l : List ℕ). ReadsChunks chunks l) (sym over.has.file_is) (closed_reads over.has.f over.has.b) });
    others = others_of x y over;
  }

  pub gated_may : (x y : Files) → get x name ≡ Some begun → Over name IsGated x y → MayAdd name chunk x y
  gated_may x y there over = record {
    chunks = chunks;
    before = had x there;
    after = ⊎_elim
        (λ (one : over.has.gate ≡ 1). inr (record { file = over.file; there = there_of x y over; size = ap length over.has.file_is ∙ length-gated over.has.gate ∙ total; reads = subst (λ (l : List ℕ). ReadsChunks (chunks ++ chunk ∷ []) l) (sym (over.has.file_is ∙ ap gated one)) open_reads }))
        (λ (shut : over.has.gate ≡ 1 → ⊥). inl (record { file = over.file; there = there_of x y over; size = ap length over.has.file_is ∙ length-gated over.has.gate ∙ total; reads = subst (λ (l : List ℕ). ReadsChunks chunks l) (sym over.has.file_is) (shut_reads over.has.gate shut) }))
        (cases_eq over.has.gate 1);
    others = others_of x y over;
  }

  pub gated_adds : (x y : Files) → get x name ≡ Some begun → Over name IsGated x y → get y name ≡ Some (gated 1) → Adds name chunk x y
  gated_adds x y there over is = record {
    chunks = chunks;
    before = had x there;
    after = record { file = gated 1; there = is; size = length-gated 1 ∙ total; reads = open_reads };
    others = others_of x y over;
  }

  -- what reads give after each write
  pub wrote_field : (x y : Files) (f b bytes : List ℕ) → get x name ≡ Some (closed f b) → length f ≡ 4 → length bytes ≡ 4 → Wrote name (at + 1) bytes x y → get y name ≡ Some (closed bytes b)
  wrote_field x y f b bytes there f_is bytes_is wrote =
      let same = same_Some _ _ (sym wrote.there ∙ there) in
      ap (λ (m : Files). get m name) wrote.after ∙ get_here x name _ ∙ ap Some (ap (λ (l : List ℕ). patched l (at + 1) bytes) same ∙ field_patch f b bytes f_is bytes_is)

  pub wrote_body : (x y : Files) (f b bytes : List ℕ) → get x name ≡ Some (closed f b) → length f ≡ 4 → length b ≡ n → length bytes ≡ n → Wrote name (at + 5) bytes x y → get y name ≡ Some (closed f bytes)
  wrote_body x y f b bytes there f_is b_is bytes_is wrote =
      let same = same_Some _ _ (sym wrote.there ∙ there) in
      ap (λ (m : Files). get m name) wrote.after ∙ get_here x name _ ∙ ap Some (ap (λ (l : List ℕ). patched l (at + 5) bytes) same ∙ body_patch f b bytes f_is b_is bytes_is)

  pub wrote_gate : (x y : Files) → get x name ≡ Some (closed field chunk) → Wrote name at (1 ∷ []) x y → get y name ≡ Some (gated 1)
  wrote_gate x y there wrote =
      let same = same_Some _ _ (sym wrote.there ∙ there) in
      ap (λ (m : Files). get m name) wrote.after ∙ get_here x name _ ∙ ap Some (ap (λ (l : List ℕ). patched l at (1 ∷ [])) same ∙ gate_patch (1 ∷ []) refl)

  -- the runs
  module _ (w0 w1 w2 w3 w4 w5 : DiskState) (rest : (c : Files) → w0.images c → get c name ≡ Some begun)
      (t1 : Elapses (Torn name (at + 1) 4) w0 w1) where
    pub run1 : Elapses (Over name IsClosed) w0 w1
    run1 = elapses_as w0 w1 (λ x y image torn. field_step x y (replicate 4 0) (replicate n 0) (rest x image) (length-replicate {A = ℕ} 4 0) (length-replicate {A = ℕ} n 0) torn) t1

    pub may : (w : DiskState) → Elapses (Over name IsClosed) w0 w → Elapses (MayAdd name chunk) w0 w
    may w run = elapses_as w0 w (λ x y image over. closed_may x y (rest x image) over) run

    pub run2 : Elapses (Torn name (at + 5) n) w1 w2 → Elapses (Over name IsClosed) w0 w2
    run2 t2 = elapses_then w0 w1 w2 (λ x y image over. over) (λ x y z image over image1 torn. body_step x y z over torn) run1 t2

    pub run3 : Elapses (Torn name (at + 5) n) w1 w2 → Elapses Stays w2 w3 → Elapses (Over name IsClosed) w0 w3
    run3 t2 t3 = elapses_then w0 w2 w3 (λ x y image over. over) (λ x y z image over image2 same. stay name x y z over same) (run2 t2) t3

    module _ (t2 : Elapses (Torn name (at + 5) n) w1 w2) (t3 : Elapses Stays w2 w3) (staged : (c : Files) → w3.images c → get c name ≡ Some (closed field chunk))
        (t4 : Elapses (Torn name at 1) w3 w4) where
      pub run4 : Elapses (MayAdd name chunk) w0 w4
      run4 = elapses_then w0 w3 w4 (λ x y image over. closed_may x y (rest x image) over) (λ x y z image over image3 torn. gated_may x z (rest x image) (gate_step x y z over (staged y image3) torn)) (run3 t2 t3) t4

      pub run5 : Elapses Stays w4 w5 → Elapses (MayAdd name chunk) w0 w5
      run5 t5 = elapses_then w0 w4 w5 (λ x y image m. m) (λ x y z image m image4 same. subst (λ (w : Files). MayAdd name chunk x w) (sym same) m) run4 t5

      pub done : Elapses Stays w4 w5 → (c : Files) → w5.images c → get c name ≡ Some (gated 1) → StepOf (Adds name chunk) w0.images c
      done t5 c image is =
          let five = t5.images c image in
          let four = t4.images five.before five.was in
          let three = (run3 t2 t3).images four.before four.was in
          record {
            before = three.before;
            was = three.was;
            stepped = gated_adds three.before c (rest three.before three.was) (stay name three.before five.before c (gate_step three.before four.before five.before three.stepped (staged four.before four.was) four.stepped) five.stepped) is;
          }
