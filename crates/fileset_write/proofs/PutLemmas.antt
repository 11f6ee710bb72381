-- A file that is made, written behind its zeros and synced, over any disk.
use Rattle.std.proofs.Common.{◌≡◌, ◌⊎◌, inl, inr, ℕ, ◌+◌, List, [], ◌++◌, length, replicate, true, refl, sym, ap, subst, ◌∙◌, Some, arith, Result, Err}
use Rattle.std.specs.Prelude.{⊤, IsErrOf}
use Rattle.shard_files.specs.m3_outside.declared.disk_err.DiskErr.{DiskErr}
use Rattle.shard_files.specs.m3_outside.declared.disk_err.DiskErr.TheVariants.{Memory, Failed as DiskFailed}
use Rattle.std.proofs.lemmas.List.{length-replicate, replicate-append-replicate, append-nil}
use Rattle.std.specs.FinMap.{get, insert}
use Rattle.std.proofs.lemmas.Option.{same_Some}
use Rattle.shard_files.specs.m3_outside.declared.file_name.FileName.{FileName}
use Rattle.shard_files.specs.m3_outside.Files.{Files, Torn, Wrote, Stays, DoneOrNot, IsInside, IsPresent, patched, files_with_zeros}
use Rattle.shard_files.specs.m3_outside.DiskState.{DiskState, Elapses, Becomes}
use Rattle.shard_files.specs.m3_outside.DiskCalls.{LeavesFiles}
use Rattle.shard_files.proofs.m3_outside_proofs.Names.{get_here, get_apart, is_insert, insert_over}
use Rattle.shard_files.proofs.m3_outside_proofs.Moments.{elapses_as, elapses_from, becomes_both}
use Rattle.shard_files.proofs.m3_outside_proofs.Patches.{patched_parts}
use Rattle.fileset_write.specs.Putting.{MayPut, behind, with_file}

zeros_parts : (front n : ℕ) → replicate {A = ℕ} (front + n) 0 ≡ replicate front 0 ++ (replicate n 0 ++ [])
zeros_parts front n = sym (replicate-append-replicate front n 0) ∙ ap (λ (l : List ℕ). replicate front 0 ++ l) (sym (append-nil (replicate n 0)))

-- bytes written behind the zeros
written_over : (front n : ℕ) (bytes : List ℕ) → length bytes ≡ n → patched (replicate (front + n) 0) front bytes ≡ behind front bytes
written_over front n bytes long =
    ap (λ (l : List ℕ). patched l front bytes) (zeros_parts front n)
    ∙ patched_parts (replicate front 0) (replicate n 0) [] front bytes (length-replicate {A = ℕ} front 0) (long ∙ sym (length-replicate {A = ℕ} n 0))
    ∙ ap (λ (l : List ℕ). replicate front 0 ++ l) (append-nil bytes)

module _ (name : FileName) (front : ℕ) (bytes : List ℕ) where
  abbrev n : ℕ
  n = length bytes

  abbrev full : List ℕ
  full = behind front bytes

  abbrev made : Files → Files
  made files = files_with_zeros name (front + n) files

  same_put : (x y : Files) → y ≡ x → MayPut name front n x y
  same_put x y e = record { others = λ q apart. ap (λ (f : Files). get f q) e; either = inl (ap (λ (f : Files). get f name) e) }

  -- the file with any bytes behind its zeros
  new_put : (x y : Files) (any : List ℕ) → length any ≡ n → y ≡ insert x name (behind front any) → MayPut name front n x y
  new_put x y any long e = record {
    others = λ q apart. ap (λ (f : Files). get f q) e ∙ get_apart x name (behind front any) q apart;
    either = inr (record { bytes = any; long = long; there = ap (λ (f : Files). get f name) e ∙ get_here x name (behind front any) });
  }

  made_put : (x y : Files) → y ≡ made x → MayPut name front n x y
  made_put x y e = new_put x y (replicate n 0) (length-replicate {A = ℕ} n 0) (e ∙ ap (insert x name) (sym (replicate-append-replicate front n 0)))

  made_or_not : (x y z : Files) → y ≡ x → DoneOrNot made y z → MayPut name front n x z
  made_or_not x y z e (inl same) = same_put x z (same ∙ e)
  made_or_not x y z e (inr done) = made_put x z (done ∙ ap made e)

  -- bytes written into the file as it was made
  over_made : (x y z : Files) (any : List ℕ) → length any ≡ n → y ≡ made x → Wrote name front any y z → z ≡ insert x name (behind front any)
  over_made x y z any long e wrote =
      let there : get y name ≡ Some (replicate (front + n) 0) = ap (λ (f : Files). get f name) e ∙ get_here x name (replicate (front + n) 0) in
      let same : wrote.file ≡ replicate (front + n) 0 = same_Some _ _ (sym wrote.there ∙ there) in
      wrote.after
      ∙ ap (λ (f : Files). insert f name (patched wrote.file front any)) e
      ∙ insert_over x name (replicate (front + n) 0) (patched wrote.file front any)
      ∙ ap (insert x name) (ap (λ (l : List ℕ). patched l front any) same ∙ written_over front n any long)

  torn_put : (x y z : Files) → y ≡ made x → Torn name front n y z → MayPut name front n x z
  torn_put x y z e torn = new_put x z torn.bytes torn.same_length (over_made x y z torn.bytes torn.same_length e torn.wrote)

  -- ---- the calls one after another

  module _ (a b : DiskState) (F : Type 0) (one : LeavesFiles F a b) (told : a.tells ≡ true) where
    pub kept : Becomes (λ files. files) a b
    kept = record { files = one.files told; images = (one.proceeds.told told).images }

    pub moment1 : Elapses (MayPut name front n) a b
    moment1 = elapses_as a b (λ x y image same. same_put x y same) (one.proceeds.told told)

    pub files1 : MayPut name front n a.files b.files
    files1 = same_put a.files b.files (one.files told)

    module _ (c : DiskState) (two : Elapses (DoneOrNot made) b c) where
      pub moment2 : Elapses (MayPut name front n) a c
      moment2 = elapses_from a b c made_or_not moment1 kept.images two

      pub kept2 : Becomes (λ files. files) b c → Becomes (λ files. files) a c
      kept2 more = becomes_both (λ files. files) (λ files. files) (λ files. files) a b c (λ x y e. e) kept more

      pub files2 : Becomes (λ files. files) b c ⊎ Becomes made b c → MayPut name front n a.files c.files
      files2 (inl same) = same_put a.files c.files (same.files ∙ one.files told)
      files2 (inr done) = made_put a.files c.files (done.files ∙ ap made (one.files told))

      -- why the creation was refused tells what became of it
      pub made_files : (r : Result ⊤ DiskErr) (e : DiskErr) → r ≡ Err e → (IsErrOf r Memory → Becomes (λ files. files) b c) → (IsErrOf r DiskFailed → Becomes (λ files. files) b c ⊎ Becomes made b c)
          → Becomes (λ files. files) b c ⊎ Becomes made b c
      made_files r Memory was undone maybe = inl (undone was)
      made_files r DiskFailed was undone maybe = maybe was

      module _ (done : Becomes made b c) where
        pub is_made : Becomes made a c
        is_made = becomes_both (λ files. files) made made a b c (λ x y e. ap made e) kept done

        pub inside : IsInside name front n c.files
        inside = record { file = replicate (front + n) 0; there = ap (λ (f : Files). get f name) is_made.files ∙ get_here a.files name (replicate (front + n) 0); within = omega (arith, length-replicate {A = ℕ} (front + n) 0) }

        module _ (d : DiskState) (three : Elapses (Torn name front n) c d) (torn : Torn name front n c.files d.files) where
          pub moment3 : Elapses (MayPut name front n) a d
          moment3 = elapses_from a c d torn_put moment2 is_made.images three

          pub files3 : MayPut name front n a.files d.files
          files3 = torn_put a.files c.files d.files is_made.files torn

          pub present : IsPresent name d.files
          present = record { file = patched torn.wrote.file front torn.bytes; there = ap (λ (f : Files). get f name) torn.wrote.after ∙ get_here c.files name (patched torn.wrote.file front torn.bytes) }

          module _ (e : DiskState) (four : Elapses Stays d e) (same : e.files ≡ d.files) where
            pub moment4 : Elapses (MayPut name front n) a e
            moment4 = elapses_from a d e (λ x y z may is. subst (MayPut name front n x) (sym is) may) moment3 moment3.images four

            pub files4 : MayPut name front n a.files e.files
            files4 = subst (MayPut name front n a.files) (sym same) files3

            pub is_put : Wrote name front bytes c.files d.files → ((f : Files) → e.images f → get f name ≡ get e.files name) → Becomes (with_file name full) a e
            is_put wrote synced =
                let at : e.files ≡ insert a.files name full = same ∙ over_made a.files c.files d.files bytes refl is_made.files wrote in
                let here : get e.files name ≡ Some full = ap (λ (f : Files). get f name) at ∙ get_here a.files name full in
                record {
                  files = at;
                  images = λ y image.
                      let step = moment4.images y image in
                      record { before = step.before; was = step.was; stepped = is_insert step.before y name full (synced y image ∙ here) step.stepped.others };
                }
