-- The laws of disks.
use Rattle.std.proofs.Common.{◌≡◌, ◌⊎◌, inl, inr, ⊎_elim, ℕ, length, take, drop, refl, sym, ap, subst, ◌∙◌, true, Some, arith}
use Rattle.std.specs.Prelude.{Result, IsOk, OnOk, Ok, Err}
use Rattle.std.specs.FinMap.{get}
use Rattle.std.proofs.lemmas.List.{take_all}
use Rattle.m3_outside.specs.declared.file_name.FileName.{FileName}
use Rattle.m3_outside.specs.Files.{Files, Torn, Stays, DoneOrNot}
use Rattle.m3_outside.specs.DiskState.{DiskState, IsLawfulDisk, StepOf, Elapses}
use Rattle.m3_outside.specs.DiskLaws.{SyncedIsRead, WritesOneFile, ImagesComeFromImages}
use Rattle.m3_outside.proofs.Names.{get_apart}

at_ok : {E X : Type 0} (r : Result X E) {P : Type 0} → IsOk r → OnOk r P → P
at_ok (Ok x) ok p = p
at_ok (Err e) ok p = absurd (cc)

-- a step that stays is none
stayed : {images : Files → Type 0} (c : Files) → StepOf Stays images c → images c
stayed {images} c step = subst images (sym step.stepped) step.was

module _ {D : Type 0} (state : D → DiskState) where
  pub synced_is_read : SyncedIsRead state
  synced_is_read old mid new name buf synced read tells syncs done reads given file there whole c image =
      let told : (state mid).tells ≡ true = syncs.proceeds.tells ∙ tells in
      let was : (state mid).images c = stayed c ((reads.leaves.proceeds.told told).images c image) in
      let bytes : buf ≡ take (length buf) (drop 0 file) = at_ok read given (reads.bytes told) file there in
      let all : take (length buf) (drop 0 file) ≡ file = ap (λ n. take n file) whole ∙ take_all (length file) file (omega arith) in
      at_ok synced done (syncs.synced tells) c was ∙ there ∙ ap Some (sym (bytes ∙ all))

  torn_other : (name other : FileName) (at n : ℕ) (b c : Files) → ¬ (other ≡ name) → Torn name at n b c → get c other ≡ get b other
  torn_other name other at n b c apart torn = ap (λ m. get m other) torn.wrote.after ∙ get_apart b name _ other apart

  pub writes_one_file : WritesOneFile state
  writes_one_file old new name at bytes result tells writes other apart = record {
    files = torn_other name other at (length bytes) _ _ apart (writes.torn tells);
    images = λ c image. let step = (writes.proceeds.told tells).images c image in record { before = step.before; was = step.was; same = torn_other name other at (length bytes) _ _ apart step.stepped };
  }

  module _ (lawful : (d : D) → IsLawfulDisk (state d)) where
    since_begin : {step : Files → Files → Type 0} (old new : D) (c : Files) → Elapses step (state old) (state new) → (state new).since (state old).moment c → (state old).images c ⊎ StepOf step (state old).images c
    since_begin old new c elapses left = ⊎_elim (λ was. inl ((lawful old).only_now c was)) (λ step. inr step) (elapses.nothing_else (state old).moment c (omega arith) left)

    not_done : (change : Files → Files) (images : Files → Type 0) (c : Files) → images c ⊎ StepOf (DoneOrNot change) images c → StepOf (DoneOrNot change) images c
    not_done change images c (inl was) = record { before = c; was = was; stepped = inl refl }
    not_done change images c (inr step) = step

    pub images_come_from_images : ImagesComeFromImages state
    images_come_from_images = record {
      unchanged = λ old new t c elapses le left. ⊎_elim (λ was. was) (λ step. (lawful old).counts_now t c le (stayed c step)) (elapses.nothing_else t c le left);
      written = λ old new name at bytes result c tells writes left. since_begin old new c (writes.proceeds.told tells) left;
      made = λ old new name size result c tells creates left. not_done _ _ c (since_begin old new c (creates.changes.proceeds.told tells) left);
      taken_away = λ old new name result c tells removes left. not_done _ _ c (since_begin old new c (removes.changes.proceeds.told tells) left);
    }
