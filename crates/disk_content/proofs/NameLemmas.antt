-- A file that is made, or taken away.
use Rattle.std.proofs.Common.{◌≡◌, ◌⊎◌, inl, inr, ℕ, List, [], ◌∷◌, replicate, false, ◌&&◌, ◌||◌, refl, sym, ap, subst, ◌∙◌, Option, Some, None}
use Rattle.std.specs.FinMap.{get, insert, remove}
use Rattle.m3_outside.specs.declared.file_name.FileName.{FileName}
use Rattle.m3_outside.specs.Files.{Files, files_with_zeros, files_without}
use Rattle.m3_outside.specs.DiskState.{StepOf}
use Rattle.m3_outside.proofs.Names.{name_is, get_here, get_apart, get_gone, get_stays, eq_false, is_insert, is_remove}
use Rattle.disk_content.specs.Contents.{Content}
use Rattle.disk_content.specs.Writes.{PendingWrite}
use Rattle.disk_content.specs.Contents.{FitsFile, AllFit, content_after_create, content_after_remove}
use Rattle.disk_content.specs.Images.{in_range, covered, MayLeave, ImagesOf, IsSound}
use Rattle.disk_content.proofs.CoverLemmas.{without_is, others_of, may_over}
use Rattle.disk_content.proofs.SyncLemmas.{fit_filtered, settled_file}

-- a file that reads don't give doesn't stand synced
pub absent_synced : (c : Content) (name : FileName) → IsSound c → get c.seen name ≡ None → get c.synced name ≡ None
absent_synced c name sound absent = from (get c.synced name) refl (subst (MayLeave c.pending.writes name (get c.synced name)) absent (sound.read_is_image name))
  where
    from : (o : Option (List ℕ)) → get c.synced name ≡ o → MayLeave c.pending.writes name o None → get c.synced name ≡ None
    from None is may = is
    from (Some synced) is may = absurd may

-- of a file that isn't there no write is pending
none_pending : (ws : List PendingWrite) (files : Files) (name : FileName) (i : ℕ) → AllFit ws files → get files name ≡ None → covered ws name i ≡ false
none_pending [] files name i all none = refl
none_pending (w ∷ ws) files name i all none =
    let apart : name ≡ w.name → ⊥ = λ same. subst (FitsFile w) (ap (get files) (sym same) ∙ none) all.0 in
    ap (λ b. (b && in_range w i) || covered ws name i) (eq_false name w.name apart) ∙ none_pending ws files name i all.1 none

pub fit_added : (ws : List PendingWrite) (files : Files) (name : FileName) (v : List ℕ) → get files name ≡ None → AllFit ws files → AllFit ws (insert files name v)
fit_added [] files name v none all = tt
fit_added (w ∷ ws) files name v none all =
    let apart : w.name ≡ name → ⊥ = λ same. subst (FitsFile w) (ap (get files) same ∙ none) all.0 in
    (subst (FitsFile w) (sym (get_apart files name v w.name apart)) all.0, fit_added ws files name v none all.1)

no_more : (files : Files) (name : FileName) (o : Option (List ℕ)) → get files name ≡ o → (ws : List PendingWrite) → MayLeave ws name None o → get files name ≡ None
no_more files name None is ws may = is
no_more files name (Some v) is ws may = absurd may

module _ (c : Content) (name : FileName) (size : ℕ) (sound : IsSound c) (absent : get c.seen name ≡ None) where
  abbrev made : Content
  made = content_after_create name size c

  none : get c.synced name ≡ None
  none = absent_synced c name sound absent

  pub image_made : (files : Files) → ImagesOf made files → StepOf (λ before after. after ≡ files_with_zeros name size before) (ImagesOf c) files
  image_made files image = record { before = remove files name; was = λ q. was q (name_is q name); stepped = back }
    where
      zeros : get files name ≡ Some (replicate size 0)
      zeros = settled_file c.pending.writes name (replicate size 0) (get files name) (λ i. none_pending c.pending.writes c.synced name i sound.fit none) (subst (λ b. MayLeave c.pending.writes name b (get files name)) (get_here c.synced name (replicate size 0)) (image name))

      back : files ≡ insert (remove files name) name (replicate size 0)
      back = is_insert (remove files name) files name (replicate size 0) zeros (λ q apart. sym (get_stays files name q apart))

      was : (q : FileName) → (q ≡ name) ⊎ (q ≡ name → ⊥) → MayLeave c.pending.writes q (get c.synced q) (get (remove files name) q)
      was q (inr apart) = subst (MayLeave c.pending.writes q (get c.synced q)) (sym (get_stays files name q apart)) (subst (λ b. MayLeave c.pending.writes q b (get files q)) (get_apart c.synced name (replicate size 0) q apart) (image q))
      was q (inl same) = subst (λ m. MayLeave c.pending.writes m (get c.synced m) (get (remove files name) m)) (sym same)
          (subst (λ b. MayLeave c.pending.writes name b (get (remove files name) name)) (sym none) (subst (MayLeave c.pending.writes name None) (sym (get_gone files name)) tt))

  pub sound_made : IsSound made
  sound_made = record {
    read_is_image = λ q. may q (name_is q name);
    fit = fit_added c.pending.writes c.synced name (replicate size 0) none sound.fit;
  }
    where
      may : (q : FileName) → (q ≡ name) ⊎ (q ≡ name → ⊥) → MayLeave c.pending.writes q (get made.synced q) (get made.seen q)
      may q (inr apart) = subst (λ b. MayLeave c.pending.writes q b (get made.seen q)) (sym (get_apart c.synced name (replicate size 0) q apart))
          (subst (MayLeave c.pending.writes q (get c.synced q)) (sym (get_apart c.seen name (replicate size 0) q apart)) (sound.read_is_image q))
      may q (inl same) = subst (λ m. MayLeave c.pending.writes m (get made.synced m) (get made.seen m)) (sym same)
          (subst (λ b. MayLeave c.pending.writes name b (get made.seen name)) (sym (get_here c.synced name (replicate size 0)))
          (subst (MayLeave c.pending.writes name (Some (replicate size 0))) (sym (get_here c.seen name (replicate size 0))) (record { same_length = refl; outside = λ i none. refl })))

module _ (c : Content) (name : FileName) (sound : IsSound c) (present : List ℕ) (there : get c.synced name ≡ Some present) where
  abbrev gone : Content
  gone = content_after_remove name c

  elsewhere : (q : FileName) → (q ≡ name → ⊥) → (i : ℕ) → covered gone.pending.writes q i ≡ covered c.pending.writes q i
  elsewhere q apart i = ap (λ ws. covered ws q i) (without_is name c.pending.writes) ∙ others_of name q c.pending.writes i apart

  -- an image without the file is one from before, from which the file was taken
  pub image_gone : (files : Files) → ImagesOf gone files → StepOf (λ before after. after ≡ files_without name before) (ImagesOf c) files
  image_gone files image = record { before = insert files name present; was = λ q. was q (name_is q name); stepped = back }
    where
      away : get files name ≡ None
      away = no_more files name (get files name) refl gone.pending.writes (subst (λ b. MayLeave gone.pending.writes name b (get files name)) (get_gone c.synced name) (image name))

      back : files ≡ remove (insert files name present) name
      back = is_remove (insert files name present) files name away (λ q apart. sym (get_apart files name present q apart))

      was : (q : FileName) → (q ≡ name) ⊎ (q ≡ name → ⊥) → MayLeave c.pending.writes q (get c.synced q) (get (insert files name present) q)
      was q (inr apart) = subst (MayLeave c.pending.writes q (get c.synced q)) (sym (get_apart files name present q apart))
          (may_over gone.pending.writes c.pending.writes q _ _ (elsewhere q apart) (subst (λ b. MayLeave gone.pending.writes q b (get files q)) (get_stays c.synced name q apart) (image q)))
      was q (inl same) = subst (λ m. MayLeave c.pending.writes m (get c.synced m) (get (insert files name present) m)) (sym same)
          (subst (λ b. MayLeave c.pending.writes name b (get (insert files name present) name)) (sym there)
          (subst (MayLeave c.pending.writes name (Some present)) (sym (get_here files name present)) (record { same_length = refl; outside = λ i none. refl })))

  pub sound_gone : IsSound gone
  sound_gone = record {
    read_is_image = λ q. may q (name_is q name);
    fit = subst (λ ws. AllFit ws gone.synced) (sym (without_is name c.pending.writes)) (fit_filtered name c.pending.writes c.synced gone.synced (get_stays c.synced name) sound.fit);
  }
    where
      may : (q : FileName) → (q ≡ name) ⊎ (q ≡ name → ⊥) → MayLeave gone.pending.writes q (get gone.synced q) (get gone.seen q)
      may q (inr apart) = subst (λ b. MayLeave gone.pending.writes q b (get gone.seen q)) (sym (get_stays c.synced name q apart))
          (subst (MayLeave gone.pending.writes q (get c.synced q)) (sym (get_stays c.seen name q apart)) (may_over c.pending.writes gone.pending.writes q _ _ (λ i. sym (elsewhere q apart i)) (sound.read_is_image q)))
      may q (inl same) = subst (λ m. MayLeave gone.pending.writes m (get gone.synced m) (get gone.seen m)) (sym same)
          (subst (λ b. MayLeave gone.pending.writes name b (get gone.seen name)) (sym (get_gone c.synced name)) (subst (MayLeave gone.pending.writes name None) (sym (get_gone c.seen name)) tt))
