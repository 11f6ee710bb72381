-- A sync of a file: of it no write is pending, and it stands synced as reads give it.
use Rattle.std.proofs.Common.{◌≡◌, ◌⊎◌, inl, inr, ℕ, List, [], ◌∷◌, true, false, cond, not, refl, sym, ap, subst, ◌∙◌, Option, Some, None}
use Rattle.std.proofs.lemmas.List.{ext_get_or}
use Rattle.std.specs.FinMap.{get, insert}
use Rattle.std.specs.Ordering.{eq_by_cmp}
use Rattle.m3_outside.specs.declared.file_name.FileName.{FileName}
use Rattle.m3_outside.specs.Files.{Files, Stays, IsPresent, name_cmp}
use Rattle.m3_outside.specs.DiskState.{StepOf}
use Rattle.m3_outside.proofs.Names.{name_is, get_here, get_apart, eq_itself}
use Rattle.disk_content.specs.Contents.{Content}
use Rattle.disk_content.specs.Writes.{PendingWrite}
use Rattle.disk_content.specs.Tables.{with_file}
use Rattle.disk_content.specs.Contents.{FitsFile, AllFit, IsInBoth, content_after_sync}
use Rattle.disk_content.specs.Images.{covered, MayLeave, ImagesOf, IsSound}
use Rattle.disk_content.proofs.CoverLemmas.{without, without_is, none_of, others_of, may_over}

pub in_both : (c : Content) (name : FileName) → IsSound c → IsPresent name c.seen → IsInBoth name c
in_both c name sound present = from (get c.synced name) refl (subst (MayLeave c.pending.writes name (get c.synced name)) present.there (sound.read_is_image name))
  where
    from : (o : Option (List ℕ)) → get c.synced name ≡ o → MayLeave c.pending.writes name o (Some present.file) → IsInBoth name c
    from None is may = absurd may
    from (Some base) is may = record { seen = present.file; synced = base; seen_is = present.there; synced_is = is; same_length = may.same_length }

-- where nothing is pending, a stop leaves what stands synced
pub settled_file : (ws : List PendingWrite) (q : FileName) (synced : List ℕ) (left : Option (List ℕ)) → ((i : ℕ) → covered ws q i ≡ false) → MayLeave ws q (Some synced) left → left ≡ Some synced
settled_file ws q synced None none may = absurd may
settled_file ws q synced (Some left) none may = ap Some (ext_get_or 0 left synced may.same_length (λ i below. may.outside i (none i)))

pub fit_filtered : (name : FileName) (ws : List PendingWrite) (old new : Files) → ((q : FileName) → (q ≡ name → ⊥) → get new q ≡ get old q) → AllFit ws old → AllFit (without name ws) new
fit_filtered name [] old new same all = tt
fit_filtered name (w ∷ ws) old new same all =
    elim (eq_by_cmp name_cmp name w.name) as (λ b. eq_by_cmp name_cmp name w.name ≡ b → AllFit (cond (not b) (w ∷ without name ws) (without name ws)) new) [
      | true ↦ λ e. fit_filtered name ws old new same all.1
      | false ↦ λ e. (subst (FitsFile w) (sym (same w.name (λ is. cc (sym (ap (λ m. eq_by_cmp name_cmp name m) is ∙ eq_itself name), e)))) all.0, fit_filtered name ws old new same all.1)
    ] refl

module _ (c : Content) (name : FileName) (sound : IsSound c) (both : IsInBoth name c) where
  synced : Files
  synced = insert c.synced name both.seen

  abbrev new : Content
  new = content_after_sync name c

  synced_is : new.synced ≡ insert c.synced name both.seen
  synced_is = ap (λ o. with_file name o c.synced) both.seen_is

  here : get new.synced name ≡ Some both.seen
  here = ap (λ (m : Files). get m name) synced_is ∙ get_here c.synced name both.seen

  other : (q : FileName) → (q ≡ name → ⊥) → get new.synced q ≡ get c.synced q
  other q apart = ap (λ (m : Files). get m q) synced_is ∙ get_apart c.synced name both.seen q apart

  none_here : (i : ℕ) → covered new.pending.writes name i ≡ false
  none_here i = ap (λ ws. covered ws name i) (without_is name c.pending.writes) ∙ none_of name c.pending.writes i

  same_elsewhere : (q : FileName) → (q ≡ name → ⊥) → (i : ℕ) → covered new.pending.writes q i ≡ covered c.pending.writes q i
  same_elsewhere q apart i = ap (λ ws. covered ws q i) (without_is name c.pending.writes) ∙ others_of name q c.pending.writes i apart

  pub image_here : (files : Files) → ImagesOf new files → get files name ≡ get c.seen name
  image_here files image = settled_file new.pending.writes name both.seen (get files name) none_here (subst (λ b. MayLeave new.pending.writes name b (get files name)) here (image name)) ∙ sym both.seen_is

  pub image_synced : (files : Files) → ImagesOf new files → StepOf Stays (ImagesOf c) files
  image_synced files image = record { before = files; was = λ q. was q (name_is q name); stepped = refl }
    where
      was : (q : FileName) → (q ≡ name) ⊎ (q ≡ name → ⊥) → MayLeave c.pending.writes q (get c.synced q) (get files q)
      was q (inr apart) = subst (λ b. MayLeave c.pending.writes q b (get files q)) (other q apart) (may_over new.pending.writes c.pending.writes q _ _ (same_elsewhere q apart) (image q))
      was q (inl same) = subst (λ m. MayLeave c.pending.writes m (get c.synced m) (get files m)) (sym same)
          (subst (MayLeave c.pending.writes name (get c.synced name)) (sym (image_here files image)) (sound.read_is_image name))

  pub sound_sync : IsSound new
  sound_sync = record {
    read_is_image = λ q. may q (name_is q name);
    fit = subst (λ ws. AllFit ws new.synced) (sym (without_is name c.pending.writes)) (fit_filtered name c.pending.writes c.synced new.synced other sound.fit);
  }
    where
      may : (q : FileName) → (q ≡ name) ⊎ (q ≡ name → ⊥) → MayLeave new.pending.writes q (get new.synced q) (get c.seen q)
      may q (inr apart) = subst (λ b. MayLeave new.pending.writes q b (get c.seen q)) (sym (other q apart)) (may_over c.pending.writes new.pending.writes q _ _ (λ i. sym (same_elsewhere q apart i)) (sound.read_is_image q))
      may q (inl same) = subst (λ m. MayLeave new.pending.writes m (get new.synced m) (get c.seen m)) (sym same)
          (subst (λ b. MayLeave new.pending.writes name b (get c.seen name)) (sym here)
          (subst (MayLeave new.pending.writes name (Some both.seen)) (sym both.seen_is) (record { same_length = refl; outside = λ i none. refl })))
