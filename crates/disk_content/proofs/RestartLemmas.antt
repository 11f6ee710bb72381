-- What a pick leaves is an image.
use Rattle.std.proofs.Common.{◌≡◌, ◌⊎◌, inl, inr, ℕ, ◌≤◌, ◌/◌, ◌%◌, List, [], ◌∷◌, ◌++◌, length, refl, sym, ap, subst, Option, Some, None, arith, append_assoc, append-nil}
use Rattle.std.proofs.lemmas.List.{ext_get_or}
use Rattle.std.specs.FinMap.{get, insert}
use Rattle.m3_outside.specs.declared.file_name.FileName.{FileName}
use Rattle.m3_outside.specs.Files.{Files, IsInside, patched}
use Rattle.m3_outside.proofs.Names.{name_is, get_here, get_apart, same_files}
use Rattle.disk_content.specs.Contents.{Content}
use Rattle.disk_content.specs.Writes.{PendingWrite}
use Rattle.disk_content.specs.Tables.{with_bytes}
use Rattle.disk_content.specs.Picks.{picked_bytes, picked_files}
use Rattle.disk_content.specs.Contents.{FitsFile, AllFit, content_after_restart}
use Rattle.disk_content.specs.Images.{MayLeave, ImagesOf, IsSound}
use Rattle.disk_content.proofs.CoverLemmas.{left_written, may_more}
use Rattle.disk_content.proofs.TableLemmas.{with_bytes_found}
use Rattle.disk_content.proofs.FitLemmas.{inside_of, inside_less, length-picked, all_fit_kept}

itself_left : (ws : List PendingWrite) (q : FileName) (o : Option (List ℕ)) → MayLeave ws q o o
itself_left ws q None = tt
itself_left ws q (Some file) = record { same_length = refl; outside = λ i none. refl }

-- files that these writes may have left of the synced ones
abbrev LeftBy : List PendingWrite → Files → Files → Type 0
LeftBy done synced files = (q : FileName) → MayLeave done q (get synced q) (get files q)

one_more : (done : List PendingWrite) (w : PendingWrite) (synced files : Files) (bytes : List ℕ) → LeftBy done synced files → FitsFile w (get files w.name) → length bytes ≤ length w.bytes
    → LeftBy (done ++ w ∷ []) synced (with_bytes w.name w.at bytes files)
one_more done w synced files bytes left fits short q = subst (λ (m : Files). MayLeave (done ++ w ∷ []) q (get synced q) (get m q)) after (each (name_is q w.name))
  where
    inside : IsInside w.name w.at (length w.bytes) files
    inside = inside_of w files fits

    after : insert files w.name (patched inside.file w.at bytes) ≡ with_bytes w.name w.at bytes files
    after = with_bytes_found files w.name w.at bytes inside.file inside.there

    here : (base : Option (List ℕ)) → MayLeave done w.name base (Some inside.file) → MayLeave (done ++ w ∷ []) w.name base (Some (patched inside.file w.at bytes))
    here None may = may
    here (Some base) may = left_written done w base inside.file w.at bytes (omega arith) (omega (arith, short)) inside.within may

    each : (q ≡ w.name) ⊎ (q ≡ w.name → ⊥) → MayLeave (done ++ w ∷ []) q (get synced q) (get (insert files w.name (patched inside.file w.at bytes)) q)
    each (inl same) = subst (λ m. MayLeave (done ++ w ∷ []) m (get synced m) (get (insert files w.name (patched inside.file w.at bytes)) m)) (sym same)
        (subst (MayLeave (done ++ w ∷ []) w.name (get synced w.name)) (sym (get_here files w.name (patched inside.file w.at bytes)))
        (here (get synced w.name) (subst (MayLeave done w.name (get synced w.name)) inside.there (left w.name))))
    each (inr apart) = subst (MayLeave (done ++ w ∷ []) q (get synced q)) (sym (get_apart files w.name (patched inside.file w.at bytes) q apart)) (may_more done w q _ _ (left q))

picked_left : (pick : ℕ) (done ws : List PendingWrite) (synced files : Files) → LeftBy done synced files → AllFit ws files → LeftBy (done ++ ws) synced (picked_files pick ws files)
picked_left pick done [] synced files left all = λ q. subst (λ l. MayLeave l q (get synced q) (get files q)) (sym (append-nil done)) (left q)
picked_left pick done (w ∷ ws) synced files left all =
    let bytes : List ℕ = picked_bytes (pick % 4) w.bytes in
    let short : length bytes ≤ length w.bytes = length-picked (pick % 4) w.bytes in
    let next : AllFit ws (with_bytes w.name w.at bytes files) = all_fit_kept ws files w.name w.at bytes (inside_less w.name w.at (length bytes) (length w.bytes) files short (inside_of w files all.0)) all.1 in
    let rest = picked_left (pick / 4) (done ++ w ∷ []) ws synced (with_bytes w.name w.at bytes files) (one_more done w synced files bytes left all.0 short) next in
    λ q. subst (λ l. MayLeave l q (get synced q) (get (picked_files (pick / 4) ws (with_bytes w.name w.at bytes files)) q)) (append_assoc done (w ∷ []) ws) (rest q)

pub picked_is_image : (c : Content) (pick : ℕ) → IsSound c → ImagesOf c (picked_files pick c.pending.writes c.synced)
picked_is_image c pick sound = picked_left pick [] c.pending.writes c.synced c.synced (λ q. itself_left [] q (get c.synced q)) sound.fit

same_left : (q : FileName) (x y : Option (List ℕ)) → MayLeave [] q x y → y ≡ x
same_left q None None may = refl
same_left q None (Some y) may = absurd may
same_left q (Some x) None may = absurd may
same_left q (Some x) (Some y) may = ap Some (ext_get_or 0 y x may.same_length (λ i below. may.outside i refl))

-- where nothing is pending there is one image
pub only_image : (synced files : Files) → LeftBy [] synced files → files ≡ synced
only_image synced files left = same_files files synced (λ q. same_left q (get synced q) (get files q) (left q))

pub sound_restart : (c : Content) (pick : ℕ) → IsSound c → IsSound (content_after_restart pick c)
sound_restart c pick sound = record {
  read_is_image = λ q. itself_left [] q (get (picked_files pick c.pending.writes c.synced) q);
  fit = tt;
}
