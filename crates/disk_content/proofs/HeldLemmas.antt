-- Each change of what a disk holds, by what reads give and what undoes the pending writes.
use Rattle.std.proofs.Common.{◌≡◌, ℕ, ◌+◌, ◌<◌, List, [], ◌∷◌, ◌++◌, length, map, take, drop, get_or, true, false, cond, refl, sym, ap, subst, ◌∙◌, None, arith, length-take, length-drop, replicate}
use Rattle.std.proofs.lemmas.List.{places, same_lists, map-append}
use Rattle.std.specs.FinMap.{get, insert}
use Rattle.m3_outside.specs.declared.file_name.FileName.{FileName}
use Rattle.m3_outside.specs.Files.{Files, IsInside, IsPresent, patched, files_with_zeros, files_without}
use Rattle.m3_outside.proofs.Names.{get_here, insert_same, insert_over, get_stays}
use Rattle.m3_outside.proofs.Patches.{length-patched, patched_inside}
use Rattle.disk_content.specs.declared.undo_log.UndoEntry.{UndoEntry}
use Rattle.disk_content.specs.Tables.{with_file, with_bytes, range_in}
use Rattle.disk_content.specs.Writes.{is_other}
use Rattle.disk_content.specs.Contents.{Content, FitsFile, AllFit, content_after_create, content_after_write, content_after_failed_write, content_after_sync, content_after_remove}
use Rattle.disk_content.specs.Undo.{Undo, Unwound, unwound, as_write, entries_of_others, undo_after, undo_without, AllLieIn, held_in}
use Rattle.disk_content.proofs.TableLemmas.{with_bytes_found}
use Rattle.disk_content.proofs.FitLemmas.{fits_of, all_fit_kept}
use Rattle.disk_content.proofs.WriteLemmas.{undone, all_fit_push}
use Rattle.disk_content.proofs.NameLemmas.{fit_added}
use Rattle.disk_content.proofs.UndoLemmas.{unwound_push, unwound_synced, unwound_removed, unwound_created, is_apart}

-- what is held by what was undone
abbrev held : Files → Undo → Unwound → Content
held seen u before = record { seen = seen; synced = before.files; pending = record { writes = before.writes; room = u.room } }

lies_push : (es : List UndoEntry) (e : UndoEntry) (f : Files) → AllLieIn es f → FitsFile (as_write e) (get f e.name) → AllLieIn (es ++ e ∷ []) f
lies_push es e f all fits = subst (λ ws. AllFit ws f) (sym (map-append as_write es (e ∷ []))) (all_fit_push (map as_write es) (as_write e) f all fits)

lies_others : (es : List UndoEntry) (name : FileName) (old new : Files) → ((q : FileName) → (q ≡ name → ⊥) → get new q ≡ get old q) → AllLieIn es old → AllLieIn (entries_of_others name es) new
lies_others [] name old new same all = tt
lies_others (e ∷ es) name old new same all =
    elim (is_other name e.name) as (λ b. is_other name e.name ≡ b → AllFit (map as_write (cond b (e ∷ entries_of_others name es) (entries_of_others name es))) new) [
      | true ↦ λ is. (subst (FitsFile (as_write e)) (sym (same e.name (is_apart name e.name is))) all.0, lies_others es name old new same all.1)
      | false ↦ λ is. lies_others es name old new same all.1
    ] refl

pub held_created : (seen : Files) (u : Undo) (name : FileName) (size : ℕ) → get seen name ≡ None → AllLieIn u.entries seen → held_in (files_with_zeros name size seen) u ≡ content_after_create name size (held_in seen u)
held_created seen u name size none all = ap (held (files_with_zeros name size seen) u) (unwound_created u.entries seen name (replicate size 0) none all)

pub lies_created : (es : List UndoEntry) (seen : Files) (name : FileName) (size : ℕ) → get seen name ≡ None → AllLieIn es seen → AllLieIn es (files_with_zeros name size seen)
lies_created es seen name size none all = fit_added (map as_write es) seen name (replicate size 0) none all

pub held_failed : (seen : Files) (u : Undo) (name : FileName) (at : ℕ) (bytes : List ℕ) → held_in seen (undo_after name at bytes false u) ≡ content_after_failed_write name at bytes (held_in seen u)
held_failed seen u name at bytes = ap (held seen (undo_after name at bytes false u)) (unwound_push u.entries (record { name = name; at = at; bytes = bytes; done = false; lost = None }) seen)

pub lies_failed : (seen : Files) (u : Undo) (name : FileName) (at : ℕ) (bytes : List ℕ) → IsInside name at (length bytes) seen → AllLieIn u.entries seen → AllLieIn (undo_after name at bytes false u).entries seen
lies_failed seen u name at bytes inside all =
    let e : UndoEntry = record { name = name; at = at; bytes = bytes; done = false; lost = None } in
    lies_push u.entries e seen all (fits_of (as_write e) seen inside)

module _ (seen : Files) (name : FileName) (at : ℕ) (bytes : List ℕ) (inside : IsInside name at (length bytes) seen) where
  abbrev pub replaced : List ℕ
  replaced = range_in at (length bytes) (get seen name)

  abbrev new : List ℕ
  new = patched inside.file at bytes

  replaced_is : replaced ≡ take (length bytes) (drop at inside.file)
  replaced_is = ap (range_in at (length bytes)) inside.there

  length-replaced : length replaced ≡ length bytes
  length-replaced = ap length replaced_is ∙ simp (length-take, length-drop) (omega (arith, inside.within))

  after : with_bytes name at bytes seen ≡ insert seen name new
  after = sym (with_bytes_found seen name at bytes inside.file inside.there)

  -- what is put back is what was there
  put_back : with_bytes name at replaced (with_bytes name at bytes seen) ≡ seen
  put_back =
      ap (with_bytes name at replaced) after
      ∙ sym (with_bytes_found (insert seen name new) name at replaced new (get_here seen name new))
      ∙ insert_over seen name new (patched new at replaced)
      ∙ ap (insert seen name) (ap (patched new at) replaced_is ∙ undone inside.file at bytes inside.within)
      ∙ insert_same seen name inside.file inside.there

  -- and what it was is read back
  read_back : range_in at (length replaced) (get (with_bytes name at bytes seen) name) ≡ bytes
  read_back =
      ap (λ n. range_in at n (get (with_bytes name at bytes seen) name)) length-replaced
      ∙ ap (range_in at (length bytes)) (ap (λ (m : Files). get m name) after ∙ get_here seen name new)
      ∙ same_lists _ _ len each
    where
      whole : length new ≡ length inside.file
      whole = length-patched inside.file at bytes inside.within

      len : length (take (length bytes) (drop at new)) ≡ length bytes
      len = simp (length-take, length-drop) (omega (arith, whole, inside.within))

      there : (k d : ℕ) → k < length bytes → get_or (take (length bytes) (drop at new)) k d ≡ get_or new (at + k) d
      there k d below = grind (arith, places)

      each : (k d : ℕ) → k < length (take (length bytes) (drop at new)) → get_or (take (length bytes) (drop at new)) k d ≡ get_or bytes k d
      each k d below = there k d (omega (arith, below, len)) ∙ patched_inside inside.file at bytes (at + k) d inside.within (omega arith) (omega (arith, below, len)) ∙ ap (λ j. get_or bytes j d) (omega arith)

  abbrev entry : UndoEntry
  entry = record { name = name; at = at; bytes = replaced; done = true; lost = None }

  pub held_written : (u : Undo) → held_in (with_bytes name at bytes seen) (undo_after name at replaced true u) ≡ content_after_write name at bytes (held_in seen u)
  held_written u =
      ap (held (with_bytes name at bytes seen) (undo_after name at replaced true u)) (unwound_push u.entries entry (with_bytes name at bytes seen)
      ∙ (λ i. record { files = (unwound u.entries (put_back i)).files; writes = (unwound u.entries (put_back i)).writes ++ (record { name = name; at = at; bytes = read_back i }) ∷ [] }))

  pub lies_written : (u : Undo) → AllLieIn u.entries seen → AllLieIn (undo_after name at replaced true u).entries (with_bytes name at bytes seen)
  lies_written u all = all_fit_kept (map as_write (u.entries ++ entry ∷ [])) seen name at bytes inside
      (lies_push u.entries entry seen all (fits_of (as_write entry) seen (record { file = inside.file; there = inside.there; within = omega (arith, inside.within, length-replaced) })))

pub held_synced : (seen : Files) (u : Undo) (name : FileName) → IsPresent name seen → held_in seen (undo_without name u) ≡ content_after_sync name (held_in seen u)
held_synced seen u name present =
    ap (held seen (undo_without name u)) (unwound_synced u.entries seen name present.file present.there)
    ∙ ap (λ o. record (content_after_sync name (held_in seen u)) { synced = with_file name o (unwound u.entries seen).files }) (sym present.there)

pub lies_synced : (seen : Files) (u : Undo) (name : FileName) → AllLieIn u.entries seen → AllLieIn (undo_without name u).entries seen
lies_synced seen u name all = lies_others u.entries name seen seen (λ q apart. refl) all

pub held_removed : (seen : Files) (u : Undo) (name : FileName) → held_in (files_without name seen) (undo_without name u) ≡ content_after_remove name (held_in seen u)
held_removed seen u name = ap (held (files_without name seen) (undo_without name u)) (unwound_removed u.entries seen name)

pub lies_removed : (seen : Files) (u : Undo) (name : FileName) → AllLieIn u.entries seen → AllLieIn (undo_without name u).entries (files_without name seen)
lies_removed seen u name all = lies_others u.entries name seen (files_without name seen) (λ q apart. get_stays seen name q apart) all
