-- Writes that are undone, the last of them first.
use Rattle.std.proofs.Common.{◌≡◌, ⊎_elim, ℕ, ◌+◌, ◌-◌, ◌<◌, ◌≤◌, zero, suc, List, [], ◌∷◌, ◌++◌, length, take, drop, get_or, Bool, true, false, cond, not, if◌then◌else◌, refl, sym, ap, subst, ◌∙◌, Option, Some, None, arith, length-take, length-drop}
use Rattle.std.proofs.lemmas.List.{drop_more, drop-drop, get_or-take}
use Rattle.std.specs.FinMap.{get, insert, remove}
use Rattle.std.specs.Ordering.{eq_by_cmp}
use Rattle.m3_outside.specs.declared.file_name.FileName.{FileName}
use Rattle.m3_outside.specs.Files.{Files, name_cmp, patched}
use Rattle.m3_outside.proofs.Names.{name_is, get_here, get_apart, get_gone, get_stays, is_insert, is_remove, insert_same, insert_over, eq_true, eq_itself}
use Rattle.disk_content.specs.declared.undo_log.UndoEntry.{UndoEntry}
use Rattle.disk_content.specs.Tables.{with_file, patched_file, with_bytes, range_in}
use Rattle.disk_content.specs.Writes.{PendingWrite, is_other, is_other_is, to_others}
use Rattle.disk_content.specs.Contents.{FitsFile, AllFit}
use Rattle.disk_content.specs.Undo.{Unwound, unwound, files_before, write_of, as_write, entries_of_others, AllLieIn}
use Rattle.disk_content.proofs.TableLemmas.{with_bytes_found}
use Rattle.disk_content.proofs.FitLemmas.{inside_of, all_fit_kept}

-- the files after one more write are undone first
pub unwound_push : (es : List UndoEntry) (e : UndoEntry) (f : Files) → unwound (es ++ e ∷ []) f ≡ record { files = (unwound es (files_before e f)).files; writes = (unwound es (files_before e f)).writes ++ write_of e f ∷ [] }
unwound_push [] e f = refl
unwound_push (d ∷ es) e f = ap (λ (u : Unwound). record { files = files_before d u.files; writes = write_of d u.files ∷ u.writes }) (unwound_push es e f)

is_named : (name other : FileName) → is_other name other ≡ false → name ≡ other
is_named name other e = eq_true name other (elim (eq_by_cmp name_cmp name other) as (λ b. not b ≡ false → b ≡ true) [ true ↦ λ h. refl | false ↦ λ h. sym h ] (sym (is_other_is name other) ∙ e))

pub is_apart : (name other : FileName) → is_other name other ≡ true → other ≡ name → ⊥
is_apart name other e same = let h : not (eq_by_cmp name_cmp name other) ≡ true = sym (is_other_is name other) ∙ e in
    let k : eq_by_cmp name_cmp name other ≡ true = ap (λ m. eq_by_cmp name_cmp name m) same ∙ eq_itself name in
    cc

-- a change of the one file, which forgets what was written there
record ChangesOne (name : FileName) (change : Files → Files) : Type 0 where
  apart : (m : Files) (q : FileName) → (q ≡ name → ⊥) → get (change m) q ≡ get m q
  commutes : (m : Files) (k : FileName) (at : ℕ) (bytes : List ℕ) → (k ≡ name → ⊥) → with_bytes k at bytes (change m) ≡ change (with_bytes k at bytes m)
  forgets : (m : Files) (at : ℕ) (bytes : List ℕ) → change (with_bytes name at bytes m) ≡ change m

bytes_none : (m : Files) (k : FileName) (at : ℕ) (bytes : List ℕ) → get m k ≡ None → with_bytes k at bytes m ≡ m
bytes_none m k at bytes none = ap (λ o. with_file k (patched_file at bytes o) m) none

module _ (name : FileName) (v : List ℕ) where
  swap_inserts : (m : Files) (k : FileName) (w : List ℕ) → (k ≡ name → ⊥) → insert (insert m name v) k w ≡ insert (insert m k w) name v
  swap_inserts m k w apart = is_insert (insert m k w) (insert (insert m name v) k w) name v (get_apart (insert m name v) k w name (λ same. apart (sym same)) ∙ get_here m name v)
      (λ q other. ⊎_elim
      (λ (same : q ≡ k). subst (λ r. get (insert (insert m name v) k w) r ≡ get (insert m k w) r) (sym same) (get_here (insert m name v) k w ∙ sym (get_here m k w)))
      (λ (not_k : q ≡ k → ⊥). get_apart (insert m name v) k w q not_k ∙ get_apart m name v q other ∙ sym (get_apart m k w q not_k))
      (name_is q k))

  put_commutes : (m : Files) (k : FileName) (at : ℕ) (bytes : List ℕ) (o : Option (List ℕ)) → get m k ≡ o → (k ≡ name → ⊥) → with_bytes k at bytes (insert m name v) ≡ insert (with_bytes k at bytes m) name v
  put_commutes m k at bytes None is apart = bytes_none (insert m name v) k at bytes (get_apart m name v k apart ∙ is) ∙ ap (λ (n : Files). insert n name v) (sym (bytes_none m k at bytes is))
  put_commutes m k at bytes (Some file) is apart =
      sym (with_bytes_found (insert m name v) k at bytes file (get_apart m name v k apart ∙ is)) ∙ swap_inserts m k (patched file at bytes) apart ∙ ap (λ (n : Files). insert n name v) (with_bytes_found m k at bytes file is)

  put_forgets : (m : Files) (at : ℕ) (bytes : List ℕ) (o : Option (List ℕ)) → get m name ≡ o → insert (with_bytes name at bytes m) name v ≡ insert m name v
  put_forgets m at bytes None is = ap (λ (n : Files). insert n name v) (bytes_none m name at bytes is)
  put_forgets m at bytes (Some file) is = ap (λ (n : Files). insert n name v) (sym (with_bytes_found m name at bytes file is)) ∙ insert_over m name (patched file at bytes) v

  put_changes : ChangesOne name (λ m. insert m name v)
  put_changes = record {
    apart = λ m q apart. get_apart m name v q apart;
    commutes = λ m k at bytes apart. put_commutes m k at bytes (get m k) refl apart;
    forgets = λ m at bytes. put_forgets m at bytes (get m name) refl;
  }

module _ (name : FileName) where
  swap_removes : (m : Files) (k : FileName) (w : List ℕ) → (k ≡ name → ⊥) → insert (remove m name) k w ≡ remove (insert m k w) name
  swap_removes m k w apart = is_remove (insert m k w) (insert (remove m name) k w) name (get_apart (remove m name) k w name (λ same. apart (sym same)) ∙ get_gone m name)
      (λ q other. ⊎_elim
      (λ (same : q ≡ k). subst (λ r. get (insert (remove m name) k w) r ≡ get (insert m k w) r) (sym same) (get_here (remove m name) k w ∙ sym (get_here m k w)))
      (λ (not_k : q ≡ k → ⊥). get_apart (remove m name) k w q not_k ∙ get_stays m name q other ∙ sym (get_apart m k w q not_k))
      (name_is q k))

  gone_commutes : (m : Files) (k : FileName) (at : ℕ) (bytes : List ℕ) (o : Option (List ℕ)) → get m k ≡ o → (k ≡ name → ⊥) → with_bytes k at bytes (remove m name) ≡ remove (with_bytes k at bytes m) name
  gone_commutes m k at bytes None is apart = bytes_none (remove m name) k at bytes (get_stays m name k apart ∙ is) ∙ ap (λ (n : Files). remove n name) (sym (bytes_none m k at bytes is))
  gone_commutes m k at bytes (Some file) is apart =
      sym (with_bytes_found (remove m name) k at bytes file (get_stays m name k apart ∙ is)) ∙ swap_removes m k (patched file at bytes) apart ∙ ap (λ (n : Files). remove n name) (with_bytes_found m k at bytes file is)

  gone_forgets : (m : Files) (at : ℕ) (bytes : List ℕ) (o : Option (List ℕ)) → get m name ≡ o → remove (with_bytes name at bytes m) name ≡ remove m name
  gone_forgets m at bytes None is = ap (λ (n : Files). remove n name) (bytes_none m name at bytes is)
  gone_forgets m at bytes (Some file) is =
      ap (λ (n : Files). remove n name) (sym (with_bytes_found m name at bytes file is))
      ∙ is_remove m (remove (insert m name (patched file at bytes)) name) name (get_gone (insert m name (patched file at bytes)) name) (λ q apart. get_stays (insert m name (patched file at bytes)) name q apart ∙ get_apart m name (patched file at bytes) q apart)

  gone_changes : ChangesOne name (λ m. remove m name)
  gone_changes = record {
    apart = λ m q apart. get_stays m name q apart;
    commutes = λ m k at bytes apart. gone_commutes m k at bytes (get m k) refl apart;
    forgets = λ m at bytes. gone_forgets m at bytes (get m name) refl;
  }

module _ (name : FileName) (change : Files → Files) (one : ChangesOne name change) where
  before_apart : (e : UndoEntry) (f : Files) → (e.name ≡ name → ⊥) → files_before e (change f) ≡ change (files_before e f)
  before_apart e f apart = elim e.done as (λ b. (if b then with_bytes e.name e.at e.bytes (change f) else change f) ≡ change (if b then with_bytes e.name e.at e.bytes f else f)) [ true ↦ one.commutes f e.name e.at e.bytes apart | false ↦ refl ]

  before_here : (e : UndoEntry) (f : Files) → name ≡ e.name → change (files_before e f) ≡ change f
  before_here e f same = elim e.done as (λ b. change (if b then with_bytes e.name e.at e.bytes f else f) ≡ change f) [ true ↦ ap (λ k. change (with_bytes k e.at e.bytes f)) (sym same) ∙ one.forgets f e.at e.bytes | false ↦ refl ]

  write_apart : (e : UndoEntry) (f : Files) → (e.name ≡ name → ⊥) → write_of e (change f) ≡ write_of e f
  write_apart e f apart = ap (λ (o : Option (List ℕ)). record { name = e.name; at = e.at; bytes = if e.done then range_in e.at (length e.bytes) o else e.bytes }) (one.apart f e.name apart)

  abbrev changed : Unwound → Unwound
  changed u = record { files = change u.files; writes = to_others name u.writes }

  one_dropped : (e : UndoEntry) (es : List UndoEntry) (f : Files) (b : Bool) → is_other name e.name ≡ b → unwound (entries_of_others name es) (change f) ≡ changed (unwound es f)
      → unwound (cond b (e ∷ entries_of_others name es) (entries_of_others name es)) (change f)
      ≡ record { files = change (files_before e (unwound es f).files); writes = cond b (write_of e (unwound es f).files ∷ to_others name (unwound es f).writes) (to_others name (unwound es f).writes) }
  one_dropped e es f true is rest =
      let apart = is_apart name e.name is in
      ap (λ (u : Unwound). record { files = files_before e u.files; writes = write_of e u.files ∷ u.writes }) rest
      ∙ (λ i. record { files = before_apart e (unwound es f).files apart i; writes = write_apart e (unwound es f).files apart i ∷ to_others name (unwound es f).writes })
  one_dropped e es f false is rest = rest ∙ ap (λ (m : Files). record { files = m; writes = to_others name (unwound es f).writes }) (sym (before_here e (unwound es f).files (is_named name e.name is)))

  -- the entries of the file dropped, and the file changed
  unwound_dropped : (es : List UndoEntry) (f : Files) → unwound (entries_of_others name es) (change f) ≡ changed (unwound es f)
  unwound_dropped [] f = refl
  unwound_dropped (e ∷ es) f = one_dropped e es f (is_other name e.name) refl (unwound_dropped es f)

-- after a sync
pub unwound_synced : (es : List UndoEntry) (f : Files) (name : FileName) (v : List ℕ) → get f name ≡ Some v → unwound (entries_of_others name es) f ≡ record { files = insert (unwound es f).files name v; writes = to_others name (unwound es f).writes }
unwound_synced es f name v is = ap (unwound (entries_of_others name es)) (sym (insert_same f name v is)) ∙ unwound_dropped name (λ m. insert m name v) (put_changes name v) es f

-- after the file is taken away
pub unwound_removed : (es : List UndoEntry) (f : Files) (name : FileName) → unwound (entries_of_others name es) (remove f name) ≡ record { files = remove (unwound es f).files name; writes = to_others name (unwound es f).writes }
unwound_removed es f name = unwound_dropped name (λ m. remove m name) (gone_changes name) es f

-- an entry lies in no file that isn't there
named_apart : (e : UndoEntry) (f : Files) (name : FileName) → get f name ≡ None → FitsFile (as_write e) (get f e.name) → e.name ≡ name → ⊥
named_apart e f name none fits same = subst (FitsFile (as_write e)) (ap (get f) same ∙ none) fits

-- with a new file
pub unwound_created : (es : List UndoEntry) (f : Files) (name : FileName) (v : List ℕ) → get f name ≡ None → AllLieIn es f → unwound es (insert f name v) ≡ record { files = insert (unwound es f).files name v; writes = (unwound es f).writes }
unwound_created [] f name v none all = refl
unwound_created (e ∷ es) f name v none all =
    let apart = named_apart e f name none all.0 in
    ap (λ (u : Unwound). record { files = files_before e u.files; writes = write_of e u.files ∷ u.writes }) (unwound_created es f name v none all.1)
    ∙ (λ i. record { files = before_apart name (λ m. insert m name v) (put_changes name v) e (unwound es f).files apart i; writes = write_apart name (λ m. insert m name v) (put_changes name v) e (unwound es f).files apart i ∷ (unwound es f).writes })

before_fits : (e : UndoEntry) (f : Files) (ws : List PendingWrite) → FitsFile (as_write e) (get f e.name) → AllFit ws f → AllFit ws (files_before e f)
before_fits e f ws fits all = elim e.done as (λ b. AllFit ws (if b then with_bytes e.name e.at e.bytes f else f)) [ true ↦ all_fit_kept ws f e.name e.at e.bytes (inside_of (as_write e) f fits) all | false ↦ all ]

-- what lies in the files lies in those before
pub unwound_fits : (es : List UndoEntry) (f : Files) (ws : List PendingWrite) → AllLieIn es f → AllFit ws f → AllFit ws (unwound es f).files
unwound_fits [] f ws all fit = fit
unwound_fits (e ∷ es) f ws all fit = let rest = unwound_fits es f (as_write e ∷ ws) all.1 (all.0, fit) in before_fits e (unwound es f).files ws rest.0 rest.1

as_long : (w v : PendingWrite) (o : Option (List ℕ)) → w.at ≡ v.at → length w.bytes ≡ length v.bytes → FitsFile v o → FitsFile w o
as_long w v None at len fits = fits
as_long w v (Some file) at len fits = omega (arith, at, len, fits)

length-range : (w : PendingWrite) (o : Option (List ℕ)) → FitsFile w o → length (range_in w.at (length w.bytes) o) ≡ length w.bytes
length-range w None fits = absurd fits
length-range w (Some file) fits = simp (length-take, length-drop) (omega (arith, fits))

length-write_of : (e : UndoEntry) (f : Files) → FitsFile (as_write e) (get f e.name) → length (write_of e f).bytes ≡ length e.bytes
length-write_of e f fits = elim e.done as (λ b. length (if b then range_in e.at (length e.bytes) (get f e.name) else e.bytes) ≡ length e.bytes) [ true ↦ length-range (as_write e) (get f e.name) fits | false ↦ refl ]

-- the writes lie in the files before them
pub unwound_all_fit : (es : List UndoEntry) (f : Files) → AllLieIn es f → AllFit (unwound es f).writes (unwound es f).files
unwound_all_fit [] f all = tt
unwound_all_fit (e ∷ es) f all =
    let m = (unwound es f).files in
    let here : FitsFile (as_write e) (get m e.name) = (unwound_fits es f (as_write e ∷ []) all.1 (all.0, tt)).0 in
    let there = before_fits e m (as_write e ∷ []) here (here, tt) in
    (as_long (write_of e m) (as_write e) (get (files_before e m) e.name) refl (length-write_of e m here) there.0, before_fits e m (unwound es f).writes here (unwound_all_fit es f all.1))

pub lies_drop : (es : List UndoEntry) (n : ℕ) (f : Files) → AllLieIn es f → AllLieIn (drop n es) f
lies_drop es zero f all = all
lies_drop [] (suc n) f all = all
lies_drop (e ∷ es) (suc n) f all = lies_drop es n f all.1

lies_at : (es : List UndoEntry) (i : ℕ) (d : UndoEntry) (f : Files) → i < length es → AllLieIn es f → FitsFile (as_write (get_or es i d)) (get f (get_or es i d).name)
lies_at [] i d f lt all = absurd (omega arith)
lies_at (e ∷ es) zero d f lt all = all.0
lies_at (e ∷ es) (suc i) d f lt all = lies_at es i d f (omega arith) all.1

same_at : (xs ys : List UndoEntry) (i n : ℕ) (d : UndoEntry) → i < n → take n xs ≡ take n ys → get_or xs i d ≡ get_or ys i d
same_at xs ys i n d lt same = sym (get_or-take n xs i d lt) ∙ ap (λ (l : List UndoEntry). get_or l i d) same ∙ get_or-take n ys i d lt

-- the last entry that isn't undone yet lies in the files so far
pub next_lies : (es now : List UndoEntry) (f files : Files) (i : ℕ) (d : UndoEntry) → 0 < i → i ≤ length es → AllLieIn es f → take i now ≡ take i es → files ≡ (unwound (drop i es) f).files
    → FitsFile (as_write (get_or now (i - 1) d)) (get files (get_or now (i - 1) d).name)
next_lies es now f files i d some within all same are =
    let e = get_or es (i - 1) d in
    let fits : FitsFile (as_write e) (get (unwound (drop i es) f).files e.name) = (unwound_fits (drop i es) f (as_write e ∷ []) (lies_drop es i f all) (lies_at es (i - 1) d f (omega arith) all, tt)).0 in
    rw (are, same_at now es (i - 1) i d (omega arith) same) fits

-- the entries from one on, of which those ahead were changed
pub from_here : (now es : List UndoEntry) (i : ℕ) (d : UndoEntry) → i < length now → drop i now ≡ drop i es → drop (i + 1) now ≡ drop (i + 1) es
from_here now es i d lt same = sym (drop-drop 1 i now) ∙ ap (drop 1) same ∙ drop-drop 1 i es

pub first_here : (now es : List UndoEntry) (i : ℕ) (d : UndoEntry) → i < length now → drop i now ≡ drop i es → drop i es ≡ get_or now i d ∷ drop (i + 1) es
first_here now es i d lt same = sym same ∙ drop_more now i d lt ∙ ap (λ (l : List UndoEntry). get_or now i d ∷ l) (from_here now es i d lt same)
