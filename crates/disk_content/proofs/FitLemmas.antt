-- Pending writes lie in their files, whatever is written there.
use Rattle.std.proofs.Common.{◌≡◌, ⊎_elim, ℕ, ◌-◌, ◌≤◌, ◌/◌, List, [], ◌∷◌, length, map, take, Bool, true, false, cond, nat_eq, refl, sym, ap, subst, ◌∙◌, arith, length-take}
use Rattle.std.proofs.lemmas.List.{length-map}
use Rattle.std.specs.Prelude.{Option, Some, None}
use Rattle.std.specs.FinMap.{get, insert}
use Rattle.m3_outside.specs.declared.file_name.FileName.{FileName}
use Rattle.m3_outside.specs.Files.{Files, IsInside, patched}
use Rattle.m3_outside.proofs.Names.{name_is, get_here, get_apart}
use Rattle.m3_outside.proofs.Patches.{length-patched}
use Rattle.disk_content.specs.Writes.{PendingWrite}
use Rattle.disk_content.specs.Tables.{with_bytes}
use Rattle.disk_content.specs.Picks.{picked_bytes}
use Rattle.disk_content.specs.Contents.{FitsFile, AllFit}
use Rattle.disk_content.proofs.TableLemmas.{with_bytes_found}

pub inside_of : (w : PendingWrite) (files : Files) → FitsFile w (get files w.name) → IsInside w.name w.at (length w.bytes) files
inside_of w files fits = from (get files w.name) refl fits
  where
    from : (o : Option (List ℕ)) → get files w.name ≡ o → FitsFile w o → IsInside w.name w.at (length w.bytes) files
    from None is fits = absurd fits
    from (Some file) is fits = record { file = file; there = is; within = fits }

pub fits_of : (w : PendingWrite) (files : Files) → IsInside w.name w.at (length w.bytes) files → FitsFile w (get files w.name)
fits_of w files inside = subst (FitsFile w) (sym inside.there) inside.within

pub inside_less : (name : FileName) (at m n : ℕ) (files : Files) → m ≤ n → IsInside name at n files → IsInside name at m files
inside_less name at m n files le inside = record { file = inside.file; there = inside.there; within = omega (arith, le, inside.within) }

pub length-picked : (digit : ℕ) (bytes : List ℕ) → length (picked_bytes digit bytes) ≤ length bytes
length-picked digit bytes = first (nat_eq digit 0)
  where
    third : (b : Bool) → length (cond b (take (length bytes / 2) bytes) (map (λ x. 255 - x) bytes)) ≤ length bytes
    third true = omega (arith, length-take (length bytes / 2) bytes)
    third false = omega (arith, length-map bytes (λ x. 255 - x))

    second : (b : Bool) → length (cond b bytes (cond (nat_eq digit 2) (take (length bytes / 2) bytes) (map (λ x. 255 - x) bytes))) ≤ length bytes
    second true = omega arith
    second false = third (nat_eq digit 2)

    first : (b : Bool) → length (cond b [] (cond (nat_eq digit 1) bytes (cond (nat_eq digit 2) (take (length bytes / 2) bytes) (map (λ x. 255 - x) bytes)))) ≤ length bytes
    first true = omega arith
    first false = second (nat_eq digit 1)

fit_other : (w : PendingWrite) (o p : Option (List ℕ)) → p ≡ o → FitsFile w o → FitsFile w p
fit_other w o p same fits = subst (FitsFile w) (sym same) fits

-- a file keeps its length where a part of it is written over
pub fit_kept : (w : PendingWrite) (files : Files) (name : FileName) (at : ℕ) (bytes : List ℕ) → IsInside name at (length bytes) files → FitsFile w (get files w.name) → FitsFile w (get (with_bytes name at bytes files) w.name)
fit_kept w files name at bytes inside fits =
    let after : insert files name (patched inside.file at bytes) ≡ with_bytes name at bytes files = with_bytes_found files name at bytes inside.file inside.there in
    subst (λ (m : Files). FitsFile w (get m w.name)) after (⊎_elim
    (λ (same : w.name ≡ name). subst (FitsFile w) (sym (ap (get (insert files name (patched inside.file at bytes))) same ∙ get_here files name (patched inside.file at bytes)))
    (let there : FitsFile w (Some inside.file) = subst (FitsFile w) (ap (get files) same ∙ inside.there) fits in omega (arith, there, length-patched inside.file at bytes inside.within)))
    (λ (apart : w.name ≡ name → ⊥). fit_other w _ _ (get_apart files name _ w.name apart) fits)
    (name_is w.name name))

pub all_fit_kept : (ws : List PendingWrite) (files : Files) (name : FileName) (at : ℕ) (bytes : List ℕ) → IsInside name at (length bytes) files → AllFit ws files → AllFit ws (with_bytes name at bytes files)
all_fit_kept [] files name at bytes inside all = tt
all_fit_kept (w ∷ ws) files name at bytes inside all = (fit_kept w files name at bytes inside all.0, all_fit_kept ws files name at bytes inside all.1)
