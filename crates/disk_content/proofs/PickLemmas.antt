-- Pending writes, done one by one as a pick says.
use Rattle.std.proofs.Common.{◌≡◌, ℕ, ◌/◌, ◌%◌, List, ◌∷◌, length, sym, ap, subst, ◌∙◌, arith}
use Rattle.m3_outside.specs.Files.{Files, IsInside}
use Rattle.disk_content.specs.Writes.{PendingWrite}
use Rattle.disk_content.specs.Tables.{with_bytes}
use Rattle.disk_content.specs.Picks.{picked_bytes, picked_files}
use Rattle.disk_content.specs.Contents.{AllFit}
use Rattle.disk_content.proofs.FitLemmas.{inside_of, inside_less, length-picked, all_fit_kept}

-- what is left of the first write lies in its file
pub left_inside : (ws rest : List PendingWrite) (w : PendingWrite) (files : Files) (digit : ℕ) (left : List ℕ) → ws ≡ w ∷ rest → AllFit ws files → left ≡ picked_bytes digit w.bytes → IsInside w.name w.at (length left) files
left_inside ws rest w files digit left here fit is =
    let all : AllFit (w ∷ rest) files = subst (λ (l : List PendingWrite). AllFit l files) here fit in
    inside_less w.name w.at (length left) (length w.bytes) files (omega (arith, ap length is, length-picked digit w.bytes)) (inside_of w files all.0)

pub record Stepped (pick : ℕ) (ws rest : List PendingWrite) (files new : Files) : Type 0 where
  pub fit : AllFit rest new
  pub same : picked_files (pick / 4) rest new ≡ picked_files pick ws files

pub stepped : (ws rest : List PendingWrite) (w : PendingWrite) (files new : Files) (pick : ℕ) (left : List ℕ) → ws ≡ w ∷ rest → AllFit ws files → left ≡ picked_bytes (pick % 4) w.bytes
    → new ≡ with_bytes w.name w.at left files → Stepped pick ws rest files new
stepped ws rest w files new pick left here fit is after =
    let all : AllFit (w ∷ rest) files = subst (λ (l : List PendingWrite). AllFit l files) here fit in
    record {
      fit = subst (AllFit rest) (sym after) (all_fit_kept rest files w.name w.at left (left_inside ws rest w files (pick % 4) left here fit is) all.1);
      same = ap (λ (f : Files). picked_files (pick / 4) rest f) (after ∙ ap (λ (l : List ℕ). with_bytes w.name w.at l files) is) ∙ sym (ap (λ (l : List PendingWrite). picked_files pick l files) here);
    }
