-- Entries with their bytes as if none were lost.
use Rattle.std.proofs.Common.{◌≡◌, ℕ, List, [], ◌∷◌, ◌++◌, length, take, drop, map, true, false, cond, refl, ap, ◌∙◌, arith}
use Rattle.std.proofs.lemmas.List.{append-nil, drop_all, take_all}
use Rattle.m3_outside.specs.declared.file_name.FileName.{FileName}
use Rattle.disk_content.specs.declared.undo_log.UndoEntry.{UndoEntry}
use Rattle.disk_content.specs.Writes.{is_other}
use Rattle.disk_content.specs.Undo.{whole, entries_of_others}

-- the entries of others are the same ones
pub whole_others : (name : FileName) (es : List UndoEntry) → map whole (entries_of_others name es) ≡ entries_of_others name (map whole es)
whole_others name [] = refl
whole_others name (e ∷ es) =
    elim (is_other name e.name) as (λ b. map whole (cond b (e ∷ entries_of_others name es) (entries_of_others name es)) ≡ cond b (whole e ∷ entries_of_others name (map whole es)) (entries_of_others name (map whole es))) [
      | true ↦ ap (λ (l : List UndoEntry). whole e ∷ l) (whole_others name es)
      | false ↦ whole_others name es
    ]

-- items that are all written over
pub all_over : (n : ℕ) (ws items : List UndoEntry) → length ws ≡ length items → n ≡ length items → take n (ws ++ drop (length ws) items) ≡ ws
all_over n ws items len whole = ap (λ (l : List UndoEntry). take n (ws ++ l)) (drop_all (length ws) items (omega (arith, len))) ∙ ap (take n) (append-nil ws) ∙ take_all n ws (omega (arith, len, whole))
