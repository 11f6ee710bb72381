-- The writes of a disk in memory that no sync of their file has followed.
use Rattle.std.specs.Prelude.{◌≡◌, ℕ, ◌-◌, Bool, not, List, [], ◌∷◌, ◌++◌, refl}
use Rattle.std.specs.Coded.{Coded, code_by, coded×, coded_ℕ, coded_list}
use Rattle.std.specs.List.{filter}
use Rattle.std.specs.Ordering.{eq_by_cmp}
use Rattle.m3_outside.specs.declared.file_name.FileName.{FileName}
use Rattle.m3_outside.specs.Files.{name_cmp}
use Rattle.disk_content.specs.Tables.{name_code}

-- the names are two
unfoldable pub is_other : FileName → FileName → Bool
is_other name other = not (eq_by_cmp name_cmp name other)

pub is_other_is : (name other : FileName) → is_other name other ≡ not (eq_by_cmp name_cmp name other)
unfolding is_other
is_other_is name other = refl

-- a write that no sync of its file has followed
pub record PendingWrite : Type 0 where
  pub name : FileName
  pub at : ℕ
  pub bytes : List ℕ

-- the pending writes in their order; there is room for so many more calls that change files
pub record Pending : Type 0 where
  pub writes : List PendingWrite
  pub room : ℕ

abbrev pub write_code : Coded PendingWrite
write_code = code_by (FileName × (ℕ × List ℕ)) (coded× name_code (coded× coded_ℕ (coded_list coded_ℕ))) (λ w. (w.name, (w.at, w.bytes))) (λ p. record { name = p.0; at = p.1.0; bytes = p.1.1 }) (λ _. refl)

abbrev pub pending_code : Coded Pending
pending_code = code_by (List PendingWrite × ℕ) (coded× (coded_list write_code) coded_ℕ) (λ p. (p.writes, p.room)) (λ p. record { writes = p.0; room = p.1 }) (λ _. refl)

-- those to other files
abbrev pub to_others : FileName → List PendingWrite → List PendingWrite
to_others name writes = filter (λ w. is_other name w.name) writes

-- with one more write
abbrev pub pending_after_write : FileName → ℕ → List ℕ → Pending → Pending
pending_after_write name at bytes p = record p { writes = p.writes ++ (record { name = name; at = at; bytes = bytes }) ∷ []; room = p.room - 1 }

-- without the writes to a file
abbrev pub pending_without : FileName → Pending → Pending
pending_without name p = record p { writes = to_others name p.writes; room = p.room - 1 }
