-- Tables of files: their code, and how one file of a table is changed.
use Rattle.std.specs.Prelude.{ℕ, List, [], take, drop, Option, Some, None, refl}
use Rattle.std.specs.Coded.{Coded, code_by, coded×, coded_ℕ, coded_list}
use Rattle.std.specs.FinMap.{get, insert, code}
use Rattle.m3_outside.specs.declared.file_name.FileName.{FileName}
use Rattle.m3_outside.specs.Files.{Files, patched}

abbrev pub name_code : Coded FileName
name_code = code_by (ℕ × (ℕ × (ℕ × ℕ))) (coded× coded_ℕ (coded× coded_ℕ (coded× coded_ℕ coded_ℕ))) (λ n. (n.kind, (n.ns, (n.block, n.number)))) (λ p. record { kind = p.0; ns = p.1.0; block = p.1.1.0; number = p.1.1.1 }) (λ _. refl)

abbrev pub files_code : Coded Files
files_code = code name_code (coded_list coded_ℕ)

-- the files with one at this name, where there is one to put there
abbrev pub with_file : FileName → Option (List ℕ) → Files → Files
with_file name None files = files
with_file name (Some file) files = insert files name file

-- a file with these bytes at this offset
abbrev pub patched_file : ℕ → List ℕ → Option (List ℕ) → Option (List ℕ)
patched_file at bytes None = None
patched_file at bytes (Some file) = Some (patched file at bytes)

-- the files with these bytes at this offset of one of them
abbrev pub with_bytes : FileName → ℕ → List ℕ → Files → Files
with_bytes name at bytes files = with_file name (patched_file at bytes (get files name)) files

-- so many bytes of a file from this offset on
abbrev pub range_in : ℕ → ℕ → Option (List ℕ) → List ℕ
range_in at n None = []
range_in at n (Some file) = take n (drop at file)

-- the bytes that a copy is of, also where they are lost
abbrev pub copied_bytes : List ℕ → Option (List ℕ) → List ℕ
copied_bytes bytes None = bytes
copied_bytes bytes (Some lost) = lost
