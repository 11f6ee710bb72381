-- What a file's size tells of it.
use Rattle.std.proofs.Common.{◌≡◌, ℕ, ◌+◌, ◌≤◌, List, length, true, false, option_map, refl, ap, ◌∙◌, Option, Some, None, arith}
use Rattle.std.specs.Prelude.{is_some}
use Rattle.std.specs.FinMap.{get}
use Rattle.m3_outside.specs.declared.file_name.FileName.{FileName}
use Rattle.m3_outside.specs.Files.{Files, IsAbsent, IsPresent, IsInside}

pub absent_of : (files : Files) (name : FileName) (o : Option ℕ) → o ≡ option_map length (get files name) → false ≡ is_some o → IsAbsent name files
absent_of files name o is none = from (get files name) refl
  where
    from : (f : Option (List ℕ)) → get files name ≡ f → get files name ≡ None
    from None e = e
    from (Some file) e = let t : false ≡ true = none ∙ ap is_some (is ∙ ap (option_map length) e) in absurd (cc)

pub inside_of_size : (files : Files) (name : FileName) (size at n : ℕ) → Some size ≡ option_map length (get files name) → at + n ≤ size → IsInside name at n files
inside_of_size files name size at n is within = from (get files name) refl
  where
    from : (f : Option (List ℕ)) → get files name ≡ f → IsInside name at n files
    from None e = let t : Some size ≡ None = is ∙ ap (option_map length) e in absurd (cc)
    from (Some file) e =
        let t : Some size ≡ Some (length file) = is ∙ ap (option_map length) e in
        let k : size ≡ length file = cc in
        record { file = file; there = e; within = omega (arith, k, within) }

pub present_of : (files : Files) (name : FileName) (size : ℕ) → Some size ≡ option_map length (get files name) → IsPresent name files
present_of files name size is = let inside : IsInside name 0 0 files = inside_of_size files name size 0 0 is (omega arith) in record { file = inside.file; there = inside.there }
