-- Files of a volume that are read one after another.
use Rattle.std.proofs.Common.{◌≡◌, ◌⊎◌, inl, inr, ℕ, ◌+◌, ◌-◌, ◌<◌, ◌≤◌, List, [], ◌∷◌, ◌++◌, length, get_or, Option, None, refl, sym, ap, ◌∙◌, arith}
use Rattle.std.proofs.lemmas.Bool.{cases_lt}
use Rattle.std.proofs.lemmas.List.{get_or_append_left, get_or-append_right}
use Rattle.std.specs.FinMap.{get}
use Rattle.fileset_read.specs.m3_outside.Files.{Files}
use Rattle.fileset_read.specs.m3_outside.declared.file_name.FileName.{FileName}
use Rattle.fileset_check.specs.PartFiles.{AreParts, part_in, file_of}

-- the files of the kinds below this one
pub record ArePartsBelow (of : FileName) (files : Files) (kind : ℕ) (parts : List (Option (List ℕ))) : Type 0 where
  pub each : (k : ℕ) → 1 ≤ k → k < kind → part_in parts k ≡ get files (file_of k of)

pub parts_none : (of : FileName) (files : Files) (parts : List (Option (List ℕ))) → ArePartsBelow of files 1 parts
parts_none of files parts = record { each = λ k low high. absurd (omega (arith, low, high)) }

pub parts_more : (of : FileName) (files : Files) (kind : ℕ) (parts new : List (Option (List ℕ))) (file : Option (List ℕ)) → length parts + 1 ≡ kind → new ≡ parts ++ file ∷ [] → file ≡ get files (file_of kind of) → ArePartsBelow of files kind parts → ArePartsBelow of files (kind + 1) new
parts_more of files kind parts new file long is read p = record { each = λ k low high. ap (λ (l : List (Option (List ℕ))). part_in l k) is ∙ by k low high (cases_lt k kind) }
  where
    by : (k : ℕ) → 1 ≤ k → k < kind + 1 → (k < kind) ⊎ (kind ≤ k) → part_in (parts ++ file ∷ []) k ≡ get files (file_of k of)
    by k low high (inl lt) = get_or_append_left parts (file ∷ []) None (k - 1) (omega (arith, low, lt, long)) ∙ p.each k low lt
    by k low high (inr le) =
        let here : k ≡ kind = omega (arith, high, le) in
        let zero : k - 1 - length parts ≡ 0 = omega (arith, here, long) in
        get_or-append_right parts (file ∷ []) (length parts) (k - 1) None refl (omega (arith, here, long)) ∙ ap (λ (n : ℕ). get_or (file ∷ []) n None) zero ∙ read ∙ ap (λ (n : ℕ). get files (file_of n of)) (sym here)

pub parts_all : (of : FileName) (files : Files) (parts : List (Option (List ℕ))) (kind : ℕ) → 8 ≤ kind → length parts ≡ 7 → ArePartsBelow of files kind parts → AreParts of files parts
parts_all of files parts kind end long p = record { all = long; each = λ k low high. p.each k low (omega (arith, end, high)) }
