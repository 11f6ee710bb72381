-- Names of files that are there.
use Rattle.std.proofs.Common.{◌≡◌, ℕ, ◌+◌, ◌-◌, ◌<◌, ◌≤◌, List, [], ◌∷◌, ◌++◌, length, take, drop, get_or, Bool, cond, true, false, Option, Some, None, refl, sym, ap, ◌∙◌, arith, if◌then◌else◌}
use Rattle.std.specs.Prelude.{is_some, option_map, filter}
use Rattle.std.specs.FinMap.{get}
use Rattle.std.proofs.lemmas.List.{take_more, get_or-drop, drop-drop}
use Rattle.std.proofs.lemmas.List.Elements.{filter-append}
use Rattle.shard_files.proofs.m3_model_proofs.Lists.{IsIn-filter, IsIn-filter_passes}
use Rattle.shard_files.specs.m3_outside.declared.file_name.FileName.{FileName}
use Rattle.shard_files.specs.m3_outside.Files.{Files}
use Rattle.shard_files.specs.m3_outside.Removal.{AreRemovable}
use Rattle.shard_files.proofs.m3_outside_proofs.Removal.{Distinct, removable}
use Rattle.shard_files.specs.Steps.{those_there, files_of_volume, parts_there}
use Rattle.fileset_write.proofs.WriteLemmas.{apart_by_kinds, seven_kinds}

-- a size is known of what is there
pub sized : (o : Option (List ℕ)) → is_some (option_map length o) ≡ is_some o
sized None = refl
sized (Some file) = refl

one_there : (name : FileName) (files : Files) (b : Bool) → is_some (get files name) ≡ b → those_there (name ∷ []) files ≡ (if b then name ∷ [] else [])
one_there name files b is = ap (λ (v : Bool). cond v (name ∷ []) []) is

module _ (names olds news : List FileName) (i count result : ℕ) (name d : FileName) (files : Files) (is_there : Bool)
    (lt : i < length olds) (few : count ≤ i) (rest : drop i names ≡ drop i olds) (same : name ≡ get_or names i d) where
  -- the name at the offset is still the old one
  old_name : name ≡ get_or olds i d
  old_name =
      let zero : i + 0 ≡ i = omega arith in
      same ∙ ap (λ k. get_or names k d) (sym zero) ∙ sym (get_or-drop i names 0 d) ∙ ap (λ (l : List FileName). get_or l 0 d) rest ∙ get_or-drop i olds 0 d ∙ ap (λ k. get_or olds k d) zero

  pub kept_more : is_some (get files name) ≡ is_there → take count names ≡ those_there (take i olds) files → take result news ≡ take count names ++ (if is_there then name ∷ [] else [])
      → take result news ≡ those_there (take (i + 1) olds) files
  kept_more there before after =
      let named : take (i + 1) olds ≡ take i olds ++ name ∷ [] = take_more olds i d lt ∙ ap (λ (n : FileName). take i olds ++ n ∷ []) (sym old_name) in
      after
      ∙ ap (λ (l : List FileName). l ++ (if is_there then name ∷ [] else [])) before
      ∙ ap (λ (l : List FileName). those_there (take i olds) files ++ l) (sym (one_there name files is_there there))
      ∙ sym (filter-append (λ (n : FileName). is_some (get files n)) (take i olds) (name ∷ []))
      ∙ ap (λ (l : List FileName). those_there l files) (sym named)

-- what is behind an offset, from a later offset on
pub rest_more : (xs ys : List FileName) (count i : ℕ) → count ≤ i → drop (count + 1) xs ≡ drop (count + 1) ys → drop (i + 1) xs ≡ drop (i + 1) ys
rest_more xs ys count i le same =
    let at : i + 1 ≡ count + 1 + (i - count) = omega (arith, le) in
    ap (λ k. drop k xs) at ∙ sym (drop-drop (i - count) (count + 1) xs) ∙ ap (drop (i - count)) same ∙ drop-drop (i - count) (count + 1) ys ∙ ap (λ k. drop k ys) (sym at)

-- ---- the files of a volume

some_there : (o : Option (List ℕ)) → is_some o ≡ true → (file : List ℕ) × (o ≡ Some file)
some_there None e = absurd (cc)
some_there (Some file) e = (file, refl)

filter_distinct : (p : FileName → Bool) (names : List FileName) → Distinct names → Distinct (filter p names)
filter_distinct p [] apart = tt
filter_distinct p (name ∷ names) apart = by (p name) (filter_distinct p names apart.1)
  where
    by : (b : Bool) → Distinct (filter p names) → Distinct (cond b (name ∷ filter p names) (filter p names))
    by true rest = ((λ q m same. apart.0 q (IsIn-filter p names q m) same), rest)
    by false rest = rest

seven_apart : (ns start number : ℕ) → Distinct (files_of_volume ns start number)
seven_apart ns start number = apart_by_kinds (files_of_volume ns start number) (seven_kinds ns start number)

-- those of a volume's files that are there can be taken away
pub parts_removable : (ns start number : ℕ) (files : Files) → AreRemovable (parts_there ns start number files) files
parts_removable ns start number files =
    let p : FileName → Bool = λ name. is_some (get files name) in
    removable (parts_there ns start number files) files (filter_distinct p (files_of_volume ns start number) (seven_apart ns start number))
    (λ q m. let f = some_there (get files q) (IsIn-filter_passes p (files_of_volume ns start number) q m) in record { file = f.0; there = f.1 })
