-- Which of the names are checkpoints of volumes that count.
use Rattle.std.proofs.Common.{◌≡◌, inl, inr, ℕ, ◌+◌, ◌<◌, List, [], ◌∷◌, ◌++◌, length, take, map, get_or, Bool, true, false, cond, ◌&&◌, if◌then◌else◌, Option, Some, None, Result, Err, drop, slice_index_or, nat_eq, rules, arith, refl, sym, ap, ◌∙◌}
use Rattle.std.specs.Prelude.{filter, option_map, IsErr}
use Rattle.std.specs.FinMap.{get, keys, entries}
use Rattle.std.proofs.lemmas.List.Elements.{filter_more}
use Rattle.shard_files.specs.m3_model.Members.{IsIn}
use Rattle.shard_files.proofs.m3_model_proofs.FindLemmas.{IsIn-get}
use Rattle.shard_files.specs.m3_outside.declared.failed.Failed.{Failed}
use Rattle.shard_files.specs.m3_outside.declared.file_name.FileName.{FileName}
use Rattle.shard_files.specs.m3_outside.Files.{Files, name_cmp}
use Rattle.shard_files.proofs.m3_outside_proofs.Names.{name_total, name_same}
use Rattle.shard_files.specs.Parts.{is_open, counts, is_volume_checkpoint, counted_volumes}
use Rattle.fileset_read.specs.Volumes.{is_counted}

pub err_is : {T : Type 0} (r : Result T Failed) (e : Failed) → r ≡ Err e → IsErr r
err_is r e was = search (rules, was)

-- the first byte of a file that has one
pub gate_read : (m : Option (List ℕ)) (size : ℕ) (buf : List ℕ) → option_map length m ≡ Some size → 0 < size → ((file : List ℕ) → m ≡ Some file → buf ≡ take (length buf) (drop 0 file)) → length buf ≡ 1
    → nat_eq (slice_index_or buf 0 0) 1 ≡ is_open m
gate_read None size buf sized some read long = absurd (cc)
gate_read (Some []) size buf sized some read long = absurd (let none : 0 ≡ size = cc in omega (arith, none, some))
gate_read (Some (gate ∷ rest)) size buf sized some read long =
    let e : buf ≡ gate ∷ [] = read (gate ∷ rest) refl ∙ ap (λ (n : ℕ). take n (gate ∷ rest)) long in
    ap (λ (l : List ℕ). nat_eq (slice_index_or l 0 0) 1) e

module _ (files : Files) where
  of_entries : (es : List (FileName × List ℕ)) → ((e : FileName × List ℕ) → IsIn es e → get files e.0 ≡ Some e.1) → filter (is_counted files) (map (λ (e : FileName × List ℕ). e.0) es) ≡ map (λ (e : FileName × List ℕ). e.0) (filter (counts is_volume_checkpoint) es)
  of_entries [] there = refl
  of_entries (e ∷ es) there =
      by (is_counted files e.0) (counts is_volume_checkpoint e) (ap (λ o. is_volume_checkpoint e.0 && is_open o) (there e (inl refl))) (of_entries es (λ x m. there x (inr m)))
    where
      by : (a b : Bool) → a ≡ b → filter (is_counted files) (map (λ (x : FileName × List ℕ). x.0) es) ≡ map (λ (x : FileName × List ℕ). x.0) (filter (counts is_volume_checkpoint) es)
          → cond a (e.0 ∷ filter (is_counted files) (map (λ (x : FileName × List ℕ). x.0) es)) (filter (is_counted files) (map (λ (x : FileName × List ℕ). x.0) es)) ≡ map (λ (x : FileName × List ℕ). x.0) (cond b (e ∷ filter (counts is_volume_checkpoint) es) (filter (counts is_volume_checkpoint) es))
      by true true same rest = ap (λ (l : List FileName). e.0 ∷ l) rest
      by true false same rest = absurd (cc)
      by false true same rest = absurd (cc)
      by false false same rest = rest

  pub counted_names : filter (is_counted files) (keys files) ≡ counted_volumes files
  counted_names = of_entries (entries files) (λ e m. IsIn-get name_cmp name_total name_same files e.0 e.1 m)

  -- one name more is looked at
  pub name_more : (names kept new : List FileName) (i : ℕ) (name d : FileName) (is : Bool) → i < length names → name ≡ get_or names i d → is ≡ is_counted files name → kept ≡ filter (is_counted files) (take i names)
      → new ≡ kept ++ (if is then name ∷ [] else []) → new ≡ filter (is_counted files) (take (i + 1) names)
  name_more names kept new i name d is lt named counts before after =
      after
      ∙ ap (λ (l : List FileName). l ++ cond is (name ∷ []) []) before
      ∙ ap (λ (b : Bool). filter (is_counted files) (take i names) ++ cond b (name ∷ []) []) counts
      ∙ ap (λ (n : FileName). filter (is_counted files) (take i names) ++ cond (is_counted files n) (n ∷ []) []) named
      ∙ sym (filter_more (is_counted files) names i d lt)
