-- A log's first segment.
use Rattle.std.proofs.Common.{◌≡◌, inl, inr, ⊎_elim, ℕ, List, [], ◌∷◌, map, replicate, Some, refl, sym, ap, subst, ◌∙◌, arith}
use Rattle.commit_log.specs.m3_model.Members.{IsIn}
use Rattle.commit_log.specs.m3_outside.Files.{Files}
use Rattle.commit_log.specs.Segment.{segment}
use Rattle.commit_log.specs.LogEnd.{NoneFrom, MayBeginSegment}
use Rattle.commit_log.specs.Contents.{numbers, PartsHold}
use Rattle.commit_log.proofs.Numbers.{in_there, there_in}
use Rattle.commit_log.proofs.Shapes.{zeros_end}
use Rattle.std.specs.FinMap.{get}
use Rattle.std.proofs.lemmas.List.{length-replicate}
use Rattle.std.proofs.lemmas.Bool.{cases_eq}
use Rattle.commit_log.proofs.m3_outside_proofs.Names.{get_here, get_apart}
use Rattle.commit_log.specs.m3_outside.declared.file_name.FileName.{FileName}
use Rattle.shard_files.specs.declared.entries.LogEntry.{LogEntry}
use Rattle.shard_files.specs.Entries.{spelled}
use Rattle.shard_files.specs.HeldEntries.{HoldsEntries}

-- a segment that may begin where there is none of its number or above
no_chunks : (ns : List ℕ) (x : Files) (chunks : List (List ℕ)) → ((n : ℕ) → IsIn ns n → ⊥) → PartsHold ns x chunks → chunks ≡ []
no_chunks [] x chunks none parts = parts
no_chunks (n ∷ ns) x chunks none parts = absurd (none n (inl refl))

only_zeros : (ns : List ℕ) (y : Files) → get y (segment 0) ≡ Some (replicate 65536 0) → ((n : ℕ) → IsIn ns n → n ≡ 0) → PartsHold ns y []
only_zeros [] y here zero_all = refl
only_zeros (n ∷ ns) y here zero_all = record {
  first = [];
  rest = [];
  split = refl;
  has = record { file = replicate 65536 0; there = ap (λ (k : ℕ). get y (segment k)) (zero_all n (inl refl)) ∙ here; size = length-replicate {A = ℕ} 65536 0; reads = zeros_end 65536 };
  later = only_zeros ns y here (λ k m. zero_all k (inr m));
}

absent_all : (x : Files) → NoneFrom 0 x → (n : ℕ) → IsIn (numbers x) n → ⊥
absent_all x none n m = let there = in_there x n m in let gone = none n (omega arith) in absurd (cc)

pub first_segment : (es : List LogEntry) (x y : Files) → HoldsEntries es x → NoneFrom 0 x → MayBeginSegment 0 x y → HoldsEntries es y
first_segment es x y holds none (inl same) = subst (HoldsEntries es) (sym same) holds
first_segment es x y holds none (inr done) = record {
  parts = subst (PartsHold (numbers y) y) (sym (no_chunks (numbers x) x (map spelled es) (absent_all x none) holds.parts)) (only_zeros (numbers y) y here zero_all);
  within = holds.within;
}
  where
    here : get y (segment 0) ≡ Some (replicate 65536 0)
    here = ap (λ (m : Files). get m (segment 0)) done ∙ get_here x (segment 0) (replicate 65536 0)

    zero_all : (n : ℕ) → IsIn (numbers y) n → n ≡ 0
    zero_all n m =
        ⊎_elim (λ (same : n ≡ 0). same)
        (λ (apart : n ≡ 0 → ⊥).
        let there = in_there y n m in
        let was = sym (get_apart x (segment 0) (replicate 65536 0) (segment n) (λ e. apart (ap (λ (f : FileName). f.number) e))) ∙ sym (ap (λ (f : Files). get f (segment n)) done) ∙ there.1 in
        absurd (absent_all x none n (there_in x n there.0 was))) (cases_eq n 0)
