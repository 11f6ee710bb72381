-- What a log holds, and one more entry.
use Rattle.std.proofs.Common.{◌≡◌, ◌⊎◌, inl, inr, ⊎_elim, ℕ, ◌+◌, ◌≤◌, List, [], ◌∷◌, ◌++◌, map, max, refl, sym, ap, subst, ◌∙◌, arith, append_assoc, append-nil}
use Rattle.std.proofs.lemmas.List.{map_push, nil_from_length}
use Rattle.std.specs.FinMap.{empty, entries, len-entries, len-empty}
use Rattle.commit_log.specs.m3_outside.Files.{Files, name_cmp}
use Rattle.commit_log.specs.m3_outside.declared.file_name.FileName.{FileName}
use Rattle.commit_log.specs.Contents.{numbers, numbers_of, PartsHold}
use Rattle.commit_log.specs.Segment.{segment, MayAdd, Adds}
use Rattle.commit_log.specs.LogEnd.{NoneAbove, MayBeginSegment}
use Rattle.commit_log.specs.LogLaws.{IsLog}
use Rattle.commit_log.proofs.Parts.{parts_one}
use Rattle.commit_log.proofs.LogLemmas.{may_add_log, adds_log, begun_log}
use Rattle.shard_files.specs.declared.entries.LogEntry.{LogEntry}
use Rattle.shard_files.specs.declared.entries.LogEntry.TheVariants as entry
use Rattle.shard_files.specs.Entries.{spelled, IsWithin, AreWithin}
use Rattle.shard_files.specs.HeldEntries.{HoldsEntries, points_in, tenure_in, fence_in, points_of, tenure_of, fence_of}
use Rattle.shard_files.specs.HeldLaws.{OneSpelling, EntriesAreOne, OneMore}
use Rattle.shard_files.proofs.SpellingLemmas.{same_entry, same_entries, within_more}

pub one_spelling : OneSpelling
one_spelling d e a b same = same_entry d e a b same

pub entries_are_one : EntriesAreOne
entries_are_one ds es files a b = same_entries ds es a.within b.within (parts_one (numbers files) files (map spelled ds) (map spelled es) a.parts b.parts)

points_more : (es : List LogEntry) (e : LogEntry) → points_of (es ++ e ∷ []) ≡ points_of es ++ points_in e
points_more [] e = append-nil (points_in e)
points_more (d ∷ es) e = ap (λ l. points_in d ++ l) (points_more es e) ∙ sym (append_assoc (points_in d) (points_of es) (points_in e))

tenure_more : (es : List LogEntry) (e : LogEntry) → tenure_of (es ++ e ∷ []) ≡ max (tenure_of es) (tenure_in e)
tenure_more [] e = omega arith
tenure_more (d ∷ es) e = let later = tenure_more es e in omega (arith, later)

fence_more : (es : List LogEntry) (e : LogEntry) → fence_of (es ++ e ∷ []) ≡ max (fence_of es) (fence_in e)
fence_more [] e = omega arith
fence_more (d ∷ es) e = let later = fence_more es e in omega (arith, later)

pub one_more : (es : List LogEntry) (e : LogEntry) → OneMore es e
one_more es e = record { points = points_more es e; tenure = tenure_more es e; fence = fence_more es e }

pub tenure_is_fence : (e : LogEntry) → tenure_in e ≤ fence_in e
tenure_is_fence (entry.Points ps) = omega arith
tenure_is_fence (entry.Fence n) = omega arith
tenure_is_fence (entry.Tenure n) = omega arith

pub tenures_are_fences : (es : List LogEntry) → tenure_of es ≤ fence_of es
tenures_are_fences [] = omega arith
tenures_are_fences (e ∷ es) = let one = tenure_is_fence e in let later = tenures_are_fences es in omega (arith, one, later)

no_numbers : numbers empty ≡ []
no_numbers =
    let none : entries (empty {X = List ℕ} {R = name_cmp}) ≡ [] = nil_from_length _ (sym (len-entries _) ∙ len-empty name_cmp (List ℕ)) in
    ap (λ (es : List (FileName × List ℕ)). numbers_of (map (λ (e : FileName × List ℕ). e.0) es)) none

pub no_files_no_entries : HoldsEntries [] empty
no_files_no_entries = record { parts = subst (λ (ns : List ℕ). PartsHold ns empty []) (sym no_numbers) refl; within = tt }

-- the entries as a log that ends in this segment
as_log : (es : List LogEntry) (number : ℕ) (files : Files) → HoldsEntries es files → NoneAbove number files → IsLog (map spelled es) number files
as_log es number files holds above = record { parts = holds.parts; above = above }

-- with one entry more behind the chunks of the others
grown : (es : List LogEntry) (e : LogEntry) (number : ℕ) (files : Files) → AreWithin es → IsWithin e → IsLog (map spelled es ++ spelled e ∷ []) number files → HoldsEntries (es ++ e ∷ []) files
grown es e number files all one log = record {
  parts = (subst (λ (chunks : List (List ℕ)). IsLog chunks number files) (sym (map_push spelled es e)) log).parts;
  within = within_more es e all one;
}

-- an entry that may have been added, in the last segment
pub may_add_entry : (es : List LogEntry) (e : LogEntry) (number : ℕ) (x y : Files) → IsWithin e → HoldsEntries es x → NoneAbove number x → MayAdd (segment number) (spelled e) x y → HoldsEntries es y ⊎ HoldsEntries (es ++ e ∷ []) y
may_add_entry es e number x y within holds above may =
    ⊎_elim (λ (log : IsLog (map spelled es) number y). inl (record { parts = log.parts; within = holds.within }))
    (λ (log : IsLog (map spelled es ++ spelled e ∷ []) number y). inr (grown es e number y holds.within within log))
    (may_add_log number (spelled e) (map spelled es) x y (as_log es number x holds above) may)

pub adds_entry : (es : List LogEntry) (e : LogEntry) (number : ℕ) (x y : Files) → IsWithin e → HoldsEntries es x → NoneAbove number x → Adds (segment number) (spelled e) x y → HoldsEntries (es ++ e ∷ []) y
adds_entry es e number x y within holds above adds = grown es e number y holds.within within (adds_log number (spelled e) (map spelled es) x y (as_log es number x holds above) adds)

-- a segment that may have begun behind the last
pub begun_entries : (es : List LogEntry) (number : ℕ) (x y : Files) → HoldsEntries es x → NoneAbove number x → MayBeginSegment (number + 1) x y → HoldsEntries es y
begun_entries es number x y holds above may =
    let log = begun_log number (number + 1) (omega arith) (map spelled es) x y (as_log es number x holds above) may in
    record { parts = log.parts; within = holds.within }
