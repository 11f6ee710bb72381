-- Entries by their bytes: one spelling of each.
use Rattle.std.proofs.Common.{◌≡◌, ℕ, List, [], ◌∷◌, ◌++◌, map, length, refl, ap, arith}
use Rattle.commit_log.specs.wire_bytes.Entries.{AnEntry, OfPoints, OfFence, OfTenure}
use Rattle.commit_log.proofs.wire_bytes_proofs.NumberLemmas.{bytes_one}
use Rattle.commit_log.proofs.wire_bytes_proofs.PointLemmas.{number_parts}
use Rattle.commit_log.proofs.wire_bytes_proofs.VolumeLemmas.{points_front}
use Rattle.shard_files.specs.declared.entries.LogEntry.{LogEntry}
use Rattle.shard_files.specs.declared.entries.LogEntry.TheVariants as entry
use Rattle.shard_files.specs.Entries.{spelled, IsWithin, AreWithin}

pub same_entry : (d e : LogEntry) → IsWithin d → IsWithin e → spelled d ≡ spelled e → d ≡ e
same_entry (entry.Points ps) (entry.Points qs) a b same =
    let body = (number_parts 1 1 1 _ _ (omega arith) (omega arith) same).1 in
    let counted = number_parts 2 (length ps) (length qs) _ _ (omega (arith, a.most)) (omega (arith, b.most)) body in
    ap entry.Points (points_front ps qs [] [] a.bounded b.bounded counted.0 (ap (λ (l : List ℕ). l ++ []) counted.1)).0
same_entry (entry.Points ps) (entry.Fence n) a b same = absurd (let tags : 1 ≡ 2 = (number_parts 1 1 2 _ _ (omega arith) (omega arith) same).0 in omega (arith, tags))
same_entry (entry.Points ps) (entry.Tenure n) a b same = absurd (let tags : 1 ≡ 3 = (number_parts 1 1 3 _ _ (omega arith) (omega arith) same).0 in omega (arith, tags))
same_entry (entry.Fence m) (entry.Points qs) a b same = absurd (let tags : 2 ≡ 1 = (number_parts 1 2 1 _ _ (omega arith) (omega arith) same).0 in omega (arith, tags))
same_entry (entry.Fence m) (entry.Fence n) a b same = ap entry.Fence (bytes_one 8 m n a b (number_parts 1 2 2 _ _ (omega arith) (omega arith) same).1)
same_entry (entry.Fence m) (entry.Tenure n) a b same = absurd (let tags : 2 ≡ 3 = (number_parts 1 2 3 _ _ (omega arith) (omega arith) same).0 in omega (arith, tags))
same_entry (entry.Tenure m) (entry.Points qs) a b same = absurd (let tags : 3 ≡ 1 = (number_parts 1 3 1 _ _ (omega arith) (omega arith) same).0 in omega (arith, tags))
same_entry (entry.Tenure m) (entry.Fence n) a b same = absurd (let tags : 3 ≡ 2 = (number_parts 1 3 2 _ _ (omega arith) (omega arith) same).0 in omega (arith, tags))
same_entry (entry.Tenure m) (entry.Tenure n) a b same = ap entry.Tenure (bytes_one 8 m n a b (number_parts 1 3 3 _ _ (omega arith) (omega arith) same).1)

pub same_entries : (ds es : List LogEntry) → AreWithin ds → AreWithin es → map spelled ds ≡ map spelled es → ds ≡ es
same_entries [] [] a b same = refl
same_entries [] (e ∷ es) a b same = absurd (cc)
same_entries (d ∷ ds) [] a b same = absurd (cc)
same_entries (d ∷ ds) (e ∷ es) a b same =
    let first : spelled d ≡ spelled e = cc in
    let later : map spelled ds ≡ map spelled es = cc in
    let head = same_entry d e a.0 b.0 first in
    let tail = same_entries ds es a.1 b.1 later in
    λ i. head i ∷ tail i

pub within_more : (es : List LogEntry) (e : LogEntry) → AreWithin es → IsWithin e → AreWithin (es ++ e ∷ [])
within_more [] e all one = (one, tt)
within_more (d ∷ es) e all one = (all.0, within_more es e all.1 one)

pub within_both : (ds es : List LogEntry) → AreWithin ds → AreWithin es → AreWithin (ds ++ es)
within_both [] es a b = b
within_both (d ∷ ds) es a b = (a.0, within_both ds es a.1 b)

-- an entry's bytes are an entry's
pub bytes_are : (e : LogEntry) → IsWithin e → AnEntry (spelled e)
bytes_are (entry.Points ps) w = OfPoints ps w refl
bytes_are (entry.Fence n) w = OfFence n w refl
bytes_are (entry.Tenure n) w = OfTenure n w refl
