-- Lists by their first few, and what is settled or known by them.
use Rattle.std.proofs.Common.{◌≡◌, ℕ, suc, ◌+◌, ◌<◌, List, [], ◌∷◌, ◌++◌, length, take, get_or, refl, sym, ap, ◌∙◌, arith, map}
use Rattle.std.proofs.Math.Seq.{take-suc}
use Rattle.std.proofs.lemmas.List.Sums.{fold-append}
use Rattle.m3_model.specs.Contents.{Contents}
use Rattle.m3_model.specs.declared.point.Series.{Series}
use Rattle.store_log.specs.listed_volumes.block_buffer.Joins.{points_of_series}
use Rattle.store_log.specs.listed_volumes.block_buffer.Taken.{settled_at, settled_with}
use Rattle.store_log.specs.listed_volumes.wire_bytes.Volumes.{points_of_rows}
use Rattle.store_log.specs.listed_volumes.shard_files.Parts.{KnownVolume}
use Rattle.store_log.specs.listed_volumes.shard_files.FilesHold.{points_known, volume_points}
use Rattle.shard_open.specs.Loads.{known_of}
use Rattle.shard_open.specs.declared.volumes.OpenVolume.{OpenVolume}

pub first_more : {X : Type 0} (xs : List X) (i : ℕ) (x : X) → i < length xs → x ≡ get_or xs i x → take (i + 1) xs ≡ take i xs ++ x ∷ []
first_more {X} xs i x lt is =
    let up : i + 1 ≡ suc i = omega arith in
    ap (λ (k : ℕ). take k xs) up ∙ take-suc xs i x lt ∙ ap (λ (y : X). take i xs ++ y ∷ []) (sym is)

pub map_append : {X Y : Type 0} (f : X → Y) (xs ys : List X) → map f (xs ++ ys) ≡ map f xs ++ map f ys
map_append f [] ys = refl
map_append f (x ∷ xs) ys = ap (λ l. f x ∷ l) (map_append f xs ys)

pub map_more : {X Y : Type 0} (f : X → Y) (xs : List X) (i : ℕ) (x : X) → i < length xs → x ≡ get_or xs i x → map f (take (i + 1) xs) ≡ map f (take i xs) ++ f x ∷ []
map_more f xs i x lt is = ap (map f) (first_more xs i x lt is) ∙ map_append f (take i xs) (x ∷ [])

-- ---- rows and volumes that are settled

settled_rows : (c : Contents) (ns : ℕ) (xs : List Series) (x : Series) → settled_with c (points_of_rows ns (xs ++ x ∷ [])) ≡ settled_with (settled_with c (points_of_rows ns xs)) (points_of_series ns x)
settled_rows c ns [] x = fold-append settled_at c (points_of_series ns x) []
settled_rows c ns (y ∷ xs) x =
    fold-append settled_at c (points_of_series ns y) (points_of_rows ns (xs ++ x ∷ []))
    ∙ settled_rows (settled_with c (points_of_series ns y)) ns xs x
    ∙ ap (λ d. settled_with d (points_of_series ns x)) (sym (fold-append settled_at c (points_of_series ns y) (points_of_rows ns xs)))

pub settled_rows_more : (c : Contents) (ns : ℕ) (rows : List Series) (i : ℕ) (x : Series) → i < length rows → x ≡ get_or rows i x
    → settled_with c (points_of_rows ns (take (i + 1) rows)) ≡ settled_with (settled_with c (points_of_rows ns (take i rows))) (points_of_series ns x)
settled_rows_more c ns rows i x lt is = ap (λ l. settled_with c (points_of_rows ns l)) (first_more rows i x lt is) ∙ settled_rows c ns (take i rows) x

settled_volumes : (c : Contents) (ks : List KnownVolume) (k : KnownVolume) → settled_with c (volume_points (ks ++ k ∷ [])) ≡ settled_with (settled_with c (volume_points ks)) (points_known k)
settled_volumes c [] k = fold-append settled_at c (points_known k) []
settled_volumes c (j ∷ ks) k =
    fold-append settled_at c (points_known j) (volume_points (ks ++ k ∷ []))
    ∙ settled_volumes (settled_with c (points_known j)) ks k
    ∙ ap (λ d. settled_with d (points_known k)) (sym (fold-append settled_at c (points_known j) (volume_points ks)))

pub settled_volumes_more : (c : Contents) (vs : List OpenVolume) (i : ℕ) (v : OpenVolume) → i < length vs → v ≡ get_or vs i v
    → settled_with c (volume_points (map known_of (take (i + 1) vs))) ≡ settled_with (settled_with c (volume_points (map known_of (take i vs)))) (points_known (known_of v))
settled_volumes_more c vs i v lt is = ap (λ l. settled_with c (volume_points l)) (map_more known_of vs i v lt is) ∙ settled_volumes c (map known_of (take i vs)) (known_of v)
