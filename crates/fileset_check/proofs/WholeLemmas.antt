-- Volumes that are there whole, and the first that isn't.
use Rattle.std.proofs.Common.{◌≡◌, inl, inr, ℕ, ◌+◌, ◌<◌, ◌≤◌, List, [], ◌∷◌, ◌++◌, length, take, drop, get_or, map, Option, Some, Result, Err, IsErrAnd, refl, sym, ap, subst, ◌∙◌, arith, append-nil, take-append-drop, length-drop}
use Rattle.std.specs.Prelude.{unwrap_or}
use Rattle.std.specs.FinMap.{get}
use Rattle.std.proofs.lemmas.List.{drop-drop, drop_more, take_more, take_all, map-append}
use Rattle.std.proofs.lemmas.Result.{err_from_is_err_and}
use Rattle.sha2.specs.Sha256.{sha256}
use Rattle.fileset_read.specs.m3_model.Members.{IsIn}
use Rattle.fileset_read.proofs.m3_model_proofs.MemberLemmas.{IsIn-map}
use Rattle.fileset_read.proofs.m3_model_proofs.Lists.{IsIn-get_or}
use Rattle.fileset_read.specs.m3_model.declared.point.Series.{Series}
use Rattle.fileset_read.specs.m3_outside.Files.{Files}
use Rattle.fileset_read.specs.m3_outside.declared.file_name.FileName.{FileName}
use Rattle.fileset_read.specs.wire_bytes.Volumes.{VolumeHead, IsVolume, Part, Info, Summaries, Index, Data, Bloom, Digests, Checkpoint, part_bytes, data_bytes, digests_bytes, count_of}
use Rattle.fileset_read.specs.shard_files.Parts.{part_name, part_of, kind_of, VolumeHolds, KnownVolume, IsKnown, AreKnown, counted_volumes, is_volume_checkpoint}
use Rattle.fileset_read.specs.shard_files.Damage.{Damage, Look, AtForm, AtDigest, AtHead, IsInfo, bytes_at}
use Rattle.fileset_read.proofs.shard_files_proofs.CountedLemmas.{counted_asked}
use Rattle.fileset_read.proofs.shard_files_proofs.PartLemmas.{volume_kind}
use Rattle.fileset_read.proofs.shard_files_proofs.FirstDamageLemmas.{whole_volume}
use Rattle.fileset_read.proofs.shard_files_proofs.VolumeSteps.{of_known}
use Rattle.fileset_read.specs.volume_bytes.Heads.{head_of}
use Rattle.fileset_read.specs.Volumes.{IsThere}
use Rattle.fileset_check.specs.PartFiles.{AreParts, AreSealed, AreDerived, Keeps, bytes_in, part_in, file_of}
use Rattle.fileset_check.specs.Told.{LookTells, VolumeTells, VolumesTell, HeadStops}
use Rattle.fileset_check.specs.Whole.{listed, IsListed, AreListed}
use Rattle.fileset_check.specs.declared.volume.Volume.{Volume}
use Rattle.fileset_check.specs.declared.check_err.CheckErr.{CheckErr}
use Rattle.fileset_check.specs.declared.check_err.CheckErr.TheVariants as failures
use Rattle.fileset_check.proofs.HeadLemmas.{HasNames, names_of}

-- ---- one volume

five_join : (l : List ℕ) → length l ≡ 160 → l ≡ take 32 l ++ (take 32 (drop 32 l) ++ (take 32 (drop 64 l) ++ (take 32 (drop 96 l) ++ take 32 (drop 128 l))))
five_join l long =
    let next : (n m : ℕ) → n + 32 ≡ m → drop n l ≡ take 32 (drop n l) ++ drop m l = λ n m e. sym (take-append-drop 32 (drop n l)) ∙ ap (λ (r : List ℕ). take 32 (drop n l) ++ r) (drop-drop 32 n l ∙ ap (λ (k : ℕ). drop k l) e) in
    let last : drop 128 l ≡ take 32 (drop 128 l) = sym (take_all 32 (drop 128 l) (let left = length-drop 128 l in omega (arith, left, long))) in
    sym (take-append-drop 32 l) ∙ ap (λ (r : List ℕ). take 32 l ++ r)
    (next 32 64 refl ∙ ap (λ (r : List ℕ). take 32 (drop 32 l) ++ r) (next 64 96 refl ∙ ap (λ (r : List ℕ). take 32 (drop 64 l) ++ r) (next 96 128 refl ∙ ap (λ (r : List ℕ). take 32 (drop 96 l) ++ r) last)))

-- what the file is that keeps to its digest
kept_part : (kept due : List ℕ) (found : Option (List ℕ)) → Keeps kept found → unwrap_or found [] ≡ due → found ≡ Some due
kept_part kept due found k is = k.there ∙ ap Some (sym (ap (λ (o : Option (List ℕ)). unwrap_or o []) k.there) ∙ is)

kept_digest : (kept due : List ℕ) (found : Option (List ℕ)) → Keeps kept found → unwrap_or found [] ≡ due → kept ≡ sha256 due
kept_digest kept due found k is = k.is ∙ ap sha256 (sym (ap (λ (o : Option (List ℕ)). unwrap_or o []) k.there) ∙ is)

pub volume_holds : (of : FileName) (files : Files) (parts : List (Option (List ℕ))) (v : VolumeHead) (rows : List Series) → AreParts of files parts → AreSealed parts → IsInfo of.ns of.block of.number v (bytes_in parts 1) → IsVolume v rows → bytes_in parts 4 ≡ data_bytes rows → AreDerived v rows parts → VolumeHolds v rows files
volume_holds of files parts v rows p s x values body a = record { values = values; read = x.read; parts = λ part. ap (get files) (named part) ∙ sym (p.each (kind_of part) (low part) (high part)) ∙ has part }
  where
    names : HasNames of.ns of.block of.number v
    names = names_of of.ns of.block of.number v (bytes_in parts 1) x

    named : (part : Part) → part_of part v ≡ file_of (kind_of part) of
    named part = λ i. record { kind = kind_of part; ns = names.ns_is i; block = names.start_is i; number = names.number_is i }

    low : (part : Part) → 1 ≤ kind_of part
    low Info = omega arith
    low Summaries = omega arith
    low Index = omega arith
    low Data = omega arith
    low Bloom = omega arith
    low Digests = omega arith
    low Checkpoint = omega arith

    high : (part : Part) → kind_of part ≤ 7
    high Info = omega arith
    high Summaries = omega arith
    high Index = omega arith
    high Data = omega arith
    high Bloom = omega arith
    high Digests = omega arith
    high Checkpoint = omega arith

    five : s.digests.five ≡ digests_bytes v rows
    five =
        let one = kept_digest _ _ (part_in parts 1) s.info a.info in
        let two = kept_digest _ _ (part_in parts 2) s.summaries a.summaries in
        let three = kept_digest _ _ (part_in parts 3) s.index a.index in
        let four = kept_digest _ _ (part_in parts 4) s.body body in
        let last = kept_digest _ _ (part_in parts 5) s.bloom a.bloom in
        five_join s.digests.five s.digests.long ∙ (λ i. one i ++ (two i ++ (three i ++ (four i ++ last i))))

    has : (part : Part) → part_in parts (kind_of part) ≡ Some (part_bytes part v rows)
    has Info = kept_part _ _ (part_in parts 1) s.info a.info
    has Summaries = kept_part _ _ (part_in parts 2) s.summaries a.summaries
    has Index = kept_part _ _ (part_in parts 3) s.index a.index
    has Data = kept_part _ _ (part_in parts 4) s.body body
    has Bloom = kept_part _ _ (part_in parts 5) s.bloom a.bloom
    has Digests = s.digests.digests ∙ ap Some five
    has Checkpoint = s.digests.checkpoint ∙ ap (λ (l : List ℕ). Some (1 ∷ sha256 l)) five

-- the checkpoint's name is that of the head
pub checkpoint_named : (of : FileName) (v : VolumeHead) (bytes : List ℕ) → IsInfo of.ns of.block of.number v bytes → file_of 7 of ≡ part_of Checkpoint v
checkpoint_named of v bytes x =
    let names = names_of of.ns of.block of.number v bytes x in
    λ i. record { kind = 7; ns = sym names.ns_is i; block = sym names.start_is i; number = sym names.number_is i }

-- ---- a volume that is whole tells of no damage

info_whole : (v : VolumeHead) (rows : List Series) (files : Files) → VolumeHolds v rows files → IsInfo v.ns v.start v.number v (bytes_at files (part_of Info v))
info_whole v rows files h = record {
  series = length rows;
  points = count_of rows;
  values = h.values.head;
  read = h.read;
  named = refl;
  some = h.values.some;
  series_fits = (let c = h.values.counted in omega (arith, c));
  points_fit = h.values.points;
  is = ap (λ (o : Option (List ℕ)). unwrap_or o []) (h.parts Info);
}

look_none : (v : VolumeHead) (rows : List Series) (files : Files) → VolumeHolds v rows files → (look : Look) (d : Damage) → LookTells v.ns v.start v.number files look d → ⊥
look_none v rows files h AtHead d b = by b.stops
  where
    by : HeadStops v.ns v.start v.number (bytes_at files (part_name Info v.ns v.start v.number)) b.at → ⊥
    by (inl s) = whole_volume v rows files h AtHead d (record { at = b.at; stops = s; is = b.is })
    by (inr o) = o.0 (h.values.head.ns, h.values.head.start, h.values.head.number)
look_none v rows files h (AtDigest part) d b = whole_volume v rows files h (AtDigest part) d b
look_none v rows files h (AtForm Data) d b = b.none (record { head = v; rows = rows; info = info_whole v rows files h; values = h.values; is = ap (λ (o : Option (List ℕ)). unwrap_or o []) (h.parts Data) })
look_none v rows files h (AtForm Info) d b = whole_volume v rows files h (AtForm Info) d b
look_none v rows files h (AtForm Summaries) d b = whole_volume v rows files h (AtForm Summaries) d b
look_none v rows files h (AtForm Index) d b = whole_volume v rows files h (AtForm Index) d b
look_none v rows files h (AtForm Bloom) d b = whole_volume v rows files h (AtForm Bloom) d b
look_none v rows files h (AtForm Digests) d b = whole_volume v rows files h (AtForm Digests) d b
look_none v rows files h (AtForm Checkpoint) d b = whole_volume v rows files h (AtForm Checkpoint) d b

pub known_none : (files : Files) (name : FileName) (k : KnownVolume) → IsKnown files name k → (d : Damage) → VolumeTells files name d → ⊥
known_none files name k known d f =
    let g = subst (λ (q : FileName). VolumeTells files q d) known.named f in
    look_none k.head k.rows files known.holds g.one d g.found

-- ---- all volumes

known_more : (files : Files) (names : List FileName) (known : List KnownVolume) (name : FileName) (k : KnownVolume) → AreKnown files names known → IsKnown files name k → AreKnown files (names ++ name ∷ []) (known ++ k ∷ [])
known_more files [] [] name k are is = (is, tt)
known_more files [] (j ∷ known) name k are is = absurd are
known_more files (n ∷ names) [] name k are is = absurd are
known_more files (n ∷ names) (j ∷ known) name k are is = (are.0, known_more files names known name k are.1 is)

pub listed_none : (files : Files) → AreListed files [] []
listed_none files = record { known = []; are_known = tt; listed_are = refl }

pub listed_more : (files : Files) (names : List FileName) (i : ℕ) (d : FileName) (found new : List Volume) (v : Volume) → i < length names → AreListed files (take i names) found → IsListed files (get_or names i d) v → new ≡ found ++ v ∷ [] → AreListed files (take (i + 1) names) new
listed_more files names i d found new v lt are is after = record {
  known = are.known ++ is.known ∷ [];
  are_known = subst (λ (l : List FileName). AreKnown files l (are.known ++ is.known ∷ [])) (sym (take_more names i d lt)) (known_more files (take i names) are.known (get_or names i d) is.known are.are_known is.is_known);
  listed_are = after ∙ (λ j. are.listed_are j ++ is.listed_is j ∷ []) ∙ sym (map-append listed are.known (is.known ∷ []));
}

-- all are listed
pub listed_all : (files : Files) (names : List FileName) (i : ℕ) (found : List Volume) → length names ≤ i → AreListed files (take i names) found → AreListed files names found
listed_all files names i found le are = subst (λ (l : List FileName). AreListed files l found) (take_all i names le) are

-- the first of which something is told
pub first_told : (files : Files) (names : List FileName) (i : ℕ) (d : FileName) (found : List Volume) (damage : Damage) → names ≡ counted_volumes files → i < length names → AreListed files (take i names) found → VolumeTells files (get_or names i d) damage → VolumesTell files damage
first_told files names i d found damage all lt are told = record {
  before = take i names;
  one = get_or names i d;
  after = drop (i + 1) names;
  split = sym all ∙ sym (take-append-drop i names) ∙ ap (λ (l : List FileName). take i names ++ l) (drop_more names i d lt);
  known = are.known;
  whole = are.are_known;
  told = told;
}

-- each that is listed is there
pub listed_there : (files : Files) (names : List FileName) (found : List Volume) → AreListed files names found → (v : Volume) → IsIn found v → IsThere (head_of v.head) files
listed_there files names found are v m =
    let at = IsIn-map listed are.known v (subst (λ (l : List Volume). IsIn l v) are.listed_are m) in
    let k = at.0 in
    let holds = (of_known files names are.known are.are_known k at.1).2.holds in
    let head : k.head ≡ head_of (listed k).head = λ i. record { format = holds.read i; ns = k.head.ns; start = k.head.start; size = k.head.size; number = k.head.number } in
    subst (λ (w : Volume). IsThere (head_of w.head) files) at.2 (record { rows = k.rows; holds = subst (λ (h : VolumeHead). VolumeHolds h k.rows files) head holds })

-- ---- names, and errors that are passed on

pub not_disk : {T : Type 0} (r : Result T CheckErr) → IsErrAnd r (λ e. e ≡ failures.Memory) → r ≡ Err failures.Disk → ⊥
not_disk {T} r is f = let p = err_from_is_err_and r is in by r p.0 p.1 p.2 f
  where
    by : (r : Result T CheckErr) (e : CheckErr) → r ≡ Err e → e ≡ failures.Memory → r ≡ Err failures.Disk → ⊥
    by r e a b f = cc

-- each of the checkpoints that count is named as one
pub checkpoint_is : (files : Files) (names : List FileName) (i : ℕ) (d : FileName) → names ≡ counted_volumes files → i < length names → file_of 7 (get_or names i d) ≡ get_or names i d
checkpoint_is files names i d all lt =
    let name : FileName = get_or names i d in
    let kind : name.kind ≡ 7 = volume_kind name (counted_asked is_volume_checkpoint files name (subst (λ (l : List FileName). IsIn l name) all (IsIn-get_or names i d lt))) in
    λ j. record { kind = sym kind j; ns = name.ns; block = name.block; number = name.number }
