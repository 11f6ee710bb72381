-- The first damage of files is one, and damaged files hold nothing.
use Rattle.std.proofs.Common.{◌≡◌, ◌⊎◌, inl, inr, ⊎_elim, ℕ, ◌≤◌, List, [], ◌∷◌, ◌++◌, map, length, take, drop, refl, sym, ap, subst, ◌∙◌, arith, append_assoc, append-nil, length-append, Some, None, Option}
use Rattle.std.specs.Prelude.{unwrap_or}
use Rattle.std.proofs.lemmas.List.{take_at, drop_at, drop-drop, map-append}
use Rattle.std.specs.FinMap.{get}
use Rattle.std.proofs.lemmas.Option.{same_Some}
use Rattle.sha2.specs.Sha256.{sha256}
use Rattle.sha2.proofs.Facts256.{length-sha256}
use Rattle.commit_log.specs.m3_model.Members.{IsIn}
use Rattle.commit_log.specs.m3_model.declared.point.Series.{Series}
use Rattle.commit_log.proofs.m3_model_proofs.MemberLemmas.{IsIn-append_right, IsIn-append_cases, IsIn-map}
use Rattle.commit_log.specs.m3_outside.declared.file_name.FileName.{FileName}
use Rattle.commit_log.specs.m3_outside.Files.{Files}
use Rattle.commit_log.specs.Contents.{numbers, PartsHold}
use Rattle.commit_log.specs.Segment.{segment, chunk_bytes, written, IsEnd, ReadsChunks, HasChunks}
use Rattle.commit_log.proofs.LawLemmas.{same_chunk, no_chunk, chunk_long}
use Rattle.commit_log.specs.wire_bytes.Volumes.{VolumeHead, Part, Info, Summaries, Index, Data, Bloom, Digests, Checkpoint, part_bytes, digests_bytes, info_bytes, summaries_bytes, index_bytes, data_bytes, bloom_bytes, count_of, checkpoint_bytes}
use Rattle.commit_log.specs.wire_bytes.Snapshots.{Snapshot, snapshot_bytes}
use Rattle.commit_log.specs.wire_bytes.Entries.{AnEntry}
use Rattle.commit_log.proofs.wire_bytes_proofs.StopLemmas.{stops_one}
use Rattle.shard_files.specs.declared.entries.LogEntry.{LogEntry}
use Rattle.shard_files.specs.Entries.{spelled, IsWithin, AreWithin}
use Rattle.shard_files.specs.Parts.{part_name, part_of, VolumeHolds, counted_volumes, counted_snapshots, snapshot_data, snapshot_checkpoint, SnapshotHolds, NewestIs, KnownVolume, VolumesAre}
use Rattle.shard_files.specs.Damage.{Damage, OfForm, OfDigest, bytes_at, FirstFound, BreaksForm, BreaksDigest, IsGone, Differs, IsGate, IsInfo, IsSomeInfo, IsDerived, FormOf, kept_of, Look, AtForm, AtDigest, AtHead, looks, BreaksKept, LookFinds, IsBody, SnapshotLook, AtGate, AtKept, AtBody, SnapshotFinds, SegmentStops, BreaksSegment, Location, InVolume, InSnapshot, InSegment, last_of, locations, LocationFinds, DamagedHoldNothing, DamageIsOne, DigestsDiffer, ToldDigestsDiffer}
use Rattle.shard_files.specs.Loading.{LogDamageIsFirst}
use Rattle.shard_files.proofs.SpellingLemmas.{bytes_are}
use Rattle.shard_files.proofs.VolumeSteps.{of_name}

-- ---- one offset, one damage

form_one : (Form : List ℕ → Type 0) (files : Files) (name : FileName) (d e : Damage) → BreaksForm Form files name d → BreaksForm Form files name e → d ≡ e
form_one Form files name d e a b = a.is ∙ ap (OfForm name) (stops_one Form (bytes_at files name) a.at b.at a.stops b.stops) ∙ sym b.is

digest_one : (kept : List ℕ) (files : Files) (name : FileName) (d e : Damage) → BreaksDigest kept files name d → BreaksDigest kept files name e → d ≡ e
digest_one kept files name d e (IsGone gone is) (IsGone gone1 is1) = is ∙ sym is1
digest_one kept files name d e (IsGone gone is) (Differs bytes there differ is1) = absurd (let none = gone in let some = there in cc)
digest_one kept files name d e (Differs bytes there differ is) (IsGone gone is1) = absurd (let none = gone in let some = there in cc)
digest_one kept files name d e (Differs bytes there differ is) (Differs bytes1 there1 differ1 is1) = is ∙ ap (λ l. OfDigest name kept (sha256 l)) (same_Some bytes bytes1 (sym there ∙ there1)) ∙ sym is1

-- the first that finds is one, where each finds one
module _ {X : Type 0} (Finds : X → Damage → Type 0) (one : (x : X) (d e : Damage) → Finds x d → Finds x e → d ≡ e) (d e : Damage) where
  tails : {x y : X} {xs ys : List X} → x ∷ xs ≡ y ∷ ys → (x ≡ y) × (xs ≡ ys)
  tails h = (cc, cc)

  first_by : (xs ys : List X) (a b : X) (r t : List X) → xs ++ a ∷ r ≡ ys ++ b ∷ t → ((x : X) → IsIn xs x → (other : Damage) → ¬ (Finds x other)) → ((x : X) → IsIn ys x → (other : Damage) → ¬ (Finds x other)) → Finds a d → Finds b e → d ≡ e
  first_by [] [] a b r t same n m f g = one a d e f (subst (λ x. Finds x e) (sym (tails same).0) g)
  first_by [] (y ∷ ys) a b r t same n m f g = absurd (m a (inl (sym (tails same).0)) d f)
  first_by (x ∷ xs) [] a b r t same n m f g = absurd (n b (inl (tails same).0) e g)
  first_by (x ∷ xs) (y ∷ ys) a b r t same n m f g = first_by xs ys a b r t (tails same).1 (λ z i. n z (inr i)) (λ z i. m z (inr i)) f g

  pub first_one : (all : List X) → FirstFound Finds all d → FirstFound Finds all e → d ≡ e
  first_one all a b = first_by a.before b.before a.one b.one a.after b.after (sym a.split ∙ b.split) a.none b.none a.found b.found

kept_one : (part : Part) (ns start number : ℕ) (files : Files) (d e : Damage) → BreaksKept part ns start number files d → BreaksKept part ns start number files e → d ≡ e
kept_one part ns start number files d e a b =
    let same : a.kept ≡ b.kept = same_Some a.kept b.kept (sym a.is_kept ∙ b.is_kept) in
    digest_one b.kept files (part_name part ns start number) d e (subst (λ k. BreaksDigest k files (part_name part ns start number) d) same a.breaks) b.breaks

look_one : (ns start number : ℕ) (files : Files) (look : Look) (d e : Damage) → LookFinds ns start number files look d → LookFinds ns start number files look e → d ≡ e
look_one ns start number files (AtForm part) d e a b = form_one (FormOf part ns start number files) files (part_name part ns start number) d e a b
look_one ns start number files (AtDigest part) d e a b = kept_one part ns start number files d e a b
look_one ns start number files AtHead d e a b = form_one (IsSomeInfo ns start number) files (part_name Info ns start number) d e a b

snapshot_one : (number : ℕ) (files : Files) (look : SnapshotLook) (d e : Damage) → SnapshotFinds number files look d → SnapshotFinds number files look e → d ≡ e
snapshot_one number files AtGate d e a b = form_one IsGate files (snapshot_checkpoint number) d e a b
snapshot_one number files AtKept d e a b = digest_one (drop 1 (bytes_at files (snapshot_checkpoint number))) files (snapshot_data number) d e a b
snapshot_one number files AtBody d e a b = form_one (IsBody number) files (snapshot_data number) d e a b

location_one : (files : Files) (location : Location) (d e : Damage) → LocationFinds files location d → LocationFinds files location e → d ≡ e
location_one files (InVolume name) d e a b = first_one (LookFinds name.ns name.block name.number files) (look_one name.ns name.block name.number files) d e looks a b
location_one files (InSnapshot name) d e a b = first_one (SnapshotFinds name.number files) (snapshot_one name.number files) d e (AtGate ∷ AtKept ∷ AtBody ∷ []) a b
location_one files (InSegment number) d e a b =
    let low = a.stops.first b.at b.stops.stops in
    let high = b.stops.first a.at a.stops.stops in
    let same : a.at ≡ b.at = omega (arith, low, high) in
    a.is ∙ ap (OfForm (segment number)) same ∙ sym b.is

pub damage_is_one : DamageIsOne
damage_is_one files one other a b = first_one (LocationFinds files) (location_one files) one other (locations files) a b

-- ---- damaged files hold nothing

-- a file that has its form doesn't break it
no_break : (Form : List ℕ → Type 0) (files : Files) (name : FileName) (bytes : List ℕ) (d : Damage) → get files name ≡ Some bytes → Form bytes → BreaksForm Form files name d → ⊥
no_break Form files name bytes d there form b = b.stops.none (subst Form (sym (ap (λ o. unwrap_or o []) there)) form)

no_differ : (kept : List ℕ) (files : Files) (name : FileName) (bytes : List ℕ) (d : Damage) → get files name ≡ Some bytes → kept ≡ sha256 bytes → BreaksDigest kept files name d → ⊥
no_differ kept files name bytes d there is (IsGone gone told) = let some = there in let none = gone in cc
no_differ kept files name bytes d there is (Differs other have differ told) = differ (is ∙ ap sha256 (same_Some bytes other (sym there ∙ have)))

-- each digest at its offset among the five
record Fives (a b c d e all : List ℕ) : Type 0 where
  pub first : take 32 all ≡ a
  pub second : take 32 (drop 32 all) ≡ b
  pub third : take 32 (drop 64 all) ≡ c
  pub fourth : take 32 (drop 96 all) ≡ d
  pub fifth : drop 128 all ≡ e

five : (a b c d e : List ℕ) → length a ≡ 32 → length b ≡ 32 → length c ≡ 32 → length d ≡ 32 → Fives a b c d e (a ++ (b ++ (c ++ (d ++ e))))
five a b c d e la lb lc ld =
    let one = drop_at a (b ++ (c ++ (d ++ e))) 32 la in
    let two = sym (drop-drop 32 32 (a ++ (b ++ (c ++ (d ++ e))))) ∙ ap (drop 32) one ∙ drop_at b (c ++ (d ++ e)) 32 lb in
    let three = sym (drop-drop 32 64 (a ++ (b ++ (c ++ (d ++ e))))) ∙ ap (drop 32) two ∙ drop_at c (d ++ e) 32 lc in
    let four = sym (drop-drop 32 96 (a ++ (b ++ (c ++ (d ++ e))))) ∙ ap (drop 32) three ∙ drop_at d e 32 ld in
    record {
      first = take_at a (b ++ (c ++ (d ++ e))) 32 la;
      second = ap (take 32) one ∙ take_at b (c ++ (d ++ e)) 32 lb;
      third = ap (take 32) two ∙ take_at c (d ++ e) 32 lc;
      fourth = ap (take 32) three ∙ take_at d e 32 ld;
      fifth = four;
    }

-- a volume that is whole breaks nothing
module _ (v : VolumeHead) (rows : List Series) (files : Files) (h : VolumeHolds v rows files) where
  abbrev Finds : Look → Damage → Type 0
  Finds look d = LookFinds v.ns v.start v.number files look d

  info_is : IsInfo v.ns v.start v.number v (bytes_at files (part_name Info v.ns v.start v.number))
  info_is = record { series = length rows; points = count_of rows; values = h.values.head; read = h.read; named = refl; some = h.values.some; series_fits = (let c = h.values.counted in omega (arith, c)); points_fit = h.values.points; is = ap (λ o. unwrap_or o []) (h.parts Info) }

  derived : (part : Part) → IsDerived part v.ns v.start v.number files (part_bytes part v rows)
  derived part = record { head = v; rows = rows; info = info_is; values = h.values; body = ap (λ o. unwrap_or o []) (h.parts Data); is = refl }

  digests_long : length (digests_bytes v rows) ≡ 160
  digests_long =
      let a = sha256 (info_bytes v rows) in
      let b = sha256 (summaries_bytes v.format rows) in
      let c = sha256 (index_bytes v.format rows) in
      let d = sha256 (data_bytes rows) in
      let e = sha256 (bloom_bytes rows) in
      let la = length-sha256 (info_bytes v rows) in
      let lb = length-sha256 (summaries_bytes v.format rows) in
      let lc = length-sha256 (index_bytes v.format rows) in
      let ld = length-sha256 (data_bytes rows) in
      let le = length-sha256 (bloom_bytes rows) in
      let s1 = length-append a (b ++ (c ++ (d ++ e))) in
      let s2 = length-append b (c ++ (d ++ e)) in
      let s3 = length-append c (d ++ e) in
      let s4 = length-append d e in
      omega (arith, la, lb, lc, ld, le, s1, s2, s3, s4)

  -- the five digests, as the digests file has them
  kept_five : Fives (sha256 (info_bytes v rows)) (sha256 (summaries_bytes v.format rows)) (sha256 (index_bytes v.format rows)) (sha256 (data_bytes rows)) (sha256 (bloom_bytes rows)) (digests_bytes v rows)
  kept_five = five (sha256 (info_bytes v rows)) (sha256 (summaries_bytes v.format rows)) (sha256 (index_bytes v.format rows)) (sha256 (data_bytes rows)) (sha256 (bloom_bytes rows)) (length-sha256 (info_bytes v rows)) (length-sha256 (summaries_bytes v.format rows))
      (length-sha256 (index_bytes v.format rows)) (length-sha256 (data_bytes rows))

  bytes_there : (part : Part) → bytes_at files (part_of part v) ≡ part_bytes part v rows
  bytes_there part = ap (λ o. unwrap_or o []) (h.parts part)

  -- a digest that is kept is the part's
  kept_right : (part : Part) (kept : List ℕ) → kept_of part v.ns v.start v.number files ≡ Some kept → kept ≡ sha256 (part_bytes part v rows)
  kept_right Checkpoint kept is = absurd (cc)
  kept_right Digests kept is = sym (same_Some _ kept is) ∙ ap (drop 1) (bytes_there Checkpoint)
  kept_right Info kept is = sym (same_Some _ kept is) ∙ ap (take 32) (bytes_there Digests) ∙ kept_five.first
  kept_right Summaries kept is = sym (same_Some _ kept is) ∙ ap (λ l. take 32 (drop 32 l)) (bytes_there Digests) ∙ kept_five.second
  kept_right Index kept is = sym (same_Some _ kept is) ∙ ap (λ l. take 32 (drop 64 l)) (bytes_there Digests) ∙ kept_five.third
  kept_right Data kept is = sym (same_Some _ kept is) ∙ ap (λ l. take 32 (drop 96 l)) (bytes_there Digests) ∙ kept_five.fourth
  kept_right Bloom kept is = sym (same_Some _ kept is) ∙ ap (λ l. take 32 (drop 128 l)) (bytes_there Digests) ∙ ap (take 32) kept_five.fifth ∙ all_of (sha256 (bloom_bytes rows)) (length-sha256 (bloom_bytes rows))
    where
      all_of : (l : List ℕ) → length l ≡ 32 → take 32 l ≡ l
      all_of l long = ap (take 32) (sym (append-nil l)) ∙ take_at l [] 32 long

  form_right : (part : Part) → FormOf part v.ns v.start v.number files (part_bytes part v rows)
  form_right Checkpoint = record { digest = sha256 (digests_bytes v rows); long = length-sha256 (digests_bytes v rows); is = refl }
  form_right Digests = digests_long
  form_right Data = record { head = v; rows = rows; info = info_is; values = h.values; is = refl }
  form_right Info = derived Info
  form_right Summaries = derived Summaries
  form_right Index = derived Index
  form_right Bloom = derived Bloom

  pub whole_volume : (look : Look) (d : Damage) → LookFinds v.ns v.start v.number files look d → ⊥
  whole_volume (AtForm part) d f = no_break (FormOf part v.ns v.start v.number files) files (part_of part v) (part_bytes part v rows) d (h.parts part) (form_right part) f
  whole_volume (AtDigest part) d f = no_differ f.kept files (part_of part v) (part_bytes part v rows) d (h.parts part) (kept_right part f.kept f.is_kept) f.breaks
  whole_volume AtHead d f = no_break (IsSomeInfo v.ns v.start v.number) files (part_of Info v) (info_bytes v rows) d (h.parts Info) (record { head = v; info = subst (IsInfo v.ns v.start v.number v) (ap (λ o. unwrap_or o []) (h.parts Info)) info_is }) f

-- a snapshot that is whole breaks nothing
whole_snapshot : (s : Snapshot) (files : Files) → SnapshotHolds s files → (look : SnapshotLook) (d : Damage) → SnapshotFinds s.number files look d → ⊥
whole_snapshot s files h AtGate d f =
    no_break IsGate files (snapshot_checkpoint s.number) (checkpoint_bytes (snapshot_bytes s)) d h.checkpoint (record { digest = sha256 (snapshot_bytes s); long = length-sha256 (snapshot_bytes s); is = refl }) f
whole_snapshot s files h AtKept d f = no_differ (drop 1 (bytes_at files (snapshot_checkpoint s.number))) files (snapshot_data s.number) (snapshot_bytes s) d h.body (ap (λ o. drop 1 (unwrap_or o [])) h.checkpoint) f
whole_snapshot s files h AtBody d f = no_break (IsBody s.number) files (snapshot_data s.number) (snapshot_bytes s) d h.body (record { snapshot = s; values = h.values; numbered = refl; is = refl }) f

-- ---- segments

-- the entries of one of the segments
record SegmentEntries (n : ℕ) (files : Files) : Type 0 where
  pub entries : List LogEntry
  pub within : AreWithin entries
  pub has : HasChunks (segment n) (map spelled entries) files

-- the first entries of which the chunks are the first part
record FrontEntries (es : List LogEntry) (front back : List (List ℕ)) : Type 0 where
  pub first : List LogEntry
  pub later : List LogEntry
  pub first_within : AreWithin first
  pub later_within : AreWithin later
  pub front_is : front ≡ map spelled first
  pub back_is : back ≡ map spelled later

front_of : (es : List LogEntry) (front back : List (List ℕ)) → AreWithin es → map spelled es ≡ front ++ back → FrontEntries es front back
front_of es [] back all is = record { first = []; later = es; first_within = tt; later_within = all; front_is = refl; back_is = sym is }
front_of [] (c ∷ front) back all is = absurd (cc)
front_of (e ∷ es) (c ∷ front) back all is =
    let head : spelled e ≡ c = cc in
    let rest : map spelled es ≡ front ++ back = cc in
    let more = front_of es front back all.1 rest in
    record { first = e ∷ more.first; later = more.later; first_within = (all.0, more.first_within); later_within = more.later_within; front_is = λ i. sym head i ∷ more.front_is i; back_is = more.back_is }

entries_in : (ns : List ℕ) (files : Files) (es : List LogEntry) → AreWithin es → PartsHold ns files (map spelled es) → (n : ℕ) → IsIn ns n → SegmentEntries n files
entries_in [] files es all parts n m = absurd m
entries_in (k ∷ ns) files es all parts n (inl e) =
    let f = front_of es parts.first parts.rest all parts.split in
    record { entries = f.first; within = f.first_within; has = subst (λ j. HasChunks (segment j) (map spelled f.first) files) e (subst (λ l. HasChunks (segment k) l files) f.front_is parts.has) }
entries_in (k ∷ ns) files es all parts n (inr m) =
    let f = front_of es parts.first parts.rest all parts.split in
    entries_in ns files f.later f.later_within (subst (PartsHold ns files) f.back_is parts.later) n m

-- a chunk that stands among those that are read is one of them
reads_it : (before cs : List (List ℕ)) (chunk rest bytes : List ℕ) → length bytes ≤ 65536 → ReadsChunks cs bytes → bytes ≡ written before ++ (chunk_bytes chunk ++ rest) → IsIn cs chunk
reads_it [] [] chunk rest bytes le r is = absurd (no_chunk chunk rest (subst IsEnd is r))
reads_it [] (c ∷ cs) chunk rest bytes le r is =
    let a = chunk_long c r.0 bytes le r.1 in
    let b = chunk_long chunk rest bytes le is in
    inl (same_chunk c chunk r.0 rest a.0 b.0 (sym r.1 ∙ is)).0
reads_it (b ∷ before) [] chunk rest bytes le r is = absurd (no_chunk b _ (subst IsEnd (is ∙ append_assoc (chunk_bytes b) (written before) (chunk_bytes chunk ++ rest)) r))
reads_it (b ∷ before) (c ∷ cs) chunk rest bytes le r is =
    let joined = is ∙ append_assoc (chunk_bytes b) (written before) (chunk_bytes chunk ++ rest) in
    let x = chunk_long c r.0 bytes le r.1 in
    let y = chunk_long b (written before ++ (chunk_bytes chunk ++ rest)) bytes le joined in
    let same = same_chunk c b r.0 (written before ++ (chunk_bytes chunk ++ rest)) x.0 y.0 (sym r.1 ∙ joined) in
    inr (reads_it before cs chunk rest r.0 x.1 r.2 same.1)

pub within_one : (es : List LogEntry) (e : LogEntry) → AreWithin es → IsIn es e → IsWithin e
within_one [] e all m = absurd m
within_one (d ∷ es) e all (inl same) = subst IsWithin same all.0
within_one (d ∷ es) e all (inr m) = within_one es e all.1 m

-- a segment of entries stops nowhere
whole_segment : (es : List LogEntry) (bytes : List ℕ) (at : ℕ) → AreWithin es → length bytes ≡ 65536 → ReadsChunks (map spelled es) bytes → SegmentStops bytes at → ⊥
whole_segment es bytes at all long reads (inl s) = s.none (record { chunks = map spelled es; long = long; reads = reads })
whole_segment es bytes at all long reads (inr s) =
    let m = reads_it s.before (map spelled es) s.chunk s.rest bytes (omega (arith, long)) reads s.split in
    let e = IsIn-map spelled es s.chunk m in
    s.stops.none (subst AnEntry e.2 (bytes_are e.0 (within_one es e.0 all e.1)))

-- nor does one among some that hold entries
pub segment_unbroken : (ns : List ℕ) (files : Files) (es : List LogEntry) → AreWithin es → PartsHold ns files (map spelled es) → (n : ℕ) → IsIn ns n → (d : Damage) → BreaksSegment files n d → ⊥
segment_unbroken ns files es within parts n m d b =
    let s = entries_in ns files es within parts n m in
    whole_segment s.entries s.has.file b.at s.within s.has.size s.has.reads (subst (λ l. SegmentStops l b.at) (ap (λ o. unwrap_or o []) s.has.there) b.stops.stops)

-- ---- all files

last_only : (names : List FileName) (n : FileName) → last_of (names ++ n ∷ []) ≡ n ∷ []
last_only [] n = refl
last_only (m ∷ []) n = refl
last_only (m ∷ k ∷ names) n = last_only (k ∷ names) n

in_split : {X : Type 0} (before : List X) (x : X) (after : List X) → IsIn (before ++ x ∷ after) x
in_split before x after = IsIn-append_right before (x ∷ after) x (inl refl)

-- nothing is found in whole volumes and in a whole snapshot
module _ (files : Files) where
  volume_unbroken : (known : List KnownVolume) → VolumesAre known files → (name : FileName) → IsIn (counted_volumes files) name → (d : Damage) → LocationFinds files (InVolume name) d → ⊥
  volume_unbroken known are name m d f =
      let k = of_name files (counted_volumes files) known are name m in
      let g = subst (λ (q : FileName). LocationFinds files (InVolume q) d) k.2.named f in
      whole_volume k.0.head k.0.rows files k.2.holds g.one d g.found

  snapshot_unbroken : (o : Option Snapshot) → NewestIs o files → (name : FileName) → IsIn (last_of (counted_snapshots files)) name → (d : Damage) → LocationFinds files (InSnapshot name) d → ⊥
  snapshot_unbroken None is name m d f = absurd (subst (λ l. IsIn l name) (ap last_of is) m)
  snapshot_unbroken (Some s) is name m d f =
      let listed : IsIn (snapshot_checkpoint s.number ∷ []) name = subst (λ l. IsIn l name) (ap last_of is.last ∙ last_only is.older (snapshot_checkpoint s.number)) m in
      ⊎_elim (λ (e : snapshot_checkpoint s.number ≡ name).
      let g = subst (λ (q : FileName). LocationFinds files (InSnapshot q) d) (sym e) f in
      whole_snapshot s files is.holds g.one d g.found) (λ (none : ⊥). none) listed

  -- of these offsets none finds anything, where no segment of these does
  locations_unbroken : (known : List KnownVolume) (newest : Option Snapshot) (ns : List ℕ) → VolumesAre known files → NewestIs newest files → ((n : ℕ) → IsIn ns n → (d : Damage) → BreaksSegment files n d → ⊥)
      → (location : Location) → IsIn (map InVolume (counted_volumes files) ++ (map InSnapshot (last_of (counted_snapshots files)) ++ map InSegment ns)) location → (d : Damage) → LocationFinds files location d → ⊥
  locations_unbroken known newest ns are is none location m d f =
      ⊎_elim (λ (v : IsIn (map InVolume (counted_volumes files)) location). let at = IsIn-map InVolume (counted_volumes files) location v in volume_unbroken known are at.0 at.1 d (subst (λ q. LocationFinds files q d) (sym at.2) f))
      (λ (rest : IsIn (map InSnapshot (last_of (counted_snapshots files)) ++ map InSegment ns) location).
      ⊎_elim (λ (s : IsIn (map InSnapshot (last_of (counted_snapshots files))) location). let at = IsIn-map InSnapshot (last_of (counted_snapshots files)) location s in snapshot_unbroken newest is at.0 at.1 d (subst (λ q. LocationFinds files q d) (sym at.2) f))
      (λ (n : IsIn (map InSegment ns) location). let at = IsIn-map InSegment ns location n in none at.0 at.1 d (subst (λ q. LocationFinds files q d) (sym at.2) f)) (IsIn-append_cases (map InSnapshot (last_of (counted_snapshots files))) (map InSegment ns) location rest))
      (IsIn-append_cases (map InVolume (counted_volumes files)) (map InSnapshot (last_of (counted_snapshots files)) ++ map InSegment ns) location m)

pub damaged_hold_nothing : DamagedHoldNothing
damaged_hold_nothing files damage first points tenure fence held =
    locations_unbroken files held.parts.volumes held.parts.newest (numbers files) held.holds.volumes held.holds.newest (λ n m d f. segment_unbroken (numbers files) files held.parts.entries held.holds.log.within held.holds.log.parts n m d f) first.one
    (subst (λ l. IsIn l first.one) (sym first.split) (in_split first.before first.one first.after)) damage first.found

pub log_damage_is_first : LogDamageIsFirst
log_damage_is_first known newest damage files are is h =
    let vs = map InVolume (counted_volumes files) in
    let ss = map InSnapshot (last_of (counted_snapshots files)) in
    let bs = map InSegment h.before in
    let later = InSegment h.one ∷ map InSegment h.after in
    record {
      before = vs ++ (ss ++ bs);
      one = InSegment h.one;
      after = map InSegment h.after;
      split = ap (λ (l : List Location). vs ++ (ss ++ l)) (ap (map InSegment) h.split ∙ map-append InSegment h.before (h.one ∷ h.after)) ∙ ap (λ (l : List Location). vs ++ l) (sym (append_assoc ss bs later)) ∙ sym (append_assoc vs (ss ++ bs) later);
      none = λ location m other f. locations_unbroken files known newest h.before are is (λ n k d g. h.none n k d g) location m other f;
      found = h.found;
    }

-- ---- digests that are told

pub told_differ : (keep : List ℕ) (files : Files) (q name : FileName) (kept found : List ℕ) → BreaksDigest keep files q (OfDigest name kept found) → DigestsDiffer files name kept found
told_differ keep files q name kept found (IsGone gone told) = absurd (cc)
told_differ keep files q name kept found (Differs bytes there differ told) =
    let same_name : name ≡ q = cc in
    let same_kept : kept ≡ keep = cc in
    let same_found : found ≡ sha256 bytes = cc in
    record { differ = λ e. differ (sym same_kept ∙ e ∙ same_found); bytes = bytes; there = ap (get files) same_name ∙ there; is_found = same_found }

no_form : (Form : List ℕ → Type 0) (files : Files) (q name : FileName) (kept found : List ℕ) → BreaksForm Form files q (OfDigest name kept found) → ⊥
no_form Form files q name kept found b = let told = b.is in cc

pub told_look : (ns start number : ℕ) (files : Files) (look : Look) (name : FileName) (kept found : List ℕ) → LookFinds ns start number files look (OfDigest name kept found) → DigestsDiffer files name kept found
told_look ns start number files (AtForm part) name kept found f = absurd (no_form (FormOf part ns start number files) files (part_name part ns start number) name kept found f)
told_look ns start number files AtHead name kept found f = absurd (no_form (IsSomeInfo ns start number) files (part_name Info ns start number) name kept found f)
told_look ns start number files (AtDigest part) name kept found f = told_differ f.kept files (part_name part ns start number) name kept found f.breaks

pub told_snapshot : (number : ℕ) (files : Files) (look : SnapshotLook) (name : FileName) (kept found : List ℕ) → SnapshotFinds number files look (OfDigest name kept found) → DigestsDiffer files name kept found
told_snapshot number files AtGate name kept found f = absurd (no_form IsGate files (snapshot_checkpoint number) name kept found f)
told_snapshot number files AtKept name kept found f = told_differ (drop 1 (bytes_at files (snapshot_checkpoint number))) files (snapshot_data number) name kept found f
told_snapshot number files AtBody name kept found f = absurd (no_form (IsBody number) files (snapshot_data number) name kept found f)

told_location : (files : Files) (location : Location) (name : FileName) (kept found : List ℕ) → LocationFinds files location (OfDigest name kept found) → DigestsDiffer files name kept found
told_location files (InVolume q) name kept found f = told_look q.ns q.block q.number files f.one name kept found f.found
told_location files (InSnapshot q) name kept found f = told_snapshot q.number files f.one name kept found f.found
told_location files (InSegment n) name kept found f = absurd (let told = f.is in cc)

pub told_digests_differ : ToldDigestsDiffer
told_digests_differ files name kept found first = told_location files first.one name kept found first.found
