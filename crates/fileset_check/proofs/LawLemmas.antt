-- What is told of volumes, as damage of all files.
use Rattle.std.proofs.Common.{◌≡◌, inl, inr, ℕ, List, [], ◌∷◌, ◌++◌, map, refl, sym, ap, subst, ◌∙◌, append_assoc}
use Rattle.std.proofs.lemmas.List.{map-append}
use Rattle.fileset_read.specs.m3_model.Members.{IsIn}
use Rattle.fileset_read.proofs.m3_model_proofs.MemberLemmas.{IsIn-map, IsIn-append_right}
use Rattle.fileset_read.specs.m3_outside.Files.{Files}
use Rattle.fileset_read.specs.m3_outside.declared.file_name.FileName.{FileName}
use Rattle.fileset_read.specs.commit_log.Contents.{numbers}
use Rattle.fileset_read.specs.wire_bytes.Volumes.{Part, Info, Summaries, Index, Data, Bloom, Digests, Checkpoint}
use Rattle.fileset_read.specs.shard_files.Parts.{part_name, counted_volumes, counted_snapshots, IsKnown}
use Rattle.fileset_read.specs.shard_files.Damage.{Damage, OfForm, Look, AtForm, AtDigest, AtHead, LookFinds, FirstFound, looks, bytes_at, Location, InVolume, InSnapshot, InSegment, LocationFinds, last_of, locations}
use Rattle.fileset_read.proofs.shard_files_proofs.FirstDamageLemmas.{whole_volume}
use Rattle.fileset_read.proofs.shard_files_proofs.VolumeSteps.{of_name}
use Rattle.fileset_check.specs.Told.{LookTells, HeadStops, IsInside, VolumesTell, BreaksHead}
use Rattle.fileset_check.specs.Laws.{ToldAreUnsound, ToldIsFirst}
use Rattle.fileset_check.proofs.WholeLemmas.{known_none}

pub told_are_unsound : ToldAreUnsound
told_are_unsound files damage t known are =
    let m : IsIn (counted_volumes files) t.one = subst (λ (l : List FileName). IsIn l t.one) (sym t.split) (IsIn-append_right t.before (t.one ∷ t.after) t.one (inl refl)) in
    let k = of_name files (counted_volumes files) known are t.one m in
    known_none files t.one k.0 k.2 damage t.told

module _ (ns start number : ℕ) (files : Files) where
  -- what is found is told, though of data in other words
  finds_tells : (look : Look) (d : Damage) → LookFinds ns start number files look d → (other : Damage) × LookTells ns start number files look other
  finds_tells AtHead d f = (d, record { at = f.at; stops = inl f.stops; is = f.is })
  finds_tells (AtDigest part) d f = (d, f)
  finds_tells (AtForm Data) d f = (OfForm (part_name Data ns start number) 0, record { none = f.stops.none; is = refl })
  finds_tells (AtForm Info) d f = (d, f)
  finds_tells (AtForm Summaries) d f = (d, f)
  finds_tells (AtForm Index) d f = (d, f)
  finds_tells (AtForm Bloom) d f = (d, f)
  finds_tells (AtForm Digests) d f = (d, f)
  finds_tells (AtForm Checkpoint) d f = (d, f)

  -- what is told is found, but for these two
  tells_finds : (look : Look) (d : Damage) → (look ≡ AtForm Data → ⊥) → IsInside ns start number → LookTells ns start number files look d → LookFinds ns start number files look d
  tells_finds AtHead d other inside b = by b.stops
    where
      by : HeadStops ns start number (bytes_at files (part_name Info ns start number)) b.at → LookFinds ns start number files AtHead d
      by (inl s) = record { at = b.at; stops = s; is = b.is }
      by (inr o) = absurd (o.0 inside)
  tells_finds (AtDigest part) d other inside b = b
  tells_finds (AtForm Data) d other inside b = absurd (other refl)
  tells_finds (AtForm Info) d other inside b = b
  tells_finds (AtForm Summaries) d other inside b = b
  tells_finds (AtForm Index) d other inside b = b
  tells_finds (AtForm Bloom) d other inside b = b
  tells_finds (AtForm Digests) d other inside b = b
  tells_finds (AtForm Checkpoint) d other inside b = b

  first_finds : (d : Damage) → (f : FirstFound (LookTells ns start number files) looks d) → (f.one ≡ AtForm Data → ⊥) → IsInside ns start number → FirstFound (LookFinds ns start number files) looks d
  first_finds d f other inside = record {
    before = f.before;
    one = f.one;
    after = f.after;
    split = f.split;
    none = λ look m o g. let t = finds_tells look o g in f.none look m t.0 t.1;
    found = tells_finds f.one d other inside f.found;
  }

whole_location : (files : Files) (name : FileName) (k : Rattle.fileset_read.specs.shard_files.Parts.KnownVolume) → IsKnown files name k → (d : Damage) → LocationFinds files (InVolume name) d → ⊥
whole_location files name k known d f = let g = subst (λ (q : FileName). LocationFinds files (InVolume q) d) known.named f in whole_volume k.head k.rows files known.holds g.one d g.found

pub told_is_first : ToldIsFirst
told_is_first files damage t other inside =
    let rest = map InSnapshot (last_of (counted_snapshots files)) ++ map InSegment (numbers files) in
    record {
      before = map InVolume t.before;
      one = InVolume t.one;
      after = map InVolume t.after ++ rest;
      split = ap (λ (l : List FileName). map InVolume l ++ rest) t.split ∙ ap (λ (l : List Location). l ++ rest) (map-append InVolume t.before (t.one ∷ t.after)) ∙ append_assoc (map InVolume t.before) (InVolume t.one ∷ map InVolume t.after) rest;
      none = λ location m o f.
          let at = IsIn-map InVolume t.before location m in
          let k = of_name files t.before t.known t.whole at.0 at.1 in
          whole_location files at.0 k.0 k.2 o (subst (λ (q : Location). LocationFinds files q o) (sym at.2) f);
      found = first_finds t.one.ns t.one.block t.one.number files damage t.told other inside;
    }
