-- Head, data and what the data gives, in the files of one volume.
use Rattle.std.proofs.Common.{◌≡◌, inl, inr, ℕ, ◌<◌, ◌≤◌, List, [], ◌∷◌, Option, refl, sym, ap, subst, ◌∙◌, arith}
use Rattle.fileset_read.specs.m3_model.declared.limits.TheConstants.{MOST_NAMESPACES, NUMBER_END, TIME_END}
use Rattle.fileset_read.specs.m3_model.declared.point.Series.{Series}
use Rattle.fileset_read.specs.m3_outside.Files.{Files}
use Rattle.fileset_read.specs.m3_outside.declared.file_name.FileName.{FileName}
use Rattle.fileset_read.specs.wire_bytes.Volumes.{VolumeHead, IsVolume, Part, Info, Summaries, Index, Data, Bloom, data_bytes, part_bytes}
use Rattle.fileset_read.proofs.wire_bytes_proofs.VolumeLemmas.{same_rows}
use Rattle.fileset_read.specs.shard_files.Parts.{part_name}
use Rattle.fileset_read.specs.shard_files.Damage.{Damage, OfForm, Look, AtForm, AtHead, bytes_at, BreaksForm, IsInfo, IsData, IsDerived, FormOf}
use Rattle.fileset_check.specs.PartFiles.{AreParts, Spells, bytes_in, file_of}
use Rattle.fileset_check.specs.Told.{LookTells, BreaksHead, IsUnfit, HeadStops, IsInside}
use Rattle.fileset_check.proofs.StopLemmas.{breaks_as}
use Rattle.fileset_check.proofs.HeadLemmas.{HasNames, names_of, one_head}
use Rattle.fileset_check.proofs.DigestLemmas.{bytes_are}

-- a name of which there is an info is one that a volume may have
pub inside_of : (ns start number : ℕ) (v : VolumeHead) (bytes : List ℕ) → IsInfo ns start number v bytes → IsInside ns start number
inside_of ns start number v bytes x =
    let names = names_of ns start number v bytes x in
    (subst (λ (n : ℕ). n < MOST_NAMESPACES) names.ns_is x.values.ns, subst (λ (n : ℕ). n < TIME_END) names.start_is x.values.start, subst (λ (n : ℕ). n < NUMBER_END) names.number_is x.values.number)

module _ (of : FileName) (files : Files) (parts : List (Option (List ℕ))) (p : AreParts of files parts) where
  abbrev Tells : Look → Damage → Type 0
  Tells look d = LookTells of.ns of.block of.number files look d

  info_at : bytes_in parts 1 ≡ bytes_at files (file_of 1 of)
  info_at = bytes_are of files parts 1 p (omega arith) (omega arith)

  body_at : bytes_in parts 4 ≡ bytes_at files (file_of 4 of)
  body_at = bytes_are of files parts 4 p (omega arith) (omega arith)

  pub head_breaks : (at : ℕ) (d : Damage) → HeadStops of.ns of.block of.number (bytes_in parts 1) at → d ≡ OfForm (file_of 1 of) at → BreaksHead of.ns of.block of.number files d
  head_breaks at d s is = record { at = at; stops = subst (λ (l : List ℕ). HeadStops of.ns of.block of.number l at) info_at s; is = is }

  module _ (v : VolumeHead) (x : IsInfo of.ns of.block of.number v (bytes_in parts 1)) where
    pub info_there : IsInfo of.ns of.block of.number v (bytes_at files (file_of 1 of))
    info_there = subst (IsInfo of.ns of.block of.number v) info_at x

    pub head_none : (d : Damage) → Tells AtHead d → ⊥
    head_none d b = by b.stops
      where
        by : HeadStops of.ns of.block of.number (bytes_at files (file_of 1 of)) b.at → ⊥
        by (inl s) = s.none (record { head = v; info = info_there })
        by (inr o) = o.0 (inside_of of.ns of.block of.number v (bytes_in parts 1) x)

    -- the volume of this head that the bytes are
    of_head : (w : VolumeHead) (rows : List Series) → IsInfo of.ns of.block of.number w (bytes_at files (file_of 1 of)) → IsVolume w rows → IsVolume v rows
    of_head w rows y values = subst (λ (u : VolumeHead). IsVolume u rows) (one_head of.ns of.block of.number w v (bytes_at files (file_of 1 of)) y info_there) values

    pub unfit : (d : Damage) → ((rows : List Series) → IsVolume v rows → bytes_in parts 4 ≡ data_bytes rows → ⊥) → d ≡ OfForm (file_of 4 of) 0 → IsUnfit of.ns of.block of.number files d
    unfit d none is = record { none = λ f. none f.rows (of_head f.head f.rows f.info f.values) (body_at ∙ f.is); is = is }

    module _ (rows : List Series) (values : IsVolume v rows) (body : bytes_in parts 4 ≡ data_bytes rows) where
      pub body_none : (d : Damage) → Tells (AtForm Data) d → ⊥
      body_none d b = b.none (record { head = v; rows = rows; info = info_there; values = values; is = sym body_at ∙ body })

      to : (part : Part) (bytes : List ℕ) → bytes ≡ part_bytes part v rows → IsDerived part of.ns of.block of.number files bytes
      to part bytes is = record { head = v; rows = rows; info = info_there; values = values; body = sym body_at ∙ body; is = is }

      from : (part : Part) (bytes : List ℕ) → IsDerived part of.ns of.block of.number files bytes → bytes ≡ part_bytes part v rows
      from part bytes f =
          let head : f.head ≡ v = one_head of.ns of.block of.number f.head v (bytes_at files (file_of 1 of)) f.info info_there in
          let other : IsVolume v f.rows = of_head f.head f.rows f.info f.values in
          let same : f.rows ≡ rows = same_rows v.start v.size f.rows rows other.row values.row (sym f.body ∙ sym body_at ∙ body) in
          f.is ∙ (λ i. part_bytes part (head i) (same i))

      pub breaks_info : (d : Damage) → BreaksForm (Spells (part_bytes Info v rows)) files (file_of 1 of) d → Tells (AtForm Info) d
      breaks_info d b = breaks_as (Spells (part_bytes Info v rows)) (FormOf Info of.ns of.block of.number files) files (file_of 1 of) d (to Info) (from Info) b

      pub breaks_summaries : (d : Damage) → BreaksForm (Spells (part_bytes Summaries v rows)) files (file_of 2 of) d → Tells (AtForm Summaries) d
      breaks_summaries d b = breaks_as (Spells (part_bytes Summaries v rows)) (FormOf Summaries of.ns of.block of.number files) files (file_of 2 of) d (to Summaries) (from Summaries) b

      pub breaks_index : (d : Damage) → BreaksForm (Spells (part_bytes Index v rows)) files (file_of 3 of) d → Tells (AtForm Index) d
      breaks_index d b = breaks_as (Spells (part_bytes Index v rows)) (FormOf Index of.ns of.block of.number files) files (file_of 3 of) d (to Index) (from Index) b

      pub breaks_bloom : (d : Damage) → BreaksForm (Spells (part_bytes Bloom v rows)) files (file_of 5 of) d → Tells (AtForm Bloom) d
      breaks_bloom d b = breaks_as (Spells (part_bytes Bloom v rows)) (FormOf Bloom of.ns of.block of.number files) files (file_of 5 of) d (to Bloom) (from Bloom) b

      pub info_none : bytes_in parts 1 ≡ part_bytes Info v rows → (d : Damage) → Tells (AtForm Info) d → ⊥
      info_none e d b = b.stops.none (to Info _ (sym info_at ∙ e))

      pub summaries_none : bytes_in parts 2 ≡ part_bytes Summaries v rows → (d : Damage) → Tells (AtForm Summaries) d → ⊥
      summaries_none e d b = b.stops.none (to Summaries _ (sym (bytes_are of files parts 2 p (omega arith) (omega arith)) ∙ e))

      pub index_none : bytes_in parts 3 ≡ part_bytes Index v rows → (d : Damage) → Tells (AtForm Index) d → ⊥
      index_none e d b = b.stops.none (to Index _ (sym (bytes_are of files parts 3 p (omega arith) (omega arith)) ∙ e))
