-- What is kept of a volume that is there.
use Rattle.std.proofs.Common.{◌≡◌, ◌∙◌, List, length, Option, Some, sym, ap, subst, Bor}
use Rattle.std.specs.Prelude.{None, IfSome, option_map}
use Rattle.std.specs.Option.{option_copied}
use Rattle.m3_model.specs.declared.point.Series.{Series}
use Rattle.volume_points.specs.m3_outside.Files.{Files}
use Rattle.volume_points.specs.wire_bytes.Volumes.{Bloom, Index, Summaries}
use Rattle.volume_points.specs.shard_files.Parts.{VolumeHolds}
use Rattle.volume_points.specs.volume_bytes.declared.heads.Head.{Head}
use Rattle.volume_points.specs.volume_bytes.Heads.{head_of}
use Rattle.volume_points.specs.volume_rows.declared.seeker.Seeker.{Seeker}
use Rattle.volume_points.specs.volume_rows.Seekers.{IsSeekerOf}
use Rattle.listed_volumes.specs.Kept.{HasSeeker}

-- it is what the volume's files have
pub kept_there : (head : Head) (rows : List Series) (kept : Option Seeker) (files : Files) → HasSeeker rows kept → VolumeHolds (head_of head) rows files → IfSome kept (λ k. IsSeekerOf (head_of head) k files)
kept_there head rows None files has holds = tt
kept_there head rows (Some k) files has holds = record {
  bloom = holds.parts Bloom ∙ ap Some (sym has.0);
  summaries = holds.parts Summaries ∙ ap Some (sym has.1.0);
  index = ap (option_map length) (holds.parts Index) ∙ ap Some (sym has.1.1);
}

-- what is so of a value is so of a borrow of it
pub borrowed : (P : Seeker → Type 0) (r : Option (Bor Seeker)) (kept : Option Seeker) → option_copied r ≡ kept → IfSome kept P → IfSome r (λ k. P k.now)
borrowed P None kept is h = tt
borrowed P (Some k) kept is h = subst (λ (m : Option Seeker). IfSome m P) (sym is) h
