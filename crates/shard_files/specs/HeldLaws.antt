-- What a log holds is one thing, what one more entry does to it, and what a stop leaves of a call that brings something.
use Rattle.std.specs.Prelude.{◌≡◌, ℕ, max, true, List, [], ◌∷◌, ◌++◌, fold}
use Rattle.commit_log.specs.m3_model.Contents.{raised, content_of}
use Rattle.commit_log.specs.m3_model.Members.{IsIn}
use Rattle.commit_log.specs.m3_model.declared.point.Point.{Point}
use Rattle.commit_log.specs.m3_outside.Files.{Files}
use Rattle.commit_log.specs.m3_outside.DiskState.{DiskState, EachImage, Elapses}
use Rattle.shard_files.specs.declared.entries.LogEntry.{LogEntry}
use Rattle.shard_files.specs.Entries.{spelled, IsWithin}
use Rattle.shard_files.specs.HeldEntries.{HoldsEntries, points_in, tenure_in, fence_in, points_of, tenure_of, fence_of}
use Rattle.shard_files.specs.FilesHold.{FilesHold, IsSound}
use Rattle.shard_files.specs.Gains.{Gain, Grows, HoldsPart, MayGain}

-- no two entries have the same bytes
abbrev pub OneSpelling : Type 0
OneSpelling = (d e : LogEntry) → IsWithin d → IsWithin e → spelled d ≡ spelled e → d ≡ e

-- files hold one list of entries
abbrev pub EntriesAreOne : Type 0
EntriesAreOne = (ds es : List LogEntry) (files : Files) → HoldsEntries ds files → HoldsEntries es files → ds ≡ es

-- one more entry brings its points, and its tenure and fence where they are greater
pub record OneMore (es : List LogEntry) (e : LogEntry) : Type 0 where
  pub points : points_of (es ++ e ∷ []) ≡ points_of es ++ points_in e
  pub tenure : tenure_of (es ++ e ∷ []) ≡ max (tenure_of es) (tenure_in e)
  pub fence : fence_of (es ++ e ∷ []) ≡ max (fence_of es) (fence_in e)

-- points of the gain with which what stood before makes up what stands now
pub record IsJoinedWith (before gained now : List Point) : Type 0 where
  pub part : List Point
  pub of_gain : (p : Point) → IsIn part p → IsIn gained p
  pub joined : content_of now ≡ fold raised (content_of before) part

-- a content that grew is the one from before, joined with part of the gain
abbrev pub GrownIsJoined : Type 0
GrownIsJoined = (before now : List Point) (gain : Gain) → Grows before gain now → IsJoinedWith before gain.points now

-- Where each image is sound, a call that may bring something leaves, wherever a stop falls since it began, files that hold what one of the images
-- held, and part of what it brings.
pub record WasGrown (gain : Gain) (images : Files → Type 0) (files : Files) : Type 0 where
  pub before : Files
  pub was : images before
  pub points : List Point
  pub tenure : ℕ
  pub fence : ℕ
  pub held : FilesHold points tenure fence before
  pub left : HoldsPart points tenure fence gain files

abbrev pub StopLeavesPart : {D : Type 0} → (D → DiskState) → Type 0
StopLeavesPart {D} state =
    (old new : D) (gain : Gain) → (state old).tells ≡ true → EachImage (state old) IsSound → Elapses (MayGain gain) (state old) (state new) → (c : Files) → (state new).since (state old).moment c → WasGrown gain (state old).images c
