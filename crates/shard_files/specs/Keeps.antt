-- What a call does to what files hold that brings no point: a flush, a tick and a snapshot.
use Rattle.std.specs.Prelude.{◌≡◌, ℕ, true, List}
use Rattle.commit_log.specs.m3_model.Answers.{HasPoint}
use Rattle.commit_log.specs.m3_model.Contents.{Contents}
use Rattle.commit_log.specs.m3_model.Members.{IsIn}
use Rattle.commit_log.specs.m3_model.declared.point.Point.{Point}
use Rattle.commit_log.specs.m3_outside.Causes.{CountsFaults}
use Rattle.commit_log.specs.m3_outside.Files.{Files}
use Rattle.commit_log.specs.m3_outside.DiskState.{DiskState, EachImage, Elapses}
use Rattle.shard_files.specs.Parts.{AreWhole}
use Rattle.shard_files.specs.FilesHold.{FilesHold, IsSound}

-- No file point comes, and each point of the content that is to be kept is there.
pub record Sheds (kept : Contents) (before points : List Point) : Type 0 where
  pub nothing_else : (p : Point) → IsIn points p → IsIn before p
  pub whole : (p : Point) → HasPoint kept p → IsIn points p

-- the files hold some of these points, those of the content all, and this tenure and this fence
pub record HoldsKept (kept : Contents) (before : List Point) (tenure fence : ℕ) (files : Files) : Type 0 where
  pub points : List Point
  pub held : FilesHold points tenure fence files
  pub sheds : Sheds kept before points

-- From files that hold something to files that hold what is to be kept of it. A flush and a snapshot keep the content; a tick keeps what of it hasn't
-- expired. Where each snapshot that counts was whole, each is.
pub record Keeps (kept : Contents) (old new : Files) : Type 0 where
  pub held : (before : List Point) (tenure fence : ℕ) → FilesHold before tenure fence old → HoldsKept kept before tenure fence new
  pub snapshots : AreWhole old → AreWhole new

-- What such a call does to the disk. A stop at any moment since it began leaves what is to be kept, with the very tenure and the very fence; it failed only
-- where the count of faults rose.
pub record Rearranges (kept : Contents) (failed : Type 0) (old new : DiskState) : Type 0 where
  pub any_moment : old.tells ≡ true → Elapses (Keeps kept) old new
  pub tells : new.tells ≡ old.tells
  pub faults : CountsFaults failed old.faults new.faults

-- the point is one of those that the files hold
abbrev pub IsFilePoint : Point → Files → Type 0
IsFilePoint p files = (points : List Point) (tenure fence : ℕ) → FilesHold points tenure fence files → IsIn points p

-- each point of the content is one that the files hold
abbrev pub HoldContent : Contents → Files → Type 0
HoldContent content files = (p : Point) → HasPoint content p → IsFilePoint p files

-- ---- laws

-- calls one after another that keep the same keep it together
abbrev pub KeepsThen : Type 0
KeepsThen = (kept : Contents) (x y z : Files) → Keeps kept x y → Keeps kept y z → Keeps kept x z

-- one of the images held something, and these files hold what is to be kept of it
pub record WasKept (kept : Contents) (images : Files → Type 0) (files : Files) : Type 0 where
  pub before : Files
  pub was : images before
  pub points : List Point
  pub tenure : ℕ
  pub fence : ℕ
  pub held : FilesHold points tenure fence before
  pub left : HoldsKept kept points tenure fence files

-- Where each image is sound and has the points of the content, a call that rearranges leaves, wherever a stop falls since it began, files that hold what is to
-- be kept of what one of the images held.
abbrev pub StopKeeps : {D : Type 0} → (D → DiskState) → Type 0
StopKeeps {D} state =
    (old new : D) (kept : Contents) → (state old).tells ≡ true → EachImage (state old) IsSound
    → EachImage (state old) (HoldContent kept)
    → Elapses (Keeps kept) (state old) (state new) → (c : Files) → (state new).since (state old).moment c → WasKept kept (state old).images c
