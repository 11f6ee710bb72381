-- Points, each once and in their order, as a replica that begins has those of its files.
use Rattle.std.specs.Prelude.{◌≡◌, ◌↔◌, ℕ, List}
use Rattle.std.specs.Ordering.{int_cmp, on, then_cmp}
use Rattle.std.specs.declared.cmp.Ordering.{Ordering}
use Rattle.std.specs.declared.cmp.Ordering.TheVariants.{Less}
use Rattle.commit_log.specs.m3_model.Ascends.{Ascends}
use Rattle.commit_log.specs.m3_model.Contents.{key_of, content_of}
use Rattle.commit_log.specs.m3_model.Keys.{key_cmp}
use Rattle.commit_log.specs.m3_model.Members.{IsIn}
use Rattle.commit_log.specs.m3_model.declared.point.Point.{Point}
use Rattle.commit_log.specs.m3_outside.Files.{Files}
use Rattle.shard_files.specs.FilesHold.{FilesHold}

-- by key, and then by value
abbrev pub point_cmp : Point → Point → Ordering
point_cmp = then_cmp (on key_of key_cmp) (on (λ p. p.v) int_cmp)

-- one point stands before the other
abbrev pub IsBefore : Point → Point → Type 0
IsBefore p q = point_cmp p q ≡ Less

-- the same points, in whatever order and however often
abbrev pub HaveSamePoints : List Point → List Point → Type 0
HaveSamePoints ps qs = (p : Point) → IsIn ps p ↔ IsIn qs p

-- the points of the first list, each once, ascending by key and then by value
pub record IsEachOnce (all points : List Point) : Type 0 where
  pub ascending : Ascends IsBefore points
  pub same : HaveSamePoints points all

-- the files hold these points, here each once and in order, this tenure and this fence
pub record HeldOnce (points : List Point) (tenure fence : ℕ) (files : Files) : Type 0 where
  pub all : List Point
  pub held : FilesHold all tenure fence files
  pub once : IsEachOnce all points

-- ---- laws

-- lists of the same points have them each once in one way
abbrev pub OnceIsOne : Type 0
OnceIsOne = (all others ps qs : List Point) → HaveSamePoints all others → IsEachOnce all ps → IsEachOnce others qs → ps ≡ qs

-- they stand for the same content
abbrev pub OnceHasContent : Type 0
OnceHasContent = (all points : List Point) → IsEachOnce all points → content_of points ≡ content_of all

-- files hold one list of points so, one tenure and one fence
abbrev pub HeldOnceIsOne : Type 0
HeldOnceIsOne = (ps qs : List Point) (t u f g : ℕ) (files : Files) → HeldOnce ps t f files → HeldOnce qs u g files → (ps ≡ qs) × (t ≡ u) × (f ≡ g)
