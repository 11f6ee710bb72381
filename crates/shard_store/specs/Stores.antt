-- A store as its contracts see it.
use Rattle.std.specs.Prelude.{◌≡◌, ℕ, Bool, false, List, refl}
use Rattle.std.specs.Coded.{Coded, code_by, coded×, coded_ℕ, coded_bool}
use Rattle.std.specs.FinMap as finite
use Rattle.m3_model.specs.Answers.{HasPoint}
use Rattle.m3_model.specs.Contents.{Contents, contents_code}
use Rattle.m3_model.specs.Members.{IsIn}
use Rattle.m3_model.specs.declared.point.Point.{Point}
use Rattle.m3_outside.specs.Files.{Files}
use Rattle.store_log.specs.listed_volumes.shard_files.FilesHold.{FilesHold}
pub use Rattle.store_log.specs.Kept.{IsKeptOn, joined_with, memory_with}

-- What a store is: its disk, whether it is open, and then the points that it has in memory, its content, which is these joined with the points of the volumes
-- on its disk, and the greatest tenure and the greatest fence or tenure of its files. A closed one has none of them.
pub record StoreState (D : Type 0) : Type 0 where
  pub disk : D
  pub open_ : Bool
  pub buffered : Contents
  pub content : Contents
  pub tenure : ℕ
  pub fence : ℕ

abbrev pub store_code : {D : Type 0} → Coded D → Coded (StoreState D)
store_code {D} disk_code =
    code_by (D × (Bool × (Contents × (Contents × (ℕ × ℕ))))) (coded× disk_code (coded× coded_bool (coded× contents_code (coded× contents_code (coded× coded_ℕ coded_ℕ)))))
    (λ s. (s.disk, (s.open_, (s.buffered, (s.content, (s.tenure, s.fence))))))
    (λ p. record { disk = p.0; open_ = p.1.0; buffered = p.1.1.0; content = p.1.1.1.0; tenure = p.1.1.1.1.0; fence = p.1.1.1.1.1 }) (λ _. refl)

-- the store without points
abbrev pub closed_over : {D : Type 0} → D → StoreState D
closed_over disk = record { disk = disk; open_ = false; buffered = finite.empty; content = finite.empty; tenure = 0; fence = 0 }

-- the files hold each point of the content, this tenure and this fence
pub record HoldsOpened (content : Contents) (tenure fence : ℕ) (files : Files) : Type 0 where
  pub points : List Point
  pub held : FilesHold points tenure fence files
  pub all : (p : Point) → HasPoint content p → IsIn points p
