-- A volume that takes the place of a block's points in memory and of its older volumes.
use Rattle.std.proofs.Common.{◌≡◌, ℕ, List, map, sym, ap, subst, ◌∙◌}
use Rattle.std.specs.Prelude.{filter, None, not}
use Rattle.m3_model.specs.Contents.{Contents}
use Rattle.m3_model.specs.Reads.{IsOrdered}
use Rattle.m3_model.specs.declared.point.Series.{Series}
use Rattle.m3_outside.specs.Files.{Files}
use Rattle.store_log.specs.listed_volumes.block_buffer.Held.{InMemory, is_in_block, without}
use Rattle.store_log.specs.listed_volumes.volume_bytes.declared.heads.Head.{Head}
use Rattle.store_log.specs.listed_volumes.volume_bytes.Heads.{head_of}
use Rattle.store_log.specs.listed_volumes.shard_files.Parts.{KnownVolume, VolumesAre}
use Rattle.store_log.specs.listed_volumes.shard_files.Steps.{OthersStay, next_volume}
use Rattle.store_log.proofs.listed_volumes_proofs.shard_files_proofs.CountedLemmas.{IsIn-filter}
use Rattle.store_log.specs.listed_volumes.Known.{is_of}
use Rattle.store_log.specs.snapshot_steps.volume_steps.Known.{HaveContent}
use Rattle.store_log.specs.snapshot_steps.volume_steps.KnownLists.{IsOfOne, is_one_of, volume_of, with_volume, without_volumes}
use Rattle.shard_store.specs.Blocks.{IsBlockJoin, IsOneVolume, OtherNumbersStay}
use Rattle.store_log.specs.listed_volumes.Listed.{known_in}
use Rattle.shard_store.specs.StoreParts.{content_of_opened}
use Rattle.shard_store.specs.Stores.{joined_with}
use Rattle.shard_store.specs.declared.opened.Opened.{Opened}
use Rattle.shard_store.proofs.BlockLemmas.{content_fewer, have_without, old_parts, one_volume, other_numbers}

-- where whatever the volumes that are taken away have stands elsewhere, the content is the same
pub content_removed : (m : Contents) (ks js : List KnownVolume) (olds : List Head) → js ≡ without_volumes olds ks → HaveContent m (without_volumes olds ks) (joined_with m ks) → joined_with m js ≡ joined_with m ks
content_removed m ks js olds is have =
    ap (joined_with m) is ∙ content_fewer m ks (without_volumes olds ks) (λ k mem. IsIn-filter (λ j. not (is_one_of olds j)) ks k mem) have

module _ (m : Contents) (ks : List KnownVolume) (ns start size : ℕ) (rows : List Series) (ordered : IsOrdered rows) (join : IsBlockJoin m ks ns start size rows) (n : ℕ)
    (x : Files) (are : VolumesAre ks x) (fresh : n ≡ next_volume ns start x) (olds : List Head) (olds_are : map head_of olds ≡ map (λ k. k.head) (filter (is_of ns start size) ks)) where
  abbrev left : Contents
  left = without m (is_in_block ns start size)

  module _ (after : Opened) (held : after.held ≡ record { points = left; room = None }) (listed : known_in after.volumes.items ≡ with_volume (volume_of ns start size n rows) ks) where
    -- after the volume was written, all that the store has stands without the older ones
    pub there_after : HaveContent after.held.points (without_volumes olds (known_in after.volumes.items)) (content_of_opened after)
    there_after =
        subst (λ (w : InMemory). HaveContent w.points (without_volumes olds (known_in after.volumes.items)) (joined_with w.points (known_in after.volumes.items))) (sym held)
        (subst (λ (l : List KnownVolume). HaveContent left (without_volumes olds l) (joined_with left l)) (sym listed) (have_without m ks ns start size rows ordered join n x are fresh olds olds_are))

    -- without these, it is the one volume of the block
    pub one_after : (last : List KnownVolume) → last ≡ without_volumes olds (known_in after.volumes.items) → IsOneVolume ns start size m ks x last
    one_after last is = subst (IsOneVolume ns start size m ks x) (sym (is ∙ ap (without_volumes olds) listed)) (one_volume m ks ns start size rows ordered join n x are fresh olds olds_are)

  -- the numbers of other blocks stay
  pub numbers_after : (y z : Files) → OtherNumbersStay ns start x y → OthersStay (IsOfOne olds) y z → OtherNumbersStay ns start x z
  numbers_after y z wrote took k s apart =
      other_numbers ns start y z (λ name none. took name (λ own. none (old_parts m ks ns start size rows ordered join n x are fresh olds olds_are name own))) k s apart ∙ wrote k s apart
