-- What each stop keeps, where calls bring what is there already.
use Rattle.std.proofs.Common.{◌≡◌, ℕ, ◌≤◌, max, List, sym, subst, arith}
use Rattle.m3_model.specs.Members.{IsIn}
use Rattle.m3_model.specs.declared.point.Point.{Point}
use Rattle.m3_outside.specs.Files.{Files}
use Rattle.joined_reads.specs.listed_volumes.shard_files.FilesHold.{FilesHold}
use Rattle.joined_reads.specs.listed_volumes.shard_files.Gains.{Gain, Gains}
use Rattle.joined_reads.proofs.listed_volumes_proofs.shard_files_proofs.GainLemmas.{grows_itself}
use Rattle.joined_reads.proofs.listed_volumes_proofs.shard_files_proofs.FilesHoldLemmas.{files_hold_one}

-- a gain without points that is there already
pub there_already : (gain : Gain) (x : Files) (points : List Point) (tenure fence : ℕ) → FilesHold points tenure fence x → ((p : Point) → IsIn gain.points p → ⊥) → gain.tenure ≤ tenure → gain.fence ≤ fence → Gains gain x x
there_already gain x points tenure fence has none t f = record {
  held = λ before tenure_now fence_now held.
      let same = files_hold_one points before tenure tenure_now fence fence_now x has held in
      let same_t = same.1 in
      let same_f = same.2 in
      let t_is : max tenure_now gain.tenure ≡ tenure_now = omega (arith, same_t, t) in
      let f_is : max fence_now gain.fence ≡ fence_now = omega (arith, same_f, f) in
      record {
        points = before;
        held = subst (λ (n : ℕ). FilesHold before n (max fence_now gain.fence) x) (sym t_is) (subst (λ (n : ℕ). FilesHold before tenure_now n x) (sym f_is) held);
        grows = grows_itself before gain;
        comes = λ p m. absurd (none p m);
      };
  snapshots = λ all. all;
}
