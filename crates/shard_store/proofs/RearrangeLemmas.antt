-- Calls that rearrange, one after another, in the words of what is in memory.
use Rattle.std.proofs.Common.{◌≡◌, ℕ, true, List, subst, sym, ◌∙◌}
use Rattle.m3_model.specs.Contents.{Contents}
use Rattle.m3_outside.specs.DiskState.{DiskState, EachImage, Elapses, Becomes}
use Rattle.m3_outside.specs.Files.{Files}
use Rattle.m3_outside.specs.DiskCalls.{LeavesFiles}
use Rattle.m3_outside.proofs.Moments.{elapses_then, counts_then}
use Rattle.store_log.specs.listed_volumes.shard_files.Keeps.{Keeps, Rearranges}
use Rattle.store_log.specs.listed_volumes.shard_files.Parts.{KnownVolume}
use Rattle.store_log.proofs.listed_volumes_proofs.shard_files_proofs.KeepLemmas.{keeps_then}
use Rattle.shard_store.proofs.Counts.{counts_for}
use Rattle.store_log.specs.snapshot_steps.volume_steps.Known.{HoldsKnown}
use Rattle.store_log.proofs.snapshot_steps_proofs.volume_steps_proofs.LawLemmas.{join_is_there}
use Rattle.store_log.proofs.snapshot_steps_proofs.volume_steps_proofs.RemovalLemmas.{left_moment}
use Rattle.shard_store.specs.Stores.{joined_with}

pub rearranges_then : (kept after : Contents) (F : Type 0) (a b c : DiskState) → (a.tells ≡ true → after ≡ kept) → Rearranges kept ⊥ a b → Rearranges after F b c → Rearranges kept F a c
rearranges_then kept after F a b c same one two = record {
  any_moment = λ told. elapses_then a b c (λ x y image keeps. keeps) (λ x y z image k image1 j. keeps_then kept x y z k j) (one.any_moment told) (subst (λ (k : Contents). Elapses (Keeps k) b c) (same told) (two.any_moment (one.tells ∙ told)));
  tells = two.tells ∙ one.tells;
  faults = counts_then F _ _ _ one.faults two.faults;
}

-- a call that leaves the files
pub rearranges_left : (memory : Contents) (known : List KnownVolume) (tenure fence : ℕ) (F : Type 0) (a b : DiskState) → EachImage a (HoldsKnown memory known tenure fence) → LeavesFiles F a b → Rearranges (joined_with memory known) F a b
rearranges_left memory known tenure fence F a b each leaves = record {
  any_moment = λ told. left_moment F a b leaves (joined_with memory known) memory known tenure fence each (join_is_there memory known) told;
  tells = leaves.proceeds.tells;
  faults = leaves.proceeds.faults;
}

-- which failed for another reason
pub rearranges_for : (kept : Contents) (F G : Type 0) (a b : DiskState) → (G → F) → Rearranges kept F a b → Rearranges kept G a b
rearranges_for kept F G a b to one = record { any_moment = one.any_moment; tells = one.tells; faults = counts_for F G _ _ to one.faults }

-- where files and images are as before, each image is
pub becomes_each : {P : Files → Type 0} (a b : DiskState) → b.tells ≡ a.tells → (a.tells ≡ true → Becomes (λ files. files) a b) → EachImage a P → EachImage b P
becomes_each {P} a b same becomes each told c image =
    let before = sym same ∙ told in
    let step = (becomes before).images c image in
    subst P (sym step.stepped) (each before step.before step.was)
