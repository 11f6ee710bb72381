-- What a store counts, where its calls go on.
use Rattle.std.proofs.Common.{◌≡◌, ◌∙◌, ℕ, ◌≤◌, List, refl, sym, subst, arith, true, ◌&&◌, Option, Some, None, Result, Ok, Err}
use Rattle.std.specs.Prelude.{IsErrOf, nat_le}
use Rattle.std.proofs.lemmas.Bool.{leb-true}
use Rattle.m3_outside.specs.DiskCalls.{LeavesFiles}
use Rattle.m3_outside.specs.DiskState.{DiskState}
use Rattle.m3_outside.specs.declared.disk_err.DiskErr.{DiskErr}
use Rattle.m3_outside.specs.declared.disk_err.DiskErr.TheVariants.{Memory, Failed as DiskFailed}
use Rattle.m3_outside.specs.declared.file_name.FileName.{FileName}
use Rattle.store_log.specs.listed_volumes.commit_log.Contents.{numbers}
use Rattle.store_log.specs.listed_volumes.shard_files.Steps.{OthersStay, is_part}
use Rattle.store_log.proofs.listed_volumes_proofs.shard_files_proofs.CountedLemmas.{both}
use Rattle.store_log.specs.listed_volumes.volume_bytes.declared.heads.Head.{Head}
use Rattle.store_log.specs.snapshot_steps.volume_steps.KnownLists.{IsOfOne}
use Rattle.store_log.specs.snapshot_steps.Counts.{AreCounted}
use Rattle.store_log.proofs.snapshot_steps_proofs.LogCounts.{counted_alike, same_newest}
use Rattle.shard_store.specs.StoreParts.{IsCachedIn, IsCountedIn, IsKept, IsOpenOn}
use Rattle.shard_store.specs.declared.opened.Opened.{Opened}

-- where the files are left
pub counted_left : (opened : Opened) (F : Type 0) (a b : DiskState) → LeavesFiles F a b → IsCountedIn opened a → IsCountedIn opened b
counted_left opened F a b leaves has tells =
    let was = sym leaves.proceeds.tells ∙ tells in
    subst (AreCounted opened.log opened.counts.missing opened.counts.snapshot) (sym (leaves.files was)) (has was)

-- ---- volumes written and taken away

part_kind : (ns start : ℕ) (name : FileName) → is_part ns start name ≡ true → name.kind ≤ 7
part_kind ns start name t =
    let outer = both (nat_le 1 name.kind && nat_le name.kind 7) _ t in
    leb-true name.kind 7 (both (nat_le 1 name.kind) (nat_le name.kind 7) outer.0).1

module _ (opened : Opened) (Own : FileName → Type 0) (low : (name : FileName) → Own name → name.kind ≤ 7) (a b : DiskState) (same : b.tells ≡ a.tells) (segments : a.tells ≡ true → numbers b.files ≡ numbers a.files) (others : a.tells ≡ true → OthersStay Own a.files b.files) where
  counted_beside : IsCountedIn opened a → IsCountedIn opened b
  counted_beside has tells =
      let was = sym same ∙ tells in
      let here = has was in
      counted_alike opened.log opened.counts.missing opened.counts.snapshot opened.counts.snapshot a.files b.files (segments was)
      (same_newest a.files b.files (λ q eight nine. others was q (λ own. let seven = low q own in omega (arith, eight, seven))) opened.counts.snapshot here.newest) here

pub counted_wrote : (opened : Opened) (ns start : ℕ) (a b : DiskState) → b.tells ≡ a.tells → (a.tells ≡ true → numbers b.files ≡ numbers a.files) → (a.tells ≡ true → OthersStay (λ name. is_part ns start name ≡ true) a.files b.files) → IsCountedIn opened a → IsCountedIn opened b
counted_wrote opened ns start a b same segments others = counted_beside opened (λ name. is_part ns start name ≡ true) (part_kind ns start) a b same segments others

pub counted_removed : (opened : Opened) (olds : List Head) (a b : DiskState) → b.tells ≡ a.tells → (a.tells ≡ true → numbers b.files ≡ numbers a.files) → (a.tells ≡ true → OthersStay (IsOfOne olds) a.files b.files) → IsCountedIn opened a → IsCountedIn opened b
counted_removed opened olds a b same segments others = counted_beside opened (IsOfOne olds) (λ name own. part_kind own.0.ns own.0.start name own.2) a b same segments others

-- ---- a store that is open, or was closed by a fault

pub open_or_closed : {T : Type 0} (r : Result T DiskErr) (later : Opened) (new : Option Opened) (d : DiskState) → (IsErrOf r DiskFailed → new ≡ None) → (¬ (IsErrOf r DiskFailed) → new ≡ Some later) → (¬ (IsErrOf r DiskFailed) → IsOpenOn later d)
    → (¬ (IsErrOf r DiskFailed) → IsCountedIn later d) → IsCachedIn later d → IsKept new d
open_or_closed {T} (Ok x) later new d closed stays kept counted cached = subst (λ o. IsKept o d) (sym (stays fine)) (kept fine, counted fine, cached)
  where
    fine : (let q : Result T DiskErr = Ok x in IsErrOf q DiskFailed) → ⊥
    fine f = cc
open_or_closed {T} (Err Memory) later new d closed stays kept counted cached = subst (λ o. IsKept o d) (sym (stays fine)) (kept fine, counted fine, cached)
  where
    fine : (let q : Result T DiskErr = Err Memory in IsErrOf q DiskFailed) → ⊥
    fine f = cc
open_or_closed (Err DiskFailed) later new d closed stays kept counted cached = subst (λ o. IsKept o d) (sym (closed refl)) tt
