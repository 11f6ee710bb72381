-- A store after a flush of what it has open.
use Rattle.std.proofs.Common.{◌≡◌, ℕ, true, List, length, Option, Some, Result, Ok, Err, sym, subst, ◌∙◌}
use Rattle.std.specs.Prelude.{IfOk, OnOk, IsErrOf}
use Rattle.m3_model.specs.Answers.{HasPoint}
use Rattle.m3_model.specs.declared.point.Point.{Point}
use Rattle.m3_model.specs.declared.rules.Rules.{Rules}
use Rattle.m3_outside.specs.DiskState.{DiskState, IsLawfulDisk}
use Rattle.store_log.specs.listed_volumes.block_buffer.Held.{without}
use Rattle.store_log.specs.listed_volumes.shard_files.Keeps.{Rearranges}
use Rattle.store_log.specs.listed_volumes.shard_files.Parts.{KnownVolume}
use Rattle.store_log.specs.listed_volumes.fileset_read.declared.file_err.FileErr.{FileErr}
use Rattle.store_log.specs.listed_volumes.fileset_read.declared.file_err.FileErr.TheVariants as failures
use Rattle.shard_store.specs.Flushes.{AreFlushed, AreFlushedTo, HasFlushed, IsPartFlushed, is_in_one}
use Rattle.store_log.specs.listed_volumes.Listed.{known_in}
use Rattle.shard_store.specs.StoreParts.{IsOpenOn, content_of_opened, state_of}
use Rattle.shard_store.specs.Stores.{StoreState}
use Rattle.shard_store.specs.declared.opened.Opened.{Opened}
use Rattle.shard_store.proofs.KnownReads.{known_counted, counted_is}
use Rattle.shard_store.proofs.RearrangeLemmas.{rearranges_for}

module _ {D : Type 0} (state : D → DiskState) (disk last : D) (first later : Opened) (numbers : (later.tenure ≡ first.tenure) × (later.fence ≡ first.fence)) (content : (state disk).tells ≡ true → content_of_opened later ≡ content_of_opened first) where
  -- some points may have left memory
  pub is_part_flushed : ((p : Point) → HasPoint later.held.points p → HasPoint first.held.points p) → IsPartFlushed state (state_of disk (Some first)) (state_of last (Some later))
  is_part_flushed fewer = record {
    same = λ i. record { disk = last; open_ = true; buffered = later.held.points; content = content_of_opened later; tenure = numbers.0 i; fence = numbers.1 i };
    content = content;
    fewer = fewer;
  }

  -- these blocks are flushed
  pub has_flushed : (rules : Rules) (blocks : List (ℕ × ℕ)) → IsLawfulDisk (state disk) → IsLawfulDisk (state last) → (state last).tells ≡ (state disk).tells → IsOpenOn first (state disk) → IsOpenOn later (state last) → later.held.points ≡ without first.held.points (is_in_one rules blocks)
      → ((state disk).tells ≡ true → AreFlushedTo rules first.held.points blocks (known_in first.volumes.items) (state disk).files (known_in later.volumes.items))
      → HasFlushed state rules blocks (state_of disk (Some first)) (state_of last (Some later))
  has_flushed rules blocks lawful lawful_last same kept kept_last held volumes = record {
    same = λ i. record { disk = last; open_ = true; buffered = held i; content = content_of_opened later; tenure = numbers.0 i; fence = numbers.1 i };
    content = content;
    volumes = λ tells known are.
        let is : known ≡ known_in first.volumes.items = counted_is first.held.points (known_in first.volumes.items) first.tenure first.fence (state disk) lawful kept.exact known tells are in (
          known_in later.volumes.items,
          known_counted later.held.points (known_in later.volumes.items) later.tenure later.fence (state last) lawful_last kept_last.exact (same ∙ tells),
          subst (λ (ks : List KnownVolume). AreFlushedTo rules first.held.points blocks ks (state disk).files (known_in later.volumes.items)) (sym is) (volumes tells),
        );
  }

  -- ---- as the store's contract has it, whatever the flush answered

  module _ (r q : Result ℕ FileErr) (said : q ≡ r) (s : StoreState D) (shown : state_of disk (Some first) ≡ s) where
    pub store_rearranged : Rearranges (content_of_opened first) (IsErrOf r failures.Disk) (state disk) (state last) → Rearranges s.content (IsErrOf q failures.Disk) (state s.disk) (state last)
    store_rearranged one =
        subst (λ (x : StoreState D). Rearranges x.content (IsErrOf q failures.Disk) (state x.disk) (state last)) shown
        (rearranges_for (content_of_opened first) (IsErrOf r failures.Disk) (IsErrOf q failures.Disk) (state disk) (state last) (λ f. sym said ∙ f) one)

    pub store_part : (new : Option Opened) → (IsErrOf r failures.Memory → new ≡ Some later) → ((p : Point) → HasPoint later.held.points p → HasPoint first.held.points p) → IsErrOf q failures.Memory → IsPartFlushed state s (state_of last new)
    store_part new memory fewer is =
        subst (λ (x : StoreState D). IsPartFlushed state x (state_of last new)) shown
        (subst (λ (o : Option Opened). IsPartFlushed state (state_of disk (Some first)) (state_of last o)) (sym (memory (sym said ∙ is))) (is_part_flushed fewer))

    module _ (rules : Rules) (lawful : IsLawfulDisk (state disk)) (lawful_last : IsLawfulDisk (state last)) (same : (state last).tells ≡ (state disk).tells) (kept : IsOpenOn first (state disk)) (new : Option Opened) where
      abbrev Answered : ℕ → Type 0
      Answered n = (blocks : List (ℕ × ℕ)) × AreFlushed rules s.buffered blocks × HasFlushed state rules blocks s (state_of last new) × (n ≡ length blocks)

      answered : (r : Result ℕ FileErr) → OnOk r (IsOpenOn later (state last)) → OnOk r (new ≡ Some later)
          → IfOk r (λ n. (blocks : List (ℕ × ℕ)) × AreFlushed rules first.held.points blocks × (n ≡ length blocks) × (later.held.points ≡ without first.held.points (is_in_one rules blocks))
          × ((state disk).tells ≡ true → AreFlushedTo rules first.held.points blocks (known_in first.volumes.items) (state disk).files (known_in later.volumes.items)))
          → IfOk r Answered
      answered (Ok n) kept_last open_ found =
          let flushed = has_flushed rules found.0 lawful lawful_last same kept kept_last found.3 found.4 in
          subst (λ (x : StoreState D). (blocks : List (ℕ × ℕ)) × AreFlushed rules x.buffered blocks × HasFlushed state rules blocks x (state_of last new) × (n ≡ length blocks)) shown
          (subst (λ (o : Option Opened). (blocks : List (ℕ × ℕ)) × AreFlushed rules first.held.points blocks × HasFlushed state rules blocks (state_of disk (Some first)) (state_of last o) × (n ≡ length blocks)) (sym open_) (found.0, found.1, flushed, found.2))
      answered (Err e) kept_last open_ found = tt

      pub store_flushed : OnOk r (IsOpenOn later (state last)) → OnOk r (new ≡ Some later)
          → IfOk r (λ n. (blocks : List (ℕ × ℕ)) × AreFlushed rules first.held.points blocks × (n ≡ length blocks) × (later.held.points ≡ without first.held.points (is_in_one rules blocks))
          × ((state disk).tells ≡ true → AreFlushedTo rules first.held.points blocks (known_in first.volumes.items) (state disk).files (known_in later.volumes.items)))
          → IfOk q Answered
      store_flushed kept_last open_ found = subst (λ x. IfOk x Answered) (sym said) (answered r kept_last open_ found)
