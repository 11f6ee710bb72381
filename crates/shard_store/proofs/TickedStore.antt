-- A store after a tick of what it has open.
use Rattle.std.proofs.Common.{◌≡◌, ◌-◌, ℕ, true, List, Option, Some, Result, Ok, Err, ap, sym, subst, ◌∙◌}
use Rattle.std.specs.Prelude.{IfOk, OnOk, IsErrOf}
use Rattle.std.specs.FinMap.{len}
use Rattle.m3_model.specs.Answers.{HasPoint}
use Rattle.m3_model.specs.Contents.{Contents}
use Rattle.m3_model.specs.declared.point.Point.{Point}
use Rattle.m3_model.specs.declared.rules.Rules.{Rules}
use Rattle.m3_outside.specs.DiskState.{DiskState, IsLawfulDisk, Told}
use Rattle.store_log.specs.listed_volumes.block_buffer.Held.{InMemory, has_expired, without}
use Rattle.store_log.specs.listed_volumes.shard_files.Keeps.{HoldContent, Rearranges}
use Rattle.store_log.specs.listed_volumes.shard_files.Parts.{KnownVolume, VolumesAre}
use Rattle.store_log.specs.listed_volumes.fileset_read.declared.file_err.FileErr.{FileErr}
use Rattle.store_log.specs.listed_volumes.fileset_read.declared.file_err.FileErr.TheVariants as unread
use Rattle.store_log.proofs.snapshot_steps_proofs.volume_steps_proofs.KnownLemmas.{is_file_point}
use Rattle.store_log.specs.listed_volumes.Listed.{known_in}
use Rattle.shard_store.specs.StoreParts.{IsOpenOn, content_of_opened, state_of}
use Rattle.shard_store.specs.Stores.{StoreState, joined_with}
use Rattle.shard_store.specs.Ticks.{HasTicked, live_volumes, ticked_content}
use Rattle.shard_store.specs.declared.opened.Opened.{Opened}
use Rattle.shard_store.proofs.KnownReads.{known_counted, counted_is}
use Rattle.shard_store.proofs.LossLemmas.{ticked_there}
use Rattle.shard_store.proofs.PointLemmas.{has_fewer}
use Rattle.shard_store.proofs.RearrangeLemmas.{rearranges_for}
use Rattle.shard_store.proofs.TickLemmas.{live_same}

-- the expired points and volumes are dropped
abbrev pub AreDropped : Rules → Opened → Opened → Type 0
AreDropped rules first later = (later.held.points ≡ without first.held.points (has_expired rules)) × (known_in later.volumes.items ≡ live_volumes rules (known_in first.volumes.items))

-- what hasn't expired of the one content stands in the other
abbrev pub KeepsLive : Rules → Contents → Contents → Type 0
KeepsLive rules content left = (p : Point) → HasPoint (without content (has_expired rules)) p → HasPoint left p

module _ {D : Type 0} (state : D → DiskState) (disk last : D) (first later : Opened) (rules : Rules) (numbers : (later.tenure ≡ first.tenure) × (later.fence ≡ first.fence)) where
  has_ticked : IsLawfulDisk (state disk) → IsLawfulDisk (state last) → (state last).tells ≡ (state disk).tells → IsOpenOn first (state disk) → IsOpenOn later (state last) → AreDropped rules first later
      → HasTicked state rules (state_of disk (Some first)) (state_of last (Some later))
  has_ticked lawful lawful_last same kept kept_last dropped = record {
    same = λ i. record { disk = last; open_ = true; buffered = dropped.0 i; content = content_of_opened later; tenure = numbers.0 i; fence = numbers.1 i };
    volumes = λ tells known are.
        let is : known ≡ known_in first.volumes.items = counted_is first.held.points (known_in first.volumes.items) first.tenure first.fence (state disk) lawful kept.exact known tells are in
        let now : known_in later.volumes.items ≡ live_volumes rules known = dropped.1 ∙ ap (live_volumes rules) (sym is) in (
          subst (λ (ks : List KnownVolume). VolumesAre ks (state last).files) now (known_counted later.held.points (known_in later.volumes.items) later.tenure later.fence (state last) lawful_last kept_last.exact (same ∙ tells)),
          ap (joined_with later.held.points) now,
        );
  }

  -- each point that is left was there
  was_there : IsLawfulDisk (state disk) → IsOpenOn first (state disk) → AreDropped rules first later → Told (state disk) (HoldContent (content_of_opened later))
  was_there lawful kept dropped tells =
      let ticked : content_of_opened later ≡ ticked_content rules first.held.points (known_in first.volumes.items) = λ i. joined_with (dropped.0 i) (dropped.1 i) in
      let has = kept.exact tells (state disk).files (lawful.read_is_image tells) in
      subst (λ c. HoldContent c (state disk).files) (sym ticked) (λ p h.
      is_file_point first.held.points (known_in first.volumes.items) first.tenure first.fence (state disk).files has p (ticked_there rules (known_in first.volumes.items) first.held.points p h))

  -- each point that hasn't expired is left
  stays_live : IsLawfulDisk (state disk) → IsOpenOn first (state disk) → AreDropped rules first later → (state disk).tells ≡ true → KeepsLive rules (content_of_opened first) (content_of_opened later)
  stays_live lawful kept dropped tells p h =
      let m = first.held.points in
      let ks = known_in first.volumes.items in
      let ticked : content_of_opened later ≡ ticked_content rules m ks = λ i. joined_with (dropped.0 i) (dropped.1 i) in
      let same = live_same rules ks (state disk).files (known_counted m ks first.tenure first.fence (state disk) lawful kept.exact tells) m in
      subst (λ c. HasPoint c p) (sym ticked) (has_fewer (ticked_content rules m ks) (has_expired rules) p (subst (λ c. HasPoint c p) (sym same) h))

  -- ---- as the store's contract has it, whatever the tick answered

  module _ (r q : Result ℕ FileErr) (said : q ≡ r) (s : StoreState D) (shown : state_of disk (Some first) ≡ s) where
    pub tick_rearranged : Rearranges (without (content_of_opened first) (has_expired rules)) (IsErrOf r unread.Disk) (state disk) (state last) → Rearranges (without s.content (has_expired rules)) (IsErrOf q unread.Disk) (state s.disk) (state last)
    tick_rearranged one =
        subst (λ (x : StoreState D). Rearranges (without x.content (has_expired rules)) (IsErrOf q unread.Disk) (state x.disk) (state last)) shown
        (rearranges_for (without (content_of_opened first) (has_expired rules)) (IsErrOf r unread.Disk) (IsErrOf q unread.Disk) (state disk) (state last) (λ f. sym said ∙ f) one)

    -- want of memory leaves it
    pub tick_left : (new : Option Opened) → (IsErrOf r unread.Memory → new ≡ Some later) → (IsErrOf r unread.Memory → (later.held ≡ first.held) × (later.volumes.items ≡ first.volumes.items)) → IsErrOf q unread.Memory → state_of last new ≡ record s { disk = last }
    tick_left new memory left is =
        let same = left (sym said ∙ is) in
        let held : (later.held).points ≡ (first.held).points = ap (λ (w : InMemory). w.points) same.0 in
        let content : content_of_opened later ≡ content_of_opened first = λ i. joined_with (held i) (known_in (same.1 i)) in
        let now : state_of last (Some later) ≡ record (state_of disk (Some first)) { disk = last } =
        λ i. record { disk = last; open_ = true; buffered = held i; content = content i; tenure = numbers.0 i; fence = numbers.1 i } in
        ap (state_of last) (memory (sym said ∙ is)) ∙ now ∙ ap (λ (x : StoreState D). record x { disk = last }) shown

    module _ (lawful : IsLawfulDisk (state disk)) (kept : IsOpenOn first (state disk)) (new : Option Opened) where
      ticked_as : IsLawfulDisk (state last) → (state last).tells ≡ (state disk).tells → (r : Result ℕ FileErr) → OnOk r (IsOpenOn later (state last)) → OnOk r (new ≡ Some later) → OnOk r (AreDropped rules first later) → OnOk r (HasTicked state rules s (state_of last new))
      ticked_as lawful_last same (Ok n) kept_last open_ dropped =
          subst (λ (x : StoreState D). HasTicked state rules x (state_of last new)) shown
          (subst (λ (o : Option Opened). HasTicked state rules (state_of disk (Some first)) (state_of last o)) (sym open_) (has_ticked lawful lawful_last same kept kept_last dropped))
      ticked_as lawful_last same (Err e) kept_last open_ dropped = tt

      pub store_ticked : IsLawfulDisk (state last) → (state last).tells ≡ (state disk).tells → OnOk r (IsOpenOn later (state last)) → OnOk r (new ≡ Some later) → OnOk r (AreDropped rules first later) → OnOk q (HasTicked state rules s (state_of last new))
      store_ticked lawful_last same kept_last open_ dropped = subst (λ x. OnOk x (HasTicked state rules s (state_of last new))) (sym said) (ticked_as lawful_last same r kept_last open_ dropped)

      there_as : (r : Result ℕ FileErr) → OnOk r (new ≡ Some later) → OnOk r (AreDropped rules first later) → OnOk r (Told (state s.disk) (HoldContent (state_of last new).content))
      there_as (Ok n) open_ dropped =
          subst (λ (x : StoreState D). Told (state x.disk) (HoldContent (state_of last new).content)) shown
          (subst (λ (o : Option Opened). Told (state disk) (HoldContent (state_of last o).content)) (sym open_) (was_there lawful kept dropped))
      there_as (Err e) open_ dropped = tt

      pub store_there : OnOk r (new ≡ Some later) → OnOk r (AreDropped rules first later) → OnOk q (Told (state s.disk) (HoldContent (state_of last new).content))
      store_there open_ dropped = subst (λ x. OnOk x (Told (state s.disk) (HoldContent (state_of last new).content))) (sym said) (there_as r open_ dropped)

      lost_as : (r : Result ℕ FileErr) → OnOk r (new ≡ Some later) → IfOk r (λ n. n ≡ len (content_of_opened first) - len (content_of_opened later)) → IfOk r (λ n. n ≡ len s.content - len (state_of last new).content)
      lost_as (Ok n) open_ lost =
          subst (λ (x : StoreState D). n ≡ len x.content - len (state_of last new).content) shown
          (subst (λ (o : Option Opened). n ≡ len (content_of_opened first) - len (state_of last o).content) (sym open_) lost)
      lost_as (Err e) open_ lost = tt

      pub store_lost : OnOk r (new ≡ Some later) → IfOk r (λ n. n ≡ len (content_of_opened first) - len (content_of_opened later)) → IfOk q (λ n. n ≡ len s.content - len (state_of last new).content)
      store_lost open_ lost = subst (λ x. IfOk x (λ n. n ≡ len s.content - len (state_of last new).content)) (sym said) (lost_as r open_ lost)

      stays_as : (r : Result ℕ FileErr) → OnOk r (new ≡ Some later) → OnOk r (AreDropped rules first later) → (state s.disk).tells ≡ true → OnOk r (KeepsLive rules s.content (state_of last new).content)
      stays_as (Ok n) open_ dropped =
          subst (λ (x : StoreState D). (state x.disk).tells ≡ true → KeepsLive rules x.content (state_of last new).content) shown
          (subst (λ (o : Option Opened). (state disk).tells ≡ true → KeepsLive rules (content_of_opened first) (state_of last o).content) (sym open_) (stays_live lawful kept dropped))
      stays_as (Err e) open_ dropped = λ tells. tt

      pub store_stays : OnOk r (new ≡ Some later) → OnOk r (AreDropped rules first later) → (state s.disk).tells ≡ true → OnOk q (KeepsLive rules s.content (state_of last new).content)
      store_stays open_ dropped tells = subst (λ x. OnOk x (KeepsLive rules s.content (state_of last new).content)) (sym said) (stays_as r open_ dropped tells)
