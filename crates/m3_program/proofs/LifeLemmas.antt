-- Over disks that stand for earlier runs a cluster begins with what these left.
use Rattle.std.proofs.Common.{◌≡◌, ◌⊎◌, ℕ, List, [], ◌∷◌, ◌++◌, refl, sym, ap, subst, ◌∙◌, inl, inr, arith, Bool, true}
use Rattle.std.specs.Prelude.{Option, Some, None}
use Rattle.std.specs.FinMap.{empty}
use Rattle.m3_model.specs.declared.placement.Assignment.{Assignment}
use Rattle.m3_model.specs.declared.point.Point.{Point}
use Rattle.m3_model.specs.declared.rules.MetaState.{MetaState}
use Rattle.m3_outside.specs.Depots.{Depot}
use Rattle.m3_outside.specs.DiskState.{DiskState, IsEmpty, IsLawfulDisk}
use Rattle.m3_outside.specs.Files.{Files}
use Rattle.m3_outside.specs.Slots.{Held, Here, MayGive, Out, Unused}
use Rattle.m3_outside.specs.declared.disk.Disk.{Ghosts}
use Rattle.m3_outside.specs.declared.slot.DiskSlot.{DiskSlot}
use Rattle.shard_files.specs.FilesHold.{FilesHold}
use Rattle.shard_files.specs.Parts.{AreWhole}
use Rattle.shard_files.proofs.FilesHoldLemmas.{no_files_hold_nothing, no_files_hold_whole_nothing}
use Rattle.placement_core.proofs.ListLemmas.{IsIn-from_Any}
use Rattle.placement_log.proofs.LastLemmas.{last_is_one}
use Rattle.placement_log.specs.MetaHolds.{MetaHolds}
use Rattle.transcripts.specs.Left.{OpeningStands}
use Rattle.transcripts.specs.Record.{Record}
use Rattle.life_ends.specs.Lies.{MayLie}
use Rattle.life_ends.specs.Low.{IsLowTenure}
use Rattle.life_ends.specs.Runs.{HoldOpening, HoldPoints}
use Rattle.saved_cluster.specs.first_cluster.Bare.{AreBare, HasNoPoints, IsBare}
use Rattle.saved_cluster.specs.first_cluster.Depots.{IsForReplicas, disk_slot_of, meta_slot}
use Rattle.saved_cluster.specs.line_tracks.Lain.{HadLain, IsLowAt, LiesLow, lain_at, no_points}
use Rattle.saved_cluster.specs.session_net.Runs.{slot_at}
use Rattle.saved_cluster.specs.served_cluster.Plans.{state_of}
use Rattle.saved_cluster.specs.Openings.{IsOpened}
use Rattle.saved_cluster.specs.declared.saved.SavedCluster.{SavedCluster}
use Rattle.saved_cluster.proofs.first_cluster_proofs.SlotCases.{other_disk_slot}
use Rattle.saved_cluster.proofs.first_cluster_proofs.SlotLists.{slot_or_other}
use Rattle.saved_cluster.proofs.line_tracks_proofs.LainLemmas.{some_lie}
use Rattle.m3_program.specs.Lives.{FilesStandFor, FollowsFrom, IsLowFor, SlotHolds, StandFor, replica_slot}
use Rattle.m3_program.specs.Saved.{MayBeLast}
use Rattle.m3_program.specs.Streams.{BeginsSo, opening_at, stage}

-- ---- runs behind each other

-- one more run, by what it may have left
pub follows_on : (was : Option MetaState) (past : List Record) (run : Record) (left : Option MetaState) → FollowsFrom was past run.start → MayBeLast run.start run.turns run.unanswered left → FollowsFrom was (past ++ run ∷ []) left
follows_on was [] run left before may = (sym before, left, may, refl)
follows_on was (r ∷ past) run left (same, next, first, before) may = (same, next, first, follows_on next past run left before may)

-- ---- a choice of files for each slot

-- one slot is this one, or another
abbrev pub same_or_other : (slot this : DiskSlot) → (slot ≡ this) ⊎ ¬ (slot ≡ this)
same_or_other slot this =
    elim (slot_or_other (slot_at slot.node slot.shard) (slot_at this.node this.shard)) as (λ _. (slot ≡ this) ⊎ ¬ (slot ≡ this)) [
      | inl same ↦ inl (ap disk_slot_of same)
      | inr other ↦ inr (other_disk_slot (slot_at slot.node slot.shard) (slot_at this.node this.shard) other)
    ]

abbrev pub pick : {A B : Type 0} → A ⊎ B → Files → Files → Files
pick (inl a) c rest = c
pick (inr b) c rest = rest

-- this slot's files, and of each other slot those
abbrev pub with_slot : DiskSlot → Files → (DiskSlot → Files) → DiskSlot → Files
with_slot this c rest slot = pick (same_or_other slot this) c (rest slot)

pub there : (this : DiskSlot) (c : Files) (rest : DiskSlot → Files) → with_slot this c rest this ≡ c
there this c rest = by (same_or_other this this)
  where
    by : (o : (this ≡ this) ⊎ ¬ (this ≡ this)) → pick o c (rest this) ≡ c
    by (inl same) = refl
    by (inr other) = absurd (other refl)

pub elsewhere : (this : DiskSlot) (c : Files) (rest : DiskSlot → Files) (slot : DiskSlot) → ¬ (slot ≡ this) → with_slot this c rest slot ≡ rest slot
elsewhere this c rest slot apart = by (same_or_other slot this)
  where
    by : (o : (slot ≡ this) ⊎ ¬ (slot ≡ this)) → pick o c (rest slot) ≡ rest slot
    by (inl same) = absurd (apart same)
    by (inr other) = refl

module _ {D : Type 0} (state : D → DiskState) (lay : DiskSlot → Held D) where
  all_lie : (this : DiskSlot) (c : Files) (rest : DiskSlot → Files) → MayLie state (lay this) c → ((slot : DiskSlot) → ¬ (slot ≡ this) → MayLie state (lay slot) (rest slot)) → (slot : DiskSlot) → MayLie state (lay slot) (with_slot this c rest slot)
  all_lie this c rest here others slot = by (same_or_other slot this)
    where
      by : (o : (slot ≡ this) ⊎ ¬ (slot ≡ this)) → MayLie state (lay slot) (pick o c (rest slot))
      by (inl same) = subst (λ s. MayLie state (lay s) c) (sym same) here
      by (inr other) = others slot other

-- what reads give of a disk that a slot gave, a stop may leave of the slot
read_lies : {D : Type 0} (state : D → DiskState) → ((d : D) → IsLawfulDisk (state d)) → (held : Held D) (disk : D) → MayGive (λ d. IsEmpty (state d)) held disk → (state disk).tells ≡ true → MayLie state held (state disk).files
read_lies state lawful Unused disk given tells = given.files tells
read_lies state lawful (Here lies) disk given tells = subst (λ d. (state d).images (state disk).files) given ((lawful disk).read_is_image tells)
read_lies state lawful Out disk given tells = absurd given

-- ---- once the meta disk is out

module _ {D : Type 0} {G : Ghosts D} (state : D → DiskState) (lawful : (d : D) → IsLawfulDisk (state d)) (before now : Depot D) (c : SavedCluster D G) (opened : IsOpened state before now c) (past : List Record) (stand : StandFor state past before.held) where
  abbrev read : Files
  read = (state opened.disk).files

  here : MayLie state (before.held meta_slot) read
  here = read_lies state lawful (before.held meta_slot) opened.disk opened.is_meta.given (stand.tell opened.disk)

  abbrev some : DiskSlot → Files
  some slot = (some_lie state lawful stand.tell (before.held slot)).0

  -- what stops leave of the other slots stands with the state that was found
  module _ (files : DiskSlot → Files) (lie : (slot : DiskSlot) → IsForReplicas slot → MayLie state (before.held slot) (files slot)) where
    stands : FilesStandFor past (with_slot meta_slot read files)
    stands = stand.each (with_slot meta_slot read files) (all_lie state before.held meta_slot read files here lie)

    found : stands.state ≡ state_of c.cluster
    found =
        last_is_one stands.state (state_of c.cluster) read (subst (MetaHolds stands.state) (there meta_slot read files) stands.last) (opened.last (stand.tell opened.disk))

    opening : OpeningStands past (state_of c.cluster) stands.held
    opening = subst (λ o. OpeningStands past o stands.held) found stands.stands

    holds : (n s : ℕ) → IsForReplicas (replica_slot n s) → SlotHolds (state_of c.cluster) n s (stands.held n s) (files (replica_slot n s))
    holds n s away =
        subst (λ o. SlotHolds o n s (stands.held n s) (files (replica_slot n s))) found
        (subst (SlotHolds stands.state n s (stands.held n s)) (elsewhere meta_slot read files (replica_slot n s) away) (stands.slots n s away))

  -- whatever a stop leaves of one of them
  one_holds : (n s : ℕ) → IsForReplicas (replica_slot n s) → (files : Files) → MayLie state (before.held (replica_slot n s)) files → (points : List Point) × SlotHolds (state_of c.cluster) n s points files
  one_holds n s away files lies =
      let chosen = with_slot (replica_slot n s) files some in
      let lie = λ (slot : DiskSlot) (other : IsForReplicas slot). all_lie state before.held (replica_slot n s) files some lies (λ next apart. (some_lie state lawful stand.tell (before.held next)).1) slot in
      ((stands chosen lie).held n s, subst (SlotHolds (state_of c.cluster) n s ((stands chosen lie).held n s)) (there (replica_slot n s) files some) (holds chosen lie n s away))

  -- the run began with what these runs left
  pub began : FollowsFrom None past (state_of c.cluster)
  began =
      let lie = λ (slot : DiskSlot) (away : IsForReplicas slot). (some_lie state lawful stand.tell (before.held slot)).1 in
      subst (FollowsFrom None past) (found some lie) (stands some lie).follows

  -- whatever a stop leaves of a slot is sound in older snapshots, too
  all_whole : (slot : DiskSlot) (files : Files) → MayLie state (opened.mid.held slot) files → AreWhole files
  all_whole slot files lies =
      elim (same_or_other slot meta_slot) as (λ _. AreWhole files) [
        | inl same ↦
            (let none : files ≡ empty = subst (λ held. MayLie state held files) (ap opened.mid.held same ∙ opened.has.held) lies in
            subst AreWhole (sym none) no_files_hold_whole_nothing.snapshots)
        | inr other ↦ (one_holds slot.node slot.shard other files (subst (λ held. MayLie state held files) (opened.has.others slot other) lies)).1.whole.snapshots
      ]

  -- ---- where no state was found

  no_points_there : (points : List Point) (n s : ℕ) (files : Files) → SlotHolds None n s points files → HasNoPoints files
  no_points_there points n s files h =
      record { tenure = h.tenure; fence = h.fence; held = subst (λ ps. FilesHold ps h.tenure h.fence files) (h.low).0 (h.whole).held; order = (h.low).1; first = (h.low).2 }

  bare_at : state_of c.cluster ≡ None → (slot : DiskSlot) → IsForReplicas slot → (held : Held D) → before.held slot ≡ held → IsBare state held
  bare_at none slot away Unused is = tt
  bare_at none slot away (Here disk) is = λ tells files image.
      let h = one_holds slot.node slot.shard away files (subst (λ held. MayLie state held files) (sym is) image) in
      no_points_there h.0 slot.node slot.shard files (subst (λ o. SlotHolds o slot.node slot.shard h.0 files) none h.1)
  bare_at none slot away Out is = tt

  are_bare : state_of c.cluster ≡ None → AreBare state opened.mid.held
  are_bare none slot =
      elim (same_or_other slot meta_slot) as (λ _. IsBare state (opened.mid.held slot)) [
        | inl same ↦ subst (λ s. IsBare state (opened.mid.held s)) (sym same) (subst (IsBare state) (sym opened.has.held) tt)
        | inr other ↦ subst (IsBare state) (sym (opened.has.others slot other)) (bare_at none slot other (before.held slot) refl)
      ]

  left_none : state_of c.cluster ≡ None → OpeningStands past None no_points
  left_none none =
      let o = opening some (λ slot away. (some_lie state lawful stand.tell (before.held slot)).1) in
      record {
        acked = λ turn among nodes is. absurd (let carried = o.acked turn among nodes is in let clash : None ≡ Some carried.state = sym none ∙ carried.found in cc);
        sent = λ n s point among. absurd among;
      }

  -- ---- where one was found

  module _ (state_found : MetaState) (is_found : state_of c.cluster ≡ Some state_found) where
    low_tenure : (n s tenure : ℕ) → IsLowFor state_found.place n s tenure → IsLowTenure state_found.place n s tenure
    low_tenure n s tenure low = record {
      version = low.version;
      own = λ given h.
          let x = IsIn-from_Any (λ (a : Assignment). (a.node ≡ n) × (a.tenure ≡ given)) h.0 h.2 in
          let below = low.own h.0 h.1 x.0 x.1 x.2.0 in
          let is = x.2.1 in
          omega (arith, below, is);
    }

    lies_low : (n s : ℕ) (points : List Point) (files : Files) → SlotHolds (Some state_found) n s points files → LiesLow state_found.place n s files
    lies_low n s points files h = record { points = points; tenure = h.tenure; fence = h.fence; held = (h.whole).held; low = low_tenure n s h.tenure (h.low).0; fenced = (h.low).1 }

    low_held : (n s : ℕ) → IsForReplicas (replica_slot n s) → (held : Held D) → before.held (replica_slot n s) ≡ held → IsLowAt state state_found.place n s held
    low_held n s away Unused is = tt
    low_held n s away (Here disk) is = λ tells files image.
        let h = one_holds n s away files (subst (λ held. MayLie state held files) (sym is) image) in
        lies_low n s h.0 files (subst (λ o. SlotHolds o n s h.0 files) is_found h.1)
    low_held n s away Out is = tt

    low_at : (n s : ℕ) → IsLowAt state state_found.place n s (lain_at opened.mid.held n s)
    low_at n s =
        elim (same_or_other (replica_slot n s) meta_slot) as (λ _. IsLowAt state state_found.place n s (opened.mid.held (replica_slot n s))) [
          | inl same ↦ subst (λ slot. IsLowAt state state_found.place n s (opened.mid.held slot)) (sym same) (subst (IsLowAt state state_found.place n s) (sym opened.has.held) tt)
          | inr other ↦ subst (IsLowAt state state_found.place n s) (sym (opened.has.others (replica_slot n s) other)) (low_held n s other (before.held (replica_slot n s)) refl)
        ]

    module _ (files : ℕ → ℕ → Files) (lie : (n s : ℕ) → MayLie state (lain_at opened.mid.held n s) (files n s)) where
      abbrev of_slot : DiskSlot → Files
      of_slot slot = files slot.node slot.shard

      others_lie : (slot : DiskSlot) → IsForReplicas slot → MayLie state (before.held slot) (of_slot slot)
      others_lie slot away = subst (λ held. MayLie state held (of_slot slot)) (opened.has.others slot away) (lie slot.node slot.shard)

      each_holds : (n s : ℕ) → HoldPoints ((stands of_slot others_lie).held n s) (files n s)
      each_holds n s = by (same_or_other (replica_slot n s) meta_slot)
        where
          by : (replica_slot n s ≡ meta_slot) ⊎ ¬ (replica_slot n s ≡ meta_slot) → HoldPoints ((stands of_slot others_lie).held n s) (files n s)
          by (inl same) =
              let out : opened.mid.held (replica_slot n s) ≡ Out = ap opened.mid.held same ∙ opened.has.held in
              let none : files n s ≡ empty = subst (λ held. MayLie state held (files n s)) out (lie n s) in
              subst (λ ps. HoldPoints ps (files n s)) (sym ((stands of_slot others_lie).none n s same))
              (record { all = []; tenure = 0; fence = 0; held = subst (FilesHold [] 0 0) (sym none) no_files_hold_nothing; same = λ p. (λ i. i, λ i. i) })
          by (inr other) =
              let h = holds of_slot others_lie n s other in
              record { all = (stands of_slot others_lie).held n s; tenure = h.tenure; fence = h.fence; held = (h.whole).held; same = λ p. (λ i. i, λ i. i) }

      each_stands : (opening : ℕ → ℕ → List Point) × HoldOpening files opening × OpeningStands past (Some state_found) opening
      each_stands = ((stands of_slot others_lie).held, each_holds, subst (λ o. OpeningStands past o (stands of_slot others_lie).held) is_found (opening of_slot others_lie))

  had_lain : HadLain state past (state_of c.cluster) opened.mid.held
  had_lain = by (state_of c.cluster) refl
    where
      by : (o : Option MetaState) → state_of c.cluster ≡ o → HadLain state past o opened.mid.held
      by None is = record { bare = are_bare is; whole = all_whole; stand = left_none is }
      by (Some state_found) is = record { low = low_at state_found is; whole = all_whole; stand = λ files lie. each_stands state_found is files lie }

-- so no turns are tracked at first, behind these runs
pub begins_over : {D : Type 0} {G : Ghosts D} (state : D → DiskState) → ((d : D) → IsLawfulDisk (state d)) → (before now : Depot D) (c : SavedCluster D G) (opened : IsOpened state before now c) (tells : Bool) (past : List Record) → (tells ≡ true → StandFor state past before.held)
    → BeginsSo state tells past opened.mid (opening_at (stage c now))
begins_over state lawful before now c opened tells past stand = opened.tracks tells past (λ is. (stand is).tell) (λ is. had_lain state lawful before now c opened past (stand is))
