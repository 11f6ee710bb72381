-- Disks of further slots taken one after the other, and given back.
use Rattle.std.proofs.Common.{◌≡◌, ◌≢◌, ◌<◌, ◌+◌, ℕ, suc, List, [], ◌∷◌, ◌++◌, length, take, drop, get_or, refl, sym, ap, subst, ◌∙◌, inl, inr, arith}
use Rattle.std.specs.Prelude.{◌⊎◌, Option, Some, None}
use Rattle.std.specs.FinMap.{get, same_map}
use Rattle.m3_model.specs.Members.{IsIn}
use Rattle.m3_model.proofs.MemberLemmas.{IsIn-append_cases, IsIn-append_left, IsIn-append_right}
use Rattle.m3_outside.specs.Depots.{Depot}
use Rattle.m3_outside.specs.DiskState.{DiskState, IsEmpty}
use Rattle.m3_outside.specs.Slots.{Here, MayGive, Out}
use Rattle.m3_outside.specs.declared.slot.DiskSlot.{DiskSlot}
use Rattle.node_calls.specs.replica_exchange.declared.member.Member.{Member}
use Rattle.node_calls.specs.replica_exchange.declared.slot.Slot.{Slot}
use Rattle.node_calls.specs.replica_calls.Calls.{Tracked, first_member}
use Rattle.node_calls.specs.replica_calls.Slots.{MemberMap}
use Rattle.node_calls.proofs.replica_calls_proofs.SlotLemmas.{slot_cmp_total, slot_cmp-IsAntisymmetric}
use Rattle.first_cluster.specs.Depots.{disk_slot_of}
use Rattle.first_cluster.specs.Lending.{HasGivenBack, IsBack, IsFree, IsKept, IsLeftAt, IsNewlyTaken, IsReturned, IsSameAt, KeepsOthers}
use Rattle.first_cluster.specs.Slots.{AreApart}
use Rattle.first_cluster.proofs.ListLemmas.{not_before, parted, take_at}
use Rattle.first_cluster.proofs.SlotLists.{in_or_out, slot_or_other}
use Rattle.first_cluster.proofs.TakeAll.{rose_from, rose_to}
use Rattle.cluster_placements.specs.Lending.{AreLent, HaveGained, HaveReturned, IsLeftBy, MayHaveGained, MayNotTake}
use Rattle.cluster_placements.specs.declared.untaken.Untaken.{Untaken}
use Rattle.cluster_placements.specs.declared.untaken.Untaken.TheVariants as untaken

clash : {X : Type 0} (o : Option X) (x : X) → o ≡ None → o ≡ Some x → ⊥
clash o x none some_ = let bad : None ≡ Some x = sym none ∙ some_ in cc

same_some : {X : Type 0} (o : Option X) (x y : X) → o ≡ Some x → o ≡ Some y → x ≡ y
same_some o x y p q = let both : Some x ≡ Some y = sym p ∙ q in cc

-- ---- one slot

-- the disk was taken and is back
pub back_at : {D : Type 0} (state : D → DiskState) (s : Slot) (disk_slot again : DiskSlot) (disk back : D) (old mid new : Depot D) → disk_slot ≡ disk_slot_of s → again ≡ disk_slot_of s → MayGive (λ d. IsEmpty (state d)) (old.held disk_slot) disk
    → (state disk).faults ≡ old.counted disk_slot → back ≡ disk → new.held again ≡ Here back → new.counted again ≡ (state back).faults → IsLeftAt state old new s
back_at state s disk_slot again disk back old mid new at at_again given faults own here counted = inr (record {
  disk = disk;
  given = subst (λ p. MayGive (λ d. IsEmpty (state d)) (old.held p) disk) at given;
  held = subst (λ p. new.held p ≡ Here back) at_again here ∙ ap Here own;
  counted = subst (λ p. new.counted p ≡ (state back).faults) at_again counted ∙ ap (λ d. (state d).faults) own ∙ faults ∙ ap old.counted at;
})

-- it wasn't taken, and the slot is as it was
pub unmoved_at : {D : Type 0} (s : Slot) (disk_slot : DiskSlot) (old new : Depot D) → disk_slot ≡ disk_slot_of s → new.held disk_slot ≡ old.held disk_slot → ((p : DiskSlot) → new.counted p ≡ old.counted p) → IsSameAt old new s
unmoved_at s disk_slot old new at held counted = record { held = subst (λ p. new.held p ≡ old.held p) at held; counted = counted (disk_slot_of s) }

-- ---- what is so at one moment is so at another, by slots that are as before

module _ {D : Type 0} (state : D → DiskState) where
  -- a slot that was as before is so still
  pub kept_then : (old mid new : Depot D) (before between after : MemberMap D) (t : Slot) → IsKept old before mid between t → IsKept mid between new after t → IsKept old before new after t
  kept_then old mid new before between after t first next = record { member = next.member ∙ first.member; held = next.held ∙ first.held; counted = next.counted ∙ first.counted }

  new_then : (old mid new : Depot D) (between after : MemberMap D) (t : Slot) → IsNewlyTaken state old between mid t → IsKept mid between new after t → IsNewlyTaken state old after new t
  new_then old mid new between after t had kept = record { disk = had.disk; given = had.given; disk_faults = had.disk_faults; stands = kept.member ∙ had.stands; held = kept.held ∙ had.held; counted = kept.counted ∙ had.counted }

  then_new : (old mid new : Depot D) (before between after : MemberMap D) (t : Slot) → IsKept old before mid between t → IsNewlyTaken state mid after new t → IsNewlyTaken state old after new t
  then_new old mid new before between after t kept one = record {
    disk = one.disk;
    given = subst (λ h. MayGive (λ d. IsEmpty (state d)) h one.disk) kept.held one.given;
    disk_faults = one.disk_faults ∙ kept.counted;
    stands = one.stands;
    held = one.held;
    counted = one.counted ∙ kept.counted;
  }

  then_same : (old mid new : Depot D) (before between : MemberMap D) (t : Slot) → IsKept old before mid between t → IsSameAt mid new t → IsSameAt old new t
  then_same old mid new before between t kept same = record { held = same.held ∙ kept.held; counted = same.counted ∙ kept.counted }

  then_left : (old mid new : Depot D) (before between : MemberMap D) (t : Slot) → IsKept old before mid between t → IsLeftAt state mid new t → IsLeftAt state old new t
  then_left old mid new before between t kept (inl same) = inl (then_same old mid new before between t kept same)
  then_left old mid new before between t kept (inr back) = inr (record {
    disk = back.disk;
    given = subst (λ h. MayGive (λ d. IsEmpty (state d)) h back.disk) kept.held back.given;
    held = back.held;
    counted = back.counted ∙ kept.counted;
  })

  -- ---- one after the other

  pub gained_none : (depot : Depot D) (members : MemberMap D) → HaveGained state [] depot members depot members
  gained_none depot members = record { gained = λ s i. absurd i; others = λ s out. record { member = refl; held = refl; counted = refl }; later = omega arith }

  module _ (done later : List Slot) (s : Slot) (old now : Depot D) (before members : MemberMap D) (apart : AreApart (done ++ s ∷ later)) (had : HaveGained state done old before now members) where
    away : ¬ IsIn done s
    away i = not_before (λ a b. a ≢ b) done later s apart i refl

    here_kept : IsKept old before now members s
    here_kept = had.others s away

    pub still_free : IsFree old.held before s → IsFree now.held members s
    still_free free = record { not_out = λ out. free.not_out (sym here_kept.held ∙ out); no_member = here_kept.member ∙ free.no_member }

    module _ (new : Depot D) (after : MemberMap D) (keeps : KeepsOthers s now members new after) where
      at_done : (t : Slot) → IsIn done t → IsNewlyTaken state old after new t
      at_done t i = new_then old now new members after t (had.gained t i) (keeps.others t (λ e. away (subst (IsIn done) e i)))

      at_other : (t : Slot) → ¬ (t ≡ s) → ¬ IsIn done t → IsKept old before new after t
      at_other t other out = kept_then old now new before members after t (had.others t out) (keeps.others t other)

      pub gained_more : IsNewlyTaken state now after new s → HaveGained state (done ++ s ∷ []) old before new after
      gained_more one = record {
        gained = λ t i. elim (IsIn-append_cases done (s ∷ []) t i) as (λ _. IsNewlyTaken state old after new t) [
          | inl earlier ↦ at_done t earlier
          | inr last ↦ elim last as (λ _. IsNewlyTaken state old after new t) [
            | inl same ↦ subst (λ x. IsNewlyTaken state old after new x) same (then_new old now new before members after s here_kept one)
            | inr none ↦ absurd none
          ]
        ];
        others = λ t out. at_other t (λ same. out (IsIn-append_right done (s ∷ []) t (inl (sym same)))) (λ i. out (IsIn-append_left done (s ∷ []) t i));
        later = (let first = had.later in let next = keeps.later in omega (arith, first, next));
      }

      left_by : (why : Untaken) → IsLeftBy state now new s why → IsLeftBy state old new s why
      left_by (untaken.Disk slot) left = (left.0, then_same old now new before members s here_kept left.1, rose_from old.faults now.faults new.faults had.later left.2)
      left_by untaken.Memory left = then_left old now new before members s here_kept left

      -- the next one wasn't taken
      pub gained_but : (why : Untaken) → get after s ≡ None → IsLeftBy state now new s why → MayHaveGained state (done ++ s ∷ later) old before new after why
      gained_but why gone left = record {
        first = done;
        at = s;
        rest = later;
        parts = refl;
        gained = at_done;
        none = gone;
        left = left_by why left;
        others = λ t out other. at_other t other out;
        later = (let first = had.later in let next = keeps.later in omega (arith, first, next));
      }

  -- ---- all given back

  module _ (slots : List Slot) (old mid new : Depot D) (before members left : MemberMap D) (why : Untaken) (may : MayHaveGained state slots old before mid members why) (given : HasGivenBack state slots mid members new left)
      (free : (t : Slot) → IsIn slots t → get before t ≡ None) where
    -- whether a slot's disk was given back
    abbrev Given : Slot → Type 0
    Given t = IsKept mid members new left t ⊎ IsBack state members new left t

    in_first : (t : Slot) → IsIn may.first t → IsIn slots t
    in_first t i = subst (λ all. IsIn all t) (sym may.parts) (IsIn-append_left may.first (may.at ∷ may.rest) t i)

    at_in : IsIn slots may.at
    at_in = subst (λ all. IsIn all may.at) (sym may.parts) (IsIn-append_right may.first (may.at ∷ may.rest) may.at (inl refl))

    returned_by : (t : Slot) → IsIn slots t → IsNewlyTaken state old members mid t → Given t → IsReturned state old new t
    returned_by t i one (inl kept) = absurd (clash (get left t) (first_member one.disk) (given.gone t i) (kept.member ∙ one.stands))
    returned_by t i one (inr back) =
        let same : back.member ≡ first_member one.disk = same_some (get members t) back.member (first_member one.disk) back.was one.stands in
        record {
          disk = one.disk;
          given = one.given;
          held = back.held ∙ ap (λ (m : Member D). Here (m.machine.disk)) same;
          counted = back.counted ∙ ap (λ (m : Member D). (state m.machine.disk).faults) same ∙ one.disk_faults;
        }

    of_first : (t : Slot) → IsIn may.first t → IsReturned state old new t
    of_first t i = returned_by t (in_first t i) (may.gained t i) (given.each t)

    -- a slot without a replica gave nothing back
    same_by : (t : Slot) → get members t ≡ None → IsSameAt old mid t → Given t → IsSameAt old new t
    same_by t none same (inr back) = absurd (clash (get members t) back.member none back.was)
    same_by t none same (inl kept) = record { held = kept.held ∙ same.held; counted = kept.counted ∙ same.counted }

    left_by_given : (t : Slot) → get members t ≡ None → IsLeftAt state old mid t → Given t → IsLeftAt state old new t
    left_by_given t none (inl same) given_ = inl (same_by t none same given_)
    left_by_given t none (inr back) (inr again) = absurd (clash (get members t) again.member none again.was)
    left_by_given t none (inr back) (inl kept) = inr (record { disk = back.disk; given = back.given; held = kept.held ∙ back.held; counted = kept.counted ∙ back.counted })

    same_of : (t : Slot) → IsKept old before mid members t → IsSameAt old mid t
    same_of t was = record { held = was.held; counted = was.counted }

    other_by : (t : Slot) → IsKept old before mid members t → Given t → IsSameAt old new t
    other_by t was (inl kept) = record { held = kept.held ∙ was.held; counted = kept.counted ∙ was.counted }
    other_by t was (inr back) = elim (in_or_out slots t) as (λ _. IsSameAt old new t) [
      | inl i ↦ same_by t (was.member ∙ free t i) (same_of t was) (inr back)
      | inr out ↦ absurd (clash (get left t) back.member back.gone (given.others t out ∙ back.was))
    ]

    of_other : (t : Slot) → ¬ IsIn may.first t → ¬ (t ≡ may.at) → IsSameAt old new t
    of_other t out other = other_by t (may.others t out other) (given.each t)

    any_left : (w : Untaken) → IsLeftBy state old mid may.at w → IsLeftAt state old mid may.at
    any_left (untaken.Disk slot) by = inl by.1
    any_left untaken.Memory by = by

    of_at : IsLeftAt state old new may.at
    of_at = left_by_given may.at may.none (any_left why may.left) (given.each may.at)

    pub all_returned : HaveReturned state slots old new
    all_returned = record {
      each = λ t i. elim (in_or_out may.first t) as (λ _. IsLeftAt state old new t) [
        | inl earlier ↦ inr (of_first t earlier)
        | inr out ↦ elim (slot_or_other t may.at) as (λ _. IsLeftAt state old new t) [
          | inl same ↦ subst (λ x. IsLeftAt state old new x) (sym same) of_at
          | inr other ↦ inl (of_other t out other)
        ]
      ];
      others = λ t out. of_other t (λ i. out (in_first t i)) (λ same. out (subst (IsIn slots) (sym same) at_in));
      later = (let first = may.later in let next = given.later in omega (arith, first, next));
    }

    -- the replicas are as they were
    pub members_back : left ≡ before
    members_back = same_map slot_cmp_total slot_cmp-IsAntisymmetric left before (λ t. elim (in_or_out slots t) as (λ _. get left t ≡ get before t) [
      | inl i ↦ given.gone t i ∙ sym (free t i)
      | inr out ↦ given.others t out ∙ (may.others t (λ i. out (in_first t i)) (λ same. out (subst (IsIn slots) (sym same) at_in))).member
    ])

    pub cause_still : MayNotTake state slots old new why
    cause_still = by why may.left
      where
        by : (w : Untaken) → IsLeftBy state old mid may.at w → MayNotTake state slots old new w
        by untaken.Memory left_ = tt
        by (untaken.Disk slot) left_ = record {
          first = may.first;
          rest = may.rest;
          parts = subst (λ s. slots ≡ may.first ++ s ∷ may.rest) (sym left_.0) may.parts;
          back = of_first;
          others = λ t out. elim (slot_or_other t may.at) as (λ _. IsSameAt old new t) [
            | inl same ↦ subst (IsSameAt old new) (sym same) (same_by may.at may.none left_.1 (given.each may.at))
            | inr other ↦ of_other t out other
          ];
          later = (let first = may.later in let next = given.later in omega (arith, first, next));
          rose = rose_to old.faults mid.faults new.faults left_.2 given.later;
        }

  -- the disks of all replicas are out, also of those that were made
  pub lent_still : (slots : List Slot) (old mid : Depot D) (before members : MemberMap D) (why : Untaken) → MayHaveGained state slots old before mid members why → AreLent before old.held → AreLent members mid.held
  lent_still slots old mid before members why may lent t m there = elim (in_or_out may.first t) as (λ _. mid.held (disk_slot_of t) ≡ Out) [
    | inl i ↦ (may.gained t i).held
    | inr out ↦ elim (slot_or_other t may.at) as (λ _. mid.held (disk_slot_of t) ≡ Out) [
      | inl same ↦ absurd (clash (get members t) m (ap (get members) same ∙ may.none) there)
      | inr other ↦ let was = may.others t out other in was.held ∙ lent t m (sym was.member ∙ there)
    ]
  ]

-- ---- as a loop goes over the slots

module _ {D : Type 0} (state : D → DiskState) (slots : List Slot) (i : ℕ) (d : Slot) (old now : Depot D) where
  abbrev parts : List Slot
  parts = take i slots ++ get_or slots i d ∷ drop (suc i) slots

  pub free_at : (before members : MemberMap D) → i < length slots → AreApart slots → HaveGained state (take i slots) old before now members → IsFree old.held before (get_or slots i d) → IsFree now.held members (get_or slots i d)
  free_at before members low apart had free = still_free state (take i slots) (drop (suc i) slots) (get_or slots i d) old now before members (subst AreApart (parted slots i d low) apart) had free

  pub gained_at : (new : Depot D) (before members after : MemberMap D) → i < length slots → AreApart slots → HaveGained state (take i slots) old before now members → KeepsOthers (get_or slots i d) now members new after → IsNewlyTaken state now after new (get_or slots i d)
      → HaveGained state (take (i + 1) slots) old before new after
  gained_at new before members after low apart had keeps one =
      subst (λ done. HaveGained state done old before new after) (sym (take_at slots i d low))
      (gained_more state (take i slots) (drop (suc i) slots) (get_or slots i d) old now before members (subst AreApart (parted slots i d low) apart) had new after keeps one)

  pub but_at : (new : Depot D) (before members after : MemberMap D) (why : Untaken) → i < length slots → AreApart slots → HaveGained state (take i slots) old before now members → KeepsOthers (get_or slots i d) now members new after → ((t : Slot) → IsIn slots t → get before t ≡ None)
      → after ≡ members → IsLeftBy state now new (get_or slots i d) why → MayHaveGained state slots old before new after why
  but_at new before members after why low apart had keeps free same left =
      let s = get_or slots i d in
      let apart' = subst AreApart (parted slots i d low) apart in
      let here : IsIn slots s = subst (λ xs. IsIn xs s) (sym (parted slots i d low)) (IsIn-append_right (take i slots) (s ∷ drop (suc i) slots) s (inl refl)) in
      let gone : get after s ≡ None = ap (λ m. get m s) same ∙ (had.others s (λ j. not_before (λ a b. a ≢ b) (take i slots) (drop (suc i) slots) s apart' j refl)).member ∙ free s here in
      subst (λ all. MayHaveGained state all old before new after why) (sym (parted slots i d low)) (gained_but state (take i slots) (drop (suc i) slots) s old now before members apart' had new after keeps why gone left)

-- the replicas, with their list, are as they were
pub tracked_back : {D : Type 0} (state : D → DiskState) (slots : List Slot) (old mid new : Depot D) (was now : Tracked D) (members : MemberMap D) (why : Untaken) → MayHaveGained state slots old was.members mid members why → HasGivenBack state slots mid members new now.members
    → ((t : Slot) → IsIn slots t → get was.members t ≡ None) → now.events ≡ was.events → now ≡ was
tracked_back state slots old mid new was now members why may given free list =
    let same = members_back state slots old mid new was.members members now.members why may given free in
    λ k. record { members = same k; events = list k }
