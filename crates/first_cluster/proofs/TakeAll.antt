-- Disks taken one after the other, with a replica over each.
use Rattle.std.proofs.Common.{◌≡◌, ◌≢◌, ◌≤◌, ◌<◌, ◌+◌, ℕ, suc, List, [], ◌∷◌, ◌++◌, length, take, drop, get_or, min, refl, sym, ap, subst, ◌∙◌, inl, inr, arith}
use Rattle.std.specs.Prelude.{◌⊎◌}
use Rattle.std.specs.FinMap.{get, empty, get-empty}
use Rattle.m3_model.specs.Members.{IsIn}
use Rattle.m3_model.proofs.MemberLemmas.{IsIn-append_cases, IsIn-append_left, IsIn-append_right}
use Rattle.m3_outside.specs.Causes.{Rose, last_count}
use Rattle.m3_outside.specs.DiskState.{DiskState, IsEmpty}
use Rattle.m3_outside.specs.Slots.{MayGive, Out}
use Rattle.cluster_members.specs.replica_exchange.declared.slot.Slot.{Slot}
use Rattle.cluster_members.specs.replica_calls.Calls.{first_member}
use Rattle.cluster_members.specs.replica_calls.Slots.{MemberMap, slot_cmp}
use Rattle.m3_outside.specs.Depots.{Depot}
use Rattle.first_cluster.specs.Depots.{disk_slot_of}
use Rattle.first_cluster.specs.Slots.{AreApart}
use Rattle.first_cluster.specs.Lending.{IsUntouched, IsLent, IsGivenBack, MayNotOpen, IsFree, IsNewlyTaken, HasTaken, KeepsOthers, MayHaveTaken}
use Rattle.first_cluster.specs.declared.unopened.Unopened.{Unopened}
use Rattle.first_cluster.specs.declared.unopened.Unopened.TheVariants as unopened
use Rattle.placement_core.proofs.ListLemmas.{IsIn-from_index}
use Rattle.first_cluster.proofs.ListLemmas.{not_before, parted, take_at}
use Rattle.first_cluster.proofs.SlotLists.{slot_or_other, in_or_out}

-- ---- the count of all faults

rises : (last a b c : ℕ) → a ≤ b → min (b + 1) last ≤ c → min (a + 1) last ≤ c
rises last a b c low rose = omega arith

keeps_up : (n b c : ℕ) → n ≤ b → b ≤ c → n ≤ c
keeps_up n b c low high = omega arith

-- it rose since an earlier moment too
pub rose_from : (a b c : ℕ) → a ≤ b → Rose b c → Rose a c
rose_from a b c low rose = rises last_count a b c low rose

-- and at a later moment
pub rose_to : (a b c : ℕ) → Rose a b → b ≤ c → Rose a c
rose_to a b c rose later = keeps_up (min (a + 1) last_count) b c rose later

-- ---- disks are taken

-- none was taken yet
pub taken_none : {D : Type 0} (state : D → DiskState) (depot : Depot D) (members : MemberMap D) → members ≡ empty → HasTaken state [] depot members depot
taken_none state depot members is = record {
  taken = λ s i. absurd i;
  others = λ s away. record { no_member = ap (λ m. get m s) is ∙ get-empty slot_cmp s; held = refl; counted = refl };
  later = omega arith;
}

-- of the next slot none was
away_from : (done later : List Slot) (s : Slot) → AreApart (done ++ s ∷ later) → ¬ IsIn done s
away_from done later s apart i = not_before (λ a b. a ≢ b) done later s apart i refl

pub next_free : {D : Type 0} (state : D → DiskState) (done later : List Slot) (s : Slot) (old now : Depot D) (members : MemberMap D) → AreApart (done ++ s ∷ later) → old.held (disk_slot_of s) ≢ Out
    → HasTaken state done old members now → IsFree now.held members s
next_free state done later s old now members apart free had =
    let rest = had.others s (away_from done later s apart) in
    record { not_out = λ out. free (sym rest.held ∙ out); no_member = rest.no_member }

-- one more was taken
pub taken_more : {D : Type 0} (state : D → DiskState) (done later : List Slot) (s : Slot) (old now new : Depot D) (members after : MemberMap D) → AreApart (done ++ s ∷ later) → HasTaken state done old members now
    → IsNewlyTaken state now after new s → KeepsOthers s now members new after → HasTaken state (done ++ s ∷ []) old after new
taken_more state done later s old now new members after apart had one keeps = record {
  taken = λ t i. elim (IsIn-append_cases done (s ∷ []) t i) as (λ _. IsNewlyTaken state old after new t) [
    | inl before ↦ kept t before
    | inr last ↦ elim last as (λ _. IsNewlyTaken state old after new t) [
      | inl same ↦ subst (λ x. IsNewlyTaken state old after new x) same here
      | inr none ↦ absurd none
    ]
  ];
  others = λ t out.
      let kept = keeps.others t (λ same. out (IsIn-append_right done (s ∷ []) t (inl (sym same)))) in
      let was = had.others t (λ i. out (IsIn-append_left done (s ∷ []) t i)) in
      record { no_member = kept.member ∙ was.no_member; held = kept.held ∙ was.held; counted = kept.counted ∙ was.counted };
  later = omega (arith, had.later, keeps.later);
}
  where
    here : IsNewlyTaken state old after new s
    here =
        let rest = had.others s (away_from done later s apart) in
        record {
          disk = one.disk;
          given = subst (λ h. MayGive (λ d. IsEmpty (state d)) h one.disk) rest.held one.given;
          disk_faults = one.disk_faults ∙ rest.counted;
          stands = one.stands;
          held = one.held;
          counted = one.counted ∙ rest.counted;
        }

    kept : (t : Slot) → IsIn done t → IsNewlyTaken state old after new t
    kept t before =
        let same = keeps.others t (λ e. away_from done later s apart (subst (IsIn done) e before)) in
        let was = had.taken t before in
        record {
          disk = was.disk;
          given = was.given;
          disk_faults = was.disk_faults;
          stands = same.member ∙ was.stands;
          held = same.held ∙ was.held;
          counted = same.counted ∙ was.counted;
        }

-- ---- a refusal

-- a replica that wasn't begun yet is lent
pub lent_new : {D : Type 0} (state : D → DiskState) (s : Slot) (old new : Depot D) (members : MemberMap D) → IsNewlyTaken state old members new s → IsLent state old members new s
lent_new state s old new members n = record {
  member = first_member n.disk;
  stands = n.stands;
  opened = record { disk = n.disk; given = n.given; counted = n.disk_faults; begun = inl refl };
  held = n.held;
  counted = n.counted;
}

moved_cause : {D : Type 0} (done later : List Slot) (s : Slot) (old now new : Depot D) (why : Unopened) → old.faults ≤ now.faults → MayNotOpen (s ∷ []) now new why → MayNotOpen (done ++ s ∷ later) old new why
moved_cause done later s old now new (unopened.Disk slot) rest cause = (
  elim cause.0 as (λ _. IsIn (done ++ s ∷ later) slot) [
    | inl same ↦ IsIn-append_right done (s ∷ later) slot (inl same)
    | inr none ↦ absurd none
  ],
  rose_from old.faults now.faults new.faults rest cause.1,
)
moved_cause done later s old now new unopened.Memory rest cause = tt

-- the disk of the next slot was refused
pub taken_but : {D : Type 0} (state : D → DiskState) (done later : List Slot) (s : Slot) (old now new : Depot D) (members after : MemberMap D) (why : Unopened) → AreApart (done ++ s ∷ later) → HasTaken state done old members now
    → (IsUntouched now after new s ⊎ IsGivenBack state now after new s) → MayNotOpen (s ∷ []) now new why → KeepsOthers s now members new after → MayHaveTaken state (done ++ s ∷ later) old after new why
taken_but {D = D} state done later s old now new members after why apart had refused cause keeps = record {
  each = λ t. elim (slot_or_other s t) as (λ _. Left t) [
    | inl same ↦ subst Left same here
    | inr other ↦ away t (λ e. other (sym e)) (in_or_out done t)
  ];
  later = omega (arith, had.later, keeps.later);
  cause = moved_cause done later s old now new why had.later cause;
}
  where
    Left : Slot → Type 0
    Left t = IsUntouched old after new t ⊎ ((IsIn (done ++ s ∷ later) t × IsLent state old after new t) ⊎ IsGivenBack state old after new t)

    here : Left s
    here =
        let rest = had.others s (away_from done later s apart) in
        elim refused as (λ _. Left s) [
          | inl untouched ↦ inl (record { no_member = untouched.no_member; held = untouched.held ∙ rest.held; counted = untouched.counted ∙ rest.counted })
          | inr back ↦ inr (inr (record {
            member = back.member;
            no_member = back.no_member;
            opened = record {
              disk = back.opened.disk;
              given = subst (λ h. MayGive (λ d. IsEmpty (state d)) h back.opened.disk) rest.held back.opened.given;
              counted = back.opened.counted ∙ rest.counted;
              begun = back.opened.begun;
            };
            held = back.held;
            counted = back.counted;
          }))
        ]

    away : (t : Slot) → ¬ (t ≡ s) → (IsIn done t ⊎ ¬ IsIn done t) → Left t
    away t other (inl i) =
        let kept = keeps.others t other in
        let was = lent_new state t old now members (had.taken t i) in
        inr (inl (IsIn-append_left done (s ∷ later) t i, record { member = was.member; stands = kept.member ∙ was.stands; opened = was.opened; held = kept.held ∙ was.held; counted = kept.counted ∙ was.counted }))
    away t other (inr out) =
        let kept = keeps.others t other in
        let was = had.others t out in
        inl (record { no_member = kept.member ∙ was.no_member; held = kept.held ∙ was.held; counted = kept.counted ∙ was.counted })

-- ---- as a loop goes over the slots

apart_at : (slots : List Slot) (i : ℕ) (d : Slot) → i < length slots → AreApart slots → AreApart (take i slots ++ get_or slots i d ∷ drop (suc i) slots)
apart_at slots i d low apart = subst AreApart (parted slots i d low) apart

pub free_at : {D : Type 0} (state : D → DiskState) (slots : List Slot) (i : ℕ) (d : Slot) (old now : Depot D) (members : MemberMap D) → i < length slots → AreApart slots → ((t : Slot) → IsIn slots t → old.held (disk_slot_of t) ≢ Out)
    → HasTaken state (take i slots) old members now → IsFree now.held members (get_or slots i d)
free_at state slots i d old now members low apart free had = next_free state (take i slots) (drop (suc i) slots) (get_or slots i d) old now members (apart_at slots i d low apart) (free (get_or slots i d) (IsIn-from_index slots i d low)) had

pub taken_at : {D : Type 0} (state : D → DiskState) (slots : List Slot) (i : ℕ) (d : Slot) (old now new : Depot D) (members after : MemberMap D) → i < length slots → AreApart slots → HasTaken state (take i slots) old members now
    → IsNewlyTaken state now after new (get_or slots i d) → KeepsOthers (get_or slots i d) now members new after → HasTaken state (take (i + 1) slots) old after new
taken_at state slots i d old now new members after low apart had one keeps =
    subst (λ done. HasTaken state done old after new) (sym (take_at slots i d low)) (taken_more state (take i slots) (drop (suc i) slots) (get_or slots i d) old now new members after (apart_at slots i d low apart) had one keeps)

pub refused_at : {D : Type 0} (state : D → DiskState) (slots : List Slot) (i : ℕ) (d : Slot) (old now new : Depot D) (members after : MemberMap D) (why : Unopened) → i < length slots → AreApart slots → HasTaken state (take i slots) old members now
    → (IsUntouched now after new (get_or slots i d) ⊎ IsGivenBack state now after new (get_or slots i d)) × MayNotOpen (get_or slots i d ∷ []) now new why → KeepsOthers (get_or slots i d) now members new after → MayHaveTaken state slots old after new why
refused_at state slots i d old now new members after why low apart had refused keeps =
    subst (λ all. MayHaveTaken state all old after new why) (sym (parted slots i d low))
    (taken_but state (take i slots) (drop (suc i) slots) (get_or slots i d) old now new members after why (apart_at slots i d low apart) had refused.0 refused.1 keeps)
