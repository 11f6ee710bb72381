-- Disks given back one after the other.
use Rattle.std.proofs.Common.{◌≡◌, ◌≢◌, ◌≤◌, ◌<◌, ◌+◌, ◌-◌, min, ℕ, List, [], ◌∷◌, ◌++◌, length, take, get_or, refl, sym, ap, subst, ◌∙◌, inl, inr, arith}
use Rattle.std.specs.Prelude.{◌⊎◌, Option, Some, None}
use Rattle.std.specs.FinMap.{get, remove, empty, get-empty}
use Rattle.m3_model.specs.Members.{IsIn}
use Rattle.m3_model.proofs.MemberLemmas.{IsIn-append_cases, IsIn-append_left, IsIn-append_right}
use Rattle.m3_outside.specs.Causes.{RoseBy, last_count}
use Rattle.m3_outside.specs.DiskState.{DiskState}
use Rattle.m3_outside.specs.Slots.{Here, Out, OthersStay}
use Rattle.m3_outside.specs.declared.slot.DiskSlot.{DiskSlot}
use Rattle.cluster_members.specs.replica_exchange.declared.member.Member.{Member}
use Rattle.cluster_members.specs.replica_calls.Calls.{first_member}
use Rattle.cluster_members.specs.replica_calls.Slots.{MemberMap, slot_cmp}
use Rattle.cluster_members.specs.session_net.Runs.{slot_at}
use Rattle.cluster_members.specs.replica_exchange.declared.slot.Slot.{Slot}
use Rattle.m3_outside.specs.Depots.{Depot}
use Rattle.first_cluster.specs.Depots.{AreOut, IsForReplicas, count_at, disk_slot_of, risen}
use Rattle.first_cluster.specs.Slots.{AreApart}
use Rattle.first_cluster.specs.Lending.{AreAsTheyWere, HasTaken, IsLeftAt, IsUntouched, IsLent, IsGivenBack, HasReturned, MayNotOpen, IsKept, IsBack, HasGivenBack, MayHaveTaken, IsUnopened}
use Rattle.first_cluster.specs.declared.unopened.Unopened.{Unopened}
use Rattle.first_cluster.specs.declared.unopened.Unopened.TheVariants as unopened
use Rattle.first_cluster.proofs.ListLemmas.{take_at}
use Rattle.first_cluster.proofs.SlotCases.{other_disk_slot, get-remove_here, get-remove_other}
use Rattle.first_cluster.proofs.SlotLists.{in_or_out, slot_or_other}
use Rattle.first_cluster.proofs.TakeAll.{rose_to}

clash : {X : Type 0} (o : Option X) (x : X) → o ≡ None → o ≡ Some x → ⊥
clash o x none some = let bad : None ≡ Some x = sym none ∙ some in cc

same_some : {X : Type 0} (o : Option X) (x y : X) → o ≡ Some x → o ≡ Some y → x ≡ y
same_some o x y p q = let both : Some x ≡ Some y = sym p ∙ q in cc

rose_nothing : (last n : ℕ) → min (n + 0) last ≤ n
rose_nothing last n = omega arith

rose_both : (last m n before mid now : ℕ) → min (before + m) last ≤ mid → min (mid + n) last ≤ now → min (before + (m + n)) last ≤ now
rose_both last m n before mid now first second = omega (arith, first, second)

-- first so much, and then as much more
pub rose_more : (m n before mid now : ℕ) → RoseBy m before mid → RoseBy n mid now → RoseBy (m + n) before now
rose_more m n before mid now first second = rose_both last_count m n before mid now first second

-- all but the last of slots that stand once do so, and the last isn't among them
apart_parts : (done : List Slot) (s : Slot) → AreApart (done ++ s ∷ []) → AreApart done × ¬ IsIn done s
apart_parts [] s apart = (tt, λ i. i)
apart_parts (x ∷ done) s apart =
    let parts = apart_parts done s apart.1 in (
      (λ y i. apart.0 y (IsIn-append_left done (s ∷ []) y i), parts.0),
      λ i. elim i as (λ _. ⊥) [ inl same ↦ apart.0 s (IsIn-append_right done (s ∷ []) s (inl refl)) same | inr later ↦ parts.1 later ],
    )

risen_push : {D : Type 0} (state : D → DiskState) (depot : Depot D) (members : MemberMap D) (done : List Slot) (s : Slot)
    → risen state depot members (done ++ s ∷ []) ≡ risen state depot members done + (count_at state depot (get members s) s - depot.counted (disk_slot_of s))
risen_push state depot members [] s = omega arith
risen_push state depot members (x ∷ done) s = let rest = risen_push state depot members done s in omega (arith, rest)

-- ---- one after the other

-- none was given back yet
pub given_none : {D : Type 0} (state : D → DiskState) (depot : Depot D) (members : MemberMap D) → HasGivenBack state [] depot members depot members
given_none state depot members = record {
  each = λ s. inl (record { member = refl; held = refl; counted = refl });
  gone = λ s i. absurd i;
  others = λ s out. refl;
  later = omega arith;
  rose = λ apart. rose_nothing last_count depot.faults;
}

-- a replica that is there has its disk still
pub given_out : {D : Type 0} (state : D → DiskState) (done : List Slot) (s : Slot) (m : Member D) (old now : Depot D) (members left : MemberMap D) → HasGivenBack state done old members now left
    → ((t : Slot) (n : Member D) → get members t ≡ Some n → old.held (disk_slot_of t) ≡ Out) → get left s ≡ Some m → now.held (disk_slot_of s) ≡ Out
given_out state done s m old now members left had out there =
    elim (had.each s) as (λ _. now.held (disk_slot_of s) ≡ Out) [
      | inl kept ↦ kept.held ∙ out s m (sym kept.member ∙ there)
      | inr back ↦ absurd (clash (get left s) m back.gone there)
    ]

-- the slot has no replica
pub given_not : {D : Type 0} (state : D → DiskState) (done : List Slot) (s : Slot) (old now : Depot D) (members left after : MemberMap D) → HasGivenBack state done old members now left → get left s ≡ None → after ≡ remove left s
    → HasGivenBack state (done ++ s ∷ []) old members now after
given_not state done s old now members left after had none is = record {
  each = λ t. elim (had.each t) as (λ _. IsKept old members now after t ⊎ IsBack state members now after t) [
    | inl kept ↦ inl (record { member = same t ∙ kept.member; held = kept.held; counted = kept.counted })
    | inr back ↦ inr (record { member = back.member; was = back.was; gone = same t ∙ back.gone; held = back.held; counted = back.counted })
  ];
  gone = λ t i. elim (IsIn-append_cases done (s ∷ []) t i) as (λ _. get after t ≡ None) [
    | inl before ↦ same t ∙ had.gone t before
    | inr last ↦ elim last as (λ _. get after t ≡ None) [
      | inl here ↦ subst (λ x. get after x ≡ None) here (same s ∙ none)
      | inr nothing ↦ absurd nothing
    ]
  ];
  others = λ t out. same t ∙ had.others t (λ i. out (IsIn-append_left done (s ∷ []) t i));
  later = had.later;
  rose = λ apart.
      let parts = apart_parts done s apart in
      let empty_there : get members s ≡ None = sym (had.others s parts.1) ∙ none in
      let stays : risen state old members (done ++ s ∷ []) ≡ risen state old members done =
      risen_push state old members done s ∙ ap (λ o. risen state old members done + (count_at state old o s - old.counted (disk_slot_of s))) empty_there ∙ none_more (risen state old members done) (old.counted (disk_slot_of s)) in
      subst (λ n. RoseBy n old.faults now.faults) (sym stays) (had.rose parts.0);
}
  where
    none_more : (n k : ℕ) → n + (k - k) ≡ n
    none_more n k = omega arith

    same : (t : Slot) → get after t ≡ get left t
    same t = elim (slot_or_other t s) as (λ _. get after t ≡ get left t) [
      | inl e ↦ subst (λ x. get after x ≡ get left x) (sym e) (ap (λ m. get m s) is ∙ get-remove_here left s ∙ sym none)
      | inr other ↦ ap (λ m. get m t) is ∙ get-remove_other left s t other
    ]

-- the disk of the slot's replica was given back
pub given_more : {D : Type 0} (state : D → DiskState) (done : List Slot) (s : Slot) (m : Member D) (old now new : Depot D) (members left after : MemberMap D) → HasGivenBack state done old members now left → get left s ≡ Some m
    → after ≡ remove left s → new.held (disk_slot_of s) ≡ Here m.machine.disk → OthersStay (disk_slot_of s) now.held new.held → new.counted (disk_slot_of s) ≡ (state m.machine.disk).faults → OthersStay (disk_slot_of s) now.counted new.counted
    → now.faults ≤ new.faults → RoseBy ((state m.machine.disk).faults - now.counted (disk_slot_of s)) now.faults new.faults → HasGivenBack state (done ++ s ∷ []) old members new after
given_more {D = D} state done s m old now new members left after had there is here others counted counted_others later more = record {
  each = λ t. elim (slot_or_other s t) as (λ _. Left t) [
    | inl same ↦ subst Left same back
    | inr other ↦ stays t (λ e. other (sym e))
  ];
  gone = λ t i. elim (IsIn-append_cases done (s ∷ []) t i) as (λ _. get after t ≡ None) [
    | inl before ↦ elim (slot_or_other t s) as (λ _. get after t ≡ None) [
      | inl e ↦ subst (λ x. get after x ≡ None) (sym e) gone
      | inr other ↦ ap (λ n. get n t) is ∙ get-remove_other left s t other ∙ had.gone t before
    ]
    | inr last ↦ elim last as (λ _. get after t ≡ None) [
      | inl e ↦ subst (λ x. get after x ≡ None) e gone
      | inr nothing ↦ absurd nothing
    ]
  ];
  others = λ t out. ap (λ n. get n t) is ∙ get-remove_other left s t (λ e. out (IsIn-append_right done (s ∷ []) t (inl (sym e)))) ∙ had.others t (λ i. out (IsIn-append_left done (s ∷ []) t i));
  later = omega (arith, had.later, later);
  rose = λ apart.
      let parts = apart_parts done s apart in
      let was : get members s ≡ Some m = sym (had.others s parts.1) ∙ there in
      let term : count_at state old (get members s) s - old.counted (disk_slot_of s) ≡ (state m.machine.disk).faults - now.counted (disk_slot_of s) =
      ap (λ o. count_at state old o s - old.counted (disk_slot_of s)) was ∙ ap (λ n. (state m.machine.disk).faults - n) (sym uncounted) in
      let all : risen state old members (done ++ s ∷ []) ≡ risen state old members done + ((state m.machine.disk).faults - now.counted (disk_slot_of s)) =
      risen_push state old members done s ∙ ap (λ n. risen state old members done + n) term in
      subst (λ n. RoseBy n old.faults new.faults) (sym all) (rose_more (risen state old members done) ((state m.machine.disk).faults - now.counted (disk_slot_of s)) old.faults now.faults new.faults (had.rose parts.0) more);
}
  where
    uncounted : now.counted (disk_slot_of s) ≡ old.counted (disk_slot_of s)
    uncounted = elim (had.each s) as (λ _. now.counted (disk_slot_of s) ≡ old.counted (disk_slot_of s)) [
      | inl kept ↦ kept.counted
      | inr back ↦ absurd (clash (get left s) m back.gone there)
    ]

    Left : Slot → Type 0
    Left t = IsKept old members new after t ⊎ IsBack state members new after t

    gone : get after s ≡ None
    gone = ap (λ n. get n s) is ∙ get-remove_here left s

    back : Left s
    back = elim (had.each s) as (λ _. Left s) [
      | inl kept ↦ inr (record { member = m; was = sym kept.member ∙ there; gone = gone; held = here; counted = counted })
      | inr before ↦ absurd (clash (get left s) m before.gone there)
    ]

    stays : (t : Slot) → ¬ (t ≡ s) → Left t
    stays t other =
        let apart = other_disk_slot t s other in
        let same : get after t ≡ get left t = ap (λ n. get n t) is ∙ get-remove_other left s t other in
        elim (had.each t) as (λ _. Left t) [
          | inl kept ↦ inl (record { member = same ∙ kept.member; held = others (disk_slot_of t) apart ∙ kept.held; counted = counted_others (disk_slot_of t) apart ∙ kept.counted })
          | inr before ↦ inr (record {
            member = before.member;
            was = before.was;
            gone = same ∙ before.gone;
            held = others (disk_slot_of t) apart ∙ before.held;
            counted = counted_others (disk_slot_of t) apart ∙ before.counted;
          })
        ]

-- ---- after a refusal

-- each replica that stands has its disk
pub taken_out : {D : Type 0} (state : D → DiskState) (slots : List Slot) (old new : Depot D) (members : MemberMap D) (why : Unopened) → MayHaveTaken state slots old members new why
    → (s : Slot) (m : Member D) → get members s ≡ Some m → new.held (disk_slot_of s) ≡ Out
taken_out state slots old new members why may s m there =
    elim (may.each s) as (λ _. new.held (disk_slot_of s) ≡ Out) [
      | inl untouched ↦ absurd (clash (get members s) m untouched.no_member there)
      | inr rest ↦ elim rest as (λ _. new.held (disk_slot_of s) ≡ Out) [
        | inl lent ↦ lent.1.held
        | inr back ↦ absurd (clash (get members s) m back.no_member there)
      ]
    ]

later_cause : {D : Type 0} (slots : List Slot) (old mid new : Depot D) (why : Unopened) → MayNotOpen slots old mid why → mid.faults ≤ new.faults → MayNotOpen slots old new why
later_cause slots old mid new (unopened.Disk slot) cause later = (cause.0, rose_to old.faults mid.faults new.faults cause.1 later)
later_cause slots old mid new unopened.Memory cause later = tt

-- what was taken is back
pub all_returned : {D : Type 0} (state : D → DiskState) (slots : List Slot) (old mid new : Depot D) (members left : MemberMap D) (why : Unopened) → MayHaveTaken state slots old members mid why
    → HasGivenBack state slots mid members new left → IsUnopened state slots old new why
all_returned {D = D} state slots old mid new members left why may given = record {
  returned = record {
    each = λ s. elim (may.each s) as (λ _. Left s) [
      | inl untouched ↦ of_untouched s untouched (given.each s)
      | inr rest ↦ elim rest as (λ _. Left s) [
        | inl lent ↦ of_lent s lent.0 lent.1 (given.each s)
        | inr back ↦ of_back s back (given.each s)
      ]
    ];
    later = omega (arith, may.later, given.later);
  };
  cause = later_cause slots old mid new why may.cause given.later;
}
  where
    Left : Slot → Type 0
    Left s = IsUntouched old empty new s ⊎ IsGivenBack state old empty new s

    of_untouched : (s : Slot) → IsUntouched old members mid s → (IsKept mid members new left s ⊎ IsBack state members new left s) → Left s
    of_untouched s untouched (inl kept) = inl (record { no_member = get-empty slot_cmp s; held = kept.held ∙ untouched.held; counted = kept.counted ∙ untouched.counted })
    of_untouched s untouched (inr back) = absurd (clash (get members s) back.member untouched.no_member back.was)

    of_lent : (s : Slot) → IsIn slots s → IsLent state old members mid s → (IsKept mid members new left s ⊎ IsBack state members new left s) → Left s
    of_lent s i lent (inl kept) = absurd (clash (get left s) lent.member (given.gone s i) (kept.member ∙ lent.stands))
    of_lent s i lent (inr back) =
        let same : back.member ≡ lent.member = same_some (get members s) back.member lent.member back.was lent.stands in
        inr (record {
          member = lent.member;
          no_member = get-empty slot_cmp s;
          opened = lent.opened;
          held = back.held ∙ ap (λ m. Here (m.machine.disk)) same;
          counted = back.counted ∙ ap (λ m. (state m.machine.disk).faults) same;
        })

    of_back : (s : Slot) → IsGivenBack state old members mid s → (IsKept mid members new left s ⊎ IsBack state members new left s) → Left s
    of_back s before (inl kept) = inr (record {
      member = before.member;
      no_member = get-empty slot_cmp s;
      opened = before.opened;
      held = kept.held ∙ before.held;
      counted = kept.counted ∙ before.counted;
    })
    of_back s before (inr back) = absurd (clash (get members s) back.member before.no_member back.was)

-- where none of the replicas whose disks were taken began, the disks are back as they were
pub all_as_they_were : {D : Type 0} (state : D → DiskState) (slots : List Slot) (old mid new : Depot D) (members left : MemberMap D) → HasTaken state slots old members mid → HasGivenBack state slots mid members new left → AreAsTheyWere state old new
all_as_they_were {D = D} state slots old mid new members left had given = record { each = λ s. at s (in_or_out slots s) (given.each s); later = omega (arith, had.later, given.later) }
  where
    at : (s : Slot) → (IsIn slots s ⊎ ¬ IsIn slots s) → (IsKept mid members new left s ⊎ IsBack state members new left s) → IsLeftAt state old new s
    at s (inl i) (inl kept) = absurd (clash (get left s) (first_member (had.taken s i).disk) (given.gone s i) (kept.member ∙ (had.taken s i).stands))
    at s (inl i) (inr back) =
        let was = had.taken s i in
        let same : back.member ≡ first_member was.disk = same_some (get members s) back.member (first_member was.disk) back.was was.stands in
        inr (record {
          disk = was.disk;
          given = was.given;
          held = back.held ∙ ap (λ m. Here (m.machine.disk)) same;
          counted = back.counted ∙ ap (λ m. (state m.machine.disk).faults) same ∙ was.disk_faults;
        })
    at s (inr out) (inl kept) = inl (record { held = kept.held ∙ (had.others s out).held; counted = kept.counted ∙ (had.others s out).counted })
    at s (inr out) (inr back) = absurd (clash (get members s) back.member (had.others s out).no_member back.was)

-- ---- at the end

-- no replica is left, so no disk is out, but the meta disk may be
pub none_out : {D : Type 0} (state : D → DiskState) (slots : List Slot) (old new : Depot D) (members left : MemberMap D) → AreOut slots members old.held → HasGivenBack state slots old members new left
    → (disk_slot : DiskSlot) → IsForReplicas disk_slot → new.held disk_slot ≢ Out
none_out {D = D} state slots old new members left own given disk_slot low out = by_slot (given.each at)
  where
    at : Slot
    at = slot_at disk_slot.node disk_slot.shard

    nowhere : (m : Member D) → get members at ≡ Some m → get left at ≡ get members at → ⊥
    nowhere m there same = clash (get members at) m (own.only at (λ i. clash (get left at) m (given.gone at i) (same ∙ there))) there

    kept_in : (o : Option (Member D)) → get members at ≡ o → IsKept old members new left at → ⊥
    kept_in None e kept = own.there at low e (sym kept.held ∙ out)
    kept_in (Some m) e kept = nowhere m e kept.member

    by_slot : (IsKept old members new left at ⊎ IsBack state members new left at) → ⊥
    by_slot (inl kept) = kept_in (get members at) refl kept
    by_slot (inr back) = let bad : Here back.member.machine.disk ≡ Out = sym back.held ∙ out in cc

-- the count in each slot is its disk's
pub counts_given : {D : Type 0} (state : D → DiskState) (slots : List Slot) (old new : Depot D) (members left : MemberMap D) → AreOut slots members old.held → HasGivenBack state slots old members new left
    → (s : Slot) → new.counted (disk_slot_of s) ≡ count_at state old (get members s) s
counts_given {D = D} state slots old new members left own given s = by_slot (given.each s)
  where
    kept_in : (o : Option (Member D)) → get members s ≡ o → IsKept old members new left s → new.counted (disk_slot_of s) ≡ count_at state old (get members s) s
    kept_in None e kept = kept.counted ∙ ap (λ o. count_at state old o s) (sym e)
    kept_in (Some m) e kept = absurd (clash (get members s) m (own.only s (λ i. clash (get left s) m (given.gone s i) (kept.member ∙ e))) e)

    by_slot : (IsKept old members new left s ⊎ IsBack state members new left s) → new.counted (disk_slot_of s) ≡ count_at state old (get members s) s
    by_slot (inl kept) = kept_in (get members s) refl kept
    by_slot (inr back) = back.counted ∙ ap (λ o. count_at state old o s) (sym back.was)

-- ---- as a loop goes over the slots

-- the disk of the next slot's replica was given back
pub given_by : {D : Type 0} (state : D → DiskState) (slots : List Slot) (i : ℕ) (d : Slot) (disk_slot : DiskSlot) (disk : D) (m : Member D) (old now new : Depot D) (members left after : MemberMap D) → i < length slots
    → HasGivenBack state (take i slots) old members now left → Some m ≡ get left (get_or slots i d) → after ≡ remove left (get_or slots i d) → disk_slot ≡ disk_slot_of (get_or slots i d) → disk ≡ m.machine.disk → new.held disk_slot ≡ Here disk
    → OthersStay disk_slot now.held new.held → new.counted disk_slot ≡ (state disk).faults → OthersStay disk_slot now.counted new.counted → now.faults ≤ new.faults → RoseBy ((state disk).faults - now.counted disk_slot) now.faults new.faults
    → HasGivenBack state (take (i + 1) slots) old members new after
given_by {D} state slots i d disk_slot disk m old now new members left after low had there is at own here others counted counted_others later more =
    let s = get_or slots i d in
    subst (λ done. HasGivenBack state done old members new after) (sym (take_at slots i d low))
    (given_more state (take i slots) s m old now new members left after had (sym there) is (subst (λ p. new.held p ≡ Here disk) at here ∙ ap Here own) (subst (λ p. OthersStay p now.held new.held) at others)
    (subst (λ p. new.counted p ≡ (state disk).faults) at counted ∙ ap (λ x. (state x).faults) own) (subst (λ p. OthersStay p now.counted new.counted) at counted_others) later
    (subst (λ x. RoseBy ((state x).faults - now.counted (disk_slot_of s)) now.faults new.faults) own (subst (λ p. RoseBy ((state disk).faults - now.counted p) now.faults new.faults) at more)))

-- it has none
pub given_none_at : {D : Type 0} (state : D → DiskState) (slots : List Slot) (i : ℕ) (d : Slot) (old now : Depot D) (members left after : MemberMap D) → i < length slots → HasGivenBack state (take i slots) old members now left
    → None ≡ get left (get_or slots i d) → after ≡ remove left (get_or slots i d) → HasGivenBack state (take (i + 1) slots) old members now after
given_none_at state slots i d old now members left after low had none is =
    subst (λ done. HasGivenBack state done old members now after) (sym (take_at slots i d low)) (given_not state (take i slots) (get_or slots i d) old now members left after had (sym none) is)

-- nothing was taken
pub returned_none : {D : Type 0} (state : D → DiskState) (depot : Depot D) → HasReturned state depot empty depot
returned_none state depot = record { each = λ s. inl (record { no_member = get-empty slot_cmp s; held = refl; counted = refl }); later = omega arith }
