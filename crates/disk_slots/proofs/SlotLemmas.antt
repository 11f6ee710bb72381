-- The positions of slots: no two slots have one, and a change of one changes no other.
use Rattle.std.proofs.Common.{◌≡◌, ◌≢◌, ⊎_elim, ℕ, zero, suc, ◌+◌, ◌*◌, ◌<◌, List, [], ◌∷◌, ◌++◌, length, Bool, true, false, ◌&&◌, cond, nat_eq, nat_lt, slice_set, get_or, refl, sym, ap, ◌∙◌, Some, None, Option, arith}
use Rattle.std.specs.Prelude.{slice_get}
use Rattle.std.proofs.lemmas.Bool.{and_parts, ltb-true, eqb-true, cases_eq}
use Rattle.m3_model.specs.declared.limits.TheConstants.{MOST_NODES, MOST_SHARDS}
use Rattle.m3_outside.specs.DiskState.{DiskState}
use Rattle.m3_outside.specs.declared.slot.DiskSlot.{DiskSlot}
use Rattle.disk_slots.specs.declared.slot_state.SlotState.{SlotState}
use Rattle.disk_slots.specs.SlotStates.{meta_position, position_of, at_position, held_in, counted_in, held_at, counted_at, disk_in, AreEmpty}
use Rattle.m3_outside.specs.Slots.{Unused}
use Rattle.disk_slots.specs.declared.slot_state.SlotState.TheVariants.{Empty, Full, Lent}

data IsPositionOf (s : DiskSlot) (i : ℕ) : Type 0 where
  OfShard : s.node < MOST_NODES → s.shard < MOST_SHARDS → i ≡ s.node * MOST_SHARDS + s.shard → IsPositionOf s i
  OfMeta : s.node ≡ 255 → s.shard ≡ 4294967295 → i ≡ meta_position → IsPositionOf s i

is_position : (s : DiskSlot) (i : ℕ) → position_of s ≡ Some i → IsPositionOf s i
is_position s i e = shard (nat_lt s.node MOST_NODES && nat_lt s.shard MOST_SHARDS) refl e
  where
    meta : (b : Bool) → (nat_eq s.node 255 && nat_eq s.shard 4294967295) ≡ b → cond b (Some meta_position) None ≡ Some i → IsPositionOf s i
    meta true is e = let parts = and_parts _ _ is in OfMeta (eqb-true _ _ parts.0) (eqb-true _ _ parts.1) (sym (let k : meta_position ≡ i = cc in k))
    meta false is e = absurd (cc)

    shard : (b : Bool) → (nat_lt s.node MOST_NODES && nat_lt s.shard MOST_SHARDS) ≡ b → cond b (Some (s.node * MOST_SHARDS + s.shard)) (cond (nat_eq s.node 255 && nat_eq s.shard 4294967295) (Some meta_position) None) ≡ Some i → IsPositionOf s i
    shard true is e = let parts = and_parts _ _ is in OfShard (ltb-true _ _ parts.0) (ltb-true _ _ parts.1) (sym (let k : s.node * MOST_SHARDS + s.shard ≡ i = cc in k))
    shard false is e = meta (nat_eq s.node 255 && nat_eq s.shard 4294967295) refl e

same_slot : (s t : DiskSlot) → s.node ≡ t.node → s.shard ≡ t.shard → s ≡ t
same_slot s t node shard = λ i. record { node = node i; shard = shard i }

-- no two slots have one position
one_slot : (s t : DiskSlot) (i : ℕ) → IsPositionOf s i → IsPositionOf t i → s ≡ t
one_slot s t i (OfShard a b c) (OfShard d e f) = same_slot s t (omega arith) (omega arith)
one_slot s t i (OfShard a b c) (OfMeta d e f) = absurd (omega arith)
one_slot s t i (OfMeta a b c) (OfShard d e f) = absurd (omega arith)
one_slot s t i (OfMeta a b c) (OfMeta d e f) = same_slot s t (a ∙ sym d) (b ∙ sym e)

module _ {D : Type 0} where
  get_set : (ps : List (SlotState D)) (i : ℕ) (p : SlotState D) → i < length ps → slice_get (slice_set ps i p) i ≡ Some p
  get_set [] i p below = absurd (omega arith)
  get_set (x ∷ ps) zero p below = refl
  get_set (x ∷ ps) (suc i) p below = get_set ps i p (omega arith)

  get_other : (ps : List (SlotState D)) (i j : ℕ) (p : SlotState D) → j ≢ i → slice_get (slice_set ps i p) j ≡ slice_get ps j
  get_other [] i j p apart = refl
  get_other (x ∷ ps) zero zero p apart = absurd (apart refl)
  get_other (x ∷ ps) zero (suc j) p apart = refl
  get_other (x ∷ ps) (suc i) zero p apart = refl
  get_other (x ∷ ps) (suc i) (suc j) p apart = get_other ps i j p (λ same. apart (ap suc same))

  pub set_here : (ps : List (SlotState D)) (s : DiskSlot) (i : ℕ) (p : SlotState D) → position_of s ≡ Some i → i < length ps → at_position (slice_set ps i p) (position_of s) ≡ Some p
  set_here ps s i p is below = ap (at_position (slice_set ps i p)) is ∙ get_set ps i p below

  pub set_other : (ps : List (SlotState D)) (s slot : DiskSlot) (i : ℕ) (p : SlotState D) → position_of slot ≡ Some i → (s ≡ slot → ⊥) → at_position (slice_set ps i p) (position_of s) ≡ at_position ps (position_of s)
  set_other ps s slot i p is apart = from (position_of s) refl
    where
      from : (o : Option ℕ) → position_of s ≡ o → at_position (slice_set ps i p) o ≡ at_position ps o
      from None e = refl
      from (Some j) e = let ne : j ≢ i = λ (same : j ≡ i). apart (one_slot s slot i (is_position s i (e ∙ ap Some same)) (is_position slot i is)) in get_other ps i j p ne

  pub empty_push : (ps : List (SlotState D)) (p : SlotState D) → AreEmpty ps → p ≡ Empty → AreEmpty (ps ++ p ∷ [])
  empty_push [] p all is = (is, tt)
  empty_push (x ∷ ps) p all is = (all.0, empty_push ps p all.1 is)

  pub held_here : (ps : List (SlotState D)) (s : DiskSlot) (i : ℕ) (p : SlotState D) → position_of s ≡ Some i → i < length ps → held_at (slice_set ps i p) s ≡ held_in (Some p)
  held_here ps s i p is below = ap held_in (set_here ps s i p is below)

  pub held_other : (ps : List (SlotState D)) (slot : DiskSlot) (i : ℕ) (p : SlotState D) → position_of slot ≡ Some i → (s : DiskSlot) → (s ≡ slot → ⊥) → held_at (slice_set ps i p) s ≡ held_at ps s
  held_other ps slot i p is s apart = ap held_in (set_other ps s slot i p is apart)

  pub counted_here : (state : D → DiskState) (ps : List (SlotState D)) (s : DiskSlot) (i : ℕ) (p : SlotState D) → position_of s ≡ Some i → i < length ps → counted_at state (slice_set ps i p) s ≡ counted_in state (Some p)
  counted_here state ps s i p is below = ap (counted_in state) (set_here ps s i p is below)

  pub counted_other : (state : D → DiskState) (ps : List (SlotState D)) (slot : DiskSlot) (i : ℕ) (p : SlotState D) → position_of slot ≡ Some i → (s : DiskSlot) → (s ≡ slot → ⊥) → counted_at state (slice_set ps i p) s ≡ counted_at state ps s
  counted_other state ps slot i p is s apart = ap (counted_in state) (set_other ps s slot i p is apart)

  get_some : (ps : List (SlotState D)) (i : ℕ) (x : SlotState D) → i < length ps → x ≡ get_or ps i x → slice_get ps i ≡ Some x
  get_some [] i x below is = absurd (omega arith)
  get_some (p ∷ ps) zero x below is = ap Some (sym is)
  get_some (p ∷ ps) (suc i) x below is = get_some ps i x (omega arith) is

  -- what lies in a slot lies at its position
  pub held_position : (ps : List (SlotState D)) (s : DiskSlot) (i : ℕ) (x : SlotState D) → position_of s ≡ Some i → i < length ps → x ≡ get_or ps i x → held_at ps s ≡ held_in (Some x)
  held_position ps s i x is below at = ap (λ o. held_in (at_position ps o)) is ∙ ap held_in (get_some ps i x below at)

  pub counted_position : (state : D → DiskState) (ps : List (SlotState D)) (s : DiskSlot) (i : ℕ) (x : SlotState D) → position_of s ≡ Some i → i < length ps → x ≡ get_or ps i x → counted_at state ps s ≡ counted_in state (Some x)
  counted_position state ps s i x is below at = ap (λ o. counted_in state (at_position ps o)) is ∙ ap (counted_in state) (get_some ps i x below at)

  -- where one position changed and counts as before, all slots do
  pub counted_same : (state : D → DiskState) (ps : List (SlotState D)) (slot : DiskSlot) (i : ℕ) (x p : SlotState D) → position_of slot ≡ Some i → i < length ps → x ≡ get_or ps i x → counted_in state (Some p) ≡ counted_in state (Some x) → (s : DiskSlot) → counted_at state (slice_set ps i p) s ≡ counted_at state ps s
  counted_same state ps slot i x p is below at same s = from (position_of s)
    where
      from : (o : Option ℕ) → counted_in state (at_position (slice_set ps i p) o) ≡ counted_in state (at_position ps o)
      from None = refl
      from (Some j) = ⊎_elim
          (λ (e : j ≡ i). ap (λ k. counted_in state (slice_get (slice_set ps i p) k)) e ∙ ap (counted_in state) (get_set ps i p below) ∙ same ∙ sym (ap (counted_in state) (get_some ps i x below at)) ∙ ap (λ k. counted_in state (slice_get ps k)) (sym e))
          (λ (ne : j ≢ i). ap (counted_in state) (get_other ps i j p ne))
          (cases_eq j i)

  empty_held : (ps : List (SlotState D)) (i : ℕ) → AreEmpty ps → held_in (slice_get ps i) ≡ Unused
  empty_held [] i all = refl
  empty_held (p ∷ ps) zero all = ap (λ x. held_in (Some x)) all.0
  empty_held (p ∷ ps) (suc i) all = empty_held ps i all.1

  pub all_unused : (ps : List (SlotState D)) → AreEmpty ps → (s : DiskSlot) → held_at ps s ≡ Unused
  all_unused ps all s = from (position_of s)
    where
      from : (o : Option ℕ) → held_in (at_position ps o) ≡ Unused
      from None = refl
      from (Some i) = empty_held ps i all

  -- where no disk was ever taken, no fault is counted
  pub unused_counts_none : (state : D → DiskState) (x : Option (SlotState D)) → held_in x ≡ Unused → counted_in state x ≡ 0
  unused_counts_none state None is = refl
  unused_counts_none state (Some Empty) is = refl
  unused_counts_none state (Some (Full disk)) is = absurd (cc)
  unused_counts_none state (Some (Lent faults)) is = absurd (cc)

  pub unused_at : (state : D → DiskState) (ps : List (SlotState D)) (s : DiskSlot) → held_at ps s ≡ Unused → counted_at state ps s ≡ 0
  unused_at state ps s is = unused_counts_none state (at_position ps (position_of s)) is

  full_counts : (state : D → DiskState) (x : SlotState D) (lent : Option D) (disk : D) → lent ≡ disk_in (held_in (Some x)) → lent ≡ Some disk → (state disk).faults ≡ counted_in state (Some x)
  full_counts state Empty lent disk from is = absurd (cc)
  full_counts state (Full there) lent disk from is = let same : Some disk ≡ Some there = sym is ∙ from in let e : disk ≡ there = cc in ap (λ d. (state d).faults) e
  full_counts state (Lent faults) lent disk from is = absurd (cc)

  -- the faults of the disk that lies in a slot are counted
  pub lent_counts : (state : D → DiskState) (ps : List (SlotState D)) (s : DiskSlot) (i : ℕ) (x : SlotState D) (lent : Option D) (disk : D) → position_of s ≡ Some i → i < length ps → x ≡ get_or ps i x → lent ≡ disk_in (held_in (Some x))
      → lent ≡ Some disk → (state disk).faults ≡ counted_at state ps s
  lent_counts state ps s i x lent disk is below at from given = full_counts state x lent disk from given ∙ sym (counted_position state ps s i x is below at)
