-- Replicas that begin for the first time, one after the other.
use Rattle.std.proofs.Common.{◌≡◌, ◌≢◌, ◌<◌, ◌+◌, ◌*◌, ℕ, suc, List, [], ◌∷◌, ◌++◌, append_assoc, length, take, drop, get_or, Bool, true, false, cond, refl, sym, ap, ap₂, subst, ◌∙◌, inl, inr, arith}
use Rattle.std.specs.Prelude.{◌⊎◌, ◌&&◌, if◌then◌else◌, nat_eq, ⊤, Option, Some, None, Result, Ok, Err, OnOk, OnErr}
use Rattle.std.specs.FinMap.{get}
use Rattle.std.specs.List.{cons_option}
use Rattle.std.specs.Ordering.{eq_by_cmp}
use Rattle.std.proofs.lemmas.List.{map-append}
use Rattle.std.proofs.lemmas.Bool.{and_from, and_parts, eq-eqb, eqb-true}
use Rattle.std.proofs.lemmas.List.Elements.{filter_map-append}
use Rattle.m3_model.specs.Members.{IsIn}
use Rattle.m3_model.proofs.MemberLemmas.{IsIn-append_cases, map-IsIn}
use Rattle.m3_model.specs.declared.reason.Reason.TheVariants as reason
use Rattle.m3_outside.specs.DiskState.{DiskState}
use Rattle.cluster_members.specs.cluster_core.Earlier.{HasTenure}
use Rattle.cluster_members.specs.cluster_core.declared.event.Event.{Event}
use Rattle.cluster_members.specs.cluster_core.declared.event.StepCall.TheVariants as call
use Rattle.cluster_members.specs.cluster_core.declared.event.StepReply.{StepReply}
use Rattle.cluster_members.specs.cluster_core.declared.event.StepReply.TheVariants as reply
use Rattle.cluster_members.specs.replica_machine.declared.machine.Began.{Began}
use Rattle.cluster_members.specs.replica_exchange.MachineCalls.{AddsBoth, HasRoom, result_of}
use Rattle.cluster_members.specs.replica_exchange.Promises.{Begins}
use Rattle.cluster_members.specs.replica_exchange.declared.call_err.CallErr.{CallErr}
use Rattle.cluster_members.specs.replica_exchange.declared.call_err.CallErr.TheVariants as call_err
use Rattle.cluster_members.specs.replica_exchange.declared.member.Member.{Member}
use Rattle.cluster_members.specs.replica_exchange.declared.slot.Slot.{Slot}
use Rattle.cluster_members.specs.replica_calls.Calls.{Tracked, MayCall, WasCalled, IsMissed}
use Rattle.cluster_members.specs.replica_calls.Slots.{slot_cmp}
use Rattle.cluster_members.proofs.replica_calls_proofs.SlotLemmas.{get-insert_here}
use Rattle.cluster_members.specs.session_net.Runs.{IsStepped, Ran, Step, step_in, steps_of}
use Rattle.cluster_members.proofs.session_net_proofs.ReadyLemmas.{any_after, room_after, there_after}
use Rattle.cluster_members.proofs.session_net_proofs.RunLemmas.{ran_called, ran_nothing, ran_then}
use Rattle.first_cluster.specs.Begins.{Said, begin_of, begin_reply, begins_of, IsBegunAt, WantedMemory, WasBegun, HaveBegun, HaveSomeBegun}
use Rattle.first_cluster.specs.Lending.{first_begin, first_tenure}
use Rattle.first_cluster.specs.Slots.{AreApart, slots_in}
use Rattle.first_cluster.specs.declared.start.Start.{Start}
use Rattle.first_cluster.proofs.ListLemmas.{not_before, parted, take_at, take_short}
use Rattle.first_cluster.proofs.SlotLists.{other_slot, own_slot, slot_or_other}

-- ---- one begin

module _ {D : Type 0} (state : D → DiskState) (start : Start) (answer : Result ⊤ CallErr) (old new : Tracked D) where
  abbrev Called : Type 0
  Called = WasCalled state start.slot (call.Begin start.tenure) (λ (began : Began). reply.Began began.fence began.points) (Begins state start.tenure) (AddsBoth start.slot) (λ (b : Began). tt {0}) answer old new

  not_missed : get old.members start.slot ≢ None → HasRoom 2 old.events → (o : Option (Member D)) → get old.members start.slot ≡ o → IsMissed 2 o old.events answer → ⊥
  not_missed there room None is h = absurd (there is)
  not_missed there room (Some m) is h = absurd (h.0 room)

  pub was_called : get old.members start.slot ≢ None → HasRoom 2 old.events → MayCall state start.slot (call.Begin start.tenure) (λ (began : Began). reply.Began began.fence began.points) (Begins state start.tenure) (λ (b : Began). tt {0}) answer old new → Called
  was_called there room (inl missed) = absurd (not_missed there room (get old.members start.slot) refl missed.missed)
  was_called there room (inr called) = called

  wanted_by : (said : Said) → result_of (λ (b : Began). tt {0}) said ≡ Err (call_err.Refused reason.Memory) → WantedMemory said
  wanted_by (Ok began) e = cc
  wanted_by (Err why) e = let same : why ≡ reason.Memory = cc in ap Err same

  begun_so : (Fits : Said → Type 0) (called : Called) → Fits called.answered.said → WasBegun state start Fits old new
  begun_so Fits called fits = record {
    said = called.answered.said;
    ran = ran_called state start.slot (call.Begin start.tenure) (λ (began : Began). reply.Began began.fence began.points) (Begins state start.tenure) (λ (b : Began). tt {0}) answer old new called;
    begun = record {
      before = called.before;
      was = called.there;
      after = called.after;
      stands = ap (λ m. get m start.slot) called.members ∙ get-insert_here old.members start.slot called.after;
      promised = called.answered.promised;
    };
    fits = fits;
  }

  pub begun_ok : {E : Type 0} (result : Result ⊤ E) → OnOk result (¬ (answer ≡ Err (call_err.Refused reason.Memory))) → Called → OnOk result (WasBegun state start (λ said. ¬ WantedMemory said) old new)
  begun_ok (Ok u) went called = begun_so (λ said. ¬ WantedMemory said) called (λ memory. went (called.answered.told ∙ ap (result_of (λ (b : Began). tt {0})) memory))
  begun_ok (Err e) went called = tt

  pub begun_err : {E : Type 0} (result : Result ⊤ E) → OnErr result (answer ≡ Err (call_err.Refused reason.Memory)) → Called → OnErr result (WasBegun state start WantedMemory old new)
  begun_err (Ok u) wanted called = tt
  begun_err (Err e) wanted called = begun_so WantedMemory called (wanted_by called.answered.said (sym called.answered.told ∙ wanted))

-- ---- which slot said what

-- one more slot said this
abbrev pub said_with : (Slot → Said) → Slot → Said → Slot → Said
said_with said slot now s = cond (eq_by_cmp slot_cmp s slot) now (said s)

with_here : (said : Slot → Said) (slot : Slot) (now : Said) → said_with said slot now slot ≡ now
with_here said slot now = ap (λ b. cond b now (said slot)) (own_slot slot slot refl)

with_other : (said : Slot → Said) (slot : Slot) (now : Said) (s : Slot) → ¬ (s ≡ slot) → said_with said slot now s ≡ said s
with_other said slot now s apart = ap (λ b. cond b now (said s)) (other_slot s slot apart (eq_by_cmp slot_cmp s slot) refl)

-- begins of which the slots said the same
begins_same : (said more : Slot → Said) (starts : List Start) → ((start : Start) → IsIn starts start → more start.slot ≡ said start.slot) → begins_of more starts ≡ begins_of said starts
begins_same said more [] same = refl
begins_same said more (start ∷ starts) same = ap₂ (λ (x : Said) (rest : List Event). begin_of start x ++ rest) (same start (inl refl)) (begins_same said more starts (λ s i. same s (inr i)))

pub begins_push : (said : Slot → Said) (starts : List Start) (start : Start) → begins_of said (starts ++ start ∷ []) ≡ begins_of said starts ++ begin_of start (said start.slot)
begins_push said [] start = refl
begins_push said (x ∷ starts) start = ap (λ es. begin_of x (said x.slot) ++ es) (begins_push said starts start) ∙ sym (append_assoc (begin_of x (said x.slot)) (begins_of said starts) (begin_of start (said start.slot)))

-- so many events
pub begins_long : (said : Slot → Said) (starts : List Start) → length (begins_of said starts) ≡ 2 * length starts
begins_long said [] = refl
begins_long said (start ∷ starts) = let rest = begins_long said starts in omega (arith, rest)

-- ---- steps among begins

-- another slot has no step in a begin
none_of : (start : Start) (now : Said) (s : Slot) → ¬ (s ≡ start.slot) → steps_of s (begin_of start now) ≡ []
none_of start now s apart = by (nat_eq start.slot.node s.node && nat_eq start.slot.shard s.shard) refl
  where
    by : (t : Bool) → (nat_eq start.slot.node s.node && nat_eq start.slot.shard s.shard) ≡ t → cons_option {X = Step} (if t then Some (record { call = call.Begin start.tenure; reply = begin_reply now }) else None) [] ≡ []
    by true is =
        let parts = and_parts (nat_eq start.slot.node s.node) (nat_eq start.slot.shard s.shard) is in
        absurd (apart (λ k. record { shard = sym (eqb-true start.slot.shard s.shard parts.1) k; node = sym (eqb-true start.slot.node s.node parts.0) k }))
    by false is = refl

-- and its own slot has it
one_of : (start : Start) (now : Said) (s : Slot) → start.slot ≡ s → steps_of s (begin_of start now) ≡ record { call = call.Begin start.tenure; reply = begin_reply now } ∷ []
one_of start now s same =
    let yes : (nat_eq start.slot.node s.node && nat_eq start.slot.shard s.shard) ≡ true =
    and_from (nat_eq start.slot.node s.node) (nat_eq start.slot.shard s.shard) (eq-eqb start.slot.node s.node (ap (λ (q : Slot). q.node) same)) (eq-eqb start.slot.shard s.shard (ap (λ (q : Slot). q.shard) same)) in
    ap (λ t. cons_option {X = Step} (if t then Some (record { call = call.Begin start.tenure; reply = begin_reply now }) else None) []) yes

steps_both : (said : Slot → Said) (start : Start) (starts : List Start) (s : Slot) → steps_of s (begins_of said (start ∷ starts)) ≡ steps_of s (begin_of start (said start.slot)) ++ steps_of s (begins_of said starts)
steps_both said start starts s = filter_map-append (step_in s) (begin_of start (said start.slot)) (begins_of said starts)

-- a slot that isn't begun has no step
pub none_before : (said : Slot → Said) (starts : List Start) (s : Slot) → ¬ IsIn (slots_in starts) s → steps_of s (begins_of said starts) ≡ []
none_before said [] s out = refl
none_before said (start ∷ starts) s out =
    steps_both said start starts s ∙ ap₂ (λ (xs ys : List Step). xs ++ ys) (none_of start (said start.slot) s (λ same. out (inl (sym same)))) (none_before said starts s (λ i. out (inr i)))

-- a slot that is begun once has one step, with the first tenure, and one that isn't has none
pub steps_once : (said : Slot → Said) (starts : List Start) → AreApart (slots_in starts) → ((start : Start) → IsIn starts start → start.tenure ≡ first_tenure) → (s : Slot)
    → (steps_of s (begins_of said starts) ≡ []) ⊎ ((answer : StepReply) × (steps_of s (begins_of said starts) ≡ first_begin answer ∷ []))
steps_once said [] apart first s = inl refl
steps_once said (start ∷ starts) apart first s =
    elim (slot_or_other start.slot s) as (λ _. (steps_of s (begins_of said (start ∷ starts)) ≡ []) ⊎ ((answer : StepReply) × (steps_of s (begins_of said (start ∷ starts)) ≡ first_begin answer ∷ []))) [
      | inl same ↦ inr (
        begin_reply (said start.slot),
        steps_both said start starts s
            ∙ ap₂ (λ (xs ys : List Step). xs ++ ys) (one_of start (said start.slot) s same ∙ ap (λ (t : ℕ). record { call = call.Begin t; reply = begin_reply (said start.slot) } ∷ []) (first start (inl refl)))
            (none_before said starts s (λ i. apart.0 s i same)),
      )
      | inr other ↦
          let here : steps_of s (begins_of said (start ∷ starts)) ≡ steps_of s (begins_of said starts) = steps_both said start starts s ∙ ap (λ (xs : List Step). xs ++ steps_of s (begins_of said starts)) (none_of start (said start.slot) s (λ e. other (sym e))) in
          elim (steps_once said starts apart.1 (λ x i. first x (inr i)) s) as (λ _. (steps_of s (begins_of said (start ∷ starts)) ≡ []) ⊎ ((answer : StepReply) × (steps_of s (begins_of said (start ∷ starts)) ≡ first_begin answer ∷ []))) [
            | inl none ↦ inl (here ∙ none)
            | inr one ↦ inr (one.0, here ∙ one.1)
          ]
    ]

pub same_member : {D : Type 0} (state : D → DiskState) (o p : Option (Member D)) → IsStepped state [] o p → p ≡ o
same_member state None p h = h
same_member state (Some m) p h = h.1 ∙ ap Some (λ k. record { machine = h.3 k; first = h.2 k })

-- ---- one more

-- of the next start nothing was done
module _ (done later : List Start) (start : Start) (apart : AreApart (slots_in (done ++ start ∷ later))) where
  away : ¬ IsIn (slots_in done) start.slot
  away i = not_before (λ a b. a ≢ b) (slots_in done) (slots_in later) start.slot (subst AreApart (map-append (λ (s : Start). s.slot) done (start ∷ later)) apart) i refl

  other_one : (s : Start) → IsIn done s → ¬ (s.slot ≡ start.slot)
  other_one s i same = away (subst (IsIn (slots_in done)) same (map-IsIn (λ (s : Start). s.slot) done s i))

  -- the events of the begins, with one more
  pub more_begins : (said : Slot → Said) (now : Said) → begins_of (said_with said start.slot now) (done ++ start ∷ []) ≡ begins_of said done ++ begin_of start now
  more_begins said now =
      begins_push (said_with said start.slot now) done start
      ∙ ap₂ (λ (es : List Event) (x : Said). es ++ begin_of start x) (begins_same said (said_with said start.slot now) done (λ s i. with_other said start.slot now s.slot (other_one s i))) (with_here said start.slot now)

  module _ {D : Type 0} (state : D → DiskState) (old mid new : Tracked D) where
    pub ran_more : (said : Slot → Said) (now : Said) → Ran state old (begins_of said done) mid → Ran state mid (begin_of start now) new → Ran state old (begins_of (said_with said start.slot now) (done ++ start ∷ [])) new
    ran_more said now had here = subst (λ es. Ran state old es new) (sym (more_begins said now)) (ran_then state (begins_of said done) (begin_of start now) old mid new had here)

    -- another slot's replica stays
    other_stays : (now : Said) → Ran state mid (begin_of start now) new → (s : Slot) → ¬ (s ≡ start.slot) → get new.members s ≡ get mid.members s
    other_stays now ran s apart = same_member state (get mid.members s) (get new.members s) (subst (λ steps. IsStepped state steps (get mid.members s) (get new.members s)) (none_of start now s apart) (ran.stepped s))

    kept_at : (now : Said) → Ran state mid (begin_of start now) new → (s : Start) (said : Said) → IsIn done s → IsBegunAt state old.members mid.members s said → IsBegunAt state old.members new.members s said
    kept_at now ran s said i was = record {
      before = was.before;
      was = was.was;
      after = was.after;
      stands = other_stays now ran s.slot (other_one s i) ∙ was.stands;
      promised = was.promised;
    }

    -- before its own begin the slot's replica stays
    before_stays : (said : Slot → Said) → Ran state old (begins_of said done) mid → get mid.members start.slot ≡ get old.members start.slot
    before_stays said ran = same_member state (get old.members start.slot) (get mid.members start.slot) (subst (λ steps. IsStepped state steps (get old.members start.slot) (get mid.members start.slot)) (none_before said done start.slot away) (ran.stepped start.slot))

    -- the replica of one more start was begun
    pub begun_more : HaveBegun state done old mid → (now : Said) → Ran state mid (begin_of start now) new → IsBegunAt state mid.members new.members start now → ¬ WantedMemory now → HaveBegun state (done ++ start ∷ []) old new
    begun_more had now ran begun went =
        let said = said_with had.said start.slot now in
        let before : (s : Start) → IsIn done s → said s.slot ≡ had.said s.slot = λ s i. with_other had.said start.slot now s.slot (other_one s i) in
        record {
          said = said;
          ran = ran_more had.said now had.ran ran;
          each = λ s i. elim (IsIn-append_cases done (start ∷ []) s i) as (λ _. IsBegunAt state old.members new.members s (said s.slot)) [
            | inl was ↦ subst (IsBegunAt state old.members new.members s) (sym (before s was)) (kept_at now ran s (had.said s.slot) was (had.each s was))
            | inr last ↦ elim last as (λ _. IsBegunAt state old.members new.members s (said s.slot)) [
              | inl same ↦ subst (λ (x : Start). IsBegunAt state old.members new.members x (said x.slot)) same (subst (IsBegunAt state old.members new.members start) (sym (with_here had.said start.slot now)) (record {
                before = begun.before;
                was = sym (before_stays had.said had.ran) ∙ begun.was;
                after = begun.after;
                stands = begun.stands;
                promised = begun.promised;
              }))
              | inr none ↦ absurd none
            ]
          ];
          no_want = λ s i. elim (IsIn-append_cases done (start ∷ []) s i) as (λ _. ¬ WantedMemory (said s.slot)) [
            | inl was ↦ subst (λ x. ¬ WantedMemory x) (sym (before s was)) (had.no_want s was)
            | inr last ↦ elim last as (λ _. ¬ WantedMemory (said s.slot)) [
              | inl same ↦ subst (λ (x : Start). ¬ WantedMemory (said x.slot)) same (subst (λ x. ¬ WantedMemory x) (sym (with_here had.said start.slot now)) went)
              | inr none ↦ absurd none
            ]
          ];
        }

-- ---- as a loop goes over the starts

pub begun_none : {D : Type 0} (state : D → DiskState) (t : Tracked D) → HaveBegun state [] t t
begun_none state t = record { said = λ s. Err reason.Memory; ran = ran_nothing state t; each = λ s i. absurd i; no_want = λ s i. absurd i }

apart_at : (starts : List Start) (i : ℕ) (d : Start) → i < length starts → AreApart (slots_in starts) → AreApart (slots_in (take i starts ++ get_or starts i d ∷ drop (suc i) starts))
apart_at starts i d low apart = subst (λ xs. AreApart (slots_in xs)) (parted starts i d low) apart

module _ {D : Type 0} (state : D → DiskState) (starts : List Start) (i : ℕ) (d : Start) (low : i < length starts) (apart : AreApart (slots_in starts)) (old mid : Tracked D) (had : HaveBegun state (take i starts) old mid) where
  pub begun_at : (new : Tracked D) → WasBegun state (get_or starts i d) (λ said. ¬ WantedMemory said) mid new → HaveBegun state (take (i + 1) starts) old new
  begun_at new one = subst (λ xs. HaveBegun state xs old new) (sym (take_at starts i d low)) (begun_more (take i starts) (drop (suc i) starts) (get_or starts i d) (apart_at starts i d low apart) state old mid new had one.said one.ran one.begun one.fits)

  pub some_at : (new : Tracked D) → WasBegun state (get_or starts i d) WantedMemory mid new → HaveSomeBegun state starts old new
  some_at new one = record {
    many = i + 1;
    said = said_with had.said (get_or starts i d).slot one.said;
    ran = subst (λ xs. Ran state old (begins_of (said_with had.said (get_or starts i d).slot one.said) xs) new) (sym (take_at starts i d low))
        (ran_more (take i starts) (drop (suc i) starts) (get_or starts i d) (apart_at starts i d low apart) state old mid new had.said one.said had.ran one.ran);
  }

  pub tenure_at : HasTenure old.events (get_or starts i d).slot.node (get_or starts i d).slot.shard (get_or starts i d).tenure → HasTenure mid.events (get_or starts i d).slot.node (get_or starts i d).slot.shard (get_or starts i d).tenure
  tenure_at h = any_after state _ old mid (begins_of had.said (take i starts)) had.ran h

  pub there_at : get old.members (get_or starts i d).slot ≢ None → get mid.members (get_or starts i d).slot ≢ None
  there_at h = there_after state old mid (begins_of had.said (take i starts)) (get_or starts i d).slot had.ran h

  pub room_at : HasRoom (2 * length starts) old.events → HasRoom 2 mid.events
  room_at room =
      let long = begins_long had.said (take i starts) in
      let some = take_short starts i in
      room_after state old mid (begins_of had.said (take i starts)) (2 * length starts) 2 had.ran room (omega (arith, long, some, low))
