-- Lines that make a placement: what their replicas did, with what slots begin, and that they are tracked.
use Rattle.std.proofs.Common.{◌≡◌, ◌≤◌, ◌+◌, ℕ, suc, List, [], ◌∷◌, ◌++◌, length, length-append, take, refl, sym, ap, subst, ◌∙◌, inl, inr, arith, Bool, true}
use Rattle.std.specs.Prelude.{Option, Some, None, MatchOption}
use Rattle.std.specs.FinMap as finite
use Rattle.std.proofs.lemmas.Option.{same_Some}
use Rattle.m3_model.specs.Members.{IsIn}
use Rattle.m3_model.specs.declared.act.Act.{Act}
use Rattle.m3_model.specs.declared.act.Act.TheVariants as act
use Rattle.m3_model.specs.declared.answer.Answer.{Answer}
use Rattle.m3_model.specs.declared.placement.Assignment.{Assignment}
use Rattle.m3_model.specs.declared.placement.Placement.{Placement}
use Rattle.m3_model.specs.declared.rules.MetaState.{MetaState}
use Rattle.m3_model.specs.declared.turn.Turn.{Turn}
use Rattle.m3_model.proofs.Lists.{take_whole}
use Rattle.m3_outside.specs.Causes.{RoseBy}
use Rattle.m3_outside.specs.Depots.{Depot}
use Rattle.m3_outside.specs.DiskState.{DiskState, EachImage, IsEmpty}
use Rattle.m3_outside.specs.declared.disk.Disk.{Ghosts}
use Rattle.m3_outside.specs.declared.slot.DiskSlot.{DiskSlot}
use Rattle.m3_outside.specs.Slots.{Held, MayGive}
use Rattle.told_runs.specs.placement_acts.Acts.{is_step_act}
use Rattle.placement_core.proofs.ListLemmas.{IsIn-from_Any}
use Rattle.placement_core.specs.Shards.{Shard}
use Rattle.placement_core.specs.Steps.{Ends, IsShardStep, IsStep, done_at}
use Rattle.placement_plan.specs.Plans.{IsAvailable}
use Rattle.cluster_core.specs.Earlier.{last_place}
use Rattle.cluster_core.specs.Legal.{Legal}
use Rattle.cluster_core.specs.Lists.{At}
use Rattle.cluster_core.specs.Replicas.{replica}
use Rattle.cluster_core.specs.declared.event.Event.{Event}
use Rattle.cluster_core.proofs.ListLemmas.{at_in, at_some, at_within, in_at}
use Rattle.node_calls.specs.replica_exchange.declared.member.Member.{Member}
use Rattle.node_calls.specs.replica_exchange.declared.slot.Slot.{Slot}
use Rattle.node_calls.specs.replica_calls.Calls.{Tracked, first_member}
use Rattle.node_calls.specs.replica_calls.Slots.{MemberMap}
use Rattle.node_calls.specs.session_net.Runs.{IsStepped, Step, slot_at, steps_of}
use Rattle.node_calls.specs.cluster_members.declared.members.Members.{Members}
use Rattle.first_cluster.specs.Depots.{disk_slot_of}
use Rattle.first_cluster.specs.Lending.{IsLeftAt, IsNewlyTaken}
use Rattle.first_cluster.proofs.BareLemmas.{given_bare}
use Rattle.first_cluster.proofs.SlotLists.{in_or_out}
use Rattle.told_runs.specs.told_by.Makes.{IsAssigned}
use Rattle.told_runs.specs.told_by.Told.{ToldBy}
use Rattle.told_runs.specs.told_moves.Order.{IsInOrder, IsInitAct}
use Rattle.told_runs.proofs.told_moves_proofs.OwnLemmas.{begin_given}
use Rattle.told_runs.proofs.told_moves_proofs.SlotLemmas.{Tries, tried_began}
use Rattle.told_runs.proofs.told_moves_proofs.TenureLemmas.{given_by, step_had, tenure_grows}
use Rattle.told_runs.specs.Lines.{delivered_on}
use Rattle.told_runs.proofs.OrderLemmas.{in_order}
use Rattle.transcripts.specs.Record.{Record, line_of}
use Rattle.line_tracks.proofs.calls.ServeLemmas.{delivered_so}
use Rattle.line_tracks.specs.acts.Opens.{IsGivenNow, IsLow, OpensLow}
use Rattle.line_tracks.specs.acts.Stands.{ClusterStands}
use Rattle.cluster_placements.specs.Lending.{HaveReturned, IsUntakenAt}
use Rattle.cluster_placements.specs.Slots.{left_slots, new_slots}
use Rattle.cluster_placements.specs.Steps.{IsAsItWas, IsChanged, IsPlaced, MayChange, kept_in, step_events}
use Rattle.cluster_placements.proofs.PlacedLemmas.{new_free}
use Rattle.line_tracks.proofs.placements.ServeLemmas.{changes_serve}
use Rattle.line_tracks.proofs.placements.StandLemmas.{changes_stand, comes_next}
use Rattle.line_tracks.specs.tracks.Failures.{OnlyReplicasStep}
use Rattle.line_tracks.specs.tracks.Lines.{EachMember, IsLeft, StepsAreTracked}
use Rattle.line_tracks.specs.tracks.Numbers.{numbers_by}
use Rattle.line_tracks.specs.tracks.Runs.{HasRun, HaveRun, IsMadeOver}
use Rattle.line_tracks.specs.tracks.Tracks.{HasTenures, StandsSo, Tracks}
use Rattle.line_tracks.specs.tracks.Lain.{AreStillThere, HadLain, IsStillThere, lain_at}
use Rattle.line_tracks.proofs.tracks.FailureLemmas.{rose_both, stepped_from, stepped_none, steps_append}
use Rattle.line_tracks.proofs.tracks.InitLemmas.{orders_are_tracked}
use Rattle.line_tracks.proofs.tracks.NumberLemmas.{numbers_stay}
use Rattle.line_tracks.proofs.tracks.RunLemmas.{has_run_on}
use Rattle.line_tracks.proofs.tracks.LainLemmas.{given_low, still_back, still_given}
use Rattle.life_ends.proofs.LowLemmas.{stays_low}

-- ---- what its replicas did

-- over the disk that was taken for it
over_new : {D : Type 0} (state : D → DiskState) (lay : DiskSlot → Held D) (before after : Depot D) (made : MemberMap D) (s : Slot) → IsStillThere state (lay (disk_slot_of s)) (before.held (disk_slot_of s)) → (t : IsNewlyTaken state before made after s) → IsMadeOver state lay after s (first_member t.disk)
over_new state lay before after made s still t =
    record { disk = t.disk; is_first = refl; counted = t.disk_faults ∙ sym t.counted; given = still_given state (lay (disk_slot_of s)) (before.held (disk_slot_of s)) t.disk still t.given }

-- its slot shows the same count
over_kept : {D : Type 0} (state : D → DiskState) (lay : DiskSlot → Held D) (before after : Depot D) (s : Slot) (m : Member D) → after.counted (disk_slot_of s) ≡ before.counted (disk_slot_of s) → IsMadeOver state lay before s m → IsMadeOver state lay after s m
over_kept state lay before after s m same over = record { disk = over.disk; is_first = over.is_first; counted = over.counted ∙ sym same; given = over.given }

run_kept : {D : Type 0} (state : D → DiskState) (lay : DiskSlot → Held D) (before after : Depot D) (s : Slot) (steps : List Step) (m : Member D) → after.counted (disk_slot_of s) ≡ before.counted (disk_slot_of s) → HasRun state lay before s steps m → HasRun state lay after s steps m
run_kept state lay before after s steps m same r = record { made = r.made; over = over_kept state lay before after s r.made same r.over; stepped = r.stepped }

module _ {D : Type 0} {G : Ghosts D} (state : D → DiskState) (lay : DiskSlot → Held D) (old new : Members D G) (before after : Depot D) (next : Placement) (placed : IsPlaced state before old next after new) (h : HaveRun state lay before old.net.replicas) (still : AreStillThere state lay old.net.replicas.members before.held) where
  abbrev events : List Event
  events = old.net.replicas.events

  abbrev more : List Event
  more = step_events next (left_slots old.net.state.place next)

  abbrev gained_slots : List Slot
  gained_slots = new_slots old.net.replicas.members next

  each_grew : (s : Slot) → steps_of s new.net.replicas.events ≡ steps_of s events ++ steps_of s more
  each_grew s = ap (steps_of s) placed.ran.grew ∙ steps_append s events more

  each_then : (s : Slot) (m : Member D) → finite.get new.net.replicas.members s ≡ Some m → HasRun state lay after s (steps_of s new.net.replicas.events) m
  each_then s m is =
      let from = stepped_from state (steps_of s more) (finite.get placed.made s) (finite.get new.net.replicas.members s) m (placed.ran.stepped s) is in
      let on : IsStepped state (steps_of s more) (Some from.before) (Some m) = (m, refl, from.first, from.takes) in
      subst (λ steps. HasRun state lay after s steps m) (sym (each_grew s)) (elim (in_or_out gained_slots s) as (λ _. HasRun state lay after s (steps_of s events ++ steps_of s more) m) [
        | inl i ↦
            (let t = placed.gained.gained s i in
            let same : first_member t.disk ≡ from.before = same_Some (first_member t.disk) from.before (sym t.stands ∙ from.was) in
            let none = h.others s (new_free old.net.replicas.members next s i) in
            subst (λ steps. HasRun state lay after s (steps ++ steps_of s more) m) (sym none) (record { made = from.before; over = subst (IsMadeOver state lay after s) same (over_new state lay before after placed.made s (still s (new_free old.net.replicas.members next s i)) t); stepped = on }))
        | inr away ↦
            (let kept = placed.gained.others s away in
            has_run_on state lay after s (steps_of s events) (steps_of s more) from.before m (run_kept state lay before after s (steps_of s events) from.before kept.counted (h.each s from.before (sym kept.member ∙ from.was))) on)
      ])

  others_then : OnlyReplicasStep new.net.replicas new.net.replicas.events
  others_then s none =
      let gone = stepped_none state (steps_of s more) (finite.get placed.made s) (finite.get new.net.replicas.members s) (placed.ran.stepped s) none in
      let away : ¬ IsIn gained_slots s = λ i. (let t = placed.gained.gained s i in let clash : None ≡ Some (first_member t.disk) = sym gone ∙ t.stands in cc) in
      each_grew s ∙ ap (λ xs. xs ++ steps_of s more) (h.others s (sym (placed.gained.others s away).member ∙ gone)) ∙ placed.ran.only s gone

  pub run_then : HaveRun state lay after new.net.replicas
  run_then = record {
    place = h.place;
    rules = h.rules;
    later = h.later ++ more;
    opened = placed.ran.grew ∙ ap (λ es. es ++ more) h.opened;
    each = each_then;
    others = others_then;
  }

  -- ---- disks

  pub still_then : AreStillThere state lay new.net.replicas.members after.held
  still_then s none =
      let gone = stepped_none state (steps_of s more) (finite.get placed.made s) (finite.get new.net.replicas.members s) (placed.ran.stepped s) none in
      elim (in_or_out gained_slots s) as (λ _. IsStillThere state (lay (disk_slot_of s)) (after.held (disk_slot_of s))) [
        | inl i ↦ (let t = placed.gained.gained s i in let clash : None ≡ Some (first_member t.disk) = sym gone ∙ t.stands in cc)
        | inr away ↦
            (let kept = placed.gained.others s away in
            subst (IsStillThere state (lay (disk_slot_of s))) (sym kept.held) (still s (sym kept.member ∙ gone)))
      ]

  pub counted_then : (disk_slot : DiskSlot) → after.counted disk_slot ≡ before.counted disk_slot
  counted_then disk_slot =
      let s : Slot = slot_at disk_slot.node disk_slot.shard in
      elim (in_or_out gained_slots s) as (λ _. after.counted disk_slot ≡ before.counted disk_slot) [ inl i ↦ (placed.gained.gained s i).counted | inr away ↦ (placed.gained.others s away).counted ]

-- ---- tenures

-- a step keeps them, whether moves begin or end by it
tenures_by : (place next : Placement) (done : List (ℕ × ℕ)) → next.version ≡ suc place.version → length next.shards ≡ length place.shards → ((s : ℕ) (a b : Shard) → At place.shards s a → At next.shards s b → IsShardStep next.version a b (done_at s done))
    → HasTenures place → HasTenures next
tenures_by place next done version count each was shard i a among =
    let at = in_at next.shards shard i in
    let low = at_within next.shards at.0 shard at.1 in
    let old = at_some place.shards at.0 (omega (arith, low, count)) in
    elim (step_had next.version old.0 shard (done_at at.0 done) a (each at.0 old.0 shard old.1 at.1) among) as (λ _. 1 ≤ a.tenure) [
      | inl had ↦ (let least = was old.0 (at_in place.shards at.0 old.0 old.1) had.assigned had.among in let tenure = had.tenure_is in omega (arith, least, tenure))
      | inr new ↦ (let tenure = new.tenure_is in omega (arith, tenure, version))
    ]

tenures_then : (place next : Placement) → IsStep place next [] → HasTenures place → HasTenures next
tenures_then place next step = tenures_by place next [] step.version step.count step.each

-- a move that ends is a step of its shard
ends_step : (version : ℕ) (a b : Shard) (o : Option ℕ) → MatchOption o (b ≡ a) (λ to. Ends a b to) → IsShardStep version a b o
ends_step version a b None same = inl same
ends_step version a b (Some to) ends = ends

pub tenures_over : (place next : Placement) (done : List (ℕ × ℕ)) → IsAvailable place done next → HasTenures place → HasTenures next
tenures_over place next done over =
    tenures_by place next done over.follows.version over.follows.shards.count (λ s a b was is. ends_step next.version a b (done_at s done) (over.follows.shards.each s a b was is))

-- ---- with what slots begin

-- the first disk of a replica is the one that its slot gave
first_given : {D : Type 0} (state : D → DiskState) (lay : DiskSlot → Held D) (depot : Depot D) (s : Slot) (steps : List Step) (r : Member D) (h : HasRun state lay depot s steps r) → (r.first).value ≡ (h.over).disk
first_given {D} state lay depot s steps r h =
    let now : (h.stepped).0 ≡ r = same_Some (h.stepped).0 r (sym (h.stepped).1) in
    ap (λ (x : Member D). (x.first).value) (sym now) ∙ ap (λ f. f.value) (h.stepped).2 ∙ ap (λ (x : Member D). (x.first).value) (h.over).is_first

-- the files that a slot gave are low for the tenure that the placement gives it now
module _ {D : Type 0} (state : D → DiskState) (past : List Record) (turns : List Turn) (events : List Event) (lay : DiskSlot → Held D) (place : Placement) (stands : last_place events ≡ Some place) where
  assigned_now : (n s tenure : ℕ) → IsGivenNow events n s tenure → IsAssigned place n s tenure
  assigned_now n s tenure g = subst (λ (q : Placement). IsAssigned q n s tenure) (same_Some g.0 place (sym g.1 ∙ stands)) g.2

  given_least : HasTenures place → (n s tenure : ℕ) → IsGivenNow events n s tenure → 1 ≤ tenure
  given_least tenures n s tenure g =
      let has = assigned_now n s tenure g in
      let a = IsIn-from_Any (λ (x : Assignment). (x.node ≡ n) × (x.tenure ≡ tenure)) has.0 has.2 in
      let least = tenures has.0 (at_in place.shards s has.0 has.1) a.0 a.1 in
      let is = a.2.1 in
      omega (arith, least, is)

  files_low : (start : Option MetaState) → HadLain state past start lay → Legal true events → ToldBy start turns events → (start ≡ None → HasTenures place) → (n s tenure : ℕ) → IsGivenNow events n s tenure → (disk : D) → MayGive (λ d. IsEmpty (state d)) (lay (disk_slot_of (slot_at n s))) disk
      → EachImage (state disk) (IsLow start tenure)
  files_low None lain legal told tenures n s tenure g disk given told_so c image =
      let b = given_bare state (lay (disk_slot_of (slot_at n s))) disk (lain.bare (disk_slot_of (slot_at n s))) given told_so c image in
      let least = given_least (tenures refl) n s tenure g in
      let order_is = b.order in
      let fence = b.first in
      record { points = []; held_tenure = b.tenure; fence = b.fence; held = b.held; not_higher = omega (arith, least, order_is, fence); fenced = inl (omega (arith, least, fence)) }
  files_low (Some found) lain legal told tenures n s tenure g disk given told_so c image =
      let b = given_low state found.place n s (lain_at lay n s) disk (lain.low n s) given told_so c image in
      let now = stays_low found turns events legal told place stands n s b.tenure b.low in
      record {
        points = b.points;
        held_tenure = b.tenure;
        fence = b.fence;
        held = b.held;
        not_higher = now.own tenure (assigned_now n s tenure g);
        fenced = inr (record { state = found; found = refl; not_above = b.fenced });
      }

module _ {D : Type 0} {G : Ghosts D} (state : D → DiskState) (tells : Bool) (past : List Record) (start : Option MetaState) (depot : Depot D) (turns : List Turn) (m : Members D G) (legal : Legal tells m.net.replicas.events) (told : ToldBy start turns m.net.replicas.events) (order : IsInOrder start turns m.net.replicas.events told)
    (lay : DiskSlot → Held D) (lain : tells ≡ true → HadLain state past start lay) (run : HaveRun state lay depot m.net.replicas) (stands : last_place m.net.replicas.events ≡ Some m.net.state.place) (tenures : start ≡ None → HasTenures m.net.state.place) where
  abbrev list : List Event
  list = m.net.replicas.events

  pub low_then : tells ≡ true → OpensLow state start m.net.replicas
  low_then e = record {
    files = λ s r is unbegun tenure g.
        let h = run.each s r is in
        subst (λ d. EachImage (state d) (IsLow start tenure)) (sym (first_given state lay depot s (steps_of s list) r h))
        (files_low state past turns list lay m.net.state.place stands start (lain e) (subst (λ b. Legal b list) e legal) told tenures s.node s.shard tenure g (h.over).disk (h.over).given);
    tried = λ n s own unbegun tried tenure g.
        let here : Tries (replica n s (take (length list) list)) own = subst (λ es. Tries (replica n s es) own) (sym (take_whole list)) (inr tried) in
        let began = tried_began list legal n s own (length list) (omega arith) here in
        let was = begin_given start turns list legal told order n s began.position own began.answer began.there in
        let within = at_within list began.position _ began.there in
        let now = given_by list legal n s (length list) tenure g.0 (ap last_place (take_whole list) ∙ g.1) g.2 in
        tenure_grows list legal n s was.0 (length list) own tenure was.2 (omega (arith, was.1, within)) (omega arith) was.3 now;
  }

-- ---- where no placement was made

-- what is left of the disks that the cluster doesn't have: the same counts, and in slots without a replica what lay there still
record DepotStays {D : Type 0} (state : D → DiskState) (before after : Depot D) : Type 0 where
  later : before.faults ≤ after.faults
  counted : (disk_slot : DiskSlot) → after.counted disk_slot ≡ before.counted disk_slot
  still : (lay : DiskSlot → Held D) (members : MemberMap D) → AreStillThere state lay members before.held → AreStillThere state lay members after.held

depot_same : {D : Type 0} (state : D → DiskState) (before after : Depot D) → after ≡ before → DepotStays state before after
depot_same {D} state before after is = subst (DepotStays state before) (sym is) (record { later = omega arith; counted = λ disk_slot. refl; still = λ lay members still. still })

left_counted : {D : Type 0} (state : D → DiskState) (before after : Depot D) (s : Slot) → IsLeftAt state before after s → after.counted (disk_slot_of s) ≡ before.counted (disk_slot_of s)
left_counted state before after s (inl same) = same.counted
left_counted state before after s (inr back) = back.counted

left_still : {D : Type 0} (state : D → DiskState) (lay : DiskSlot → Held D) (before after : Depot D) (s : Slot) → IsStillThere state (lay (disk_slot_of s)) (before.held (disk_slot_of s)) → IsLeftAt state before after s → IsStillThere state (lay (disk_slot_of s)) (after.held (disk_slot_of s))
left_still state lay before after s still (inl same) = subst (IsStillThere state (lay (disk_slot_of s))) (sym same.held) still
left_still state lay before after s still (inr back) = still_back state (lay (disk_slot_of s)) (before.held (disk_slot_of s)) (after.held (disk_slot_of s)) back.disk still back.given back.held

depot_left : {D : Type 0} (state : D → DiskState) (before after : Depot D) → before.faults ≤ after.faults → ((s : Slot) → IsLeftAt state before after s) → DepotStays state before after
depot_left state before after later each = record {
  later = later;
  counted = λ disk_slot. left_counted state before after (slot_at disk_slot.node disk_slot.shard) (each (slot_at disk_slot.node disk_slot.shard));
  still = λ lay members still s none. left_still state lay before after s (still s none) (each s);
}

depot_returned : {D : Type 0} (state : D → DiskState) (slots : List Slot) (before after : Depot D) → HaveReturned state slots before after → DepotStays state before after
depot_returned state slots before after back =
    depot_left state before after back.later (λ s. elim (in_or_out slots s) as (λ _. IsLeftAt state before after s) [ inl i ↦ back.each s i | inr away ↦ inl (back.others s away) ])

depot_untaken : {D : Type 0} (state : D → DiskState) (slots : List Slot) (before after : Depot D) (slot : Slot) → IsUntakenAt state slots before after slot → DepotStays state before after
depot_untaken state slots before after slot untaken =
    depot_left state before after untaken.later (λ s. elim (in_or_out untaken.first s) as (λ _. IsLeftAt state before after s) [ inl i ↦ inr (untaken.back s i) | inr away ↦ inl (untaken.others s away) ])

-- ---- the line

module _ {D : Type 0} {G : Ghosts D} (state : D → DiskState) (m : Members D G) (tells : Bool) (past : List Record) (start : Option MetaState) (first before after : Depot D) (turns : List Turn) (calls : List ℕ) (t : Tracks state tells past start first before turns (Some m) calls) (a : Act) (step : is_step_act a ≡ true) (b : Answer) (g : Members D G)
    (left : IsLeft tells g) (may : MayChange g after.held) where
  abbrev longer : List Turn
  longer = turns ++ line_of a b ∷ []

  abbrev so : StandsSo state tells past start before turns m
  so = t.after

  tracked : IsChanged state (kept_in m) a before m b after g → before.faults ≤ after.faults → ((disk_slot : DiskSlot) → after.counted disk_slot ≡ before.counted disk_slot) → HaveRun state so.lay after g.net.replicas → (start ≡ None → HasTenures g.net.state.place) → AreStillThere state so.lay g.net.replicas.members after.held
      → Tracks state tells past start first after longer (Some g) (numbers_by a b calls)
  tracked changed no_fall counted run tenures still =
      let on = changes_serve state m tells past start turns None None t.taking t.delivered (kept_in m) a before b after g t.served t.were step (comes_next m start turns t.served.0 so.stands) left.legal no_fall changed in
      let stands : ClusterStands start longer g = changes_stand state m start turns (kept_in m) a before b after g so.stands step may changed in
      let order = in_order (on.untaken ++ t.taking) start longer g.net.replicas.events left.legal on.served.0 (on.served.1.answers).each on.served.1.order in
      record {
        tell = t.tell;
        legal = left.legal;
        taking = on.untaken ++ t.taking;
        delivered = delivered_on turns t.delivered (λ p. []);
        served = on.served;
        were = delivered_so turns a b [] (λ x i. absurd i) t.delivered t.were;
        numbered = numbers_stay turns calls a b t.numbered;
        untaken = (let sum = length-append on.untaken t.taking in
            subst (λ n. RoseBy n first.faults after.faults) (sum_is (length on.untaken) (length t.taking) (length (on.untaken ++ t.taking)) sum) (rose_both (length t.taking) (length on.untaken) first.faults before.faults after.faults t.untaken on.rose));
        later = λ disk_slot. (let was = t.later disk_slot in let is = counted disk_slot in omega (arith, was, is));
        after = record { stands = stands; lay = so.lay; lain = so.lain; run = run; still = still; apart = may.slots.apart; low = low_then state tells past start after longer g left.legal on.served.0 order so.lay so.lain run stands.ready.place tenures; tenures = tenures };
      }
    where
      sum_is : (n k j : ℕ) → j ≡ n + k → k + n ≡ j
      sum_is n k j e = omega (arith, e)

  -- no placement was made
  still : IsChanged state (kept_in m) a before m b after g → IsAsItWas m g → DepotStays state before after → Tracks state tells past start first after longer (Some g) (numbers_by a b calls)
  still changed same stays =
      tracked changed stays.later stays.counted
      (subst (HaveRun state so.lay after) (sym same.replicas) (record { place = so.run.place; rules = so.run.rules; later = so.run.later; opened = so.run.opened; each = λ s r is. run_kept state so.lay before after s (steps_of s m.net.replicas.events) r (stays.counted (disk_slot_of s)) (so.run.each s r is); others = so.run.others }))
      (λ none. subst (λ (meta : MetaState). HasTenures meta.place) (sym same.state_is) (so.tenures none))
      (subst (λ (x : Tracked D). AreStillThere state so.lay x.members after.held) (sym same.replicas) (stays.still so.lay m.net.replicas.members so.still))

  pub step_tracked : IsChanged state (kept_in m) a before m b after g → Tracks state tells past start first after longer (Some g) (numbers_by a b calls)
  step_tracked (inl made) =
      let placed = made.placed in
      tracked (inl made) placed.gained.later (counted_then state so.lay m g before after made.next placed so.run so.still) (run_then state so.lay m g before after made.next placed so.run so.still)
      (λ none. subst (λ (meta : MetaState). HasTenures meta.place) (sym placed.state_is) (tenures_then m.net.state.place made.next made.leads.step (so.tenures none))) (still_then state so.lay m g before after made.next placed so.run so.still)
  step_tracked (inr (inl none)) = still (inr (inl none)) none.same (depot_same state before after none.depot_is)
  step_tracked (inr (inr (inl disk))) = still (inr (inr (inl disk))) disk.same (depot_untaken state (new_slots m.net.replicas.members disk.next) before after disk.slot disk.untaken)
  step_tracked (inr (inr (inr (inl room)))) = still (inr (inr (inr (inl room)))) room.same (depot_same state before after room.depot_is)
  step_tracked (inr (inr (inr (inr memory)))) = still (inr (inr (inr (inr memory)))) memory.same (depot_returned state (new_slots m.net.replicas.members memory.next) before after memory.returned)

pub steps_are_tracked : {D : Type 0} {G : Ghosts D} (state : D → DiskState) (old : Option (Members D G)) → StepsAreTracked state old
steps_are_tracked {D} {G} state None tells past start first before after turns calls a b new step t left may did =
    subst (λ (d : Depot D). Tracks state tells past start first d (turns ++ line_of a b ∷ []) new (numbers_by a b calls)) (sym did.2)
    (subst (λ (o : Option (Members D G)). Tracks state tells past start first before (turns ++ line_of a b ∷ []) o (numbers_by a b calls)) (sym did.1)
    (subst (λ (x : Answer). Tracks {D = D} {G = G} state tells past start first before (turns ++ line_of a x ∷ []) None (numbers_by a x calls)) (sym did.0) (orders_are_tracked state None tells past start first before turns calls a refl (no_init a step) t)))
  where
    no_init : (x : Act) → is_step_act x ≡ true → ¬ IsInitAct x
    no_init (act.Init rf shards seed nodes) is init = cc
    no_init _ is init = absurd init
steps_are_tracked {D} {G} state (Some m) tells past start first before after turns calls a b new step t left may did =
    let is : new ≡ Some did.0 = did.1 in
    let left_so : IsLeft tells did.0 = subst (λ (o : Option (Members D G)). EachMember o (λ x. IsLeft tells x)) is left in
    let may_so : MayChange did.0 after.held = subst (λ (o : Option (Members D G)). EachMember o (λ x. MayChange x after.held)) is may in
    subst (λ (o : Option (Members D G)). Tracks state tells past start first after (turns ++ line_of a b ∷ []) o (numbers_by a b calls)) (sym is) (step_tracked state m tells past start first before after turns calls t a step b did.0 left_so may_so did.2)
