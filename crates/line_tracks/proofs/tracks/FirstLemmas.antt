-- A first cluster, after the line of the `init` that made it.
use Rattle.std.proofs.Common.{◌≡◌, ◌+◌, ℕ, zero, suc, List, [], ◌∷◌, ◌++◌, length, take, refl, sym, ap, subst, ◌∙◌, inl, inr, arith, Bool, true}
use Rattle.std.specs.Prelude.{Some, None}
use Rattle.std.specs.FinMap as finite
use Rattle.std.proofs.lemmas.Option.{same_Some}
use Rattle.m3_model.specs.declared.act.Act.TheVariants as act
use Rattle.m3_model.specs.declared.answer.Answer.TheVariants as answer
use Rattle.m3_model.specs.declared.placement.Assignment.{Assignment}
use Rattle.m3_model.specs.declared.placement.Placement.{Placement}
use Rattle.m3_model.specs.declared.turn.Turn.{Turn}
use Rattle.m3_model.proofs.Lists.{take_whole}
use Rattle.m3_outside.specs.Depots.{Depot}
use Rattle.m3_outside.specs.DiskState.{DiskState, EachImage}
use Rattle.m3_outside.specs.declared.disk.Disk.{Ghosts}
use Rattle.placement_core.proofs.ListLemmas.{IsIn-from_Any}
use Rattle.cluster_core.specs.Lists.{At}
use Rattle.cluster_core.specs.Legal.{Legal}
use Rattle.cluster_core.specs.Replicas.{replica}
use Rattle.cluster_core.specs.declared.event.Event.{Event}
use Rattle.cluster_core.specs.declared.event.Event.TheVariants as event
use Rattle.cluster_core.specs.declared.event.StepCall.TheVariants as call
use Rattle.cluster_core.specs.declared.event.StepReply.{StepReply}
use Rattle.cluster_core.proofs.ListLemmas.{at_in, in_at}
use Rattle.node_calls.specs.replica_exchange.declared.member.Member.{Member}
use Rattle.node_calls.specs.replica_exchange.declared.slot.Slot.{Slot}
use Rattle.node_calls.specs.replica_calls.Calls.{first_member}
use Rattle.node_calls.specs.session_net.Runs.{steps_of}
use Rattle.node_calls.specs.cluster_members.declared.members.Members.{Members}
use Rattle.first_cluster.specs.Begins.{begins_of}
use Rattle.first_cluster.specs.Depots.{disk_slot_of}
use Rattle.first_cluster.specs.First.{IsFirst}
use Rattle.first_cluster.specs.Slots.{AreApart, start_at, starts_of}
use Rattle.first_cluster.proofs.BareLemmas.{given_bare}
use Rattle.first_cluster.proofs.PlacedSlots.{from_start, tenure_first}
use Rattle.first_cluster.proofs.SlotLists.{in_or_out, slots_apart}
use Rattle.told_runs.specs.told_by.Makes.{IsAssigned}
use Rattle.transcripts.specs.Record.{Record, line_of}
use Rattle.line_tracks.specs.acts.Stands.{NoneStands, ClusterStands}
use Rattle.line_tracks.specs.acts.Opens.{IsGivenNow, IsLow, OpensLow}
use Rattle.line_tracks.proofs.acts.BeginEvents.{step_among}
use Rattle.line_tracks.proofs.acts.InitStands.{first_stands}
use Rattle.line_tracks.specs.tracks.Runs.{HasRun, HaveRun, IsMadeOver}
use Rattle.line_tracks.specs.tracks.Steps.{FirstStandsSo}
use Rattle.line_tracks.specs.tracks.Tracks.{HasTenures}
use Rattle.line_tracks.specs.tracks.Lain.{AreStillThere, IsStillThere, LayBare}
use Rattle.line_tracks.proofs.tracks.FailureLemmas.{stepped_from, stepped_none}
use Rattle.told_runs.proofs.told_moves_proofs.SlotLemmas.{Tries, tried_began}

-- a slot without a replica took no step
pub first_unstepped : {D : Type 0} {G : Ghosts D} (state : D → DiskState) (rf shards seed : ℕ) (nodes : List (List ℕ × List ℕ)) (old now : Depot D) (m : Members D G) → IsFirst state rf shards seed nodes old now m → (s : Slot) → finite.get m.net.replicas.members s ≡ None → steps_of s m.net.replicas.events ≡ []
first_unstepped state rf shards seed nodes old now m first s nobody =
    let begun = first.opened.begun in
    ap (steps_of s) begun.ran.grew
    ∙ begun.ran.only s (stepped_none state (steps_of s (begins_of begun.said (starts_of m.net.state.place))) (finite.get first.opened.made s) (finite.get m.net.replicas.members s) (begun.ran.stepped s) nobody)

module _ {D : Type 0} {G : Ghosts D} (state : D → DiskState) (m : Members D G) (tells : Bool) (past : List Record) (turns : List Turn) (rf shards seed : ℕ) (nodes : List (List ℕ × List ℕ)) (old now : Depot D) (lain : tells ≡ true → LayBare state past old.held) (none : NoneStands turns)
    (first : IsFirst state rf shards seed nodes old now m) (legal : Legal tells m.net.replicas.events) where
  abbrev place : Placement
  place = m.net.state.place

  abbrev begins : List Event
  begins = begins_of first.opened.begun.said (starts_of place)

  abbrev events : List Event
  events = m.net.replicas.events

  abbrev list : List Event
  list = event.Place place [] ∷ event.Clock m.net.state.rules ∷ begins

  abbrev longer : List Turn
  longer = turns ++ line_of (act.Init rf shards seed nodes) (answer.Placed place place.version) ∷ []

  list_is : events ≡ list
  list_is = first.opened.begun.ran.grew

  stands : ClusterStands None longer m
  stands = first_stands state m turns rf shards seed nodes old now none first

  -- ---- what the replicas did

  each_made : (s : Slot) (r : Member D) → finite.get first.opened.made s ≡ Some r → IsMadeOver state old.held now s r
  each_made s r is = elim (in_or_out m.slots.items s) as (λ _. IsMadeOver state old.held now s r) [
    | inl i ↦
        (let t = first.opened.taken.taken s i in
        let same : first_member t.disk ≡ r = same_Some (first_member t.disk) r (sym t.stands ∙ is) in
        record { disk = t.disk; is_first = sym same; counted = t.disk_faults ∙ sym t.counted; given = t.given })
    | inr out ↦ (let clash : None ≡ Some r = sym (first.opened.taken.others s out).no_member ∙ is in cc)
  ]

  run : HaveRun state old.held now m.net.replicas
  run = record {
    place = place;
    rules = m.net.state.rules;
    later = begins;
    opened = list_is;
    each = λ s r is.
        let from = stepped_from state (steps_of s begins) (finite.get first.opened.made s) (finite.get m.net.replicas.members s) r (first.opened.begun.ran.stepped s) is in
        subst (λ es. HasRun state old.held now s (steps_of s es) r) (sym list_is) (record { made = from.before; over = each_made s from.before from.was; stepped = (r, refl, from.first, from.takes) });
    others = first_unstepped state rf shards seed nodes old now m first;
  }

  -- ---- first begins

  -- each tenure that the placement gives is the first one
  given_one : (n s tenure : ℕ) → IsGivenNow events n s tenure → tenure ≡ 1
  given_one n s tenure g =
      let same : g.0 ≡ place = same_Some g.0 place (sym g.1 ∙ stands.ready.place) in
      let has = subst (λ (q : Placement). IsAssigned q n s tenure) same g.2 in
      let a = IsIn-from_Any (λ (x : Assignment). (x.node ≡ n) × (x.tenure ≡ tenure)) has.0 has.2 in
      sym a.2.1 ∙ tenure_first place rf shards nodes first.place (start_at (0 + s) a.0) (from_start 0 place.shards s has.0 a.0 has.1 a.1)

  -- and no other was begun
  begun_one : (i : ℕ) (n s tenure : ℕ) (a : StepReply) → At list i (event.Step n s (call.Begin tenure) a) → tenure ≡ 1
  begun_one zero n s tenure a at = (let clash : event.Place place [] ≡ event.Step n s (call.Begin tenure) a = same_Some (event.Place place []) (event.Step n s (call.Begin tenure) a) at in cc)
  begun_one (suc zero) n s tenure a at = (let clash : event.Clock m.net.state.rules ≡ event.Step n s (call.Begin tenure) a = same_Some (event.Clock m.net.state.rules) (event.Step n s (call.Begin tenure) a) at in cc)
  begun_one (suc (suc i)) n s tenure a at =
      let h = step_among first.opened.begun.said (starts_of place) n s (call.Begin tenure) a (at_in begins i (event.Step n s (call.Begin tenure) a) at) in
      let same : (h.start).tenure ≡ tenure = (let e = h.call_is in cc) in
      sym same ∙ tenure_first place rf shards nodes first.place h.start h.among

  low : tells ≡ true → OpensLow state None m.net.replicas
  low e = record {
    files = λ s r is unbegun tenure g.
        let from = stepped_from state (steps_of s begins) (finite.get first.opened.made s) (finite.get m.net.replicas.members s) r (first.opened.begun.ran.stepped s) is in
        let made = each_made s from.before from.was in
        let disk : (r.first).value ≡ made.disk = ap (λ f. f.value) from.first ∙ ap (λ (x : Member D). (x.first).value) made.is_first in
        subst (λ d. EachImage (state d) (IsLow None tenure)) (sym disk) (λ told c image.
        let b = given_bare state (old.held (disk_slot_of s)) made.disk ((lain e).bare (disk_slot_of s)) made.given told c image in
        let one = given_one s.node s.shard tenure g in
        let order = b.order in
        let fence = b.first in
        record { points = []; held_tenure = b.tenure; fence = b.fence; held = b.held; not_higher = omega (arith, one, order, fence); fenced = inl (omega (arith, one, fence)) });
    tried = λ n s own unbegun tried tenure g.
        let here : Tries (replica n s (take (length events) events)) own = subst (λ es. Tries (replica n s es) own) (sym (take_whole events)) (inr tried) in
        let began = tried_began events legal n s own (length events) (omega arith) here in
        let one = begun_one began.position n s own began.answer (subst (λ es. At es began.position (event.Step n s (call.Begin own) began.answer)) list_is began.there) in
        let given_is = given_one n s tenure g in
        omega (arith, one, given_is);
  }

  -- ---- the placement, and disks that weren't taken

  tenures : HasTenures place
  tenures shard i a among =
      let at = in_at place.shards shard i in
      let one = tenure_first place rf shards nodes first.place (start_at (0 + at.0) a) (from_start 0 place.shards at.0 shard a at.1 among) in
      omega (arith, one)

  still : AreStillThere state old.held m.net.replicas.members now.held
  still s nobody = elim (in_or_out m.slots.items s) as (λ _. IsStillThere state (old.held (disk_slot_of s)) (now.held (disk_slot_of s))) [
    | inl i ↦
        (let gone = stepped_none state (steps_of s begins) (finite.get first.opened.made s) (finite.get m.net.replicas.members s) (first.opened.begun.ran.stepped s) nobody in
        let t = first.opened.taken.taken s i in
        let clash : None ≡ Some (first_member t.disk) = sym gone ∙ t.stands in
        cc)
    | inr out ↦ inl (first.opened.taken.others s out).held
  ]

pub first_stands_so : {D : Type 0} {G : Ghosts D} (state : D → DiskState) (m : Members D G) → FirstStandsSo state m
first_stands_so {D} {G} state m tells past turns rf shards seed nodes old now tell lain none first legal = record {
  stands = stands state m tells past turns rf shards seed nodes old now lain none first legal;
  run = run state m tells past turns rf shards seed nodes old now lain none first legal;
  apart = subst AreApart (sym first.slots) (slots_apart m.net.state.place first.lawful);
  low = low state m tells past turns rf shards seed nodes old now lain none first legal;
  lay = old.held;
  lain = lain;
  tenures = λ _. tenures state m tells past turns rf shards seed nodes old now lain none first legal;
  still = still state m tells past turns rf shards seed nodes old now lain none first legal;
}
