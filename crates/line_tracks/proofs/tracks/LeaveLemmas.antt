-- What a run leaves in the slots of replicas, once the disks are given back.
use Rattle.std.proofs.Common.{◌≡◌, ◌≢◌, ◌≤◌, ℕ, List, [], ◌∷◌, ◌++◌, append-nil, length, length-append, take, true, refl, sym, ap, subst, ◌∙◌, inl, inr, arith}
use Rattle.std.specs.Prelude.{◌⊎◌, Option, Some, None, fold, max}
use Rattle.std.specs.FinMap as finite
use Rattle.std.specs.List.{cons_option}
use Rattle.std.proofs.lemmas.Grind.{fold-append}
use Rattle.std.proofs.lemmas.List.{take-append-le}
use Rattle.std.proofs.lemmas.Option.{same_Some}
use Rattle.m3_model.proofs.Lists.{IsIn-flat_map, flat_map-IsIn, take_whole}
use Rattle.m3_model.proofs.MemberLemmas.{IsIn-append_cases}
use Rattle.m3_model.specs.Members.{IsIn}
use Rattle.m3_model.specs.declared.answer.Answer.TheVariants as answer
use Rattle.m3_model.specs.declared.placement.Assignment.{Assignment}
use Rattle.m3_model.specs.declared.placement.Placement.{Placement}
use Rattle.m3_model.specs.declared.point.Point.{Point}
use Rattle.m3_model.specs.declared.rules.MetaState.{MetaState}
use Rattle.m3_model.specs.declared.rules.Rules.{Rules}
use Rattle.m3_model.specs.declared.turn.Request.{Request}
use Rattle.m3_model.specs.declared.turn.Request.TheVariants as request
use Rattle.m3_model.specs.declared.turn.Turn.{Turn}
use Rattle.m3_outside.specs.Depots.{Depot, TellAll}
use Rattle.m3_outside.specs.DiskState.{DiskState, IsEmpty}
use Rattle.m3_outside.specs.Files.{Files}
use Rattle.m3_outside.specs.Slots.{Held, Here, MayGive}
use Rattle.m3_outside.specs.declared.disk.Disk.{Ghosts}
use Rattle.m3_outside.specs.declared.slot.DiskSlot.{DiskSlot}
use Rattle.placement_core.proofs.ListLemmas.{IsIn-from_Any}
use Rattle.placement_core.specs.Lawful.{IsLawful}
use Rattle.placement_plan.specs.First.{IsInitial}
use Rattle.shard_files.specs.FilesHold.{FilesHold}
use Rattle.shard_files.specs.Once.{HaveSamePoints}
use Rattle.shard_files.specs.Parts.{AreWhole}
use Rattle.shard_files.proofs.FilesHoldLemmas.{files_hold_one}
use Rattle.cluster_core.specs.Earlier.{clock_after, last_clock, last_place, place_after}
use Rattle.cluster_core.specs.Legal.{Legal}
use Rattle.cluster_core.specs.Lists.{At}
use Rattle.cluster_core.specs.Replicas.{fresh, replica, step_of}
use Rattle.cluster_core.specs.declared.event.Event.{Event}
use Rattle.cluster_core.specs.declared.event.Event.TheVariants as event
use Rattle.cluster_core.specs.declared.replica_state.ReplicaState.{ReplicaState}
use Rattle.cluster_core.proofs.ListLemmas.{at_in, at_some, in_at}
use Rattle.transcripts.specs.Left.{OpeningStands, earlier_turns}
use Rattle.transcripts.specs.Record.{InnerTurn, Record, inner_turns, joined, line_of, lists_of}
use Rattle.told_runs.specs.told_by.Told.{ToldBy}
use Rattle.told_runs.specs.told_moves.Order.{OpensWithin}
use Rattle.told_runs.proofs.told_by_proofs.TurnLemmas.{position_in, split_in}
use Rattle.life_ends.specs.Low.{IsLowReplica, IsLowTenure}
use Rattle.life_ends.specs.Lies.{MayLie}
use Rattle.life_ends.specs.Runs.{BeginWithThese, FilesStand, IsLeftOf}
use Rattle.told_by.specs.Leaves.{IsLeftState, MayBeOpen}
use Rattle.life_ends.proofs.EndLemmas.{run_leaves_standing}
use Rattle.life_ends.proofs.LowLemmas.{low_at, stays_low, version_grows}
use Rattle.life_ends.proofs.MachineLemmas.{machine_leaves_so}
use Rattle.life_ends.proofs.QuietLemmas.{held_before, quiet_replica, run_leaves_standing_before}
use Rattle.life_ends.proofs.SameLemmas.{same_opening}
use Rattle.life_ends.proofs.UnansweredLemmas.{unanswered_stands}
use Rattle.node_calls.specs.replica_machine.Machines.{IsHeldBy}
use Rattle.node_calls.specs.replica_machine.Openings.{HoldAsMade}
use Rattle.node_calls.specs.replica_exchange.declared.member.Member.{Member}
use Rattle.node_calls.specs.replica_exchange.declared.slot.Slot.{Slot}
use Rattle.node_calls.specs.replica_calls.Calls.{AreMembersOf, Tracked}
use Rattle.node_calls.specs.session_net.Runs.{Step, slot_at, step_in, steps_of}
use Rattle.node_calls.specs.cluster_members.declared.members.Members.{Members}
use Rattle.first_cluster.specs.Depots.{disk_slot_of}
use Rattle.line_tracks.specs.acts.Stands.{ClusterStands}
use Rattle.line_tracks.specs.tracks.Lain.{AreStillThere, HadLain, LiesLow, lain_at, no_points}
use Rattle.line_tracks.specs.tracks.Leaves.{AllSlotsStand, AreLowBy, LastTurnMayBeOpen, LeavesStanding, LeavesUnmade, LeavesUnsaved, MadeStep, held_after, held_with, record_with}
use Rattle.line_tracks.specs.tracks.Runs.{HaveRun}
use Rattle.line_tracks.specs.tracks.Tracks.{HasTenures, StandsSo, Tracks}
use Rattle.line_tracks.proofs.tracks.LainLemmas.{lies, lies_bare, lies_low, lies_sound, lies_whole, made_whole}
use Rattle.line_tracks.proofs.tracks.OpenLemmas.{begins_so, own_or, own_step}

-- ---- what lay in the slots

-- it stands for the life
lain_stands : {D : Type 0} (state : D → DiskState) → TellAll state → (past : List Record) (start : Option MetaState) (lay : DiskSlot → Held D) → HadLain state past start lay → FilesStand state past start (lain_at lay)
lain_stands state tell past None lay lain = λ files mine.
    (no_points, (λ n s. (let b = lies_bare state tell (lain_at lay n s) (lain.bare (disk_slot_of (slot_at n s))) (files n s) (mine n s) in record { all = []; tenure = b.tenure; fence = b.fence; held = b.held; same = λ p. (λ i. i, λ i. i) })), lain.stand)
lain_stands state tell past (Some found) lay lain = lain.stand

-- each replica of a placement has a tenure of at least 1, and so has the placement's version
least_version : (place : Placement) → IsLawful place → HasTenures place → 1 ≤ place.version
least_version place lawful tenures =
    let limits = lawful.limits in
    let some_shards = limits.some_shards in
    let shard = at_some place.shards 0 (omega (arith, some_shards)) in
    let i = at_in place.shards 0 shard.0 shard.1 in
    let sound = lawful.shards shard.0 i in
    let some : 1 ≤ length shard.0 = (let rf = limits.some_replicas in elim sound.replicas as (λ _. 1 ≤ length shard.0) [ inl steady ↦ (let all = steady.1 in omega (arith, rf, all)) | inr moving ↦ (let all = moving.1 in omega (arith, rf, all)) ]) in
    let a = at_some shard.0 0 (omega (arith, some)) in
    let among = at_in shard.0 0 a.0 a.1 in
    let least = tenures shard.0 i a.0 among in
    let most = sound.tenures a.0 among in
    omega (arith, least, most)

-- a tenure that is the first at most is low
first_low : (place : Placement) (n s tenure : ℕ) → 1 ≤ place.version → HasTenures place → tenure ≤ 1 → IsLowTenure place n s tenure
first_low place n s tenure least tenures low = record {
  version = omega (arith, least, low);
  own = λ given h.
      let a = IsIn-from_Any (λ (x : Assignment). (x.node ≡ n) × (x.tenure ≡ given)) h.0 h.2 in
      let had = tenures h.0 (at_in place.shards s h.0 h.1) a.0 a.1 in
      let is = a.2.1 in
      omega (arith, low, had, is);
}

-- tenure and fence of what lay there are low by a later placement of the run
pub record IsLowThen (place : Placement) (n s tenure fence : ℕ) : Type 0 where
  pub low : IsLowTenure place n s tenure
  pub fenced : fence ≤ place.version

lain_low : {D : Type 0} (state : D → DiskState) → TellAll state → (past : List Record) (start : Option MetaState) (lay : DiskSlot → Held D) → HadLain state past start lay → (turns : List Turn) (events : List Event) → Legal true events → ToldBy start turns events
    → (place : Placement) → last_place events ≡ Some place → IsLawful place → (start ≡ None → HasTenures place) → (n s : ℕ) (files : Files) → MayLie state (lain_at lay n s) files → (points : List Point) (tenure fence : ℕ) → FilesHold points tenure fence files → IsLowThen place n s tenure fence
lain_low state tell past None lay lain turns events legal told place last lawful tenures n s files mine points tenure fence held =
    let b = lies_bare state tell (lain_at lay n s) (lain.bare (disk_slot_of (slot_at n s))) files mine in
    let one = files_hold_one points [] tenure b.tenure fence b.fence files held b.held in
    let tenure_is = one.1 in
    let fence_is = one.2 in
    let order_is = b.order in
    let first = b.first in
    let least = least_version place lawful (tenures refl) in
    record { low = first_low place n s tenure least (tenures refl) (omega (arith, tenure_is, order_is, first)); fenced = omega (arith, fence_is, first, least) }
lain_low state tell past (Some found) lay lain turns events legal told place last lawful tenures n s files mine points tenure fence held =
    let b = lies_low state tell found.place n s (lain_at lay n s) (lain.low n s) files mine in
    let one = files_hold_one points b.points tenure b.tenure fence b.fence files held b.held in
    let fence_is = one.2 in
    let fenced = b.fenced in
    let grown = version_grows found turns events legal told place last in
    record { low = subst (IsLowTenure place n s) (sym one.1) (stays_low found turns events legal told place last n s b.tenure b.low); fenced = omega (arith, fence_is, fenced, grown) }

-- ---- what a stop leaves of a slot is low

module _ (place : Placement) (n s : ℕ) (r : ReplicaState) (low : IsLowReplica place n s r) where
  -- where its replica began
  began_low : (files : Files) → IsHeldBy r files → LiesLow place n s files
  began_low files h =
      let own : IsLowTenure place n s h.tenure = low.tenures h.tenure (elim h.known as (λ _. IsIn r.begun h.tenure ⊎ IsIn r.tried h.tenure) [ inl begun ↦ inl begun | inr tried ↦ inr tried.0 ]) in
      let version = own.version in
      let fence = low.fence in
      record {
        points = h.points;
        tenure = h.tenure;
        fence = h.fence;
        held = h.held;
        low = own;
        fenced = elim h.fence_is as (λ _. h.fence ≤ place.version) [
          | inl same ↦ omega (arith, same, version, fence)
          | inr any ↦ (let f = IsIn-from_Any (λ doubtful. h.fence ≡ max doubtful (max h.tenure r.fence)) r.doubt_fences any in let is = f.2 in let doubt = low.doubts f.0 f.1 in omega (arith, is, version, fence, doubt))
        ];
      }

  -- where it didn't
  unbegun_low : (base : Files → Type 0) → ((files : Files) → base files → (points : List Point) (tenure fence : ℕ) → FilesHold points tenure fence files → IsLowThen place n s tenure fence) → (files : Files) → HoldAsMade base r.tried files → LiesLow place n s files
  unbegun_low base was_low files h = record { points = h.points; tenure = h.tenure; fence = h.fence; held = h.held; low = tenure_low; fenced = fence_low }
    where
      was : IsLowThen place n s h.tenure_before h.fence_before
      was = was_low h.before h.was h.points_before h.tenure_before h.fence_before h.held_before

      no_higher : (high tenure : ℕ) → IsLowTenure place n s high → tenure ≤ high → IsLowTenure place n s tenure
      no_higher high tenure l up = record { version = (let version = l.version in omega (arith, version, up)); own = λ given h. (let own = l.own given h in omega (arith, own, up)) }

      tenure_low : IsLowTenure place n s h.tenure
      tenure_low = elim h.tenure_up as (λ _. IsLowTenure place n s h.tenure) [
        | inl up ↦ no_higher h.tenure_before h.tenure was.low up
        | inr any ↦ (let t = IsIn-from_Any (λ t. h.tenure ≤ t) r.tried any in no_higher t.0 h.tenure (low.tenures t.0 (inr t.1)) t.2)
      ]

      fence_low : h.fence ≤ place.version
      fence_low = elim h.fence_up as (λ _. h.fence ≤ place.version) [
        | inl up ↦ (let fenced = was.fenced in omega (arith, up, fenced))
        | inr any ↦ (let t = IsIn-from_Any (λ t. h.fence ≤ t) r.tried any in let up = t.2 in let version = (low.tenures t.0 (inr t.1)).version in omega (arith, up, version))
      ]

  began_or : (xs : List ℕ) → (xs ≡ []) ⊎ (xs ≢ [])
  began_or [] = inl refl
  began_or (x ∷ xs) = inr (λ e. cc)

  pub left_low : {D : Type 0} (state : D → DiskState) (held : Held D) → ((files : Files) → MayLie state held files → (points : List Point) (tenure fence : ℕ) → FilesHold points tenure fence files → IsLowThen place n s tenure fence) → (files : Files) → IsLeftOf state held r files → LiesLow place n s files
  left_low state held was_low files l = elim (began_or r.begun) as (λ _. LiesLow place n s files) [ inl none ↦ unbegun_low (MayLie state held) was_low files (l.unbegun none) | inr some ↦ began_low files (l.begun some) ]

-- ---- what a stop leaves of each slot, by what lay there

-- a slot that took no step is as it was
unstepped : (n s : ℕ) (more : List Event) (r : ReplicaState) → steps_of (slot_at n s) more ≡ [] → fold (step_of n s) r more ≡ r
unstepped n s [] r none = refl
unstepped n s (e ∷ more) r none =
    elim (own_or n s e) as (λ _. fold (step_of n s) (step_of n s r e) more ≡ r) [
      | inl own ↦ absurd (let step : Step = record { call = own.0; reply = own.1 } in
          let here : step_in (slot_at n s) e ≡ Some step = ap (step_in (slot_at n s)) own.2 ∙ own_step n s own.0 own.1 in
          let some : step ∷ steps_of (slot_at n s) more ≡ [] = ap (λ o. cons_option o (steps_of (slot_at n s) more)) (sym here) ∙ none in cc)
      | inr other ↦ (let rest : steps_of (slot_at n s) more ≡ [] = ap (λ o. cons_option o (steps_of (slot_at n s) more)) (sym other.none) ∙ none in
          unstepped n s more (step_of n s r e) rest ∙ other.stays r)
    ]

module _ {D : Type 0} (state : D → DiskState) (t : Tracked D) (past : List Record) (start : Option MetaState) (lay : DiskSlot → Held D) (depot : Depot D) (now back : DiskSlot → Held D) (tell : TellAll state) (lain : HadLain state past start lay) (h : HaveRun state lay depot t)
    (are : AreMembersOf state t) (still : AreStillThere state lay t.members now) (lie : (s : Slot) → back (disk_slot_of s) ≡ held_with now (finite.get t.members s) s) where
  -- where a replica stands
  of_member : (n s : ℕ) (m : Member D) → finite.get t.members (slot_at n s) ≡ Some m → (files : Files) → MayLie state (lain_at back n s) files → IsLeftOf state (lain_at lay n s) (replica n s t.events) files × AreWhole files
  of_member n s m there files mine =
      let r = h.each (slot_at n s) m there in
      let same : (r.stepped).0 ≡ m = same_Some (r.stepped).0 m (sym (r.stepped).1) in
      let disk : (m.first).value ≡ (r.over).disk = ap (λ (x : Member D). (x.first).value) (sym same) ∙ ap (λ f. f.value) (r.stepped).2 ∙ ap (λ (x : Member D). (x.first).value) (r.over).is_first in
      let given : MayGive (λ d. IsEmpty (state d)) (lain_at lay n s) (m.first).value = subst (λ d. MayGive (λ e. IsEmpty (state e)) (lain_at lay n s) d) (sym disk) (r.over).given in
      let here : back (disk_slot_of (slot_at n s)) ≡ Here m.machine.disk = lie (slot_at n s) ∙ ap (λ (o : Option (Member D)). held_with now o (slot_at n s)) there in
      let image : (state m.machine.disk).images files = subst (λ (x : Held D). MayLie state x files) here mine in
      let is = are (slot_at n s) m there in (
        machine_leaves_so state (lain_at lay n s) (m.first).value (replica n s t.events) m.machine tell given (λ c was. lies_sound state tell past start lay lain n s c (lies state tell (lain_at lay n s) (m.first).value given c was)) is files image,
        made_whole state tell (lain_at lay n s) (m.first).value (replica n s t.events) m.machine (lies_whole state past start lay lain (disk_slot_of (slot_at n s))) given is files image,
      )

  -- what lies in any other slot lay there
  lay_then : (s : Slot) → finite.get t.members s ≡ None → (files : Files) → MayLie state (back (disk_slot_of s)) files → MayLie state (lay (disk_slot_of s)) files
  lay_then s none files mine =
      let here : back (disk_slot_of s) ≡ now (disk_slot_of s) = lie s ∙ ap (λ (o : Option (Member D)). held_with now o s) none in
      let lies_now : MayLie state (now (disk_slot_of s)) files = subst (λ (x : Held D). MayLie state x files) here mine in
      elim (still s none) as (λ _. MayLie state (lay (disk_slot_of s)) files) [
        | inl same ↦ subst (λ (x : Held D). MayLie state x files) same lies_now
        | inr given ↦ lies state tell (lay (disk_slot_of s)) given.0 given.2 files (subst (λ (x : Held D). MayLie state x files) given.1 lies_now)
      ]

  of_none : (n s : ℕ) → finite.get t.members (slot_at n s) ≡ None → (files : Files) → MayLie state (lain_at back n s) files → IsLeftOf state (lain_at lay n s) (replica n s t.events) files × AreWhole files
  of_none n s none files mine =
      let was = lay_then (slot_at n s) none files mine in
      let so = lies_sound state tell past start lay lain n s files was in
      let unmoved : replica n s t.events ≡ fresh = unstepped n s t.events fresh (h.others (slot_at n s) none) in (
        subst (λ (r : ReplicaState). IsLeftOf state (lain_at lay n s) r files) (sym unmoved) (record {
          begun = λ some. absurd (some refl);
          unbegun = λ _. record {
            before = files;
            was = was;
            points_before = so.points;
            tenure_before = so.tenure;
            fence_before = so.fence;
            held_before = so.held;
            points = so.points;
            tenure = so.tenure;
            fence = so.fence;
            held = so.held;
            same = λ p. (λ i. i, λ i. i);
            tenure_low = omega arith;
            tenure_up = inl (omega arith);
            fence_low = omega arith;
            fence_up = inl (omega arith);
          };
        }),
        lies_whole state past start lay lain (disk_slot_of (slot_at n s)) files was,
      )

  pub each_slot : (n s : ℕ) (files : Files) → MayLie state (lain_at back n s) files → IsLeftOf state (lain_at lay n s) (replica n s t.events) files × AreWhole files
  each_slot n s files mine = by (finite.get t.members (slot_at n s)) refl
    where
      by : (o : Option (Member D)) → finite.get t.members (slot_at n s) ≡ o → IsLeftOf state (lain_at lay n s) (replica n s t.events) files × AreWhole files
      by None none = of_none n s none files mine
      by (Some m) there = of_member n s m there files mine

-- ---- put together

-- files whose points are an opening that stands, and that are low and whole
slots_stand : {D : Type 0} (state : D → DiskState) (past : List Record) (left : MetaState) (back : DiskSlot → Held D) → FilesStand state past (Some left) (lain_at back)
    → ((n s : ℕ) (files : Files) → MayLie state (lain_at back n s) files → LiesLow left.place n s files × AreWhole files) → AllSlotsStand state past (Some left) back
slots_stand state past left back stand each files mine =
    let found = stand files mine in
    record {
      opening = λ n s. (each n s (files n s) (mine n s)).0.points;
      slots = λ n s. (let l = each n s (files n s) (mine n s) in record { tenure = l.0.tenure; fence = l.0.fence; whole = record { held = l.0.held; snapshots = l.1 }; low = (l.0.low, l.0.fenced) });
      stands = same_opening past (Some left) found.0 (λ n s. (each n s (files n s) (mine n s)).0.points) (λ n s. same n s) found.2;
    }
  where
    same : (n s : ℕ) → HaveSamePoints ((each n s (files n s) (mine n s)).0.points) ((stand files mine).0 n s)
    same n s p =
        let l = (each n s (files n s) (mine n s)).0 in
        let holds = (stand files mine).1 n s in
        let one : l.points ≡ holds.all = (files_hold_one l.points holds.all l.tenure holds.tenure l.fence holds.fence (files n s) l.held holds.held).0 in
        (λ i. (holds.same p).1 (subst (λ (xs : List Point). IsIn xs p) one i), λ i. subst (λ (xs : List Point). IsIn xs p) (sym one) ((holds.same p).0 i))

-- ---- events that leave the rules and the placement

keeps_clock : (more : List Event) (was : Option Rules) → ((e : Event) → IsIn more e → clock_after was e ≡ was) → fold clock_after was more ≡ was
keeps_clock [] was same = refl
keeps_clock (e ∷ more) was same = ap (λ (o : Option Rules). fold clock_after o more) (same e (inl refl)) ∙ keeps_clock more was (λ x i. same x (inr i))

keeps_place : (more : List Event) (was : Option Placement) → ((e : Event) → IsIn more e → place_after was e ≡ was) → fold place_after was more ≡ was
keeps_place [] was same = refl
keeps_place (e ∷ more) was same = ap (λ (o : Option Placement). fold place_after o more) (same e (inl refl)) ∙ keeps_place more was (λ x i. same x (inr i))

open_clock : (asked : Option Request) (rules : Rules) (was : Option Rules) (e : Event) → MayBeOpen asked rules e → clock_after was e ≡ was
open_clock asked rules was (event.Clock set) never = absurd never
open_clock asked rules was _ may = refl

open_place : (asked : Option Request) (rules : Rules) (was : Option Placement) (e : Event) → MayBeOpen asked rules e → place_after was e ≡ was
open_place asked rules was (event.Place placement done) never = absurd never
open_place asked rules was _ may = refl

-- ---- a cluster stands

module _ {D : Type 0} {G : Ghosts D} (state : D → DiskState) where
  -- its state is what the turns left
  left_state : (start : Option MetaState) (turns : List Turn) (m : Members D G) → ClusterStands start turns m → IsLeftState start turns m.net.replicas.events m.net.state
  left_state start turns m stands = record { rules_are = sym stands.left.rules; clock = stands.ready.clock; seed_is = sym stands.left.seed; place = stands.ready.place }

  made_leaves : (m : Members D G) (past : List Record) (start : Option MetaState) (first now : Depot D) (turns : List Turn) (calls : List ℕ) (unanswered : Option Request) → Tracks state true past start first now turns (Some m) calls → AreMembersOf state m.net.replicas
      → AllSlotsStand state (past ++ record_with start turns unanswered ∷ []) (Some m.net.state) (held_after (Some m) now.held)
  made_leaves m past start first now turns calls unanswered t are =
      let back = held_after (Some m) now.held in
      let events = m.net.replicas.events in
      let tell = t.tell refl in
      let so : StandsSo state true past start now turns m = t.after in
      let lain = so.lain refl in
      let none_more : events ≡ events ++ [] = sym (append-nil events) in
      let each = each_slot state m.net.replicas past start so.lay now now.held back tell lain so.run are so.still (λ s. refl) in
      let opens : OpensWithin start events = t.served.1.opens refl in
      let low = λ (n s : ℕ). subst (λ (es : List Event). IsLowReplica m.net.state.place n s (replica n s es)) (take_whole events)
      (low_at start turns events t.legal t.served.0 opens (length events) (omega arith) m.net.state.place (ap last_place (take_whole events) ∙ so.stands.ready.place) n s) in
      slots_stand state (past ++ record_with start turns unanswered ∷ []) m.net.state back
      (run_leaves_standing state past start turns unanswered events [] m.net.state (lain_at so.lay) (lain_at back) (subst (Legal true) none_more t.legal) t.served.0 (λ e i. absurd i)
      (subst (λ (es : List Event). IsLeftState start turns es m.net.state) none_more (left_state start turns m so.stands)) (lain_stands state tell past start so.lay lain)
      (subst (BeginWithThese state (lain_at so.lay)) none_more (begins_so state m.net.replicas past start so.lay now tell lain so.run))
      (λ n s files mine. subst (λ (es : List Event). IsLeftOf state (lain_at so.lay n s) (replica n s es) files) none_more (each n s files mine).0))
      (λ n s files mine.
      let l = each n s files mine in (
        left_low m.net.state.place n s (replica n s events) (low n s) state (lain_at so.lay n s)
            (λ c was points tenure fence held. lain_low state tell past start so.lay lain turns events t.legal t.served.0 m.net.state.place so.stands.ready.place so.stands.ready.lawful so.tenures n s c was points tenure fence held) files l.0,
        l.1,
      ))

  -- ---- its last step wasn't saved

  module _ (new old : Members D G) (asked : Request) (step : MadeStep asked old new) where
    abbrev list : List Event
    list = new.net.replicas.events

    abbrev front : List Event
    front = old.net.replicas.events ++ step.more

    abbrev place : Placement
    place = old.net.state.place

    clock_still : last_clock old.net.replicas.events ≡ Some old.net.state.rules → last_clock front ≡ Some old.net.state.rules
    clock_still was = fold-append clock_after None old.net.replicas.events step.more ∙ keeps_clock step.more (last_clock old.net.replicas.events) (λ e i. open_clock (Some asked) old.net.state.rules (last_clock old.net.replicas.events) e (step.open_ e i)) ∙ was

    place_still : last_place old.net.replicas.events ≡ Some place → last_place front ≡ Some place
    place_still was = fold-append place_after None old.net.replicas.events step.more ∙ keeps_place step.more (last_place old.net.replicas.events) (λ e i. open_place (Some asked) old.net.state.rules (last_place old.net.replicas.events) e (step.open_ e i)) ∙ was

    -- the replicas are as they were before the step
    front_left : (held : Held D) (n s : ℕ) (files : Files) → IsLeftOf state held (replica n s (front ++ step.later)) files → IsLeftOf state held (replica n s front) files
    front_left held n s files left =
        let same = quiet_replica n s front step.later step.quiet in
        record {
          begun = λ some. held_before (replica n s front) (replica n s (front ++ step.later)) files same (left.begun (λ none. some (sym same.begun ∙ none)));
          unbegun = λ none. subst (λ (tried : List ℕ). HoldAsMade (MayLie state held) tried files) same.tried (left.unbegun (same.begun ∙ none));
        }

    front_taken : take (length front) list ≡ front
    front_taken = ap (take (length front)) step.grew ∙ take-append-le (length front) front step.later (omega arith) ∙ take_whole front

    front_short : length front ≤ length list
    front_short = omega (arith, ap length step.grew, length-append front step.later)

  unsaved_leaves : (new : Members D G) → LeavesUnsaved state new
  unsaved_leaves new past start first before now turns calls next_calls a b old was t are step =
      let back = held_after (Some new) now.held in
      let asked = request.One a in
      let line = turns ++ line_of a b ∷ [] in
      let events = new.net.replicas.events in
      let place = old.net.state.place in
      let tell = t.tell refl in
      let so : StandsSo state true past start now line new = t.after in
      let so_was : StandsSo state true past start before turns old = was.after in
      let lain = so.lain refl in
      let whole : events ≡ (old.net.replicas.events ++ step.more) ++ step.later = step.grew in
      let each = each_slot state new.net.replicas past start so.lay now now.held back tell lain so.run are so.still (λ s. refl) in
      let left = λ (n s : ℕ) (files : Files) (mine : MayLie state (lain_at back n s) files). subst (λ (es : List Event). IsLeftOf state (lain_at so.lay n s) (replica n s es) files) whole (each n s files mine).0 in
      let opens : OpensWithin start events = t.served.1.opens refl in
      let stands = so_was.stands in
      let taken = front_taken new old asked step in
      let low = λ (n s : ℕ). subst (λ (es : List Event). IsLowReplica place n s (replica n s es)) taken
      (low_at start line events t.legal t.served.0 opens (length (old.net.replicas.events ++ step.more)) (front_short new old asked step) place (ap last_place taken ∙ place_still new old asked step stands.ready.place) n s) in
      slots_stand state (past ++ record_with start turns (Some asked) ∷ []) old.net.state back
      (run_leaves_standing_before state past start turns (Some asked) old.net.replicas.events step.more step.later old.net.state (lain_at so.lay) (lain_at back) (subst (Legal true) whole t.legal) was.served.0 step.open_ step.quiet
      (record { rules_are = sym stands.left.rules; clock = clock_still new old asked step stands.ready.clock; seed_is = sym stands.left.seed; place = place_still new old asked step stands.ready.place })
      (lain_stands state tell past start so.lay lain) (subst (BeginWithThese state (lain_at so.lay)) whole (begins_so state new.net.replicas past start so.lay now tell lain so.run)) left)
      (λ n s files mine. (
        left_low place n s (replica n s (old.net.replicas.events ++ step.more)) (low n s) state (lain_at so.lay n s)
            (λ c mine_was points tenure fence held. lain_low state tell past start so.lay lain turns old.net.replicas.events was.legal was.served.0 place stands.ready.place stands.ready.lawful so_was.tenures n s c mine_was points tenure fence held) files
            (front_left new old asked step (lain_at so.lay n s) n s files (left n s files mine)),
        (each n s files mine).1,
      ))

-- ---- none was made

-- no turn was acknowledged
none_acked : (start : Option MetaState) (turns : List Turn) → ToldBy start turns [] → (turn : InnerTurn) → IsIn (inner_turns turns) turn → (nodes : List ℕ) → turn.answer ≡ answer.Acks nodes → ⊥
none_acked start turns told turn i nodes is =
    let line = IsIn-flat_map (λ (t : Turn). joined (lists_of t)) turns turn i in
    let cut = split_in turns line.0 line.1 in
    let q = position_in turns cut.0 line.0 cut.1 cut.2 turn line.2 in
    let ack = told.tells.writes.acked q.0 q.1 nodes (ap (λ (x : InnerTurn). x.answer) q.2 ∙ is) in
    nowhere ack.ack (event.Ack ack.send nodes) ack.acked
  where
    nowhere : (k : ℕ) (e : Event) → At [] k e → ⊥
    nowhere k e there = cc

-- so the life has none
nothing_carried : (past : List Record) (start : Option MetaState) (turns : List Turn) (unanswered : Option Request) (left : Option MetaState) → OpeningStands past None no_points → ToldBy start turns [] → OpeningStands (past ++ record_with start turns unanswered ∷ []) left no_points
nothing_carried past start turns unanswered left stand told = record {
  acked = λ turn among nodes is. absurd (none turn among nodes is);
  sent = λ n s p i. absurd i;
}
  where
    none : (turn : InnerTurn) → IsIn (earlier_turns (past ++ record_with start turns unanswered ∷ [])) turn → (nodes : List ℕ) → turn.answer ≡ answer.Acks nodes → ⊥
    none turn among nodes is =
        let run = IsIn-flat_map (λ (r : Record). inner_turns r.turns) (past ++ record_with start turns unanswered ∷ []) turn among in
        elim (IsIn-append_cases past (record_with start turns unanswered ∷ []) run.0 run.1) as (λ _. ⊥) [
          | inl old ↦ (let c = stand.acked turn (flat_map-IsIn (λ (r : Record). inner_turns r.turns) past run.0 turn old run.2) nodes is in let clash : None ≡ Some c.state = c.found in cc)
          | inr own ↦ elim own as (λ _. ⊥) [ inl same ↦ none_acked start turns told turn (subst (λ (r : Record). IsIn (inner_turns r.turns) turn) (sym same) run.2) nodes is | inr nothing ↦ nothing ]
        ]

-- each replica of a first placement has the first tenure
initial_tenures : (rf shards : ℕ) (nodes : List (List ℕ × List ℕ)) (place : Placement) → IsInitial rf shards nodes place → HasTenures place
initial_tenures rf shards nodes placed initial shard i a among =
    let s = in_at placed.shards shard i in
    let r = in_at shard a among in
    let has = (initial.each s.0 shard s.1).each r.0 a r.1 in
    omega (arith, ap (λ (x : Assignment). x.tenure) has.2)

module _ {D : Type 0} {G : Ghosts D} (state : D → DiskState) where
  -- what lies there has no points still
  unmade_leaves : (past : List Record) (start : Option MetaState) (first now : Depot D) (turns : List Turn) (calls : List ℕ) (unanswered : Option Request) (left : Option MetaState) → Tracks {G = G} state true past start first now turns None calls
      → ((n s tenure fence : ℕ) → tenure ≤ fence → fence ≤ 1 → AreLowBy left n s [] tenure fence) → AllSlotsStand state (past ++ record_with start turns unanswered ∷ []) left (held_after {D = D} {G = G} None now.held)
  unmade_leaves past start first now turns calls unanswered left t low files mine =
      let lain = t.after.lain refl in
      record {
        opening = no_points;
        slots = λ n s.
            let lies_now : MayLie state (lain_at now.held n s) (files n s) = mine n s in
            let b = lies_bare state (t.tell refl) (lain_at now.held n s) (lain.bare (disk_slot_of (slot_at n s))) (files n s) lies_now in
            record { tenure = b.tenure; fence = b.fence; whole = record { held = b.held; snapshots = lain.whole (disk_slot_of (slot_at n s)) (files n s) lies_now }; low = low n s b.tenure b.fence b.order b.first };
        stands = nothing_carried past start turns unanswered left lain.stand t.served.0;
      }

  pub leaves_standing : (members : Option (Members D G)) → LeavesStanding state members
  leaves_standing None past start first now turns calls unanswered t are = unmade_leaves past start first now turns calls unanswered None t (λ n s tenure fence order first. (refl, order, first))
  leaves_standing (Some m) past start first now turns calls unanswered t are = made_leaves state m past start first now turns calls unanswered t are

  pub leaves_unmade : (members : Option (Members D G)) → LeavesUnmade state members
  leaves_unmade (Some m) past start first now turns calls unanswered rf shards nodes next none t initial = (let clash : Some m ≡ None = none in cc)
  leaves_unmade None past start first now turns calls unanswered rf shards nodes next none t initial =
      unmade_leaves past start first now turns calls unanswered (Some next) t
      (λ n s tenure fence order first.
      let least : 1 ≤ next.place.version = omega (arith, initial.version) in
      (first_low next.place n s tenure least (initial_tenures rf shards nodes next.place initial) (omega (arith, order, first)), omega (arith, first, least)))

pub leaves_unsaved : {D : Type 0} {G : Ghosts D} (state : D → DiskState) (new : Members D G) → LeavesUnsaved state new
leaves_unsaved state new = unsaved_leaves state new

pub last_turn_may_be_open : {D : Type 0} (state : D → DiskState) → LastTurnMayBeOpen state
last_turn_may_be_open state past start turns a b left held stand files mine =
    let s = stand files mine in
    record { opening = s.opening; slots = s.slots; stands = unanswered_stands past start turns a b left s.opening s.stands }
