-- A replica that isn't begun waits for a bootstrap.
use Rattle.std.proofs.Common.{◌≡◌, ℕ, zero, suc, ◌<◌, ◌≤◌, ◌+◌, ◌-◌, List, [], ◌∷◌, ◌++◌, take, length, refl, sym, ap, ◌∙◌, subst, inl, inr, arith, Bool, true, false, append-nil}
use Rattle.std.specs.Prelude.{◌⊎◌, Some, None, Option, nat_eq, ◌&&◌, is_some}
use Rattle.std.specs.Cmp.Lexicographic.{pointwise}
use Rattle.std.proofs.lemmas.Bool.{cases_eq, cases_lt, or_left, cases_Bool, and_parts, or_right}
use Rattle.std.proofs.lemmas.Option.{same_Some}
use Rattle.std.proofs.lemmas.List.{take-append-le}
use Rattle.m3_model.specs.Members.{IsIn}
use Rattle.m3_model.specs.declared.act.Act.{Act}
use Rattle.m3_model.specs.declared.act.Act.TheVariants as act
use Rattle.m3_model.specs.declared.answer.Answer.{Answer}
use Rattle.m3_model.specs.declared.answer.Answer.TheVariants as answer
use Rattle.m3_model.specs.declared.placement.Assignment.{Assignment}
use Rattle.m3_model.specs.declared.placement.Placement.{Placement}
use Rattle.m3_model.specs.declared.reason.Reason.{Reason}
use Rattle.m3_model.specs.declared.reason.Reason.TheVariants as reason
use Rattle.m3_model.specs.declared.replica.Standing.TheVariants as standing
use Rattle.m3_model.specs.declared.rules.MetaState.{MetaState}
use Rattle.m3_model.specs.declared.turn.Turn.{Turn}
use Rattle.placement_core.proofs.ListLemmas.{Any-from_IsIn}
use Rattle.cluster_core.specs.Earlier.{last_place}
use Rattle.cluster_core.specs.Legal.{Legal}
use Rattle.cluster_core.specs.Lists.{At}
use Rattle.cluster_core.specs.Replicas.{replica, after}
use Rattle.cluster_core.specs.declared.event.Asked.TheVariants as asked
use Rattle.cluster_core.specs.declared.event.Event.{Event}
use Rattle.cluster_core.specs.declared.event.Event.TheVariants as event
use Rattle.cluster_core.specs.declared.event.StepCall.{StepCall}
use Rattle.cluster_core.specs.declared.event.StepCall.TheVariants as call
use Rattle.cluster_core.specs.declared.event.StepReply.{StepReply}
use Rattle.cluster_core.specs.declared.event.StepReply.TheVariants as reply
use Rattle.cluster_core.specs.declared.replica_state.ReplicaState.{ReplicaState}
use Rattle.cluster_core.proofs.ListLemmas.{at_some, at_take}
use Rattle.cluster_core.proofs.PlaceLemmas.{placed_at}
use Rattle.cluster_core.proofs.TraceLemmas.{lawful_step, replica_own, replica_suc, step_cases}
use Rattle.transcripts.specs.Fates.{OfNode}
use Rattle.transcripts.specs.Placements.{has_replica, later_placement, placement_after, printed, start_placement}
use Rattle.transcripts.specs.Record.{InnerTurn, TurnPosition, IsTurnPosition, inner_turns, joined, lists_of}
use Rattle.transcripts.specs.Waiting.{Replica, is_assigned, is_covering, is_member, waiting_after, waits_after, waits_at}
use Rattle.told_by.specs.Hears.{HearsBegun, HearsBy, HearsOpened, InStretch, IsBeginOf, IsBegun, IsFirstBegun}
use Rattle.told_by.specs.Makes.{EndsRestart, IsAssigned, IsCoveredSlot, MayAsk}
use Rattle.told_by.specs.Openings.{IsInitOf, opening_length, sets_seed}
use Rattle.told_by.specs.Spans.{From}
use Rattle.told_by.specs.Told.{ToldBy}
use Rattle.told_by.proofs.LeaveLemmas.{place_there}
use Rattle.told_by.proofs.LineLemmas.{line_below}
use Rattle.told_by.proofs.OpeningLemmas.{first_event}
use Rattle.told_by.proofs.PrintedLemmas.{after_up, ends_within, placements_stand}
use Rattle.told_by.proofs.TurnLemmas.{alone_is, at_cut, cut_at, own_list, position_in}
use Rattle.told_causes.proofs.AloneLemmas.{alone_turns, lines_before, take_none}
use Rattle.told_causes.proofs.StoodLemmas.{member_before, member_met}
use Rattle.told_causes.specs.Boot.{BootHasCause, BootIsSaid, IsBootAct, ArePlacesInOrder, IsKnownSlot, WasMember}
use Rattle.told_causes.specs.Standing.{IsHaltAct}
use Rattle.told_causes.proofs.HaltLemmas.{last_name, late_step, one_line, opening_low}
use Rattle.told_causes.proofs.NameLemmas.{name_is}
use Rattle.told_causes.proofs.RefusalLemmas.{first_boot, first_down, refused_law}
use Rattle.told_causes.proofs.WaitLemmas.{EndsWait, MemberAt, assigned_by, member_at, member_given, member_place, placed, placed_next, restart_waits, waiting, waiting_place, waits_next, waits_on}

-- ---- one step

disk_down : (r : ReplicaState) (c : StepCall) → (after r c (reply.Refused reason.Disk)).standing ≡ standing.Down
disk_down r (call.Begin tenure) = refl
disk_down r (call.Put client number rules version point) = refl
disk_down r (call.Merge page) = refl
disk_down r (call.Fence version) = refl
disk_down r (call.Tick rules) = refl
disk_down r _ = refl

-- what leaves a replica not begun: it wasn't, or it is restarted
refused_boot : (r : ReplicaState) (c : StepCall) (why : Reason) → (after r c (reply.Refused why)).standing ≡ standing.Boot → r.standing ≡ standing.Boot
refused_boot r c reason.Disk e = absurd (let bad : standing.Down ≡ standing.Boot = sym (disk_down r c) ∙ e in cc)
refused_boot r (call.Tick rules) (reason.Corrupt damage) e = absurd (let bad : standing.Down ≡ standing.Boot = e in cc)
refused_boot r _ (reason.Corrupt damage) e = absurd (let bad : standing.Down ≡ standing.Boot = e in cc)
refused_boot r (call.Begin tenure) _ e = e
refused_boot r (call.Put client number rules version point) _ e = e
refused_boot r (call.Merge page) _ e = e
refused_boot r (call.Fence version) _ e = e
refused_boot r (call.Tick rules) _ e = e
refused_boot r _ _ e = e

boot_by : (r : ReplicaState) (c : StepCall) (a : StepReply) → (after r c a).standing ≡ standing.Boot → (r.standing ≡ standing.Boot) ⊎ ((c ≡ call.Restart) × (a ≡ reply.Done))
boot_by r c (reply.Refused why) e = inl (refused_boot r c why e)
boot_by r call.Restart reply.Done e = inr (refl, refl)
boot_by r call.Stop reply.Done e = absurd (let bad : standing.Down ≡ standing.Boot = e in cc)
boot_by r (call.Begin tenure) (reply.Began fence points) e = absurd (let bad : standing.Open ≡ standing.Boot = e in cc)
boot_by r (call.Begin tenure) a e = inl e
boot_by r _ _ e = inl e

-- an act that sets the seed is an `init`
record IsInit (a : Act) (b : Answer) : Type 0 where
  rf : ℕ
  shards : ℕ
  seed : ℕ
  nodes : List (List ℕ × List ℕ)
  place : Placement
  version : ℕ
  act_is : a ≡ act.Init rf shards seed nodes
  answered : b ≡ answer.Placed place version

init_of : (a : Act) (b : Answer) → sets_seed a b ≡ true → IsInit a b
init_of (act.Init rf shards seed nodes) (answer.Placed place version) e = record { rf = rf; shards = shards; seed = seed; nodes = nodes; place = place; version = version; act_is = refl; answered = refl }
init_of _ _ e = absurd (let bad : false ≡ true = e in cc)

-- ---- bootstraps

-- a begin with this tenure stands there
begin_is : (events : List Event) (n s tenure i : ℕ) (c : StepCall) (a : StepReply) → IsBeginOf tenure c → At events i (event.Step n s c a) → At events i (event.Step n s (call.Begin tenure) a)
begin_is events n s tenure i c a is there = subst (λ x. At events i (event.Step n s x a)) is there

-- the turn has a begin of the slot, with the tenure that the placement gives it, where that stands when the turn begins
pub record HasBegun (events : List Event) (from to n s : ℕ) (stood : Placement) : Type 0 where
  pub last : last_place (take from events) ≡ Some stood
  pub tenure : ℕ
  pub given : IsAssigned stood n s tenure
  pub answer : StepReply
  pub begun : IsBegun answer
  pub position : ℕ
  pub low : from ≤ position
  pub high : position < to
  pub there : At events position (event.Step n s (call.Begin tenure) answer)

-- so a bootstrap that was answered ok begins each slot that it covers and that is a member when it begins
pub covered_begun : {tells : Bool} → (start : Option MetaState) (turns : List Turn) (events : List Event) → Legal tells events → (told : ToldBy start turns events) → (q : TurnPosition) → IsTurnPosition turns q
    → (n s : ℕ) (name : List ℕ) (stood : Placement) → last_place (take ((told.spans).from q) events) ≡ Some stood → has_replica (Some stood) s n ≡ true
    → ((i : ℕ) (done : List (ℕ × ℕ)) → At events i (event.Place stood done) → OfNode stood n (λ own. own ≡ name))
    → (node : List ℕ) (asked : Option ℕ) (available : List (ℕ × List ℕ)) (place : Placement) (version : ℕ) → q.turn.act ≡ act.Bootstrap node asked → q.turn.answer ≡ answer.Available available place version → name ≡ node → is_covering s asked ≡ true
    → HasBegun events ((told.spans).from q) ((told.spans).to q) n s stood
covered_begun start turns events legal told q at n s name stood last_there member names node asked available place version acts answers same covers =
    let from = (told.spans).from q in
    let there = place_there (take from events) stood last_there in
    let at_list = at_take events there.0 from (event.Place stood there.1) there.2 in
    let own = names there.0 there.1 at_list.0 in
    let slot : IsCoveredSlot (take from events) node asked n s = record { of_node = record { place = stood; last = last_there; named = record { instance_ = own.instance_; stands = own.stands; holds = own.holds ∙ same } }; covers = covers } in
    let hears : HearsBegun (take from events) (InStretch events from ((told.spans).to q)) node asked =
    (subst (λ b. HearsBy start (take from events) (InStretch events from ((told.spans).to q)) q (act.Bootstrap node asked) b) answers
    (subst (λ a. HearsBy start (take from events) (InStretch events from ((told.spans).to q)) q a q.turn.answer) acts ((told.tells).hears q at))).0 in
    let g = member_given stood s n member in
    let tenure = g.0 in
    let given = g.1 in
    let step = hears n s tenure slot given in
    let made = step.2 in
    let here = (made.2).1 in
    record { last = last_there; tenure = tenure; given = given; answer = step.0; begun = step.1; position = (made.2).0; low = here.0; high = here.1; there = begin_is events n s tenure (made.2).0 made.0 step.0 made.1 here.2 }

-- ---- the slot

module _ {tells : Bool} (start : Option MetaState) (turns : List Turn) (events : List Event) (legal : Legal tells events) (told : ToldBy start turns events) (places : ArePlacesInOrder start turns events told) (n s : ℕ) (name : List ℕ) (known : IsKnownSlot start turns events told n s name) where
  abbrev x : Replica
  x = record { shard = s; node = n; name = name }

  abbrev BootAt : ℕ → Type 0
  BootAt j = (replica n s (take j events)).standing ≡ standing.Boot

  stands_after : (i : ℕ) (c : StepCall) (a : StepReply) → At events i (event.Step n s c a) → (replica n s (take (suc i) events)).standing ≡ (after (replica n s (take i events)) c a).standing
  stands_after i c a there = ap (λ (r : ReplicaState). r.standing) (replica_own events legal n s i c a there)

  by_reply : (i tenure : ℕ) (a : StepReply) → IsBegun a ⊎ IsFirstBegun a → (a ≡ reply.Refused reason.NotOwned → ⊥) → At events i (event.Step n s (call.Begin tenure) a) → BootAt i → BootAt (suc i) → ⊥
  by_reply i tenure (reply.Began fence points) how owned there now next = let bad : standing.Open ≡ standing.Boot = sym (stands_after i (call.Begin tenure) (reply.Began fence points) there) ∙ next in cc
  by_reply i tenure (reply.Refused reason.Down) how owned there now next =
      let r = replica n s (take i events) in
      let down = first_down r (call.Begin tenure) (refused_law tells (take i events) n s r (call.Begin tenure) reason.Down (lawful_step events legal i n s (call.Begin tenure) (reply.Refused reason.Down) there)) in
      let bad : standing.Down ≡ standing.Boot = sym down ∙ now in
      cc
  by_reply i tenure (reply.Refused reason.NotOwned) how owned there now next = owned refl
  by_reply i tenure (reply.Refused reason.Disk) how owned there now next = let bad : standing.Down ≡ standing.Boot = sym (stands_after i (call.Begin tenure) (reply.Refused reason.Disk) there) ∙ next in cc
  by_reply i tenure (reply.Refused (reason.Corrupt damage)) how owned there now next = let bad : standing.Down ≡ standing.Boot = sym (stands_after i (call.Begin tenure) (reply.Refused (reason.Corrupt damage)) there) ∙ next in cc
  by_reply i tenure _ (inl h) owned there now next = absurd h
  by_reply i tenure _ (inr h) owned there now next = absurd h

  -- since the line began, or since a restart in it, the slot is at boot
  record Since (k j : ℕ) : Type 0 where
    low : ℕ
    at_least : told.ends k ≤ low
    at_most : low ≤ j
    boots : (i : ℕ) → low ≤ i → i ≤ j → BootAt i
    how : (low ≡ told.ends k) ⊎ ((i : ℕ) × (suc i ≡ low) × (told.ends k ≤ i) × At events i (event.Step n s call.Restart reply.Done))

  extend : (k j : ℕ) → Since k j → BootAt (suc j) → Since k (suc j)
  extend k j h next =
      let most = h.at_most in
      record {
        low = h.low;
        at_least = h.at_least;
        at_most = omega (arith, most);
        boots = λ i above below. elim (cases_eq i (suc j)) as (λ _. BootAt i) [ inl now ↦ subst BootAt (sym now) next | inr other ↦ h.boots i above (omega (arith, below, other)) ];
        how = h.how;
      }

  one_event : (k j : ℕ) (e : Event) → told.ends k ≤ j → At events j e → (BootAt j → Since k j) → BootAt (suc j) → Since k (suc j)
  one_event k j e low there was next =
      elim (step_cases n s (replica n s (take j events)) e) as (λ _. Since k (suc j)) [
        | inl same ↦ extend k j (was (ap (λ (r : ReplicaState). r.standing) (sym (replica_suc events legal n s j e there ∙ same)) ∙ next)) next
        | inr own ↦
            let at : At events j (event.Step n s own.0 own.1) = there ∙ ap Some own.2 in
            elim (boot_by (replica n s (take j events)) own.0 own.1 (ap (λ (r : ReplicaState). r.standing) (sym (replica_suc events legal n s j e there ∙ own.3)) ∙ next)) as (λ _. Since k (suc j)) [
              | inl before ↦ extend k j (was before) next
              | inr restart ↦ record {
                low = suc j;
                at_least = omega (arith, low);
                at_most = omega arith;
                boots = λ i above below. let now : suc j ≡ i = omega (arith, above, below) in subst BootAt now next;
                how = inr (j, refl, low, subst (λ a. At events j (event.Step n s call.Restart a)) restart.1 (subst (λ c. At events j (event.Step n s c own.1)) restart.0 at));
              }
            ]
      ]

  up_to : (k d : ℕ) → told.ends k + d ≤ length events → BootAt (told.ends k + d) → Since k (told.ends k + d)
  up_to k zero high now =
      let same : told.ends k + 0 ≡ told.ends k = omega arith in
      let here = subst BootAt same now in
      record { low = told.ends k; at_least = omega arith; at_most = omega arith; boots = λ i above below. let is : told.ends k ≡ i = omega (arith, above, below) in subst BootAt is here; how = inl refl }
  up_to k (suc d) high now =
      let next : told.ends k + suc d ≡ suc (told.ends k + d) = omega arith in
      let there = at_some events (told.ends k + d) (omega (arith, high)) in
      subst (Since k) (sym next) (one_event k (told.ends k + d) there.0 (omega arith) there.1 (λ before. up_to k d (omega (arith, high)) before) (subst BootAt next now))

  since : (k j : ℕ) → told.ends k ≤ j → j ≤ length events → BootAt j → Since k j
  since k j low high now = let whole : told.ends k + (j - told.ends k) ≡ j = omega (arith, low) in subst (Since k) whole (up_to k (j - told.ends k) (omega (arith, whole, high)) (subst BootAt (sym whole) now))

  -- ---- restarts

  record Restarted (i k : ℕ) : Type 0 where
    in_run : IsTurnPosition turns (told.makers i)
    line_is : length (told.makers i).lines ≡ k
    own_line : lists_of (told.makers i).line ≡ ((told.makers i).turn ∷ []) ∷ []
    pick : ℕ
    act_is : (told.makers i).turn.act ≡ act.Restart name pick
    ends : EndsRestart (From (opening_length start)) events told.makers (told.makers i) i n s

  restarted : (i k : ℕ) → k < length turns → told.ends k ≤ i → i < told.ends (suc k) → At events i (event.Step n s call.Restart reply.Done) → Restarted i k
  restarted i k less low high there =
      let late = late_step events legal i n s call.Restart reply.Done there in
      let above = opening_low start i late in
      let made = (told.tells).order.made i (event.Step n s call.Restart reply.Done) above late there tt in
      let q = told.makers i in
      let early : length q.lines < length turns = line_below turns q (made.0) in
      let asks = by_act q.turn.act refl ((told.tells).makes i (event.Step n s call.Restart reply.Done) above late there) in
      record {
        in_run = made.0;
        line_is = one_line start turns events legal told i (length q.lines) k early less (omega (arith, (told.lines).low q made.0, (made.1).0)) (omega (arith, (told.lines).high q made.0, (made.1).1)) low high;
        own_line = asks.2;
        pick = asks.0;
        act_is = asks.1;
        ends = (told.tells).restarts i n s reply.Done above late there;
      }
    where
      by_act : (a : Act) → (told.makers i).turn.act ≡ a → MayAsk start (take i events) (told.makers i) a (asked.Step n s call.Restart) → (pick : ℕ) × ((told.makers i).turn.act ≡ act.Restart name pick) × (lists_of (told.makers i).line ≡ ((told.makers i).turn ∷ []) ∷ [])
      by_act (act.Restart node pick) is h = let same = last_name events i n name node known.everywhere (h.0).of_node in (pick, is ∙ ap (λ m. act.Restart m pick) (sym same), (h.0).alone)
      by_act _ is h = absurd h

  line_at : (k : ℕ) → k < length turns → (line : Turn) × At turns k line
  line_at k less = at_some turns k less

  there_line : (q : TurnPosition) → IsTurnPosition turns q → At turns (length q.lines) q.line
  there_line q at = subst (λ ts. At ts (length q.lines) q.line) (sym at.in_run) (at_cut q.lines q.line at.after)

  place_is : (k : ℕ) → k ≤ length turns → (waiting x start turns k).place ≡ placed x start turns k
  place_is k high = waiting_place x start turns k (λ j lt. line_at j (omega (arith, lt, high)))

  -- where the slot is at boot since a restart, its node waits
  by_restart : (k : ℕ) → (less : k < length turns) → (h : Since k (told.ends (suc k))) → (i : ℕ) → suc i ≡ h.low → told.ends k ≤ i → At events i (event.Step n s call.Restart reply.Done) → (waiting x start turns (suc k)).waits ≡ true
  by_restart k less h i is low there = by r.ends
    where
      most : h.low ≤ told.ends (suc k)
      most = h.at_most

      r : Restarted i k
      r = restarted i k less low (omega (arith, is, most)) there

      by : EndsRestart (From (opening_length start)) events told.makers (told.makers i) i n s → (waiting x start turns (suc k)).waits ≡ true
      by (inl done) =
          let q = told.makers i in
          let at : At turns k q.line = subst (λ m. At turns m q.line) r.line_is (there_line q r.in_run) in
          let stays = is_member x (placed x start turns k) && is_member x (placed x start turns (suc k)) in
          waits_next x start turns k q.line at (place_is k (omega (arith, less)))
          ∙ or_right _ _ (ap (λ ts. waits_after x stays ts (waiting x start turns k).waits) (alone_turns q.line q.turn r.own_line) ∙ restart_waits x stays (waiting x start turns k).waits q.turn r.pick r.act_is done)
      by (inr stops) =
          let late : 2 ≤ stops.stop = late_step events legal stops.stop n s call.Stop reply.Done stops.there in
          let made = (told.tells).order.made stops.stop (event.Step n s call.Stop reply.Done) stops.mine late stops.there tt in
          let within : stops.stop < (told.spans).to (told.makers i) = subst (λ q. stops.stop < (told.spans).to q) stops.own (made.1).1 in
          let finishes = (told.lines).high (told.makers i) r.in_run in
          let later = stops.later in
          let now = h.boots (suc stops.stop) (omega (arith, is, later)) (omega (arith, within, finishes, ap (λ m. told.ends (suc m)) r.line_is)) in
          absurd (let bad : standing.Down ≡ standing.Boot = sym (stands_after stops.stop call.Stop reply.Done stops.there) ∙ now in cc)

  -- ---- begins

  -- a bootstrap of the slot, a member where it begins, leaves it not at boot
  boot_clash : (k j : ℕ) → ((i : ℕ) → told.ends k ≤ i → i ≤ j → BootAt i) → (q : TurnPosition) → IsTurnPosition turns q → length q.lines ≡ k → (told.spans).to q ≤ j → is_member x (placed x start turns k) ≡ true → ((place : Placement) → last_place (take ((told.spans).from q) events) ≡ Some place → has_replica (Some place) s n ≡ true)
      → (node : List ℕ) (asked : Option ℕ) (available : List (ℕ × List ℕ)) (place : Placement) (version : ℕ) → q.turn.act ≡ act.Bootstrap node asked → q.turn.answer ≡ answer.Available available place version → name ≡ node → is_covering s asked ≡ true → ⊥
  boot_clash k j boots q at line_is finishes member members node asked available place version acts answers same covers =
      let begins : told.ends k ≤ (told.spans).from q = omega (arith, (told.lines).low q at, ap told.ends line_is) in
      let less : k < length turns = omega (arith, line_below turns q at, line_is) in
      let was = member_place (placed x start turns k) s n member in
      let old = place_there (take (told.ends k) events) was.0 (placements_stand start turns events legal told k (omega (arith, less)) ∙ was.1) in
      let old_at = at_take events old.0 (told.ends k) (event.Place was.0 old.1) old.2 in
      let first = first_event events legal old.0 (event.Place was.0 old.1) old_at.0 in
      let p = placed_at events legal first.place [] first.there ((told.spans).from q) (omega (arith, old_at.1, begins)) (omega (arith, (told.tells).order.not_back q at, (told.tells).order.not_above q at)) in
      let is_there = members p.0 p.1 in
      let b = covered_begun start turns events legal told q at n s name p.0 p.1 is_there (λ i done there. known.has_name i p.0 done there is_there) node asked available place version acts answers same covers in
      by_begun p.0 b
    where
      by_begun : (stood : Placement) → HasBegun events ((told.spans).from q) ((told.spans).to q) n s stood → ⊥
      by_begun stood b =
          let begins : told.ends k ≤ (told.spans).from q = omega (arith, (told.lines).low q at, ap told.ends line_is) in
          let i = b.position in
          let low = b.low in
          let high = b.high in
          by_reply i b.tenure b.answer (inl b.begun) (λ is. known.owned q at stood (inl (subst IsBootAct (sym acts) tt, b.last)) b.tenure b.given i (low, high, subst (λ a. At events i (event.Step n s (call.Begin b.tenure) a)) is b.there)) b.there
          (boots i (omega (arith, begins, low)) (omega (arith, high, finishes))) (boots (suc i) (omega (arith, begins, low)) (omega (arith, high, finishes)))

  -- a line that prints the run's first placement is an `init`, which began each of its replicas
  init_clash : (k : ℕ) → k < length turns → ((i : ℕ) → told.ends k ≤ i → i ≤ told.ends (suc k) → BootAt i) → placed x start turns k ≡ None → is_member x (placed x start turns (suc k)) ≡ true → ⊥
  init_clash k less boots none member = by_start start refl
    where
      p : (place : Placement) × (placed x start turns (suc k) ≡ Some place)
      p = member_place (placed x start turns (suc k)) s n member

      last : last_place (take (told.ends (suc k)) events) ≡ Some p.0
      last = placements_stand start turns events legal told (suc k) less ∙ p.1

      there : (i : ℕ) × (done : List (ℕ × ℕ)) × At (take (told.ends (suc k)) events) i (event.Place p.0 done)
      there = place_there (take (told.ends (suc k)) events) p.0 last

      high : (At events there.0 (event.Place p.0 there.1)) × (there.0 < told.ends (suc k))
      high = at_take events there.0 (told.ends (suc k)) (event.Place p.0 there.1) there.2

      bound : told.ends (suc k) ≤ length events
      bound = ends_within start turns events told (suc k) less

      -- no event stands before the line
      empty : told.ends k ≡ 0
      empty = elim (cases_lt 0 (told.ends k)) as (λ _. told.ends k ≡ 0) [
        | inl some ↦
            let first = first_event events legal there.0 (event.Place p.0 there.1) high.0 in
            let h = placed_at events legal first.place [] first.there (told.ends k) some (ends_within start turns events told k (omega (arith, less))) in
            absurd (let bad : None ≡ Some h.0 = sym (placements_stand start turns events legal told k (omega (arith, less)) ∙ none) ∙ h.1 in cc)
        | inr none_before ↦ omega arith
      ]

      by_init : (q : TurnPosition) → IsTurnPosition turns q → IsInitOf start turns events told.spans q → ⊥
      by_init q at init =
          let above = high.1 in
          let early : length q.lines < length turns = line_below turns q at in
          let line_is = one_line start turns events legal told 0 (length q.lines) k early less (omega (arith, (told.lines).low q at, init.from_is)) (omega (arith, (told.lines).high q at, init.to_above)) (omega (arith, empty)) (omega (arith, above)) in
          let line = (init.alone).0 in
          let line_there : At turns k line = subst (λ m. At turns m line) line_is (init.alone).1 in
          let printed_is : placed x start turns (suc k) ≡ Some init.place =
          placed_next x start turns k line line_there
          ∙ ap (λ o. placement_after o (inner_turns (line ∷ []))) none
          ∙ ap (placement_after None) (alone_turns line q.turn (init.alone).2)
          ∙ ap (λ b. later_placement (printed b) None) init.answered in
          let m = member_at init.place s n (subst (λ o. has_replica o s n ≡ true) printed_is member) in
          let i = init_of q.turn.act q.turn.answer init.sets in
          let same : i.place ≡ init.place = same_Some i.place init.place (ap printed (sym i.answered ∙ init.answered)) in
          let hears : HearsOpened (InStretch events ((told.spans).from q) ((told.spans).to q)) init.place =
          subst (HearsOpened (InStretch events ((told.spans).from q) ((told.spans).to q))) same
          (subst (λ b. HearsBy start (take ((told.spans).from q) events) (InStretch events ((told.spans).from q) ((told.spans).to q)) q (act.Init i.rf i.shards i.seed i.nodes) b) i.answered
          (subst (λ a. HearsBy start (take ((told.spans).from q) events) (InStretch events ((told.spans).from q) ((told.spans).to q)) q a q.turn.answer) i.act_is ((told.tells).hears q at))) in
          by_step init.place m hears (omega (arith, (told.lines).low q at, ap told.ends line_is)) (omega (arith, (told.lines).high q at, ap (λ m. told.ends (suc m)) line_is)) (ap printed init.answered)
        where
          by_step : (place : Placement) (m : MemberAt place s n) → HearsOpened (InStretch events ((told.spans).from q) ((told.spans).to q)) place → told.ends k ≤ (told.spans).from q → (told.spans).to q ≤ told.ends (suc k) → printed q.turn.answer ≡ Some place → ⊥
          by_step place m hears begins finishes prints =
              let tenure = (m.assigned).tenure in
              let given : IsAssigned place n s tenure = (m.shard, m.there, Any-from_IsIn (λ (a : Assignment). (a.node ≡ n) × (a.tenure ≡ tenure)) m.shard m.assigned m.among (m.of_node, refl)) in
              let step = hears n s tenure given in
              let made = step.2 in
              let i = (made.2).0 in
              let here = (made.2).1 in
              let there = begin_is events n s tenure i made.0 step.0 made.1 here.2 in
              by_reply i tenure step.0 (inr step.1) (λ is. known.owned q at place (inr (init.sets, prints)) tenure given i (here.0, here.1, subst (λ a. At events i (event.Step n s (call.Begin tenure) a)) is there)) there
              (boots i (omega (arith, begins, here.0)) (omega (arith, here.1, finishes))) (boots (suc i) (omega (arith, begins, here.0)) (omega (arith, here.1, finishes)))

      by_start : (o : Option MetaState) → start ≡ o → ⊥
      by_start (Some state) is = let up = after_up (inner_turns (take k turns)) (start_placement start) state.place (ap start_placement is) in let bad : None ≡ Some up.0 = sym none ∙ up.1 in cc
      by_start None is =
          let e = at_some events 0 (omega (arith, high.1, bound)) in
          let b = (told.tells).init.begun (omega (arith, ap opening_length is)) e.0 e.1 in
          by_init b.0 b.1 b.2

  -- ---- lines

  -- it waits, or it was never a member
  abbrev Waits : ℕ → Type 0
  Waits k = ((waiting x start turns k).waits ≡ true) ⊎ ((j : ℕ) → j ≤ k → is_member x (placed x start turns j) ≡ false)

  by_line : (k : ℕ) → k < length turns → ((i : ℕ) → told.ends k ≤ i → i ≤ told.ends (suc k) → BootAt i) → Waits k → Waits (suc k)
  by_line k less boots (inl waits) =
      let line = line_at k less in
      let stays = is_member x (placed x start turns k) && is_member x (placed x start turns (suc k)) in
      inl (
      waits_next x start turns k line.0 line.1 (place_is k (omega (arith, less)))
      ∙ or_right _ _ (ap (waits_after x stays (inner_turns (line.0 ∷ []))) waits ∙ waits_on x stays (inner_turns (line.0 ∷ [])) (λ t m h. none line.0 line.1 t (subst (λ ts. IsIn ts t) (append-nil (joined (lists_of line.0))) m) h))
      )
    where
      -- a member before the line and behind it is one where a turn of it begins
      by_met : (q : TurnPosition) → IsTurnPosition turns q → length q.lines ≡ k → is_member x (placed x start turns k) ≡ true → is_member x (placed x start turns (suc k)) ≡ true → (place : Placement) → last_place (take ((told.spans).from q) events) ≡ Some place → has_replica (Some place) s n ≡ true
      by_met q at line_is before behind place last =
          member_met start turns events legal told places k less ((told.spans).from q) (omega (arith, (told.lines).low q at, ap told.ends line_is)) (omega (arith, (told.tells).order.not_back q at, (told.lines).high q at, ap (λ m. told.ends (suc m)) line_is)) place last n s before behind

      none : (line : Turn) → At turns k line → (t : InnerTurn) → IsIn (joined (lists_of line)) t → EndsWait x (is_member x (placed x start turns k) && is_member x (placed x start turns (suc k))) t → ⊥
      none line there t m h =
          let cut = cut_at turns k line there in
          let q = position_in turns cut.0 line cut.1 cut.2 t m in
          let line_is : length (q.0).lines ≡ k = ap length q.3 ∙ cut.3 in
          let ends = and_parts _ _ h.ends in
          let named = and_parts (pointwise nat_eq name h.node) (is_covering s h.asked) ends.1 in
          let stays = and_parts (is_member x (placed x start turns k)) (is_member x (placed x start turns (suc k))) ends.0 in
          boot_clash k (told.ends (suc k)) boots q.0 q.1 line_is (omega (arith, (told.lines).high q.0 q.1, ap (λ m. told.ends (suc m)) line_is)) stays.0 (by_met q.0 q.1 line_is stays.0 stays.1) h.node h.asked h.available h.place h.version (ap (λ (u : InnerTurn). u.act) q.2 ∙ h.act_is)
          (ap (λ (u : InnerTurn). u.answer) q.2 ∙ h.answered) (name_is name h.node named.0) named.1
  by_line k less boots (inr never) =
      elim (cases_Bool (is_member x (placed x start turns (suc k)))) as (λ _. Waits (suc k)) [
        | inr gone ↦ inr (λ j high. elim (cases_eq j (suc k)) as (λ _. is_member x (placed x start turns j) ≡ false) [
          | inl now ↦ subst (λ m. is_member x (placed x start turns m) ≡ false) (sym now) gone
          | inr other ↦ never j (omega (arith, high, other))
        ])
        | inl member ↦ by_placed (placed x start turns k) refl member
      ]
    where
      by_placed : (o : Option Placement) → placed x start turns k ≡ o → is_member x (placed x start turns (suc k)) ≡ true → Waits (suc k)
      by_placed None is member = absurd (init_clash k less boots is member)
      by_placed (Some place) is member =
          let line = line_at k less in
          let assigned : is_assigned x (placed x start turns k) (placed x start turns (suc k)) ≡ true = assigned_by (is_some (placed x start turns k)) (is_member x (placed x start turns k)) (is_member x (placed x start turns (suc k))) (ap is_some is) (never k (omega arith)) member in
          inl (waits_next x start turns k line.0 line.1 (place_is k (omega (arith, less))) ∙ or_left _ _ assigned)

  at_first : Waits 0
  at_first =
      elim (cases_Bool (is_member x (start_placement start))) as (λ _. Waits 0) [
        | inl member ↦ inl (ap (λ ls. (waiting_after x start ls).waits) (take_none turns) ∙ member)
        | inr gone ↦ inr (λ j high. let none : j ≡ 0 = omega (arith, high) in ap (λ m. is_member x (placed x start turns m)) none ∙ ap (λ ls. is_member x (placement_after (start_placement start) (inner_turns ls))) (take_none turns) ∙ gone)
      ]

  -- a replica that is at boot between two lines waits, or it was never a member
  boot_waits : (k : ℕ) → k ≤ length turns → BootAt (told.ends k) → Waits k
  boot_waits zero high now = at_first
  boot_waits (suc k) high now =
      let grows = (told.lines).ascends k (omega (arith, high)) in
      let h = since k (told.ends (suc k)) grows (ends_within start turns events told (suc k) high) now in
      elim h.how as (λ _. Waits (suc k)) [
        | inl begins ↦
            let boots : (i : ℕ) → told.ends k ≤ i → i ≤ told.ends (suc k) → BootAt i = λ i low below. h.boots i (omega (arith, begins, low)) below in
            by_line k (omega (arith, high)) boots (boot_waits k (omega (arith, high)) (boots (told.ends k) (omega arith) grows))
        | inr restart ↦ inl (by_restart k (omega (arith, high)) h restart.0 restart.1 restart.2 restart.3)
      ]

  -- ---- the turn

  cause_at : (p : TurnPosition) → IsTurnPosition turns p → ¬ IsHaltAct p.turn.act → WasMember start p s n → (i : ℕ) → (told.spans).from p ≤ i → i < (told.spans).to p → BootAt i → waits_at x start p ≡ true
  cause_at p at quiet was i low high now =
      let k = length p.lines in
      let less : k < length turns = line_below turns p at in
      let h = since k i (omega (arith, (told.lines).low p at, low)) (omega (arith, high, (told.tells).order.not_above p at)) now in
      by_how h.low h.boots h.how less (omega (arith, (told.lines).low p at, low)) (omega (arith, high, (told.lines).high p at)) h.at_most
    where
      front : take (length p.lines) turns ≡ p.lines
      front = lines_before start turns events legal told p at

      stood_before : (waiting_after x start p.lines).place ≡ placed x start turns (length p.lines)
      stood_before = ap (λ ls. (waiting_after x start ls).place) (sym front) ∙ place_is (length p.lines) (omega (arith, line_below turns p at))

      -- no bootstrap earlier in its list began the slot, where that is at boot since the line began
      none_earlier : ((m : ℕ) → told.ends (length p.lines) ≤ m → m ≤ i → BootAt m) → (after : Option Placement) → after ≡ placement_after (placed x start turns (length p.lines)) (p.earlier ++ p.beside) → (t : InnerTurn) → IsIn p.earlier t → EndsWait x (is_member x (waiting_after x start p.lines).place && is_member x after) t → ⊥
      none_earlier boots after after_is t m h =
          let q = own_list turns p at t m in
          let k = length p.lines in
          let before_p = (told.tells).order.order q.position p q.in_run at (inr (ap length q.lines_are, q.client_is, q.earlier)) in
          let finishes : (told.spans).to q.position ≤ i = omega (arith, before_p, low) in
          let ends = and_parts _ _ h.ends in
          let named = and_parts (pointwise nat_eq name h.node) (is_covering s h.asked) ends.1 in
          let both = and_parts (is_member x (waiting_after x start p.lines).place) (is_member x after) ends.0 in
          let member : is_member x (placed x start turns k) ≡ true = ap (is_member x) (sym stood_before) ∙ both.0 in
          boot_clash k i boots q.position q.in_run (ap length q.lines_are) finishes member
          (λ place last. member_before start turns events legal told places p at ((told.spans).from q.position) (omega (arith, (told.lines).low q.position q.in_run, ap (λ ls. told.ends (length ls)) q.lines_are)) (omega (arith, (told.tells).order.not_back q.position q.in_run, before_p)) place last n s member (ap (is_member x) (sym after_is) ∙ both.1))
          h.node h.asked h.available h.place h.version (ap (λ (u : InnerTurn). u.act) q.turn_is ∙ h.act_is)
          (ap (λ (u : InnerTurn). u.answer) q.turn_is ∙ h.answered) (name_is name h.node named.0) named.1

      by_waits : ((m : ℕ) → told.ends (length p.lines) ≤ m → m ≤ i → BootAt m) → Waits (length p.lines) → waits_at x start p ≡ true
      by_waits boots (inl waits) =
          let before = waiting_after x start p.lines in
          let stays = is_member x before.place && is_member x (placement_after before.place (p.earlier ++ p.beside)) in
          ap (waits_after x stays p.earlier) (ap (λ ls. (waiting_after x start ls).waits) (sym front) ∙ waits) ∙ waits_on x stays p.earlier (none_earlier boots (placement_after before.place (p.earlier ++ p.beside)) (ap (λ o. placement_after o (p.earlier ++ p.beside)) stood_before))
      by_waits boots (inr never) =
          let j = was.lines in
          let not_later = was.not_later in
          let same : take j p.lines ≡ take j turns = sym (ap (take j) at.in_run ∙ take-append-le j p.lines (p.line ∷ at.after) not_later) in
          absurd (let bad : true ≡ false = sym was.member ∙ ap (λ ls. has_replica (placement_after (start_placement start) (inner_turns ls)) s n) same ∙ never j not_later in cc)

      by_how : (from : ℕ) → ((m : ℕ) → from ≤ m → m ≤ i → BootAt m) → (from ≡ told.ends (length p.lines)) ⊎ ((m : ℕ) × (suc m ≡ from) × (told.ends (length p.lines) ≤ m) × At events m (event.Step n s call.Restart reply.Done)) → length p.lines < length turns
          → told.ends (length p.lines) ≤ i → i < told.ends (suc (length p.lines)) → from ≤ i → waits_at x start p ≡ true
      by_how from boots (inl begins) less above below most = by_waits (λ m within. boots m (omega (arith, begins, within))) (boot_waits (length p.lines) (omega (arith, less)) (boots (told.ends (length p.lines)) (omega (arith, begins)) above))
      by_how from boots (inr m) less above below most =
          let r = restarted m.0 (length p.lines) less m.2 (omega (arith, m.1, most, below)) m.3 in
          let q = told.makers m.0 in
          let is = alone_is turns q p (q.line, there_line q r.in_run, r.own_line) at (sym r.line_is) in
          absurd (quiet (subst (λ (t : InnerTurn). IsHaltAct t.act) is (subst IsHaltAct (sym r.act_is) tt)))

pub boot_said : BootIsSaid
boot_said start p place node shard name named waits =
    record { instance_ = named.instance_; stands = named.stands; holds = subst (λ own. waits_at (record { shard = shard; node = node; name = own }) start p ≡ true) (sym named.holds) waits }

pub boot_cause : {tells : Bool} → BootHasCause tells
boot_cause {tells} start turns events legal told p at quiet n s name known c step =
    let there = (step.1).2 in
    let r = replica n s (take step.0 events) in
    cause_at start turns events legal told known.places n s name known.slot p at quiet known.was step.0 (step.1).0 (step.1).1 (first_boot r c (refused_law tells (take step.0 events) n s r c reason.Boot (lawful_step events legal step.0 n s c (reply.Refused reason.Boot) there)))
