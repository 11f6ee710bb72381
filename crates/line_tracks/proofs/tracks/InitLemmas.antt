-- Lines before a cluster stands, and those of an `init`.
use Rattle.std.proofs.Common.{◌≡◌, ℕ, ◌≤◌, List, [], ◌∷◌, ◌++◌, length, sym, ap, subst, ◌∙◌, inl, inr, arith, Bool, true, false}
use Rattle.std.specs.Prelude.{Option, Some, None, IsSome}
use Rattle.std.specs.FinMap.{empty}
use Rattle.std.proofs.lemmas.Option.{same_Some}
use Rattle.m3_model.specs.declared.act.Act.{Act}
use Rattle.m3_model.specs.declared.act.Act.TheVariants as act
use Rattle.m3_model.specs.declared.answer.Answer.{Answer}
use Rattle.m3_model.specs.declared.answer.Answer.TheVariants as answer
use Rattle.m3_model.specs.declared.placement.Placement.{Placement}
use Rattle.m3_model.specs.declared.turn.Turn.{Turn}
use Rattle.m3_model.specs.declared.rules.MetaState.{MetaState}
use Rattle.m3_outside.specs.Causes.{RoseBy}
use Rattle.m3_outside.specs.Depots.{Depot, TellAll}
use Rattle.m3_outside.specs.DiskState.{DiskState, IsLawfulDisk}
use Rattle.m3_outside.specs.declared.disk.Disk.{Ghosts}
use Rattle.m3_outside.specs.declared.slot.DiskSlot.{DiskSlot}
use Rattle.node_calls.specs.replica_machine.Machines.{MachineState}
use Rattle.node_calls.specs.replica_exchange.declared.member.Member.{Member}
use Rattle.node_calls.specs.replica_exchange.declared.slot.Slot.{Slot}
use Rattle.node_calls.specs.replica_calls.Slots.{MemberMap}
use Rattle.node_calls.specs.session_net.Runs.{slot_at}
use Rattle.told_runs.specs.told_by.Lines.{InitLine, PlainLine}
use Rattle.told_runs.specs.told_moves.Order.{IsInitAct}
use Rattle.transcripts.specs.Faults.{Fault}
use Rattle.transcripts.specs.Record.{Record, line_of}
use Rattle.node_calls.specs.cluster_members.declared.members.Members.{Members}
use Rattle.first_cluster.specs.Depots.{disk_slot_of}
use Rattle.first_cluster.specs.First.{IsFirst, IsRefusedInit, IsDiskUntaken}
use Rattle.first_cluster.specs.Lending.{HasReturned, HasTaken, IsOpened}
use Rattle.first_cluster.proofs.BareLemmas.{returned_bare}
use Rattle.first_cluster.proofs.SlotLists.{in_or_out}
use Rattle.line_tracks.specs.acts.Inits.{untaken_at}
use Rattle.line_tracks.proofs.acts.InitLemmas.{first_tells}
use Rattle.line_tracks.proofs.acts.GroupLemmas.{lacking_groups_tell}
use Rattle.line_tracks.proofs.acts.UntakenLemmas.{untaken_tells}
use Rattle.line_tracks.specs.acts.Settings.{LeavesNothing}
use Rattle.line_tracks.specs.acts.Quiet.{SetsNone}
use Rattle.line_tracks.proofs.acts.DueLemmas.{inits_are_due, order_is_due}
use Rattle.line_tracks.proofs.acts.NothingLemmas.{refused_tells}
use Rattle.line_tracks.proofs.acts.QuietLemmas.{keeps_stops_so, sets_nothing_so}
use Rattle.line_tracks.proofs.acts.StandLemmas.{no_placement, stays_unmade}
use Rattle.line_tracks.specs.tracks.Numbers.{numbers_by}
use Rattle.line_tracks.specs.tracks.Steps.{AddsLine}
use Rattle.line_tracks.specs.tracks.Tracks.{Tracks}
use Rattle.line_tracks.proofs.tracks.AddLemmas.{anew_adds, served_adds}
use Rattle.line_tracks.proofs.tracks.FailureLemmas.{rose_none}
use Rattle.line_tracks.proofs.tracks.FirstLemmas.{first_stands_so}
use Rattle.line_tracks.proofs.tracks.StepLemmas.{init_on, plain_on}
use Rattle.line_tracks.specs.tracks.Lines.{InitsAreTracked, IsLeft, OrdersAreTracked}
use Rattle.line_tracks.specs.tracks.Lain.{LayBare}
use Rattle.line_tracks.proofs.tracks.LainLemmas.{returned_whole}
use Rattle.line_tracks.proofs.tracks.SharedLemmas.{have_left, memory_tells, stays}

-- ---- counts of faults

-- where disks were taken, no slot's fell
taken_later : {D : Type 0} (state : D → DiskState) (slots : List Slot) (old now : Depot D) (members : MemberMap D) → HasTaken state slots old members now → (disk_slot : DiskSlot) → old.counted disk_slot ≤ now.counted disk_slot
taken_later state slots old now members h disk_slot =
    let s : Slot = slot_at disk_slot.node disk_slot.shard in
    elim (in_or_out slots s) as (λ _. old.counted disk_slot ≤ now.counted disk_slot) [
      | inl i ↦ (let same : now.counted disk_slot ≡ old.counted disk_slot = (h.taken s i).counted in omega (arith, same))
      | inr out ↦ (let same : now.counted disk_slot ≡ old.counted disk_slot = (h.others s out).counted in omega (arith, same))
    ]

-- nor that of a disk over which a replica was opened
opened_later : {D : Type 0} (state : D → DiskState) (depot : Depot D) (s : Slot) (r : Member D) → IsOpened state depot s r → depot.counted (disk_slot_of s) ≤ (state r.machine.disk).faults
opened_later {D} state depot s r opened =
    let first : (state opened.disk).faults ≡ depot.counted (disk_slot_of s) = opened.counted in
    elim opened.begun as (λ _. depot.counted (disk_slot_of s) ≤ (state r.machine.disk).faults) [
      | inl same ↦ (let is : (state r.machine.disk).faults ≡ (state opened.disk).faults = ap (λ (x : Member D). (state x.machine.disk).faults) same in omega (arith, first, is))
      | inr begun ↦
          (let own = begun.1 in
          let machine : r.machine ≡ own.3.0 = ap (λ (x : Member D). x.machine) (sym (same_Some own.0 r (sym own.1))) ∙ own.3.2 in
          let is : (state r.machine.disk).faults ≡ (state own.3.0.disk).faults = ap (λ (x : MachineState D). (state x.disk).faults) machine in
          let later : (state opened.disk).faults ≤ (state own.3.0.disk).faults = own.3.1.faults.later in
          omega (arith, first, is, later))
    ]

-- where they were given back, none fell
returned_later : {D : Type 0} (state : D → DiskState) (old now : Depot D) → HasReturned state old empty now → (disk_slot : DiskSlot) → old.counted disk_slot ≤ now.counted disk_slot
returned_later state old now h disk_slot =
    let s : Slot = slot_at disk_slot.node disk_slot.shard in
    elim (h.each s) as (λ _. old.counted disk_slot ≤ now.counted disk_slot) [
      | inl untouched ↦ (let same : now.counted disk_slot ≡ old.counted disk_slot = untouched.counted in omega (arith, same))
      | inr back ↦
          (let same : now.counted disk_slot ≡ (state back.member.machine.disk).faults = back.counted in
          let later : old.counted disk_slot ≤ (state back.member.machine.disk).faults = opened_later state old s back.member back.opened in
          omega (arith, same, later))
    ]

-- ---- none stands

module _ {D : Type 0} {G : Ghosts D} (state : D → DiskState) (tells : Bool) (past : List Record) (first before : Depot D) (turns : List Turn) (calls : List ℕ) (t : Tracks {G = G} state tells past None first before turns None calls) where
  -- nothing came to the list of a line that sets nothing
  unmade : (now : Depot D) (a : Act) (b : Answer) (untaken : List Fault) → AddsLine PlainLine tells past None untaken [] t.delivered turns [] a b [] → SetsNone b → RoseBy (length untaken) before.faults now.faults → ((disk_slot : DiskSlot) → before.counted disk_slot ≤ now.counted disk_slot)
      → (tells ≡ true → LayBare state past now.held) → Tracks {G = G} state tells past None first now (turns ++ line_of a b ∷ []) None (numbers_by a b calls)
  unmade now a b untaken adds sets rose later lain =
      plain_on {G = G} state None tells past None first before now turns calls a b None t (record {
        untaken = untaken;
        messages = [];
        adds = adds;
        legal = t.legal;
        rose = rose;
        later = later;
        after = record { found = t.after.found; none = stays_unmade turns a b t.after.none (sets_nothing_so a b sets) (λ name. keeps_stops_so a b sets name false); lain = lain };
      })

  -- the same where no disk is to be counted
  unmade_so : (now : Depot D) (a : Act) (b : Answer) → LeavesNothing None turns [] a b → before.faults ≤ now.faults → ((disk_slot : DiskSlot) → before.counted disk_slot ≤ now.counted disk_slot) → (tells ≡ true → LayBare state past now.held)
      → Tracks {G = G} state tells past None first now (turns ++ line_of a b ∷ []) None (numbers_by a b calls)
  unmade_so now a b h later each lain = unmade now a b [] (served_adds PlainLine tells past None turns [] t.delivered [] a b [] t.were h.line) h.sets_none (rose_none before.faults now.faults later) each lain

  out_of_order : (a : Act) → ¬ IsInitAct a → Tracks {G = G} state tells past None first before (turns ++ line_of a answer.Order ∷ []) None (numbers_by a answer.Order calls)
  out_of_order a other = unmade_so before a answer.Order (refused_tells None turns [] a answer.Order (order_is_due None turns (no_placement turns t.after.none) a answer.Order other)) (omega arith) (λ disk_slot. omega arith) t.after.lain

  returned_lain : (now : Depot D) → TellAll state → LayBare state past before.held → HasReturned state before empty now → LayBare state past now.held
  returned_lain now tell lain back = record { bare = returned_bare state before now tell lain.bare back; whole = returned_whole state tell before now lain.whole back; stand = lain.stand }

  module _ (now : Depot D) (rf shards seed : ℕ) (nodes : List (List ℕ × List ℕ)) where
    abbrev a : Act
    a = act.Init rf shards seed nodes

    -- an `init` was refused, and its disks are back, or were never out
    refused_tracked : (b : Answer) → IsRefusedInit state rf shards seed nodes before now b → Tracks {G = G} state tells past None first now (turns ++ line_of a b ∷ []) None calls
    refused_tracked (answer.Disk name shard) h =
        let untaken : IsDiskUntaken rf shards seed nodes name shard before now = h.0 in
        let faults : List Fault = untaken_at turns untaken.node shard ∷ [] in
        unmade now a (answer.Disk name shard) faults (anew_adds PlainLine tells past faults turns t.delivered a (answer.Disk name shard) [] t.were (untaken_tells {D = D} tells turns rf shards seed nodes name shard before now t.after.none untaken)) tt untaken.rose
        (returned_later state before now h.1) (λ e. returned_lain now (t.tell e) (t.after.lain e) h.1)
    refused_tracked (answer.Group shard) h =
        subst (λ (d : Depot D). Tracks {G = G} state tells past None first d (turns ++ line_of a (answer.Group shard) ∷ []) None calls) (sym h.1)
        (unmade before a (answer.Group shard) [] (anew_adds PlainLine tells past [] turns t.delivered a (answer.Group shard) [] t.were (lacking_groups_tell tells turns rf shards seed nodes shard t.after.none h.0)) tt (rose_none before.faults before.faults (omega arith))
        (λ disk_slot. omega arith) t.after.lain)
    refused_tracked answer.Memory h = unmade_so now a answer.Memory (memory_tells None turns [] a) h.later (returned_later state before now h) (λ e. returned_lain now (t.tell e) (t.after.lain e) h)
    refused_tracked _ h = absurd h

    -- a cluster was made
    made_tracked : ((d : D) → IsLawfulDisk (state d)) → (m : Members D G) → IsLeft tells m → IsFirst state rf shards seed nodes before now m → (place : Placement) (version : ℕ) → place ≡ m.net.state.place → version ≡ place.version
        → Tracks state tells past None first now (turns ++ line_of a (answer.Placed place version) ∷ []) (Some m) calls
    made_tracked lawful m left is place version same number =
        let own : Placement = m.net.state.place in
        let b : Answer = answer.Placed own own.version in
        let number_is : version ≡ own.version = number ∙ ap (λ (p : Placement). p.version) same in
        let tells_so = first_tells state lawful m tells turns rf shards seed nodes before now t.tell (λ e. (t.after.lain e).bare) t.after.none is in
        subst (λ (answered : Answer). Tracks state tells past None first now (turns ++ line_of a answered ∷ []) (Some m) calls) (λ i. answer.Placed (sym same i) (sym number_is i)) (init_on state None tells past None first before now turns calls a b (Some m) t (record {
          untaken = [];
          messages = [];
          adds = anew_adds InitLine tells past [] turns t.delivered a b m.net.replicas.events t.were tells_so;
          legal = left.legal;
          rose = rose_none before.faults now.faults is.opened.taken.later;
          later = taken_later state m.slots.items before now is.opened.made is.opened.taken;
          after = first_stands_so state m tells past turns rf shards seed nodes before now t.tell t.after.lain t.after.none is left.legal;
        }))

-- where none stands, each act but an `init` is out of order
pub orders_are_tracked : {D : Type 0} {G : Ghosts D} (state : D → DiskState) (none : Option (Members D G)) → OrdersAreTracked state none
orders_are_tracked {D} {G} state None tells past start first now turns calls a is other t =
    subst (λ (x : Option MetaState). Tracks {D = D} {G = G} state tells past x first now (turns ++ line_of a answer.Order ∷ []) None (numbers_by a answer.Order calls)) (sym t.after.found)
    (out_of_order state tells past first now turns calls (subst (λ (x : Option MetaState). Tracks {D = D} {G = G} state tells past x first now turns None calls) t.after.found t) a other)
orders_are_tracked state (Some m) tells past start first now turns calls a is other t = absurd (let bad : Some m ≡ None = is in cc)

-- ---- one stands

-- another `init` is out of order
again : {D : Type 0} {G : Ghosts D} (state : D → DiskState) (old : Option (Members D G)) (tells : Bool) (past : List Record) (start : Option MetaState) (first now : Depot D) (turns : List Turn) (calls : List ℕ) (rf shards seed : ℕ) (nodes : List (List ℕ × List ℕ)) → IsSome old → Tracks state tells past start first now turns old calls
    → Tracks state tells past start first now (turns ++ line_of (act.Init rf shards seed nodes) answer.Order ∷ []) old calls
again state None tells past start first now turns calls rf shards seed nodes is t = absurd (let bad : false ≡ true = is in cc)
again state (Some m) tells past start first now turns calls rf shards seed nodes is t =
    let a : Act = act.Init rf shards seed nodes in
    stays state m tells past start first now turns calls a answer.Order t (refused_tells start turns m.net.replicas.events a answer.Order (inits_are_due start turns m.net.state.place m.net.state.rules (have_left start turns m t.after.stands) a answer.Order tt))

-- ---- the line of an `init`

pub inits_are_tracked : {D : Type 0} {G : Ghosts D} (state : D → DiskState) → ((d : D) → IsLawfulDisk (state d)) → (old : Option (Members D G)) → InitsAreTracked state old
inits_are_tracked {D} {G} state lawful old tells past start first before after turns calls rf shards seed nodes (answer.Placed place version) new t left made =
    let so : Tracks {G = G} state tells past start first before turns None calls = subst (λ (o : Option (Members D G)). Tracks state tells past start first before turns o calls) made.0 t in
    let none : Tracks {G = G} state tells past None first before turns None calls = subst (λ (x : Option MetaState). Tracks {G = G} state tells past x first before turns None calls) so.after.found so in
    subst (λ (x : Option MetaState). Tracks state tells past x first after (turns ++ line_of (act.Init rf shards seed nodes) (answer.Placed place version) ∷ []) new calls) (sym so.after.found)
    (subst (λ (o : Option (Members D G)). Tracks state tells past None first after (turns ++ line_of (act.Init rf shards seed nodes) (answer.Placed place version) ∷ []) o calls) (sym made.2)
    (made_tracked state tells past first before turns calls none after rf shards seed nodes lawful made.1 (left made.1 made.2) made.3 place version made.4 made.5))
inits_are_tracked {D} {G} state lawful old tells past start first before after turns calls rf shards seed nodes answer.Order new t left made =
    subst (λ (o : Option (Members D G)). Tracks state tells past start first after (turns ++ line_of (act.Init rf shards seed nodes) answer.Order ∷ []) o calls) (sym made.1)
    (subst (λ (d : Depot D). Tracks state tells past start first d (turns ++ line_of (act.Init rf shards seed nodes) answer.Order ∷ []) old calls) (sym made.2) (again state old tells past start first before turns calls rf shards seed nodes made.0 t))
inits_are_tracked {D} {G} state lawful old tells past start first before after turns calls rf shards seed nodes b new t left made =
    let so : Tracks {G = G} state tells past start first before turns None calls = subst (λ (o : Option (Members D G)). Tracks state tells past start first before turns o calls) made.0 t in
    let none : Tracks {G = G} state tells past None first before turns None calls = subst (λ (x : Option MetaState). Tracks {G = G} state tells past x first before turns None calls) so.after.found so in
    subst (λ (x : Option MetaState). Tracks state tells past x first after (turns ++ line_of (act.Init rf shards seed nodes) b ∷ []) new calls) (sym so.after.found)
    (subst (λ (o : Option (Members D G)). Tracks state tells past None first after (turns ++ line_of (act.Init rf shards seed nodes) b ∷ []) o calls) (sym made.1) (refused_tracked state tells past first before turns calls none after rf shards seed nodes b made.2))
