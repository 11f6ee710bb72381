-- A node whose replica serves isn't stopped, and the replica doesn't lie idle.
use Rattle.std.proofs.Common.{◌≡◌, ℕ, zero, suc, ◌<◌, ◌≤◌, ◌+◌, ◌-◌, List, [], ◌∷◌, ◌++◌, take, length, length-append, refl, sym, ap, ◌∙◌, subst, inl, inr, arith, Bool, true, false, append-nil, cond}
use Rattle.std.specs.Prelude.{◌⊎◌, Some, Option, fold, nat_eq, not, ◌&&◌, ◌||◌, is_none, IsTrue}
use Rattle.std.specs.Cmp.Lexicographic.{pointwise}
use Rattle.std.proofs.lemmas.Bool.{cases_eq}
use Rattle.std.proofs.lemmas.List.Sums.{fold-append}
use Rattle.std.proofs.lemmas.Option.{same_Some}
use Rattle.m3_model.specs.Calls.{is_call}
use Rattle.m3_model.specs.Members.{IsIn}
use Rattle.m3_model.specs.declared.act.Act.{Act}
use Rattle.m3_model.specs.declared.act.Act.TheVariants as act
use Rattle.m3_model.specs.declared.answer.Answer.{Answer}
use Rattle.m3_model.specs.declared.answer.Answer.TheVariants as answer
use Rattle.m3_model.specs.declared.placement.Placement.{Placement}
use Rattle.m3_model.specs.declared.point.Point.{Point}
use Rattle.m3_model.specs.declared.reason.Reason.{Reason}
use Rattle.m3_model.specs.declared.reason.Reason.TheVariants as reason
use Rattle.m3_model.specs.declared.replica.Standing.TheVariants as standing
use Rattle.m3_model.specs.declared.rules.MetaState.{MetaState}
use Rattle.m3_model.specs.declared.turn.Turn.{Turn}
use Rattle.m3_model.proofs.MemberLemmas.{IsIn-append_left, IsIn-append_right}
use Rattle.cluster_core.specs.Legal.{Legal}
use Rattle.cluster_core.specs.Lists.{At}
use Rattle.cluster_core.specs.Replicas.{replica, after}
use Rattle.cluster_core.specs.Rows.{LawfulStep}
use Rattle.cluster_core.specs.declared.event.Asked.TheVariants as asked
use Rattle.cluster_core.specs.declared.event.Event.{Event}
use Rattle.cluster_core.specs.declared.event.Event.TheVariants as event
use Rattle.cluster_core.specs.declared.event.StepCall.{StepCall}
use Rattle.cluster_core.specs.declared.event.StepCall.TheVariants as call
use Rattle.cluster_core.specs.declared.event.StepReply.{StepReply}
use Rattle.cluster_core.specs.declared.event.StepReply.TheVariants as reply
use Rattle.cluster_core.specs.declared.replica_state.ReplicaState.{ReplicaState}
use Rattle.cluster_core.proofs.ListLemmas.{at_some, at_take, take_at}
use Rattle.cluster_core.proofs.TraceLemmas.{lawful_step, replica_own, replica_suc, step_cases}
use Rattle.transcripts.specs.Fates.{is_stopped, stopped_by}
use Rattle.transcripts.specs.Placements.{printed, start_placement}
use Rattle.transcripts.specs.Record.{InnerTurn, TurnPosition, IsTurnPosition, inner_turns, joined, lists_of}
use Rattle.transcripts.specs.Waiting.{IsBegunFor, Replica, idles_after, idles_by, is_covering, is_member}
use Rattle.told_by.specs.Hears.{DidAsAsked, Happens, HasServed, HearsBy, HearsEachSlot, InStretch, IsNamedBy, IsOwnCall, IsSweepCall}
use Rattle.told_by.specs.Makes.{IsNamedLast, MayAsk, OpensReplicas}
use Rattle.told_by.specs.Told.{ToldBy}
use Rattle.told_by.proofs.LeaveLemmas.{place_there}
use Rattle.told_by.proofs.LineLemmas.{line_below}
use Rattle.told_by.proofs.PrintedLemmas.{ends_within}
use Rattle.told_by.proofs.TurnLemmas.{alone_is, at_cut, before_line, before_there, comes_later, cut_at, in_its_line, in_other_list, inner-append, is_it, position_in, stands}
use Rattle.told_causes.specs.Calls.{IsUsedBy, ServedAreNamed, Within}
use Rattle.told_causes.specs.Running.{Serves, WhoServedRuns, WhoServesRuns}
use Rattle.told_causes.specs.Standing.{HaltsAlone, IsHaltAct}
use Rattle.told_causes.proofs.AloneLemmas.{lines_before, take_none}
use Rattle.told_causes.proofs.HaltLemmas.{late_step, one_line, opening_low}
use Rattle.told_causes.proofs.NameLemmas.{name_is, name_self, take_line}
use Rattle.told_causes.proofs.StoodLemmas.{in_line}

-- ---- one step

-- the step begins the replica
pub record Begins (c : StepCall) (a : StepReply) : Type 0 where
  pub tenure : ℕ
  pub fence : ℕ
  pub points : List Point
  pub call_is : c ≡ call.Begin tenure
  pub reply_is : a ≡ reply.Began fence points

pub refused_open : (r : ReplicaState) (c : StepCall) (why : Reason) → (after r c (reply.Refused why)).standing ≡ standing.Open → r.standing ≡ standing.Open
refused_open r (call.Begin tenure) reason.Disk e = absurd (let bad : standing.Down ≡ standing.Open = e in cc)
refused_open r (call.Put client number rules version point) reason.Disk e = absurd (let bad : standing.Down ≡ standing.Open = e in cc)
refused_open r (call.Merge page) reason.Disk e = absurd (let bad : standing.Down ≡ standing.Open = e in cc)
refused_open r (call.Fence version) reason.Disk e = absurd (let bad : standing.Down ≡ standing.Open = e in cc)
refused_open r (call.Tick rules) reason.Disk e = absurd (let bad : standing.Down ≡ standing.Open = e in cc)
refused_open r _ reason.Disk e = absurd (let bad : standing.Down ≡ standing.Open = e in cc)
refused_open r (call.Tick rules) (reason.Corrupt damage) e = absurd (let bad : standing.Down ≡ standing.Open = e in cc)
refused_open r _ (reason.Corrupt damage) e = absurd (let bad : standing.Down ≡ standing.Open = e in cc)
refused_open r (call.Begin tenure) _ e = e
refused_open r (call.Put client number rules version point) _ e = e
refused_open r (call.Merge page) _ e = e
refused_open r (call.Fence version) _ e = e
refused_open r (call.Tick rules) _ e = e
refused_open r _ _ e = e

-- what leaves a replica open: it was, or it begins
pub open_by : (r : ReplicaState) (c : StepCall) (a : StepReply) → (after r c a).standing ≡ standing.Open → (r.standing ≡ standing.Open) ⊎ Begins c a
open_by r c (reply.Refused why) e = inl (refused_open r c why e)
open_by r call.Restart reply.Done e = absurd (let bad : standing.Boot ≡ standing.Open = e in cc)
open_by r call.Stop reply.Done e = absurd (let bad : standing.Down ≡ standing.Open = e in cc)
open_by r (call.Begin tenure) (reply.Began fence points) e = inr (record { tenure = tenure; fence = fence; points = points; call_is = refl; reply_is = refl })
open_by r (call.Begin tenure) a e = inl e
open_by r _ _ e = inl e

-- a replica that serves is open
serves_open : (tells : Bool) (past : List Event) (n s : ℕ) (r : ReplicaState) (c : StepCall) (a : StepReply) → Serves c a → LawfulStep tells past n s r c a → r.standing ≡ standing.Open
serves_open tells past n s r (call.Put client number rules version point) reply.Done h law = ((law.serving).owner).open_
serves_open tells past n s r (call.Read client number rules version pick from to) (reply.Found series) h law = ((law.0).owner).open_
serves_open tells past n s r (call.Fence version) reply.Done h law = law.open_
serves_open tells past n s r (call.Page from) (reply.Paged page) h law = (law.0).open_
serves_open tells past n s r (call.Tick rules) (reply.Count count) h law = law.0
serves_open tells past n s r (call.Flush rules) (reply.Count count) h law = law.0
serves_open tells past n s r call.Snapshot (reply.Count count) h law = law
serves_open tells past n s r _ _ h law = absurd h

-- ---- stops

-- the turn is an ok stop of the node
record IsStopOf (name : List ℕ) (t : InnerTurn) : Type 0 where
  act_is : t.act ≡ act.Stop name
  answered : t.answer ≡ answer.Done

stop_by : (name : List ℕ) (t : InnerTurn) (a : Act) (b : Answer) → t.act ≡ a → t.answer ≡ b → (stopped_by name a b false ≡ false) ⊎ IsStopOf name t
stop_by name t (act.Stop node) answer.Done ea eb = by (pointwise nat_eq name node) refl
  where
    by : (c : Bool) → pointwise nat_eq name node ≡ c → (cond c true false ≡ false) ⊎ IsStopOf name t
    by true is = inr (record { act_is = ea ∙ ap (λ n. act.Stop n) (sym (name_is name node is)); answered = eb })
    by false is = inl refl
stop_by name t (act.Restart node pick) answer.Done ea eb = inl (either (pointwise nat_eq name node))
  where
    either : (c : Bool) → cond c false false ≡ false
    either true = refl
    either false = refl
stop_by name t _ _ ea eb = inl refl

-- a node that runs goes on running, or is stopped by one of the turns
stop_cases : (name : List ℕ) (ts : List InnerTurn) → (is_stopped ts name ≡ false) ⊎ ((t : InnerTurn) × IsIn ts t × IsStopOf name t)
stop_cases name [] = inl refl
stop_cases name (t ∷ ts) =
    elim (stop_by name t t.act t.answer refl refl) as (λ _. (is_stopped (t ∷ ts) name ≡ false) ⊎ ((u : InnerTurn) × IsIn (t ∷ ts) u × IsStopOf name u)) [
      | inr stop ↦ inr (t, inl refl, stop)
      | inl runs ↦ elim (stop_cases name ts) as (λ _. (is_stopped (t ∷ ts) name ≡ false) ⊎ ((u : InnerTurn) × IsIn (t ∷ ts) u × IsStopOf name u)) [
        | inl on ↦ inl (ap (λ b. fold (λ before (turn : InnerTurn). stopped_by name turn.act turn.answer before) b ts) runs ∙ on)
        | inr later ↦ inr (later.0, inr later.1, later.2)
      ]
    ]

-- ---- restarts

-- the turn is an ok restart of the node
record IsRestartOf (name : List ℕ) (t : InnerTurn) : Type 0 where
  pick : ℕ
  act_is : t.act ≡ act.Restart name pick
  answered : t.answer ≡ answer.Done

and_false : (c : Bool) → (c && false) ≡ false
and_false true = refl
and_false false = refl

restart_by : (x : Replica) (t : InnerTurn) (a : Act) (b : Answer) → t.act ≡ a → t.answer ≡ b → (idles_by x a b false ≡ false) ⊎ IsRestartOf x.name t
restart_by x t (act.Init rf shards seed nodes) b ea eb = inl (and_false (is_none (printed b)))
restart_by x t (act.Restart node pick) answer.Done ea eb = by (pointwise nat_eq x.name node) refl
  where
    by : (c : Bool) → pointwise nat_eq x.name node ≡ c → ((c || false) ≡ false) ⊎ IsRestartOf x.name t
    by true is = inr (record { pick = pick; act_is = ea ∙ ap (λ n. act.Restart n pick) (sym (name_is x.name node is)); answered = eb })
    by false is = inl refl
restart_by x t (act.Bootstrap node asked) b ea eb = inl (and_false (not (pointwise nat_eq x.name node && is_covering x.shard asked)))
restart_by x t _ _ ea eb = inl refl

-- whether the replica lies idle behind these turns
abbrev idles_on : Replica → Bool → List InnerTurn → Bool
idles_on x before ts = fold (λ idles (turn : InnerTurn). idles_by x turn.act turn.answer idles) before ts

-- one that doesn't goes on so, or one of the turns restarts its node
restart_cases : (x : Replica) (ts : List InnerTurn) → (idles_on x false ts ≡ false) ⊎ ((t : InnerTurn) × IsIn ts t × IsRestartOf x.name t)
restart_cases x [] = inl refl
restart_cases x (t ∷ ts) =
    elim (restart_by x t t.act t.answer refl refl) as (λ _. (idles_on x false (t ∷ ts) ≡ false) ⊎ ((u : InnerTurn) × IsIn (t ∷ ts) u × IsRestartOf x.name u)) [
      | inr restart ↦ inr (t, inl refl, restart)
      | inl on ↦ elim (restart_cases x ts) as (λ _. (idles_on x false (t ∷ ts) ≡ false) ⊎ ((u : InnerTurn) × IsIn (t ∷ ts) u × IsRestartOf x.name u)) [
        | inl rest ↦ inl (ap (λ b. idles_on x b ts) on ∙ rest)
        | inr later ↦ inr (later.0, inr later.1, later.2)
      ]
    ]

-- an act that neither begins replicas nor stops any wakes none
idles_on_by : (x : Replica) (a : Act) (b : Answer) → (OpensReplicas a → ⊥) → (IsHaltAct a → ⊥) → idles_by x a b true ≡ true
idles_on_by x (act.Init rf shards seed nodes) b opens_none goes_on = absurd (opens_none tt)
idles_on_by x (act.Bootstrap node asked) b opens_none goes_on = absurd (opens_none tt)
idles_on_by x (act.Stop node) b opens_none goes_on = absurd (goes_on tt)
idles_on_by x (act.Restart node pick) b opens_none goes_on = absurd (goes_on tt)
idles_on_by x _ b opens_none goes_on = refl

-- and a bootstrap none of another node
idles_beside : (x : Replica) (node : List ℕ) (asked : Option ℕ) (b : Answer) → (x.name ≡ node → ⊥) → idles_by x (act.Bootstrap node asked) b true ≡ true
idles_beside x node asked b other = by (pointwise nat_eq x.name node) refl
  where
    by : (c : Bool) → pointwise nat_eq x.name node ≡ c → (not (c && is_covering x.shard asked) && true) ≡ true
    by true is = absurd (other (name_is x.name node is))
    by false is = refl

-- where none of them restarts its node, it doesn't lie idle behind one that wakes it
woken : (x : Replica) (ts : List InnerTurn) (t : InnerTurn) → IsIn ts t → ((b : Bool) → idles_by x t.act t.answer b ≡ false) → ((u : InnerTurn) → IsIn ts u → IsRestartOf x.name u → ⊥) → (b : Bool) → idles_on x b ts ≡ false
woken x [] t m wakes none b = absurd m
woken x (u ∷ ts) t (inl is) wakes none b =
    ap (λ c. idles_on x c ts) (subst (λ (v : InnerTurn). idles_by x v.act v.answer b ≡ false) (sym is) (wakes b))
    ∙ elim (restart_cases x ts) as (λ _. idles_on x false ts ≡ false) [ inl on ↦ on | inr restart ↦ absurd (none restart.0 (inr restart.1) restart.2) ]
woken x (u ∷ ts) t (inr later) wakes none b = woken x ts t later wakes (λ v m. none v (inr m)) (idles_by x u.act u.answer b)

-- ---- the slot

module _ {tells : Bool} (start : Option MetaState) (turns : List Turn) (events : List Event) (legal : Legal tells events) (told : ToldBy start turns events) (halts : HaltsAlone turns) (n s : ℕ) (name : List ℕ) (named : IsNamedBy events n name) where
  abbrev OpenAt : ℕ → Type 0
  OpenAt j = (replica n s (take j events)).standing ≡ standing.Open

  abbrev stopped : ℕ → Bool
  stopped k = is_stopped (inner_turns (take k turns)) name

  abbrev slot : Replica
  slot = record { shard = s; node = n; name = name }

  abbrev idle : ℕ → Bool
  idle k = idles_after slot start (inner_turns (take k turns))

  -- a step begins the slot from one position up to another
  record Begun (low high : ℕ) : Type 0 where
    position : ℕ
    at_least : low ≤ position
    below : position < high
    tenure : ℕ
    fence : ℕ
    points : List Point
    there : At events position (event.Step n s (call.Begin tenure) (reply.Began fence points))

  -- since a position the slot is open, or a step began it since
  abbrev OpenSince : ℕ → ℕ → Type 0
  OpenSince low j = ((i : ℕ) → low ≤ i → i ≤ j → OpenAt i) ⊎ Begun low j

  extend : (low j : ℕ) → OpenSince low j → OpenAt (suc j) → OpenSince low (suc j)
  extend low j (inl all) next = inl (λ i above below. elim (cases_eq i (suc j)) as (λ _. OpenAt i) [ inl now ↦ subst OpenAt (sym now) next | inr other ↦ all i above (omega (arith, below, other)) ])
  extend low j (inr b) next = let below = b.below in inr (record { position = b.position; at_least = b.at_least; below = omega (arith, below); tenure = b.tenure; fence = b.fence; points = b.points; there = b.there })

  one_event : (low j : ℕ) (e : Event) → low ≤ j → At events j e → (OpenAt j → OpenSince low j) → OpenAt (suc j) → OpenSince low (suc j)
  one_event low j e le there was next =
      elim (step_cases n s (replica n s (take j events)) e) as (λ _. OpenSince low (suc j)) [
        | inl same ↦ extend low j (was (ap (λ (r : ReplicaState). r.standing) (sym (replica_suc events legal n s j e there ∙ same)) ∙ next)) next
        | inr own ↦
            let at : At events j (event.Step n s own.0 own.1) = there ∙ ap Some own.2 in
            elim (open_by (replica n s (take j events)) own.0 own.1 (ap (λ (r : ReplicaState). r.standing) (sym (replica_suc events legal n s j e there ∙ own.3)) ∙ next)) as (λ _. OpenSince low (suc j)) [
              | inl before ↦ extend low j (was before) next
              | inr b ↦ inr (record {
                position = j;
                at_least = le;
                below = omega arith;
                tenure = b.tenure;
                fence = b.fence;
                points = b.points;
                there = subst (λ a. At events j (event.Step n s (call.Begin b.tenure) a)) b.reply_is (subst (λ c. At events j (event.Step n s c own.1)) b.call_is at);
              })
            ]
      ]

  up_to : (low d : ℕ) → low + d ≤ length events → OpenAt (low + d) → OpenSince low (low + d)
  up_to low zero high now =
      let same : low + 0 ≡ low = omega arith in
      let here = subst OpenAt same now in
      inl (λ i above below. let is : low ≡ i = omega (arith, above, below) in subst OpenAt is here)
  up_to low (suc d) high now =
      let next : low + suc d ≡ suc (low + d) = omega arith in
      let there = at_some events (low + d) (omega (arith, high)) in
      subst (OpenSince low) (sym next) (one_event low (low + d) there.0 (omega arith) there.1 (λ before. up_to low d (omega (arith, high)) before) (subst OpenAt next now))

  since : (low j : ℕ) → low ≤ j → j ≤ length events → OpenAt j → OpenSince low j
  since low j le high now = let whole : low + (j - low) ≡ j = omega (arith, le) in subst (OpenSince low) whole (up_to low (j - low) (omega (arith, whole, high)) (subst OpenAt (sym whole) now))

  -- an open slot was called
  called : (j : ℕ) → j ≤ length events → OpenAt j → Begun 0 j
  called j high now = elim (since 0 j (omega arith) high now) as (λ _. Begun 0 j) [ inl all ↦ absurd (let bad : standing.Boot ≡ standing.Open = fresh_open (all 0 (omega arith) (omega arith)) in cc) | inr b ↦ b ]
    where
      fresh_open : OpenAt 0 → standing.Boot ≡ standing.Open
      fresh_open now = ap (λ (es : List Event). (replica n s es).standing) (sym (take_none events)) ∙ now

  -- who began it is a turn of the line that begins replicas, and its node runs there
  record BegunBy (i k : ℕ) : Type 0 where
    in_run : IsTurnPosition turns (told.makers i)
    line_is : length (told.makers i).lines ≡ k
    opens : OpensReplicas (told.makers i).turn.act
    runs : stopped k ≡ false
    within : (told.spans).from (told.makers i) ≤ i
    wakes : (before : Bool) → idles_by slot (told.makers i).turn.act (told.makers i).turn.answer before ≡ false

  -- what may ask for a begin of the slot wakes it
  wakes_by : (past : List Event) (p : TurnPosition) (tenure : ℕ) → ((node : List ℕ) → IsNamedLast past n node → node ≡ name) → (a : Act) → MayAsk start past p a (asked.Step n s (call.Begin tenure)) → (before : Bool) → idles_by slot a p.turn.answer before ≡ false
  wakes_by past p tenure own (act.Init rf shards seed nodes) may before = ap (λ o. is_none o && before) may.1
  wakes_by past p tenure own (act.Bootstrap node only) may before =
      let same : node ≡ name = own node (may.slot).of_node in
      let named : pointwise nat_eq name node ≡ true = ap (pointwise nat_eq name) same ∙ name_self name in
      ap (λ c. not (c && is_covering s only) && before) named ∙ ap (λ c. not c && before) (may.slot).covers
  wakes_by past p tenure own _ may before = absurd may

  begun_by : (k : ℕ) → k < length turns → (b : Begun (told.ends k) (told.ends (suc k))) → BegunBy b.position k
  begun_by k less b =
      let step = event.Step n s (call.Begin b.tenure) (reply.Began b.fence b.points) in
      let late = late_step events legal b.position n s (call.Begin b.tenure) (reply.Began b.fence b.points) b.there in
      let above = opening_low start b.position late in
      let made = (told.tells).order.made b.position step above late b.there tt in
      let q = told.makers b.position in
      let early : length q.lines < length turns = line_below turns q (made.0) in
      let h = (told.tells).makes b.position step above late b.there in
      let line_is = one_line start turns events legal told b.position (length q.lines) k early less (omega (arith, (told.lines).low q made.0, (made.1).0)) (omega (arith, (told.lines).high q made.0, (made.1).1)) b.at_least b.below in
      let opened = h.0 in
      let there = place_there (take b.position events) opened.place opened.last in
      let at = at_take events there.0 b.position (event.Place opened.place there.1) there.2 in
      let own : ((opened.runs).instance_).name ≡ name = named there.0 opened.place there.1 (opened.runs).instance_ at.0 (opened.runs).stands in
      let front : take k turns ≡ q.lines = ap (λ m. take m turns) (sym line_is) ∙ lines_before start turns events legal told q made.0 in
      record {
        in_run = made.0;
        line_is = line_is;
        opens = opened.opens;
        runs = ap (λ ls. is_stopped (inner_turns ls) name) front ∙ ap (is_stopped (inner_turns q.lines)) (sym own) ∙ (opened.runs).holds;
        within = (made.1).0;
        wakes = wakes_by (take b.position events) q b.tenure (λ node of_node. own_name b.position node of_node) q.turn.act h.1;
      }
    where
      -- what the last placement before a position calls the node is its name
      own_name : (i : ℕ) (node : List ℕ) → IsNamedLast (take i events) n node → node ≡ name
      own_name i node of_node =
          let there = place_there (take i events) of_node.place of_node.last in
          let at = at_take events there.0 i (event.Place of_node.place there.1) there.2 in
          sym (of_node.named).holds ∙ named there.0 of_node.place there.1 (of_node.named).instance_ at.0 (of_node.named).stands

  -- where the slot is open in a line, its node runs when the line begins
  runs_in : (k : ℕ) → k < length turns → (OpenAt (told.ends k) → stopped k ≡ false) → (j : ℕ) → told.ends k ≤ j → j ≤ told.ends (suc k) → OpenAt j → stopped k ≡ false
  runs_in k less was j low high now =
      elim (since (told.ends k) j low (omega (arith, high, ends_within start turns events told (suc k) less)) now) as (λ _. stopped k ≡ false) [
        | inl all ↦ was (all (told.ends k) (omega arith) low)
        | inr b ↦ let below = b.below in (begun_by k less (record { position = b.position; at_least = b.at_least; below = omega (arith, below, high); tenure = b.tenure; fence = b.fence; points = b.points; there = b.there })).runs
      ]

  stop_shuts : (i : ℕ) → At events i (event.Step n s call.Stop reply.Done) → OpenAt (suc i) → ⊥
  stop_shuts i there now = let bad : standing.Down ≡ standing.Open = sym (ap (λ (r : ReplicaState). r.standing) (replica_own events legal n s i call.Stop reply.Done there)) ∙ now in cc

  -- an ok stop leaves it not open at the end of its line
  stop_clash : (k : ℕ) → k < length turns → (q : TurnPosition) → IsTurnPosition turns q → length q.lines ≡ k → IsStopOf name q.turn → OpenAt (told.ends (suc k)) → ⊥
  stop_clash k less q at line_is stop now =
      elim (since (told.ends k) (told.ends (suc k)) ((told.lines).ascends k less) (ends_within start turns events told (suc k) less) now) as (λ _. ⊥) [
        | inl all ↦ by_all all
        | inr b ↦
            let h = begun_by k less b in
            let is = alone_is turns q (told.makers b.position) (halts q at (subst IsHaltAct (sym stop.act_is) tt)) h.in_run (h.line_is ∙ sym line_is) in
            subst OpensReplicas (sym (ap (λ (t : InnerTurn). t.act) is) ∙ stop.act_is) h.opens
      ]
    where
      by_all : ((i : ℕ) → told.ends k ≤ i → i ≤ told.ends (suc k) → OpenAt i) → ⊥
      by_all all =
          let b = called (told.ends k) (ends_within start turns events told k (omega (arith, less))) (all (told.ends k) (omega arith) ((told.lines).ascends k less)) in
          let from = (told.spans).from q in
          let begins : told.ends k ≤ from = omega (arith, (told.lines).low q at, ap told.ends line_is) in
          let finishes : (told.spans).to q ≤ told.ends (suc k) = omega (arith, (told.lines).high q at, ap (λ m. told.ends (suc m)) line_is) in
          let hears : HearsEachSlot (take from events) (InStretch events from ((told.spans).to q)) name call.Stop =
          subst (λ z. HearsBy start (take from events) (InStretch events from ((told.spans).to q)) q (act.Stop name) z) stop.answered
          (subst (λ a. HearsBy start (take from events) (InStretch events from ((told.spans).to q)) q a q.turn.answer) stop.act_is ((told.tells).hears q at)) in
          let below = b.below in
          let step = event.Step n s (call.Begin b.tenure) (reply.Began b.fence b.points) in
          let h = hears n s (record {
            named = λ i place done own there own_is. named i place done own (at_take events i from (event.Place place done) there).0 own_is;
            has = inr (b.position, call.Begin b.tenure, reply.Began b.fence b.points, take_at events b.position from step b.there (omega (arith, below, begins)));
          }) in
          let i = h.1 in
          stop_shuts h.0 i.2 (all (suc h.0) (omega (arith, begins, i.0)) (omega (arith, i.1, finishes)))

  runs_at : (k : ℕ) → k ≤ length turns → OpenAt (told.ends k) → stopped k ≡ false
  runs_at zero high now = ap (λ ls. is_stopped (inner_turns ls) name) (take_none turns)
  runs_at (suc k) high now =
      let less : k < length turns = omega (arith, high) in
      let before = runs_in k less (λ open_. runs_at k (omega (arith, high)) open_) (told.ends (suc k)) ((told.lines).ascends k less) (omega arith) now in
      let line = at_some turns k less in
      elim (stop_cases name (inner_turns (line.0 ∷ []))) as (λ _. stopped (suc k) ≡ false) [
        | inl on ↦
            ap (λ ls. is_stopped (inner_turns ls) name) (take_line turns k line.0 line.1)
            ∙ ap (λ ts. is_stopped ts name) (inner-append (take k turns) (line.0 ∷ []))
            ∙ fold-append (λ was (turn : InnerTurn). stopped_by name turn.act turn.answer was) false (inner_turns (take k turns)) (inner_turns (line.0 ∷ []))
            ∙ ap (λ b. fold (λ was (turn : InnerTurn). stopped_by name turn.act turn.answer was) b (inner_turns (line.0 ∷ []))) before
            ∙ on
        | inr stop ↦
            let cut = cut_at turns k line.0 line.1 in
            let here : IsIn (joined (lists_of line.0)) stop.0 = subst (λ ts. IsIn ts stop.0) (append-nil (joined (lists_of line.0))) stop.1 in
            let q = position_in turns cut.0 line.0 cut.1 cut.2 stop.0 here in
            absurd (stop_clash k less q.0 q.1 (ap length q.3 ∙ cut.3) (record { act_is = ap (λ (u : InnerTurn). u.act) q.2 ∙ (stop.2).act_is; answered = ap (λ (u : InnerTurn). u.answer) q.2 ∙ (stop.2).answered }) now)
      ]

  runs_there : (p : TurnPosition) → IsTurnPosition turns p → (i : ℕ) → (told.spans).from p ≤ i → i < (told.spans).to p → OpenAt i → is_stopped (inner_turns p.lines) name ≡ false
  runs_there p at i low high now =
      let k = length p.lines in
      let less : k < length turns = line_below turns p at in
      let front : take k turns ≡ p.lines = lines_before start turns events legal told p at in
      ap (λ ls. is_stopped (inner_turns ls) name) (sym front)
      ∙ runs_in k less (λ open_. runs_at k (omega (arith, less)) open_) i (omega (arith, (told.lines).low p at, low)) (omega (arith, (told.lines).high p at, high)) now

  -- ---- idle replicas

  restart_shuts : (i : ℕ) → At events i (event.Step n s call.Restart reply.Done) → OpenAt (suc i) → ⊥
  restart_shuts i there now = let bad : standing.Boot ≡ standing.Open = sym (ap (λ (r : ReplicaState). r.standing) (replica_own events legal n s i call.Restart reply.Done there)) ∙ now in cc

  -- a slot that is open throughout a line isn't restarted there
  restart_clash : (k : ℕ) → k < length turns → (q : TurnPosition) → IsTurnPosition turns q → length q.lines ≡ k → IsRestartOf name q.turn → ((i : ℕ) → told.ends k ≤ i → i ≤ told.ends (suc k) → OpenAt i) → ⊥
  restart_clash k less q at line_is restart all =
      let b = called (told.ends k) (ends_within start turns events told k (omega (arith, less))) (all (told.ends k) (omega arith) ((told.lines).ascends k less)) in
      let from = (told.spans).from q in
      let begins : told.ends k ≤ from = omega (arith, (told.lines).low q at, ap told.ends line_is) in
      let finishes : (told.spans).to q ≤ told.ends (suc k) = omega (arith, (told.lines).high q at, ap (λ m. told.ends (suc m)) line_is) in
      let hears : HearsEachSlot (take from events) (InStretch events from ((told.spans).to q)) name call.Restart =
      subst (λ z. HearsBy start (take from events) (InStretch events from ((told.spans).to q)) q (act.Restart name restart.pick) z) restart.answered
      (subst (λ a. HearsBy start (take from events) (InStretch events from ((told.spans).to q)) q a q.turn.answer) restart.act_is ((told.tells).hears q at)) in
      let below = b.below in
      let step = event.Step n s (call.Begin b.tenure) (reply.Began b.fence b.points) in
      let h = hears n s (record {
        named = λ i place done own there own_is. named i place done own (at_take events i from (event.Place place done) there).0 own_is;
        has = inr (b.position, call.Begin b.tenure, reply.Began b.fence b.points, take_at events b.position from step b.there (omega (arith, below, begins)));
      }) in
      let i = h.1 in
      restart_shuts h.0 i.2 (all (suc h.0) (omega (arith, begins, i.0)) (omega (arith, i.1, finishes)))

  -- no turn restarts the node in a line in which one began the slot
  begun_clash : (k i : ℕ) → BegunBy i k → (q : TurnPosition) → IsTurnPosition turns q → length q.lines ≡ k → IsRestartOf name q.turn → ⊥
  begun_clash k i h q at line_is restart =
      let is = alone_is turns q (told.makers i) (halts q at (subst IsHaltAct (sym restart.act_is) tt)) h.in_run (h.line_is ∙ sym line_is) in
      subst OpensReplicas (sym (ap (λ (t : InnerTurn). t.act) is) ∙ restart.act_is) h.opens

  -- who began it is one of the line's turns
  begun_among : (k i : ℕ) (line : Turn) → At turns k line → BegunBy i k → IsIn (inner_turns (line ∷ [])) (told.makers i).turn
  begun_among k i line there h =
      let q = told.makers i in
      let own : At turns k q.line = subst (λ m. At turns m q.line) h.line_is (subst (λ ts. At ts (length q.lines) q.line) (sym (h.in_run).in_run) (at_cut q.lines q.line (h.in_run).after)) in
      let same : q.line ≡ line = same_Some q.line line (sym own ∙ there) in
      subst (λ ts. IsIn ts q.turn) (sym (append-nil (joined (lists_of line)))) (subst (λ (l : Turn). IsIn (joined (lists_of l)) q.turn) same (in_its_line q (h.in_run).stands))

  -- where the slot is open at the end of lines, it doesn't lie idle there
  wakes_at : (k : ℕ) → k ≤ length turns → OpenAt (told.ends k) → idle k ≡ false
  wakes_at zero high now =
      let b = called (told.ends 0) (ends_within start turns events told 0 high) now in
      let late = late_step events legal b.position n s (call.Begin b.tenure) (reply.Began b.fence b.points) b.there in
      absurd (omega (arith, opening_low start b.position late, (told.lines).first, b.below))
  wakes_at (suc k) high now =
      let less : k < length turns = omega (arith, high) in
      let line = at_some turns k less in
      let ts = inner_turns (line.0 ∷ []) in
      let goes_on : idle (suc k) ≡ idles_on slot (idle k) ts =
      ap (λ ls. idles_after slot start (inner_turns ls)) (take_line turns k line.0 line.1)
      ∙ ap (idles_after slot start) (inner-append (take k turns) (line.0 ∷ []))
      ∙ fold-append (λ idles (turn : InnerTurn). idles_by slot turn.act turn.answer idles) (is_member slot (start_placement start)) (inner_turns (take k turns)) ts in
      goes_on ∙ elim (since (told.ends k) (told.ends (suc k)) ((told.lines).ascends k less) (ends_within start turns events told (suc k) less) now) as (λ _. idles_on slot (idle k) ts ≡ false) [
        | inl all ↦
            ap (λ b. idles_on slot b ts) (wakes_at k (omega (arith, high)) (all (told.ends k) (omega arith) ((told.lines).ascends k less)))
            ∙ elim (restart_cases slot ts) as (λ _. idles_on slot false ts ≡ false) [
              | inl on ↦ on
              | inr restart ↦ let q = turn_in k line.0 line.1 restart.0 restart.1 restart.2 in absurd (restart_clash k less q.0 q.1 q.2 q.3 all)
            ]
        | inr b ↦
            let h = begun_by k less b in
            woken slot ts (told.makers b.position).turn (begun_among k b.position line.0 line.1 h) h.wakes (λ u m restart. let q = turn_in k line.0 line.1 u m restart in begun_clash k b.position h q.0 q.1 q.2 q.3) (idle k)
      ]
    where
      -- a restart among a line's turns has a position there
      turn_in : (k : ℕ) (line : Turn) → At turns k line → (t : InnerTurn) → IsIn (inner_turns (line ∷ [])) t → IsRestartOf name t → (q : TurnPosition) × IsTurnPosition turns q × (length q.lines ≡ k) × IsRestartOf name q.turn
      turn_in k line there t m restart =
          let cut = cut_at turns k line there in
          let q = position_in turns cut.0 line cut.1 cut.2 t (subst (λ ts. IsIn ts t) (append-nil (joined (lists_of line))) m) in
          (q.0, q.1, ap length q.3 ∙ cut.3, subst (IsRestartOf name) (sym q.2) restart)

  -- and where it is open within the stretch of a turn that doesn't wake it and stops no node, it doesn't at that turn
  wakes_there : (p : TurnPosition) → IsTurnPosition turns p → idles_by slot p.turn.act p.turn.answer true ≡ true → (IsHaltAct p.turn.act → ⊥) → (i : ℕ) → (told.spans).from p ≤ i → i < (told.spans).to p → OpenAt i → idles_after slot start (inner_turns p.lines ++ (p.earlier ++ p.beside)) ≡ false
  wakes_there p at stays goes_on i low high now =
      let k = length p.lines in
      let less : k < length turns = line_below turns p at in
      let front : take k turns ≡ p.lines = lines_before start turns events legal told p at in
      let above : told.ends k ≤ i = omega (arith, (told.lines).low p at, low) in
      let below : i ≤ told.ends (suc k) = omega (arith, (told.lines).high p at, high) in
      let splits : idles_after slot start (inner_turns p.lines ++ others) ≡ idles_on slot (idle k) others =
      fold-append (λ idles (turn : InnerTurn). idles_by slot turn.act turn.answer idles) (is_member slot (start_placement start)) (inner_turns p.lines) others ∙ ap (λ ls. idles_on slot (idles_after slot start (inner_turns ls)) others) (sym front) in
      splits ∙ elim (since (told.ends k) i above (omega (arith, below, ends_within start turns events told (suc k) less)) now) as (λ _. idles_on slot (idle k) others ≡ false) [
        | inl all ↦
            ap (λ b. idles_on slot b others) (wakes_at k (omega (arith, less)) (all (told.ends k) (omega arith) above))
            ∙ elim (restart_cases slot others) as (λ _. idles_on slot false others ≡ false) [ inl on ↦ on | inr restart ↦ absurd (no_restart restart.0 restart.1 restart.2) ]
        | inr b ↦
            let before = b.below in
            let h = begun_by k less (record { position = b.position; at_least = b.at_least; below = omega (arith, before, below); tenure = b.tenure; fence = b.fence; points = b.points; there = b.there }) in
            woken slot others (told.makers b.position).turn (among b.position h (omega (arith, before, high))) h.wakes no_restart (idle k)
      ]
    where
      others : List InnerTurn
      others = p.earlier ++ p.beside

      -- the turn's line has no other turn where one of them restarts a node
      no_restart : (t : InnerTurn) → IsIn others t → IsRestartOf name t → ⊥
      no_restart t m restart =
          let q = position_in turns p.lines p.line at.after at.in_run t (in_line p turns at t m) in
          let act_is : (q.0).turn.act ≡ act.Restart name restart.pick = ap (λ (u : InnerTurn). u.act) q.2 ∙ restart.act_is in
          let is = alone_is turns q.0 p (halts q.0 q.1 (subst IsHaltAct (sym act_is) tt)) at (sym (ap length q.3)) in
          goes_on (subst IsHaltAct (sym act_is ∙ ap (λ (u : InnerTurn). u.act) is) tt)

      -- who began the slot before is earlier in the turn's list, or in another list of its line
      among : (j : ℕ) (h : BegunBy j (length p.lines)) → j < (told.spans).to p → IsIn others (told.makers j).turn
      among j h lt = elim (stands turns (told.makers j) p h.in_run at) as (λ _. IsIn others (told.makers j).turn) [
        | before_line rest line lines m ↦ absurd (omega (arith, ap length lines, length-append (told.makers j).lines (line ∷ rest), h.line_is))
        | before_there lines m ↦ IsIn-append_left p.earlier p.beside (told.makers j).turn m
        | in_other_list lines m ↦ IsIn-append_right p.earlier p.beside (told.makers j).turn m
        | is_it same ↦ let bad : true ≡ false = sym stays ∙ subst (λ (x : TurnPosition). idles_by slot x.turn.act x.turn.answer true ≡ false) same (h.wakes true) in cc
        | comes_later later ↦ absurd (omega (arith, (told.tells).order.order p (told.makers j) at h.in_run later, h.within, lt))
      ]

pub who_serves : {tells : Bool} → WhoServesRuns tells
who_serves {tells} start turns events legal told halts p at n s name named c a serves h =
    let i = h.1 in
    runs_there start turns events legal told halts n s name named p at h.0 i.0 i.1 (serves_open tells (take h.0 events) n s (replica n s (take h.0 events)) c a serves (lawful_step events legal h.0 n s c a i.2))

-- and the replica was begun, where the turn neither begins replicas nor stops any
pub serves_begun : {tells : Bool} → (start : Option MetaState) (turns : List Turn) (events : List Event) → Legal tells events → (told : ToldBy start turns events) → HaltsAlone turns → (p : TurnPosition) → IsTurnPosition turns p
    → (OpensReplicas p.turn.act → ⊥) → (IsHaltAct p.turn.act → ⊥) → (n s : ℕ) (name : List ℕ) → IsNamedBy events n name → (c : StepCall) (a : StepReply) → Serves c a → Happens (InStretch events ((told.spans).from p) ((told.spans).to p)) (event.Step n s c a)
    → idles_after (record { shard = s; node = n; name = name }) start (inner_turns p.lines ++ (p.earlier ++ p.beside)) ≡ false
serves_begun {tells} start turns events legal told halts p at opens_none goes_on n s name named c a serves h =
    let i = h.1 in
    wakes_there start turns events legal told halts n s name named p at (idles_on_by (record { shard = s; node = n; name = name }) p.turn.act p.turn.answer opens_none goes_on) goes_on h.0 i.0 i.1
    (serves_open tells (take h.0 events) n s (replica n s (take h.0 events)) c a serves (lawful_step events legal h.0 n s c a i.2))

-- and so is one that serves in the stretch of another node's bootstrap
pub serves_beside : {tells : Bool} → (start : Option MetaState) (turns : List Turn) (events : List Event) → Legal tells events → (told : ToldBy start turns events) → HaltsAlone turns → (p : TurnPosition) → IsTurnPosition turns p
    → (node : List ℕ) (asked : Option ℕ) → p.turn.act ≡ act.Bootstrap node asked → (n s : ℕ) (name : List ℕ) → IsNamedBy events n name → (name ≡ node → ⊥)
    → (c : StepCall) (a : StepReply) → Serves c a → Happens (InStretch events ((told.spans).from p) ((told.spans).to p)) (event.Step n s c a)
    → idles_after (record { shard = s; node = n; name = name }) start (inner_turns p.lines ++ (p.earlier ++ p.beside)) ≡ false
serves_beside {tells} start turns events legal told halts p at node asked acts n s name named other c a serves h =
    let i = h.1 in
    let slot : Replica = record { shard = s; node = n; name = name } in
    let stays : idles_by slot p.turn.act p.turn.answer true ≡ true = ap (λ b. idles_by slot b p.turn.answer true) acts ∙ idles_beside slot node asked p.turn.answer other in
    wakes_there start turns events legal told halts n s name named p at stays (λ halt. subst IsHaltAct acts halt) h.0 i.0 i.1
    (serves_open tells (take h.0 events) n s (replica n s (take h.0 events)) c a serves (lawful_step events legal h.0 n s c a i.2))

-- what upkeep asks of a replica is served where it answers with a count
pub sweep_serves : (a : Act) (c : StepCall) → IsSweepCall a c → (n : ℕ) → Serves c (reply.Count n)
sweep_serves act.Tick (call.Tick rules) kind n = tt
sweep_serves act.Flush (call.Flush rules) kind n = tt
sweep_serves act.Snapshot call.Snapshot kind n = tt
sweep_serves _ _ kind n = absurd kind

-- and the replica that did it was begun
pub sweep_begun : {tells : Bool} → (start : Option MetaState) (turns : List Turn) (events : List Event) → Legal tells events → (told : ToldBy start turns events) → HaltsAlone turns → (p : TurnPosition) → IsTurnPosition turns p → (n s : ℕ) (name : List ℕ) → IsNamedBy events n name
    → (c : StepCall) → IsSweepCall p.turn.act c → (count : ℕ) → Happens (InStretch events ((told.spans).from p) ((told.spans).to p)) (event.Step n s c (reply.Count count))
    → idles_after (record { shard = s; node = n; name = name }) start (inner_turns p.lines ++ (p.earlier ++ p.beside)) ≡ false
sweep_begun start turns events legal told halts p at n s name named c kind count h =
    serves_begun start turns events legal told halts p at (opens_none p.turn.act c kind) (goes_on p.turn.act c kind) n s name named c (reply.Count count) (sweep_serves p.turn.act c kind count) h
  where
    opens_none : (a : Act) (c : StepCall) → IsSweepCall a c → OpensReplicas a → ⊥
    opens_none act.Tick (call.Tick rules) kind opens = opens
    opens_none act.Flush (call.Flush rules) kind opens = opens
    opens_none act.Snapshot call.Snapshot kind opens = opens
    opens_none _ _ kind opens = absurd kind

    goes_on : (a : Act) (c : StepCall) → IsSweepCall a c → IsHaltAct a → ⊥
    goes_on act.Tick (call.Tick rules) kind halt = halt
    goes_on act.Flush (call.Flush rules) kind halt = halt
    goes_on act.Snapshot call.Snapshot kind halt = halt
    goes_on _ _ kind halt = absurd kind

-- what a call counts as served is a put that was done, or a read that was answered
served_by : (tells : Bool) (start : Option MetaState) (p : TurnPosition) (version : ℕ) (past : List Event) (n s : ℕ) (r : ReplicaState) (c : StepCall) (a : StepReply) → DidAsAsked a → IsOwnCall start p version c → LawfulStep tells past n s r c a → Serves c a
served_by tells start p version past n s r (call.Put client number rules at_version point) reply.Done served own law = tt
served_by tells start p version past n s r (call.Put client number rules at_version point) (reply.Found series) served own law = absurd law
served_by tells start p version past n s r (call.Read client number rules at_version pick from to) (reply.Found series) served own law = tt
served_by tells start p version past n s r (call.Read client number rules at_version pick from to) reply.Done served own law = absurd law
served_by tells start p version past n s r (call.Put client number rules at_version point) _ served own law = absurd served
served_by tells start p version past n s r (call.Read client number rules at_version pick from to) _ served own law = absurd served
served_by tells start p version past n s r _ a served own law = absurd own

pub who_served : {tells : Bool} → WhoServedRuns tells
who_served {tells} start turns events legal told halts p at names place used shard node h =
    let named = names place used shard node h in
    let step = h.2 in
    let i = (step.2).1 in
    let serves = served_by tells start p place.version (take (step.2).0 events) node shard (replica node shard (take (step.2).0 events)) step.0 h.0 h.1 step.1 (lawful_step events legal (step.2).0 node shard step.0 h.0 i.2) in
    let runs = who_serves start turns events legal told halts p at node shard named.0 named.2 step.0 h.0 serves step.2 in
    record { instance_ = (named.1).instance_; stands = (named.1).stands; holds = ap (is_stopped (inner_turns p.lines)) (named.1).holds ∙ runs }

-- and the replica that did as the call asks was begun
pub who_served_begun : {tells : Bool} → (start : Option MetaState) (turns : List Turn) (events : List Event) → Legal tells events → (told : ToldBy start turns events) → HaltsAlone turns → (p : TurnPosition) → IsTurnPosition turns p → IsTrue (is_call p.turn.act) → ServedAreNamed start events told.spans p
    → (place : Placement) → IsUsedBy start p place → (shard node : ℕ) → HasServed start (Within events told.spans p) p place shard node → IsBegunFor start p place shard node
who_served_begun {tells} start turns events legal told halts p at calls names place used shard node h =
    let named = names place used shard node h in
    let step = h.2 in
    let i = (step.2).1 in
    let past = take (step.2).0 events in
    let law = lawful_step events legal (step.2).0 node shard step.0 h.0 i.2 in
    let now = serves_open tells past node shard (replica node shard past) step.0 h.0 (served_by tells start p place.version past node shard (replica node shard past) step.0 h.0 h.1 step.1 law) law in
    let slot : Replica = record { shard = shard; node = node; name = named.0 } in
    let begun = wakes_there start turns events legal told halts node shard named.0 named.2 p at (idles_on_by slot p.turn.act p.turn.answer (opens_none p.turn.act calls) (goes_on p.turn.act calls)) (goes_on p.turn.act calls) (step.2).0 i.0 i.1 now in
    record {
      instance_ = (named.1).instance_;
      stands = (named.1).stands;
      holds = ap (λ own. idles_after (record { shard = shard; node = node; name = own }) start (inner_turns p.lines ++ (p.earlier ++ p.beside))) (named.1).holds ∙ begun;
    }
  where
    opens_none : (a : Act) → is_call a ≡ true → OpensReplicas a → ⊥
    opens_none (act.Init rf shards seed nodes) calls opens = cc
    opens_none (act.Bootstrap node only) calls opens = cc
    opens_none _ calls opens = opens

    goes_on : (a : Act) → is_call a ≡ true → IsHaltAct a → ⊥
    goes_on (act.Stop node) calls halt = cc
    goes_on (act.Restart node pick) calls halt = cc
    goes_on _ calls halt = halt
