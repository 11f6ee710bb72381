-- The list of the run of two clients beside a worker tells of it.
use Rattle.std.proofs.Common.{◌≡◌, ℕ, zero, suc, ◌+◌, List, [], ◌∷◌, ◌++◌, length, take, refl, sym, ap, ◌∙◌, subst, inl, inr, arith, false, true}
use Rattle.std.specs.Prelude.{◌⊎◌, Option, Some, None, Bool, nat_lt, if◌then◌else◌}
use Rattle.std.proofs.lemmas.Option.{same_Some}
use Rattle.m3_model.proofs.SplitLemmas.{not_empty}
use Rattle.m3_model.specs.Hash.{shard_of}
use Rattle.m3_model.specs.Levels.{needed_read, needed_write}
use Rattle.m3_model.specs.Members.{IsIn}
use Rattle.m3_model.specs.Reads.{Found, found_of}
use Rattle.m3_model.specs.declared.act.Act.TheVariants as act
use Rattle.m3_model.specs.declared.act.ReadLevel.TheVariants as level
use Rattle.m3_model.specs.declared.act.WriteLevel.TheVariants as taking
use Rattle.m3_model.specs.declared.answer.Answer.TheVariants as answer
use Rattle.m3_model.specs.declared.placement.Assignment.{Assignment}
use Rattle.m3_model.specs.declared.placement.Instance.{Instance}
use Rattle.m3_model.specs.declared.placement.Instance.{Instance}
use Rattle.m3_model.specs.declared.placement.Placement.{Placement}
use Rattle.m3_model.specs.declared.point.Point.{Point}
use Rattle.m3_model.specs.declared.rules.MetaState.{MetaState}
use Rattle.m3_model.specs.declared.turn.Turn.{Turn}
use Rattle.placement_core.proofs.ListLemmas.{IsIn-from_Any}
use Rattle.cluster_core.specs.Earlier.{last_place}
use Rattle.cluster_core.specs.Joins.{HasStreamed}
use Rattle.cluster_core.specs.Joins.{HasStreamed}
use Rattle.cluster_core.specs.Lists.{At}
use Rattle.cluster_core.specs.declared.event.Event.{Event}
use Rattle.cluster_core.specs.declared.event.Event.TheVariants as event
use Rattle.cluster_core.specs.declared.event.StepCall.TheVariants as call
use Rattle.cluster_core.specs.declared.event.StepReply.{StepReply}
use Rattle.cluster_core.specs.declared.event.StepReply.TheVariants as reply
use Rattle.cluster_core.proofs.ListLemmas.{at_any, at_same, at_within}
use Rattle.transcripts.specs.Fates.{OfNode}
use Rattle.transcripts.specs.Placements.{IsCounted, MayStand, counted_nodes, printed}
use Rattle.transcripts.specs.Record.{InnerTurn, TurnPosition, IsLastTurnPosition, IsTurnPosition, client_at, inner_turns, joined as in_lists, line_of, lists_of}
use Rattle.transcripts.proofs.PositionLemmas.{at_push}
use Rattle.told_by.specs.Broken.{found_moving, joined, joined_by, joining, moved, moving, other_name}
use Rattle.told_by.specs.Clocks.{HasClock, IsClockOf, sets_rules}
use Rattle.told_by.specs.Hears.{Happens, HasServed, HasStep, HearsAcks, HearsBegun, HearsBy, HearsStreamed, HearsTooFew, InStretch, IsBegun, IsBeginOf}
use Rattle.told_by.specs.Lines.{MayChange, PlainLine, position_after}
use Rattle.told_by.specs.Makes.{CountsOwnPuts, IsAssigned, IsCoveredSlot, MayMake, MayStream}
use Rattle.told_by.specs.Openings.{sets_seed}
use Rattle.told_by.specs.Placements.{EndsOwn, EndsPrinted, HasPlace, IsBootstrapOf, PrintsPeers}
use Rattle.told_by.specs.Reads.{IsStartAt, IsStartOf, IsTold}
use Rattle.told_by.specs.Sample.{fetched, name, point, rules, written}
use Rattle.told_by.specs.Spans.{From, IsEarlier, Spans}
use Rattle.told_by.specs.Told.{TellsLine, ToldBy}
use Rattle.told_by.specs.Writes.{HasAck, HasSend, IsSendAt, IsSendOf, IsUnmetWrite}
use Rattle.told_by.proofs.KindLemmas.{plain_told}
use Rattle.told_by.proofs.LineLemmas.{line_told, no_place, told_found}
use Rattle.told_by.proofs.OneLemmas.{each}
use Rattle.told_by.proofs.SampleLemmas.{Each, IsRestart, each_at, makes_each, restarts_none, shard_zero}
use Rattle.told_runs.specs.BesideSample.{beside, events, events_before, lines_before, missed, of_both, of_reopening, opening, put, reopened, reopening, took, turns}
use Rattle.told_runs.proofs.BesideLegalLemmas.{first_node, leaving, names_differ, one, peers_enough, second_node, streamed, under_way}

none : ⊥ → ⊥
none h = h

-- ---- nodes

abbrev pub start : Option MetaState
start = Some found_moving

-- the node of the first name, and that of the second, are those of the placement
first_slot : (node : ℕ) → OfNode moving node (λ own. own ≡ name) → node ≡ 0
first_slot zero h = refl
first_slot (suc zero) h = absurd (names_differ (sym h.holds ∙ ap (λ (i : Instance). i.name) (same_Some h.instance_ second_node (sym h.stands))))
first_slot (suc (suc node)) h = absurd (let bad = h.stands in cc)

second_slot : (node : ℕ) → OfNode moving node (λ own. own ≡ other_name) → node ≡ 1
second_slot zero h = absurd (names_differ (ap (λ (i : Instance). i.name) (same_Some first_node h.instance_ h.stands) ∙ h.holds))
second_slot (suc zero) h = refl
second_slot (suc (suc node)) h = absurd (let bad = h.stands in cc)

-- whom the placement gives the shard
given_in : (node shard tenure : ℕ) → IsAssigned moving node shard tenure → (shard ≡ 0) × (((node ≡ 0) × (tenure ≡ 1)) ⊎ ((node ≡ 1) × (tenure ≡ 2)))
given_in node zero tenure given =
    let x = IsIn-from_Any (λ (a : Assignment). (a.node ≡ node) × (a.tenure ≡ tenure)) given.0 given.2 in
    let m : IsIn under_way x.0 = subst (λ assignments. IsIn assignments x.0) (sym (same_Some under_way given.0 given.1)) x.1 in (
      refl,
      elim m as (λ _. ((node ≡ 0) × (tenure ≡ 1)) ⊎ ((node ≡ 1) × (tenure ≡ 2))) [
        | inl same ↦ inl (sym (x.2).0 ∙ ap (λ (a : Assignment). a.node) (sym same), sym (x.2).1 ∙ ap (λ (a : Assignment). a.tenure) (sym same))
        | inr rest ↦ elim rest as (λ _. ((node ≡ 0) × (tenure ≡ 1)) ⊎ ((node ≡ 1) × (tenure ≡ 2))) [
          | inl same ↦ inr (sym (x.2).0 ∙ ap (λ (a : Assignment). a.node) (sym same), sym (x.2).1 ∙ ap (λ (a : Assignment). a.tenure) (sym same))
          | inr nobody ↦ absurd nobody
        ]
      ],
    )
given_in node (suc shard) tenure given = absurd (let bad = given.1 in cc)

-- a bootstrap of a node begins its one replica, where a step does so
begun_by : (past : List Event) (Here : ℕ → Event → Type 0) (own : List ℕ) (n t : ℕ) → last_place past ≡ Some moving → ((node : ℕ) → OfNode moving node (λ called. called ≡ own) → node ≡ n) → ((node tenure : ℕ) → node ≡ n → ((node ≡ 0) × (tenure ≡ 1)) ⊎ ((node ≡ 1) × (tenure ≡ 2)) → tenure ≡ t)
    → ((a : StepReply) × IsBegun a × HasStep Here (IsBeginOf t) n 0 a) → HearsBegun past Here own None
begun_by past Here own n t last named tenures step node shard tenure slot given =
    let of_node = slot.of_node in
    let same : moving ≡ of_node.place = same_Some moving of_node.place (sym last ∙ of_node.last) in
    let node_is = named node (subst (λ q. OfNode q node (λ called. called ≡ own)) (sym same) of_node.named) in
    let g = given_in node shard tenure (subst (λ q. IsAssigned q node shard tenure) (sym same) given) in
    let tenure_is = tenures node tenure node_is g.1 in
    subst (λ k. (a : StepReply) × IsBegun a × HasStep Here (IsBeginOf k) node shard a) (sym tenure_is)
    (subst (λ k. (a : StepReply) × IsBegun a × HasStep Here (IsBeginOf t) k shard a) (sym node_is)
    (subst (λ k. (a : StepReply) × IsBegun a × HasStep Here (IsBeginOf t) n k a) (sym g.0) step))

first_tenure : (node tenure : ℕ) → node ≡ 0 → ((node ≡ 0) × (tenure ≡ 1)) ⊎ ((node ≡ 1) × (tenure ≡ 2)) → tenure ≡ 1
first_tenure node tenure is (inl h) = h.1
first_tenure node tenure is (inr h) = absurd (omega (arith, is, h.0))

second_tenure : (node tenure : ℕ) → node ≡ 1 → ((node ≡ 0) × (tenure ≡ 1)) ⊎ ((node ≡ 1) × (tenure ≡ 2)) → tenure ≡ 2
second_tenure node tenure is (inl h) = absurd (omega (arith, is, h.0))
second_tenure node tenure is (inr h) = h.1

-- ---- the first line

pub reopening_line : PlainLine start [] opening reopening reopened of_reopening
reopening_line = record {
  makes = record {
    makes = makes_each start [] opening reopening reopened of_reopening (
      λ late. record {
        slot = record { of_node = record { place = moving; last = refl; named = record { instance_ = first_node; stands = refl; holds = refl } }; covers = refl };
        assigned = (under_way, refl, at_any (λ (a : Assignment). (a.node ≡ 0) × (a.tenure ≡ 1)) under_way 0 leaving refl (refl, refl));
      },
      (
        λ late. (
          record { opens = tt; place = moving; last = refl; runs = record { instance_ = first_node; stands = refl; holds = refl } },
          record {
            slot = record { of_node = record { place = moving; last = refl; named = record { instance_ = first_node; stands = refl; holds = refl } }; covers = refl };
            assigned = (under_way, refl, at_any (λ (a : Assignment). (a.node ≡ 0) × (a.tenure ≡ 1)) under_way 0 leaving refl (refl, refl));
          },
        ),
        tt,
      ),
    );
    restarts = restarts_none opening reopening reopened [] of_reopening (none, (none, tt));
    hears = (begun_by opening (InStretch events_before 2 4) name 0 1 refl first_slot first_tenure (reply.Began 1 [], tt, (call.Begin 1, refl, (3, (omega arith, omega arith, refl)))), λ x m. absurd m);
  };
  plain = record { no_acks = λ nodes e. cc; not_unmet = none; no_found = refl; no_rules = refl; no_seed = refl };
  opened = inl (omega arith);
  adds = λ i e there. let here : 0 + i ≡ i = omega arith in subst (λ k. MayChange (position_after [] reopening reopened) (opening ++ take k of_reopening) e) here (each_at (λ j x. MayChange (position_after [] reopening reopened) (opening ++ take j of_reopening) x) 0 of_reopening (tt, (tt, tt)) i e there);
  prints = record {
    is_place = λ p e. let same : moving ≡ p = same_Some moving p e in subst (HasPlace events_before 4) same (record { place_at = 0; done = []; there = refl; in_time = omega arith });
    not_earlier = λ p k. absurd (no_place p k);
  };
  ends = λ available boot x m. let is = boot.answered in let nothing : [] ≡ available = cc in absurd (subst (λ xs. IsIn xs x) (sym nothing) m);
}

pub first_line : TellsLine start [] opening (line_of reopening reopened) of_reopening
first_line = plain_told start [] opening reopening reopened of_reopening reopening_line

pub told_before : ToldBy start lines_before events_before
told_before = line_told start [] opening (line_of reopening reopened) of_reopening (told_found found_moving) first_line

-- ---- the turns of the second

abbrev pub wrote_turn : InnerTurn
wrote_turn = record { act = written; answer = took }

abbrev pub missed_turn : InnerTurn
missed_turn = record { act = fetched; answer = missed }

abbrev pub joined_turn : InnerTurn
joined_turn = record { act = joining; answer = joined }

abbrev pub writing : TurnPosition
writing = record { lines = lines_before; line = beside; client = 1; earlier = []; beside = missed_turn ∷ joined_turn ∷ []; turn = wrote_turn }

abbrev pub reading : TurnPosition
reading = record { lines = lines_before; line = beside; client = 2; earlier = []; beside = wrote_turn ∷ joined_turn ∷ []; turn = missed_turn }

abbrev pub moving_it : TurnPosition
moving_it = record { lines = lines_before; line = beside; client = 3; earlier = []; beside = wrote_turn ∷ missed_turn ∷ []; turn = joined_turn }

pub last_writing : IsLastTurnPosition lines_before beside writing
last_writing = record { lines_are = refl; line_is = refl; stands = record { front = []; later = []; back = (missed_turn ∷ []) ∷ (joined_turn ∷ []) ∷ []; in_line = refl; others = refl; client_is = refl } }

pub last_reading : IsLastTurnPosition lines_before beside reading
last_reading = record { lines_are = refl; line_is = refl; stands = record { front = (wrote_turn ∷ []) ∷ []; later = []; back = (joined_turn ∷ []) ∷ []; in_line = refl; others = refl; client_is = refl } }

pub last_moving : IsLastTurnPosition lines_before beside moving_it
last_moving = record { lines_are = refl; line_is = refl; stands = record { front = (wrote_turn ∷ []) ∷ (missed_turn ∷ []) ∷ []; later = []; back = []; in_line = refl; others = refl; client_is = refl } }

single : (t : InnerTurn) (earlier : List InnerTurn) (u : InnerTurn) (later : List InnerTurn) → t ∷ [] ≡ earlier ++ u ∷ later → (earlier ≡ []) × (u ≡ t)
single t [] u later e = let same : t ≡ u = cc in (refl, sym same)
single t (x ∷ earlier) u later e = let rest : [] ≡ earlier ++ u ∷ later = cc in absurd (not_empty earlier u later rest)

-- the position of one of three turns beside each other
abbrev pub at_side : List Turn → Turn → ℕ → List InnerTurn → InnerTurn → TurnPosition
at_side lines line client others turn = record { lines = lines; line = line; client = client; earlier = []; beside = others; turn = turn }

-- what holds of three turns beside each other holds of each turn of their line
pub each_beside : (lines : List Turn) (line : Turn) (t u v : InnerTurn) → lists_of line ≡ (t ∷ []) ∷ (u ∷ []) ∷ (v ∷ []) ∷ [] → ((k : ℕ) → client_at line.request k ≡ suc k)
    → (Holds : TurnPosition → Type 0) → Holds (at_side lines line 1 (u ∷ v ∷ []) t) → Holds (at_side lines line 2 (t ∷ v ∷ []) u) → Holds (at_side lines line 3 (t ∷ u ∷ []) v) → (p : TurnPosition) → IsLastTurnPosition lines line p → Holds p
each_beside lines line t u v lists clients Holds first second third p h =
    let at = h.stands in
    subst Holds (λ i. record { lines = sym h.lines_are i; line = sym h.line_is i; client = p.client; earlier = p.earlier; beside = p.beside; turn = p.turn })
    (by_front at.front p.earlier p.turn at.later at.back (sym lists ∙ ap lists_of (sym h.line_is) ∙ at.in_line) p.client (at.client_is ∙ ap (λ (l : Turn). client_at l.request (length at.front)) h.line_is ∙ clients (length at.front)) p.beside at.others)
  where
    own : (client : ℕ) (others : List InnerTurn) (x : InnerTurn) (now : ℕ) (earlier besides : List InnerTurn) (y : InnerTurn) → Holds (at_side lines line client others x) → now ≡ client → earlier ≡ [] → besides ≡ others → y ≡ x
        → Holds (record { lines = lines; line = line; client = now; earlier = earlier; beside = besides; turn = y })
    own client others x now earlier besides y holds c d e f = subst Holds (λ i. record { lines = lines; line = line; client = sym c i; earlier = sym d i; beside = sym e i; turn = sym f i }) holds

    by_front : (front : List (List InnerTurn)) (earlier : List InnerTurn) (x : InnerTurn) (later : List InnerTurn) (back : List (List InnerTurn)) → (t ∷ []) ∷ (u ∷ []) ∷ (v ∷ []) ∷ [] ≡ front ++ (earlier ++ x ∷ later) ∷ back
        → (client : ℕ) → client ≡ suc (length front) → (others : List InnerTurn) → others ≡ in_lists front ++ in_lists back → Holds (record { lines = lines; line = line; client = client; earlier = earlier; beside = others; turn = x })
    by_front [] earlier x later back e client ce others oe =
        let list : t ∷ [] ≡ earlier ++ x ∷ later = cc in
        let rest : (u ∷ []) ∷ (v ∷ []) ∷ [] ≡ back = cc in
        let cut = single t earlier x later list in
        own 1 (u ∷ v ∷ []) t client earlier others x first ce cut.0 (oe ∙ ap in_lists (sym rest)) cut.1
    by_front (a ∷ []) earlier x later back e client ce others oe =
        let one_list : t ∷ [] ≡ a = cc in
        let list : u ∷ [] ≡ earlier ++ x ∷ later = cc in
        let rest : (v ∷ []) ∷ [] ≡ back = cc in
        let cut = single u earlier x later list in
        own 2 (t ∷ v ∷ []) u client earlier others x second ce cut.0 (oe ∙ ap (λ bs. in_lists (a ∷ []) ++ in_lists bs) (sym rest) ∙ ap (λ xs. in_lists (xs ∷ []) ++ (v ∷ [])) (sym one_list)) cut.1
    by_front (a ∷ (b ∷ [])) earlier x later back e client ce others oe =
        let one_list : t ∷ [] ≡ a = cc in
        let other : u ∷ [] ≡ b = cc in
        let list : v ∷ [] ≡ earlier ++ x ∷ later = cc in
        let rest : [] ≡ back = cc in
        let cut = single v earlier x later list in
        own 3 (t ∷ u ∷ []) v client earlier others x third ce cut.0 (oe ∙ ap (λ bs. in_lists (a ∷ b ∷ []) ++ in_lists bs) (sym rest) ∙ ap (λ ys. in_lists (a ∷ ys ∷ []) ++ []) (sym other) ∙ ap (λ xs. in_lists (xs ∷ (u ∷ []) ∷ []) ++ []) (sym one_list)) cut.1
    by_front (a ∷ (b ∷ (c ∷ front))) earlier x later back e client ce others oe = let rest : [] ≡ front ++ (earlier ++ x ∷ later) ∷ back = cc in absurd (not_empty front (earlier ++ x ∷ later) back rest)

pub each_turn : (Holds : TurnPosition → Type 0) → Holds writing → Holds reading → Holds moving_it → (p : TurnPosition) → IsLastTurnPosition lines_before beside p → Holds p
each_turn = each_beside lines_before beside wrote_turn missed_turn joined_turn refl (λ k. refl)

-- ---- its events

abbrev pub spans : Spans
spans = record { from = λ p. 4; to = λ p. 18 }

-- the worker made those up to the Place, and the first client the others
abbrev makers : ℕ → TurnPosition
makers i = if nat_lt i 14 then moving_it else writing

maker_here : (b : Bool) → IsLastTurnPosition lines_before beside (if b then moving_it else writing)
maker_here true = last_moving
maker_here false = last_writing

at_each : (Holds : ℕ → Event → Type 0) → Each Holds 0 events → (i : ℕ) (e : Event) → At events i e → Holds i e
at_each Holds each i e there = let here : 0 + i ≡ i = omega arith in subst (λ k. Holds k e) here (each_at Holds 0 events each i e there)

abbrev Mine : ℕ → Type 0
Mine = From 4

flat : (p : TurnPosition) → IsLastTurnPosition lines_before beside p → (length p.lines ≡ 1) × (length p.earlier ≡ 0)
flat = each_turn (λ p. (length p.lines ≡ 1) × (length p.earlier ≡ 0)) (refl, refl) (refl, refl) (refl, refl)

none_earlier : (p q : TurnPosition) → IsLastTurnPosition lines_before beside p → IsLastTurnPosition lines_before beside q → IsEarlier p q → ⊥
none_earlier p q hp hq (inl lt) = omega (arith, lt, (flat p hp).0, (flat q hq).0)
none_earlier p q hp hq (inr later) = omega (arith, later.2, (flat p hp).1, (flat q hq).1)

-- ---- who asks for what

covered : (past : List Event) → last_place past ≡ Some moving → IsCoveredSlot past other_name None 1 0
covered past last = record { of_node = record { place = moving; last = last; named = record { instance_ = second_node; stands = refl; holds = refl } }; covers = refl }

streams : (past : List Event) → last_place past ≡ Some moving → MayStream past other_name None 0 0 2
streams past last = record {
  covers = refl;
  place = moving;
  last = last;
  assignments = under_way;
  there = refl;
  is_former = inl refl;
  joining = joined_by;
  joins = inr (inl refl);
  is_joining = refl;
  tenure_is = refl;
  named = record { instance_ = second_node; stands = refl; holds = refl };
}

counts_it : (past : List Event) → At past 14 (event.Send 3 0 point) → At past 16 (event.Step 1 0 put reply.Done) → CountsOwnPuts start past writing 14 (1 ∷ [])
counts_it past sent step version s p there node (inl is) =
    let same : event.Send 3 0 point ≡ event.Send version s p = at_same past 14 (event.Send 3 0 point) (event.Send version s p) sent there in
    let moved_step : event.Step 1 0 put reply.Done ≡ event.Step node s (call.Put 1 0 rules version p) reply.Done = cc in
    record { position = 16; later = omega arith; took = step ∙ ap Some moved_step }
counts_it past sent step version s p there node (inr nobody) = absurd nobody

-- the write uses the placement in which the move is over
pub over_stands : MayStand start writing moved
over_stands = (inner_turns lines_before ++ ([] ++ (missed_turn ∷ joined_turn ∷ [])), record { others = missed_turn ∷ joined_turn ∷ []; some_of = inl (refl, inl (refl, tt)); are = refl }, refl)

sends_it : (version s : ℕ) (p : Point) → event.Send 3 0 point ≡ event.Send version s p → IsSendOf start events writing version s p
sends_it version s p e =
    let v : 3 ≡ version = cc in
    let shard : 0 ≡ s = cc in
    let same : point ≡ p = cc in
    record {
      call = record { id = Some name; version = None; needed = needed_write taking.Majority };
      of_act = refl;
      of_point = ap Some same;
      sent = refl;
      place = moved;
      uses = record { may_use = over_stands; place_at = 13; done = (0, 1) ∷ []; there = refl };
      version_is = sym v;
      shard_is = sym shard ∙ sym (shard_zero name) ∙ ap (λ (x : Point). shard_of x.id 0 1) same;
    }

acks_it : (send : ℕ) (nodes : List ℕ) → event.Ack 14 (1 ∷ []) ≡ event.Ack send nodes → IsSendAt Mine events makers writing send
acks_it send nodes e = let same : 14 ≡ send = cc in subst (IsSendAt Mine events makers writing) same (record { version = 3; s = 0; point = point; there = refl; mine = omega arith; own = refl })

pub boot_of : IsBootstrapOf moving_it ((0, 0 ∷ []) ∷ [])
boot_of = record { node = other_name; asked = None; act_is = refl; place = moved; version = 3; answered = refl }

peers : PrintsPeers moved (take 13 events) moving_it 0 1
peers = record {
  available = (0, 0 ∷ []) ∷ [];
  bootstrap = record { name = other_name; asked = None; act_is = refl; named = record { instance_ = second_node; stands = refl; holds = refl }; version = 3; answered = refl };
  names = 0 ∷ [];
  printed = inl refl;
  last = moving;
  last_is = refl;
  shard = under_way;
  shard_is = refl;
  by_name = ((λ other none. absurd none), tt);
  enough = peers_enough;
  joining = joined_by;
  joins = inr (inl refl);
  to_node = refl;
  is_joining = refl;
  streamed = one (λ q. HasStreamed 0 1 2 q (take 13 events)) 0 streamed;
}

ends_it : (place : Placement) (done : List (ℕ × ℕ)) → event.Place moved ((0, 1) ∷ []) ≡ event.Place place done → (d : ℕ × ℕ) → IsIn done d → PrintsPeers place (take 13 events) moving_it d.0 d.1
ends_it place done e d m =
    let same : (0, 1) ∷ [] ≡ done = cc in
    let to : moved ≡ place = cc in
    subst (λ q. PrintsPeers q (take 13 events) moving_it d.0 d.1) to (one (λ (x : ℕ × ℕ). PrintsPeers moved (take 13 events) moving_it x.0 x.1) (0, 1) peers d (subst (λ ds. IsIn ds d) (sym same) m))

ended : EndsPrinted Mine events makers moving_it
ended available boot x m =
    let acts : joining ≡ act.Bootstrap boot.node boot.asked = boot.act_is in
    let called : other_name ≡ boot.node = cc in
    let answers : joined ≡ answer.Available available boot.place boot.version = boot.answered in
    let printed_so : (0, 0 ∷ []) ∷ [] ≡ available = cc in
    one (λ (y : ℕ × List ℕ). EndsOwn Mine events makers moving_it boot.node y.0) (0, 0 ∷ [])
    (record { place_at = 13; place = moved; done = (0, 1) ∷ []; there = refl; mine = omega arith; own = refl; node = 1; named = record { instance_ = second_node; stands = refl; holds = called }; ended = inl refl })
    x (subst (λ xs. IsIn xs x) (sym printed_so) m)

-- ---- what the turns hear

abbrev Here : ℕ → Event → Type 0
Here = InStretch events 4 18

counted_here : (s : ℕ) → s ≡ shard_of name 0 1 → (node : ℕ) → IsIn (1 ∷ []) node → IsCounted moved s node
counted_here s is node m = subst (λ n. IsIn (counted_nodes moved n) node) (sym (is ∙ shard_zero name)) m

served_here : (s : ℕ) → s ≡ shard_of name 0 1 → (node : ℕ) → IsIn (1 ∷ []) node → HasServed start Here writing moved s node
served_here s is node (inl same) =
    subst (λ n. HasServed start Here writing moved n node) (sym (is ∙ shard_zero name))
    (subst (λ n. HasServed start Here writing moved 0 n) same (reply.Done, tt, (put, (refl, refl, refl, refl, refl), (16, (omega arith, omega arith, refl))), record { instance_ = second_node; stands = refl; holds = refl }))
served_here s is node (inr nobody) = absurd nobody

hears_write : HearsAcks start Here writing (1 ∷ [])
hears_write = record {
  call = record { id = Some name; version = None; needed = needed_write taking.Majority };
  of_call = refl;
  place = moved;
  may_use = over_stands;
  by_name = (λ y nobody. absurd nobody, tt);
  some = omega arith;
  enough = omega arith;
  counted = λ s is node m. counted_here s is node m;
  served = λ s is node m. served_here s is node m;
}

-- before the move is over nobody counts
hears_read : HearsTooFew start Here reading 0 1 [] 0
hears_read = record {
  call = record { id = Some name; version = None; needed = needed_read level.Majority };
  of_call = refl;
  place = moving;
  may_use = (inner_turns lines_before ++ [], record { others = []; some_of = tt; are = refl }, refl);
  asked = sym (shard_zero name);
  needed_is = refl;
  fewer = omega arith;
  hears = record { others = refl; counted = λ r m. absurd m; by_name = tt; heard = λ r m. absurd m; took = λ some. absurd (omega (arith, some)); served = λ n m. absurd m };
  first = λ lower lt asked. absurd (omega (arith, lt));
}

-- the node that the bootstrap prints was fenced
first_fenced : HearsStreamed Here ((0, 0 ∷ []) ∷ [])
first_fenced x m q k =
    one (λ (y : ℕ × List ℕ). (n : ℕ) → IsIn y.1 n → (version : ℕ) × Happens Here (event.Step n y.0 (call.Fence version) reply.Done)) (0, 0 ∷ [])
    (one (λ (n : ℕ). (version : ℕ) × Happens Here (event.Step n 0 (call.Fence version) reply.Done)) 0 (2, (7, (omega arith, omega arith, refl)))) x m q k

-- ---- the line

acked_by : (nodes : List ℕ) → took ≡ answer.Acks nodes → HasAck Mine events makers writing nodes
acked_by nodes is = let same : 1 ∷ [] ≡ nodes = cc in subst (HasAck Mine events makers writing) same (record { send = 14; sent = record { version = 3; s = 0; point = point; there = refl; mine = omega arith; own = refl }; ack = 17; acked = refl; mine = omega arith; own = refl })

makes_it : Each (λ k e. Mine k → MayMake start (take k events) (makers k) e) 0 events
unfolding covered
makes_it = (
  λ mine. absurd (omega (arith, mine)),
  (
    λ mine. absurd (omega (arith, mine)),
    (
      λ mine. absurd (omega (arith, mine)),
      (
        λ mine. absurd (omega (arith, mine)),
        (
          λ mine. record { slot = covered (take 4 events) refl; assigned = (under_way, refl, at_any (λ (a : Assignment). (a.node ≡ 1) × (a.tenure ≡ 2)) under_way 1 joined_by refl (refl, refl)) },
          (
            λ mine. (
              record { opens = tt; place = moving; last = refl; runs = record { instance_ = second_node; stands = refl; holds = refl } },
              record { slot = covered (take 5 events) refl; assigned = (under_way, refl, at_any (λ (a : Assignment). (a.node ≡ 1) × (a.tenure ≡ 2)) under_way 1 joined_by refl (refl, refl)) },
            ),
            (
              λ mine. streams (take 6 events) refl,
              (
                λ mine. tt,
                (
                  λ mine. (2, streams (take 8 events) refl),
                  (
                    λ mine. tt,
                    (
                      λ mine. covered (take 10 events) refl,
                      (
                        λ mine. tt,
                        (
                          λ mine. one (λ (d : ℕ × ℕ). IsCoveredSlot (take 12 events) other_name None d.1 d.0) (0, 1) (covered (take 12 events) refl),
                          (
                            λ mine. record { stood = moved; prints = refl; not_before = omega arith },
                            (
                              λ mine. tt,
                              (
                                λ mine. record {
                                  of_call = record { client_is = refl; number_is = refl; rules_are = refl };
                                  of_point = refl;
                                  send = 14;
                                  sent = refl;
                                  place = moved;
                                  is_place = record { place_at = 13; done = (0, 1) ∷ []; there = refl; version_is = refl };
                                  member = refl;
                                  delivered = record { instance_ = second_node; stands = refl; holds = refl };
                                },
                                (λ mine. tt, (λ mine. counts_it (take 17 events) refl refl, tt)),
                              ),
                            ),
                          ),
                        ),
                      ),
                    ),
                  ),
                ),
              ),
            ),
          ),
        ),
      ),
    ),
  ),
)

prints_one : (p : TurnPosition) → IsLastTurnPosition lines_before beside p → (place : Placement) → printed p.turn.answer ≡ Some place → place ≡ moved
prints_one = each_turn (λ p. (place : Placement) → printed p.turn.answer ≡ Some place → place ≡ moved) (λ place e. absurd (let bad : None ≡ Some place = e in cc)) (λ place e. absurd (let bad : None ≡ Some place = e in cc)) (λ place e. sym (same_Some moved place e))

printed_before : (p : TurnPosition) → IsTurnPosition lines_before p → printed p.turn.answer ≡ Some moving
printed_before = at_push (λ p. printed p.turn.answer ≡ Some moving) [] (line_of reopening reopened) (λ p k. absurd (no_place p k)) (each start [] opening reopening reopened of_reopening (λ p. printed p.turn.answer ≡ Some moving) refl)

pub second_line : TellsLine start lines_before events_before beside of_both
second_line = record {
  spans = spans;
  makers = makers;
  tells = record {
    order = record {
      not_below = λ p h. omega arith;
      not_above = λ p h. omega arith;
      not_back = λ p h. omega arith;
      order = λ p q hp hq earlier. absurd (none_earlier p q hp hq earlier);
      made = λ i e mine late there kind. (maker_here (nat_lt i 14), (mine, at_within events i e there));
    };
    init = record { begun = λ mine. absurd (omega (arith, mine)); inits = λ p h sets. absurd (each_turn (λ p. sets_seed p.turn.act p.turn.answer ≡ true → ⊥) (λ e. cc) (λ e. cc) (λ e. cc) p h sets) };
    writes = record {
      acked = each_turn (λ p. (nodes : List ℕ) → p.turn.answer ≡ answer.Acks nodes → HasAck Mine events makers p nodes) acked_by (λ nodes e. absurd (cc)) (λ nodes e. absurd (cc));
      sent = each_turn (λ p. IsUnmetWrite p.turn.act p.turn.answer → HasSend Mine events makers p) (λ h. absurd h) (λ h. absurd h) (λ h. absurd h);
      each_send = λ i version s p mine there. at_each (λ k x. Mine k → x ≡ event.Send version s p → IsSendOf start events (makers k) version s p) (λ mine. absurd (omega (arith, mine)), (λ mine. absurd (omega (arith, mine)), (λ mine. absurd (omega (arith, mine)), (λ mine. absurd (omega (arith, mine)), (λ mine e. absurd (cc), (λ mine e. absurd (cc), (λ mine e. absurd (cc), (λ mine e. absurd (cc), (λ mine e. absurd (cc), (λ mine e. absurd (cc), (λ mine e. absurd (cc), (λ mine e. absurd (cc), (λ mine e. absurd (cc), (λ mine e. absurd (cc), (λ mine e. sends_it version s p e, (λ mine e. absurd (cc), (λ mine e. absurd (cc), (λ mine e. absurd (cc), tt)))))))))))))))))) i (event.Send version s p) there mine refl;
      each_ack = λ i send nodes mine there. at_each (λ k x. Mine k → x ≡ event.Ack send nodes → IsSendAt Mine events makers (makers k) send) (λ mine. absurd (omega (arith, mine)), (λ mine. absurd (omega (arith, mine)), (λ mine. absurd (omega (arith, mine)), (λ mine. absurd (omega (arith, mine)), (λ mine e. absurd (cc), (λ mine e. absurd (cc), (λ mine e. absurd (cc), (λ mine e. absurd (cc), (λ mine e. absurd (cc), (λ mine e. absurd (cc), (λ mine e. absurd (cc), (λ mine e. absurd (cc), (λ mine e. absurd (cc), (λ mine e. absurd (cc), (λ mine e. absurd (cc), (λ mine e. absurd (cc), (λ mine e. absurd (cc), (λ mine e. acks_it send nodes e, tt)))))))))))))))))) i (event.Ack send nodes) there mine refl;
    };
    reads = record {
      found = each_turn (λ p. (found : Found) → found_of p.turn.answer ≡ Some found → IsTold start Mine events makers p found) (λ f e. absurd (let bad : None ≡ Some f = e in cc)) (λ f e. absurd (let bad : None ≡ Some f = e in cc)) (λ f e. absurd (let bad : None ≡ Some f = e in cc));
      each_start = λ i version s by chosen from to mine there. at_each (λ k x. Mine k → x ≡ event.FetchStart version s by chosen from to → IsStartOf start events (makers k) version s by chosen from to) (λ mine. absurd (omega (arith, mine)), (λ mine. absurd (omega (arith, mine)), (λ mine. absurd (omega (arith, mine)), (λ mine. absurd (omega (arith, mine)), (λ mine e. absurd (cc), (λ mine e. absurd (cc), (λ mine e. absurd (cc), (λ mine e. absurd (cc), (λ mine e. absurd (cc), (λ mine e. absurd (cc), (λ mine e. absurd (cc), (λ mine e. absurd (cc), (λ mine e. absurd (cc), (λ mine e. absurd (cc), (λ mine e. absurd (cc), (λ mine e. absurd (cc), (λ mine e. absurd (cc), (λ mine e. absurd (cc), tt)))))))))))))))))) i (event.FetchStart version s by chosen from to) there mine refl;
      each_done = λ i began nodes series mine there. at_each (λ k x. Mine k → x ≡ event.FetchDone began nodes series → IsStartAt Mine events makers (makers k) began) (λ mine. absurd (omega (arith, mine)), (λ mine. absurd (omega (arith, mine)), (λ mine. absurd (omega (arith, mine)), (λ mine. absurd (omega (arith, mine)), (λ mine e. absurd (cc), (λ mine e. absurd (cc), (λ mine e. absurd (cc), (λ mine e. absurd (cc), (λ mine e. absurd (cc), (λ mine e. absurd (cc), (λ mine e. absurd (cc), (λ mine e. absurd (cc), (λ mine e. absurd (cc), (λ mine e. absurd (cc), (λ mine e. absurd (cc), (λ mine e. absurd (cc), (λ mine e. absurd (cc), (λ mine e. absurd (cc), tt)))))))))))))))))) i (event.FetchDone began nodes series) there mine refl;
    };
    placements = record {
      is_place = λ p h place prints. subst (HasPlace events 18) (sym (prints_one p h place prints)) (record { place_at = 13; done = (0, 1) ∷ []; there = refl; in_time = omega arith });
      not_earlier = λ p q hp hq earlier. absurd (none_earlier p q hp hq earlier);
      each_end = λ i place done mine late there. at_each (λ k x. Mine k → x ≡ event.Place place done → (d : ℕ × ℕ) → IsIn done d → PrintsPeers place (take k events) (makers k) d.0 d.1) (λ mine. absurd (omega (arith, mine)), (λ mine. absurd (omega (arith, mine)), (λ mine. absurd (omega (arith, mine)), (λ mine. absurd (omega (arith, mine)), (λ mine e. absurd (cc), (λ mine e. absurd (cc), (λ mine e. absurd (cc), (λ mine e. absurd (cc), (λ mine e. absurd (cc), (λ mine e. absurd (cc), (λ mine e. absurd (cc), (λ mine e. absurd (cc), (λ mine e. absurd (cc), (λ mine e. ends_it place done e, (λ mine e. absurd (cc), (λ mine e. absurd (cc), (λ mine e. absurd (cc), (λ mine e. absurd (cc), tt)))))))))))))))))) i (event.Place place done) there mine refl;
      ends_printed = each_turn (EndsPrinted Mine events makers) (λ available boot x m. absurd (let bad = boot.act_is in cc)) (λ available boot x m. absurd (let bad = boot.act_is in cc)) ended;
    };
    clocks = record {
      set = each_turn (λ p. sets_rules p.turn.act p.turn.answer ≡ true → HasClock start Mine events makers p) (λ e. absurd (cc)) (λ e. absurd (cc)) (λ e. absurd (cc));
      each_clock = λ i by mine late there. at_each (λ k x. Mine k → x ≡ event.Clock by → IsClockOf start turns (makers k) by) (λ mine. absurd (omega (arith, mine)), (λ mine. absurd (omega (arith, mine)), (λ mine. absurd (omega (arith, mine)), (λ mine. absurd (omega (arith, mine)), (λ mine e. absurd (cc), (λ mine e. absurd (cc), (λ mine e. absurd (cc), (λ mine e. absurd (cc), (λ mine e. absurd (cc), (λ mine e. absurd (cc), (λ mine e. absurd (cc), (λ mine e. absurd (cc), (λ mine e. absurd (cc), (λ mine e. absurd (cc), (λ mine e. absurd (cc), (λ mine e. absurd (cc), (λ mine e. absurd (cc), (λ mine e. absurd (cc), tt)))))))))))))))))) i (event.Clock by) there mine refl;
    };
    makes = λ i e mine late there. at_each (λ k x. Mine k → MayMake start (take k events) (makers k) x) makes_it i e there mine;
    restarts = λ i n s r mine late there. absurd (at_each (λ k x. IsRestart x → ⊥) (none, (none, (none, (none, (none, (none, (none, (none, (none, (none, (none, (none, (none, (none, (none, (none, (none, (none, tt)))))))))))))))))) i (event.Step n s call.Restart r) there tt);
    hears = each_turn (λ p. HearsBy start (take 4 events) Here p p.turn.act p.turn.answer) hears_write hears_read
        (begun_by (take 4 events) Here other_name 1 2 refl second_slot second_tenure (reply.Began 2 [], tt, (call.Begin 2, refl, (5, (omega arith, omega arith, refl)))), first_fenced);
  };
  not_earlier = λ p q hp hq was is of_was of_is.
      let old : moving ≡ was = same_Some moving was (sym (printed_before p hp) ∙ of_was) in
      omega (arith, ap (λ (x : Placement). x.version) old, ap (λ (x : Placement). x.version) (prints_one q hq is of_is));
}

pub beside_told : ToldBy start turns events
beside_told = line_told start lines_before events_before beside of_both told_before second_line

pub second_spans : second_line.spans ≡ spans
unfolding second_line
second_spans = refl
