-- The fields are what the turns left, one turn on.
use Rattle.std.proofs.Common.{◌≡◌, ℕ, zero, suc, ◌≤◌, List, [], ◌∷◌, ◌++◌, drop, take, map, length, refl, sym, ap, subst, ◌∙◌, inl, inr, arith, Bool, true, false, cond, append_assoc}
use Rattle.std.specs.Prelude.{◌⊎◌, Option, Some, None, IsTrue, filter, nat_eq}
use Rattle.std.proofs.lemmas.Grind.{fold-append}
use Rattle.std.proofs.lemmas.List.{append-nil, take-map}
use Rattle.m3_model.specs.Ascends.{Ascends}
use Rattle.m3_model.specs.Hash.{shard_of}
use Rattle.m3_model.specs.Levels.{needed_write}
use Rattle.m3_model.specs.Members.{IsIn}
use Rattle.m3_model.specs.declared.act.Act.{Act}
use Rattle.m3_model.specs.declared.act.Fate.{Fate}
use Rattle.m3_model.specs.declared.act.Fate.TheVariants as fate
use Rattle.m3_model.specs.declared.act.WriteLevel.{WriteLevel}
use Rattle.m3_model.specs.declared.answer.Answer.{Answer}
use Rattle.m3_model.specs.declared.placement.Assignment.{Assignment}
use Rattle.m3_model.specs.declared.placement.Placement.{Placement}
use Rattle.m3_model.specs.declared.point.Point.{Point}
use Rattle.m3_model.specs.declared.rules.MetaState.{MetaState}
use Rattle.m3_model.specs.declared.rules.Rules.{Rules}
use Rattle.m3_model.specs.declared.turn.Reply.TheVariants as reply
use Rattle.m3_model.specs.declared.turn.Request.TheVariants as request
use Rattle.m3_model.specs.declared.turn.Turn.{Turn}
use Rattle.m3_model.proofs.Ascending.{Ascends-append, Ascends-weaken}
use Rattle.m3_model.proofs.Lists.{IsIn-take}
use Rattle.m3_model.proofs.MemberLemmas.{IsIn-append_cases, IsIn-map, map-IsIn}
use Rattle.m3_outside.specs.declared.disk.Disk.{Ghosts}
use Rattle.net_plan.specs.declared.late_write.LateWrite.{LateWrite}
use Rattle.placement_core.specs.NodeNames.{IsNamedBelow}
use Rattle.placement_core.specs.Shards.{Shard, nodes_of, shard_at}
use Rattle.placement_core.proofs.ListLemmas.{IsIn-filter, chosen}
use Rattle.placement_core.proofs.OrderLemmas.{ascends-filter, ascends-map}
use Rattle.session_net.specs.replica_exchange.declared.call_id.CallId.{CallId}
use Rattle.session_net.specs.Messages.{fate_to}
use Rattle.session_net.specs.Writes.{AreMembers, bag_after, filled, is_late, late_to, shard_of_point}
use Rattle.session_net.specs.declared.net.Net.{Net}
use Rattle.told_runs.specs.told_by.Lines.{position_after}
use Rattle.told_runs.proofs.told_by_proofs.LineLemmas.{line_below, position_last, position_stays}
use Rattle.told_runs.proofs.told_by_proofs.OneLemmas.{is_last}
use Rattle.told_runs.proofs.told_by_proofs.RuleLemmas.{Grows, after_grows, after_lines, point_grows}
use Rattle.told_runs.proofs.told_by_proofs.TurnLemmas.{inner-append}
use Rattle.told_runs.proofs.MemberLemmas.{listed_member}
use Rattle.told_runs.specs.transcripts.Calls.{call_of}
use Rattle.told_runs.specs.transcripts.Deliveries.{IsLateBefore, LateMessage, delivers_nothing, shard_of_message}
use Rattle.told_runs.specs.transcripts.Fates.{calls_in, client_acts, fates_set, fate_in, numbering_after, numbering_by}
use Rattle.told_runs.specs.transcripts.Placements.{has_replica, later_placement, placement_after, printed, seed_after, seed_by, start_placement}
use Rattle.told_runs.specs.transcripts.Points.{point_of, was_sent}
use Rattle.told_runs.specs.transcripts.Record.{IsTurnPosition, inner_turns, line_of}
use Rattle.told_runs.specs.transcripts.Rules.{rules_after, rules_by, start_rules}
use Rattle.line_tracks.specs.calls.Keeps.{FieldsStay, LeftAsBefore, LeftByDelivery, LeftByWrite, SetsNothing}
use Rattle.line_tracks.specs.calls.Laws.{IsWrite}
use Rattle.line_tracks.specs.calls.Left.{AreHeldBack, FareAsSet, HoldsBack, IsHeldBack, NetIsLeftBy}
use Rattle.line_tracks.proofs.calls.MemberLemmas.{node_within}
use Rattle.line_tracks.proofs.calls.ServeLemmas.{held_one}
use Rattle.line_tracks.proofs.calls.ShardLemmas.{node_there}
use Rattle.line_tracks.proofs.calls.WriteLemmas.{fate_here, may_use, number_here}

-- ---- one turn on

-- behind an earlier position, one line more
drop_on : {X : Type 0} (k : ℕ) (xs : List X) (x y : X) → IsIn (drop k (xs ++ x ∷ [])) y → IsIn (drop k xs) y ⊎ (x ≡ y)
drop_on zero xs x y i = elim (IsIn-append_cases xs (x ∷ []) y i) as (λ _. IsIn xs y ⊎ (x ≡ y)) [ inl before ↦ inl before | inr last ↦ elim last as (λ _. IsIn xs y ⊎ (x ≡ y)) [ inl same ↦ inr same | inr none ↦ absurd none ] ]
drop_on {X} (suc k) [] x y i = absurd (none_left k i)
  where
    none_left : (k : ℕ) → IsIn (drop k []) y → ⊥
    none_left zero i = i
    none_left (suc k) i = i
drop_on (suc k) (z ∷ xs) x y i = drop_on k xs x y i

module _ (start : Option MetaState) (turns : List Turn) (a : Act) (b : Answer) where
  abbrev pub longer : List Turn
  longer = turns ++ line_of a b ∷ []

  pub rules_next : rules_after (start_rules start) (inner_turns longer) ≡ rules_by a b (rules_after (start_rules start) (inner_turns turns))
  rules_next = after_lines (start_rules start) turns (line_of a b ∷ [])

  pub newest_next : placement_after (start_placement start) (inner_turns longer) ≡ later_placement (printed b) (placement_after (start_placement start) (inner_turns turns))
  newest_next = ap (placement_after (start_placement start)) (inner-append turns (line_of a b ∷ [])) ∙ fold-append (λ p turn. later_placement (printed turn.answer) p) (start_placement start) (inner_turns turns) (inner_turns (line_of a b ∷ []))

  pub place_next : printed b ≡ None → placement_after (start_placement start) (inner_turns longer) ≡ placement_after (start_placement start) (inner_turns turns)
  place_next none = newest_next ∙ ap (λ o. later_placement o (placement_after (start_placement start) (inner_turns turns))) none

  pub seed_next : seed_after start (inner_turns longer) ≡ seed_by a b (seed_after start (inner_turns turns))
  seed_next = ap (seed_after start) (inner-append turns (line_of a b ∷ [])) ∙ fold-append (λ seed turn. seed_by turn.act turn.answer seed) (seed_after start []) (inner_turns turns) (inner_turns (line_of a b ∷ []))

  pub numbering_next : numbering_after 0 longer ≡ numbering_by (fates_set (request.One a) (reply.One b)) (calls_in (client_acts 0 (request.One a))) (numbering_after 0 turns)
  numbering_next = fold-append (λ before line. numbering_by (fates_set line.request line.reply) (calls_in (client_acts 0 line.request)) before) (record { fates = []; calls = 0 }) turns (line_of a b ∷ [])

  -- a late message stays late while none are delivered
  module _ (quiet : IsTrue (delivers_nothing (line_of a b))) where
    held_on : (message : LateMessage) (late : LateWrite) → IsHeldBack start turns message late → IsHeldBack start longer message late
    held_on message late h = record {
      made = position_stays turns (line_of a b) message.position h.made;
      is_late = (let was = h.is_late in record {
        made = inl (position_stays turns (line_of a b) message.position h.made);
        of_act = point_grows (rules_after (start_rules start) (inner_turns turns)).spaces (rules_after (start_rules start) (inner_turns longer)).spaces
            (subst (λ (r : Rules). Grows (rules_after (start_rules start) (inner_turns turns)).spaces r.spaces) (sym rules_next) (after_grows (rules_after (start_rules start) (inner_turns turns)) (inner_turns (line_of a b ∷ [])))) message.position.turn.act message.point was.of_act;
        was_sent = was.was_sent;
        call = was.call;
        of_call = was.of_call;
        may_use = was.may_use;
        member = was.member;
        late = was.late;
        not_yet = λ line i. elim (drop_on (suc (length message.position.lines)) turns (line_of a b) line i) as (λ _. IsTrue (delivers_nothing line)) [
          | inl before ↦ was.not_yet line before
          | inr same ↦ subst (λ l. IsTrue (delivers_nothing l)) same quiet
        ];
      });
      client = h.client;
      number = h.number;
      node = h.node;
      shard = h.shard;
      version = h.version;
      point = h.point;
    }

    pub all_held_on : (messages : List LateMessage) (bag : List LateWrite) → AreHeldBack start turns messages bag → AreHeldBack start longer messages bag
    all_held_on [] [] h = tt
    all_held_on (message ∷ messages) (late ∷ bag) h = (held_on message late h.0, all_held_on messages bag h.1)
    all_held_on [] (late ∷ bag) h = absurd h
    all_held_on (message ∷ messages) [] h = absurd h

    -- so all are held back that were
    pub holds_on : (bag : List LateWrite) → HoldsBack start turns bag → HoldsBack start longer bag
    holds_on bag h = record { messages = h.messages; in_order = h.in_order; held = all_held_on h.messages bag h.held }

module _ (start : Option MetaState) (turns : List Turn) (a : Act) (b : Answer) (sets : SetsNothing a b) where
  pub rules_on : rules_after (start_rules start) (inner_turns (longer start turns a b)) ≡ rules_after (start_rules start) (inner_turns turns)
  rules_on = rules_next start turns a b ∙ sets.rules (rules_after (start_rules start) (inner_turns turns))

  pub seed_on : seed_after start (inner_turns (longer start turns a b)) ≡ seed_after start (inner_turns turns)
  seed_on = seed_next start turns a b ∙ sets.seed (seed_after start (inner_turns turns))

  pub fates_on : (numbering_after 0 (longer start turns a b)).fates ≡ (numbering_after 0 turns).fates
  fates_on = ap (λ n. n.fates) (numbering_next start turns a b) ∙ ap (λ o. (numbering_by o (calls_in (client_acts 0 (request.One a))) (numbering_after 0 turns)).fates) sets.fates

  -- all but the bag
  pub left_on : {D : Type 0} {G : Ghosts D} (old new : Net D G) → NetIsLeftBy start turns old → FieldsStay old new → HoldsBack start (longer start turns a b) new.bag → NetIsLeftBy start (longer start turns a b) new
  left_on {D} {G} old new left stay late = record {
    rules = rules_on ∙ left.rules ∙ ap (λ s. s.rules) (sym stay.state);
    place = place_next start turns a b sets.place ∙ left.place ∙ ap (λ s. Some s.place) (sym stay.state);
    seed = seed_on ∙ left.seed ∙ ap (λ s. s.seed) (sym stay.state);
    fates = subst (λ s. FareAsSet (longer start turns a b) s.place new.fates) (sym stay.state)
        (subst (FareAsSet (longer start turns a b) old.state.place) (sym stay.fates) (λ client call node own stands. left.fates client call node own stands ∙ ap (λ list. fate_in list client call own.name) (sym fates_on)));
    late = late;
  }

pub left_as_before : {D : Type 0} {G : Ghosts D} (old : Net D G) → LeftAsBefore old
left_as_before {D} {G} old start turns new a b left stay sets quiet same = left_on start turns a b sets old new left stay
    (subst (HoldsBack start (turns ++ line_of a b ∷ [])) (sym same) (holds_on start turns a b quiet old.bag left.late))

pub left_by_delivery : {D : Type 0} {G : Ghosts D} (old : Net D G) → LeftByDelivery old
left_by_delivery {D} {G} old start turns new a b left stay sets none = left_on start turns a b sets old new left stay (subst (HoldsBack start (turns ++ line_of a b ∷ [])) (sym none) (record { messages = []; in_order = tt; held = tt }))

-- ---- a bag to which late messages of a write come

full_stays : (bag more : List LateWrite) → nat_eq (length bag) 4096 ≡ true → filled bag more ≡ bag
full_stays bag [] full = refl
full_stays bag (late ∷ more) full = ap (λ t. filled (cond t bag (bag ++ late ∷ [])) more) full ∙ full_stays bag more full

-- a bag takes some first ones of the messages
filled_with : (bag more : List LateWrite) → (k : ℕ) × (filled bag more ≡ bag ++ take k more)
filled_with bag [] = (0, sym (append-nil bag))
filled_with bag (late ∷ more) = by_room (nat_eq (length bag) 4096) refl (filled_with (bag ++ late ∷ []) more)
  where
    by_room : (t : Bool) → nat_eq (length bag) 4096 ≡ t → (k : ℕ) × (filled (bag ++ late ∷ []) more ≡ (bag ++ late ∷ []) ++ take k more) → (k : ℕ) × (filled bag (late ∷ more) ≡ bag ++ take k (late ∷ more))
    by_room true full rest = (0, full_stays bag (late ∷ more) full ∙ sym (append-nil bag))
    by_room false room rest = (suc rest.0, ap (λ t. filled (cond t bag (bag ++ late ∷ [])) more) room ∙ rest.1 ∙ append_assoc bag (late ∷ []) (take rest.0 more))

ascends_take : {X : Type 0} (R : X → X → Type 0) (k : ℕ) (xs : List X) → Ascends R xs → Ascends R (take k xs)
ascends_take R zero xs h = tt
ascends_take R (suc k) [] h = tt
ascends_take R (suc k) (x ∷ xs) h = (λ y i. h.0 y (IsIn-take k xs y i), ascends_take R k xs h.1)

held_append : (start : Option MetaState) (turns : List Turn) (messages more : List LateMessage) (bag lates : List LateWrite) → AreHeldBack start turns messages bag → AreHeldBack start turns more lates → AreHeldBack start turns (messages ++ more) (bag ++ lates)
held_append start turns [] more [] lates h new = new
held_append start turns (message ∷ messages) more (late ∷ bag) lates h new = (h.0, held_append start turns messages more bag lates h.1 new)
held_append start turns [] more (late ∷ bag) lates h new = absurd h
held_append start turns (message ∷ messages) more [] lates h new = absurd h

all_held : (start : Option MetaState) (turns : List Turn) (message : ℕ → LateMessage) (late : ℕ → LateWrite) (nodes : List ℕ) → ((n : ℕ) → IsIn nodes n → IsHeldBack start turns (message n) (late n)) → AreHeldBack start turns (map message nodes) (map late nodes)
all_held start turns message late [] each = tt
all_held start turns message late (n ∷ nodes) each = (each n (inl refl), all_held start turns message late nodes (λ k i. each k (inr i)))

late_by : (f : Fate) → is_late f ≡ true → f ≡ fate.Late
late_by fate.Late e = refl
late_by _ e = cc

-- nothing stands behind a whole list
none_behind : {X : Type 0} (k : ℕ) (xs : List X) → length xs ≤ k → (y : X) → IsIn (drop k xs) y → ⊥
none_behind zero [] few y i = i
none_behind zero (x ∷ xs) few y i = absurd (omega (arith, few))
none_behind (suc k) [] few y i = i
none_behind (suc k) (x ∷ xs) few y i = none_behind k xs (omega (arith, few)) y i

-- ---- the write

module _ {D : Type 0} {G : Ghosts D} (start : Option MetaState) (turns : List Turn) (old : Net D G) (id : CallId) (a : Act) (b : Answer) (point : Point) (level : WriteLevel) (w : IsWrite start turns old id a point level) (sets : SetsNothing a b) (sent : was_sent b ≡ true)
    (quiet : IsTrue (delivers_nothing (line_of a b))) where
  abbrev on : List Turn
  on = turns ++ line_of a b ∷ []

  abbrev place : Placement
  place = old.state.place

  abbrev shard : ℕ
  shard = shard_of_point old.state point

  abbrev message_to : ℕ → LateMessage
  message_to n = record { position = position_after turns a b; used = place; node = n; point = point }

  abbrev late_one : ℕ → LateWrite
  late_one n = late_to id shard place.version point n

  to_shard : shard ≡ shard_of_message start (message_to 0)
  to_shard = ap (λ (seed : ℕ). shard_of point.id seed (length place.shards)) (sym (w.left).seed)

  made_here : IsTurnPosition on (position_after turns a b)
  made_here = position_last turns (line_of a b) (position_after turns a b) (is_last start turns [] a b [])

  new_held : (n : ℕ) → IsIn (nodes_of (shard_at place shard)) n → is_late (fate_to old.fates id n) ≡ true → IsHeldBack start on (message_to n) (late_one n)
  new_held n m late =
      let own = node_there place (w.ready).lawful shard n m in
      record {
        made = made_here;
        is_late = record {
          made = inl made_here;
          of_act = ap (λ (r : Rules). point_of r.spaces a) (rules_on start turns a b sets ∙ (w.left).rules) ∙ w.of_act;
          was_sent = sent;
          call = record { id = Some w.name; version = w.version; needed = needed_write level };
          of_call = ap call_of w.act_is;
          may_use = may_use start turns old id w.left w.next a b;
          member = subst (λ s. IsTrue (has_replica (Some place) s n)) to_shard (listed_member place shard n m);
          late = record { instance_ = own.0; stands = own.1; holds = sym (fate_here start turns old id w.left w.next a b n own.0 own.1) ∙ late_by (fate_to old.fates id n) late };
          not_yet = λ line i. elim (drop_on (suc (length turns)) turns (line_of a b) line i) as (λ _. IsTrue (delivers_nothing line)) [
            | inl none ↦ absurd (none_behind (suc (length turns)) turns (omega arith) line none)
            | inr same ↦ subst (λ l. IsTrue (delivers_nothing l)) same quiet
          ];
        };
        client = w.next.0;
        number = number_here start turns old id w.left w.next a b;
        node = refl;
        shard = to_shard;
        version = refl;
        point = refl;
      }

  abbrev is_late_to : ℕ → Bool
  is_late_to n = is_late (fate_to old.fates id n)

  holds_more : (members : Shard) (k : ℕ) → AreMembers place shard members → HoldsBack start on (bag_after old id point (nodes_of (take k members)))
  holds_more members k are =
      let nodes = nodes_of (take k members) in
      let late_nodes = filter is_late_to nodes in
      let some = filled_with old.bag (map late_one late_nodes) in
      let first = take some.0 late_nodes in
      let messages = (w.left.late).messages in
      let was = all_held_on start turns a b quiet messages old.bag (w.left.late).held in
      let ordered : Ascends (IsNamedBelow place) nodes = ascends-map (IsNamedBelow place) (λ (x : Assignment). x.node) (take k members) (ascends_take (λ (x y : Assignment). IsNamedBelow place x.node y.node) k members (are.by_name (w.ready).lawful)) in
      let members_in : (n : ℕ) → IsIn nodes n → IsIn (nodes_of (shard_at place shard)) n = λ n m.
      let x = IsIn-map (λ (y : Assignment). y.node) (take k members) n m in
      node_within (shard_at place shard) members are.same n (subst (IsIn (nodes_of members)) x.2 (map-IsIn (λ (y : Assignment). y.node) members x.0 (IsIn-take k members x.0 x.1))) in
      let new = all_held start on message_to late_one first (λ n i.
      let j = IsIn-take some.0 late_nodes n i in
      new_held n (members_in n (IsIn-filter is_late_to nodes n j)) (chosen is_late_to nodes n j)) in
      let bag_is : bag_after old id point nodes ≡ old.bag ++ map late_one first = some.1 ∙ ap (λ xs. old.bag ++ xs) (take-map late_one some.0 late_nodes) in
      subst (HoldsBack start on) (sym bag_is) (record {
        messages = messages ++ map message_to first;
        in_order = Ascends-append IsLateBefore messages (map message_to first) (w.left.late).in_order
            (ascends-map IsLateBefore message_to first (Ascends-weaken (IsNamedBelow place) (λ x y. IsLateBefore (message_to x) (message_to y)) first (λ x y below. inr (refl, inr (inr (refl, below))))
            (ascends_take (IsNamedBelow place) some.0 late_nodes (ascends-filter (IsNamedBelow place) is_late_to nodes ordered))))
            (λ x y i j. inl (let held = held_one start turns messages old.bag (w.left.late).held x i in let before = line_below turns x.position (held.1).made in
            let from = IsIn-map message_to first y j in let here : length turns ≡ length y.position.lines = ap (λ (z : LateMessage). length z.position.lines) from.2 in omega (arith, before, here)));
        held = held_append start on messages (map message_to first) old.bag (map late_one first) was new;
      })

pub left_by_write : {D : Type 0} {G : Ghosts D} (old : Net D G) → LeftByWrite old
left_by_write {D} {G} old start turns was new id a b point level members k w left stay sets sent quiet are bag =
    left_on start turns a b sets was new left stay (subst (HoldsBack start (turns ++ line_of a b ∷ [])) (sym bag) (holds_more start turns old id a b point level w sets sent quiet members k are))
