-- Levels: why a call was refused for its level, and that one that was answered reached it.
use Rattle.transcripts.specs.Fates.{reaches}
use Rattle.m3_model.specs.declared.answer.Answer.TheVariants as answer
use Rattle.cluster_core.proofs.QuorumLemmas.{dec_in, distinct_within}
use Rattle.std.specs.Prelude.{filter}
use Rattle.std.proofs.lemmas.List.Sums.{length-filter}
use Rattle.m3_model.specs.declared.act.ReadLevel.{ReadLevel}
use Rattle.m3_model.specs.declared.act.ReadLevel.TheVariants as read
use Rattle.m3_model.specs.declared.point.Series.{Series}
use Rattle.m3_model.specs.Levels.{majority, needed_read}
use Rattle.transcripts.specs.Levels.{IsFoundFor, reached_of}
use Rattle.transcripts.specs.Placements.{counted_nodes}
use Rattle.told_by.specs.Hears.{HasEnough, HasServed, HearsFound, HearsTooFew, is_unstrict}
use Rattle.told_causes.specs.Calls.{FetchIsSaid, IsKnownCall, IsUsedBy, MatchIsSaid, TooFewIsSaid}
use Rattle.told_causes.proofs.CallLemmas.{reasons_said, served_reached, taken_said}
use Rattle.told_causes.proofs.RunLemmas.{who_served}
use Rattle.std.proofs.Common.{◌≡◌, ℕ, ◌≤◌, List, take, length, refl, sym, ap, ◌∙◌, subst, inl, inr, arith, Bool, true, false}
use Rattle.std.specs.Prelude.{Option, Some, None, map}
use Rattle.std.proofs.lemmas.Option.{same_Some}
use Rattle.m3_model.specs.Members.{IsIn}
use Rattle.m3_model.specs.declared.act.Act.TheVariants as act
use Rattle.m3_model.specs.declared.placement.Placement.{Placement}
use Rattle.m3_model.specs.declared.reason.Reason.{Reason}
use Rattle.m3_model.specs.declared.rules.MetaState.{MetaState}
use Rattle.m3_model.specs.declared.turn.Turn.{Turn}
use Rattle.m3_model.proofs.Lists.{filter-IsIn}
use Rattle.cluster_core.specs.declared.event.Event.{Event}
use Rattle.transcripts.specs.Calls.{AsksShard, Call, call_of}
use Rattle.transcripts.specs.Placements.{MayUse}
use Rattle.transcripts.specs.Record.{TurnPosition}
use Rattle.told_by.specs.Hears.{HearsBy}
use Rattle.told_by.specs.Told.{ToldBy}
use Rattle.told_causes.specs.Calls.{SilentIsSaid, Within}
use Rattle.told_causes.specs.Faults.{faults_told}

-- the messages of a known call reach a replica that did as it asks
known_reached : {tells : Bool} → (start : Option MetaState) (turns : List Turn) (events : List Event) (told : ToldBy start turns events) (p : TurnPosition) → IsKnownCall tells start turns events told p → (place : Placement) → IsUsedBy start p place → (shard node : ℕ) → HasServed start (Within events told.spans p) p place shard node → reaches p place node ≡ true
known_reached start turns events told p known place used shard node h =
    served_reached start events told.spans p place shard node h (who_served start turns events known.legal told known.halts p known.in_run known.named place used shard node h)

pub silent_said : {tells : Bool} → SilentIsSaid tells
silent_said start turns events told p known place used shard got reasons h = record {
  counted = h.counted;
  by_name = h.by_name;
  unreached = λ node counted cut. elim (dec_in node (map (λ (r : ℕ × Reason). r.0) reasons)) as (λ _. IsIn (map (λ (r : ℕ × Reason). r.0) reasons) node) [
    | inl among ↦ among
    | inr none ↦ absurd (let bad : true ≡ false = sym (known_reached start turns events told p known place used shard node (h.served node counted none)) ∙ cut in cc)
  ];
  refused = λ r m. let why = known.explained place used shard r.0 r.1 (h.counted r m) (h.heard r m) in reasons_said start turns events known.legal told p known.in_run known.calls place shard r.0 why.0 r.1 why.1 (h.heard r m);
}

-- as many counted nodes as did what the call asks are reached
enough_reached : {tells : Bool} → (start : Option MetaState) (turns : List Turn) (events : List Event) (told : ToldBy start turns events) (p : TurnPosition) → IsKnownCall tells start turns events told p → (place : Placement) → IsUsedBy start p place → (shard needed : ℕ) → HasEnough start (Within events told.spans p) p place shard needed → needed ≤ reached_of p place shard
enough_reached start turns events told p known place used shard needed h =
    let some = distinct_within h.nodes (filter (reaches p place) (counted_nodes place shard)) h.distinct (λ n m. filter-IsIn (reaches p place) (counted_nodes place shard) n (h.counted n m) (known_reached start turns events told p known place used shard n (h.served n m))) in
    omega (arith, h.enough, some, length-filter (reaches p place) (counted_nodes place shard))

pub too_few_said : {tells : Bool} → TooFewIsSaid tells
too_few_said start turns events told p known got needed reasons shard answers =
    let h : HearsTooFew start (Within events told.spans p) p got needed reasons shard =
    subst (λ b. HearsBy start (take ((told.spans).from p) events) (Within events told.spans p) p p.turn.act b) answers ((told.tells).hears p known.in_run) in
    let used : IsUsedBy start p h.place = record { call = h.call; of_act = h.of_call; may_use = h.may_use } in
    record {
      call = h.call;
      of_act = h.of_call;
      place = h.place;
      may_use = h.may_use;
      asked = h.asked;
      first = λ lower lt asked. enough_reached start turns events told p known h.place used lower needed (h.first lower lt asked);
      needed_is = h.needed_is;
      fewer = h.fewer;
      others = (h.hears).others;
      silent = silent_said start turns events told p known h.place used shard got reasons h.hears;
      served = λ some. let one = (h.hears).took some in taken_said start turns events known.legal told p known.in_run h.place shard one.0 one.1;
    }

-- the same for reads, whatever they read
found_said : {tells : Bool} → (start : Option MetaState) (turns : List Turn) (events : List Event) (told : ToldBy start turns events) (p : TurnPosition) → IsKnownCall tells start turns events told p
    → (id : Option (List ℕ)) (level : ReadLevel) (version : Option ℕ) (series : List Series) (short : Bool) → call_of p.turn.act ≡ Some (record { id = id; version = version; needed = needed_read level }) → (is_unstrict p.turn.act ≡ true → level ≡ read.Unstrict) → (level ≡ read.Unstrict → is_unstrict p.turn.act ≡ true)
    → p.turn.answer ≡ answer.Found series short → IsFoundFor tells (faults_told told.ends events (length turns)) start p id level version short
found_said start turns events told p known id level version series short calls strict unstrict answers =
    let h : HearsFound start (Within events told.spans p) p short =
    subst (λ b. HearsBy start (take ((told.spans).from p) events) (Within events told.spans p) p p.turn.act b) answers ((told.tells).hears p known.in_run) in
    let used : IsUsedBy start p h.place = record { call = h.call; of_act = h.of_call; may_use = h.may_use } in
    let own : Call = record { id = id; version = version; needed = needed_read level } in
    let is : own ≡ h.call = same_Some own h.call (sym calls ∙ h.of_call) in
    let here : (shard : ℕ) → AsksShard start p h.place id shard → AsksShard start p h.place (h.call).id shard = λ shard asked. subst (λ (c : Call). AsksShard start p h.place c.id shard) is asked in
    record {
      place = h.place;
      may_use = subst (λ (c : Call). MayUse start p c.version h.place) (sym is) h.may_use;
      enough = λ shard asked. subst (λ (c : Call). c.needed (h.place).rf ≤ reached_of p h.place shard) (sym is) (enough_reached start turns events told p known h.place used shard ((h.call).needed (h.place).rf) (h.enough shard (here shard asked)));
      may_be_short = λ e.
          let both = h.is_short e in
          let s = both.1 in
          (strict both.0, (s.shard, subst (λ (c : Call). AsksShard start p h.place c.id s.shard) (sym is) s.asked, record { reasons = s.reasons; silent = silent_said start turns events told p known h.place used s.shard s.got s.reasons s.hears; got = s.got; others = (s.hears).others; some = s.some; fewer = s.fewer }));
      not_short = λ e want shard asked. enough_reached start turns events told p known h.place used shard (majority (h.place).rf) (h.not_short e (unstrict want) shard (here shard asked));
    }

pub fetch_said : {tells : Bool} → FetchIsSaid tells
fetch_said start turns events told p known ns id from to level version series short acts answers =
    found_said start turns events told p known (Some id) level version series short (ap call_of acts) (λ e. by level (sym (ap is_unstrict acts) ∙ e)) (λ e. ap is_unstrict acts ∙ ap (λ l. is_unstrict (act.Fetch ns id from to l version)) e) answers
  where
    by : (l : ReadLevel) → is_unstrict (act.Fetch ns id from to l version) ≡ true → l ≡ read.Unstrict
    by read.Unstrict e = refl
    by read.One e = cc
    by read.Majority e = cc
    by read.All e = cc

pub match_said : {tells : Bool} → MatchIsSaid tells
match_said start turns events told p known ns wanted from to level version series short acts answers =
    found_said start turns events told p known None level version series short (ap call_of acts) (λ e. by level (sym (ap is_unstrict acts) ∙ e)) (λ e. ap is_unstrict acts ∙ ap (λ l. is_unstrict (act.Match ns wanted from to l version)) e) answers
  where
    by : (l : ReadLevel) → is_unstrict (act.Match ns wanted from to l version) ≡ true → l ≡ read.Unstrict
    by read.Unstrict e = refl
    by read.One e = cc
    by read.Majority e = cc
    by read.All e = cc
