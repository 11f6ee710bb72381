-- The short run is told, line by line.
use Rattle.std.proofs.Common.{◌≡◌, ℕ, zero, suc, ◌+◌, ◌≤◌, List, [], ◌∷◌, ◌++◌, take, length, refl, sym, ap, ◌∙◌, subst, inl, inr, arith, false, true}
use Rattle.std.specs.Prelude.{ℤ, ◌<◌, ⊤, Option, Some, None}
use Rattle.std.proofs.lemmas.Option.{same_Some}
use Rattle.m3_model.specs.Ascends.{Ascends}
use Rattle.m3_model.specs.Hash.{shard_of}
use Rattle.m3_model.specs.Levels.{needed_read, needed_write}
use Rattle.m3_model.specs.Members.{IsIn}
use Rattle.m3_model.specs.Reads.{Found, IsOrdered, found_of, points_in}
use Rattle.m3_model.specs.declared.act.Act.{Act}
use Rattle.m3_model.specs.declared.act.ReadLevel.TheVariants as level
use Rattle.m3_model.specs.declared.act.WriteLevel.TheVariants as taking
use Rattle.m3_model.specs.declared.answer.Answer.{Answer}
use Rattle.m3_model.specs.declared.answer.Answer.TheVariants as answer
use Rattle.m3_model.specs.declared.point.Pick.TheVariants as pick
use Rattle.m3_model.specs.declared.point.Series.{Series}
use Rattle.m3_model.specs.declared.rules.MetaState.{MetaState}
use Rattle.m3_model.specs.declared.turn.Turn.{Turn}
use Rattle.transcripts.specs.Record.{line_of}
use Rattle.transcripts.specs.Record.{TurnPosition, inner_turns}
use Rattle.cluster_core.proofs.HeldLemmas.{covers_here}
use Rattle.cluster_core.specs.Lists.{At}
use Rattle.cluster_core.specs.declared.event.Event.{Event}
use Rattle.cluster_core.specs.declared.event.Event.TheVariants as event
use Rattle.cluster_core.specs.declared.event.StepReply.{StepReply}
use Rattle.cluster_core.specs.declared.event.StepReply.TheVariants as reply
use Rattle.m3_model.specs.declared.placement.Assignment.{Assignment}
use Rattle.m3_model.specs.declared.placement.ShardState.TheVariants.{Available}
use Rattle.cluster_core.specs.declared.event.Asked.TheVariants as asked
use Rattle.cluster_core.specs.declared.event.StepCall.TheVariants as call
use Rattle.transcripts.specs.Placements.{IsCounted, counted_nodes}
use Rattle.told_by.specs.Hears.{HasServed, HasStep, HearsOpened, InStretch, IsBeginOf, IsFirstBegun}
use Rattle.placement_core.proofs.ListLemmas.{IsIn-from_Any}
use Rattle.told_by.specs.Lines.{IsAskOrStep, AreSteps, Finds, position_after}
use Rattle.told_by.specs.Makes.{CountsOwnPuts, CountsOwnReads, EndsRestart, MayMake}
use Rattle.told_by.specs.Spans.{From}
use Rattle.told_by.specs.Reads.{Asking}
use Rattle.told_by.specs.Sample.{SampleIsTold, begin, begun, fetched, name, of_init, of_read, of_space, of_write, place, placed, point, put, read, rules, series, spaced, written}
use Rattle.told_by.specs.Told.{TellsLine, ToldBy}
use Rattle.told_by.proofs.AnswerLemmas.{shard_below}
use Rattle.told_by.proofs.KindLemmas.{clock_told, init_told, read_told, write_told}
use Rattle.told_by.proofs.LineLemmas.{line_told, no_place, told_at_first}
use Rattle.told_by.proofs.OneLemmas.{at_back}
use Rattle.cluster_core.proofs.ListLemmas.{at_any, at_same, in_at}

-- of each element of a list, by its position
abbrev pub Each : {X : Type 0} → (ℕ → X → Type 0) → ℕ → List X → Type 0
Each P k [] = ⊤
Each P k (x ∷ xs) = P k x × Each P (suc k) xs

pub each_at : {X : Type 0} (P : ℕ → X → Type 0) (k : ℕ) (xs : List X) → Each P k xs → (j : ℕ) (x : X) → At xs j x → P (k + j) x
each_at P k [] h j x there = cc
each_at P k (y ∷ xs) h zero x there = let here : k ≡ k + 0 = omega arith in subst (λ n. P n x) here (subst (P k) (same_Some y x there) h.0)
each_at P k (y ∷ xs) h (suc j) x there = let here : suc k + j ≡ k + suc j = omega arith in subst (λ n. P n x) here (each_at P (suc k) xs h.1 j x there)

-- what a line makes, event by event
pub makes_each : (start : Option MetaState) (turns : List Turn) (events : List Event) (a : Act) (b : Answer) (more : List Event)
    → Each (λ j e. 2 ≤ length events + j → MayMake start (take (length events + j) (events ++ more)) (position_after turns a b) e) 0 more
    → (i : ℕ) (e : Event) → length events ≤ i → 2 ≤ i → At (events ++ more) i e → MayMake start (take i (events ++ more)) (position_after turns a b) e
makes_each start turns events a b more each i e le past there =
    let r = at_back events more i e there le in
    let place : length events + (0 + r.0) ≡ i = omega (arith, r.1) in
    subst (λ n. 2 ≤ n → MayMake start (take n (events ++ more)) (position_after turns a b) e) place
    (each_at (λ j x. 2 ≤ length events + j → MayMake start (take (length events + j) (events ++ more)) (position_after turns a b) x) 0 more each r.0 e r.2) past

-- a Restart
abbrev pub IsRestart : Event → Type 0
IsRestart (event.Step n s call.Restart r) = Unit {0}
IsRestart _ = ⊥

-- a line without Restarts
pub restarts_none : (events : List Event) (a : Act) (b : Answer) (turns : List Turn) (more : List Event) → Each (λ j e. IsRestart e → ⊥) 0 more → (i n s : ℕ) (r : StepReply) → length events ≤ i → 2 ≤ i → At (events ++ more) i (event.Step n s call.Restart r)
    → EndsRestart (From (length events)) (events ++ more) (λ _. position_after turns a b) (position_after turns a b) i n s
restarts_none events a b turns more none i n s r le past there = let m = at_back events more i (event.Step n s call.Restart r) there le in absurd (each_at (λ j e. IsRestart e → ⊥) 0 more none m.0 (event.Step n s call.Restart r) m.2 tt)

none : ⊥ → ⊥
none h = h

abbrev first : List Turn
first = line_of begun placed ∷ []

abbrev second : List Turn
second = line_of begun placed ∷ line_of spaced answer.Done ∷ []

abbrev acked : Answer
acked = answer.Acks (0 ∷ [])

abbrev pub third : List Turn
third = line_of begun placed ∷ line_of spaced answer.Done ∷ line_of written acked ∷ []

abbrev pub found : Answer
found = answer.Found series false

-- there is one shard
pub shard_zero : (id : List ℕ) → shard_of id 0 1 ≡ 0
shard_zero id = let below = shard_below id 0 1 (omega arith) in omega (arith, below)

pub ask_or_step : (asks : List Event) → Each (λ j e. IsAskOrStep e) 0 asks → AreSteps asks
ask_or_step asks each e m = let r = in_at asks e m in each_at (λ j e. IsAskOrStep e) 0 asks each r.0 e r.1

-- the one replica began
opened_here : HearsOpened (InStretch of_init 0 4) place
opened_here node zero tenure given =
    let own : Assignment = record { node = 0; tenure = 1; state = Available; source = None } in
    let x = IsIn-from_Any (λ (a : Assignment). (a.node ≡ node) × (a.tenure ≡ tenure)) given.0 given.2 in
    let m : IsIn (own ∷ []) x.0 = subst (λ assignments. IsIn assignments x.0) (sym (same_Some (own ∷ []) given.0 given.1)) x.1 in
    elim m as (λ _. (a : StepReply) × IsFirstBegun a × HasStep (InStretch of_init 0 4) (IsBeginOf tenure) node 0 a) [
      | inl same ↦
          let here : 0 ≡ node = ap (λ (a : Assignment). a.node) same ∙ (x.2).0 in
          let with_it : 1 ≡ tenure = ap (λ (a : Assignment). a.tenure) same ∙ (x.2).1 in
          subst (λ k. (a : StepReply) × IsFirstBegun a × HasStep (InStretch of_init 0 4) (IsBeginOf k) node 0 a) with_it
          (subst (λ n. (a : StepReply) × IsFirstBegun a × HasStep (InStretch of_init 0 4) (IsBeginOf 1) n 0 a) here (reply.Began 1 [], tt, (begin, refl, (3, (omega arith, omega arith, refl)))))
      | inr nobody ↦ absurd nobody
    ]
opened_here node (suc shard) tenure given = absurd (let bad = given.1 in cc)

-- what each line adds, and the run so far

pub init_line : TellsLine None [] [] (line_of begun placed) of_init
init_line =
    init_told None [] [] begun placed of_init (record {
      makes = record {
        makes = makes_each None [] [] begun placed of_init
            (λ past. record { stood = place; prints = refl; not_before = omega arith }, (λ past. tt, (λ past. (place, refl, refl, ((record { node = 0; tenure = 1; state = Available; source = None } ∷ []), refl, at_any (λ (a : Assignment). (a.node ≡ 0) × (a.tenure ≡ 1)) (record { node = 0; tenure = 1; state = Available; source = None } ∷ []) 0 (record { node = 0; tenure = 1; state = Available; source = None }) refl (refl, refl))), (λ past. (record { opens = tt; place = place; last = refl; runs = record { instance_ = record { name = name; group = name; listed = true; drained = false }; stands = refl; holds = refl } }, (place, refl, refl, ((record { node = 0; tenure = 1; state = Available; source = None } ∷ []), refl, at_any (λ (a : Assignment). (a.node ≡ 0) × (a.tenure ≡ 1)) (record { node = 0; tenure = 1; state = Available; source = None } ∷ []) 0 (record { node = 0; tenure = 1; state = Available; source = None }) refl (refl, refl)))), tt))));
        restarts = restarts_none [] begun placed [] of_init (none, (none, (none, (none, tt))));
        hears = opened_here;
      };
      found_nothing = refl;
      opens = refl;
      sets = refl;
      place = place;
      version = 1;
      answered = refl;
      begins = event.Ask (asked.Step 0 0 begin) ∷ event.Step 0 0 begin (reply.Began 1 []) ∷ [];
      steps = ask_or_step (event.Ask (asked.Step 0 0 begin) ∷ event.Step 0 0 begin (reply.Began 1 []) ∷ []) (tt, (tt, tt));
      adds = refl;
      not_earlier = λ p h. absurd (no_place p h);
    })

told_init : ToldBy None first of_init
told_init = line_told None [] [] (line_of begun placed) of_init told_at_first init_line

pub space_line : TellsLine None first of_init (line_of spaced answer.Done) of_space
space_line =
    clock_told None first of_init spaced answer.Done of_space (record {
      makes = record { makes = makes_each None first of_init spaced answer.Done of_space (λ past. refl, (λ past. tt, tt)); restarts = restarts_none of_init spaced answer.Done first of_space (none, (none, tt)); hears = tt };
      sets = refl;
      opened = omega arith;
      asks = event.Ask (asked.Clock rules) ∷ [];
      steps = ask_or_step (event.Ask (asked.Clock rules) ∷ []) (tt, tt);
      adds = refl;
    })

told_space : ToldBy None second (of_init ++ of_space)
told_space = line_told None first of_init (line_of spaced answer.Done) of_space told_init space_line

abbrev before_write : List Event
before_write = of_init ++ of_space

abbrev writing : TurnPosition
writing = position_after second written acked

-- the replica took the point of the write's Send
took : (past : List Event) → At past 6 (event.Send 1 0 point) → At past 8 (event.Step 0 0 put reply.Done) → CountsOwnPuts None past writing 6 (0 ∷ [])
took past sent step version s p there node (inl is) =
    let same : event.Send 1 0 point ≡ event.Send version s p = at_same past 6 (event.Send 1 0 point) (event.Send version s p) sent there in
    let moved : event.Step 0 0 put reply.Done ≡ event.Step node s (call.Put 0 0 rules version p) reply.Done = cc in
    record { position = 8; later = omega arith; took = step ∙ ap Some moved }
took past sent step version s p there node (inr none) = absurd none

told_write : ToldBy None third (before_write ++ of_write)
told_write =
    line_told None second before_write (line_of written acked) of_write told_space
    (write_told None second before_write written acked of_write (record {
      makes = record {
        makes = makes_each None second before_write written acked of_write (
          λ past. tt,
          (
            λ past. record {
              of_call = record { client_is = refl; number_is = refl; rules_are = refl };
              of_point = refl;
              send = 6;
              sent = refl;
              place = place;
              is_place = record { place_at = 0; done = []; there = refl; version_is = refl };
              member = refl;
              delivered = record { instance_ = record { name = name; group = name; listed = true; drained = false }; stands = refl; holds = refl };
            },
            (λ past. tt, (λ past. took (take 9 (before_write ++ of_write)) refl refl, tt)),
          ),
        );
        restarts = restarts_none before_write written acked second of_write (none, (none, (none, (none, tt))));
        hears = record {
          call = record { id = Some name; version = None; needed = needed_write taking.Majority };
          of_call = refl;
          place = place;
          may_use = (inner_turns second ++ [], record { others = []; some_of = tt; are = refl }, refl);
          by_name = (λ y none. absurd none, tt);
          some = omega arith;
          enough = omega arith;
          counted = λ s is node m. counted_here s is node m;
          served = λ s is node m. served_here s is node m;
        };
      };
      version = 1;
      s = 0;
      point = point;
      sends = record {
        call = record { id = Some name; version = None; needed = needed_write taking.Majority };
        of_act = refl;
        of_point = refl;
        sent = refl;
        place = place;
        uses = record { may_use = (inner_turns second ++ [], record { others = []; some_of = tt; are = refl }, refl); place_at = 0; done = []; there = refl };
        version_is = refl;
        shard_is = sym (shard_zero name);
      };
      no_found = refl;
      no_rules = refl;
      no_place = refl;
      opened = omega arith;
      puts = event.Ask (asked.Step 0 0 put) ∷ event.Step 0 0 put reply.Done ∷ [];
      steps = ask_or_step (event.Ask (asked.Step 0 0 put) ∷ event.Step 0 0 put reply.Done ∷ []) (tt, (tt, tt));
      adds = refl;
    }))
  where
    counted_here : (s : ℕ) → s ≡ shard_of name 0 1 → (node : ℕ) → IsIn (0 ∷ []) node → IsCounted place s node
    counted_here s is node m = subst (λ n. IsIn (counted_nodes place n) node) (sym (is ∙ shard_zero name)) m

    served_here : (s : ℕ) → s ≡ shard_of name 0 1 → (node : ℕ) → IsIn (0 ∷ []) node → HasServed None (InStretch (before_write ++ of_write) 6 10) writing place s node
    served_here s is node (inl same) =
        subst (λ n. HasServed None (InStretch (before_write ++ of_write) 6 10) writing place n node) (sym (is ∙ shard_zero name))
        (subst (λ n. HasServed None (InStretch (before_write ++ of_write) 6 10) writing place 0 n) same (reply.Done, tt, (put, (refl, refl, refl, refl, refl), (8, (omega arith, omega arith, refl))), record { instance_ = record { name = name; group = name; listed = true; drained = false }; stands = refl; holds = refl }))
    served_here s is node (inr none) = absurd none

abbrev before_read : List Event
before_read = before_write ++ of_write

abbrev pub reading : TurnPosition
reading = position_after third fetched found

abbrev asking : Asking
asking = record { read = record { pick = pick.One 0 name; from = 0; to = 10; level = level.Majority }; call = record { id = Some name; version = None; needed = needed_read level.Majority }; place = place }

-- the replica answered the read's FetchStart
answered : (past : List Event) → At past 10 (event.FetchStart 1 0 rules (pick.One 0 name) 0 10) → At past 12 (event.Step 0 0 read (reply.Found series)) → CountsOwnReads None past reading 10 (0 ∷ [])
answered past started step version s by chosen from to there node (inl is) =
    let same : event.FetchStart 1 0 rules (pick.One 0 name) 0 10 ≡ event.FetchStart version s by chosen from to = at_same past 10 (event.FetchStart 1 0 rules (pick.One 0 name) 0 10) (event.FetchStart version s by chosen from to) started there in
    let moved : event.Step 0 0 read (reply.Found series) ≡ event.Step node s (call.Read 0 1 rules version chosen from to) (reply.Found series) = cc in
    record { position = 12; later = omega arith; series = series; answered = step ∙ ap Some moved }
answered past started step version s by chosen from to there node (inr none) = absurd none

served_read : (s : ℕ) → s ≡ shard_of name 0 1 → (node : ℕ) → IsIn (0 ∷ []) node → HasServed None (InStretch (before_read ++ of_read) 10 14) reading place s node
served_read s is node (inl same) =
    subst (λ n. HasServed None (InStretch (before_read ++ of_read) 10 14) reading place n node) (sym (is ∙ shard_zero name))
    (subst (λ n. HasServed None (InStretch (before_read ++ of_read) 10 14) reading place 0 n) same (reply.Found series, tt, (read, (refl, refl, refl, refl, refl), (12, (omega arith, omega arith, refl))), record { instance_ = record { name = name; group = name; listed = true; drained = false }; stands = refl; holds = refl }))
served_read s is node (inr none) = absurd none

-- the answer is in order
pub series_ordered : IsOrdered series
series_ordered = record {
  ids = (λ y none. absurd none, tt);
  times = λ x among. elim among as (λ _. Ascends (λ (a b : ℕ × ℤ). a.0 < b.0) x.points) [ inl e ↦ subst (λ (y : Series). Ascends (λ (a b : ℕ × ℤ). a.0 < b.0) y.points) e (λ y none. absurd none, tt) | inr none ↦ absurd none ];
  none_empty = λ x among. elim among as (λ _. 0 < length x.points) [ inl e ↦ subst (λ (y : Series). 0 < length y.points) e (omega arith) | inr none ↦ absurd none ];
}

finds : (one : Found) → found_of found ≡ Some one → Finds None reading asking (λ s. record { began = 10; ended = 13; nodes = 0 ∷ []; series = series }) (0 ∷ []) one
finds one is =
    let same : record { series = series; short = false } ≡ one = cc in
    subst (λ (f : Found). Finds None reading asking (λ s. record { began = 10; ended = 13; nodes = 0 ∷ []; series = series }) (0 ∷ []) f) same
    (record {
      all = λ s asks. inl (sym (asks ∙ shard_zero name));
      enough = λ s asks. omega arith;
      together = record {
        nothing_else = λ p among. (0, sym (shard_zero name), among);
        all_there = λ s asks p among. covers_here p (points_in 0 series) among;
        ordered = series_ordered;
      };
      is_short = λ e. cc;
      not_short = λ e want. cc;
    })

pub sample_told : SampleIsTold
sample_told =
    line_told None third before_read (line_of fetched found) of_read told_write
    (read_told None third before_read fetched found of_read (record {
      makes = record {
        makes = makes_each None third before_read fetched found of_read (
          λ past. tt,
          (
            λ past. record {
              of_call = record { client_is = refl; number_is = refl; rules_are = refl };
              began = 10;
              started = refl;
              place = place;
              is_place = record { place_at = 0; done = []; there = refl; version_is = refl };
              counted = inl refl;
              delivered = record { instance_ = record { name = name; group = name; listed = true; drained = false }; stands = refl; holds = refl };
            },
            (λ past. tt, (λ past. answered (take 13 (before_read ++ of_read)) refl refl, tt)),
          ),
        );
        restarts = restarts_none before_read fetched found third of_read (none, (none, (none, (none, tt))));
        hears = record {
          call = asking.call;
          of_call = refl;
          place = place;
          may_use = (inner_turns third ++ [], record { others = []; some_of = tt; are = refl }, refl);
          enough = λ s is. record {
            nodes = 0 ∷ [];
            distinct = (λ y none. absurd none, tt);
            counted = λ node m. subst (λ n. IsIn (counted_nodes place n) node) (sym (is ∙ shard_zero name)) m;
            served = λ node m. served_read s is node m;
            enough = omega arith;
          };
          is_short = λ e. cc;
          not_short = λ e want. cc;
        };
      };
      asking = asking;
      of_turn = record { of_act = refl; of_call = refl; uses = record { may_use = (inner_turns third ++ [], record { others = []; some_of = tt; are = refl }, refl); place_at = 0; done = []; there = refl } };
      no_acks = λ nodes e. cc;
      not_unmet = λ h. h;
      no_rules = refl;
      no_seed = refl;
      no_place = refl;
      opened = omega arith;
      fetches = λ s. record { began = 10; ended = 13; nodes = 0 ∷ []; series = series };
      shards = 0 ∷ [];
      adds = (
        [],
        record {
          asked = sym (shard_zero name);
          reads = event.Ask (asked.Step 0 0 read) ∷ event.Step 0 0 read (reply.Found series) ∷ [];
          steps = ask_or_step (event.Ask (asked.Step 0 0 read) ∷ event.Step 0 0 read (reply.Found series) ∷ []) (tt, (tt, tt));
          adds = refl;
          began_is = refl;
          ended_is = refl;
        },
        inl (λ e none. absurd none),
      );
      finds = finds;
    }))
