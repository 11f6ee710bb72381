-- What a bootstrap adds before any placement: each event is one that its turn may make, over the placement that stands.
use Rattle.std.proofs.Common.{◌≡◌, ◌<◌, ◌∙◌, ℕ, zero, suc, Bool, true, List, [], ◌∷◌, ◌++◌, length, take, Option, Some, None, refl, sym, ap, subst, inl, inr, arith, fold}
use Rattle.std.specs.Prelude.{IsTrue, cond, decimal, option_map}
use Rattle.std.specs.Option.{option_or}
use Rattle.std.proofs.lemmas.Bool.{lt-ltb}
use Rattle.std.proofs.lemmas.Grind.{fold-append}
use Rattle.std.proofs.lemmas.List.{append-nil, take-append-le}
use Rattle.m3_model.specs.Members.{IsIn}
use Rattle.m3_model.specs.declared.act.Act.TheVariants as act
use Rattle.m3_model.specs.declared.answer.Answer.{Answer}
use Rattle.m3_model.specs.declared.answer.Answer.TheVariants as answer
use Rattle.m3_model.specs.declared.placement.Placement.{Placement}
use Rattle.m3_model.specs.declared.rules.MetaState.{MetaState}
use Rattle.m3_model.specs.declared.turn.Turn.{Turn}
use Rattle.m3_model.proofs.Lists.{take_whole}
use Rattle.placement_core.specs.Lawful.{IsLawful}
use Rattle.cluster_core.specs.Earlier.{last_place, place_after as place_by}
use Rattle.cluster_core.specs.Legal.{LawfulAt, Legal}
use Rattle.cluster_core.specs.declared.event.Asked.TheVariants as asked
use Rattle.cluster_core.specs.declared.event.Event.{Event}
use Rattle.cluster_core.specs.declared.event.Event.TheVariants as event
use Rattle.cluster_core.specs.declared.event.StepCall.TheVariants as call
use Rattle.cluster_core.proofs.ListLemmas.{at_append, at_within}
use Rattle.transcripts.specs.Caused.{refusal_after, versions_after}
use Rattle.transcripts.specs.Fates.{OfNode, is_stopped}
use Rattle.transcripts.specs.Placements.{placement_after, start_placement}
use Rattle.transcripts.specs.Record.{TurnPosition, inner_turns}
use Rattle.transcripts.specs.Refusals.{missing_shard, refusal_by}
use Rattle.transcripts.specs.Rules.{rules_at}
use Rattle.transcripts.specs.Waiting.{is_covering}
use Rattle.told_by.specs.Lines.{MayChange, position_after}
use Rattle.told_by.specs.Makes.{IsAssigned, IsCoveredSlot, IsNamedLast, MayMake, MayStream}
use Rattle.told_by.specs.Told.{ToldBy}
use Rattle.told_by.proofs.LeaveLemmas.{place_there}
use Rattle.told_by.proofs.PrintedLemmas.{placements_stand}
use Rattle.told_runs.specs.Answers.{IsAnswered, IsDecidedBy, IsOfKind}
use Rattle.told_runs.specs.Laws.{IsMadeInOrder}
use Rattle.told_joins.specs.Lines.{MeetsBoot}
use Rattle.told_joins.proofs.AskLemmas.{IsStreamedOver, MayHappen}

-- ---- the placement stands

-- the event makes no placement
abbrev pub KeepsPlace : Event → Type 0
KeepsPlace (event.Place place done) = ⊥
KeepsPlace _ = Unit {0}

pub place_kept : (place : Placement) (k : ℕ) (es : List Event) → ((e : Event) → IsIn es e → KeepsPlace e) → fold place_by (Some place) (take k es) ≡ Some place
place_kept place zero es none = refl
place_kept place (suc k) [] none = refl
place_kept place (suc k) (e ∷ es) none = ap (λ o. fold place_by o (take k es)) (same e (none e (inl refl))) ∙ place_kept place k es (λ x m. none x (inr m))
  where
    same : (x : Event) → KeepsPlace x → place_by (Some place) x ≡ Some place
    same (event.Place next done) h = absurd h
    same (event.Ask what) h = refl
    same (event.Clock rules) h = refl
    same (event.Send version s point) h = refl
    same (event.Ack send nodes) h = refl
    same (event.FetchStart version s rules pick from to) h = refl
    same (event.FetchDone began nodes series) h = refl
    same (event.Step n s c a) h = refl

pub still_last : (events : List Event) (place : Placement) → last_place events ≡ Some place → (k : ℕ) (es : List Event) → ((e : Event) → IsIn es e → KeepsPlace e) → last_place (events ++ take k es) ≡ Some place
still_last events place last k es none = fold-append place_by None events (take k es) ∙ ap (λ o. fold place_by o (take k es)) last ∙ place_kept place k es none

module _ (place : Placement) (y : ℕ) (only : Option ℕ) where
  pub happens_keeps : (e : Event) → MayHappen place y only e → KeepsPlace e
  happens_keeps (event.Place next done) h = absurd h
  happens_keeps _ h = tt

  pub happens_changes : (p : TurnPosition) (past : List Event) (e : Event) → MayHappen place y only e → MayChange p past e
  happens_changes p past (event.Ask what) h = tt
  happens_changes p past (event.Step n s c a) h = tt
  happens_changes p past _ h = absurd h

-- ---- the last placement, and what the turn may make over it

-- what begins a legal list is legal
pub front_legal : {tells : Bool} → (xs ys : List Event) → Legal tells (xs ++ ys) → Legal tells xs
front_legal {tells} xs ys h i e at = subst (λ es. LawfulAt tells i es e) (take-append-le i xs ys (let low = at_within xs i e at in omega (arith, low))) (h i e (at_append xs ys i e at))

-- a placement that the turns left is the last one of the list, and a lawful one
pub left_last : {tells : Bool} → (start : Option MetaState) (turns : List Turn) (events : List Event) → Legal tells events → ToldBy start turns events → (place : Placement) → placement_after (start_placement start) (inner_turns turns) ≡ Some place → last_place events ≡ Some place
left_last start turns events legal told place stands =
    let upto : take (told.ends (length turns)) events ≡ events = ap (λ n. take n events) (told.lines).last ∙ take_whole events in
    ap last_place (sym upto) ∙ placements_stand start turns events legal told (length turns) (omega arith) ∙ ap (λ ts. placement_after (start_placement start) (inner_turns ts)) (take_whole turns) ∙ stands

pub last_lawful : (start : Option MetaState) (turns : List Turn) (events : List Event) (told : ToldBy start turns events) → IsMadeInOrder start turns events told → (place : Placement) → last_place events ≡ Some place → IsLawful place
last_lawful start turns events told order place last = let there = place_there events place last in order.lawful there.0 place there.1 there.2

pub some_events : (events : List Event) (place : Placement) → last_place events ≡ Some place → 0 < length events
some_events events place last = let there = place_there events place last in let low = at_within events there.0 (event.Place place there.1) there.2 in omega (arith, low)

module _ (start : Option MetaState) (turns : List Turn) (place : Placement) (name : List ℕ) (only : Option ℕ) (y : ℕ) (meets : MeetsBoot start turns place name only y) (b : Answer) where
  abbrev pub own : TurnPosition
  own = position_after turns (act.Bootstrap name only) b

  pub named_over : (past : List Event) (p : Placement) → last_place past ≡ Some p → OfNode p y (λ own. own ≡ name) → IsNamedLast past y name
  named_over past p last named = record { place = p; last = last; named = named }

  pub covered : (past : List Event) → last_place past ≡ Some place → (n s : ℕ) → n ≡ y → IsTrue (is_covering s only) → IsCoveredSlot past name only n s
  covered past last n s same covers = subst (λ k. IsCoveredSlot past name only k s) (sym same) (record { of_node = named_over past place last meets.named; covers = covers })

  streams : (past : List Event) → last_place past ≡ Some place → (q s tenure : ℕ) → IsStreamedOver place y only q s tenure → MayStream past name only q s tenure
  streams past last q s tenure h = record {
    covers = h.covers;
    place = place;
    last = last;
    assignments = h.shard;
    there = h.there;
    is_former = h.is_former;
    joining = h.joining;
    joins = h.joins;
    is_joining = h.is_joining;
    tenure_is = h.tenure_is;
    named = subst (λ n. OfNode place n (λ own. own ≡ name)) (sym h.to_node) meets.named;
  }

  pub may_make : (past : List Event) → last_place past ≡ Some place → (e : Event) → MayHappen place y only e → MayMake start past own e
  unfolding named_over
  may_make past last (event.Ask (asked.Step n s (call.Begin tenure))) h =
      subst (λ k. MayMake start past own (event.Ask (asked.Step k s (call.Begin tenure)))) (sym h.0) (record {
        slot = record { of_node = named_over past place last meets.named; covers = h.1 };
        assigned = subst (λ k. IsAssigned place k s tenure) h.0 h.2;
      })
  may_make past last (event.Ask (asked.Step n s (call.Fence version))) h = streams past last n s version h
  may_make past last (event.Ask (asked.Step n s (call.Page from))) h = (h.0, streams past last n s h.0 h.1)
  may_make past last (event.Ask (asked.Step n s (call.Merge page))) h = covered past last n s h.0 h.1
  may_make past last (event.Step n s (call.Begin tenure) a) h =
      subst (λ k. MayMake start past own (event.Step k s (call.Begin tenure) a)) (sym h.0) (
        record { opens = tt; place = place; last = last; runs = record { instance_ = (meets.named).instance_; stands = (meets.named).stands; holds = ap (is_stopped (inner_turns turns)) (meets.named).holds ∙ meets.runs } },
        record { slot = record { of_node = named_over past place last meets.named; covers = h.1 }; assigned = subst (λ k. IsAssigned place k s tenure) h.0 h.2 },
      )
  may_make past last (event.Step n s (call.Fence version) a) h = tt
  may_make past last (event.Step n s (call.Page from) a) h = tt
  may_make past last (event.Step n s (call.Merge page) a) h = tt
  may_make past last _ h = absurd h

  -- ---- no refusal is due

  -- what is refused of a bootstrap, by whether its node is listed, by the shard that is missing, and whether the node is stopped
  abbrev boot_refusal : Bool → Option (List ℕ) → Bool → Option Answer
  boot_refusal listed missing halted = option_or (option_map (λ n. answer.Unknown n) (option_or (cond listed None (Some name)) missing)) (cond halted (Some (answer.State name)) None)

  shard_there : (asked : Option ℕ) → ((s : ℕ) → asked ≡ Some s → s < length place.shards) → missing_shard (Some place) asked ≡ None
  shard_there None h = refl
  shard_there (Some s) h = ap (λ t. cond t None (Some (decimal s))) (lt-ltb s (length place.shards) (h s refl))

  none_due : refusal_after start own (inner_turns turns) ≡ None
  none_due =
      ap (λ (o : Option Placement). refusal_by o (versions_after start (inner_turns turns)) (rules_at start own) (is_stopped (inner_turns turns)) (act.Bootstrap name only)) meets.stands
      ∙ ap (λ l. boot_refusal l (missing_shard (Some place) only) (is_stopped (inner_turns turns) name)) meets.listed
      ∙ ap (λ o. boot_refusal true o (is_stopped (inner_turns turns) name)) (shard_there only meets.has_shard)
      ∙ ap (boot_refusal true None) meets.runs

  pub answered : (end : ℕ) → IsOfKind [] start own (act.Bootstrap name only) b → IsAnswered [] start end own
  answered end kind = inr (inr (inner_turns turns, record { others = []; some_of = tt; are = sym (append-nil (inner_turns turns)) }, subst (IsDecidedBy [] start own) (sym none_due) kind))
