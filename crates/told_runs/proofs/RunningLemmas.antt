-- Which nodes run, and whose replicas were begun, where what the line of a bootstrap adds fences them.
use Rattle.std.proofs.Common.{◌≡◌, ◌∙◌, ℕ, List, [], ◌∷◌, ◌++◌, length, Option, sym, refl, subst, Bool}
use Rattle.std.specs.Prelude.{Some, slice_get}
use Rattle.m3_model.specs.declared.act.Act.{Act}
use Rattle.m3_model.specs.declared.act.Act.TheVariants as act
use Rattle.m3_model.specs.declared.answer.Answer.{Answer}
use Rattle.m3_model.specs.declared.placement.Instance.{Instance}
use Rattle.m3_model.specs.declared.placement.Placement.{Placement}
use Rattle.m3_model.specs.declared.rules.MetaState.{MetaState}
use Rattle.m3_model.specs.declared.turn.Request.{Request}
use Rattle.m3_model.specs.declared.turn.Turn.{Turn}
use Rattle.cluster_core.specs.Legal.{Legal}
use Rattle.cluster_core.specs.Lists.{At}
use Rattle.cluster_core.specs.declared.event.Event.{Event}
use Rattle.cluster_core.specs.declared.event.Event.TheVariants as event
use Rattle.cluster_core.specs.declared.event.StepCall.TheVariants as call
use Rattle.cluster_core.specs.declared.event.StepReply.TheVariants as reply
use Rattle.cluster_core.proofs.ListLemmas.{at_append}
use Rattle.transcripts.specs.Deliveries.{LateMessage}
use Rattle.transcripts.specs.Fates.{IsRunningAt}
use Rattle.transcripts.specs.Faults.{Fault}
use Rattle.transcripts.specs.Record.{Record, TurnPosition, IsLastTurnPosition, line_of}
use Rattle.transcripts.specs.Waiting.{IsBegunFor}
use Rattle.transcripts.proofs.PositionLemmas.{at_push}
use Rattle.told_by.specs.Hears.{Happens, InStretch, IsNamedBy}
use Rattle.told_by.specs.Lines.{PlainLine, position_after}
use Rattle.told_by.specs.Spans.{IsAlone}
use Rattle.told_by.specs.Told.{TellsLine, ToldBy}
use Rattle.told_by.proofs.KindLemmas.{plain_told, plain_told_from, plain_told_to}
use Rattle.told_by.proofs.LineLemmas.{alone_stays, line_told, line_told_from, line_told_to, position_last}
use Rattle.told_by.proofs.OneLemmas.{each, is_last}
use Rattle.told_causes.specs.Standing.{HaltsAlone, IsHaltAct}
use Rattle.told_moves.specs.Moves.{IsPlacedIn}
use Rattle.told_moves.proofs.TenureLemmas.{name_everywhere}
use Rattle.told_runs.specs.Lines.{IsToldAndServed}
use Rattle.told_runs.proofs.FormerLemmas.{fenced_serves}

module _ {tells : Bool} (past : List Record) (start : Option MetaState) (turns : List Turn) (unanswered : Option Request) (events : List Event) (taking : List Fault) (was : TurnPosition → List LateMessage)
    (told : IsToldAndServed tells taking was past start turns unanswered events) (name : List ℕ) (asked : Option ℕ) (b : Answer) (more : List Event) (line : PlainLine start turns events (act.Bootstrap name asked) b more) (legal : Legal tells (events ++ more)) where
  abbrev a : Act
  a = act.Bootstrap name asked

  abbrev long : List Turn
  long = turns ++ line_of a b ∷ []

  abbrev all : List Event
  all = events ++ more

  abbrev own : TurnPosition
  own = position_after turns a b

  abbrev adds : TellsLine start turns events (line_of a b) more
  adds = plain_told start turns events a b more line

  abbrev after : ToldBy start long all
  after = line_told start turns events (line_of a b) more told.0 adds

  last : IsLastTurnPosition turns (line_of a b) own
  last = is_last start turns events a b more

  halts : HaltsAlone long
  halts = at_push (λ q. IsHaltAct q.turn.act → IsAlone long q) turns (line_of a b) (λ q k h. alone_stays turns (line_of a b) q ((told.1).halts q k h)) (each start turns events a b more (λ q. IsHaltAct q.turn.act → IsAlone long q) (λ h. absurd h))

  -- another node of a placement of the list, which was fenced there
  pub fenced_there : (i : ℕ) (place : Placement) (done : List (ℕ × ℕ)) → At events i (event.Place place done) → (node : ℕ) (one : Instance) → slice_get place.instances node ≡ Some one → (one.name ≡ name → ⊥)
      → (shard version : ℕ) → Happens (InStretch all (length events) (length all)) (event.Step node shard (call.Fence version) reply.Done) → IsRunningAt own place node × IsBegunFor start own place shard node
  fenced_there i place done there node one stands other shard version happens =
      let placed : IsPlacedIn all place = record { place_at = i; done = done; there = at_append events more i (event.Place place done) there } in
      let named : IsNamedBy all node one.name = name_everywhere all legal node place one.name placed (record { instance_ = one; stands = stands; holds = refl }) in
      let fence : Event = event.Step node shard (call.Fence version) reply.Done in
      let from = line_told_from start turns events (line_of a b) more told.0 adds own last ∙ plain_told_from start turns events a b more line in
      let to = line_told_to start turns events (line_of a b) more told.0 adds own last ∙ plain_told_to start turns events a b more line in
      let within : Happens (InStretch all ((after.spans).from own) ((after.spans).to own)) fence =
      subst (λ n. Happens (InStretch all ((after.spans).from own) n) fence) (sym to) (subst (λ n. Happens (InStretch all n (length all)) fence) (sym from) happens) in
      fenced_serves start long all legal after halts own (position_last turns (line_of a b) own last) name asked refl place node shard one stands named other version within
