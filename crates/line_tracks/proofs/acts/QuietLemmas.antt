-- What turns leave as it was.
use Rattle.std.proofs.Common.{◌≡◌, ◌≢◌, ℕ, List, [], ◌∷◌, ◌++◌, refl, sym, ap, subst, ◌∙◌, Bool}
use Rattle.std.proofs.lemmas.Grind.{fold-append}
use Rattle.std.specs.Prelude.{Option, Some, None}
use Rattle.std.specs.FinMap as finite
use Rattle.m3_model.specs.declared.act.Act.{Act}
use Rattle.m3_model.specs.declared.act.Act.TheVariants as act
use Rattle.m3_model.specs.declared.answer.Answer.{Answer}
use Rattle.m3_model.specs.declared.answer.Answer.TheVariants as answer
use Rattle.m3_model.specs.declared.placement.Placement.{Placement}
use Rattle.m3_model.specs.declared.rules.Rules.{Rules}
use Rattle.m3_model.specs.declared.turn.Reply.TheVariants as reply
use Rattle.m3_model.specs.declared.turn.Request.TheVariants as request
use Rattle.m3_model.specs.declared.turn.Turn.{Turn}
use Rattle.m3_outside.specs.DiskState.{DiskState}
use Rattle.cluster_core.specs.declared.event.Event.{Event}
use Rattle.node_calls.specs.replica_exchange.declared.member.Member.{Member}
use Rattle.node_calls.specs.replica_exchange.declared.slot.Slot.{Slot}
use Rattle.node_calls.specs.replica_calls.Calls.{Tracked}
use Rattle.node_calls.specs.session_net.Runs.{IsStepped, Ran, steps_of}
use Rattle.node_calls.proofs.session_net_proofs.ReadyLemmas.{there_after}
use Rattle.told_runs.proofs.told_by_proofs.TurnLemmas.{inner-append}
use Rattle.transcripts.specs.Fates.{fates_set, is_stopped, stopped_by}
use Rattle.transcripts.specs.Placements.{printed, seed_by}
use Rattle.transcripts.specs.Record.{inner_turns, line_of}
use Rattle.transcripts.specs.Rules.{rules_by}
use Rattle.line_tracks.specs.calls.Left.{AreSlots, AreStoppedBy}
use Rattle.line_tracks.proofs.calls.KeepLemmas.{numbering_next}
use Rattle.line_tracks.specs.acts.Quiet.{DeliversNothingSo, KeepsStops, KeepsStopsSo, NumbersGoOn, SetsNone, SetsNothingSo}

-- ---- by the answer

no_rules : (a : Act) (b : Answer) → SetsNone b → (x : Rules) → rules_by a b x ≡ x
no_rules (act.Now now) answer.Done h x = absurd h
no_rules (act.Now now) _ h x = refl
no_rules (act.Namespace name block past future retention) answer.Done h x = absurd h
no_rules (act.Namespace name block past future retention) _ h x = refl
no_rules _ b h x = refl

no_place : (b : Answer) → SetsNone b → printed b ≡ None
no_place (answer.Placed place version) h = absurd h
no_place (answer.Available available place version) h = absurd h
no_place _ h = refl

no_seed : (a : Act) (b : Answer) → SetsNone b → (x : ℕ) → seed_by a b x ≡ x
no_seed (act.Init rf shards seed nodes) (answer.Placed place version) h x = absurd h
no_seed (act.Init rf shards seed nodes) _ h x = refl
no_seed _ b h x = refl

no_fates : (a : Act) (b : Answer) → SetsNone b → fates_set (request.One a) (reply.One b) ≡ None
no_fates (act.Fates list) answer.Done h = absurd h
no_fates (act.Fates list) _ h = refl
no_fates _ b h = refl

pub sets_nothing_so : SetsNothingSo
sets_nothing_so a b h = record { rules = no_rules a b h; place = no_place b h; seed = no_seed a b h; fates = no_fates a b h }

pub keeps_stops_so : KeepsStopsSo
keeps_stops_so (act.Stop node) answer.Done h name x = absurd h
keeps_stops_so (act.Stop node) _ h name x = refl
keeps_stops_so (act.Restart node pick) answer.Done h name x = absurd h
keeps_stops_so (act.Restart node pick) _ h name x = refl
keeps_stops_so _ b h name x = refl

pub delivers_nothing_so : DeliversNothingSo
delivers_nothing_so a (answer.Outcomes outcomes) h = absurd h
delivers_nothing_so a _ h = refl

pub numbers_go_on : NumbersGoOn
numbers_go_on turns a b = numbering_next None turns a b

-- ---- which nodes are stopped

pub stops_next : (turns : List Turn) (a : Act) (b : Answer) (name : List ℕ) → is_stopped (inner_turns (turns ++ line_of a b ∷ [])) name ≡ stopped_by name a b (is_stopped (inner_turns turns) name)
stops_next turns a b name =
    ap (λ ts. is_stopped ts name) (inner-append turns (line_of a b ∷ [])) ∙ fold-append (λ before turn. stopped_by name turn.act turn.answer before) (is_stopped [] name) (inner_turns turns) (inner_turns (line_of a b ∷ []))

pub flags_on : (turns : List Turn) (a : Act) (b : Answer) (place : Placement) (flags : List Bool) → KeepsStops a b → AreStoppedBy turns place flags → AreStoppedBy (turns ++ line_of a b ∷ []) place flags
flags_on turns a b place flags keeps are node own stands = are node own stands ∙ ap Some (sym (stops_next turns a b own.name ∙ keeps own.name (is_stopped (inner_turns turns) own.name)))

-- ---- slots

-- steps leave a replica where there was one, and none where there was none
pub slots_on : {D : Type 0} (state : D → DiskState) (slots : List Slot) (old new : Tracked D) (more : List Event) → Ran state old more new → AreSlots slots old → AreSlots slots new
slots_on {D} state slots old new more ran are = record {
  there = λ s m. there_after state old new more s ran (are.there s m);
  all = λ s some. are.all s (before s some);
}
  where
    before : (s : Slot) → finite.get new.members s ≢ None → finite.get old.members s ≢ None
    before s some none = some (subst (λ (o : Option (Member D)). IsStepped state (steps_of s more) o (finite.get new.members s)) none (ran.stepped s))
