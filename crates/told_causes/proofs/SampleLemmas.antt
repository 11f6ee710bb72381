-- The run that hears of a replica which nobody began.
use Rattle.std.proofs.Common.{◌≡◌, ℕ, zero, suc, ◌+◌, ◌≤◌, ◌<◌, length, List, [], ◌∷◌, ◌++◌, take, refl, sym, ap, ◌∙◌, subst, inl, inr, arith, true, false}
use Rattle.std.specs.Prelude.{Some, None, slice_get}
use Rattle.std.proofs.lemmas.Option.{same_Some}
use Rattle.m3_model.specs.Members.{IsIn}
use Rattle.m3_model.specs.declared.act.Act.TheVariants as act
use Rattle.m3_model.specs.declared.answer.Answer.TheVariants as answer
use Rattle.m3_model.specs.declared.placement.Instance.{Instance}
use Rattle.m3_model.specs.declared.placement.Placement.{Placement}
use Rattle.m3_model.specs.declared.reason.Reason.{Reason}
use Rattle.m3_model.specs.declared.reason.Reason.TheVariants as reason
use Rattle.transcripts.specs.Fates.{OfNode}
use Rattle.transcripts.specs.Record.{IsLastTurnPosition, line_of}
use Rattle.cluster_core.specs.Earlier.{last_place}
use Rattle.cluster_core.specs.Legal.{Legal, LawfulAt}
use Rattle.cluster_core.specs.Lists.{At}
use Rattle.cluster_core.specs.declared.event.Asked.TheVariants as asked
use Rattle.cluster_core.specs.declared.event.Event.{Event}
use Rattle.cluster_core.specs.declared.event.Event.TheVariants as event
use Rattle.cluster_core.specs.declared.event.StepCall.TheVariants as call
use Rattle.cluster_core.specs.declared.event.StepReply.TheVariants as reply
use Rattle.told_by.specs.Hears.{HearsReason, InStretch, IsSweepCall}
use Rattle.told_by.specs.Lines.{MayChange, PlainLine}
use Rattle.told_by.specs.Sample.{name, place, rules}
use Rattle.told_by.specs.Told.{TellsLine, ToldBy}
use Rattle.told_by.proofs.KindLemmas.{plain_told, plain_told_from, plain_told_to}
use Rattle.told_by.proofs.LegalSampleLemmas.{asked_at, lawful_place}
use Rattle.told_by.proofs.LineLemmas.{line_told, line_told_from, line_told_to, told_found}
use Rattle.told_by.proofs.OneLemmas.{is_last}
use Rattle.told_by.proofs.SampleLemmas.{Each, each_at, makes_each, restarts_none}
use Rattle.told_causes.specs.Boot.{ArePlacesInOrder, IsKnownSlot, HasOneTurn}
use Rattle.told_causes.specs.Sample.{BootIsHeard, events, found, swept, ticking, turns}

abbrev opening : List Event
opening = event.Place place [] ∷ event.Clock rules ∷ []

abbrev more : List Event
more = event.Ask (asked.Step 0 0 (call.Tick rules)) ∷ event.Step 0 0 (call.Tick rules) (reply.Refused reason.Boot) ∷ []

none : {X : Type 0} → ⊥ → X
none h = absurd h

heard : (x : ℕ × ℕ × Reason) → IsIn ((0, 0, reason.Boot) ∷ []) x → HearsReason (InStretch events 2 4) (IsSweepCall act.Tick) x.0 x.1 x.2
heard x (inl same) = subst (λ (y : ℕ × ℕ × Reason). HearsReason (InStretch events 2 4) (IsSweepCall act.Tick) y.0 y.1 y.2) same (call.Tick rules, tt, (3, (omega arith, omega arith, refl)))
heard x (inr nothing) = absurd nothing

tick_line : PlainLine (Some found) [] opening act.Tick swept more
tick_line = record {
  makes = record {
    makes = makes_each (Some found) [] opening act.Tick swept more (λ past. refl, (λ past. tt, tt));
    restarts = restarts_none opening act.Tick swept [] more (none, (none, tt));
    hears = record { counted = λ x m. absurd m; refused = heard };
  };
  plain = record { no_acks = λ nodes e. cc; not_unmet = λ h. h; no_found = refl; no_rules = refl; no_seed = refl };
  opened = inl (omega arith);
  adds = λ i e there. let here : 0 + i ≡ i = omega arith in subst (λ k. MayChange ticking (opening ++ take k more) e) here (each_at (λ j x. MayChange ticking (opening ++ take j more) x) 0 more (tt, (tt, tt)) i e there);
  prints = record { is_place = λ p e. absurd (let bad : None ≡ Some p = e in cc); not_earlier = λ p k was is f e. absurd (let bad : None ≡ Some is = e in cc) };
  ends = λ available boot x m. absurd (let bad : swept ≡ answer.Available available boot.place boot.version = boot.answered in cc);
}

abbrev next : TellsLine (Some found) [] opening (line_of act.Tick swept) more
next = plain_told (Some found) [] opening act.Tick swept more tick_line

abbrev told : ToldBy (Some found) turns events
told = line_told (Some found) [] opening (line_of act.Tick swept) more (told_found found) next

lawful : Each (λ i e. LawfulAt true i (take i events) e) 0 events
lawful = (
  (lawful_place, refl),
  (tt, (tt, ((asked_at (take 3 events) (event.Step 0 0 (call.Tick rules) (reply.Refused reason.Boot)) 2 (event.Ask (asked.Step 0 0 (call.Tick rules))) refl (refl, refl, refl) ((λ late. none), ((λ late. none), ((λ late. none), tt))), refl), tt))),
)

legal : Legal true events
legal i e there = let here : 0 + i ≡ i = omega arith in subst (λ k. LawfulAt true k (take k events) e) here (each_at (λ k x. LawfulAt true k (take k events) x) 0 events lawful i e there)

-- the one Place is that of the opening
one_place : (i : ℕ) (p : Placement) (done : List (ℕ × ℕ)) → At events i (event.Place p done) → place ≡ p
one_place i p done there = each_at (λ k x. x ≡ event.Place p done → place ≡ p) 0 events ((λ e. cc), ((λ e. absurd (cc)), ((λ e. absurd (cc)), ((λ e. absurd (cc)), tt)))) i (event.Place p done) there refl

abbrev node : Instance
node = record { name = name; group = name; listed = true; drained = false }

slot : (told : ToldBy (Some found) turns events) → IsKnownSlot (Some found) turns events told 0 0 name
slot told = record {
  everywhere = λ i p done own there is. let here : slice_get place.instances 0 ≡ Some own = ap (λ (q : Placement). slice_get q.instances 0) (one_place i p done there) ∙ is in let same : node ≡ own = same_Some node own here in ap (λ (x : Instance). x.name) (sym same);
  has_name = λ i p done there has. subst (λ (q : Placement). OfNode q 0 (λ own. own ≡ name)) (one_place i p done there) (record { instance_ = node; stands = refl; holds = refl });
  owned = λ q at over begins tenure given i here. each_at (λ k x. x ≡ event.Step 0 0 (call.Begin tenure) (reply.Refused reason.NotOwned) → ⊥) 0 events ((λ e. cc), ((λ e. cc), ((λ e. cc), ((λ e. cc), tt)))) i (event.Step 0 0 (call.Begin tenure) (reply.Refused reason.NotOwned)) here.2 refl;
}

at_first : (i : ℕ) (p : Placement) (done : List (ℕ × ℕ)) → At events i (event.Place p done) → i < 2
at_first i p done there = let here : 0 + i ≡ i = omega arith in subst (λ k. k < 2) here (each_at (λ k x. x ≡ event.Place p done → k < 2) 0 events ((λ e. omega arith), ((λ e. omega arith), ((λ e. absurd (cc)), ((λ e. absurd (cc)), tt)))) i (event.Place p done) there refl)

-- its one line has one turn, and no Place
places : (told : ToldBy (Some found) turns events) → ArePlacesInOrder (Some found) turns events told
places told = record { alone = alone; beside = λ k i p done less many. absurd (many (one k less)) }
  where
    alone : (k i : ℕ) (p : Placement) (done : List (ℕ × ℕ)) → k < length turns → HasOneTurn turns k → told.ends k ≤ i → i < told.ends (suc k) → At events i (event.Place p done) → last_place (take (told.ends (suc k)) events) ≡ Some p
    alone zero i p done less only low high there = absurd (omega (arith, low, (told.lines).first, at_first i p done there))
    alone (suc k) i p done less only low high there = absurd (omega (arith, less))

    one : (k : ℕ) → k < length turns → HasOneTurn turns k
    one zero less = (line_of act.Tick swept, record { act = act.Tick; answer = swept }, refl, refl)
    one (suc k) less = absurd (omega (arith, less))

last : IsLastTurnPosition [] (line_of act.Tick swept) ticking
last = is_last (Some found) [] opening act.Tick swept more

pub boot_is_heard : BootIsHeard
boot_is_heard = (
  told,
  legal,
  record { places = places told; slot = slot told; was = record { lines = 0; not_later = omega arith; member = refl } },
  (
    3,
    (
      omega (arith, line_told_from (Some found) [] opening (line_of act.Tick swept) more (told_found found) next ticking last, plain_told_from (Some found) [] opening act.Tick swept more tick_line),
      omega (arith, line_told_to (Some found) [] opening (line_of act.Tick swept) more (told_found found) next ticking last, plain_told_to (Some found) [] opening act.Tick swept more tick_line),
      refl,
    ),
  ),
)
