-- What is asked of a call is so of the read of the short run.
use Rattle.std.proofs.Common.{◌≡◌, ℕ, zero, suc, List, [], ◌∷◌, ◌++◌, length, refl, sym, ap, ◌∙◌, subst, inl, inr, true, false}
use Rattle.std.specs.Prelude.{Option, Some, None, slice_get}
use Rattle.std.proofs.lemmas.Option.{same_Some}
use Rattle.m3_model.specs.Levels.{needed_read}
use Rattle.m3_model.specs.Members.{IsIn}
use Rattle.m3_model.specs.declared.act.ReadLevel.TheVariants as level
use Rattle.m3_model.specs.declared.answer.Answer.TheVariants as answer
use Rattle.m3_model.specs.declared.placement.Instance.{Instance}
use Rattle.m3_model.specs.declared.placement.Placement.{Placement}
use Rattle.m3_model.specs.declared.reason.Reason.{Reason}
use Rattle.m3_model.specs.declared.reason.Reason.TheVariants as reason
use Rattle.transcripts.specs.Calls.{Call}
use Rattle.transcripts.specs.Faults.{Fault}
use Rattle.transcripts.specs.Placements.{IsCounted, MayUse, placement_after}
use Rattle.transcripts.specs.Record.{AreSomeOf, InnerTurn, TurnPosition, IsTurnPosition, inner_turns, line_of}
use Rattle.cluster_core.specs.Lists.{At}
use Rattle.cluster_core.specs.declared.event.Event.{Event}
use Rattle.cluster_core.specs.declared.event.Event.TheVariants as event
use Rattle.cluster_core.specs.declared.event.StepCall.{StepCall}
use Rattle.cluster_core.specs.declared.event.StepReply.TheVariants as reply
use Rattle.told_by.specs.Hears.{IsHeard, IsNamedBy}
use Rattle.told_by.specs.Lines.{position_after}
use Rattle.told_by.specs.Sample.{events, fetched, name, place, series, turns}
use Rattle.told_by.proofs.BrokenLemmas.{turn_among}
use Rattle.told_by.proofs.LegalSampleLemmas.{sample_legal}
use Rattle.told_by.proofs.LineLemmas.{position_last}
use Rattle.told_by.proofs.OneLemmas.{is_last}
use Rattle.told_by.proofs.SampleLemmas.{each_at, sample_told}
use Rattle.told_causes.specs.Calls.{IsExplainedAt, AllAreExplained, IsNamedOnce, IsSteadyNode, IsUsedBy, ServedAreNamed, Within}
use Rattle.told_causes.specs.Faults.{fault_of, faults_told}
use Rattle.told_causes.specs.Sample.{ReadIsKnown, lines_before}
use Rattle.told_causes.specs.Standing.{HaltsAlone, IsHaltAct}
use Rattle.told_causes.proofs.FaultLemmas.{faults_steps}

abbrev reading : TurnPosition
reading = position_after lines_before fetched (answer.Found series false)

reading_in : IsTurnPosition turns reading
reading_in = position_last lines_before (line_of fetched (answer.Found series false)) reading (is_last None lines_before [] fetched (answer.Found series false) [])

abbrev node : Instance
node = record { name = name; group = name; listed = true; drained = false }

none : {X : Type 0} → ⊥ → X
none h = absurd h

-- no turn stops or restarts
halts : HaltsAlone turns
halts q at stops = absurd (by (turn_among turns q at))
  where
    by : IsIn (inner_turns turns) q.turn → ⊥
    by (inl e) = subst (λ (t : InnerTurn). IsHaltAct t.act) (sym e) stops
    by (inr (inl e)) = subst (λ (t : InnerTurn). IsHaltAct t.act) (sym e) stops
    by (inr (inr (inl e))) = subst (λ (t : InnerTurn). IsHaltAct t.act) (sym e) stops
    by (inr (inr (inr (inl e)))) = subst (λ (t : InnerTurn). IsHaltAct t.act) (sym e) stops
    by (inr (inr (inr (inr nothing)))) = nothing

-- the list has one Place, no refusal and no fault
pub one_place : (i : ℕ) (p : Placement) (done : List (ℕ × ℕ)) → At events i (event.Place p done) → place ≡ p
one_place i p done there = each_at (λ k x. x ≡ event.Place p done → place ≡ p) 0 events ((λ e. cc), ((λ e. absurd (cc)), ((λ e. absurd (cc)), ((λ e. absurd (cc)), ((λ e. absurd (cc)), ((λ e. absurd (cc)), ((λ e. absurd (cc)), ((λ e. absurd (cc)), ((λ e. absurd (cc)), ((λ e. absurd (cc)), ((λ e. absurd (cc)), ((λ e. absurd (cc)), ((λ e. absurd (cc)), ((λ e. absurd (cc)), tt)))))))))))))) i (event.Place p done) there refl

pub never_refused : (i n s : ℕ) (c : StepCall) (why : Reason) → At events i (event.Step n s c (reply.Refused why)) → ⊥
never_refused i n s c why there = each_at (λ k x. x ≡ event.Step n s c (reply.Refused why) → ⊥) 0 events ((λ e. cc), ((λ e. cc), ((λ e. cc), ((λ e. cc), ((λ e. cc), ((λ e. cc), ((λ e. cc), ((λ e. cc), ((λ e. cc), ((λ e. cc), ((λ e. cc), ((λ e. cc), ((λ e. cc), ((λ e. cc), tt)))))))))))))) i (event.Step n s c (reply.Refused why)) there refl

no_fault : (i line : ℕ) (x : Event) (fault : Fault) → At events i x → fault_of line x ≡ Some fault → ⊥
no_fault i line x fault there tells = each_at (λ k y. fault_of line y ≡ Some fault → ⊥) 0 events ((λ e. cc), ((λ e. cc), ((λ e. cc), ((λ e. cc), ((λ e. cc), ((λ e. cc), ((λ e. cc), ((λ e. cc), ((λ e. cc), ((λ e. cc), ((λ e. cc), ((λ e. cc), ((λ e. cc), ((λ e. cc), tt)))))))))))))) i x there tells

-- the read uses the one placement
stood_is : (p : Placement) (stood others : List InnerTurn) → AreSomeOf others [] → stood ≡ inner_turns lines_before ++ ([] ++ others) → placement_after None stood ≡ Some p → place ≡ p
stood_is p stood [] some are stands = same_Some place p (ap (placement_after None) (sym are) ∙ stands)
stood_is p stood (t ∷ others) some are stands = absurd some

by_version : (p : Placement) (version : Option ℕ) → None ≡ version → MayUse None reading version p → place ≡ p
by_version p None e h = stood_is p h.0 (h.1).others (h.1).some_of (h.1).are h.2
by_version p (Some v) e h = absurd (let bad : None ≡ Some v = e in cc)

used_is : (p : Placement) → IsUsedBy None reading p → place ≡ p
used_is p h =
    let own : Call = record { id = Some name; version = None; needed = needed_read level.Majority } in
    by_version p (h.call).version (ap (λ (c : Call). c.version) (same_Some own h.call h.of_act)) h.may_use

-- ---- nodes

named_by : IsNamedBy events 0 name
named_by i p done own there is =
    let here : slice_get place.instances 0 ≡ Some own = ap (λ (q : Placement). slice_get q.instances 0) (one_place i p done there) ∙ is in
    let same : node ≡ own = same_Some node own here in
    ap (λ (x : Instance). x.name) (sym same)

named_once : (p : Placement) (n : ℕ) → place ≡ p → (i : Instance) → slice_get p.instances n ≡ Some i → IsNamedOnce events p n
named_once p n same i there = subst (λ (q : Placement). IsNamedOnce events q n) same (by n (subst (λ (q : Placement). slice_get q.instances n ≡ Some i) (sym same) there))
  where
    by : (n : ℕ) → slice_get place.instances n ≡ Some i → IsNamedOnce events place n
    by zero e = (name, record { instance_ = node; stands = refl; holds = refl }, named_by)
    by (suc n) e = absurd (let bad = e in cc)

served_named : ServedAreNamed None events sample_told.spans reading
served_named p used shard n h = let sent = h.3 in named_once p n (used_is p used) sent.instance_ sent.stands

one_counts : (shard n : ℕ) → IsCounted place shard n → 0 ≡ n
one_counts zero n (inl e) = e
one_counts zero n (inr nothing) = absurd nothing
one_counts (suc shard) n m = absurd m

abbrev faults : List Fault
faults = faults_told sample_told.ends events (length turns)

steady : (shard : ℕ) → IsSteadyNode None turns events sample_told reading place shard 0
steady shard = record {
  name = name;
  named = record { instance_ = node; stands = refl; holds = refl };
  everywhere = named_by;
  there = λ fault among of_node of_shard early. let told_of = faults_steps sample_told.ends events (length turns) fault among in absurd (no_fault told_of.position fault.line told_of.e fault told_of.there told_of.tells);
}

explained_by : (shard : ℕ) (why : Reason) → IsHeard None (Within events sample_told.spans reading) reading place shard 0 why → IsExplainedAt true None turns events sample_told reading place shard 0 name why
explained_by shard reason.Boot h = absurd (never_refused (h.2).0 0 shard h.0 reason.Boot ((h.2).1).2)
explained_by shard reason.NotOwned h = absurd (never_refused (h.2).0 0 shard h.0 reason.NotOwned ((h.2).1).2)
explained_by shard (reason.Stale fence) h = absurd (never_refused (h.2).0 0 shard h.0 (reason.Stale fence) ((h.2).1).2)
explained_by shard _ h = tt

abbrev Explained : Placement → ℕ → ℕ → Reason → Type 0
Explained p shard n why = (known : IsSteadyNode None turns events sample_told reading p shard n) × IsExplainedAt true None turns events sample_told reading p shard n known.name why

all_explained : AllAreExplained true None turns events sample_told reading
unfolding steady
all_explained p used shard n why counted heard =
    let same = used_is p used in
    let of_node : 0 ≡ n = one_counts shard n (subst (λ (q : Placement). IsCounted q shard n) (sym same) counted) in
    let here : IsHeard None (Within events sample_told.spans reading) reading place shard 0 why =
    subst (λ m. IsHeard None (Within events sample_told.spans reading) reading place shard m why) (sym of_node) (subst (λ (q : Placement). IsHeard None (Within events sample_told.spans reading) reading q shard n why) (sym same) heard) in
    subst (λ (q : Placement). Explained q shard n why) same (subst (λ m. Explained place shard m why) of_node (steady shard, explained_by shard why here))

pub read_is_known : ReadIsKnown
read_is_known = (sample_told, record { legal = sample_legal; in_run = reading_in; calls = refl; halts = halts; named = served_named; explained = all_explained })
