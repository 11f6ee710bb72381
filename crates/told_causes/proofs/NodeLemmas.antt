-- Why a restart and a bootstrap are refused for a disk or for damage.
use Rattle.std.proofs.Common.{◌≡◌, ◌≤◌, ℕ, List, take, length, refl, sym, ap, ◌∙◌, subst, arith, Bool}
use Rattle.std.specs.Prelude.{None, Option}
use Rattle.m3_model.specs.declared.act.Act.{Act}
use Rattle.m3_model.specs.declared.act.Act.TheVariants as act
use Rattle.m3_model.specs.declared.answer.Answer.{Answer}
use Rattle.m3_model.specs.declared.answer.Answer.TheVariants as answer
use Rattle.m3_model.specs.declared.reason.Damage.{Damage as Harm}
use Rattle.m3_model.specs.declared.reason.Reason.TheVariants as reason
use Rattle.m3_model.specs.declared.placement.Placement.{Placement}
use Rattle.m3_model.specs.declared.rules.MetaState.{MetaState}
use Rattle.m3_model.specs.declared.turn.Turn.{Turn}
use Rattle.cluster_core.specs.Legal.{Legal}
use Rattle.cluster_core.specs.declared.event.Event.{Event}
use Rattle.cluster_core.specs.declared.event.Event.TheVariants as event
use Rattle.cluster_core.specs.declared.event.StepCall.{StepCall}
use Rattle.cluster_core.specs.declared.event.StepReply.TheVariants as reply
use Rattle.transcripts.specs.Caused.{HadBefore, InFiles, IsCalled, IsMemberBefore, IsOwn, OnDisk}
use Rattle.transcripts.specs.Deliveries.{LateMessage}
use Rattle.transcripts.specs.Faults.{Damaged, Failing, Fault}
use Rattle.transcripts.specs.Placements.{has_replica, placement_after, printed, start_placement}
use Rattle.transcripts.specs.Record.{TurnPosition, IsTurnPosition, inner_turns}
use Rattle.told_by.specs.Hears.{AnySlot, HasStep, HearsBy, HearsRefused, IsJoinCall, IsMember, IsRestartCall}
use Rattle.told_by.specs.Makes.{IsNamedLast}
use Rattle.told_by.specs.Told.{ToldBy}
use Rattle.told_causes.specs.Calls.{Within}
use Rattle.told_causes.specs.Faults.{faults_told}
use Rattle.told_causes.specs.Nodes.{AreReached, NamesReplica, NodeAnswersAreSaid}
use Rattle.told_causes.specs.Boot.{ArePlacesInOrder}
use Rattle.told_causes.proofs.AloneLemmas.{lines_before}
use Rattle.told_causes.proofs.StoodLemmas.{had_before, may_stand}
use Rattle.told_causes.proofs.WaitLemmas.{is_member_of, member_given}
use Rattle.told_causes.proofs.CallLemmas.{fault_here}

module _ {tells : Bool} (start : Option MetaState) (turns : List Turn) (events : List Event) (legal : Legal tells events) (told : ToldBy start turns events) (places : ArePlacesInOrder start turns events told) (p : TurnPosition) (at : IsTurnPosition turns p) (quiet : printed p.turn.answer ≡ None) where
  abbrev faults : List Fault
  faults = faults_told told.ends events (length turns)

  begins : told.ends (length p.lines) ≤ (told.spans).from p
  begins = (told.lines).low p at

  within : (told.spans).from p ≤ (told.spans).to p
  within = (told.tells).order.not_back p at

  -- the node is called so in the placement that stands where it begins
  called : (node : ℕ) (name : List ℕ) → IsNamedLast (take ((told.spans).from p) events) node name → IsCalled start p name node
  called node name h = record { place = h.place; stands = may_stand start turns events legal told places p at quiet ((told.spans).from p) (omega arith) within h.place h.last; named = h.named }

  on_disk : (name : List ℕ) (shard : ℕ) (Kind : StepCall → Type 0) (Reached : Placement → ℕ → Type 0) (Holds : ℕ → Type 0) → ((node : ℕ) → (last : IsNamedLast (take ((told.spans).from p) events) node name) → Reached last.place node → HasStep (Within events told.spans p) Kind node shard (reply.Refused reason.Disk) → Holds node)
      → HearsRefused (take ((told.spans).from p) events) (Within events told.spans p) Reached name shard Kind reason.Disk → OnDisk faults start p Holds name shard
  on_disk name shard Kind Reached Holds holds h =
      let step = h.step in
      let i = (step.2).1 in (
        h.node,
        called h.node name h.of_node,
        holds h.node h.of_node h.reached h.step,
        fault_here start turns events legal told p at (step.2).0 (event.Step h.node shard step.0 (reply.Refused reason.Disk)) (record { line = length p.lines; node = h.node; shard = shard; kind = Failing }) i.0 i.1 i.2 refl refl,
      )

  -- a member of the placement that stands is one before the line
  member : (name : List ℕ) (shard node : ℕ) → (last : IsNamedLast (take ((told.spans).from p) events) node name) → IsMember shard last.place node → IsMemberBefore start p shard node
  member name shard node last h =
      let was = had_before start turns events legal told places p at quiet ((told.spans).from p) begins (omega (arith, within, (told.lines).high p at)) last.place last.last in
      let given = member_given last.place shard node h in
      ap (λ o. has_replica o shard node) (ap (λ ls. placement_after (start_placement start) (inner_turns ls)) (sym (lines_before start turns events legal told p at)) ∙ was.2) ∙ is_member_of was.0 shard node given.0 (was.3 node shard given.0 given.1)

  in_files : (name : List ℕ) (shard : ℕ) (Kind : StepCall → Type 0) (harm : Harm) → HearsRefused (take ((told.spans).from p) events) (Within events told.spans p) (IsMember shard) name shard Kind (reason.Corrupt harm) → InFiles faults start p (IsMemberBefore start p shard) name shard
  in_files name shard Kind harm h =
      let step = h.step in
      let i = (step.2).1 in (
        h.node,
        called h.node name h.of_node,
        member name shard h.node h.of_node h.reached,
        fault_here start turns events legal told p at (step.2).0 (event.Step h.node shard step.0 (reply.Refused (reason.Corrupt harm))) (record { line = length p.lines; node = h.node; shard = shard; kind = Damaged }) i.0 i.1 i.2 refl refl,
      )

  by_act : (shard : ℕ) (messages : List LateMessage) → (a : Act) (b : Answer) → HearsBy start (take ((told.spans).from p) events) (Within events told.spans p) p a b → NamesReplica a b shard → AreReached start (Within events told.spans p) p a shard → IsOwn tells faults start messages p a b
  by_act shard messages (act.Restart node pick) (answer.Disk named s) h is reached =
      (h.0, subst (λ m. OnDisk faults start p (HadBefore start p s) m s) (sym h.0) (on_disk node s IsRestartCall AnySlot (HadBefore start p s) (λ n last _ step. subst (λ m. HadBefore start p m n) (sym is) (reached n (subst (λ m. HasStep (Within events told.spans p) IsRestartCall n m (reply.Refused reason.Disk)) is step))) h.1))
  by_act shard messages (act.Bootstrap node asked) (answer.Disk named s) h is reached = (h.0, h.1, subst (λ m. OnDisk faults start p (IsMemberBefore start p s) m s) (sym h.0) (on_disk node s IsJoinCall (IsMember s) (IsMemberBefore start p s) (λ n last reaches _. member node s n last reaches) h.2))
  by_act shard messages (act.Bootstrap node asked) (answer.Corrupt named s harm) h is reached = (h.0, h.1, subst (λ m. InFiles faults start p (IsMemberBefore start p s) m s) (sym h.0) (in_files node s IsJoinCall harm h.3), h.2)
  by_act shard messages _ _ h is reached = absurd is

pub node_answers : {tells : Bool} → NodeAnswersAreSaid tells
node_answers start turns events legal told places p at shard is reached messages =
    by_act start turns events legal told places p at (prints_none p.turn.act p.turn.answer is) shard messages p.turn.act p.turn.answer ((told.tells).hears p at) is reached
  where
    prints_none : (a : Act) (b : Answer) → NamesReplica a b shard → printed b ≡ None
    prints_none (act.Restart node pick) (answer.Disk name s) h = refl
    prints_none (act.Bootstrap node asked) (answer.Disk name s) h = refl
    prints_none (act.Bootstrap node asked) (answer.Corrupt name s damage) h = refl
    prints_none _ _ h = absurd h
