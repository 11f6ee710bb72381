-- Replicas that only a fault explains.
use Rattle.std.proofs.Common.{◌≡◌, ◌≢◌, ◌≤◌, ◌<◌, ◌+◌, ◌*◌, ◌∙◌, ℕ, zero, suc, true, false, List, [], ◌∷◌, ◌++◌, Some, None, refl, ap, subst, sym, inl, inr, arith}
use Rattle.std.specs.Prelude.{◌⊎◌, Option, IsTrue, codes, drop}
use Rattle.std.specs.List.{list_any}
use Rattle.m3_model.specs.Members.{IsIn}
use Rattle.m3_model.specs.declared.act.Act.TheVariants as act
use Rattle.m3_model.specs.declared.answer.Answer.{Answer}
use Rattle.m3_model.specs.declared.answer.Answer.TheVariants as answer
use Rattle.m3_model.specs.declared.answer.StatusLine.{StatusLine}
use Rattle.m3_model.specs.declared.limits.TheConstants.{MOST_EVENTS, MOST_REQUEST_EVENTS}
use Rattle.m3_model.specs.declared.placement.Assignment.{Assignment}
use Rattle.m3_model.specs.declared.placement.Placement.{Placement}
use Rattle.m3_model.specs.declared.placement.ShardState.TheVariants.{Initializing, Available, Leaving}
use Rattle.m3_model.specs.declared.replica.Standing.{Standing}
use Rattle.m3_model.specs.declared.replica.Standing.TheVariants.{Boot, Down, Open}
use Rattle.m3_model.specs.declared.turn.Turn.{Turn}
use Rattle.placement_core.specs.Shards.{shard_at}
use Rattle.transcripts.specs.Blamed.{Blamed, BlamesBy, MayStandAs, PassesOver, StandAsSaid}
use Rattle.transcripts.specs.Fates.{is_stopped}
use Rattle.transcripts.specs.Faults.{Failing, Fault, IsClosedByFault, Taking, closes}
use Rattle.transcripts.specs.Placements.{placement_after}
use Rattle.transcripts.specs.Record.{TurnPosition, inner_turns}
use Rattle.transcripts.specs.Waiting.{waiting_after}
use Rattle.model_laws.specs.Building.{begun, life_of, place, position_after}
use Rattle.model_laws.specs.Messages.{stopped}
use Rattle.model_laws.proofs.EachLemmas.{◌also◌, each_in}
use Rattle.model_laws.proofs.PositionLemmas.{each_position, only, only_used, position_after-stands, stands_then}
use Rattle.move_laws.proofs.MovingLemmas.{of_name}
use Rattle.join_laws.specs.Limits.{boots_d}
use Rattle.join_laws.specs.Replaced.{a_to_d, moving_to_d, passed_over, standing_line, status_after}
use Rattle.join_laws.proofs.PeerLives.{d_is_joining}

-- ---- bootstraps

abbrev passing : Answer
passing = answer.Available [] a_to_d 2

-- where d's bootstrap stands
abbrev here : TurnPosition
here = position_after moving_to_d boots_d passing

abbrev fault_of_d : Fault
fault_of_d = record { line = 2; node = 3; shard = 0; kind = Failing }

-- d's disk failed in its bootstrap
d_closed : (node : ℕ) → node ≡ 3 → IsClosedByFault (fault_of_d ∷ []) None here a_to_d 0 node
d_closed node is = subst (IsClosedByFault (fault_of_d ∷ []) None here a_to_d 0) (sym is) (record {
  fault = fault_of_d;
  among = inl refl;
  of_node = refl;
  of_shard = refl;
  closing = refl;
  not_later = omega arith;
  was_there = λ earlier. absurd (omega (arith, earlier));
  not_restarted = record { instance_ = _; stands = refl; holds = refl };
})

passes : PassesOver (fault_of_d ∷ []) None here (codes "d") None a_to_d
passes before is zero joins low =
    d_closed joins.node (sym joins.of_node ∙ each_in (λ (a : Assignment). a.state ≡ Initializing → a.node ≡ 3) (shard_at a_to_d 0) ((λ e. absurd (leaving_not e)) also (λ e. absurd (available_not e)) also (λ e. absurd (available_not e)) also (λ e. refl) also tt) joins.joining joins.among joins.is_joining)
  where
    leaving_not : Leaving ≢ Initializing
    leaving_not e = cc

    available_not : Available ≢ Initializing
    available_not e = cc
passes before is (suc shard) joins low = absurd joins.among

pub closed-blamed : Blamed (life_of passed_over) (fault_of_d ∷ [])
closed-blamed = each_position (λ p. BlamesBy (fault_of_d ∷ []) [] None p p.turn.act p.turn.answer) passed_over (only tt also only tt also only passes also tt)

-- what closed d's replica where it was passed over
closed_by : (faults : List Fault) → Blamed (life_of passed_over) faults → IsClosedByFault faults None here a_to_d 0 3
unfolding d_is_joining
closed_by faults blamed = blamed here (position_after-stands moving_to_d boots_d passing []) a_to_d refl 0 d_is_joining (omega arith)

pub nothing-refused : ¬ Blamed (life_of passed_over) []
nothing-refused blamed = (closed_by [] blamed).among

pub another-refused : ¬ Blamed (life_of passed_over) (record { line = 2; node = 1; shard = 0; kind = Failing } ∷ [])
another-refused blamed = by (closed_by (record { line = 2; node = 1; shard = 0; kind = Failing } ∷ []) blamed)
  where
    by : IsClosedByFault (record { line = 2; node = 1; shard = 0; kind = Failing } ∷ []) None here a_to_d 0 3 → ⊥
    by closed = elim closed.among as (λ _. ⊥) [ inl e ↦ (let bad : 1 ≡ 3 = ap (λ (f : Fault). f.node) e ∙ closed.of_node in omega (arith, bad)) | inr none ↦ absurd none ]

pub untaken-refused : ¬ Blamed (life_of passed_over) (record { line = 2; node = 3; shard = 0; kind = Taking } ∷ [])
untaken-refused blamed = by (closed_by (record { line = 2; node = 3; shard = 0; kind = Taking } ∷ []) blamed)
  where
    by : IsClosedByFault (record { line = 2; node = 3; shard = 0; kind = Taking } ∷ []) None here a_to_d 0 3 → ⊥
    by closed = elim closed.among as (λ _. ⊥) [ inl e ↦ (let bad : false ≡ true = subst (λ (f : Fault). IsTrue (closes f.kind)) (sym e) closed.closing in cc) | inr none ↦ absurd none ]

-- ---- standings

abbrev three : Standing → Standing → Standing → List StatusLine
three a b c = standing_line a 0 ∷ standing_line b 1 ∷ standing_line c 2 ∷ []

-- where the `status` stands
abbrev status_at : List Turn → List StatusLine → TurnPosition
status_at lines said = position_after (begun 100 lines) act.Status (answer.Status 100 said 1)

-- the replica of each line stands so
abbrev MayStandSo : List Turn → List StatusLine → StatusLine → Type 0
MayStandSo lines said line = MayStandAs [] [] None (status_at lines said) place line.shard line.node line.standing

pub open-blamed : Blamed (life_of (status_after [] (three Open Open Open))) []
open-blamed =
    each_position (λ p. BlamesBy [] [] None p p.turn.act p.turn.answer) (status_after [] (three Open Open Open)) (
    only tt
    also only tt
    also only tt
    also only (record {
      place = place;
      stands = stands_then (begun 100 []) act.Status (answer.Status 100 (three Open Open Open) 1) place refl;
      each = each_in (MayStandSo [] (three Open Open Open)) (three Open Open Open) (record { instance_ = _; stands = refl; holds = refl } also record { instance_ = _; stands = refl; holds = refl } also record { instance_ = _; stands = refl; holds = refl } also tt);
    })
    also tt)

pub down-blamed : Blamed (life_of (status_after (stopped (codes "c") ∷ []) (three Open Open Down))) []
down-blamed =
    each_position (λ p. BlamesBy [] [] None p p.turn.act p.turn.answer) (status_after (stopped (codes "c") ∷ []) (three Open Open Down)) (
    only tt
    also only tt
    also only tt
    also only tt
    also only (record {
      place = place;
      stands = stands_then (begun 100 (stopped (codes "c") ∷ [])) act.Status (answer.Status 100 (three Open Open Down) 1) place refl;
      each = each_in (MayStandSo (stopped (codes "c") ∷ []) (three Open Open Down)) (three Open Open Down) (record { instance_ = _; stands = refl; holds = refl } also record { instance_ = _; stands = refl; holds = refl } also inl (record { instance_ = _; stands = refl; holds = refl }) also tt);
    })
    also tt)

-- how c may stand at the end of such a run
c_stands : (lines : List Turn) (said : List StatusLine) (standing : Standing) → placement_after None (inner_turns (begun 100 lines)) ≡ Some place → IsIn said (standing_line standing 2)
    → StandAsSaid [] [] None (status_at lines said) said → MayStandAs [] [] None (status_at lines said) place 0 2 standing
c_stands lines said standing stood among due =
    subst (λ q. MayStandAs [] [] None (status_at lines said) q 0 2 standing) (sym (only_used (begun 100 lines) act.Status (answer.Status 100 said 1) place due.place stood due.stands)) (due.each (standing_line standing 2) among)

pub running-refused : ¬ Blamed (life_of (status_after [] (three Open Open Down))) []
running-refused blamed =
    elim (c_stands [] (three Open Open Down) Down refl (inr (inr (inl refl))) (blamed (status_at [] (three Open Open Down)) (position_after-stands (begun 100 []) act.Status (answer.Status 100 (three Open Open Down) 1) []))) as (λ _. ⊥) [
      | inl stops ↦ let bad : false ≡ true = of_name place (λ name. is_stopped (inner_turns (begun 100 [])) name ≡ true) 2 _ refl stops in cc
      | inr told ↦ elim told as (λ _. ⊥) [ inl closed ↦ closed.among | inr full ↦ not_many full.requests full.writes full.requests_are full.writes_are full.many ]
    ]
  where
    not_many : (requests writes : ℕ) → requests ≡ 4 → writes ≡ 0 → MOST_EVENTS ≤ (MOST_REQUEST_EVENTS * (requests + 1)) * (writes + 1) → ⊥
    not_many requests writes four none many =
        let few : MOST_EVENTS ≤ (MOST_REQUEST_EVENTS * 5) * 1 = subst (λ n. MOST_EVENTS ≤ (MOST_REQUEST_EVENTS * (n + 1)) * 1) four (subst (λ n. MOST_EVENTS ≤ (MOST_REQUEST_EVENTS * (requests + 1)) * (n + 1)) none many) in
        omega (arith, few)

pub boot-refused : ¬ Blamed (life_of (status_after [] (three Open Open Boot))) []
boot-refused blamed =
    let waits = c_stands [] (three Open Open Boot) Boot refl (inr (inr (inl refl))) (blamed (status_at [] (three Open Open Boot)) (position_after-stands (begun 100 []) act.Status (answer.Status 100 (three Open Open Boot) 1) [])) in
    let bad : false ≡ true = of_name place (λ name. (waiting_after (record { shard = 0; node = 2; name = name }) None (begun 100 [])).waits ≡ true) 2 _ refl (record { instance_ = waits.instance_; stands = waits.stands; holds = waits.holds }) in
    cc

pub stopped_open-refused : ¬ Blamed (life_of (status_after (stopped (codes "c") ∷ []) (three Open Open Open))) []
stopped_open-refused blamed =
    let lines = begun 100 (stopped (codes "c") ∷ []) in
    let runs = c_stands (stopped (codes "c") ∷ []) (three Open Open Open) Open refl (inr (inr (inl refl))) (blamed (status_at (stopped (codes "c") ∷ []) (three Open Open Open)) (position_after-stands lines act.Status (answer.Status 100 (three Open Open Open) 1) [])) in
    let bad : true ≡ false = of_name place (λ name. is_stopped (inner_turns lines) name ≡ false) 2 _ refl runs in
    cc
