-- How many placements are kept, one line on.
use Rattle.std.proofs.Common.{◌≡◌, ◌-◌, ℕ, suc, List, [], ◌∷◌, ◌++◌, map, refl, ap, ◌∙◌, inl, inr, arith}
use Rattle.std.specs.Prelude.{Option, Some, None}
use Rattle.std.specs.List.{cons_option, filter_map}
use Rattle.std.proofs.lemmas.List.{map-append}
use Rattle.std.proofs.lemmas.List.Elements.{filter_map-append}
use Rattle.m3_model.specs.Members.{IsIn}
use Rattle.m3_model.specs.declared.act.Act.{Act}
use Rattle.m3_model.specs.declared.answer.Answer.{Answer}
use Rattle.m3_model.specs.declared.placement.Placement.{Placement}
use Rattle.m3_model.specs.declared.rules.MetaState.{MetaState}
use Rattle.m3_model.specs.declared.turn.Turn.{Turn}
use Rattle.told_runs.proofs.told_by_proofs.TurnLemmas.{inner-append}
use Rattle.transcripts.specs.Caused.{kept_after, versions_after}
use Rattle.transcripts.specs.Placements.{printed}
use Rattle.transcripts.specs.Record.{InnerTurn, inner_turns, line_of}
use Rattle.transcripts.specs.Refusals.{kept_versions}

-- the placements that these turns print
abbrev prints_of : List InnerTurn → List Placement
prints_of turns = filter_map (λ turn. printed turn.answer) turns

abbrev versions_of : List Placement → List ℕ
versions_of places = map (λ (place : Placement). place.version) places

versions_more : (start : Option MetaState) (xs ys : List InnerTurn) → versions_after start (xs ++ ys) ≡ versions_after start xs ++ versions_of (prints_of ys)
versions_more None xs ys = ap versions_of (filter_map-append (λ (turn : InnerTurn). printed turn.answer) xs ys) ∙ map-append (λ (place : Placement). place.version) (prints_of xs) (prints_of ys)
versions_more (Some state) xs ys = ap (λ vs. state.place.version ∷ vs) (ap versions_of (filter_map-append (λ (turn : InnerTurn). printed turn.answer) xs ys) ∙ map-append (λ (place : Placement). place.version) (prints_of xs) (prints_of ys))

-- the first version stays the first
first_stays : (place : Placement) (vs ws : List ℕ) (n : ℕ) → kept_versions (Some place) vs ≡ suc n → kept_versions (Some place) (vs ++ ws) ≡ suc n
first_stays place [] ws n e = cc
first_stays place (v ∷ vs) ws n e = e

one_more : (place next : Placement) (vs ws : List ℕ) (n : ℕ) → next.version ≡ suc place.version → kept_versions (Some place) vs ≡ suc n → kept_versions (Some next) (vs ++ ws) ≡ suc (suc n)
one_more place next [] ws n step e = cc
one_more place next (v ∷ vs) ws n step e = omega (arith, step, e)

versions_on : (start : Option MetaState) (turns : List Turn) (a : Act) (b : Answer) → versions_after start (inner_turns (turns ++ line_of a b ∷ [])) ≡ versions_after start (inner_turns turns) ++ versions_of (prints_of (inner_turns (line_of a b ∷ [])))
versions_on start turns a b = ap (versions_after start) (inner-append turns (line_of a b ∷ [])) ∙ versions_more start (inner_turns turns) (inner_turns (line_of a b ∷ []))

-- where the same placement stands, as many are kept
pub count_on : (start : Option MetaState) (turns : List Turn) (a : Act) (b : Answer) (standing : Placement) (n : ℕ) → kept_after start (inner_turns turns) standing ≡ suc n → kept_after start (inner_turns (turns ++ line_of a b ∷ [])) standing ≡ suc n
count_on start turns a b standing n count =
    ap (kept_versions (Some standing)) (versions_on start turns a b) ∙ first_stays standing (versions_after start (inner_turns turns)) (versions_of (prints_of (inner_turns (line_of a b ∷ [])))) n count

-- where the next one does, one more
pub count_next : (start : Option MetaState) (turns : List Turn) (a : Act) (b : Answer) (standing next : Placement) (n : ℕ) → next.version ≡ suc standing.version → kept_after start (inner_turns turns) standing ≡ suc n → kept_after start (inner_turns (turns ++ line_of a b ∷ [])) next ≡ suc (suc n)
count_next start turns a b standing next n step count =
    ap (kept_versions (Some next)) (versions_on start turns a b) ∙ one_more standing next (versions_after start (inner_turns turns)) (versions_of (prints_of (inner_turns (line_of a b ∷ [])))) n step count

prints_none : (turns : List InnerTurn) → ((turn : InnerTurn) → IsIn turns turn → printed turn.answer ≡ None) → prints_of turns ≡ []
prints_none [] none = refl
prints_none (turn ∷ turns) none = ap (λ o. cons_option o (prints_of turns)) (none turn (inl refl)) ∙ prints_none turns (λ t i. none t (inr i))

-- of the first placement there is one
pub count_first : (turns : List Turn) (a : Act) (b : Answer) (place : Placement) → ((turn : InnerTurn) → IsIn (inner_turns turns) turn → printed turn.answer ≡ None) → printed b ≡ Some place → kept_after None (inner_turns (turns ++ line_of a b ∷ [])) place ≡ 1
count_first turns a b place none first =
    ap (kept_versions (Some place)) (versions_on None turns a b ∙ ap (λ places. versions_of places ++ versions_of (prints_of (inner_turns (line_of a b ∷ [])))) (prints_none (inner_turns turns) none)
    ∙ ap (λ o. versions_of (cons_option o [])) first)
    ∙ one
  where
    one : suc place.version - place.version ≡ 1
    one = omega arith
