-- What was told, one node after the other.
use Rattle.std.proofs.Common.{◌≡◌, List, [], ◌∷◌, ◌++◌, map, refl, ap, ◌∙◌}
use Rattle.std.specs.Prelude.{is_none, filter}
use Rattle.std.specs.Option.{option_map}
use Rattle.std.proofs.lemmas.List.{map-append}
use Rattle.std.proofs.lemmas.List.Elements.{filter-append, filter_map-append}
use Rattle.session_net.specs.Outcomes.{NodeOutcome, answering, refusing}

pub answering_push : (told : List NodeOutcome) (x : NodeOutcome) → answering (told ++ x ∷ []) ≡ answering told ++ answering (x ∷ [])
answering_push told x = ap (map (λ y. y.0)) (filter-append (λ y. is_none y.1) told (x ∷ [])) ∙ map-append (λ y. y.0) (filter (λ y. is_none y.1) told) (filter (λ y. is_none y.1) (x ∷ []))

pub refusing_push : (told : List NodeOutcome) (x : NodeOutcome) → refusing (told ++ x ∷ []) ≡ refusing told ++ refusing (x ∷ [])
refusing_push told x = filter_map-append (λ y. option_map (λ why. (y.0, why)) y.1) told (x ∷ [])

pub append_none : {X : Type 0} (xs : List X) → xs ++ [] ≡ xs
append_none [] = refl
append_none (x ∷ xs) = ap (λ ys. x ∷ ys) (append_none xs)
