-- What stands and what is known in the worked transcripts in which a shard moves.
use Rattle.std.proofs.Common.{ℕ, zero, suc, ◌≡◌, ◌<◌, ◌∙◌, List, [], ◌∷◌, ◌++◌, refl, sym, subst, ap, inl, inr, arith}
use Rattle.std.specs.Prelude.{Some, None, ◌⊎◌, slice_get}
use Rattle.std.proofs.lemmas.Option.{same_Some}
use Rattle.m3_model.specs.declared.placement.Instance.{Instance}
use Rattle.m3_model.specs.declared.placement.Placement.{Placement}
use Rattle.transcripts.specs.Fates.{OfNode}
use Rattle.transcripts.specs.Placements.{MayStand, placement_after}
use Rattle.transcripts.specs.Record.{InnerTurn, TurnPosition, AreSomeOf, inner_turns}
use Rattle.transcripts.specs.Waiting.{Replica}

-- b's replica of the shard that moves
abbrev pub of_b : List ℕ → Replica
of_b name = record { shard = 1; node = 1; name = name }

-- what is so of the name of a node that is known
pub of_name : (q : Placement) (Holds : List ℕ → Type 0) (node : ℕ) (one : Instance) → slice_get q.instances node ≡ Some one → OfNode q node Holds → Holds one.name
of_name q Holds node one stood fact = subst (λ (i : Instance). Holds i.name) (same_Some fact.instance_ one (sym fact.stands ∙ stood)) fact.holds

-- a number below the next one is below this one, or is it
pub below_or : (m n : ℕ) → n < suc m → (n < m) ⊎ (n ≡ m)
below_or zero zero e = inr refl
below_or zero (suc n) e = absurd (omega (arith, e))
below_or (suc m) zero e = inl (omega arith)
below_or (suc m) (suc n) e = elim (below_or m n (omega (arith, e))) as (λ _. (suc n < suc m) ⊎ (suc n ≡ suc m)) [ inl below ↦ inl (omega (arith, below)) | inr same ↦ inr (ap suc same) ]

-- where nothing is beside a turn, what stands after all before it is what it meets
pub only_behind : (p : TurnPosition) (x used : Placement) → p.beside ≡ [] → placement_after None (inner_turns p.lines ++ (p.earlier ++ [])) ≡ Some x → MayStand None p used → x ≡ used
only_behind p x used alone stood may =
    let others : may.1.others ≡ [] = none_of may.1.others (subst (AreSomeOf may.1.others) alone may.1.some_of) in
    let turns : may.0 ≡ inner_turns p.lines ++ (p.earlier ++ []) = may.1.are ∙ ap (λ xs. inner_turns p.lines ++ (p.earlier ++ xs)) others in
    same_Some x used (sym stood ∙ subst (λ ts. placement_after None ts ≡ Some used) turns may.2)
  where
    none_of : (others : List InnerTurn) → AreSomeOf others [] → others ≡ []
    none_of [] some = refl
    none_of (x ∷ others) some = absurd some
