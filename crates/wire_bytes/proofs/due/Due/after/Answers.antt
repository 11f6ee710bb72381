use Rattle.std.proofs.Common.{ℕ, List, ◌∷◌, MatchOption, ◌↔◌, subst, sym}
use Rattle.wire_bytes.specs.declared.due.Due.{Due}
use Rattle.wire_bytes.specs.Texts.{MayFollow}
use Rattle.wire_bytes.proofs.due.Due.after.Goals as goal

pub returns-in_default-clause-steps : goal.returns-in_default-clause-steps
returns-in_default-clause-steps c =
    subst (λ (d : Due). MatchOption c.after_first.result ((l : List ℕ) → ¬ MayFollow d (c.args.byte ∷ l)) (λ next. (l : List ℕ) → MayFollow next l ↔ MayFollow d (c.args.byte ∷ l)))
    (sym c.in_default.is) c.after_first.ensures.steps
