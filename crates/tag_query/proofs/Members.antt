-- Elements of a list from a position on.
use Rattle.std.proofs.Common.{◌≡◌, ℕ, ◌<◌, ◌+◌, List, length, drop, get_or, subst}
use Rattle.std.specs.Prelude.{◌⊎◌}
use Rattle.std.proofs.lemmas.List.{drop_more}
pub use Rattle.std.proofs.lemmas.List.{drop_more as drop_at}
use Rattle.m3_model.specs.Members.{IsIn}
pub use Rattle.m3_model.proofs.Lists.{IsIn-get_or}

-- what is in a list from a position on is there, or later
pub at_or_later : {X : Type 0} (xs : List X) (i : ℕ) (d x : X) → i < length xs → IsIn (drop i xs) x → (get_or xs i d ≡ x) ⊎ IsIn (drop (i + 1) xs) x
at_or_later xs i d x h m = subst (λ ys. IsIn ys x) (drop_more xs i d h) m
