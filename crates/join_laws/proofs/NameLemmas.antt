-- Names of nodes in the worked placements.
use Rattle.std.proofs.Common.{◌≡◌, ◌∙◌, ℕ, List, Some, sym, subst}
use Rattle.std.specs.Prelude.{slice_get}
use Rattle.std.proofs.lemmas.Option.{same_Some}
use Rattle.m3_model.specs.Tags.{IsBelow}
use Rattle.m3_model.specs.declared.placement.Instance.{Instance}
use Rattle.m3_model.specs.declared.placement.Placement.{Placement}
use Rattle.placement_core.specs.NodeNames.{IsNamedBelow}

-- the names of two nodes that are known
pub names_below : (place : Placement) (a b : ℕ) (one other : Instance) → slice_get place.instances a ≡ Some one → slice_get place.instances b ≡ Some other → IsNamedBelow place a b → IsBelow one.name other.name
names_below place a b one other of_one of_other below =
    let first : below.one ≡ one = same_Some below.one one (sym below.of_one ∙ of_one) in
    let second : below.other ≡ other = same_Some below.other other (sym below.of_other ∙ of_other) in
    subst (λ x. IsBelow x.name other.name) first (subst (λ x. IsBelow below.one.name x.name) second below.below)
