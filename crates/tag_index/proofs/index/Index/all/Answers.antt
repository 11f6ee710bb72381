use Rattle.std.proofs.Common.{◌∙◌, ◌<◌, ◌↔◌, sym, subst, List, ℕ}
use Rattle.std.specs.Prelude.{IsSome}
use Rattle.std.specs.FinMap as finite
use Rattle.m3_model.specs.Ascends.{Ascends}
use Rattle.m3_model.specs.Members.{IsIn}
use Rattle.tag_index.proofs.IndexLemmas.{all_ascend, all_present, entry_small}
use Rattle.tag_index.proofs.index.Index.all.Goals as goal

pub ordinals_of-requires : goal.ordinals_of-requires
ordinals_of-requires c = entry_small _ c.self.inside.slots _ c.args.self.now c.self.view_is c.self.invariant

pub returns-clause-ascends : goal.returns-clause-ascends
returns-clause-ascends c = subst (Ascends ◌<◌) (sym (c.from_vec.ensures ∙ c.in_ok-ordinals.ensures)) (all_ascend _ c.self.inside.slots _ c.args.self.now c.self.view_is c.self.invariant)

pub returns-clause-exact : goal.returns-clause-exact
returns-clause-exact c o =
    subst (λ (os : List ℕ). IsIn os o ↔ IsSome (finite.get c.args.self.now o)) (sym (c.from_vec.ensures ∙ c.in_ok-ordinals.ensures))
    (all_present _ c.self.inside.slots _ c.args.self.now c.self.view_is c.self.invariant o)
