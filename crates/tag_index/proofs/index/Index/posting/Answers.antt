use Rattle.std.proofs.Common.{◌<◌, ◌↔◌, sym, subst, List, ℕ}
use Rattle.m3_model.specs.Ascends.{Ascends}
use Rattle.m3_model.specs.Members.{IsIn}
use Rattle.tag_index.specs.Listed.{HasTagAt}
use Rattle.tag_index.proofs.IndexLemmas.{posted}
use Rattle.tag_index.proofs.index.Index.posting.Goals as goal

pub returns-clause-ascends : goal.returns-clause-ascends
returns-clause-ascends c = subst (Ascends ◌<◌) (sym c.from_vec.ensures) c.in_ok-ordinals.ensures.ascends

pub returns-clause-exact : goal.returns-clause-exact
returns-clause-exact c o =
    let listed = c.in_ok-ordinals.ensures.exact o in
    let said = posted _ c.self.inside.slots _ c.args.self.now c.self.view_is c.self.invariant c.args.name.now c.args.value.now o in
    subst (λ (os : List ℕ). IsIn os o ↔ HasTagAt c.args.self.now c.args.name.now c.args.value.now o) (sym c.from_vec.ensures) ((λ h. said.0 (listed.0 h)), (λ h. listed.1 (said.1 h)))
