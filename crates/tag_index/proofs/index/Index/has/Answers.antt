use Rattle.tag_index.proofs.IndexLemmas.{present_where, distinct}
use Rattle.tag_index.proofs.index.Index.has.Goals as goal

pub returns-clause-exact : goal.returns-clause-exact
returns-clause-exact c = present_where _ c.self.inside.slots _ c.args.self.now c.self.view_is c.self.invariant c.args.id.now _ c.contains_key.ensures

pub returns-clause-distinct : goal.returns-clause-distinct
returns-clause-distinct c = distinct _ c.self.inside.slots _ c.args.self.now c.self.view_is c.self.invariant
