use Rattle.std.proofs.Common.{◌≡◌, sym, ◌∙◌}
use Rattle.std.specs.Prelude.{None, Some}
use Rattle.node_joins.proofs.OpenLemmas.{joining_source, own_node}
use Rattle.node_joins.proofs.opens.open_one.Goals as goal

pub unreachable-requires : goal.unreachable-requires
unreachable-requires g c =
    let source = joining_source c.args.place.now c.args.shard c.args.own.now c.requires.lawful c.requires.below c.requires.among c.in-Initializing.is in
    let clash : None ≡ Some source.0 = sym c.in-None.is ∙ source.1 in
    cc

pub open_alone-requires-clause-there : goal.open_alone-requires-clause-there
open_alone-requires-clause-there g c = c.requires.there (c.args.own.now).node (own_node c.args.place.now c.args.shard c.args.own.now c.requires.among)
