use Rattle.wire_bytes.proofs.PointLemmas.{exit_err}
use Rattle.meta_bytes.specs.Forms.{HasForm, MayFault}
use Rattle.meta_bytes.specs.States.{instance_form}
use Rattle.meta_bytes.proofs.PartLemmas.{node_name, node_group, node_flags, node_stands, flags_back}
use Rattle.meta_bytes.proofs.nodes.InstanceSpelled.read.Goals as goal

pub returns-in_err-name-clause-err : goal.returns-in_err-name-clause-err
returns-in_err-name-clause-err c =
    exit_err c.from_residual.result c.in_err-name.field-0.0 (MayFault (HasForm instance_form) c.args.bytes.now c.args.at) c.from_residual.ensures.1
    (node_name c.args.bytes.now c.args.at c.in_err-name.field-0.0 c.in_err-name.ensures.err)

pub returns-in_err-group-clause-err : goal.returns-in_err-group-clause-err
returns-in_err-group-clause-err c =
    exit_err c.from_residual-in_err-group.result c.in_err-group.field-0.0 (MayFault (HasForm instance_form) c.args.bytes.now c.args.at) c.from_residual-in_err-group.ensures.1
    (node_group c.args.bytes.now c.args.at c.in_ok-name.name c.in_ok-name.group_at c.in_ok-name.ensures.ok c.in_err-group.field-0.0 c.in_err-group.ensures.err)

pub returns-in_err-flags-clause-err : goal.returns-in_err-flags-clause-err
returns-in_err-flags-clause-err c =
    exit_err c.from_residual-in_err-flags.result c.in_err-flags.field-0.0 (MayFault (HasForm instance_form) c.args.bytes.now c.args.at) c.from_residual-in_err-flags.ensures.1
    (node_flags c.args.bytes.now c.args.at c.in_ok-name.name c.in_ok-name.group_at c.in_ok-name.ensures.ok c.in_ok-group.group c.in_ok-group.flags_at c.in_ok-group.ensures.ok c.in_err-flags.field-0.0 c.in_err-flags.ensures.err)

pub returns-clause-ok : goal.returns-clause-ok
returns-clause-ok c =
    node_stands c.in_ok-name.name c.in_ok-group.group c.in_ok-flags.flags _ _ c.args.bytes.now c.args.at c.in_ok-name.group_at c.in_ok-group.flags_at c.in_ok-flags.next c.in_ok-name.ensures.ok c.in_ok-group.ensures.ok c.in_ok-flags.ensures.ok
    (flags_back c.in_ok-flags.flags c.in_ok-flags.ensures.within.1)
