use Rattle.std.proofs.Common.{arith}
use Rattle.wire_bytes.proofs.PointLemmas.{exit_err}
use Rattle.meta_bytes.specs.Forms.{HasForm, MayFault}
use Rattle.meta_bytes.specs.States.{assignment_form, code_of, source_of}
use Rattle.meta_bytes.proofs.PartLemmas.{assigned_node, assigned_tenure, assigned_state, assigned_source, assignment_stands}
use Rattle.meta_bytes.proofs.shards.AssignmentSpelled.read.Goals as goal

pub returns-in_err-node-clause-err : goal.returns-in_err-node-clause-err
returns-in_err-node-clause-err c =
    exit_err c.from_residual.result c.in_err-node.field-0.0 (MayFault (HasForm assignment_form) c.args.bytes.now c.args.at) c.from_residual.ensures.1
    (assigned_node c.args.bytes.now c.args.at c.in_err-node.field-0.0 c.in_err-node.ensures.err)

pub returns-in_err-tenure-clause-err : goal.returns-in_err-tenure-clause-err
returns-in_err-tenure-clause-err c =
    exit_err c.from_residual-in_err-tenure.result c.in_err-tenure.field-0.0 (MayFault (HasForm assignment_form) c.args.bytes.now c.args.at) c.from_residual-in_err-tenure.ensures.1
    (assigned_tenure c.args.bytes.now c.args.at c.in_ok-node.node c.in_ok-node.tenure_at c.in_ok-node.ensures.ok c.in_err-tenure.field-0.0 c.in_err-tenure.ensures.err)

pub returns-in_err-state-clause-err : goal.returns-in_err-state-clause-err
returns-in_err-state-clause-err c =
    exit_err c.from_residual-in_err-state.result c.in_err-state.field-0.0 (MayFault (HasForm assignment_form) c.args.bytes.now c.args.at) c.from_residual-in_err-state.ensures.1
    (assigned_state c.args.bytes.now c.args.at c.in_ok-node.node c.in_ok-node.tenure_at c.in_ok-node.ensures.ok c.in_ok-tenure.tenure c.in_ok-tenure.state_at c.in_ok-tenure.ensures.ok c.in_err-state.field-0.0 c.in_err-state.ensures.err)

pub returns-in_err-source-clause-err : goal.returns-in_err-source-clause-err
returns-in_err-source-clause-err c =
    exit_err c.from_residual-in_err-source.result c.in_err-source.field-0.0 (MayFault (HasForm assignment_form) c.args.bytes.now c.args.at) c.from_residual-in_err-source.ensures.1
    (assigned_source c.args.bytes.now c.args.at c.in_ok-node.node c.in_ok-node.tenure_at c.in_ok-node.ensures.ok c.in_ok-tenure.tenure c.in_ok-tenure.state_at c.in_ok-tenure.ensures.ok
    (code_of c.in_ok-state.state) c.in_ok-state.source_at c.in_ok-state.ensures.ok c.in_err-source.field-0.0 c.in_err-source.ensures.err)

pub returns-clause-ok : goal.returns-clause-ok
returns-clause-ok c =
    assignment_stands c.in_ok-node.node c.in_ok-tenure.tenure (code_of c.in_ok-state.state) (source_of c.in_ok-source.source) c.args.bytes.now c.args.at c.in_ok-node.tenure_at c.in_ok-tenure.state_at c.in_ok-state.source_at c.in_ok-source.next
    c.in_ok-node.ensures.ok c.in_ok-tenure.ensures.ok c.in_ok-state.ensures.ok c.in_ok-source.ensures.ok

pub returns-clause-fits : goal.returns-clause-fits
returns-clause-fits c =
    let node = c.in_ok-node.ensures.within in
    let tenure = c.in_ok-tenure.ensures.within in
    record { node = omega (arith, node); tenure = omega (arith, tenure); source = c.in_ok-source.ensures.fits }
