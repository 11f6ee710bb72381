use Rattle.wire_bytes.proofs.PointLemmas.{exit_err}
use Rattle.meta_bytes.specs.Forms.{HasForm, MayFault}
use Rattle.meta_bytes.specs.States.{space_form}
use Rattle.meta_bytes.proofs.PartLemmas.{space_name, space_block, space_past, space_future, space_retention, space_stands}
use Rattle.meta_bytes.proofs.spaces.SpaceSpelled.read.Goals as goal

pub returns-in_err-name-clause-err : goal.returns-in_err-name-clause-err
returns-in_err-name-clause-err c =
    exit_err c.from_residual.result c.in_err-name.field-0.0 (MayFault (HasForm space_form) c.args.bytes.now c.args.at) c.from_residual.ensures.1
    (space_name c.args.bytes.now c.args.at c.in_err-name.field-0.0 c.in_err-name.ensures.err)

pub returns-in_err-block-clause-err : goal.returns-in_err-block-clause-err
returns-in_err-block-clause-err c =
    exit_err c.from_residual-in_err-block.result c.in_err-block.field-0.0 (MayFault (HasForm space_form) c.args.bytes.now c.args.at) c.from_residual-in_err-block.ensures.1
    (space_block c.args.bytes.now c.args.at c.in_ok-name.name c.in_ok-name.block_at c.in_ok-name.ensures.ok c.in_err-block.field-0.0 c.in_err-block.ensures.err)

pub returns-in_err-past-clause-err : goal.returns-in_err-past-clause-err
returns-in_err-past-clause-err c =
    exit_err c.from_residual-in_err-past.result c.in_err-past.field-0.0 (MayFault (HasForm space_form) c.args.bytes.now c.args.at) c.from_residual-in_err-past.ensures.1
    (space_past c.args.bytes.now c.args.at c.in_ok-name.name c.in_ok-name.block_at c.in_ok-name.ensures.ok c.in_ok-block.block c.in_ok-block.past_at c.in_ok-block.ensures.ok c.in_err-past.field-0.0 c.in_err-past.ensures.err)

pub returns-in_err-future-clause-err : goal.returns-in_err-future-clause-err
returns-in_err-future-clause-err c =
    exit_err c.from_residual-in_err-future.result c.in_err-future.field-0.0 (MayFault (HasForm space_form) c.args.bytes.now c.args.at) c.from_residual-in_err-future.ensures.1
    (space_future c.args.bytes.now c.args.at c.in_ok-name.name c.in_ok-name.block_at c.in_ok-name.ensures.ok c.in_ok-block.block c.in_ok-block.past_at c.in_ok-block.ensures.ok c.in_ok-past.past c.in_ok-past.future_at c.in_ok-past.ensures.ok c.in_err-future.field-0.0 c.in_err-future.ensures.err)

pub returns-in_err-retention-clause-err : goal.returns-in_err-retention-clause-err
returns-in_err-retention-clause-err c =
    exit_err c.from_residual-in_err-retention.result c.in_err-retention.field-0.0 (MayFault (HasForm space_form) c.args.bytes.now c.args.at) c.from_residual-in_err-retention.ensures.1
    (space_retention c.args.bytes.now c.args.at c.in_ok-name.name c.in_ok-name.block_at c.in_ok-name.ensures.ok c.in_ok-block.block c.in_ok-block.past_at c.in_ok-block.ensures.ok c.in_ok-past.past c.in_ok-past.future_at c.in_ok-past.ensures.ok
    c.in_ok-future.future c.in_ok-future.retention_at c.in_ok-future.ensures.ok c.in_err-retention.field-0.0 c.in_err-retention.ensures.err)

pub returns-clause-ok : goal.returns-clause-ok
returns-clause-ok c =
    space_stands c.in_ok-name.name c.in_ok-block.block c.in_ok-past.past c.in_ok-future.future c.in_ok-retention.retention c.args.bytes.now c.args.at c.in_ok-name.block_at c.in_ok-block.past_at c.in_ok-past.future_at c.in_ok-future.retention_at c.in_ok-retention.next
    c.in_ok-name.ensures.ok c.in_ok-block.ensures.ok c.in_ok-past.ensures.ok c.in_ok-future.ensures.ok c.in_ok-retention.ensures.ok
