use Rattle.wire_bytes.proofs.PointLemmas.{exit_err}
use Rattle.meta_bytes.specs.Forms.{HasForm, MayFault}
use Rattle.meta_bytes.specs.States.{state_form}
use Rattle.meta_bytes.proofs.FairForms.{fair_instance, fair_shard, fair_space}
use Rattle.meta_bytes.proofs.ReadLemmas.{format_is, state_format, state_moment, state_seed, state_rf, state_version, state_nodes, state_shards, state_spaces, state_stands}
use Rattle.meta_bytes.proofs.state_read.read_fields.Goals as goal

pub read_all-requires-clause-fair : goal.read_all-requires-clause-fair
read_all-requires-clause-fair c = fair_instance

pub read_all-requires-2-clause-fair : goal.read_all-requires-2-clause-fair
read_all-requires-2-clause-fair c = fair_shard

pub read_all-requires-3-clause-fair : goal.read_all-requires-3-clause-fair
read_all-requires-3-clause-fair c = fair_space

pub returns-in_err-_format-clause-err : goal.returns-in_err-_format-clause-err
returns-in_err-_format-clause-err c =
    exit_err c.from_residual.result c.in_err-_format.field-0.0 (MayFault (HasForm state_form) c.args.bytes.now 0) c.from_residual.ensures.1
    (state_format c.args.bytes.now c.in_err-_format.field-0.0 c.in_err-_format.ensures.err)

pub returns-in_err-now-clause-err : goal.returns-in_err-now-clause-err
returns-in_err-now-clause-err c =
    exit_err c.from_residual-in_err-now.result c.in_err-now.field-0.0 (MayFault (HasForm state_form) c.args.bytes.now 0) c.from_residual-in_err-now.ensures.1
    (state_moment c.args.bytes.now c.in_ok-_format.now_at (format_is c.in_ok-_format._format c.args.bytes.now c.in_ok-_format.now_at c.in_ok-_format.ensures.within c.in_ok-_format.ensures.ok) c.in_err-now.field-0.0 c.in_err-now.ensures.err)

pub returns-in_err-seed-clause-err : goal.returns-in_err-seed-clause-err
returns-in_err-seed-clause-err c =
    exit_err c.from_residual-in_err-seed.result c.in_err-seed.field-0.0 (MayFault (HasForm state_form) c.args.bytes.now 0) c.from_residual-in_err-seed.ensures.1
    (state_seed c.args.bytes.now c.in_ok-_format.now_at (format_is c.in_ok-_format._format c.args.bytes.now c.in_ok-_format.now_at c.in_ok-_format.ensures.within c.in_ok-_format.ensures.ok) c.in_ok-now.now c.in_ok-now.seed_at c.in_ok-now.ensures.ok c.in_err-seed.field-0.0 c.in_err-seed.ensures.err)

pub returns-in_err-rf-clause-err : goal.returns-in_err-rf-clause-err
returns-in_err-rf-clause-err c =
    exit_err c.from_residual-in_err-rf.result c.in_err-rf.field-0.0 (MayFault (HasForm state_form) c.args.bytes.now 0) c.from_residual-in_err-rf.ensures.1
    (state_rf c.args.bytes.now c.in_ok-_format.now_at (format_is c.in_ok-_format._format c.args.bytes.now c.in_ok-_format.now_at c.in_ok-_format.ensures.within c.in_ok-_format.ensures.ok) c.in_ok-now.now c.in_ok-now.seed_at c.in_ok-now.ensures.ok c.in_ok-seed.seed c.in_ok-seed.rf_at c.in_ok-seed.ensures.ok c.in_err-rf.field-0.0 c.in_err-rf.ensures.err)

pub returns-in_err-version-clause-err : goal.returns-in_err-version-clause-err
returns-in_err-version-clause-err c =
    exit_err c.from_residual-in_err-version.result c.in_err-version.field-0.0 (MayFault (HasForm state_form) c.args.bytes.now 0) c.from_residual-in_err-version.ensures.1
    (state_version c.args.bytes.now c.in_ok-_format.now_at (format_is c.in_ok-_format._format c.args.bytes.now c.in_ok-_format.now_at c.in_ok-_format.ensures.within c.in_ok-_format.ensures.ok) c.in_ok-now.now c.in_ok-now.seed_at c.in_ok-now.ensures.ok c.in_ok-seed.seed c.in_ok-seed.rf_at c.in_ok-seed.ensures.ok c.in_ok-rf.rf c.in_ok-rf.version_at c.in_ok-rf.ensures.ok c.in_err-version.field-0.0 c.in_err-version.ensures.err)

pub returns-in_err-instances-clause-err : goal.returns-in_err-instances-clause-err
returns-in_err-instances-clause-err c =
    exit_err c.from_residual-in_err-instances.result c.in_err-instances.field-0.0 (MayFault (HasForm state_form) c.args.bytes.now 0) c.from_residual-in_err-instances.ensures.1
    (state_nodes c.args.bytes.now c.in_ok-_format.now_at (format_is c.in_ok-_format._format c.args.bytes.now c.in_ok-_format.now_at c.in_ok-_format.ensures.within c.in_ok-_format.ensures.ok) c.in_ok-now.now c.in_ok-now.seed_at c.in_ok-now.ensures.ok c.in_ok-seed.seed c.in_ok-seed.rf_at c.in_ok-seed.ensures.ok c.in_ok-rf.rf c.in_ok-rf.version_at c.in_ok-rf.ensures.ok c.in_ok-version.version c.in_ok-version.instances_at c.in_ok-version.ensures.ok c.in_err-instances.field-0.0 c.in_err-instances.ensures.err)

pub returns-in_err-shards-clause-err : goal.returns-in_err-shards-clause-err
returns-in_err-shards-clause-err c =
    exit_err c.from_residual-in_err-shards.result c.in_err-shards.field-0.0 (MayFault (HasForm state_form) c.args.bytes.now 0) c.from_residual-in_err-shards.ensures.1
    (state_shards c.args.bytes.now c.in_ok-_format.now_at (format_is c.in_ok-_format._format c.args.bytes.now c.in_ok-_format.now_at c.in_ok-_format.ensures.within c.in_ok-_format.ensures.ok) c.in_ok-now.now c.in_ok-now.seed_at c.in_ok-now.ensures.ok c.in_ok-seed.seed c.in_ok-seed.rf_at c.in_ok-seed.ensures.ok c.in_ok-rf.rf c.in_ok-rf.version_at c.in_ok-rf.ensures.ok c.in_ok-version.version c.in_ok-version.instances_at c.in_ok-version.ensures.ok c.in_ok-instances.instances c.in_ok-instances.shards_at c.in_ok-instances.ensures.ok c.in_err-shards.field-0.0 c.in_err-shards.ensures.err)

pub returns-in_err-spaces-clause-err : goal.returns-in_err-spaces-clause-err
returns-in_err-spaces-clause-err c =
    exit_err c.from_residual-in_err-spaces.result c.in_err-spaces.field-0.0 (MayFault (HasForm state_form) c.args.bytes.now 0) c.from_residual-in_err-spaces.ensures.1
    (state_spaces c.args.bytes.now c.in_ok-_format.now_at (format_is c.in_ok-_format._format c.args.bytes.now c.in_ok-_format.now_at c.in_ok-_format.ensures.within c.in_ok-_format.ensures.ok) c.in_ok-now.now c.in_ok-now.seed_at c.in_ok-now.ensures.ok c.in_ok-seed.seed c.in_ok-seed.rf_at c.in_ok-seed.ensures.ok c.in_ok-rf.rf c.in_ok-rf.version_at c.in_ok-rf.ensures.ok c.in_ok-version.version c.in_ok-version.instances_at c.in_ok-version.ensures.ok c.in_ok-instances.instances c.in_ok-instances.shards_at c.in_ok-instances.ensures.ok c.in_ok-shards.shards c.in_ok-shards.spaces_at c.in_ok-shards.ensures.ok c.in_err-spaces.field-0.0 c.in_err-spaces.ensures.err)

pub returns-clause-ok : goal.returns-clause-ok
returns-clause-ok c = state_stands c.args.bytes.now c.in_ok-_format.now_at (format_is c.in_ok-_format._format c.args.bytes.now c.in_ok-_format.now_at c.in_ok-_format.ensures.within c.in_ok-_format.ensures.ok) c.in_ok-now.now c.in_ok-now.seed_at c.in_ok-now.ensures.ok c.in_ok-seed.seed c.in_ok-seed.rf_at c.in_ok-seed.ensures.ok c.in_ok-rf.rf c.in_ok-rf.version_at c.in_ok-rf.ensures.ok c.in_ok-version.version c.in_ok-version.instances_at c.in_ok-version.ensures.ok c.in_ok-instances.instances c.in_ok-instances.shards_at c.in_ok-instances.ensures.ok c.in_ok-shards.shards c.in_ok-shards.spaces_at c.in_ok-shards.ensures.ok c.in_ok-spaces.spaces c.in_ok-spaces.next c.in_ok-spaces.ensures.ok
