use Rattle.std.proofs.Common.{◌-◌, subst, take, drop, arith}
use Rattle.commit_log.specs.wire_bytes.Fields.{StopsAt}
use Rattle.commit_log.specs.wire_bytes.Entries.{AnEntry}
use Rattle.shard_files.specs.Entries.{MayBreak}
use Rattle.shard_files.proofs.segment_entries.read_between.Goals as goal

pub returns-in-Err-Form-clause-err : goal.returns-in-Err-Form-clause-err
returns-in-Err-Form-clause-err c =
    let bytes = take (c.args.next - c.args.from) (drop c.args.from c.args.bytes.now) in
    let offset = c.in-Err-Form.at in
    (omega arith, subst (StopsAt AnEntry bytes) (omega arith) (subst (MayBreak bytes) c.in-Err-Form.field-0-is c.in-Err-Form.ensures.err))
