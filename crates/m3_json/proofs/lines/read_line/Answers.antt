use Rattle.std.proofs.Common.{inl}
use Rattle.std.proofs.lemmas.Bool.{iff_false}
use Rattle.m3_json.proofs.Meanings.{nothing_spelled}
use Rattle.m3_json.proofs.lines.read_line.Goals as goal

pub returns-in-Err-2-clause-err : goal.returns-in-Err-2-clause-err
returns-in-Err-2-clause-err c = inl (nothing_spelled c.args.line.now (c.in-Err.ensures.err (iff_false c.is_memory.ensures c.if-is_memory.false)))
