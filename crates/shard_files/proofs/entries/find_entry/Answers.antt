use Rattle.std.proofs.Common.{◌<◌, ℕ, sym, subst, length}
use Rattle.commit_log.specs.wire_bytes.Fields.{IsFault, StopsAt}
use Rattle.commit_log.specs.wire_bytes.Entries.{AnEntry}
use Rattle.commit_log.specs.wire_bytes.declared.wire_err.WireErr.{WireErr}
use Rattle.shard_files.proofs.LocationLemmas.{breaks_behind, breaks_short, breaks_bad}
use Rattle.shard_files.proofs.entries.find_entry.Goals as goal

pub returns-then-at-chunk-clause-err : goal.returns-then-at-chunk-clause-err
returns-then-at-chunk-clause-err c =
    let offset = c.end_of-at.ensures in
    subst (λ (k : ℕ). StopsAt AnEntry c.args.chunk.now k) (sym offset) (breaks_behind c.args.chunk.now c.in-Ok.found c.in-Ok.ensures.ok (subst (λ (k : ℕ). k < length c.args.chunk.now) offset c.if-at-chunk.true))

pub returns-in-Err-Short-clause-err : goal.returns-in-Err-Short-clause-err
returns-in-Err-Short-clause-err c = breaks_short c.args.chunk.now (subst (λ (e : WireErr). IsFault AnEntry c.args.chunk.now 0 e) c.in-Err-Short.field-0-is c.in-Err-Short.ensures.err)

pub returns-in-Err-Bad-clause-err : goal.returns-in-Err-Bad-clause-err
returns-in-Err-Bad-clause-err c = breaks_bad c.args.chunk.now c.in-Err-Bad.at (subst (λ (e : WireErr). IsFault AnEntry c.args.chunk.now 0 e) c.in-Err-Bad.field-0-is c.in-Err-Bad.ensures.err)
