use Rattle.std.proofs.Common.{◌≡◌, length, subst}
use Rattle.commit_log.specs.wire_bytes.Entries.{EntryStands}
use Rattle.commit_log.specs.wire_bytes.declared.entry_read.EntryAt.{EntryAt}
use Rattle.shard_files.specs.Entries.{end_of}
use Rattle.shard_files.proofs.LocationLemmas.{points_whole}
use Rattle.shard_files.proofs.entries.read_entry.Goals as goal

pub returns-in_ok-points-in-Points-clause-ok : goal.returns-in_ok-points-in-Points-clause-ok
returns-in_ok-points-in-Points-clause-ok c =
    let chunk = c.args.chunk.now in
    let found = subst (λ (e : EntryAt). EntryStands chunk 0 e × (end_of e ≡ length chunk)) c.in-Points.is c.in_ok-count.ensures.ok in
    let read = c.in_ok-points-in-Points.ensures in
    points_whole chunk c.in-Points.count c.in-Points.from c.in-Points.next read.0 c.in_ok-points-in-Points.points found.0 found.1 read.1 read.2
