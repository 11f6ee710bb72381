use Rattle.std.proofs.Common.{◌≡◌, sym, ◌∙◌, Result, Ok, rules}
use Rattle.std.specs.Prelude.{⊤, IsOk}
use Rattle.shard_files.specs.m3_outside.declared.disk_err.DiskErr.{DiskErr}
use Rattle.shard_files.specs.m3_outside.declared.disk_err.DiskErr.TheVariants.{Memory as WantOfMemory}
use Rattle.shard_files.proofs.commit_log_proofs.ReadLemmas.{passed_err}
use Rattle.fileset_write.proofs.PutLemmas.{moment1, files1, kept, moment2, kept2, files2, inside, moment3, files3, present, moment4, files4, is_put, made_files}
use Rattle.fileset_write.proofs.put_file.put_file.Goals as goal

ok_is : (r : Result ⊤ DiskErr) (u : ⊤) → r ≡ Ok u → IsOk r
ok_is r u was = search (rules, was)

pub returns-in_err-reserve-clause-any_moment : goal.returns-in_err-reserve-clause-any_moment
returns-in_err-reserve-clause-any_moment g c = λ t.
    moment1 c.args.name c.args.front c.args.bytes.now (g.D.Disk.state c.args.disk.now) (g.D.Disk.state c.reserve.new.self) _ c.reserve.ensures.leaves t

pub returns-in_err-reserve-clause-memory : goal.returns-in_err-reserve-clause-memory
returns-in_err-reserve-clause-memory g c = λ t m.
    kept c.args.name c.args.front c.args.bytes.now (g.D.Disk.state c.args.disk.now) (g.D.Disk.state c.reserve.new.self) _ c.reserve.ensures.leaves t

pub returns-in_err-reserve-clause-files : goal.returns-in_err-reserve-clause-files
returns-in_err-reserve-clause-files g c = λ t.
    files1 c.args.name c.args.front c.args.bytes.now (g.D.Disk.state c.args.disk.now) (g.D.Disk.state c.reserve.new.self) _ c.reserve.ensures.leaves t

pub returns-in_err-create-clause-any_moment : goal.returns-in_err-create-clause-any_moment
returns-in_err-create-clause-any_moment g c = λ t.
    let t1 = c.reserve.ensures.leaves.proceeds.tells ∙ t in
    moment2 c.args.name c.args.front c.args.bytes.now (g.D.Disk.state c.args.disk.now) (g.D.Disk.state c.reserve.new.self) _ c.reserve.ensures.leaves t (g.D.Disk.state c.create.new.self) (c.create.ensures.changes.proceeds.told t1)

pub returns-in_err-create-clause-memory : goal.returns-in_err-create-clause-memory
returns-in_err-create-clause-memory g c = λ t m.
    let t1 = c.reserve.ensures.leaves.proceeds.tells ∙ t in
    kept2 c.args.name c.args.front c.args.bytes.now (g.D.Disk.state c.args.disk.now) (g.D.Disk.state c.reserve.new.self) _ c.reserve.ensures.leaves t (g.D.Disk.state c.create.new.self) (c.create.ensures.changes.proceeds.told t1) (c.create.ensures.changes.undone t1 (passed_err c.from_residual-in_err-create.result c.create.result c.in_err-create.field-0.0 WantOfMemory c.in_err-create.was c.from_residual-in_err-create.ensures.1 m))

pub returns-in_err-create-clause-files : goal.returns-in_err-create-clause-files
returns-in_err-create-clause-files g c = λ t.
    let t1 = c.reserve.ensures.leaves.proceeds.tells ∙ t in
    files2 c.args.name c.args.front c.args.bytes.now (g.D.Disk.state c.args.disk.now) (g.D.Disk.state c.reserve.new.self) _ c.reserve.ensures.leaves t (g.D.Disk.state c.create.new.self) (c.create.ensures.changes.proceeds.told t1) (made_files c.args.name c.args.front c.args.bytes.now (g.D.Disk.state c.args.disk.now) (g.D.Disk.state c.reserve.new.self) _ c.reserve.ensures.leaves t (g.D.Disk.state c.create.new.self) (c.create.ensures.changes.proceeds.told t1) c.create.result c.in_err-create.field-0.0 c.in_err-create.was (c.create.ensures.changes.undone t1) (c.create.ensures.changes.done_or_not t1))

pub write_at-requires-clause-inside : goal.write_at-requires-clause-inside
write_at-requires-clause-inside g c = λ h.
    let t1 = sym c.create.ensures.changes.proceeds.tells ∙ h in
    let t = sym c.reserve.ensures.leaves.proceeds.tells ∙ t1 in
    inside c.args.name c.args.front c.args.bytes.now (g.D.Disk.state c.args.disk.now) (g.D.Disk.state c.reserve.new.self) _ c.reserve.ensures.leaves t (g.D.Disk.state c.create.new.self) (c.create.ensures.changes.proceeds.told t1) (c.create.ensures.changes.done t1 (ok_is _ _ c.in_ok-create.was))

pub returns-in_err-write_at-clause-any_moment : goal.returns-in_err-write_at-clause-any_moment
returns-in_err-write_at-clause-any_moment g c = λ t.
    let t1 = c.reserve.ensures.leaves.proceeds.tells ∙ t in
    let t2 = c.create.ensures.changes.proceeds.tells ∙ t1 in
    moment3 c.args.name c.args.front c.args.bytes.now (g.D.Disk.state c.args.disk.now) (g.D.Disk.state c.reserve.new.self) _ c.reserve.ensures.leaves t (g.D.Disk.state c.create.new.self) (c.create.ensures.changes.proceeds.told t1) (c.create.ensures.changes.done t1 (ok_is _ _ c.in_ok-create.was)) (g.D.Disk.state c.write_at.new.self) (c.write_at.ensures.proceeds.told t2) (c.write_at.ensures.torn t2)

pub returns-in_err-write_at-clause-files : goal.returns-in_err-write_at-clause-files
returns-in_err-write_at-clause-files g c = λ t.
    let t1 = c.reserve.ensures.leaves.proceeds.tells ∙ t in
    let t2 = c.create.ensures.changes.proceeds.tells ∙ t1 in
    files3 c.args.name c.args.front c.args.bytes.now (g.D.Disk.state c.args.disk.now) (g.D.Disk.state c.reserve.new.self) _ c.reserve.ensures.leaves t (g.D.Disk.state c.create.new.self) (c.create.ensures.changes.proceeds.told t1) (c.create.ensures.changes.done t1 (ok_is _ _ c.in_ok-create.was)) (g.D.Disk.state c.write_at.new.self) (c.write_at.ensures.proceeds.told t2) (c.write_at.ensures.torn t2)

pub sync-requires-clause-present : goal.sync-requires-clause-present
sync-requires-clause-present g c = λ h.
    let t2 = sym c.write_at.ensures.proceeds.tells ∙ h in
    let t1 = sym c.create.ensures.changes.proceeds.tells ∙ t2 in
    let t = sym c.reserve.ensures.leaves.proceeds.tells ∙ t1 in
    present c.args.name c.args.front c.args.bytes.now (g.D.Disk.state c.args.disk.now) (g.D.Disk.state c.reserve.new.self) _ c.reserve.ensures.leaves t (g.D.Disk.state c.create.new.self) (c.create.ensures.changes.proceeds.told t1) (c.create.ensures.changes.done t1 (ok_is _ _ c.in_ok-create.was)) (g.D.Disk.state c.write_at.new.self) (c.write_at.ensures.proceeds.told t2) (c.write_at.ensures.torn t2)

pub returns-in_err-sync-clause-any_moment : goal.returns-in_err-sync-clause-any_moment
returns-in_err-sync-clause-any_moment g c = λ t.
    let t1 = c.reserve.ensures.leaves.proceeds.tells ∙ t in
    let t2 = c.create.ensures.changes.proceeds.tells ∙ t1 in
    let t3 = c.write_at.ensures.proceeds.tells ∙ t2 in
    moment4 c.args.name c.args.front c.args.bytes.now (g.D.Disk.state c.args.disk.now) (g.D.Disk.state c.reserve.new.self) _ c.reserve.ensures.leaves t (g.D.Disk.state c.create.new.self) (c.create.ensures.changes.proceeds.told t1) (c.create.ensures.changes.done t1 (ok_is _ _ c.in_ok-create.was)) (g.D.Disk.state c.write_at.new.self) (c.write_at.ensures.proceeds.told t2) (c.write_at.ensures.torn t2) (g.D.Disk.state c.sync.new.self) (c.sync.ensures.proceeds.told t3) (c.sync.ensures.files t3)

pub returns-in_err-sync-clause-files : goal.returns-in_err-sync-clause-files
returns-in_err-sync-clause-files g c = λ t.
    let t1 = c.reserve.ensures.leaves.proceeds.tells ∙ t in
    let t2 = c.create.ensures.changes.proceeds.tells ∙ t1 in
    let t3 = c.write_at.ensures.proceeds.tells ∙ t2 in
    files4 c.args.name c.args.front c.args.bytes.now (g.D.Disk.state c.args.disk.now) (g.D.Disk.state c.reserve.new.self) _ c.reserve.ensures.leaves t (g.D.Disk.state c.create.new.self) (c.create.ensures.changes.proceeds.told t1) (c.create.ensures.changes.done t1 (ok_is _ _ c.in_ok-create.was)) (g.D.Disk.state c.write_at.new.self) (c.write_at.ensures.proceeds.told t2) (c.write_at.ensures.torn t2) (g.D.Disk.state c.sync.new.self) (c.sync.ensures.proceeds.told t3) (c.sync.ensures.files t3)

pub returns-clause-any_moment : goal.returns-clause-any_moment
returns-clause-any_moment g c = λ t.
    let t1 = c.reserve.ensures.leaves.proceeds.tells ∙ t in
    let t2 = c.create.ensures.changes.proceeds.tells ∙ t1 in
    let t3 = c.write_at.ensures.proceeds.tells ∙ t2 in
    moment4 c.args.name c.args.front c.args.bytes.now (g.D.Disk.state c.args.disk.now) (g.D.Disk.state c.reserve.new.self) _ c.reserve.ensures.leaves t (g.D.Disk.state c.create.new.self) (c.create.ensures.changes.proceeds.told t1) (c.create.ensures.changes.done t1 (ok_is _ _ c.in_ok-create.was)) (g.D.Disk.state c.write_at.new.self) (c.write_at.ensures.proceeds.told t2) (c.write_at.ensures.torn t2) (g.D.Disk.state c.sync.new.self) (c.sync.ensures.proceeds.told t3) (c.sync.ensures.files t3)

pub returns-clause-files : goal.returns-clause-files
returns-clause-files g c = λ t.
    let t1 = c.reserve.ensures.leaves.proceeds.tells ∙ t in
    let t2 = c.create.ensures.changes.proceeds.tells ∙ t1 in
    let t3 = c.write_at.ensures.proceeds.tells ∙ t2 in
    files4 c.args.name c.args.front c.args.bytes.now (g.D.Disk.state c.args.disk.now) (g.D.Disk.state c.reserve.new.self) _ c.reserve.ensures.leaves t (g.D.Disk.state c.create.new.self) (c.create.ensures.changes.proceeds.told t1) (c.create.ensures.changes.done t1 (ok_is _ _ c.in_ok-create.was)) (g.D.Disk.state c.write_at.new.self) (c.write_at.ensures.proceeds.told t2) (c.write_at.ensures.torn t2) (g.D.Disk.state c.sync.new.self) (c.sync.ensures.proceeds.told t3) (c.sync.ensures.files t3)

pub returns-clause-ok : goal.returns-clause-ok
returns-clause-ok g c = λ t.
    let t1 = c.reserve.ensures.leaves.proceeds.tells ∙ t in
    let t2 = c.create.ensures.changes.proceeds.tells ∙ t1 in
    let t3 = c.write_at.ensures.proceeds.tells ∙ t2 in
    is_put c.args.name c.args.front c.args.bytes.now (g.D.Disk.state c.args.disk.now) (g.D.Disk.state c.reserve.new.self) _ c.reserve.ensures.leaves t (g.D.Disk.state c.create.new.self) (c.create.ensures.changes.proceeds.told t1) (c.create.ensures.changes.done t1 (ok_is _ _ c.in_ok-create.was)) (g.D.Disk.state c.write_at.new.self) (c.write_at.ensures.proceeds.told t2) (c.write_at.ensures.torn t2) (g.D.Disk.state c.sync.new.self) (c.sync.ensures.proceeds.told t3) (c.sync.ensures.files t3) (c.in_ok-write_at.ensures.wrote t2) (c.in_ok-sync.ensures.synced t3)
