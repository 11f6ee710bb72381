use Rattle.std.proofs.Common.{sym, ◌∙◌}
use Rattle.fileset_write.proofs.GateLemmas.{moment1, files1, kept, inside, moment2, files2, present, moment3, files3, is_opened}
use Rattle.fileset_write.proofs.gate.open_gate.Goals as goal

pub returns-in_err-reserve-clause-any_moment : goal.returns-in_err-reserve-clause-any_moment
returns-in_err-reserve-clause-any_moment g c = λ t.
    moment1 c.args.name c.args.digest.now (g.D.Disk.state c.args.disk.now) (g.D.Disk.state c.reserve.new.self) _ c.requires.shut c.reserve.ensures.leaves t

pub returns-in_err-reserve-clause-memory : goal.returns-in_err-reserve-clause-memory
returns-in_err-reserve-clause-memory g c = λ t m.
    kept c.args.name c.args.digest.now (g.D.Disk.state c.args.disk.now) (g.D.Disk.state c.reserve.new.self) _ c.requires.shut c.reserve.ensures.leaves t

pub returns-in_err-reserve-clause-files : goal.returns-in_err-reserve-clause-files
returns-in_err-reserve-clause-files g c = λ t.
    files1 c.args.name c.args.digest.now (g.D.Disk.state c.args.disk.now) (g.D.Disk.state c.reserve.new.self) _ c.requires.shut c.reserve.ensures.leaves t

pub write_at-requires-clause-inside : goal.write_at-requires-clause-inside
write_at-requires-clause-inside g c = λ h.
    let t = sym c.reserve.ensures.leaves.proceeds.tells ∙ h in
    inside c.args.name c.args.digest.now (g.D.Disk.state c.args.disk.now) (g.D.Disk.state c.reserve.new.self) _ c.requires.shut c.reserve.ensures.leaves t

pub returns-in_err-write_at-clause-any_moment : goal.returns-in_err-write_at-clause-any_moment
returns-in_err-write_at-clause-any_moment g c = λ t.
    let t1 = c.reserve.ensures.leaves.proceeds.tells ∙ t in
    moment2 c.args.name c.args.digest.now (g.D.Disk.state c.args.disk.now) (g.D.Disk.state c.reserve.new.self) _ c.requires.shut c.reserve.ensures.leaves t (g.D.Disk.state c.write_at.new.self) (c.write_at.ensures.proceeds.told t1) (c.write_at.ensures.torn t1)

pub returns-in_err-write_at-clause-files : goal.returns-in_err-write_at-clause-files
returns-in_err-write_at-clause-files g c = λ t.
    let t1 = c.reserve.ensures.leaves.proceeds.tells ∙ t in
    files2 c.args.name c.args.digest.now (g.D.Disk.state c.args.disk.now) (g.D.Disk.state c.reserve.new.self) _ c.requires.shut c.reserve.ensures.leaves t (g.D.Disk.state c.write_at.new.self) (c.write_at.ensures.proceeds.told t1) (c.write_at.ensures.torn t1)

pub sync-requires-clause-present : goal.sync-requires-clause-present
sync-requires-clause-present g c = λ h.
    let t1 = sym c.write_at.ensures.proceeds.tells ∙ h in
    let t = sym c.reserve.ensures.leaves.proceeds.tells ∙ t1 in
    present c.args.name c.args.digest.now (g.D.Disk.state c.args.disk.now) (g.D.Disk.state c.reserve.new.self) _ c.requires.shut c.reserve.ensures.leaves t (g.D.Disk.state c.write_at.new.self) (c.write_at.ensures.proceeds.told t1) (c.write_at.ensures.torn t1)

pub returns-in_err-sync-clause-any_moment : goal.returns-in_err-sync-clause-any_moment
returns-in_err-sync-clause-any_moment g c = λ t.
    let t1 = c.reserve.ensures.leaves.proceeds.tells ∙ t in
    let t2 = c.write_at.ensures.proceeds.tells ∙ t1 in
    moment3 c.args.name c.args.digest.now (g.D.Disk.state c.args.disk.now) (g.D.Disk.state c.reserve.new.self) _ c.requires.shut c.reserve.ensures.leaves t (g.D.Disk.state c.write_at.new.self) (c.write_at.ensures.proceeds.told t1) (c.write_at.ensures.torn t1) (g.D.Disk.state c.sync.new.self) (c.sync.ensures.proceeds.told t2) (c.sync.ensures.files t2)

pub returns-in_err-sync-clause-files : goal.returns-in_err-sync-clause-files
returns-in_err-sync-clause-files g c = λ t.
    let t1 = c.reserve.ensures.leaves.proceeds.tells ∙ t in
    let t2 = c.write_at.ensures.proceeds.tells ∙ t1 in
    files3 c.args.name c.args.digest.now (g.D.Disk.state c.args.disk.now) (g.D.Disk.state c.reserve.new.self) _ c.requires.shut c.reserve.ensures.leaves t (g.D.Disk.state c.write_at.new.self) (c.write_at.ensures.proceeds.told t1) (c.write_at.ensures.torn t1) (g.D.Disk.state c.sync.new.self) (c.sync.ensures.proceeds.told t2) (c.sync.ensures.files t2)

pub returns-clause-any_moment : goal.returns-clause-any_moment
returns-clause-any_moment g c = λ t.
    let t1 = c.reserve.ensures.leaves.proceeds.tells ∙ t in
    let t2 = c.write_at.ensures.proceeds.tells ∙ t1 in
    moment3 c.args.name c.args.digest.now (g.D.Disk.state c.args.disk.now) (g.D.Disk.state c.reserve.new.self) _ c.requires.shut c.reserve.ensures.leaves t (g.D.Disk.state c.write_at.new.self) (c.write_at.ensures.proceeds.told t1) (c.write_at.ensures.torn t1) (g.D.Disk.state c.sync.new.self) (c.sync.ensures.proceeds.told t2) (c.sync.ensures.files t2)

pub returns-clause-files : goal.returns-clause-files
returns-clause-files g c = λ t.
    let t1 = c.reserve.ensures.leaves.proceeds.tells ∙ t in
    let t2 = c.write_at.ensures.proceeds.tells ∙ t1 in
    files3 c.args.name c.args.digest.now (g.D.Disk.state c.args.disk.now) (g.D.Disk.state c.reserve.new.self) _ c.requires.shut c.reserve.ensures.leaves t (g.D.Disk.state c.write_at.new.self) (c.write_at.ensures.proceeds.told t1) (c.write_at.ensures.torn t1) (g.D.Disk.state c.sync.new.self) (c.sync.ensures.proceeds.told t2) (c.sync.ensures.files t2)

pub returns-clause-ok : goal.returns-clause-ok
returns-clause-ok g c = λ t.
    let t1 = c.reserve.ensures.leaves.proceeds.tells ∙ t in
    let t2 = c.write_at.ensures.proceeds.tells ∙ t1 in
    is_opened c.args.name c.args.digest.now (g.D.Disk.state c.args.disk.now) (g.D.Disk.state c.reserve.new.self) _ c.requires.shut c.reserve.ensures.leaves t (g.D.Disk.state c.write_at.new.self) (c.write_at.ensures.proceeds.told t1) (c.write_at.ensures.torn t1) (g.D.Disk.state c.sync.new.self) (c.sync.ensures.proceeds.told t2) (c.sync.ensures.files t2) (c.in_ok-write_at.ensures.wrote t1) (c.in_ok-sync.ensures.synced t2)
