use Rattle.std.proofs.Common.{◌≡◌, ◌+◌, ◌≤◌, ℕ, length, Vec, Global, ap, ◌∙◌, arith}
use Rattle.m3_outside.specs.declared.file_name.FileName.{FileName}
use Rattle.placement_log.specs.MetaHolds.{MetaEnd}
use Rattle.placement_log.proofs.CallLemmas.{is_ready}
use Rattle.placement_log.proofs.DiskLemmas.{keeps_none, keeps_left, meta_stays}
use Rattle.placement_log.proofs.meta_log.MetaLog.ready.Goals as goal

pub returns-in_err-payload-clause-any_moment : goal.returns-in_err-payload-clause-any_moment
returns-in_err-payload-clause-any_moment g c = λ t. keeps_none (g.D.Disk.state c.args.disk.now)

pub returns-in_err-older-clause-any_moment : goal.returns-in_err-older-clause-any_moment
returns-in_err-older-clause-any_moment g c =
    keeps_left _ (g.D.Disk.state c.args.disk.now) (g.D.Disk.state c.make_room.new.disk) (g.D.Disk.state c.older_segments.new.disk) c.make_room.ensures.tells c.make_room.ensures.any_moment c.older_segments.ensures.leaves

pub returns-in_err-reserve-clause-any_moment : goal.returns-in_err-reserve-clause-any_moment
returns-in_err-reserve-clause-any_moment g c =
    keeps_left _ (g.D.Disk.state c.args.disk.now) (g.D.Disk.state c.older_segments.new.disk) (g.D.Disk.state c.reserve.new.self) (c.older_segments.ensures.leaves.proceeds.tells ∙ c.make_room.ensures.tells)
    (keeps_left _ (g.D.Disk.state c.args.disk.now) (g.D.Disk.state c.make_room.new.disk) (g.D.Disk.state c.older_segments.new.disk) c.make_room.ensures.tells c.make_room.ensures.any_moment c.older_segments.ensures.leaves) c.reserve.ensures.leaves

pub returns-in_err-reserve-clause-stands : goal.returns-in_err-reserve-clause-stands
returns-in_err-reserve-clause-stands g c =
    meta_stays c.make_room.new.self _ (g.D.Disk.state c.older_segments.new.disk) (g.D.Disk.state c.reserve.new.self) c.reserve.ensures.leaves
    (meta_stays c.make_room.new.self _ (g.D.Disk.state c.make_room.new.disk) (g.D.Disk.state c.older_segments.new.disk) c.older_segments.ensures.leaves c.make_room.ensures.stands)

pub returns-clause-ok : goal.returns-clause-ok
returns-clause-ok g c =
    let payload : c.replace.new.dest.items ≡ c.in_ok-payload.payload.items = ap (λ (v : Vec ℕ Global). v.items) c.replace.ensures.after in
    let older : c.replace-2.new.dest.items ≡ c.in_ok-older.older.items = ap (λ (v : Vec FileName Global). v.items) c.replace-2.ensures.after in
    let room : 5 + length c.replace-2.new.dest.items ≤ (g.D.Disk.state c.reserve.new.self).spare = omega (arith, c.in_ok-reserve.ensures.enough, c.len-2.ensures, ap length older) in
    let long : c.len.result ≡ length c.replace.new.dest.items = omega (arith, c.len.ensures, ap length payload) in
    is_ready c.make_room.new.self _ c.args.state.now c.len.result (g.D.Disk.state c.make_room.new.disk) (g.D.Disk.state c.older_segments.new.disk) (g.D.Disk.state c.reserve.new.self) _ _ c.requires.state c.make_room.ensures.stands c.in_ok-make_room.ensures.ok
    (ap (λ (v : MetaEnd). v.next) c.self-2.view_is) (ap (λ (v : MetaEnd). v.log) c.self-2.view_is) (payload ∙ c.in_ok-payload.ensures.ok) long
    c.older_segments.ensures.leaves (λ t. older ∙ c.in_ok-older.ensures.ok t) c.reserve.ensures.leaves room

pub returns-clause-any_moment : goal.returns-clause-any_moment
returns-clause-any_moment g c =
    keeps_left _ (g.D.Disk.state c.args.disk.now) (g.D.Disk.state c.older_segments.new.disk) (g.D.Disk.state c.reserve.new.self) (c.older_segments.ensures.leaves.proceeds.tells ∙ c.make_room.ensures.tells)
    (keeps_left _ (g.D.Disk.state c.args.disk.now) (g.D.Disk.state c.make_room.new.disk) (g.D.Disk.state c.older_segments.new.disk) c.make_room.ensures.tells c.make_room.ensures.any_moment c.older_segments.ensures.leaves) c.reserve.ensures.leaves

pub returns-clause-stands : goal.returns-clause-stands
returns-clause-stands g c = (returns-clause-ok g c).stands
