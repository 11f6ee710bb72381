use Rattle.std.proofs.Common.{sym, subst, ap, ◌∙◌, List}
use Rattle.shard_files.specs.m3_outside.declared.file_name.FileName.{FileName}
use Rattle.shard_files.specs.m3_outside.DiskState.{Elapses, Becomes}
use Rattle.shard_files.specs.m3_outside.Removal.{without_files, MayTakeAway, HasTakenAway, AreRemovable}
use Rattle.shard_files.proofs.m3_outside_proofs.Moments.{becomes_stays}
use Rattle.shard_files.proofs.m3_outside_proofs.Removal.{left_elapses, left_all, then_elapses, then_becomes, then_taken}
use Rattle.shard_files.specs.Steps.{parts_there, those_there}
use Rattle.shard_files.proofs.commit_log_proofs.Leaves.{leaves_then}
use Rattle.fileset_write.proofs.FindLemmas.{parts_removable}
use Rattle.fileset_write.proofs.removal.remove.Goals as goal

pub returns-in_err-count-clause-any_moment : goal.returns-in_err-count-clause-any_moment
returns-in_err-count-clause-any_moment g c = λ t.
    left_elapses _ (parts_there c.args.ns c.args.start c.args.number (g.D.Disk.state c.args.disk.now).files) (g.D.Disk.state c.args.disk.now) (g.D.Disk.state c.find_there.new.disk) c.find_there.ensures.leaves t

pub returns-in_err-count-clause-files : goal.returns-in_err-count-clause-files
returns-in_err-count-clause-files g c = λ t.
    left_all _ (parts_there c.args.ns c.args.start c.args.number (g.D.Disk.state c.args.disk.now).files) (g.D.Disk.state c.args.disk.now) (g.D.Disk.state c.find_there.new.disk) c.find_there.ensures.leaves t

pub returns-in_err-count-clause-memory : goal.returns-in_err-count-clause-memory
returns-in_err-count-clause-memory g c = λ t m.
    becomes_stays _ (g.D.Disk.state c.args.disk.now) (g.D.Disk.state c.find_there.new.disk) c.find_there.ensures.leaves t

pub returns-in_err-reserve-clause-any_moment : goal.returns-in_err-reserve-clause-any_moment
returns-in_err-reserve-clause-any_moment g c = λ t.
    left_elapses _ (parts_there c.args.ns c.args.start c.args.number (g.D.Disk.state c.args.disk.now).files) (g.D.Disk.state c.args.disk.now) (g.D.Disk.state c.reserve.new.self) (leaves_then _ _ (g.D.Disk.state c.args.disk.now) (g.D.Disk.state c.find_there.new.disk) (g.D.Disk.state c.reserve.new.self) c.find_there.ensures.leaves c.reserve.ensures.leaves) t

pub returns-in_err-reserve-clause-files : goal.returns-in_err-reserve-clause-files
returns-in_err-reserve-clause-files g c = λ t.
    left_all _ (parts_there c.args.ns c.args.start c.args.number (g.D.Disk.state c.args.disk.now).files) (g.D.Disk.state c.args.disk.now) (g.D.Disk.state c.reserve.new.self) (leaves_then _ _ (g.D.Disk.state c.args.disk.now) (g.D.Disk.state c.find_there.new.disk) (g.D.Disk.state c.reserve.new.self) c.find_there.ensures.leaves c.reserve.ensures.leaves) t

pub returns-in_err-reserve-clause-memory : goal.returns-in_err-reserve-clause-memory
returns-in_err-reserve-clause-memory g c = λ t m.
    becomes_stays _ (g.D.Disk.state c.args.disk.now) (g.D.Disk.state c.reserve.new.self) (leaves_then _ _ (g.D.Disk.state c.args.disk.now) (g.D.Disk.state c.find_there.new.disk) (g.D.Disk.state c.reserve.new.self) c.find_there.ensures.leaves c.reserve.ensures.leaves) t

pub take_away-requires-clause-present : goal.take_away-requires-clause-present
take_away-requires-clause-present g c = λ h.
    let t = sym c.find_there.ensures.leaves.proceeds.tells ∙ (sym c.reserve.ensures.leaves.proceeds.tells ∙ h) in
    let same = (leaves_then _ _ (g.D.Disk.state c.args.disk.now) (g.D.Disk.state c.find_there.new.disk) (g.D.Disk.state c.reserve.new.self) c.find_there.ensures.leaves c.reserve.ensures.leaves).files t in
    subst (λ (l : List FileName). AreRemovable l (g.D.Disk.state c.reserve.new.self).files) (sym (c.in_ok-count.ensures.ok t ∙ ap (λ (l : List FileName). those_there l (g.D.Disk.state c.args.disk.now).files) c.files_in_order-names.ensures)) (subst (AreRemovable (parts_there c.args.ns c.args.start c.args.number (g.D.Disk.state c.args.disk.now).files)) (sym same) (parts_removable c.args.ns c.args.start c.args.number (g.D.Disk.state c.args.disk.now).files))

pub returns-in_err-take_away-clause-any_moment : goal.returns-in_err-take_away-clause-any_moment
returns-in_err-take_away-clause-any_moment g c = λ t.
    let told = c.reserve.ensures.leaves.proceeds.tells ∙ (c.find_there.ensures.leaves.proceeds.tells ∙ t) in
    then_elapses _ (parts_there c.args.ns c.args.start c.args.number (g.D.Disk.state c.args.disk.now).files) (g.D.Disk.state c.args.disk.now) (g.D.Disk.state c.reserve.new.self) (leaves_then _ _ (g.D.Disk.state c.args.disk.now) (g.D.Disk.state c.find_there.new.disk) (g.D.Disk.state c.reserve.new.self) c.find_there.ensures.leaves c.reserve.ensures.leaves) (g.D.Disk.state c.take_away.new.disk) t (subst (λ (l : List FileName). Elapses (MayTakeAway l) (g.D.Disk.state c.reserve.new.self) (g.D.Disk.state c.take_away.new.disk)) (c.in_ok-count.ensures.ok t ∙ ap (λ (l : List FileName). those_there l (g.D.Disk.state c.args.disk.now).files) c.files_in_order-names.ensures) (c.take_away.ensures.proceeds.told told))

pub returns-in_err-take_away-clause-files : goal.returns-in_err-take_away-clause-files
returns-in_err-take_away-clause-files g c = λ t.
    let told = c.reserve.ensures.leaves.proceeds.tells ∙ (c.find_there.ensures.leaves.proceeds.tells ∙ t) in
    then_taken _ (parts_there c.args.ns c.args.start c.args.number (g.D.Disk.state c.args.disk.now).files) (g.D.Disk.state c.args.disk.now) (g.D.Disk.state c.reserve.new.self) (leaves_then _ _ (g.D.Disk.state c.args.disk.now) (g.D.Disk.state c.find_there.new.disk) (g.D.Disk.state c.reserve.new.self) c.find_there.ensures.leaves c.reserve.ensures.leaves) (g.D.Disk.state c.take_away.new.disk) t (subst (λ (l : List FileName). HasTakenAway l (g.D.Disk.state c.reserve.new.self) (g.D.Disk.state c.take_away.new.disk)) (c.in_ok-count.ensures.ok t ∙ ap (λ (l : List FileName). those_there l (g.D.Disk.state c.args.disk.now).files) c.files_in_order-names.ensures) (c.take_away.ensures.files told))

pub returns-clause-any_moment : goal.returns-clause-any_moment
returns-clause-any_moment g c = λ t.
    let told = c.reserve.ensures.leaves.proceeds.tells ∙ (c.find_there.ensures.leaves.proceeds.tells ∙ t) in
    then_elapses _ (parts_there c.args.ns c.args.start c.args.number (g.D.Disk.state c.args.disk.now).files) (g.D.Disk.state c.args.disk.now) (g.D.Disk.state c.reserve.new.self) (leaves_then _ _ (g.D.Disk.state c.args.disk.now) (g.D.Disk.state c.find_there.new.disk) (g.D.Disk.state c.reserve.new.self) c.find_there.ensures.leaves c.reserve.ensures.leaves) (g.D.Disk.state c.take_away.new.disk) t (subst (λ (l : List FileName). Elapses (MayTakeAway l) (g.D.Disk.state c.reserve.new.self) (g.D.Disk.state c.take_away.new.disk)) (c.in_ok-count.ensures.ok t ∙ ap (λ (l : List FileName). those_there l (g.D.Disk.state c.args.disk.now).files) c.files_in_order-names.ensures) (c.take_away.ensures.proceeds.told told))

pub returns-clause-files : goal.returns-clause-files
returns-clause-files g c = λ t.
    let told = c.reserve.ensures.leaves.proceeds.tells ∙ (c.find_there.ensures.leaves.proceeds.tells ∙ t) in
    then_taken _ (parts_there c.args.ns c.args.start c.args.number (g.D.Disk.state c.args.disk.now).files) (g.D.Disk.state c.args.disk.now) (g.D.Disk.state c.reserve.new.self) (leaves_then _ _ (g.D.Disk.state c.args.disk.now) (g.D.Disk.state c.find_there.new.disk) (g.D.Disk.state c.reserve.new.self) c.find_there.ensures.leaves c.reserve.ensures.leaves) (g.D.Disk.state c.take_away.new.disk) t (subst (λ (l : List FileName). HasTakenAway l (g.D.Disk.state c.reserve.new.self) (g.D.Disk.state c.take_away.new.disk)) (c.in_ok-count.ensures.ok t ∙ ap (λ (l : List FileName). those_there l (g.D.Disk.state c.args.disk.now).files) c.files_in_order-names.ensures) (c.take_away.ensures.files told))

pub returns-clause-ok : goal.returns-clause-ok
returns-clause-ok g c = λ t.
    let told = c.reserve.ensures.leaves.proceeds.tells ∙ (c.find_there.ensures.leaves.proceeds.tells ∙ t) in
    then_becomes _ (parts_there c.args.ns c.args.start c.args.number (g.D.Disk.state c.args.disk.now).files) (g.D.Disk.state c.args.disk.now) (g.D.Disk.state c.reserve.new.self) (leaves_then _ _ (g.D.Disk.state c.args.disk.now) (g.D.Disk.state c.find_there.new.disk) (g.D.Disk.state c.reserve.new.self) c.find_there.ensures.leaves c.reserve.ensures.leaves) (g.D.Disk.state c.take_away.new.disk) t (parts_there c.args.ns c.args.start c.args.number (g.D.Disk.state c.args.disk.now).files) (subst (λ (l : List FileName). Becomes (without_files l) (g.D.Disk.state c.reserve.new.self) (g.D.Disk.state c.take_away.new.disk)) (c.in_ok-count.ensures.ok t ∙ ap (λ (l : List FileName). those_there l (g.D.Disk.state c.args.disk.now).files) c.files_in_order-names.ensures) (c.in_ok-take_away.ensures.ok told))
