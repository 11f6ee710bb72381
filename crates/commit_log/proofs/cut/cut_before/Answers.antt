use Rattle.std.proofs.Common.{sym, subst, ◌∙◌, List}
use Rattle.log_chunks.specs.m3_outside.declared.file_name.FileName.{FileName}
use Rattle.log_chunks.specs.m3_outside.DiskState.{Elapses, Becomes}
use Rattle.log_chunks.specs.m3_outside.Removal.{without_files, MayTakeAway, HasTakenAway, AreRemovable}
use Rattle.log_chunks.proofs.m3_outside_proofs.Moments.{becomes_stays}
use Rattle.log_chunks.proofs.m3_outside_proofs.Removal.{left_elapses, left_all, then_elapses, then_becomes, then_taken}
use Rattle.commit_log.specs.Cutting.{segments_below}
use Rattle.commit_log.proofs.Begin.{stands_stays}
use Rattle.commit_log.proofs.CutLaws.{stands_cut}
use Rattle.commit_log.proofs.CutLemmas.{below_removable}
use Rattle.commit_log.proofs.cut.cut_before.Goals as goal

pub returns-in_err-names-clause-any_moment : goal.returns-in_err-names-clause-any_moment
returns-in_err-names-clause-any_moment g c = λ t.
    left_elapses _ (segments_below c.args.number (g.D.Disk.state c.args.disk.now).files) (g.D.Disk.state c.args.disk.now) (g.D.Disk.state c.find_below.new.disk) c.find_below.ensures.leaves t

pub returns-in_err-names-clause-memory : goal.returns-in_err-names-clause-memory
returns-in_err-names-clause-memory g c = λ t m.
    becomes_stays _ (g.D.Disk.state c.args.disk.now) (g.D.Disk.state c.find_below.new.disk) c.find_below.ensures.leaves t

pub returns-in_err-names-clause-files : goal.returns-in_err-names-clause-files
returns-in_err-names-clause-files g c = λ t.
    left_all _ (segments_below c.args.number (g.D.Disk.state c.args.disk.now).files) (g.D.Disk.state c.args.disk.now) (g.D.Disk.state c.find_below.new.disk) c.find_below.ensures.leaves t

pub take_away-requires-clause-present : goal.take_away-requires-clause-present
take_away-requires-clause-present g c = λ h.
    let t = sym c.find_below.ensures.leaves.proceeds.tells ∙ h in
    let same = c.find_below.ensures.leaves.files t in
    subst (λ (l : List FileName). AreRemovable l (g.D.Disk.state c.find_below.new.disk).files) (sym (c.deref.ensures.value ∙ c.in_ok-names.ensures.ok t))
    (subst (AreRemovable (segments_below c.args.number (g.D.Disk.state c.args.disk.now).files)) (sym same) (below_removable c.args.number (g.D.Disk.state c.args.disk.now).files))

pub returns-in_err-take_away-clause-any_moment : goal.returns-in_err-take_away-clause-any_moment
returns-in_err-take_away-clause-any_moment g c = λ t.
    let told = c.find_below.ensures.leaves.proceeds.tells ∙ t in
    then_elapses _ (segments_below c.args.number (g.D.Disk.state c.args.disk.now).files) (g.D.Disk.state c.args.disk.now) (g.D.Disk.state c.find_below.new.disk) c.find_below.ensures.leaves (g.D.Disk.state c.take_away.new.disk) t
    (subst (λ (l : List FileName). Elapses (MayTakeAway l) (g.D.Disk.state c.find_below.new.disk) (g.D.Disk.state c.take_away.new.disk)) (c.deref.ensures.value ∙ c.in_ok-names.ensures.ok t) (c.take_away.ensures.proceeds.told told))

pub returns-in_err-take_away-clause-files : goal.returns-in_err-take_away-clause-files
returns-in_err-take_away-clause-files g c = λ t.
    let told = c.find_below.ensures.leaves.proceeds.tells ∙ t in
    then_taken _ (segments_below c.args.number (g.D.Disk.state c.args.disk.now).files) (g.D.Disk.state c.args.disk.now) (g.D.Disk.state c.find_below.new.disk) c.find_below.ensures.leaves (g.D.Disk.state c.take_away.new.disk) t
    (subst (λ (l : List FileName). HasTakenAway l (g.D.Disk.state c.find_below.new.disk) (g.D.Disk.state c.take_away.new.disk)) (c.deref.ensures.value ∙ c.in_ok-names.ensures.ok t) (c.take_away.ensures.files told))

pub returns-clause-any_moment : goal.returns-clause-any_moment
returns-clause-any_moment g c = λ t.
    let told = c.find_below.ensures.leaves.proceeds.tells ∙ t in
    then_elapses _ (segments_below c.args.number (g.D.Disk.state c.args.disk.now).files) (g.D.Disk.state c.args.disk.now) (g.D.Disk.state c.find_below.new.disk) c.find_below.ensures.leaves (g.D.Disk.state c.take_away.new.disk) t
    (subst (λ (l : List FileName). Elapses (MayTakeAway l) (g.D.Disk.state c.find_below.new.disk) (g.D.Disk.state c.take_away.new.disk)) (c.deref.ensures.value ∙ c.in_ok-names.ensures.ok t) (c.take_away.ensures.proceeds.told told))

pub returns-clause-ok : goal.returns-clause-ok
returns-clause-ok g c = λ t.
    let told = c.find_below.ensures.leaves.proceeds.tells ∙ t in
    then_becomes _ (segments_below c.args.number (g.D.Disk.state c.args.disk.now).files) (g.D.Disk.state c.args.disk.now) (g.D.Disk.state c.find_below.new.disk) c.find_below.ensures.leaves (g.D.Disk.state c.take_away.new.disk) t (segments_below c.args.number (g.D.Disk.state c.args.disk.now).files)
    (subst (λ (l : List FileName). Becomes (without_files l) (g.D.Disk.state c.find_below.new.disk) (g.D.Disk.state c.take_away.new.disk)) (c.deref.ensures.value ∙ c.in_ok-names.ensures.ok t) (c.in_ok-take_away.ensures.ok told))

pub returns-clause-files : goal.returns-clause-files
returns-clause-files g c = λ t.
    let told = c.find_below.ensures.leaves.proceeds.tells ∙ t in
    then_taken _ (segments_below c.args.number (g.D.Disk.state c.args.disk.now).files) (g.D.Disk.state c.args.disk.now) (g.D.Disk.state c.find_below.new.disk) c.find_below.ensures.leaves (g.D.Disk.state c.take_away.new.disk) t
    (subst (λ (l : List FileName). HasTakenAway l (g.D.Disk.state c.find_below.new.disk) (g.D.Disk.state c.take_away.new.disk)) (c.deref.ensures.value ∙ c.in_ok-names.ensures.ok t) (c.take_away.ensures.files told))

pub returns-in_err-names-clause-log_stands : goal.returns-in_err-names-clause-log_stands
returns-in_err-names-clause-log_stands g c = λ log le st.
    stands_stays log _ (g.D.Disk.state c.args.disk.now) (g.D.Disk.state c.find_below.new.disk) c.find_below.ensures.leaves st

pub returns-in_err-take_away-clause-log_stands : goal.returns-in_err-take_away-clause-log_stands
returns-in_err-take_away-clause-log_stands g c = λ log le st.
    stands_cut log c.args.number (g.D.Disk.state c.args.disk.now) (g.D.Disk.state c.take_away.new.disk) le (c.take_away.ensures.proceeds.tells ∙ c.find_below.ensures.leaves.proceeds.tells)
    (λ t.
    let told = c.find_below.ensures.leaves.proceeds.tells ∙ t in
    then_elapses _ (segments_below c.args.number (g.D.Disk.state c.args.disk.now).files) (g.D.Disk.state c.args.disk.now) (g.D.Disk.state c.find_below.new.disk) c.find_below.ensures.leaves (g.D.Disk.state c.take_away.new.disk) t
    (subst (λ (l : List FileName). Elapses (MayTakeAway l) (g.D.Disk.state c.find_below.new.disk) (g.D.Disk.state c.take_away.new.disk)) (c.deref.ensures.value ∙ c.in_ok-names.ensures.ok t) (c.take_away.ensures.proceeds.told told)))
    (λ t.
    let told = c.find_below.ensures.leaves.proceeds.tells ∙ t in
    then_taken _ (segments_below c.args.number (g.D.Disk.state c.args.disk.now).files) (g.D.Disk.state c.args.disk.now) (g.D.Disk.state c.find_below.new.disk) c.find_below.ensures.leaves (g.D.Disk.state c.take_away.new.disk) t
    (subst (λ (l : List FileName). HasTakenAway l (g.D.Disk.state c.find_below.new.disk) (g.D.Disk.state c.take_away.new.disk)) (c.deref.ensures.value ∙ c.in_ok-names.ensures.ok t) (c.take_away.ensures.files told)))
    st

pub returns-clause-log_stands : goal.returns-clause-log_stands
returns-clause-log_stands g c = λ log le st.
    stands_cut log c.args.number (g.D.Disk.state c.args.disk.now) (g.D.Disk.state c.take_away.new.disk) le (c.take_away.ensures.proceeds.tells ∙ c.find_below.ensures.leaves.proceeds.tells)
    (λ t.
    let told = c.find_below.ensures.leaves.proceeds.tells ∙ t in
    then_elapses _ (segments_below c.args.number (g.D.Disk.state c.args.disk.now).files) (g.D.Disk.state c.args.disk.now) (g.D.Disk.state c.find_below.new.disk) c.find_below.ensures.leaves (g.D.Disk.state c.take_away.new.disk) t
    (subst (λ (l : List FileName). Elapses (MayTakeAway l) (g.D.Disk.state c.find_below.new.disk) (g.D.Disk.state c.take_away.new.disk)) (c.deref.ensures.value ∙ c.in_ok-names.ensures.ok t) (c.take_away.ensures.proceeds.told told)))
    (λ t.
    let told = c.find_below.ensures.leaves.proceeds.tells ∙ t in
    then_taken _ (segments_below c.args.number (g.D.Disk.state c.args.disk.now).files) (g.D.Disk.state c.args.disk.now) (g.D.Disk.state c.find_below.new.disk) c.find_below.ensures.leaves (g.D.Disk.state c.take_away.new.disk) t
    (subst (λ (l : List FileName). HasTakenAway l (g.D.Disk.state c.find_below.new.disk) (g.D.Disk.state c.take_away.new.disk)) (c.deref.ensures.value ∙ c.in_ok-names.ensures.ok t) (c.take_away.ensures.files told)))
    st
