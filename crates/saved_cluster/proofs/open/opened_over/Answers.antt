use Rattle.std.proofs.Common.{[], sym, ap, subst}
use Rattle.std.specs.Prelude.{Err}
use Rattle.placement_log.specs.States.{MayBeState}
use Rattle.line_tracks.specs.acts.Stands.{ClusterStands}
use Rattle.line_tracks.specs.tracks.Lines.{EachMember}
use Rattle.saved_cluster.specs.Openings.{OpensWith}
use Rattle.saved_cluster.specs.Saved.{IsSaved}
use Rattle.saved_cluster.proofs.DiskLemmas.{saved_by_reads}
use Rattle.saved_cluster.proofs.OpenLemmas.{none_left, not_gone_on, not_opened}
use Rattle.saved_cluster.proofs.open.opened_over.Goals as goal

-- the log couldn't be read
pub returns-in-Err-clause-returned : goal.returns-in-Err-clause-returned
returns-in-Err-clause-returned g c = none_left g.D.Disk.state (g.X.Disks.depot c.args.disks.now)

pub returns-in-Err-clause-cause : goal.returns-in-Err-clause-cause
returns-in-Err-clause-cause g c =
    not_opened g.D.Disk.state (g.X.Disks.depot c.args.disks.now) c.args.meta.now c.open.new.disk c.in-Err.why (λ is. c.in-Err.ensures.faults.rose (ap Err is)) c.in-Err.ensures.err

-- the cluster goes on with what it holds
pub opened-requires-clause-state : goal.opened-requires-clause-state
opened-requires-clause-state g c = c.in-Ok.ensures.state

pub returns-in-Err-opened-clause-cause : goal.returns-in-Err-opened-clause-cause
returns-in-Err-opened-clause-cause g c =
    not_gone_on g.D.Disk.state (g.X.Disks.depot c.args.disks.now) (g.X.Disks.depot c.opened.new.disks) c.args.meta.now c.open.new.disk c.in-Err-opened.why c.in-Err-opened.ensures.cause

pub returns-in-Ok-opened-clause-saved : goal.returns-in-Ok-opened-clause-saved
returns-in-Ok-opened-clause-saved g c =
    subst (λ o. IsSaved o (g.D.Disk.state c.open.new.disk)) (sym c.in-Ok-opened.ensures.state) (saved_by_reads _ (g.D.Disk.state c.open.new.disk) c.in-Ok.ensures.only c.in-Ok.ensures.ok)

pub returns-in-Ok-opened-clause-state : goal.returns-in-Ok-opened-clause-state
returns-in-Ok-opened-clause-state g c = subst MayBeState (sym c.in-Ok-opened.ensures.state) c.in-Ok.ensures.state

pub returns-in-Ok-opened-clause-opened : goal.returns-in-Ok-opened-clause-opened
returns-in-Ok-opened-clause-opened g c =
    let before = g.X.Disks.depot c.args.disks.now in
    let after = g.X.Disks.depot c.opened.new.disks in
    subst (λ o. OpensWith g.D.Disk.state o before after c.in-Ok-opened.cluster.members) (sym c.in-Ok-opened.ensures.state) c.in-Ok-opened.ensures.opened

pub returns-in-Ok-opened-clause-stands : goal.returns-in-Ok-opened-clause-stands
returns-in-Ok-opened-clause-stands g c = subst (λ o. EachMember c.in-Ok-opened.cluster.members (ClusterStands o [])) (sym c.in-Ok-opened.ensures.state) c.in-Ok-opened.ensures.stands
