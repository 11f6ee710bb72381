use Rattle.std.proofs.Common.{◌<◌, ◌≤◌, ap, arith, subst, sym, ◌∙◌}
use Rattle.m3_model.specs.Members.{IsIn}
use Rattle.line_tracks.specs.cluster_core.Replicas.{replica}
use Rattle.line_tracks.specs.first_cluster.Depots.{disk_slot_of}
use Rattle.line_tracks.specs.first_cluster.Slots.{AreApart, slots_of}
use Rattle.line_tracks.proofs.first_cluster_proofs.PlacedSlots.{no_meta}
use Rattle.line_tracks.proofs.first_cluster_proofs.SlotLists.{slots_apart}
use Rattle.cluster_placements.specs.Lending.{HaveReturned, MayNotTake}
use Rattle.opened_cluster.specs.Reopened.{IsReopened}
use Rattle.opened_cluster.proofs.FieldLemmas.{slot_low}
use Rattle.opened_cluster.proofs.GainLemmas.{free_at, gained_so, none_lent, none_taken}
use Rattle.opened_cluster.proofs.StandLemmas.{reopened_may, reopened_stands}
use Rattle.opened_cluster.proofs.open.open_members.Goals as goal

pub gain-requires-clause-apart : goal.gain-requires-clause-apart
gain-requires-clause-apart g c = subst AreApart (sym (c.as_slice.ensures.value ∙ c.in-Ok.ensures.slots)) (slots_apart c.args.state.place c.requires.state.place)

pub gain-requires-clause-free : goal.gain-requires-clause-free
gain-requires-clause-free g c s i =
    let low = slot_low c.args.state.place c.requires.state.place s (subst (λ xs. IsIn xs s) (c.as_slice.ensures.value ∙ c.in-Ok.ensures.slots) i) in
    let few = c.requires.state.place.limits.few_nodes in
    free_at (g.X.Disks.depot c.args.disks.now).held (c.listed-replicas.result).members s (ap (λ t. t.members) c.listed-replicas.ensures) (c.requires.free (disk_slot_of s) (no_meta s (omega (arith, low, few))))

pub gain-requires-clause-new : goal.gain-requires-clause-new
gain-requires-clause-new g c s i = ap (λ t. replica s.node s.shard t.events) c.listed-replicas.ensures

pub gain-requires-clause-out : goal.gain-requires-clause-out
gain-requires-clause-out g c = none_lent (g.X.Disks.depot c.args.disks.now).held (c.listed-replicas.result).members (ap (λ t. t.members) c.listed-replicas.ensures)

pub returns-in-Ok-gain : goal.returns-in-Ok-gain
returns-in-Ok-gain g c =
    let before = g.X.Disks.depot c.args.disks.now in
    let after = g.X.Disks.depot c.gain.new.disks in
    let m = c.members_of.result in
    let reopened : IsReopened g.D.Disk.state c.args.state before after m = record {
      anew = c.members_of.ensures.anew;
      gained = gained_so g.D.Disk.state c.as_slice.result.now (slots_of c.args.state.place) before after (c.listed-replicas.result).members c.gain.new.replicas.members m.net.replicas.members (c.as_slice.ensures.value ∙ c.in-Ok.ensures.slots) (ap (λ t. t.members) c.listed-replicas.ensures) (ap (λ t. t.members) c.members_of.ensures.replicas) c.in-Ok-gain.ensures.ok;
      events = ap (λ t. t.events) c.members_of.ensures.replicas ∙ c.in-Ok-gain.ensures.list ∙ ap (λ t. t.events) c.listed-replicas.ensures;
    } in
    record {
      opened = reopened;
      stands = reopened_stands g.D.Disk.state c.args.state m before after c.requires.state reopened;
      may = reopened_may g.D.Disk.state c.args.state m before after c.requires.state reopened c.requires.free;
      returned = tt;
      cause = tt;
    }

pub returns-in-Err-clause-returned : goal.returns-in-Err-clause-returned
returns-in-Err-clause-returned g c =
    let before = g.X.Disks.depot c.args.disks.now in
    let after = g.X.Disks.depot c.gain.new.disks in
    subst (λ slots. HaveReturned g.D.Disk.state slots before after) (c.as_slice.ensures.value ∙ c.in-Ok.ensures.slots) c.in-Err.ensures.returned

pub returns-in-Err-clause-cause : goal.returns-in-Err-clause-cause
returns-in-Err-clause-cause g c =
    let before = g.X.Disks.depot c.args.disks.now in
    let after = g.X.Disks.depot c.gain.new.disks in
    subst (λ slots. MayNotTake g.D.Disk.state slots before after c.in-Err.why) (c.as_slice.ensures.value ∙ c.in-Ok.ensures.slots) c.in-Err.ensures.cause

pub returns-in_default-clause-returned : goal.returns-in_default-clause-returned
returns-in_default-clause-returned g c = none_taken g.D.Disk.state (slots_of c.args.state.place) (g.X.Disks.depot c.args.disks.now)
