use Rattle.std.proofs.Common.{◌<◌, ◌≤◌, ap, arith, false, length, subst, ◌∙◌}
use Rattle.std.proofs.lemmas.List.{length-replicate}
use Rattle.m3_model.specs.Members.{IsIn}
use Rattle.first_cluster.specs.Depots.{disk_slot_of}
use Rattle.first_cluster.specs.Lending.{HasTaken, IsUnopened, MayNotOpen}
use Rattle.first_cluster.specs.Slots.{slots_in}
use Rattle.first_cluster.proofs.FirstLemmas.{at_first_moment, few_spaces, planned_slots, refused_by, sized_spaces, slots_few}
use Rattle.first_cluster.proofs.PlacedSlots.{few_slots, no_meta, node_low}
use Rattle.first_cluster.proofs.first.lend_first.Goals as goal

pub lent-requires-clause-lawful : goal.lent-requires-clause-lawful
lent-requires-clause-lawful g c = c.requires.planned.is.lawful

pub lent-requires-clause-slots : goal.lent-requires-clause-slots
lent-requires-clause-slots g c = planned_slots c.args.plan c.requires.planned

pub lent-requires-clause-free : goal.lent-requires-clause-free
lent-requires-clause-free g c = λ s i.
    let plan = c.requires.planned in
    let place = c.args.plan.state.place in
    let low = node_low place plan.rf plan.shards plan.nodes plan.is.place s (subst (λ slots. IsIn slots s) (planned_slots c.args.plan plan) i) in
    let few = plan.is.lawful.limits.few_nodes in
    c.requires.free (disk_slot_of s) (no_meta s (omega (arith, low, few)))

pub untaken-requires : goal.untaken-requires
untaken-requires g c =
    let plan = c.requires.planned in
    let cause = subst (MayNotOpen c.args.plan.slots.items (g.X.Disks.depot c.args.disks.now) (g.X.Disks.depot c.lent.new.disks)) c.in-Err-Disk.field-0-is c.in-Err-Disk.ensures.err.cause in
    node_low c.args.plan.state.place plan.rf plan.shards plan.nodes plan.is.place c.in-Err-Disk.slot (subst (λ slots. IsIn slots c.in-Err-Disk.slot) (planned_slots c.args.plan plan) cause.0)

pub returns-in-Err-Disk-clause-refused : goal.returns-in-Err-Disk-clause-refused
returns-in-Err-Disk-clause-refused g c = λ rf shards seed nodes is.
    refused_by g.D.Disk.state rf shards seed nodes c.args.plan.state.place c.args.plan.slots.items c.in-Err-Disk.slot (g.X.Disks.depot c.args.disks.now) (g.X.Disks.depot c.lent.new.disks) c.untaken.result is.initial is.place (planned_slots c.args.plan c.requires.planned)
    (subst (IsUnopened g.D.Disk.state c.args.plan.slots.items (g.X.Disks.depot c.args.disks.now) (g.X.Disks.depot c.lent.new.disks)) c.in-Err-Disk.field-0-is c.in-Err-Disk.ensures.err) c.untaken.ensures

pub returns-in-Err-Memory-clause-refused : goal.returns-in-Err-Memory-clause-refused
returns-in-Err-Memory-clause-refused g c = λ rf shards seed nodes is. (c.in-Err-Memory.ensures.err).returned

pub invariant_of-members-clause-few : goal.invariant_of-members-clause-few
invariant_of-members-clause-few g c = few_spaces c.args.plan.state.rules c.requires.planned.is.rules

pub invariant_of-members-clause-sizes : goal.invariant_of-members-clause-sizes
invariant_of-members-clause-sizes g c = sized_spaces c.args.plan.state.rules c.requires.planned.is.rules

pub invariant_of-members-clause-moment : goal.invariant_of-members-clause-moment
invariant_of-members-clause-moment g c = at_first_moment c.args.plan.state.rules c.requires.planned.is.rules

pub invariant_of-members-clause-few_nodes : goal.invariant_of-members-clause-few_nodes
invariant_of-members-clause-few_nodes g c = c.requires.planned.is.lawful.limits.few_nodes

pub invariant_of-members-clause-few_slots : goal.invariant_of-members-clause-few_slots
invariant_of-members-clause-few_slots g c =
    let plan = c.requires.planned in
    slots_few c.args.plan.slots.items c.args.plan.state.place (planned_slots c.args.plan plan) (few_slots c.args.plan.state.place plan.rf plan.shards plan.nodes plan.is.lawful plan.is.place)

pub invariant_of-members-clause-one_each : goal.invariant_of-members-clause-one_each
invariant_of-members-clause-one_each g c = ap length c.requires.planned.is.stopped ∙ length-replicate (length c.args.plan.state.place.instances) false

pub returns-clause-lent : goal.returns-clause-lent
returns-clause-lent g c = λ rf shards seed nodes is. record {
  initial = is.initial;
  place = is.place;
  lawful = is.lawful;
  rules = is.rules;
  seed_is = is.seed_is;
  slots = planned_slots c.args.plan c.requires.planned;
  starts = is.starts;
  printed = is.printed;
  taken = c.in-Ok.ensures.ok;
  events = c.in-Ok.ensures.list;
  fates = c.empty.ensures;
  bag = is.bag;
  past = c.new.ensures.items;
  stopped = is.stopped;
}
