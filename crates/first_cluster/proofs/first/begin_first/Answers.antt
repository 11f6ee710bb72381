use Rattle.std.proofs.Common.{◌≤◌, [], ◌∷◌, length, ap, subst, sym, ◌∙◌}
use Rattle.m3_model.specs.Members.{IsIn}
use Rattle.cluster_members.specs.cluster_core.Earlier.{HasTenure}
use Rattle.cluster_members.specs.cluster_core.declared.event.Event.TheVariants as event
use Rattle.first_cluster.specs.First.{IsFirst, IsLent, opening_of}
use Rattle.first_cluster.specs.Lending.{AreOpened, HasReturned, HasTaken}
use Rattle.first_cluster.specs.Slots.{AreApart, slots_in, starts_of}
use Rattle.first_cluster.proofs.FirstLemmas.{few_enough, first_ready, lent_opened, opened_room}
use Rattle.first_cluster.proofs.PlacedSlots.{few_starts, slots_same, tenure_first, tenure_given}
use Rattle.first_cluster.proofs.SlotLists.{slots_apart}
use Rattle.first_cluster.proofs.first.begin_first.Goals as goal

pub begun-requires-clause-apart : goal.begun-requires-clause-apart
begun-requires-clause-apart g c =
    let lent = c.requires.lent in
    subst AreApart (sym (c.as_slice-slots.ensures.value ∙ lent.is.slots)) (slots_apart c.args.lent.members.net.state.place lent.is.lawful)

pub begun-requires-clause-slots : goal.begun-requires-clause-slots
begun-requires-clause-slots g c =
    let lent = c.requires.lent in
    c.as_slice-slots.ensures.value ∙ lent.is.slots ∙ sym (slots_same c.args.lent.members.net.state.place) ∙ ap slots_in (sym (c.as_slice-starts.ensures.value ∙ lent.is.starts))

pub begun-requires-clause-first : goal.begun-requires-clause-first
begun-requires-clause-first g c = λ s i.
    let lent = c.requires.lent in
    tenure_first c.args.lent.members.net.state.place lent.rf lent.shards lent.nodes lent.is.place s (subst (λ xs. IsIn xs s) (c.as_slice-starts.ensures.value ∙ lent.is.starts) i)

pub begun-requires-clause-tenures : goal.begun-requires-clause-tenures
begun-requires-clause-tenures g c = λ s i.
    let lent = c.requires.lent in
    let state = c.args.lent.members.net.state in
    subst (λ events. HasTenure events s.slot.node s.slot.shard s.tenure) (sym lent.is.events) (tenure_given state.place [] (event.Clock state.rules ∷ []) s (subst (λ xs. IsIn xs s) (c.as_slice-starts.ensures.value ∙ lent.is.starts) i))

pub begun-requires-clause-room : goal.begun-requires-clause-room
begun-requires-clause-room g c =
    let lent = c.requires.lent in
    let m = c.args.lent.members in
    opened_room m.net.replicas.events m.net.state c.as_slice-starts.result.now lent.is.events
    (subst (λ xs. length xs ≤ 1024) (sym (c.as_slice-starts.ensures.value ∙ lent.is.starts)) (few_enough (few_starts m.net.state.place lent.rf lent.shards lent.nodes lent.is.lawful lent.is.place)))

pub begun-requires-clause-taken : goal.begun-requires-clause-taken
begun-requires-clause-taken g c =
    let lent = c.requires.lent in
    (lent.first, subst (λ slots. HasTaken g.D.Disk.state slots lent.first c.args.lent.members.net.replicas.members (g.X.Disks.depot c.args.disks.now)) (sym c.as_slice-slots.ensures.value) lent.is.taken)

pub returns-in-Ok-clause-members : goal.returns-in-Ok-clause-members
returns-in-Ok-clause-members g c = λ rf shards seed nodes first is.
    let m = c.args.lent.members in
    let before = g.X.Disks.depot c.args.disks.now in
    record {
      initial = is.initial;
      place = is.place;
      lawful = is.lawful;
      rules = is.rules;
      seed_is = is.seed_is;
      slots = is.slots;
      opened = subst (λ d. AreOpened g.D.Disk.state m.slots.items (starts_of m.net.state.place) (opening_of m.net.state) first (g.X.Disks.depot d) c.begun.new.replicas) (sym c.in-Ok.ensures.same)
          (lent_opened g.D.Disk.state m.slots.items c.as_slice-starts.result.now m.net.state first before m.net.replicas c.begun.new.replicas is.taken is.events (c.as_slice-starts.ensures.value ∙ is.starts) c.in-Ok.ensures.ok);
      fates = is.fates;
      bag = is.bag;
      past = is.past;
      stopped = is.stopped;
    }

pub returns-in-Ok-clause-ready : goal.returns-in-Ok-clause-ready
returns-in-Ok-clause-ready g c =
    let lent = c.requires.lent in
    let m = c.args.lent.members in
    first_ready g.D.Disk.state m.net.state m.slots.items lent.first (g.X.Disks.depot c.args.disks.now) c.begun.new.replicas m.net.bag lent.is.lawful lent.is.slots lent.is.bag
    (lent_opened g.D.Disk.state m.slots.items c.as_slice-starts.result.now m.net.state lent.first (g.X.Disks.depot c.args.disks.now) m.net.replicas c.begun.new.replicas lent.is.taken lent.is.events (c.as_slice-starts.ensures.value ∙ lent.is.starts) c.in-Ok.ensures.ok)

pub returns-in-Ok-clause-placement : goal.returns-in-Ok-clause-placement
returns-in-Ok-clause-placement g c = c.requires.lent.is.printed

pub returns-in-Err-clause-returned : goal.returns-in-Err-clause-returned
returns-in-Err-clause-returned g c = λ rf shards seed nodes first is.
    c.in-Err.ensures.err first (subst (λ slots. HasTaken g.D.Disk.state slots first c.args.lent.members.net.replicas.members (g.X.Disks.depot c.args.disks.now)) (sym c.as_slice-slots.ensures.value) is.taken)
