use Rattle.std.proofs.Common.{◌*◌, length, refl, subst, sym, take, ap, ◌∙◌, arith}
use Rattle.std.specs.List.{flat_map}
use Rattle.placement_core.proofs.ListLemmas.{IsIn-from_index}
use Rattle.node_calls.specs.session_net.Runs.{Ran}
use Rattle.node_calls.proofs.session_net_proofs.ReadyLemmas.{room_after, there_after}
use Rattle.node_calls.proofs.session_net_proofs.RunLemmas.{ran_nothing, ran_then}
use Rattle.node_calls.proofs.ListLemmas.{flat_long, flat_push}
use Rattle.first_cluster.proofs.ListLemmas.{take_at, take_short, take_whole}
use Rattle.cluster_placements.specs.Steps.{end_at}
use Rattle.cluster_placements.proofs.events.end_all.Goals as goal

pub loop-slot-init : goal.loop-slot-init
loop-slot-init g c = ran_nothing g.D.Disk.state c.args.replicas.now

pub end_one-requires-clause-there : goal.end_one-requires-clause-there
end_one-requires-clause-there g c =
    let i = c.loop-slot.slot-index in
    there_after g.D.Disk.state c.args.replicas.now c.loop-slot.replicas (flat_map end_at (take i c.args.slots.now)) _ c.loop-slot.invariant (c.requires.there _ (IsIn-from_index c.args.slots.now i _ c.loop-slot-test.true))

pub end_one-requires-clause-room : goal.end_one-requires-clause-room
end_one-requires-clause-room g c =
    let i = c.loop-slot.slot-index in
    let low = c.loop-slot-test.true in
    let short = take_short c.args.slots.now i in
    let long = flat_long end_at (λ s. refl) (take i c.args.slots.now) in
    room_after g.D.Disk.state c.args.replicas.now c.loop-slot.replicas (flat_map end_at (take i c.args.slots.now)) (2 * length c.args.slots.now) 2 c.loop-slot.invariant c.requires.room (omega (arith, low, short, long))

pub loop-slot-preserved : goal.loop-slot-preserved
loop-slot-preserved g c =
    let i = c.loop-slot.slot-index in
    let slots = c.args.slots.now in
    subst (λ es. Ran g.D.Disk.state c.args.replicas.now es c.end_one.new.replicas) (sym (ap (flat_map end_at) (take_at slots i _ c.loop-slot-test.true) ∙ flat_push end_at (take i slots) _))
    (ran_then g.D.Disk.state (flat_map end_at (take i slots)) (end_at _) c.args.replicas.now c.loop-slot.replicas c.end_one.new.replicas c.loop-slot.invariant c.end_one.ensures)

pub returns : goal.returns
returns g c = subst (λ slots. Ran g.D.Disk.state c.args.replicas.now (flat_map end_at slots) c.loop-slot.replicas) (take_whole c.args.slots.now c.loop-slot.slot-index c.loop-slot-test.false) c.loop-slot.invariant
