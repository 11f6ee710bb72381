use Rattle.std.proofs.Common.{◌+◌, refl, subst, sym, take}
use Rattle.std.specs.List.{flat_map}
use Rattle.std.specs.Prelude.{nat_eq}
use Rattle.std.proofs.lemmas.Bool.{eq-eqb, ne_eqb}
use Rattle.std.proofs.lemmas.List.{take_all}
use Rattle.m3_model.proofs.Lists.{IsIn-get_or}
use Rattle.cluster_members.specs.replica_exchange.declared.slot.Slot.{Slot}
use Rattle.cluster_members.specs.session_net.Runs.{Ran}
use Rattle.cluster_members.proofs.session_net_proofs.ReadyLemmas.{there_after}
use Rattle.cluster_members.proofs.session_net_proofs.RunLemmas.{ran_nothing}
use Rattle.node_calls.specs.Boots.{EndsRestarts}
use Rattle.node_calls.specs.Halts.{slots_of_node, restart_at}
use Rattle.node_calls.specs.declared.refused.Refused.{Refused}
use Rattle.node_calls.proofs.ListLemmas.{filter_no}
use Rattle.node_calls.proofs.ResultLemmas.{passed_on}
use Rattle.node_calls.proofs.RunLemmas.{ran_more, restarts_end, room_here}
use Rattle.node_calls.proofs.halts.restart_all.Goals as goal
use Rattle.node_calls.proofs.halts.restart_all.Goals.{then-slot-node+in_ok-restart_one, else-slot-node}

pub loop-slot-init : goal.loop-slot-init
loop-slot-init g c = ran_nothing g.D.Disk.state c.args.replicas.now

pub restart_one-requires-clause-there : goal.restart_one-requires-clause-there
restart_one-requires-clause-there g c =
    let i = c.loop-slot.slot-index in
    there_after g.D.Disk.state c.args.replicas.now c.loop-slot.replicas (flat_map restart_at (slots_of_node c.args.node (take i c.args.slots.now))) _ c.loop-slot.invariant (c.requires.manned _ (IsIn-get_or c.args.slots.now i _ c.loop-slot-test.true))

pub restart_one-requires-clause-room : goal.restart_one-requires-clause-room
restart_one-requires-clause-room g c =
    let i = c.loop-slot.slot-index in
    room_here g.D.Disk.state restart_at (λ s. refl) (λ (s : Slot). nat_eq s.node c.args.node) c.args.slots.now i _ c.args.replicas.now c.loop-slot.replicas c.loop-slot-test.true c.loop-slot.invariant c.requires.room
    (eq-eqb _ c.args.node c.if-slot-node.true)

pub loop-slot-preserved : goal.loop-slot-preserved
loop-slot-preserved g c =
    let i = c.loop-slot.slot-index in
    let slots = c.args.slots.now in
    let node = c.args.node in
    elim c.if-slot-node.branch [
      | then-slot-node+in_ok-restart_one w ↦
          subst (Ran g.D.Disk.state c.args.replicas.now (flat_map restart_at (slots_of_node node (take (i + 1) slots)))) (sym w.replicas-is)
          (ran_more g.D.Disk.state restart_at (λ s. refl) (λ (s : Slot). nat_eq s.node node) slots i _ c.args.replicas.now c.loop-slot.replicas c.loop-slot-test.true c.loop-slot.invariant w.restart_one.new.replicas
          (eq-eqb _ node w.if-slot-node.true) w.in_ok-restart_one.ensures)
      | else-slot-node w ↦
          subst (Ran g.D.Disk.state c.args.replicas.now (flat_map restart_at (slots_of_node node (take (i + 1) slots)))) (sym w.replicas-is)
          (subst (λ xs. Ran g.D.Disk.state c.args.replicas.now (flat_map restart_at xs) c.loop-slot.replicas)
          (sym (filter_no (λ (s : Slot). nat_eq s.node node) slots i _ c.loop-slot-test.true (ne_eqb _ node w.if-slot-node.false))) c.loop-slot.invariant)
    ]

pub returns-in_err-restart_one-clause-err : goal.returns-in_err-restart_one-clause-err
returns-in_err-restart_one-clause-err g c =
    let i = c.loop-slot.slot-index in
    let slots = c.args.slots.now in
    passed_on c.from_residual.result c.in_err-restart_one.field-0.0 (λ (r : Refused). EndsRestarts g.D.Disk.state (slots_of_node c.args.node slots) r.shard r.why c.args.replicas.now c.restart_one.new.replicas) c.from_residual.ensures.1
    (restarts_end g.D.Disk.state (λ (s : Slot). nat_eq s.node c.args.node) slots i _ c.args.replicas.now c.loop-slot.replicas c.loop-slot-test.true c.loop-slot.invariant c.in_err-restart_one.field-0.0 c.restart_one.new.replicas
    (eq-eqb _ c.args.node c.if-slot-node.true) c.in_err-restart_one.ensures)

pub returns-clause-ok : goal.returns-clause-ok
returns-clause-ok g c =
    subst (λ slots. Ran g.D.Disk.state c.args.replicas.now (flat_map restart_at (slots_of_node c.args.node slots)) c.loop-slot.replicas) (take_all c.loop-slot.slot-index c.args.slots.now c.loop-slot-test.false) c.loop-slot.invariant
