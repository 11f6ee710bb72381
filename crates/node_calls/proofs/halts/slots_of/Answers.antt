use Rattle.std.proofs.Common.{ap, arith, length, ◌∙◌}
use Rattle.std.specs.Prelude.{nat_eq}
use Rattle.std.proofs.lemmas.Bool.{eq-eqb, ne_eqb}
use Rattle.std.proofs.lemmas.List.{take_all}
use Rattle.cluster_members.specs.replica_exchange.declared.slot.Slot.{Slot}
use Rattle.node_calls.specs.Halts.{slots_of_node}
use Rattle.node_calls.proofs.ListLemmas.{count_no, count_yes}
use Rattle.node_calls.proofs.halts.slots_of.Goals as goal
use Rattle.node_calls.proofs.halts.slots_of.Goals.{then-slot-node, else-slot-node}

pub loop-slot-preserved : goal.loop-slot-preserved
loop-slot-preserved c =
    let i = c.loop-slot.slot-index in
    let slots = c.args.slots.now in
    let node = c.args.node in
    let was = c.loop-slot.invariant in
    let few = was.few in
    elim c.if-slot-node.branch [
      | then-slot-node w ↦ record {
        count_is = count_yes (λ (s : Slot). nat_eq s.node node) slots i _ c.loop-slot.count _ c.loop-slot-test.true (eq-eqb _ node w.if-slot-node.true) was.count_is w.count-is;
        few = rw w.count-is (omega (arith, few));
      }
      | else-slot-node w ↦ record {
        count_is = w.count-is ∙ count_no (λ (s : Slot). nat_eq s.node node) slots i _ c.loop-slot.count c.loop-slot-test.true (ne_eqb _ node w.if-slot-node.false) was.count_is;
        few = rw w.count-is (omega (arith, few));
      }
    ]

pub returns-clause-count : goal.returns-clause-count
returns-clause-count c = c.loop-slot.invariant.count_is ∙ ap (λ xs. length (slots_of_node c.args.node xs)) (take_all c.loop-slot.slot-index c.args.slots.now c.loop-slot-test.false)
