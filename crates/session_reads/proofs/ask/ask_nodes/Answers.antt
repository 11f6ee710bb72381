use Rattle.std.proofs.Common.{◌≡◌, suc, ◌+◌, ◌<◌, List, [], ◌∷◌, ◌++◌, length, get_or, map, sym, ap, ◌∙◌, arith}
use Rattle.std.specs.Prelude.{Result}
use Rattle.std.specs.Result.{result_err}
use Rattle.std.proofs.lemmas.List.{map-append}
use Rattle.m3_model.specs.Reads.{space_picked}
use Rattle.m3_model.specs.declared.point.Series.{Series}
use Rattle.m3_model.specs.declared.reason.Reason.{Reason}
use Rattle.session_net.specs.cluster_core.Earlier.{IsClock}
use Rattle.session_net.proofs.placement_core_proofs.ListLemmas.{IsIn-from_index}
use Rattle.session_net.specs.Outcomes.{told_of, answering, refusing}
use Rattle.session_net.specs.Reads.{read_of}
use Rattle.session_net.specs.Runs.{slot_at}
use Rattle.session_net.proofs.ReadyLemmas.{any_after, there_after}
use Rattle.session_reads.specs.Gathering.{wish_of}
use Rattle.session_reads.proofs.AskLemmas.{content_none, ordered_none, forms_none, content_more, ordered_more, asked_none, asked_more, always_err, forms_more}
use Rattle.session_reads.proofs.ask.ask_nodes.Goals as goal

pub loop-node-init : goal.loop-node-init
loop-node-init g c =
    let asking = c.args.asking.now in
    record {
      room = λ n fits. record { for_answers = let room = c.requires.counts.for_answers in omega (arith, fits, room); for_reasons = let room = c.requires.counts.for_reasons in omega (arith, fits, room) };
      heard = [];
      asked = asked_none g.D.Disk.state c.args.fates.now asking.id c.args.shard (read_of asking.id c.args.state.now.rules c.args.state.now.place.version (wish_of c.args.pick.now asking)) c.args.replicas.now;
      answered = c.requires.none_answered;
      refused = c.requires.none_refused;
      ordered = ordered_none c.args.into.now c.requires.nothing;
      content = content_none (space_picked c.args.pick.now) c.args.into.now c.requires.nothing;
      forms = forms_none;
    }

pub read_by_fate-said-requires-clause-clock : goal.read_by_fate-said-requires-clause-clock
read_by_fate-said-requires-clause-clock g c =
    let was = c.loop-node.invariant in
    any_after g.D.Disk.state (IsClock c.args.state.now.rules) c.args.replicas.now c.loop-node.replicas was.asked.reads was.asked.ran c.requires.clock

pub read_by_fate-said-requires-clause-there : goal.read_by_fate-said-requires-clause-there
read_by_fate-said-requires-clause-there g c =
    let was = c.loop-node.invariant in
    let n = get_or c.args.nodes.now c.loop-node.node-index 0 in
    there_after g.D.Disk.state c.args.replicas.now c.loop-node.replicas was.asked.reads (slot_at n c.args.shard) was.asked.ran (c.requires.there n (IsIn-from_index c.args.nodes.now c.loop-node.node-index 0 (omega arith)))

pub take_answer-requires-clause-counts : goal.take_answer-requires-clause-counts
take_answer-requires-clause-counts g c = c.loop-node.invariant.room 1 (omega arith)

pub returns-in_err-take_answer-clause-err : goal.returns-in_err-take_answer-clause-err
returns-in_err-take_answer-clause-err g c =
    let was = c.loop-node.invariant in
    let asking = c.args.asking.now in
    let i = c.loop-node.node-index in
    let below : i < length c.args.nodes.now = omega arith in
    always_err c.from_residual.result (
      i + 1,
      was.heard ++ (get_or c.args.nodes.now i 0, c.read_by_fate-said.result) ∷ [],
      asked_more g.D.Disk.state c.args.fates.now asking.id c.args.shard (read_of asking.id c.args.state.now.rules c.args.state.now.place.version (wish_of c.args.pick.now asking)) c.args.nodes.now i was.heard c.fate_to-fate.result c.read_by_fate-said.result
          c.args.replicas.now c.loop-node.replicas c.read_by_fate-said.new.replicas below c.fate_to-fate.ensures was.asked c.read_by_fate-said.ensures.brought,
    )

pub loop-node-preserved : goal.loop-node-preserved
loop-node-preserved g c =
    let was = c.loop-node.invariant in
    let asking = c.args.asking.now in
    let i = c.loop-node.node-index in
    let n = get_or c.args.nodes.now i 0 in
    let said : Result (List Series) Reason = c.read_by_fate-said.result in
    let below : i < length c.args.nodes.now = omega arith in
    let ns = space_picked c.args.pick.now in
    let told : map told_of (was.heard ++ (n, said) ∷ []) ≡ map told_of was.heard ++ (n, result_err said) ∷ [] = map-append told_of was.heard ((n, said) ∷ []) in
    record {
      room = λ k fits. c.in_ok-take_answer.ensures.room k (was.room (suc k) (omega (arith, fits)));
      heard = was.heard ++ (n, said) ∷ [];
      asked = asked_more g.D.Disk.state c.args.fates.now asking.id c.args.shard (read_of asking.id c.args.state.now.rules c.args.state.now.place.version (wish_of c.args.pick.now asking)) c.args.nodes.now i was.heard c.fate_to-fate.result said
          c.args.replicas.now c.loop-node.replicas c.read_by_fate-said.new.replicas below c.fate_to-fate.ensures was.asked c.read_by_fate-said.ensures.brought;
      answered = c.in_ok-take_answer.ensures.answered (map told_of was.heard) was.answered ∙ ap answering (sym told);
      refused = c.in_ok-take_answer.ensures.reasons (map told_of was.heard) was.refused ∙ ap refusing (sym told);
      ordered = ordered_more c.loop-node.into c.take_answer.new.into said was.ordered c.in_ok-take_answer.ensures.joins;
      content = content_more ns n was.heard said c.loop-node.into c.take_answer.new.into was.content c.in_ok-take_answer.ensures.joins;
      forms = forms_more n was.heard said was.forms c.read_by_fate-said.ensures.form;
    }
