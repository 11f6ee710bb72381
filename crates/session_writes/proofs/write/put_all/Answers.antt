use Rattle.std.proofs.Common.{◌≡◌, suc, ◌+◌, ◌<◌, [], ◌∷◌, ◌++◌, length, take, get_or, map, refl, sym, ap, ◌∙◌, subst, arith, length-append}
use Rattle.std.specs.Prelude.{⊤}
use Rattle.std.proofs.lemmas.List.{length-map, map-append, take_more}
use Rattle.m3_model.specs.declared.placement.Assignment.{Assignment}
use Rattle.session_net.specs.cluster_core.Earlier.{IsSend}
use Rattle.session_net.specs.cluster_core.declared.event.StepReply.TheVariants as reply
use Rattle.placement_core.specs.Shards.{nodes_of}
use Rattle.placement_core.proofs.ListLemmas.{IsIn-from_index}
use Rattle.session_net.specs.Messages.{IsHeard, AreHeard}
use Rattle.session_net.specs.Outcomes.{told_of, answering, refusing}
use Rattle.session_net.specs.Runs.{slot_at}
use Rattle.session_net.specs.Writes.{put_of, counted_among, told_if_counted}
use Rattle.session_net.proofs.DeliveryLemmas.{heard_last, as_many_heard}
use Rattle.session_net.proofs.RunLemmas.{ran_nothing, ran_then}
use Rattle.session_net.proofs.ReadyLemmas.{any_after, there_after}
use Rattle.session_writes.proofs.PutLemmas.{no_assignment, counted_more}
use Rattle.session_writes.proofs.write.put_all.Goals as goal

pub loop-member-init : goal.loop-member-init
loop-member-init g c = record {
  room = λ n fits. record { for_answers = let room = c.requires.counts.for_answers in omega (arith, fits, room); for_reasons = let room = c.requires.counts.for_reasons in omega (arith, fits, room) };
  heard = [];
  puts = [];
  are = refl;
  ran = ran_nothing g.D.Disk.state c.args.replicas.now;
  few = omega arith;
  answered = c.requires.none_answered;
  refused = c.requires.none_refused;
}

pub put_by_fate-said-requires-clause-sent : goal.put_by_fate-said-requires-clause-sent
put_by_fate-said-requires-clause-sent g c =
    let was = c.loop-member.invariant in
    any_after g.D.Disk.state (IsSend c.args.sending.now.version c.args.sending.now.shard c.args.point.now) c.args.replicas.now c.loop-member.replicas was.puts was.ran c.requires.sent

pub put_by_fate-said-requires-clause-there : goal.put_by_fate-said-requires-clause-there
put_by_fate-said-requires-clause-there g c =
    let was = c.loop-member.invariant in
    let a = get_or c.args.members.now c.loop-member.member-index _ in
    there_after g.D.Disk.state c.args.replicas.now c.loop-member.replicas was.puts (slot_at a.node c.args.sending.now.shard) was.ran (c.requires.there a (IsIn-from_index c.args.members.now c.loop-member.member-index _ (omega arith)))

pub count-requires : goal.count-requires
count-requires g c = c.loop-member.invariant.room 1 (omega arith)

pub loop-member-preserved : goal.loop-member-preserved
loop-member-preserved g c =
    let was = c.loop-member.invariant in
    let state = g.D.Disk.state in
    let members = c.args.members.now in
    let sending = c.args.sending.now in
    let i = c.loop-member.member-index in
    let a : Assignment = get_or members i no_assignment in
    let said = c.put_by_fate-said.result in
    let brought = c.put_by_fate-said.ensures in
    let asked = put_of sending.id c.args.rules.now sending.version c.args.point.now in
    let below : i < length members = omega arith in
    let sum = length-append was.puts brought.more in
    let low = was.few in
    let few = brought.few in
    let nodes : nodes_of (take (i + 1) members) ≡ nodes_of (take i members) ++ a.node ∷ [] = ap nodes_of (take_more members i no_assignment below) ∙ map-append (λ b. b.node) (take i members) (a ∷ []) in
    let long : length (take i members) ≡ length was.heard =
    sym (length-map (take i members) (λ b. b.node)) ∙ as_many_heard (λ (u : ⊤). reply.Done) c.args.fates.now sending.id sending.shard asked (nodes_of (take i members)) was.heard was.puts was.are in
    let counted = counted_more members i no_assignment was.heard said below long ∙ ap (λ o. map told_of (counted_among (take i members) was.heard) ++ told_if_counted a o) (sym c.err.ensures.value) in
    record {
      room = λ n fits. c.count.ensures.room n (was.room (suc n) (omega (arith, fits)));
      heard = was.heard ++ (a.node, said) ∷ [];
      puts = was.puts ++ brought.more;
      are = subst (λ ns. AreHeard (λ (u : ⊤). reply.Done) c.args.fates.now sending.id sending.shard asked ns (was.heard ++ (a.node, said) ∷ []) (was.puts ++ brought.more)) (sym nodes)
          (heard_last (λ (u : ⊤). reply.Done) c.args.fates.now sending.id sending.shard asked (nodes_of (take i members)) was.heard was.puts a.node said brought.more was.are
          (subst (λ f. IsHeard (λ (u : ⊤). reply.Done) f a.node sending.shard asked said brought.more) c.fate_to-fate.ensures brought.is));
      ran = ran_then state was.puts brought.more c.args.replicas.now c.loop-member.replicas c.put_by_fate-said.new.replicas was.ran brought.ran;
      few = omega (arith, sum, low, few);
      answered = c.count.ensures.answered (map told_of (counted_among (take i members) was.heard)) was.answered ∙ ap answering (sym counted);
      refused = c.count.ensures.reasons (map told_of (counted_among (take i members) was.heard)) was.refused ∙ ap refusing (sym counted);
    }
