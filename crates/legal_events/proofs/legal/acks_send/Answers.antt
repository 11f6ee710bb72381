use Rattle.past_events.specs.Takes.{HasTaken}
use Rattle.legal_events.proofs.LegalLemmas.{acks_decided}
use Rattle.legal_events.proofs.legal.acks_send.Goals as goal

pub returns-else-not-are_counted : goal.returns-else-not-are_counted
unfolding HasTaken
returns-else-not-are_counted c =
    let s = c.in-Send in
    let is = acks_decided c.args.past.now c.args.nodes.now c.args.sent.now s.version s.shard s.point s.is in
    (λ t. is.0 (c.ascend.ensures.0 c.if-not-ascend.false, c.are_counted.ensures.0 c.if-not-are_counted.false, c.have_put.ensures.0 t), λ h. c.have_put.ensures.1 (is.1 h).2)
