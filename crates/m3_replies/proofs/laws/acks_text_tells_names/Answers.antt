use Rattle.m3_replies.proofs.TellingLemmas.{acks_tell}
use Rattle.m3_replies.proofs.laws.acks_text_tells_names.Goals as goal

pub returns : goal.returns
returns c = acks_tell c.args.instances.now c.args.acks.now c.args.others.now _
