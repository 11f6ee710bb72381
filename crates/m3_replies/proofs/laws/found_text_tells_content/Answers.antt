use Rattle.m3_replies.proofs.TellingLemmas.{found_tells}
use Rattle.m3_replies.proofs.laws.found_text_tells_content.Goals as goal

pub returns : goal.returns
returns c = found_tells c.args.instances.now c.args.series.now c.args.others.now c.args.short c.args.other_short _
