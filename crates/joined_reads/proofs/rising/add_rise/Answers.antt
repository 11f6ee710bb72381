use Rattle.joined_reads.proofs.BesideLemmas.{adds_one}
use Rattle.joined_reads.proofs.rising.add_rise.Goals as goal

pub returns-clause-adds : goal.returns-clause-adds
returns-clause-adds c = adds_one c.args.point.now c.args.found.now.items c.push.new.self.items c.in-Ok.rise c.requires.bounded c.in-Ok.ensures.point c.in-Ok.ensures.series c.in-Ok-push.ensures.items
