use Rattle.block_buffer.proofs.SpotLemmas.{noted_again}
use Rattle.block_buffer.proofs.all_series.AllSeries.note_again.Goals as goal

pub invariant_of-self : goal.invariant_of-self
invariant_of-self c = (
  c.self.invariant.0,
  c.self.invariant.1,
  c.self.invariant.2,
  noted_again c.self.inside.firsts.spaces.items c.set.new.self.spaces.items c.self.inside.placed c.args.ns c.args.group c.first_of_group-first.result c.set.ensures.others c.set.ensures.here c.first_of_group-first.ensures c.self.invariant.0
      c.self.invariant.3,
)
