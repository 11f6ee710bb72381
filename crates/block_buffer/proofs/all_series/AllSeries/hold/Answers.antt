use Rattle.block_buffer.proofs.all_series.AllSeries.hold.Goals as goal

pub returns-in_ok-valued-in-Some-clause-stands : goal.returns-in_ok-valued-in-Some-clause-stands
returns-in_ok-valued-in-Some-clause-stands c = c.in_ok-valued-in-Some.ensures.stands c.args.series.now c.in-Some.ensures.there

pub returns-in_ok-valued-in-Some-clause-known : goal.returns-in_ok-valued-in-Some-clause-known
returns-in_ok-valued-in-Some-clause-known c = c.has_slots-known.ensures c.args.series.now c.in-Some.ensures.there
