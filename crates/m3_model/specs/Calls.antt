-- What clients call, and what workers do beside them.
use Rattle.std.specs.Prelude.{Bool, true, false}
use Rattle.m3_model.specs.declared.act.Act.{Act}
use Rattle.m3_model.specs.declared.act.Act.TheVariants as act

-- a client's call, whose messages go to replicas: a write, a fetch or a match
abbrev pub is_call : Act → Bool
is_call (act.Write ns id t v level version) = true
is_call (act.Fetch ns id from to level version) = true
is_call (act.Match ns wanted from to level version) = true
is_call _ = false

-- what a worker may do: deliver late messages, and keep replicas in order
abbrev pub is_work : Act → Bool
is_work (act.Bootstrap node shard) = true
is_work act.Deliver = true
is_work act.Tick = true
is_work act.Flush = true
is_work act.Snapshot = true
is_work act.Repair = true
is_work _ = false
