-- What no part of the program serves yet. It goes away with the last part.
use Rattle.std.specs.Prelude.{⊤}
use Rattle.m3_model.specs.declared.act.Act.{Act}
use Rattle.m3_model.specs.declared.act.Act.TheVariants as act
use Rattle.m3_model.specs.declared.turn.Request.{Request}
use Rattle.m3_model.specs.declared.turn.Request.TheVariants as request

-- an act of a kind that is served
abbrev pub IsServedAct : Act → Type 0
IsServedAct (act.Init rf shards seed nodes) = ⊤
IsServedAct (act.Namespace name block past future retention) = ⊤
IsServedAct (act.Now now) = ⊤
IsServedAct (act.Write ns id t v level version) = ⊤
IsServedAct (act.Fetch ns id from to level version) = ⊤
IsServedAct (act.Match ns wanted from to level version) = ⊤
IsServedAct (act.Fates list) = ⊤
IsServedAct act.Deliver = ⊤
IsServedAct (act.Stop node) = ⊤
IsServedAct (act.Restart node pick) = ⊤
IsServedAct (act.Bootstrap node shard) = ⊤
IsServedAct (act.Add node group) = ⊤
IsServedAct (act.Drain node) = ⊤
IsServedAct (act.Cancel node) = ⊤
IsServedAct (act.Remove node) = ⊤
IsServedAct (act.Replace node by group) = ⊤
IsServedAct act.Tick = ⊤
IsServedAct act.Flush = ⊤
IsServedAct act.Snapshot = ⊤
IsServedAct act.Status = ⊤
IsServedAct _ = ⊥

-- one act of such a kind
abbrev pub IsServed : Request → Type 0
IsServed (request.One one) = IsServedAct one
IsServed (request.Par clients workers) = ⊥
