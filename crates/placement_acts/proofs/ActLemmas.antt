-- Cases on an act.
use Rattle.std.proofs.Common.{◌≡◌, ℕ, List, true, false}
use Rattle.placement_core.specs.m3_model.declared.act.Act.{Act}
use Rattle.placement_core.specs.m3_model.declared.act.Act.TheVariants as act
use Rattle.placement_acts.specs.Acts.{is_step_act}

none : {X : Type 0} → false ≡ true → X
none e = cc

-- what is so of each act that asks for a step is so of all of them
module _ (P : Act → Type 0)
    (add : (node group : List ℕ) → P (act.Add node group)) (drain : (node : List ℕ) → P (act.Drain node)) (cancel : (node : List ℕ) → P (act.Cancel node))
    (remove : (node : List ℕ) → P (act.Remove node)) (replace : (node by group : List ℕ) → P (act.Replace node by group)) where
  pub by_step : (a : Act) → is_step_act a ≡ true → P a
  by_step (act.Init rf shards seed nodes) h = none h
  by_step (act.Namespace name block past future retention) h = none h
  by_step (act.Now now) h = none h
  by_step (act.Write ns id t v level version) h = none h
  by_step (act.Fetch ns id from to level version) h = none h
  by_step (act.Match ns wanted from to level version) h = none h
  by_step (act.Fates list) h = none h
  by_step act.Deliver h = none h
  by_step (act.Stop node) h = none h
  by_step (act.Restart node pick) h = none h
  by_step (act.Bootstrap node shard) h = none h
  by_step (act.Add node group) h = add node group
  by_step (act.Drain node) h = drain node
  by_step (act.Cancel node) h = cancel node
  by_step (act.Remove node) h = remove node
  by_step (act.Replace node by group) h = replace node by group
  by_step act.Tick h = none h
  by_step act.Flush h = none h
  by_step act.Snapshot h = none h
  by_step act.Repair h = none h
  by_step act.Status h = none h
