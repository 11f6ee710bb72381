-- The acts that are served.
use Rattle.std.proofs.Common.{◌≡◌, refl, ap, false}
use Rattle.std.specs.Prelude.{IsTrue, not, ◌↔◌}
use Rattle.std.proofs.lemmas.Bool.{not-true}
use Rattle.m3_model.specs.declared.act.Act.{Act}
use Rattle.m3_model.specs.declared.act.Act.TheVariants as act
use Rattle.served_acts.specs.NotYet.{IsServedAct}
use Rattle.m3_json.specs.NotYet.{is_put_off}

-- an act that isn't put off is served
pub act_served : (one : Act) → is_put_off one ≡ false → IsServedAct one
unfolding is_put_off
act_served (act.Init rf shards seed nodes) kept = tt
act_served (act.Namespace name block past future retention) kept = tt
act_served (act.Now now) kept = tt
act_served (act.Write ns id t v level version) kept = cc
act_served (act.Fetch ns id from to level version) kept = cc
act_served (act.Match ns wanted from to level version) kept = cc
act_served (act.Fates list) kept = tt
act_served act.Deliver kept = tt
act_served (act.Stop node) kept = tt
act_served (act.Restart node pick) kept = cc
act_served (act.Bootstrap node shard) kept = cc
act_served (act.Add node group) kept = cc
act_served (act.Drain node) kept = cc
act_served (act.Cancel node) kept = cc
act_served (act.Remove node) kept = cc
act_served (act.Replace node by group) kept = cc
act_served act.Tick kept = cc
act_served act.Flush kept = cc
act_served act.Snapshot kept = cc
act_served act.Repair kept = cc
act_served act.Status kept = cc

-- and one that is served isn't put off
act_kept : (one : Act) → IsServedAct one → is_put_off one ≡ false
unfolding is_put_off
act_kept (act.Init rf shards seed nodes) h = refl
act_kept (act.Namespace name block past future retention) h = refl
act_kept (act.Now now) h = refl
act_kept (act.Write ns id t v level version) h = refl
act_kept (act.Fetch ns id from to level version) h = refl
act_kept (act.Match ns wanted from to level version) h = refl
act_kept (act.Fates list) h = refl
act_kept act.Deliver h = refl
act_kept (act.Stop node) h = refl
act_kept (act.Restart node pick) h = refl
act_kept (act.Bootstrap node shard) h = refl
act_kept (act.Add node group) h = refl
act_kept (act.Drain node) h = refl
act_kept (act.Cancel node) h = refl
act_kept (act.Remove node) h = refl
act_kept (act.Replace node by group) h = refl
act_kept act.Tick h = refl
act_kept act.Flush h = refl
act_kept act.Snapshot h = refl
act_kept act.Repair h = absurd h
act_kept act.Status h = refl

pub kept_exactly : (one : Act) → IsTrue (not (is_put_off one)) ↔ IsServedAct one
kept_exactly one = (λ kept. act_served one (not-true (is_put_off one) kept), λ h. ap not (act_kept one h))
