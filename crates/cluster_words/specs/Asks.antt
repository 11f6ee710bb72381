-- What may be asked of a cluster.
use Rattle.m3_model.specs.declared.act.Act.{Act}
use Rattle.m3_model.specs.Limits.{MeetsLimits}
use Rattle.served_acts.specs.NotYet.{IsServedAct}

-- within the limits, and of a kind that is served
pub record MayAsk (act : Act) : Type 0 where
  pub limits : MeetsLimits act
  pub served : IsServedAct act
