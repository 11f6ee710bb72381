use Rattle.std.proofs.Common.{sym, ◌∙◌}
use Rattle.m3_json.proofs.Served.{act_served}
use Rattle.m3_json.proofs.lines.request_of.Goals as goal

pub returns-clause-served : goal.returns-clause-served
returns-clause-served c = act_served c.in_ok-act.act (sym c.is_put_off.ensures ∙ c.if-is_put_off.false)
