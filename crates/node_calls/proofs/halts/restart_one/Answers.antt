use Rattle.std.proofs.Common.{◌∙◌, ap, Err}
use Rattle.node_calls.proofs.RunLemmas.{restart_done, restart_told}
use Rattle.node_calls.proofs.halts.restart_one.Goals as goal

pub returns-in-Ok : goal.returns-in-Ok
returns-in-Ok g c = restart_done g.D.Disk.state c.args.slot c.restart.result c.args.replicas.now c.restart.new.self c.requires.there c.requires.room c.restart.ensures c.in-Ok.field-0 c.in-Ok.is

pub returns-in-Err-Refused : goal.returns-in-Err-Refused
returns-in-Err-Refused g c =
    restart_told g.D.Disk.state c.args.slot c.restart.result c.args.replicas.now c.restart.new.self c.requires.there c.requires.room c.restart.ensures c.in-Err-Refused.why (c.in-Err-Refused.is ∙ ap (λ e. Err e) c.in-Err-Refused.field-0-is)
