use Rattle.line_lists.proofs.NodeLimits.{names_differ-Ascends}
use Rattle.m3_json.proofs.laws.names_apart.Goals as goal

pub returns : goal.returns
returns c = names_differ-Ascends
