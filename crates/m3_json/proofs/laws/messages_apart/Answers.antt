use Rattle.line_lists.proofs.FateLimits.{messages_differ-Ascends}
use Rattle.m3_json.proofs.laws.messages_apart.Goals as goal

pub returns : goal.returns
returns c = messages_differ-Ascends
