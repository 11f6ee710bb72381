use Rattle.m3_json.proofs.PutOff.{puts_off_exactly}
use Rattle.m3_json.proofs.laws.puts_off_exactly.Goals as goal

pub returns : goal.returns
returns c = puts_off_exactly
