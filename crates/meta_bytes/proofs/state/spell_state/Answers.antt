use Rattle.meta_bytes.proofs.LimitLemmas.{in_form}
use Rattle.meta_bytes.proofs.state.spell_state.Goals as goal

pub put_state-requires : goal.put_state-requires
put_state-requires c = (in_form c.args.state.now c.requires).fits
