use Rattle.series_id.proofs.Values.{not_alike}
use Rattle.series_id.proofs.read.is_spelling.Goals as goal

pub returns-in-None : goal.returns-in-None
returns-in-None c =
    (λ never. cc, λ e. absurd (not_alike c.args.spelling.now c.args.value.now c.loop-byte.rest.now c.loop-byte.byte-index c.loop-byte.invariant c.loop-byte-test.true c.in-None.ensures e))
