use Rattle.line_tracks.proofs.calls.SampleLemmas.{sample_is_left}
use Rattle.line_tracks.proofs.call_laws.sample_is_left.Goals as goal

pub returns : goal.returns
returns g c = sample_is_left c.args.net.now
