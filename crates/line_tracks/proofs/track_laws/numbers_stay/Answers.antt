use Rattle.line_tracks.proofs.tracks.NumberLemmas as numbers
use Rattle.line_tracks.proofs.track_laws.numbers_stay.Goals as goal

pub returns : goal.returns
returns c = numbers.numbers_stay
