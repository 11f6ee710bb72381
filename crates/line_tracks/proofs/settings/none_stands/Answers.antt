use Rattle.line_tracks.proofs.acts.StandLemmas.{none_is_placed, none_stands_at_first, stays_unmade}
use Rattle.line_tracks.proofs.settings.none_stands.Goals as goal

pub returns-clause-first : goal.returns-clause-first
returns-clause-first c = none_stands_at_first

pub returns-clause-stays : goal.returns-clause-stays
returns-clause-stays c = stays_unmade

pub returns-clause-placed : goal.returns-clause-placed
returns-clause-placed c = none_is_placed
