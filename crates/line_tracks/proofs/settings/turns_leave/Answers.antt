use Rattle.line_tracks.proofs.acts.QuietLemmas.{delivers_nothing_so, keeps_stops_so, numbers_go_on, sets_nothing_so}
use Rattle.line_tracks.proofs.settings.turns_leave.Goals as goal

pub returns-clause-sets_nothing : goal.returns-clause-sets_nothing
returns-clause-sets_nothing c = sets_nothing_so

pub returns-clause-keeps_stops : goal.returns-clause-keeps_stops
returns-clause-keeps_stops c = keeps_stops_so

pub returns-clause-delivers_nothing : goal.returns-clause-delivers_nothing
returns-clause-delivers_nothing c = delivers_nothing_so

pub returns-clause-numbers : goal.returns-clause-numbers
returns-clause-numbers c = numbers_go_on
