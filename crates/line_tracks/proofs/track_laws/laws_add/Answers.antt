use Rattle.told_runs.specs.told_by.Lines.{ClockLine, InitLine, PlainLine, ReadLine, WriteLine}
use Rattle.line_tracks.proofs.tracks.AddLemmas.{anew_adds, call_adds, served_adds, steps_are_of_slots}
use Rattle.line_tracks.proofs.track_laws.laws_add.Goals as goal

pub returns-clause-plain : goal.returns-clause-plain
returns-clause-plain g c = call_adds PlainLine c.args.net.now

pub returns-clause-write : goal.returns-clause-write
returns-clause-write g c = call_adds WriteLine c.args.net.now

pub returns-clause-read : goal.returns-clause-read
returns-clause-read g c = call_adds ReadLine c.args.net.now

pub returns-clause-served_plain : goal.returns-clause-served_plain
returns-clause-served_plain g c = served_adds PlainLine

pub returns-clause-served_clock : goal.returns-clause-served_clock
returns-clause-served_clock g c = served_adds ClockLine

pub returns-clause-served_read : goal.returns-clause-served_read
returns-clause-served_read g c = served_adds ReadLine

pub returns-clause-anew_plain : goal.returns-clause-anew_plain
returns-clause-anew_plain g c = anew_adds PlainLine

pub returns-clause-anew_init : goal.returns-clause-anew_init
returns-clause-anew_init g c = anew_adds InitLine

pub returns-clause-slots : goal.returns-clause-slots
returns-clause-slots g c = steps_are_of_slots c.args.members.now
