-- What is asked of a run can be met, over disks that tell and over others: by the short run, whose answers are caused then.
use Rattle.std.specs.Prelude.{[], None, Bool}
use Rattle.cluster_core.specs.Legal.{Legal}
use Rattle.transcripts.specs.Record.{Life}
use Rattle.told_by.specs.Sample.{events as short_events, turns as short_turns}
use Rattle.told_by.specs.Told.{ToldBy}
use Rattle.told_runs.specs.Laws.{IsServedRun}

abbrev pub short_life : Life
short_life = record { past = []; present = record { start = None; turns = short_turns; unanswered = None } }

abbrev pub ShortIsServed : Bool → Type 0
ShortIsServed tells = Legal tells short_events × (told : ToldBy None short_turns short_events) × IsServedRun tells [] (λ p. []) short_life short_events told
