-- The list that a past is.
use Rattle.std.specs.Prelude.{List, [], ◌∷◌, ◌++◌}
use Rattle.cluster_core.specs.declared.event.Event.{Event}
use Rattle.event_trail.specs.declared.past.Link.{Link}
use Rattle.event_trail.specs.declared.past.Link.TheVariants.{Start, Then}

abbrev pub events_of : Link → List Event
events_of Start = []
events_of (Then before last) = before.value ++ last.value ∷ []
