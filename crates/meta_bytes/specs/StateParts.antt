-- The rules of a state, taken apart as the test tries them.
use Rattle.std.specs.Prelude.{◌≢◌, ◌<◌, ◌≤◌, List}
use Rattle.std.specs.List.{All}
use Rattle.m3_model.specs.Ascends.{Ascends}
use Rattle.m3_model.specs.declared.limits.TheConstants.{DURATION_END, TIME_END, SEED_END}
use Rattle.m3_model.specs.declared.rules.Space.{Space}
use Rattle.m3_model.specs.declared.rules.MetaState.{MetaState}
use Rattle.placement_core.specs.Lawful.{IsLawful}
use Rattle.meta_bytes.specs.States.{IsSpaceOf, AreSpaces}

-- a namespace's durations are within their limits, and go together
abbrev pub HasDurations : Space → Type 0
HasDurations s = (1 ≤ s.block) × (s.past < s.block) × (s.future < s.block) × (s.block ≤ s.retention) × (s.retention < DURATION_END)

-- namespaces within the limits, with names of their own
abbrev pub AreApart : List Space → Type 0
AreApart spaces = All IsSpaceOf spaces × Ascends (λ a b. a.name ≢ b.name) spaces

-- a moment and a seed within their limits
abbrev pub HasMoment : MetaState → Type 0
HasMoment s = (s.rules.now < TIME_END) × (s.seed < SEED_END)

-- a placement and namespaces that a cluster may have
abbrev pub HasParts : MetaState → Type 0
HasParts s = IsLawful s.place × AreSpaces s.rules.spaces
