-- Which messages of a call are delivered while it is made.
use Rattle.std.specs.Prelude.{Bool, true, false}
use Rattle.m3_model.specs.declared.act.Fate.{Fate}
use Rattle.m3_model.specs.declared.act.Fate.TheVariants as fate

-- a message of this fate isn't delivered while its call is made
abbrev pub is_cut : Fate → Bool
is_cut fate.Lose = true
is_cut fate.Late = true
is_cut _ = false
