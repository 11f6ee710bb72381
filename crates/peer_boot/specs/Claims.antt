-- Which bootstrapper claims what of a shard that a node joins.
use Rattle.std.specs.Prelude.{ℕ, zero, suc, List, [], ◌∷◌, ◌++◌}
use Rattle.m3_model.specs.declared.limits.TheConstants.{MOST_NAMESPACES}
use Rattle.boot_chain.specs.Origins.{claims_of}
use Rattle.boot_chain.specs.declared.chain.Claims.{Claims}
use Rattle.boot_chain.specs.declared.origin.Origin.TheVariants.{Moved}
use Rattle.boot_chain.specs.declared.range.Range.{Range}

-- all times of the namespaces below this number
abbrev pub times_below : ℕ → List Range
times_below zero = []
times_below (suc ns) = times_below ns ++ record { ns = ns; from = 0; to = 18446744073709551615 } ∷ []

-- The filesystem's and the commit log's bootstrapper claim nothing, so the peers' claims all times of each namespace that there may be.
abbrev pub moved_claims : Claims
moved_claims = claims_of Moved (times_below MOST_NAMESPACES)
