-- Which bootstrapper claims for which assignment.
use Rattle.std.specs.Prelude.{List, []}
use Rattle.boot_chain.specs.declared.chain.Claims.{Claims}
use Rattle.boot_chain.specs.declared.origin.Claimant.{Claimant}
use Rattle.boot_chain.specs.declared.origin.Claimant.TheVariants.{Every, Nothing}
use Rattle.boot_chain.specs.declared.origin.Origin.{Origin}
use Rattle.boot_chain.specs.declared.origin.Origin.TheVariants.{Held, Moved, First}
use Rattle.boot_chain.specs.declared.range.Range.{Range}

-- all or nothing of what is asked for
abbrev pub claim_of : Claimant → List Range → List Range
claim_of Every asked = asked
claim_of Nothing asked = []

-- the bootstrappers over files, log, peers and of a new shard
abbrev pub claimants_of : Origin → Claimant × Claimant × Claimant × Claimant
claimants_of Held = (Every, Every, Nothing, Nothing)
claimants_of Moved = (Nothing, Nothing, Every, Nothing)
claimants_of First = (Nothing, Nothing, Nothing, Every)

-- one bootstrapper claims all of it: the files', the peers' or the last
abbrev pub claims_of : Origin → List Range → Claims
claims_of Held asked = record { files = asked; log = []; peers = []; fresh = []; left = [] }
claims_of Moved asked = record { files = []; log = []; peers = asked; fresh = []; left = [] }
claims_of First asked = record { files = []; log = []; peers = []; fresh = asked; left = [] }
