use Rattle.line_lists.proofs.FateLimits.{fates_at-MeetsLimits}
use Rattle.m3_json.proofs.fates.fates_of.Goals as goal

pub returns-clause-within : goal.returns-clause-within
returns-clause-within c = fates_at-MeetsLimits _ _ c.in_ok-list.list c.in_ok-list.ensures
