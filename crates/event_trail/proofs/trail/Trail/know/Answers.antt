use Rattle.std.proofs.Common.{◌≤◌, length, subst}
use Rattle.event_book.specs.Lists.{most_entries}
use Rattle.event_trail.specs.Trails.{IsLegalOver}
use Rattle.event_trail.proofs.trail.Trail.know.Goals as goal

pub returns-clause-legal : goal.returns-clause-legal
returns-clause-legal g c = subst (IsLegalOver g.D.Disk.state) c.self.view_is c.self.invariant.legal

pub returns-clause-short : goal.returns-clause-short
returns-clause-short g c = subst (λ l. length l ≤ most_entries) c.self.view_is c.self.invariant.short
