use Rattle.std.proofs.Common.{refl}
use Rattle.std.specs.Option.{option_copied}
use Rattle.volume_rows.proofs.RangeLemmas.{entries_between}
use Rattle.volume_rows.proofs.ranges.entries_from.Goals as goal

pub returns : goal.returns
returns c = λ v rows is k.
    entries_between v.format c.args.id.now (option_copied c.args.last) rows c.in_ok-at.at c.in_ok-to.to (record { at = c.in_ok-at.at; len = c.saturating_sub.result })
    (c.in_ok-at.ensures v rows is k) (c.in_ok-to.ensures v rows is k) refl c.saturating_sub.ensures
