use Rattle.std.proofs.Common.{◌++◌}
use Rattle.std.specs.Option.{option_copied}
use Rattle.fileset_lookup.proofs.ExtentLemmas.{skipped_volume, gives_extent}
use Rattle.fileset_lookup.proofs.extents.find_extent.Goals as goal

pub returns-in_err-skip_below : goal.returns-in_err-skip_below
returns-in_err-skip_below c = λ v before rows later is format stands. absurd (c.in_err-skip_below.ensures v before rows later is format stands)

pub returns : goal.returns
returns c = λ v before rows later is format stands.
    let k = c.in_ok-skip_below.ensures v before rows later is format stands in
    gives_extent c.args.id.now (option_copied c.args.last) c.args.most before rows c.in_ok-skip_below.field-0.now k c.take_entries.result
    (c.take_entries.ensures v (before ++ k.early) k.others later (skipped_volume v c.args.id.now before rows later c.in_ok-skip_below.field-0.now k is) format k.stands)
