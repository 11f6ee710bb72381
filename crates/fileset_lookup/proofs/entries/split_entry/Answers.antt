use Rattle.fileset_lookup.proofs.entries.split_entry.Goals as goal

pub returns-in_err-spot-clause-whole : goal.returns-in_err-spot-clause-whole
returns-in_err-spot-clause-whole c = λ id at len rest short a b stands.
    let read = c.in_ok-id.ensures.whole id _ short stands in
    absurd (c.in_err-spot.ensures.whole at len rest a b read.1)

pub returns-clause-whole : goal.returns-clause-whole
returns-clause-whole c = λ id at len rest short a b stands.
    let read = c.in_ok-id.ensures.whole id _ short stands in
    let more = c.in_ok-spot.ensures.whole at len rest a b read.1 in
    (read.0, more.0, more.1, more.2)
