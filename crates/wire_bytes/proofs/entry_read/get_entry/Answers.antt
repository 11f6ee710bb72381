use Rattle.wire_bytes.proofs.EntryLemmas.{whole_entry, fault_entry}
use Rattle.wire_bytes.proofs.entry_read.get_entry.Goals as goal

pub returns-clause-whole : goal.returns-clause-whole
returns-clause-whole c = whole_entry c.read_entry.result c.args.bytes.now c.args.at c.read_entry.ensures.ok c.read_entry.ensures.err

pub returns-clause-fault : goal.returns-clause-fault
returns-clause-fault c = fault_entry c.read_entry.result c.args.bytes.now c.args.at c.read_entry.ensures.ok c.read_entry.ensures.err
