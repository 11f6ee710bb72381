use Rattle.std.proofs.Common.{rules}
use Rattle.joined_reads.proofs.bounds.is_bounded.Goals as goal

pub returns-then-id-le-MOST_ID_BYTES : goal.returns-then-id-le-MOST_ID_BYTES
returns-then-id-le-MOST_ID_BYTES c = search rules
