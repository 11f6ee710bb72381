use Rattle.tag_index.proofs.IndexLemmas.{listed_empty}
use Rattle.tag_index.proofs.index.Index.new.Goals as goal

pub returns : goal.returns
returns c = listed_empty c.new-2.result c.new-2.ensures.empty
