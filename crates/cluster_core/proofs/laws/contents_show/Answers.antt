use Rattle.cluster_core.proofs.ShownLemmas.{found_shows, page_shows}
use Rattle.cluster_core.proofs.laws.contents_show.Goals as goal

pub returns : goal.returns
returns c = record { found = found_shows; page = page_shows }
