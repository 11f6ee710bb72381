use Rattle.std.proofs.Common.{ap, ◌∙◌, rules}
use Rattle.std.specs.Prelude.{filter}
use Rattle.store_log.specs.listed_volumes.volume_bytes.declared.heads.Head.{Head}
use Rattle.store_log.specs.listed_volumes.volume_bytes.Heads.{head_of}
use Rattle.store_log.specs.listed_volumes.Known.{is_head_of}
use Rattle.store_log.proofs.listed_volumes_proofs.RetainLemmas.{filtered}
use Rattle.shard_store.proofs.flush.older.Goals as goal

pub returns-clause-ok : goal.returns-clause-ok
returns-clause-ok c =
    let test = λ (h : Head). is_head_of c.args.ns c.args.start c.args.size (head_of h) in
    filtered _ test _ (λ x b g k. search rules) c.in_ok-found.found.items c.retain.new.self.items c.retain.ensures.filtered ∙ ap (filter test) c.in_ok-found.ensures.ok
