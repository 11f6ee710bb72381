use Rattle.std.proofs.Common.{◌↔◌, IsTrue}
use Rattle.std.proofs.lemmas.Result.{IfOk-weaker}
use Rattle.cluster_core.specs.Legal.{IsJoined, EndsFetch}
use Rattle.legal_events.proofs.LegalLemmas.{ends_decided}
use Rattle.legal_events.proofs.legal.ends_fetch.Goals as goal

pub returns-else-not-are_counted : goal.returns-else-not-are_counted
returns-else-not-are_counted c =
    let s = c.in-FetchStart in
    let past = c.args.past.now in
    let since = c.args.since.now in
    let nodes = c.args.nodes.now in
    let series = c.args.series.now in
    let fetch = c.args.fetch.now in
    let is = ends_decided past since nodes series s.version s.shard s.rules s.pick s.from s.to fetch s.is (c.ascend.ensures.0 c.if-not-ascend.false) (c.are_counted.ensures.0 c.if-not-are_counted.false) in
    IfOk-weaker c.is_joined.result (λ b. IsTrue b ↔ IsJoined since fetch s.pick nodes series) (λ b. IsTrue b ↔ EndsFetch past since nodes series fetch)
    (λ b h. (λ t. is.0 (h.0 t), λ e. h.1 (is.1 e))) c.is_joined.ensures
