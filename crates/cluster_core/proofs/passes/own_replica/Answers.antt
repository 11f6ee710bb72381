use Rattle.std.proofs.Common.{◌≡◌, subst, ap, ◌∙◌, List, ℕ}
use Rattle.event_book.specs.Lists.{made_by}
use Rattle.cluster_core.specs.Replicas.{replica}
use Rattle.cluster_core.proofs.OwnLemmas.{replica_own_seat}
use Rattle.cluster_core.proofs.passes.own_replica.Goals as goal

pub returns : goal.returns
returns g c n s name =
    let seat = c.args.seat.now in
    replica_own_seat g.N.BookName.tells n s seat.seen c.know.ensures.legal ∙ ap (λ made. replica n s made) (subst (λ (by : List ℕ). made_by by seat.seen ≡ seat.made) name c.know.ensures.made)
