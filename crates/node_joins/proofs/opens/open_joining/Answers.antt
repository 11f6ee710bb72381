use Rattle.std.proofs.Common.{Bool, Ok, Err, sym, subst}
use Rattle.peer_boot.proofs.ResultLemmas.{passed_on}
use Rattle.node_joins.specs.Opens.{IsBeginTried, IsOpenTried}
use Rattle.node_joins.proofs.OpenLemmas.{has_joined, has_not_joined, not_begun, own_node, passed_by}
use Rattle.node_joins.proofs.BeginLemmas.{begin_ran}
use Rattle.node_joins.proofs.UnownedLemmas.{came_then, join_came}
use Rattle.node_joins.proofs.opens.open_joining.Goals as goal

pub begin-requires-clause-there : goal.begin-requires-clause-there
begin-requires-clause-there g c = c.requires.there (c.args.own.now).node (own_node c.args.place.now c.args.shard c.args.own.now c.requires.among)

pub returns-in_err-begin-clause-tried : goal.returns-in_err-begin-clause-tried
returns-in_err-begin-clause-tried g c =
    let state = g.D.Disk.state in
    let place = c.args.place.now in
    let own = c.args.own.now in
    let old = c.args.replicas.now in
    let new = c.begin.new.replicas in
    let e = c.in_err-begin.field-0.0 in
    passed_on c.from_residual-in_err-begin.result e (IsOpenTried state place c.args.shard own old new) c.from_residual-in_err-begin.ensures.1
    (not_begun state place c.args.shard own c.requires.below c.requires.among old new e c.in_err-begin.ensures.tried)

pub returns-then-not-branch-clause-tried : goal.returns-then-not-branch-clause-tried
returns-then-not-branch-clause-tried g c =
    let state = g.D.Disk.state in
    let own = c.args.own.now in
    let old = c.args.replicas.now in
    let new = c.begin.new.replicas in
    passed_by state c.args.place.now c.args.shard own c.requires.below c.requires.among old new (subst (λ (b : Bool). IsBeginTried state c.args.shard own.node own.tenure old new (Ok b)) c.if-not-branch.true c.in_ok-begin.ensures.tried)

pub join_shard-requires-clause-joins : goal.join_shard-requires-clause-joins
join_shard-requires-clause-joins g c = own_node c.args.place.now c.args.shard c.args.own.now c.requires.among

pub returns-in-Ok-clause-tried : goal.returns-in-Ok-clause-tried
returns-in-Ok-clause-tried g c =
    let state = g.D.Disk.state in
    let own = c.args.own.now in
    let old = c.args.replicas.now in
    let mid = c.begin.new.replicas in
    let begun = subst (λ (b : Bool). IsBeginTried state c.args.shard own.node own.tenure old mid (Ok b)) c.if-not-branch.false c.in_ok-begin.ensures.tried in
    has_joined state c.args.place.now c.args.shard own c.requires.below c.requires.among c.requires.joins old mid c.join_shard.new.replicas begun c.args.source c.in-Ok.merged c.of-in-Ok.result c.requires.source c.of-in-Ok.ensures c.in-Ok.ensures

pub returns-in-Err-clause-tried : goal.returns-in-Err-clause-tried
returns-in-Err-clause-tried g c =
    let state = g.D.Disk.state in
    let place = c.args.place.now in
    let own = c.args.own.now in
    let old = c.args.replicas.now in
    let mid = c.begin.new.replicas in
    let new = c.join_shard.new.replicas in
    let begun = subst (λ (b : Bool). IsBeginTried state c.args.shard own.node own.tenure old mid (Ok b)) c.if-not-branch.false c.in_ok-begin.ensures.tried in
    subst (IsOpenTried state place c.args.shard own old new) (sym c.not_joined.ensures)
    (has_not_joined state place c.args.shard own c.requires.below c.requires.among c.requires.joins old mid new begun c.in-Err.why c.in-Err.ensures)

pub returns-in-Ok-clause-unowned : goal.returns-in-Ok-clause-unowned
returns-in-Ok-clause-unowned g c =
    let state = g.D.Disk.state in
    let own = c.args.own.now in
    let first = begin_ran state c.args.shard own.node own.tenure c.args.replicas.now c.begin.new.replicas c.in_ok-begin.field-0 c.in_ok-begin.ensures.tried in
    let next = join_came state c.args.place.now c.args.shard own.node own.tenure c.begin.new.replicas c.join_shard.new.replicas c.join_shard.result c.join_shard.ensures in
    came_then state first.0 next.0 c.args.replicas.now c.begin.new.replicas c.join_shard.new.replicas first.1 (next.1).grew c.begin.ensures.unowned next.2

pub returns-in-Err-clause-unowned : goal.returns-in-Err-clause-unowned
returns-in-Err-clause-unowned g c =
    let state = g.D.Disk.state in
    let own = c.args.own.now in
    let first = begin_ran state c.args.shard own.node own.tenure c.args.replicas.now c.begin.new.replicas c.in_ok-begin.field-0 c.in_ok-begin.ensures.tried in
    let next = join_came state c.args.place.now c.args.shard own.node own.tenure c.begin.new.replicas c.join_shard.new.replicas c.join_shard.result c.join_shard.ensures in
    came_then state first.0 next.0 c.args.replicas.now c.begin.new.replicas c.join_shard.new.replicas first.1 (next.1).grew c.begin.ensures.unowned next.2
