use Rattle.session_net.specs.Reads.{Wish, asked_shards}
use Rattle.session_reads.proofs.FetchLemmas.{left_reads, left_unfound, ready_left, callable_left}
use Rattle.session_reads.proofs.read.fetch.Goals as goal

pub returns-in_err-gave-clause-ready : goal.returns-in_err-gave-clause-ready
returns-in_err-gave-clause-ready g c s was =
    let net = c.args.net.now in
    let w : Wish = record { pick = c.args.pick.now; from = c.args.from; to = c.args.to } in
    ready_left g.D.Disk.state s net.replicas c.gather.new.replicas net.bag was
    (left_unfound net.state net.fates c.args.id w c.needed_read.result g.D.Disk.state net.replicas c.gather.new.replicas c.in_err-gave.field-0.0 c.in_err-gave.ensures.err)

pub returns-in_err-gave-clause-callable : goal.returns-in_err-gave-clause-callable
returns-in_err-gave-clause-callable g c s was =
    let net = c.args.net.now in
    let w : Wish = record { pick = c.args.pick.now; from = c.args.from; to = c.args.to } in
    callable_left g.D.Disk.state s net.replicas c.gather.new.replicas net.bag was
    (left_unfound net.state net.fates c.args.id w c.needed_read.result g.D.Disk.state net.replicas c.gather.new.replicas c.in_err-gave.field-0.0 c.in_err-gave.ensures.err)

pub returns-clause-ready : goal.returns-clause-ready
returns-clause-ready g c s was =
    let net = c.args.net.now in
    let w : Wish = record { pick = c.args.pick.now; from = c.args.from; to = c.args.to } in
    let gave = c.in_ok-gave.ensures.ok in
    ready_left g.D.Disk.state s net.replicas c.gather.new.replicas net.bag was
    (left_reads net.state net.fates c.args.id w c.needed_read.result g.D.Disk.state net.replicas c.gather.new.replicas (asked_shards net.state c.args.pick.now) gave.reads gave.events gave.are gave.ran)

pub returns-clause-callable : goal.returns-clause-callable
returns-clause-callable g c s was =
    let net = c.args.net.now in
    let w : Wish = record { pick = c.args.pick.now; from = c.args.from; to = c.args.to } in
    let gave = c.in_ok-gave.ensures.ok in
    callable_left g.D.Disk.state s net.replicas c.gather.new.replicas net.bag was
    (left_reads net.state net.fates c.args.id w c.needed_read.result g.D.Disk.state net.replicas c.gather.new.replicas (asked_shards net.state c.args.pick.now) gave.reads gave.events gave.are gave.ran)
