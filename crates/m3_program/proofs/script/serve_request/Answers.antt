use Rattle.std.proofs.lemmas.Bool.{both_ways}
use Rattle.std.proofs.lemmas.Result.{on_ok_weaker}
use Rattle.m3_program.specs.Streams.{Stage, stage}
use Rattle.m3_program.proofs.PromiseLemmas.{may_close}
use Rattle.m3_program.proofs.ScriptLemmas.{defers, loses_so, serves_so}
use Rattle.m3_program.proofs.script.serve_request.Goals as goal

pub returns-then-not-is_served-clause-continues : goal.returns-then-not-is_served-clause-continues
returns-then-not-is_served-clause-continues g c =
    let now : Stage g.row.X-D.Denot g.X.D.Disk = stage c.args.cluster.now (g.X.Disks.depot c.args.disks.now) in
    defers g.X.D.Disk.state now c.args.request (λ served. both_ways c.is_served.result c.if-not-is_served.true (c.is_served.ensures.1 served))

pub returns-then-not-is_served-clause-close : goal.returns-then-not-is_served-clause-close
returns-then-not-is_served-clause-close g c = may_close g.X.D.Disk.state c.args.cluster.now (g.X.Disks.depot c.args.disks.now).held c.requires.may

pub returns-clause-continues : goal.returns-clause-continues
returns-clause-continues g c =
    let old : Stage g.row.X-D.Denot g.X.D.Disk = stage c.args.cluster.now (g.X.Disks.depot c.args.disks.now) in
    let new : Stage g.row.X-D.Denot g.X.D.Disk = stage c.serve.new.self (g.X.Disks.depot c.serve.new.disks) in
    let e = c.serve.ensures in
    serves_so g.X.D.Disk.state old new c.args.request c.serve.result e.answered
    (record { out = c.requires.may.meta_out; served = e.served; tracks = e.tracks; any_moment = e.any_moment; tells = e.tells; saved = on_ok_weaker c.serve.result (λ may. may.saved) e.may; saves = λ stays. (e.others stays).2; unmade = e.unmade; unbegun = λ is. (e.unbegun is).none }) e.place e.may

pub returns-clause-loses : goal.returns-clause-loses
returns-clause-loses g c =
    let old : Stage g.row.X-D.Denot g.X.D.Disk = stage c.args.cluster.now (g.X.Disks.depot c.args.disks.now) in
    let new : Stage g.row.X-D.Denot g.X.D.Disk = stage c.serve.new.self (g.X.Disks.depot c.serve.new.disks) in
    let e = c.serve.ensures in
    loses_so g.X.D.Disk.state old new c.args.request c.serve.result (record { out = c.requires.may.meta_out; served = e.served; tracks = e.tracks; any_moment = e.any_moment; tells = e.tells; saved = on_ok_weaker c.serve.result (λ may. may.saved) e.may; saves = λ stays. (e.others stays).2; unmade = e.unmade; unbegun = λ is. (e.unbegun is).none })
