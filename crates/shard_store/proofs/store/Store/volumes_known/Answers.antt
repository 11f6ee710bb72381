use Rattle.std.proofs.Common.{◌≡◌, Option, length, true, ap, sym, subst, arith}
use Rattle.store_log.specs.listed_volumes.shard_files.Parts.{counted_volumes}
use Rattle.store_log.specs.listed_volumes.Listed.{known_in}
use Rattle.shard_store.specs.StoreParts.{IsKept}
use Rattle.shard_store.specs.declared.opened.Opened.{Opened}
use Rattle.shard_store.proofs.KnownReads.{known_counted, volumes_counted}
use Rattle.shard_store.proofs.store.Store.volumes_known.Goals as goal

pub returns-in-Some-clause-open_ : goal.returns-in-Some-clause-open_
returns-in-Some-clause-open_ g c open_ tells =
    let opened = c.in-Some.opened in
    let d = g.D.Disk.state c.self.inside.disk in
    let kept = subst (λ (o : Option Opened). IsKept o (g.D.Disk.state c.self.inside.disk)) c.in-Some.is c.self.invariant in
    let disk = ap (λ s. s.disk) c.self.view_is in
    let told = subst (λ x. (g.D.Disk.state x).tells ≡ true) (sym disk) tells in
    let n = volumes_counted opened.volumes.items (g.D.Disk.state c.self.inside.disk).files (known_counted opened.held.points (known_in opened.volumes.items) opened.tenure opened.fence (g.D.Disk.state c.self.inside.disk) (g.met.D.Disk.lawful c.self.inside.disk) kept.0.exact told) in
    let same = ap (λ x. length (counted_volumes (g.D.Disk.state x).files)) disk in
    let len = opened.volumes.ok.0 in
    omega (arith, c.len.ensures, len, n, same)
