use Rattle.std.proofs.Common.{◌≡◌, ◌∙◌, Option, length, true, ap, sym, subst}
use Rattle.store_log.specs.listed_volumes.commit_log.Contents.{numbers}
use Rattle.shard_store.specs.StoreParts.{IsKept}
use Rattle.shard_store.specs.declared.opened.Opened.{Opened}
use Rattle.shard_store.proofs.store.Store.segments.Goals as goal

pub returns-in-Some-clause-open_ : goal.returns-in-Some-clause-open_
returns-in-Some-clause-open_ g c open_ tells =
    let opened = c.in-Some.opened in
    let kept = subst (λ (o : Option Opened). IsKept o (g.D.Disk.state c.self.inside.disk)) c.in-Some.is c.self.invariant in
    let disk = ap (λ s. s.disk) c.self.view_is in
    let told = subst (λ x. (g.D.Disk.state x).tells ≡ true) (sym disk) tells in
    c.segments.ensures (g.D.Disk.state c.self.inside.disk).files (kept.1 told) ∙ ap (λ x. length (numbers (g.D.Disk.state x).files)) disk
