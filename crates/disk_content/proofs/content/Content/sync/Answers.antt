use Rattle.std.proofs.Common.{ap}
use Rattle.m3_outside.specs.Files.{IsPresent}
use Rattle.disk_content.specs.Contents.{Content}
use Rattle.disk_content.proofs.HeldLemmas.{held_synced, lies_synced}
use Rattle.disk_content.proofs.content.Content.sync.Goals as goal

pub invariant_of-self : goal.invariant_of-self
invariant_of-self c = rw c.drop_file.ensures (lies_synced c.self.inside.seen c.self.inside.undo c.args.name c.self.invariant)

pub returns : goal.returns
returns c =
    let present : IsPresent c.args.name c.self.inside.seen = rw (ap (λ (h : Content). h.seen) c.self.view_is) c.requires.present in
    rw (c.drop_file.ensures, ← c.self.view_is) (held_synced c.self.inside.seen c.self.inside.undo c.args.name present)
