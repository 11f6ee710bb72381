use Rattle.std.proofs.Common.{ap, length}
use Rattle.m3_outside.specs.Files.{IsInside}
use Rattle.disk_content.specs.Contents.{Content}
use Rattle.disk_content.proofs.HeldLemmas.{held_failed, lies_failed}
use Rattle.disk_content.proofs.content.Content.fail_write.Goals as goal

pub invariant_of-self : goal.invariant_of-self
invariant_of-self c =
    let inside : IsInside c.args.name c.args.at (length c.args.bytes.now) c.self.inside.seen = rw (ap (λ (h : Content). h.seen) c.self.view_is) c.requires.inside in
    rw c.add_failed.ensures (lies_failed c.self.inside.seen c.self.inside.undo c.args.name c.args.at c.args.bytes.now inside c.self.invariant)

pub returns : goal.returns
returns c = rw (c.add_failed.ensures, ← c.self.view_is) (held_failed c.self.inside.seen c.self.inside.undo c.args.name c.args.at c.args.bytes.now)
