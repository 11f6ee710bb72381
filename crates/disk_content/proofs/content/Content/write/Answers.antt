use Rattle.std.proofs.Common.{ap, length}
use Rattle.m3_outside.specs.Files.{IsInside}
use Rattle.disk_content.specs.Contents.{Content}
use Rattle.disk_content.proofs.HeldLemmas.{held_written, lies_written}
use Rattle.disk_content.proofs.content.Content.write.Goals as goal

pub invariant_of-self : goal.invariant_of-self
invariant_of-self c =
    let inside : IsInside c.args.name c.args.at (length c.args.bytes.now) c.self.inside.seen = rw (ap (λ (h : Content). h.seen) c.self.view_is) c.requires.inside in
    rw (c.write.ensures.after, c.write.ensures.files) (lies_written c.self.inside.seen c.args.name c.args.at c.args.bytes.now inside c.self.inside.undo c.self.invariant)

pub returns : goal.returns
returns c =
    let inside : IsInside c.args.name c.args.at (length c.args.bytes.now) c.self.inside.seen = rw (ap (λ (h : Content). h.seen) c.self.view_is) c.requires.inside in
    rw (c.write.ensures.after, c.write.ensures.files, ← c.self.view_is) (held_written c.self.inside.seen c.args.name c.args.at c.args.bytes.now inside c.self.inside.undo)
