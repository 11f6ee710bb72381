use Rattle.disk_content.proofs.HeldLemmas.{held_removed, lies_removed}
use Rattle.disk_content.proofs.content.Content.remove.Goals as goal

pub invariant_of-self : goal.invariant_of-self
invariant_of-self c = rw (c.drop_file.ensures, c.remove.ensures) (lies_removed c.self.inside.seen c.self.inside.undo c.args.name c.self.invariant)

pub returns : goal.returns
returns c = rw (c.drop_file.ensures, c.remove.ensures, ← c.self.view_is) (held_removed c.self.inside.seen c.self.inside.undo c.args.name)
