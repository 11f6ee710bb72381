use Rattle.std.proofs.Common.{◌≡◌, ap, ◌∙◌}
use Rattle.std.specs.Prelude.{None}
use Rattle.std.specs.FinMap as finite
use Rattle.disk_content.specs.Contents.{Content}
use Rattle.disk_content.proofs.HeldLemmas.{held_created, lies_created}
use Rattle.disk_content.proofs.content.Content.create.Goals as goal

pub invariant_of-self-2 : goal.invariant_of-self-2
invariant_of-self-2 c =
    let none : finite.get c.self.inside.seen c.args.name ≡ None = ap (λ (h : Content). finite.get h.seen c.args.name) c.self.view_is ∙ c.requires in
    rw c.in_ok-insert_zeros.ensures.ok (lies_created c.self.inside.undo.entries c.self.inside.seen c.args.name c.args.size none c.self.invariant)

pub returns-clause-ok : goal.returns-clause-ok
returns-clause-ok c =
    let none : finite.get c.self.inside.seen c.args.name ≡ None = ap (λ (h : Content). finite.get h.seen c.args.name) c.self.view_is ∙ c.requires in
    rw (c.in_ok-insert_zeros.ensures.ok, ← c.self.view_is) (held_created c.self.inside.seen c.self.inside.undo c.args.name c.args.size none c.self.invariant)
