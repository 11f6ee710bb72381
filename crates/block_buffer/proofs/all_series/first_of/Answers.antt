use Rattle.std.proofs.Common.{◌∙◌}
use Rattle.block_buffer.proofs.all_series.first_of.Goals as goal

pub returns-then-space_at-ns : goal.returns-then-space_at-ns
returns-then-space_at-ns c s slots t there is some = absurd (c.if-space_at-ns.true (c.space_at.ensures s (record { slots = slots; entry = there }) ∙ is))

pub returns-in-Some : goal.returns-in-Some
returns-in-Some c s slots t there is some = (c.in-Some.ensures.some s slots there).first t some
