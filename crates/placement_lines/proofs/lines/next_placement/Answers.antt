use Rattle.placement_lines.proofs.LineLemmas.{plan_leads, late_plan_told}
use Rattle.placement_lines.proofs.lines.next_placement.Goals as goal

pub returns-in-Ok-clause-next : goal.returns-in-Ok-clause-next
returns-in-Ok-clause-next c = plan_leads c.args.place.now c.args.kept c.args.act.now c.requires.step c.in-Ok.next c.in-Ok.ensures.plan c.if-kept-lt-MOST_VERSIONS.true

pub returns-in-Ok-2-clause-refused : goal.returns-in-Ok-2-clause-refused
returns-in-Ok-2-clause-refused c =
    late_plan_told c.args.place.now c.args.kept c.args.act.now c.requires.step c.past_versions.result c.in-Ok-2.field-0 c.in-Ok-2.ensures.plan c.if-kept-lt-MOST_VERSIONS.false c.past_versions.ensures
