use Rattle.move_laws.proofs.StepLemmas.{led_is_printed, refused_is_answered}
use Rattle.move_laws.proofs.steps.steps_are_planned.Goals as goal

pub returns-clause-led : goal.returns-clause-led
returns-clause-led c = λ tells. led_is_printed

pub returns-clause-refused : goal.returns-clause-refused
returns-clause-refused c = λ tells. refused_is_answered
