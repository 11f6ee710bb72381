use Rattle.told_runs.proofs.StepLemmas.{refused_steps_serve, steps_serve, untaken_steps_serve}
use Rattle.told_runs.proofs.lines.steps_serve.Goals as goal

pub returns-clause-made : goal.returns-clause-made
returns-clause-made c = λ tells. steps_serve

pub returns-clause-refused : goal.returns-clause-refused
returns-clause-refused c = λ tells. refused_steps_serve

pub returns-clause-untaken : goal.returns-clause-untaken
returns-clause-untaken c = λ tells. untaken_steps_serve
