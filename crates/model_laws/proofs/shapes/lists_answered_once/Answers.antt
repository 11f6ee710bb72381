use Rattle.model_laws.proofs.shapes.lists_answered_once.Goals as goal

pub returns-clause-order : goal.returns-clause-order
returns-clause-order c = λ clients workers. tt

pub returns-clause-memory : goal.returns-clause-memory
returns-clause-memory c = λ clients workers. tt

pub returns-clause-done : goal.returns-clause-done
returns-clause-done c = λ clients workers shaped. shaped

pub returns-clause-full : goal.returns-clause-full
returns-clause-full c = λ clients workers shaped. shaped
