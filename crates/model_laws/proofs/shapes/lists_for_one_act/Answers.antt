use Rattle.model_laws.proofs.shapes.lists_for_one_act.Goals as goal

pub returns-clause-one : goal.returns-clause-one
returns-clause-one c = λ a b. tt

pub returns-clause-lists : goal.returns-clause-lists
returns-clause-lists c = λ a for_clients for_workers shaped. shaped
