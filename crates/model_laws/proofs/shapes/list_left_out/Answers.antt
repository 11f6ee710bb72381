use Rattle.std.proofs.Common.{refl}
use Rattle.model_laws.proofs.ShapeLemmas.{other_clients, other_workers, list_too_few}
use Rattle.model_laws.proofs.shapes.list_left_out.Goals as goal

pub returns-clause-as_many : goal.returns-clause-as_many
returns-clause-as_many c = λ a b c d. (refl, refl)

pub returns-clause-one_too_few : goal.returns-clause-one_too_few
returns-clause-one_too_few c = list_too_few

pub returns-clause-clients : goal.returns-clause-clients
returns-clause-clients c = other_clients

pub returns-clause-workers : goal.returns-clause-workers
returns-clause-workers c = other_workers
