use Rattle.std.proofs.Common.{refl}
use Rattle.model_laws.proofs.ShapeLemmas.{other_answers, answer_too_few}
use Rattle.model_laws.proofs.shapes.answer_left_out.Goals as goal

pub returns-clause-as_many : goal.returns-clause-as_many
returns-clause-as_many c = λ a b c d. (refl, refl)

pub returns-clause-one_too_few : goal.returns-clause-one_too_few
returns-clause-one_too_few c = answer_too_few

pub returns-clause-first_list : goal.returns-clause-first_list
returns-clause-first_list c = other_answers
