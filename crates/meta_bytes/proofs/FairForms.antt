-- Some bytes have each form of a state.
use Rattle.std.proofs.Common.{refl, arith}
use Rattle.meta_bytes.specs.Forms.{IsFair}
use Rattle.meta_bytes.specs.States.{name_form, instance_form, assignment_form, shard_form, space_form, state_form}

pub fair_name : IsFair name_form
fair_name = (omega arith, omega arith, record { n = 97; small = omega arith; passed = refl })

pub fair_instance : IsFair instance_form
fair_instance = (fair_name, (fair_name, (omega arith, omega arith)))

pub fair_assignment : IsFair assignment_form
fair_assignment = ((omega arith, omega arith), ((omega arith, omega arith), ((omega arith, omega arith), record { n = 255; small = omega arith; passed = refl })))

pub fair_shard : IsFair shard_form
fair_shard = (omega arith, omega arith, fair_assignment)

pub fair_space : IsFair space_form
fair_space = (fair_name, ((omega arith, omega arith), ((omega arith, omega arith), ((omega arith, omega arith), (omega arith, omega arith)))))

pub fair_state : IsFair state_form
fair_state = ((omega arith, omega arith), ((omega arith, omega arith), ((omega arith, omega arith), ((omega arith, omega arith), ((omega arith, omega arith), ((omega arith, omega arith, fair_instance), ((omega arith, omega arith, fair_shard), (omega arith, omega arith, fair_space))))))))
