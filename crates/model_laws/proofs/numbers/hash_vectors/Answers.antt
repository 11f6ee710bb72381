use Rattle.std.proofs.Common.{refl}
use Rattle.m3_model.specs.Hash.{murmur3}
use Rattle.model_laws.proofs.numbers.hash_vectors.Goals as goal

pub returns-clause-empty : goal.returns-clause-empty
unfolding murmur3
returns-clause-empty c = refl

pub returns-clause-seeded : goal.returns-clause-seeded
unfolding murmur3
returns-clause-seeded c = refl

pub returns-clause-hello : goal.returns-clause-hello
unfolding murmur3
returns-clause-hello c = refl

pub returns-clause-hello_world : goal.returns-clause-hello_world
unfolding murmur3
returns-clause-hello_world c = refl

pub returns-clause-one_left : goal.returns-clause-one_left
unfolding murmur3
returns-clause-one_left c = refl

pub returns-clause-two_left : goal.returns-clause-two_left
unfolding murmur3
returns-clause-two_left c = refl

pub returns-clause-three_left : goal.returns-clause-three_left
unfolding murmur3
returns-clause-three_left c = refl
