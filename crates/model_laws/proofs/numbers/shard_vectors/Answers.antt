use Rattle.std.proofs.Common.{refl}
use Rattle.m3_model.specs.Hash.{murmur3}
use Rattle.model_laws.proofs.numbers.shard_vectors.Goals as goal

pub returns-clause-hello : goal.returns-clause-hello
unfolding murmur3
returns-clause-hello c = refl

pub returns-clause-hello_world : goal.returns-clause-hello_world
unfolding murmur3
returns-clause-hello_world c = refl
