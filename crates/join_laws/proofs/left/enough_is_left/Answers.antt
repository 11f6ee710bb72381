use Rattle.join_laws.proofs.LeftLives.{expired-left, first-left, refused-left, two-left}
use Rattle.join_laws.proofs.left.enough_is_left.Goals as goal

pub returns-clause-two : goal.returns-clause-two
returns-clause-two c = two-left

pub returns-clause-expired : goal.returns-clause-expired
returns-clause-expired c = expired-left

pub returns-clause-refused : goal.returns-clause-refused
returns-clause-refused c = refused-left

pub returns-clause-first : goal.returns-clause-first
returns-clause-first c = first-left
