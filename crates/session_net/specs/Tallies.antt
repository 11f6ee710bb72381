-- Room in a tally.
use Rattle.std.specs.Prelude.{ℕ, ◌+◌, ◌≤◌, vec_len}
use Rattle.std.specs.Vec.{vec_capacity}
use Rattle.session_net.specs.declared.tally.Tally.{Tally}

-- so many further nodes can be counted without memory
pub record HasRoom (n : ℕ) (tally : Tally) : Type 0 where
  pub for_answers : vec_len tally.answered + n ≤ vec_capacity tally.answered
  pub for_reasons : vec_len tally.reasons + n ≤ vec_capacity tally.reasons
