-- The numbers that a cluster keeps for the next calls of its clients, after the turns.
use Rattle.std.specs.Prelude.{◌≡◌, ℕ, ◌+◌, ◌-◌, ◌^◌, List, [], ◌∷◌, ◌++◌, length, min, replicate, slice_index, slice_set}
use Rattle.m3_model.specs.declared.act.Act.{Act}
use Rattle.m3_model.specs.declared.act.Act.TheVariants as act
use Rattle.m3_model.specs.declared.answer.Answer.{Answer}
use Rattle.m3_model.specs.declared.answer.Answer.TheVariants as answer
use Rattle.m3_model.specs.declared.limits.TheConstants.{MOST_CLIENTS}
use Rattle.m3_model.specs.declared.turn.Turn.{Turn}
use Rattle.transcripts.specs.Fates.{numbering_after}
use Rattle.transcripts.specs.Record.{line_of}

-- the last number, at which a numbering stays
abbrev pub last_number : ℕ
last_number = 2 ^ 64 - 1

-- the next call of the lines outside `par` has the number that the turns leave, as far as numbers go
pub record IsNumbered (turns : List Turn) (calls : List ℕ) : Type 0 where
  pub next : slice_index calls 0 ≡ min (numbering_after 0 turns).calls last_number
  pub all : length calls ≡ MOST_CLIENTS + 1

-- the numbers after a call of the lines outside `par`
abbrev pub after_call : List ℕ → List ℕ
after_call calls = slice_set calls 0 (min (slice_index calls 0 + 1) last_number)

-- and after a line of this act with this answer: a call counts whatever it is answered, and accepted fates begin anew
abbrev pub numbers_by : Act → Answer → List ℕ → List ℕ
numbers_by (act.Write ns id t v level version) b calls = after_call calls
numbers_by (act.Fetch ns id from to level version) b calls = after_call calls
numbers_by (act.Match ns wanted from to level version) b calls = after_call calls
numbers_by (act.Fates list) answer.Done calls = replicate (MOST_CLIENTS + 1) 0
numbers_by _ b calls = calls

-- ---- laws

-- So they stay the numbers that the turns leave.
abbrev pub NumbersStay : Type 0
NumbersStay = (turns : List Turn) (calls : List ℕ) (a : Act) (b : Answer) → IsNumbered turns calls → IsNumbered (turns ++ line_of a b ∷ []) (numbers_by a b calls)
