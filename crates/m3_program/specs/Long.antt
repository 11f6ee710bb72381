-- What comes of lines in a program that tells apart those that are too long for a request.
use Rattle.std.specs.Prelude.{◌≡◌, ℕ, List, length, Option, Bool, true, false, nat_lt}
use Rattle.m3_model.specs.declared.answer.Answer.TheVariants as answer
use Rattle.m3_model.specs.declared.limits.TheConstants.{MOST_LINE_BYTES}
use Rattle.m3_model.specs.declared.rules.MetaState.{MetaState}
use Rattle.m3_model.specs.declared.turn.Reply.TheVariants as reply
use Rattle.m3_model.specs.declared.turn.Turn.{Turn}
use Rattle.m3_program.specs.Exchanges.{Outcome, Passed, Refused, IsOutcome, is_blank, known_place, reply_line}

-- a line of more bytes than a request may have
abbrev pub is_long : List ℕ → Bool
is_long line = nat_lt MOST_LINE_BYTES (length line)

-- a blank line is passed over, however long it is; another one that is long is refused so, whatever it has; and of one that isn't comes what did before
abbrev pub IsOutcomeByLength : Option MetaState → List Turn → List ℕ → Outcome → List ℕ → Type 0
IsOutcomeByLength start turns line Passed text = IsOutcome start turns line Passed text
IsOutcomeByLength start turns line (Refused answer.Long) text = (is_blank line ≡ false) × (is_long line ≡ true) × (text ≡ reply_line (known_place start turns) (reply.One answer.Long))
IsOutcomeByLength start turns line outcome text = (is_long line ≡ false) × IsOutcome start turns line outcome text
