-- What a run does with one line after the other.
use Rattle.std.specs.Prelude.{◌≡◌, ℕ, List, [], ◌∷◌, ◌++◌, Option, Ok, Err, Bool, true, false, ◌||◌, ◌==◌}
use Rattle.std.specs.List.{list_all, flat_map}
use Rattle.m3_model.specs.declared.placement.Placement.{Placement}
use Rattle.m3_model.specs.declared.rules.MetaState.{MetaState}
use Rattle.m3_model.specs.declared.answer.Answer.{Answer}
use Rattle.m3_model.specs.declared.answer.Answer.TheVariants as answer
use Rattle.m3_model.specs.declared.turn.Reply.{Reply}
use Rattle.m3_model.specs.declared.turn.Reply.TheVariants as reply
use Rattle.m3_model.specs.declared.turn.Turn.{Turn}
use Rattle.transcripts.specs.Record.{IsAnsweredBy, inner_turns}
use Rattle.transcripts.specs.Placements.{placement_after, start_placement}
use Rattle.line_fields.specs.declared.fault.LineErr.TheVariants as fault
use Rattle.m3_json.specs.Requests.{LineMeans}
use Rattle.m3_replies.specs.Replies.{reply_text}

-- What comes of a line: it is passed over, it is no request that is served, or it makes a turn.
pub data Outcome : Type 0 where
  Passed : Outcome
  Refused : (refusal : Answer) → Outcome
  Answered : (turn : Turn) → Outcome

-- A line without its newline, what came of it, and what is to be written for it.
pub record Exchange : Type 0 where
  pub line : List ℕ
  pub outcome : Outcome
  pub text : List ℕ

abbrev pub turns_by : Outcome → List Turn
turns_by Passed = []
turns_by (Refused refusal) = []
turns_by (Answered turn) = turn ∷ []

-- the turns of these lines
abbrev pub turns_of : List Exchange → List Turn
turns_of xs = flat_map (λ x. turns_by x.outcome) xs

-- a space, a tab or a carriage return
abbrev pub is_blank_byte : ℕ → Bool
is_blank_byte b = (b == 32 || b == 9) || b == 13

abbrev pub is_blank : List ℕ → Bool
is_blank line = list_all is_blank_byte line

-- the last placement that the turns printed, from which nodes have their names
abbrev pub known_place : Option MetaState → List Turn → Option Placement
known_place start turns = placement_after (start_placement start) (inner_turns turns)

-- the line of a reply
abbrev pub reply_line : Option Placement → Reply → List ℕ
reply_line place r = reply_text place r ++ 10 ∷ []

-- why a line is refused without a turn: it is no request, or one that no part of the program serves yet
abbrev pub IsRefusal : List ℕ → Answer → Type 0
IsRefusal line answer.Form = LineMeans line (Err fault.Form)
IsRefusal line answer.Later = LineMeans line (Err fault.Later)
IsRefusal line _ = ⊥

-- a blank line is passed over; another one is refused, or is a request that is answered in its own shape, after the turns before it
abbrev pub IsOutcome : Option MetaState → List Turn → List ℕ → Outcome → List ℕ → Type 0
IsOutcome start turns line Passed text = (is_blank line ≡ true) × (text ≡ [])
IsOutcome start turns line (Refused refusal) text = (is_blank line ≡ false) × IsRefusal line refusal × (text ≡ reply_line (known_place start turns) (reply.One refusal))
IsOutcome start turns line (Answered turn) text =
    (is_blank line ≡ false) × LineMeans line (Ok turn.request) × IsAnsweredBy turn.request turn.reply × (text ≡ reply_line (known_place start (turns ++ turn ∷ [])) turn.reply)

abbrev pub IsExchange : Option MetaState → List Turn → Exchange → Type 0
IsExchange start turns x = IsOutcome start turns x.line x.outcome x.text

-- each exchange comes after the turns of those before it
abbrev pub AreExchanges : Option MetaState → List Exchange → Type 0
AreExchanges start xs = (before : List Exchange) (x : Exchange) (after : List Exchange) → xs ≡ before ++ x ∷ after → IsExchange start (turns_of before) x

-- all that is to be written
abbrev pub replies_text : List Exchange → List ℕ
replies_text xs = flat_map (λ x. x.text) xs
