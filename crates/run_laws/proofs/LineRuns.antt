-- What came of lines.
use Rattle.std.proofs.Common.{◌≡◌, ◌<◌, ℕ, suc, List, [], ◌∷◌, ◌++◌, length, refl, sym, ap, ◌∙◌, arith, true, false, Some, None}
use Rattle.std.specs.Prelude.{Option, codes}
use Rattle.std.proofs.lemmas.Bool.{lt-ltb, ltb-true}
use Rattle.m3_model.specs.declared.act.Act.{Act}
use Rattle.m3_model.specs.declared.answer.Answer.TheVariants as answer
use Rattle.m3_model.specs.declared.rules.MetaState.{MetaState}
use Rattle.m3_model.specs.declared.turn.Turn.{Turn}
use Rattle.m3_replies.specs.Replies.{reply_text}
use Rattle.m3_program.specs.Exchanges.{Answered, IsOutcome, Passed, Refused, is_blank, known_place}
use Rattle.m3_program.specs.Long.{IsOutcomeByLength, is_long}
use Rattle.m3_program.specs.Runs.{IsNext, TakesLines, lines_of}
use Rattle.run_laws.specs.Samples.{ask, both_lines, gets, misanswered, one}
use Rattle.run_laws.proofs.ClashLemmas.{false_not, first_byte, longer, not_nothing, true_not}

-- ---- lines

pub another-refused : ¬ TakesLines both_lines (gets (codes "z") (codes "r") ∷ []) None
unfolding first_byte
another-refused h = let first : ◌≡◌ {A = ℕ} 120 122 = ap first_byte h.lines_are in omega (arith, first)

pub silent_line-refused : ¬ TakesLines both_lines (gets (codes "y") (codes "s") ∷ []) None
unfolding first_byte
silent_line-refused h = let first : ◌≡◌ {A = ℕ} 120 121 = ap first_byte h.lines_are in omega (arith, first)

pub behind-refused : ¬ TakesLines (120 ∷ 10 ∷ []) one (Some ask)
behind-refused h = by h.later h.lines_are h.next
  where
    by : (later : List (List ℕ)) → lines_of (120 ∷ 10 ∷ []) ≡ codes "x" ∷ later → IsNext (Some ask) later → ⊥
    by [] are next = next
    by (line ∷ lines) are next = let more : 1 ≡ suc (suc (length lines)) = ap length are in omega (arith, more)

-- ---- outcomes

module _ (start : Option MetaState) (turns : List Turn) where
  pub blank_answered-refused : (turn : Turn) (text : List ℕ) → ¬ IsOutcome start turns (codes " ") (Answered turn) text
  blank_answered-refused turn text h = true_not h.0

  pub blank_refused-refused : (text : List ℕ) → ¬ IsOutcome start turns (codes " ") (Refused answer.Form) text
  blank_refused-refused text h = true_not h.0

  pub blank_text-refused : ¬ IsOutcome start turns (codes " ") Passed (codes "r")
  blank_text-refused h = longer (codes "r") [] 1 0 refl refl (λ e. omega (arith, e)) h.1

  pub passed-refused : ¬ IsOutcome start turns (codes "x") Passed []
  passed-refused h = false_not h.0

  pub memory-refused : (text : List ℕ) → ¬ IsOutcome start turns (codes "x") (Refused answer.Memory) text
  memory-refused text h = h.1

  pub silent-refused : (turn : Turn) → ¬ IsOutcome start turns (codes "x") (Answered turn) []
  silent-refused turn h = not_nothing (reply_text (known_place start (turns ++ turn ∷ [])) turn.reply) 10 h.3

  pub shape-refused : (line text : List ℕ) (asked : Act) → ¬ IsOutcome start turns line (Answered (misanswered asked)) text
  shape-refused line text asked h = h.2

  -- ---- long lines

  pub short-refused : (line text : List ℕ) → length line ≡ 65536 → ¬ IsOutcomeByLength start turns line (Refused answer.Long) text
  short-refused line text size h = let long : 65536 < length line = ltb-true 65536 (length line) h.1 in omega (arith, size, long)

  -- one that isn't long isn't so long
  not_long : (line : List ℕ) → 65536 < length line → is_long line ≡ false → ⊥
  not_long line size is = true_not (sym (lt-ltb 65536 (length line) size) ∙ is)

  pub form-refused : (line text : List ℕ) → 65536 < length line → ¬ IsOutcomeByLength start turns line (Refused answer.Form) text
  form-refused line text size h = not_long line size h.0

  pub long_answered-refused : (turn : Turn) (line text : List ℕ) → 65536 < length line → ¬ IsOutcomeByLength start turns line (Answered turn) text
  long_answered-refused turn line text size h = not_long line size h.0

  pub blank-accepted : (line : List ℕ) → is_blank line ≡ true → IsOutcomeByLength start turns line Passed []
  blank-accepted line blank = (blank, refl)
