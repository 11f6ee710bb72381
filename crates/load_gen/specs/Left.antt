-- What is left of a script.
use Rattle.std.specs.Prelude.{ℕ, suc, ◌%◌, ◌==◌, List, [], ◌∷◌, ◌++◌, if◌then◌else◌}
use Rattle.m3_model.specs.declared.turn.Request.{Request}
use Rattle.load_gen.specs.Draws.{after_writes}
use Rattle.load_gen.specs.Lines.{init_line, namespace_line, replace_line, bootstrap_line, flush_line, snapshot_line}
use Rattle.load_gen.specs.Script.{moment_of, writes, move_at, flushes_at, rounds}
use Rattle.load_gen.specs.declared.script.Next.{Next}
use Rattle.load_gen.specs.declared.script.Next.TheVariants.{Init, Namespace, Round, Write, Replace, Bootstrap, Flush, Snapshot, End}
use Rattle.load_gen.specs.declared.script.Script.{Script}

-- what comes behind the move of a round, and behind its writes
abbrev pub next_after_move : ℕ → Next
next_after_move moment = if moment % 100 == 0 then Flush else Round

abbrev pub next_by_moment : ℕ → Next
next_by_moment moment = if moment == 250 then Replace else next_after_move moment

-- the requests from the next one on, where so many rounds are to begin and the draws stand at this state
abbrev pub left_from : Next → ℕ → ℕ → List Request
left_from Init k x = init_line ∷ namespace_line ∷ rounds k x
left_from Namespace k x = namespace_line ∷ rounds k x
left_from Round k x = rounds k x
left_from (Write further) k x = writes (suc further) (moment_of k) x ++ ((move_at (moment_of k) ++ flushes_at (moment_of k)) ++ rounds k (after_writes (suc further) x))
left_from Replace k x = replace_line ∷ bootstrap_line ∷ (flushes_at (moment_of k) ++ rounds k x)
left_from Bootstrap k x = bootstrap_line ∷ (flushes_at (moment_of k) ++ rounds k x)
left_from Flush k x = flush_line ∷ snapshot_line ∷ rounds k x
left_from Snapshot k x = snapshot_line ∷ rounds k x
left_from End k x = []

-- the requests that a script has still to give
abbrev pub requests_left : Script → List Request
requests_left s = left_from s.next s.rounds s.x
