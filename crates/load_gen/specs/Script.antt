-- The script of a seed.
use Rattle.std.specs.Prelude.{ℕ, zero, suc, ◌-◌, ◌%◌, ◌==◌, List, [], ◌∷◌, ◌++◌, if◌then◌else◌}
use Rattle.m3_model.specs.declared.turn.Request.{Request}
use Rattle.load_gen.specs.Draws.{drawn, after_writes}
use Rattle.load_gen.specs.Lines.{init_line, namespace_line, now_line, write_line, replace_line, bootstrap_line, flush_line, snapshot_line, match_line}

-- the moment of the round, of 500, behind which so many follow
abbrev pub moment_of : ℕ → ℕ
moment_of rounds = 500 - rounds

-- so many writes at the moment, with draws from this state on
unfoldable pub writes : ℕ → ℕ → ℕ → List Request
writes zero moment x = []
writes (suc k) moment x = write_line moment x ∷ writes k moment (drawn (drawn x))

-- at one moment a node is replaced
abbrev pub move_at : ℕ → List Request
move_at moment = if moment == 250 then replace_line ∷ bootstrap_line ∷ [] else []

-- at each hundredth moment all replicas are flushed
abbrev pub flushes_at : ℕ → List Request
flushes_at moment = if moment % 100 == 0 then flush_line ∷ snapshot_line ∷ [] else []

-- the round of the moment: ten writes, the move where it is due, and the flushes where they are
abbrev pub round : ℕ → ℕ → List Request
round moment x = now_line moment ∷ (writes 10 moment x ++ (move_at moment ++ flushes_at moment))

-- the last so many of the 500 rounds, with draws from this state on, and then the match
unfoldable pub rounds : ℕ → ℕ → List Request
rounds zero x = match_line ∷ []
rounds (suc k) x = round (moment_of k) x ++ rounds k (after_writes 10 x)

-- the whole script
abbrev pub script : ℕ → List Request
script n = init_line ∷ namespace_line ∷ rounds 500 n
