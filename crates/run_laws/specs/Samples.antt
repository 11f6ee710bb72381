-- Lines of runs that are broken in one way, and the replies to them.
use Rattle.std.specs.Prelude.{ℕ, List, [], ◌∷◌, codes}
use Rattle.m3_model.specs.declared.act.Act.{Act}
use Rattle.m3_model.specs.declared.act.Act.TheVariants as act
use Rattle.m3_model.specs.declared.turn.Reply.TheVariants as reply
use Rattle.m3_model.specs.declared.turn.Request.{Request}
use Rattle.m3_model.specs.declared.turn.Request.TheVariants as request
use Rattle.m3_model.specs.declared.turn.Turn.{Turn}
use Rattle.m3_program.specs.Exchanges.{Exchange, Passed}

-- a line that gets this text
abbrev pub gets : List ℕ → List ℕ → Exchange
gets line text = record { line = line; outcome = Passed; text = text }

-- the line `x` gets `r`
abbrev pub one : List Exchange
one = gets (codes "x") (codes "r") ∷ []

-- and the line `y` gets `s`
abbrev pub two : List Exchange
two = gets (codes "x") (codes "r") ∷ gets (codes "y") (codes "s") ∷ []

-- both lines, each with its newline
abbrev pub both_lines : List ℕ
both_lines = 120 ∷ 10 ∷ 121 ∷ 10 ∷ []

-- a request
abbrev pub ask : Request
ask = request.One (act.Now 5)

-- a request of one act that is answered as clients side by side are
abbrev pub misanswered : Act → Turn
misanswered a = record { request = request.One a; reply = reply.Par [] [] }
