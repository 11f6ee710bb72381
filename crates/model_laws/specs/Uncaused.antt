-- Transcripts with an answer that has no cause, each broken in one way.
use Rattle.std.specs.Prelude.{ℕ, ℤ, List, [], ◌∷◌, None, pos, codes, Bool, true}
use Rattle.transcripts.specs.Record.{TurnPosition}
use Rattle.m3_model.specs.declared.act.Act.TheVariants as act
use Rattle.m3_model.specs.declared.act.ReadLevel.{ReadLevel}
use Rattle.m3_model.specs.declared.answer.Answer.{Answer}
use Rattle.m3_model.specs.declared.answer.Answer.TheVariants as answer
use Rattle.m3_model.specs.declared.turn.Turn.{Turn}
use Rattle.model_laws.specs.Building.{with_two_shards, begun, line, made, at_moment, wrote, init, write, fetch, placed, assigned, series_of, position_after}
use Rattle.model_laws.specs.Messages.{stopped, unstrict}

-- a write that got this answer, after the cluster and the namespace were made
abbrev pub write_answered : Answer → List Turn
write_answered b = at_moment 100 (write 100 (pos 5)) b

-- a write that all nodes took, before there were any
abbrev pub write_first : List Turn
write_first = wrote 100 (pos 5) ∷ []

-- a cluster that was made twice
abbrev pub made_twice : List Turn
made_twice = made ∷ made ∷ []

-- a fetch at level majority that only some nodes answered
abbrev pub fetch_short : List Turn
fetch_short = at_moment 100 (fetch 0 200) (answer.Found [] true)

-- an `init` of three replicas that gave the shard to two nodes
abbrev pub made_of_two : List Turn
made_of_two = init (answer.Placed (placed (assigned 0 ∷ assigned 1 ∷ [])) 1) ∷ []

-- an unstrict fetch after a write that all nodes took, and which it finds or not
abbrev pub unstrict_found : List (ℕ × ℤ) → Bool → List Turn
unstrict_found points short = begun 100 (wrote 100 (pos 5) ∷ line (unstrict 0 200) (answer.Found (series_of points) short) ∷ [])

-- a fetch at this level that is short
abbrev pub short_at : ReadLevel → List Turn
short_at level = at_moment 100 (act.Fetch (codes "m") (codes "hello") 0 200 level None) (answer.Found [] true)

-- where the unstrict fetch stands
abbrev pub unstrict_position : Bool → TurnPosition
unstrict_position short = position_after (begun 100 (wrote 100 (pos 5) ∷ [])) (unstrict 0 200) (answer.Found [] short)

-- a stopped node that is refused to be restarted
abbrev pub restart_refused : List Turn
restart_refused = begun 100 (stopped (codes "c") ∷ line (act.Restart (codes "c") 0) (answer.State (codes "c")) ∷ [])

-- an unstrict fetch of the cluster of two shards with one replica each, which is short
abbrev pub answered_by_nobody : List Turn
answered_by_nobody = with_two_shards (unstrict 0 200) (answer.Found [] true)
