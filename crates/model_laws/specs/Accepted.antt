-- Transcripts that are kept, or whose answers have their causes.
use Rattle.std.specs.Prelude.{ℕ, ℤ, List, [], ◌∷◌, Some, None, pos, codes}
use Rattle.transcripts.specs.Record.{Life}
use Rattle.m3_model.specs.declared.turn.Request.TheVariants as request
use Rattle.m3_model.specs.declared.turn.Reply.TheVariants as reply
use Rattle.m3_model.specs.declared.turn.Turn.{Turn}
use Rattle.m3_model.specs.declared.act.Act.TheVariants as act
use Rattle.m3_model.specs.declared.answer.Answer.TheVariants as answer
use Rattle.m3_model.specs.declared.reason.Reason.TheVariants as reason
use Rattle.model_laws.specs.Building.{made, named, moved, begun, line, wrote, wrote_in, refused, refused_in, narrow, read, write, fetch, acks, unmet, found, series_of, place, space}

-- a write, and a fetch that finds it
abbrev pub write_then_read : List Turn
write_then_read = begun 100 (wrote 100 (pos 5) ∷ read 0 200 ((100, pos 5) ∷ []) ∷ [])

-- three writes at one time, the highest value in the middle, and a fetch that finds the highest
abbrev pub three_values : List Turn
three_values = begun 100 (wrote 100 (pos 4) ∷ wrote 100 (pos 9) ∷ wrote 100 (pos 4) ∷ read 0 200 ((100, pos 9) ∷ []) ∷ [])

-- writes at 100 and 120, a fetch from 100 to 120 that finds the first alone, and a fetch of an empty range
abbrev pub two_ranges : List Turn
two_ranges = begun 100 (wrote 100 (pos 1) ∷ wrote 120 (pos 2) ∷ read 100 120 ((100, pos 1) ∷ []) ∷ read 120 100 [] ∷ [])

-- a write at 1000 that a fetch finds at moment 1499, and that is gone at moment 1500
abbrev pub until_expiry : List Turn
until_expiry = begun 1000 (wrote 1000 (pos 7) ∷ moved 1499 ∷ read 0 2000 ((1000, pos 7) ∷ []) ∷ moved 1500 ∷ read 0 2000 [] ∷ [])

-- a run that took a write and was cut short, and a run after it that finds these points
abbrev pub after_cut : List (ℕ × ℤ) → Life
after_cut points = record {
  past = record { start = None; turns = begun 100 []; unanswered = Some (request.One (write 100 (pos 5))) } ∷ [];
  present = record {
    start = Some (record { rules = record { now = 100; spaces = space ∷ [] }; seed = 0; place = place });
    turns = read 0 200 points ∷ [];
    unanswered = None;
  };
}

-- one client writes, and beside it another client's fetch finds these points
abbrev pub write_beside : List (ℕ × ℤ) → List Turn
write_beside points =
    begun 100 (record {
      request = request.Par ((write 100 (pos 5) ∷ []) ∷ (fetch 0 200 ∷ []) ∷ []) [];
      reply = reply.Par ((acks (0 ∷ 1 ∷ 2 ∷ []) ∷ []) ∷ (found (series_of points) ∷ []) ∷ []) [];
    } ∷ [])

-- at moment 250 writes at 150 and 300, which each node refuses, and at 151 and 299, which all take
abbrev pub edge_writes : List Turn
edge_writes = begun 250 (
    refused 150 (pos 1) reason.Past
    ∷ wrote 151 (pos 2)
    ∷ wrote 299 (pos 3)
    ∷ refused 300 (pos 4) reason.Future
    ∷ read 0 400 ((151, pos 2) ∷ (299, pos 3) ∷ [])
    ∷ [])

-- at moment 250 writes into `n` at 240 and 270, which each node refuses, and at 241 and 269, and writes into `m` at 240 and 270, which all take
abbrev pub narrow_writes : List Turn
narrow_writes =
    made ∷ named ∷ line (act.Namespace narrow.name narrow.block narrow.past narrow.future narrow.retention) answer.Done ∷ moved 250
    ∷ refused_in (codes "n") 240 (pos 1) reason.Past
    ∷ wrote_in (codes "n") 241 (pos 2)
    ∷ wrote_in (codes "n") 269 (pos 3)
    ∷ refused_in (codes "n") 270 (pos 4) reason.Future
    ∷ wrote 240 (pos 5)
    ∷ wrote 270 (pos 6)
    ∷ []

-- a write that one node took, since memory was wanted at the two others, and a fetch that finds these points
abbrev pub unmet_then_read : List (ℕ × ℤ) → List Turn
unmet_then_read points = begun 100 (line (write 100 (pos 5)) (unmet 1 ((1, reason.Memory) ∷ (2, reason.Memory) ∷ [])) ∷ read 0 200 points ∷ [])
