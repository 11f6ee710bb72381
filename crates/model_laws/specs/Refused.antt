-- Transcripts that are not kept, each broken in one way.
use Rattle.std.specs.Prelude.{ℕ, ℤ, List, [], ◌∷◌, None, true, false, pos, codes}
use Rattle.m3_model.specs.declared.act.Act.{Act}
use Rattle.m3_model.specs.declared.act.Act.TheVariants as act
use Rattle.m3_model.specs.declared.turn.Request.TheVariants as request
use Rattle.m3_model.specs.declared.turn.Reply.TheVariants as reply
use Rattle.m3_model.specs.declared.act.WriteLevel.TheVariants as write_level
use Rattle.m3_model.specs.declared.answer.Answer.{Answer}
use Rattle.m3_model.specs.declared.turn.Turn.{Turn}
use Rattle.model_laws.specs.Building.{begun, fetch_in, moved, wrote, read, line, write, fetch, matching, zone_is, series_of, acks, found}

-- an acknowledged write, and a fetch that finds nothing
abbrev pub without_the_point : List Turn
without_the_point = begun 100 (wrote 100 (pos 5) ∷ read 0 200 [] ∷ [])

-- values 4 and 9 at one time, and a fetch that finds 4
abbrev pub with_lower_value : List Turn
with_lower_value = begun 100 (wrote 100 (pos 4) ∷ wrote 100 (pos 9) ∷ read 0 200 ((100, pos 4) ∷ []) ∷ [])

-- a fetch that finds what was written, and a point at a time at which nothing was
abbrev pub with_other_point : List Turn
with_other_point = begun 100 (wrote 100 (pos 5) ∷ read 0 200 ((100, pos 5) ∷ (120, pos 7) ∷ []) ∷ [])

-- a fetch that finds a value above all that were written
abbrev pub with_higher_value : List Turn
with_higher_value = begun 100 (wrote 100 (pos 5) ∷ read 0 200 ((100, pos 9) ∷ []) ∷ [])

-- a fetch that finds both points, the later one first
abbrev pub with_later_first : List Turn
with_later_first = begun 100 (wrote 100 (pos 1) ∷ wrote 120 (pos 2) ∷ read 0 200 ((120, pos 2) ∷ (100, pos 1) ∷ []) ∷ [])

-- a fetch that finds one point twice
abbrev pub with_point_twice : List Turn
with_point_twice = begun 100 (wrote 100 (pos 5) ∷ read 0 200 ((100, pos 5) ∷ (100, pos 5) ∷ []) ∷ [])

-- a fetch that finds a series without points, where nothing was written
abbrev pub with_empty_series : List Turn
with_empty_series = begun 100 (line (fetch 0 200) (found (record { id = codes "hello"; points = [] } ∷ [])) ∷ [])

-- a write at 1000 that a fetch doesn't find at moment 1499
abbrev pub without_kept_point : List Turn
without_kept_point = begun 1000 (wrote 1000 (pos 7) ∷ moved 1499 ∷ read 0 2000 [] ∷ [])

-- a write at 1000 that a fetch still finds at moment 1500
abbrev pub with_expired_point : List Turn
with_expired_point = begun 1000 (wrote 1000 (pos 7) ∷ moved 1499 ∷ read 0 2000 ((1000, pos 7) ∷ []) ∷ moved 1500 ∷ read 0 2000 ((1000, pos 7) ∷ []) ∷ [])

-- a fetch from 100 to 120 that finds a point at 120
abbrev pub with_point_at_end : List Turn
with_point_at_end = begun 100 (wrote 100 (pos 1) ∷ wrote 120 (pos 2) ∷ read 100 120 ((100, pos 1) ∷ (120, pos 2) ∷ []) ∷ [])

-- a write of another series, which a fetch of `hello` finds
abbrev pub with_other_series : List Turn
with_other_series =
    begun 100 (
    line (act.Write (codes "m") (codes "world") 100 (pos 5) write_level.Majority None) (acks (0 ∷ 1 ∷ 2 ∷ []))
    ∷ line (fetch 0 200) (found (record { id = codes "world"; points = (100, pos 5) ∷ [] } ∷ []))
    ∷ [])

-- a write of a series without tags, and a match of the series whose `zone` isn't `q` that finds nothing
abbrev pub without_untagged : List Turn
without_untagged = begun 100 (wrote 100 (pos 5) ∷ line (matching (zone_is false) 0 200) (found []) ∷ [])

-- the same, and a match of the series whose `zone` is `q` that finds it
abbrev pub with_other_tags : List Turn
with_other_tags = begun 100 (wrote 100 (pos 5) ∷ line (matching (zone_is true) 0 200) (found (series_of ((100, pos 5) ∷ []))) ∷ [])

-- an answered fetch of a namespace that nothing made
abbrev pub with_unknown_namespace : List Turn
with_unknown_namespace = begun 100 (line (fetch_in (codes "n") 0 200) (found []) ∷ [])

-- a write that got this answer, and a fetch that finds its point
abbrev pub with_point_answered : Answer → List Turn
with_point_answered b = begun 100 (line (write 100 (pos 5)) b ∷ read 0 200 ((100, pos 5) ∷ []) ∷ [])

-- one client does these two acts one after the other, with these answers
abbrev pub one_client : Act → Answer → Act → Answer → List Turn
one_client a b next then =
    begun 100 (record { request = request.Par ((a ∷ next ∷ []) ∷ []) []; reply = reply.Par ((b ∷ then ∷ []) ∷ []) [] } ∷ [])

-- a client writes, and its fetch after it finds these points
abbrev pub own_write : List (ℕ × ℤ) → List Turn
own_write points = one_client (write 100 (pos 5)) (acks (0 ∷ 1 ∷ 2 ∷ [])) (fetch 0 200) (found (series_of points))

-- a client's fetch finds these points, and it writes after it
abbrev pub own_later_write : List (ℕ × ℤ) → List Turn
own_later_write points = one_client (fetch 0 200) (found (series_of points)) (write 100 (pos 5)) (acks (0 ∷ 1 ∷ 2 ∷ []))
