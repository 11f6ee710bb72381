-- What the replies to a script came to.
use Rattle.std.specs.Prelude.{◌≡◌, ℕ, ◌-◌, ℤ, ◌+ℤ◌, pos, List, [], ◌∷◌, ◌++◌, length, Bool, true, false, Option, Some, None, codes, count_by, decimal}
use Rattle.std.specs.List.{flat_map, last_or}
use Rattle.std.specs.Fmt.{signed_decimal}
use Rattle.m3_model.specs.declared.answer.Answer.{Answer}
use Rattle.m3_model.specs.declared.answer.Answer.TheVariants as answer
use Rattle.m3_model.specs.declared.point.Series.{Series}
use Rattle.m3_model.specs.declared.turn.Reply.{Reply}
use Rattle.m3_model.specs.declared.turn.Reply.TheVariants as reply
use Rattle.load_gen.specs.declared.summary.Summary.{Summary}

-- the answer is none of those with an error
abbrev pub is_fine : Answer → Bool
is_fine answer.Done = true
is_fine (answer.Placed placement version) = true
is_fine (answer.Acks acks) = true
is_fine (answer.Found series short) = true
is_fine (answer.Outcomes outcomes) = true
is_fine (answer.Available available placement version) = true
is_fine (answer.Swept done failed) = true
is_fine (answer.Repaired shards) = true
is_fine (answer.Status now replicas version) = true
is_fine _ = false

-- the reply says ok
abbrev pub says_ok : Reply → Bool
says_ok (reply.One a) = is_fine a
says_ok (reply.Par clients workers) = true

-- the points of these series, one after the other
abbrev pub all_points : List Series → List (ℕ × ℤ)
all_points series = flat_map (λ s. s.points) series

-- the points that a reply gives, where it gives series
abbrev pub points_by : Reply → List (ℕ × ℤ)
points_by (reply.One (answer.Found series short)) = all_points series
points_by _ = []

-- the points of the last reply, if there is one
abbrev pub points_at : Option Reply → List (ℕ × ℤ)
points_at None = []
points_at (Some r) = points_by r

abbrev pub last_points : List Reply → List (ℕ × ℤ)
last_points replies = points_at (last_or None replies)

-- the sum of the values of points
abbrev pub sum_of : List (ℕ × ℤ) → ℤ
sum_of [] = pos 0
sum_of (point ∷ points) = point.1 +ℤ sum_of points

-- how many of the replies say ok
abbrev pub times_ok : List Reply → ℕ
times_ok replies = count_by says_ok replies

-- a line of five numbers
abbrev pub line_of : ℕ → ℕ → ℕ → ℕ → ℤ → List ℕ
line_of lines ok points refused sum =
    codes "{\"lines\":" ++ decimal lines ++ codes ",\"ok\":" ++ decimal ok ++ codes ",\"points\":" ++ decimal points
    ++ codes ",\"refused\":" ++ decimal refused ++ codes ",\"sum\":" ++ signed_decimal sum ++ codes "}\n"

-- the line of the replies: how many there are, how many say ok, how many don't, and the points of the last one with the sum of their values
abbrev pub summary_line : List Reply → List ℕ
summary_line replies = line_of (length replies) (times_ok replies) (length (last_points replies)) (length replies - times_ok replies) (sum_of (last_points replies))

-- the numbers of these replies
pub record Counts (replies : List Reply) (s : Summary) : Type 0 where
  pub lines : s.lines ≡ length replies
  pub ok : s.ok ≡ times_ok replies
  pub points : s.points ≡ length (last_points replies)
  pub sum : s.sum ≡ sum_of (last_points replies)
