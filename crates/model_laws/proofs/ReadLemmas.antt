-- What a read keeps, element by element.
use Rattle.std.proofs.Common.{Option, Some, ◌≡◌, ◌<◌, ℕ, ℤ, ◌≤ℤ◌, List, [], ◌∷◌, length, arith}
use Rattle.m3_model.specs.Ascends.{Ascends}
use Rattle.m3_model.specs.Members.{IsIn}
use Rattle.m3_model.specs.Reads.{Read, Found, read_of, found_of, space_picked, points_in, IsSought, Covers, IsOrdered}
use Rattle.transcripts.specs.Kept.{KeptAt}
use Rattle.transcripts.specs.Record.{Record, TurnPosition}
use Rattle.transcripts.specs.Rules.{rules_at}
use Rattle.transcripts.specs.Points.{sent_at, acked_at}
use Rattle.m3_model.specs.declared.rules.MetaState.{MetaState}
use Rattle.model_laws.proofs.EachLemmas.{Each, each_in, ascends_by}
use Rattle.model_laws.proofs.PositionLemmas.{kept_read}
use Rattle.m3_model.specs.declared.point.Point.{Point}

-- an answered read is kept where it covers each acknowledged point that it asks for, and has only sent points that it asks for, in order
pub kept_each : (past : List Record) (start : Option MetaState) (p : TurnPosition) (read : Read) (found : Found) → found_of p.turn.answer ≡ Some found → read_of (rules_at start p).spaces p.turn.act ≡ Some read
    → Each (λ point. IsSought (rules_at start p) read point → Covers (points_in (space_picked read.pick) found.series) point) (acked_at past start p)
    → Each (λ point. IsIn (sent_at past start p) point × IsSought (rules_at start p) read point) (points_in (space_picked read.pick) found.series)
    → IsOrdered found.series → KeptAt past start p
kept_each past start p read found is asked covered known ordered =
    let points = points_in (space_picked read.pick) found.series in
    kept_read past start p read found is asked (record {
      acknowledged = λ strong. each_in (λ point. IsSought (rules_at start p) read point → Covers points point) (acked_at past start p) covered;
      nothing_else = each_in (λ point. IsIn (sent_at past start p) point × IsSought (rules_at start p) read point) points known;
      ordered = ordered;
    })

-- a series of one point is in order
pub ordered_point : (id : List ℕ) (t : ℕ) (v : ℤ) → IsOrdered (record { id = id; points = (t, v) ∷ [] } ∷ [])
ordered_point id t v = record {
  ids = ((λ y h. absurd h), tt);
  times = each_in (λ s. Ascends (λ a b. a.0 < b.0) s.points) (record { id = id; points = (t, v) ∷ [] } ∷ []) (((λ y h. absurd h), tt), tt);
  none_empty = each_in (λ s. 0 < length s.points) (record { id = id; points = (t, v) ∷ [] } ∷ []) (omega arith, tt);
}

-- a series of two points is in order where their times are
pub ordered_pair : (id : List ℕ) (t u : ℕ) (v w : ℤ) → t < u → IsOrdered (record { id = id; points = (t, v) ∷ (u, w) ∷ [] } ∷ [])
ordered_pair id t u v w below = record {
  ids = ((λ y h. absurd h), tt);
  times = each_in (λ s. Ascends (λ a b. a.0 < b.0) s.points) (record { id = id; points = (t, v) ∷ (u, w) ∷ [] } ∷ []) (ascends_by (λ a b. a.0 < b.0) ((t, v) ∷ (u, w) ∷ []) ((below, tt), (tt, tt)), tt);
  none_empty = each_in (λ s. 0 < length s.points) (record { id = id; points = (t, v) ∷ (u, w) ∷ [] } ∷ []) (omega arith, tt);
}

-- no series is in order
pub ordered_none : IsOrdered []
ordered_none = record { ids = tt; times = λ s h. absurd h; none_empty = λ s h. absurd h }

-- a point is covered by the point of its key with a value not below
pub covered_by : (points : List Point) (point : Point) (v : ℤ) → point.v ≤ℤ v → IsIn points (record point { v = v }) → Covers points point
covered_by points point v least here = record { value = v; at_least = least; stands = here }
