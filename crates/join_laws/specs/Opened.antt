-- What replicas hold when a run opens after another one, which wrote at one time the values 4 and 5.
use Rattle.std.specs.Prelude.{ℕ, ℤ, List, [], ◌∷◌, Option, Some, None, pos, codes, ◌&&◌, if◌then◌else◌, nat_eq}
use Rattle.std.specs.List.{list_any}
use Rattle.m3_model.specs.declared.point.Point.{Point}
use Rattle.m3_model.specs.declared.reason.Reason.TheVariants as reason
use Rattle.m3_model.specs.declared.rules.MetaState.{MetaState}
use Rattle.m3_model.specs.declared.turn.Turn.{Turn}
use Rattle.transcripts.specs.Left.{HeldAtOpening}
use Rattle.transcripts.specs.Record.{Record}
use Rattle.model_laws.specs.Building.{begun, line, place, space, unmet, write, wrote}

-- the run before, with these lines after the moment moved to 100
abbrev pub earlier : List Turn → List Record
earlier lines = record { start = None; turns = begun 100 lines; unanswered = None } ∷ []

-- all three nodes took both values
abbrev pub both_taken : List Record
both_taken = earlier (wrote 100 (pos 4) ∷ wrote 100 (pos 5) ∷ [])

-- a alone took the value 5
abbrev pub one_taken : List Record
one_taken = earlier (line (write 100 (pos 5)) (unmet 1 ((1, reason.Memory) ∷ (2, reason.Memory) ∷ [])) ∷ [])

-- the state that these runs left, at this moment
abbrev pub left_at : ℕ → MetaState
left_at now = record { rules = record { now = now; spaces = space ∷ [] }; seed = 0; place = place }

-- the point of `hello` at 100 with this value
abbrev pub with_value : ℤ → Point
with_value v = record { ns = 0; id = codes "hello"; t = 100; v = v }

-- these nodes hold it, and nothing else is held
abbrev pub held_by : List ℕ → ℤ → HeldAtOpening
held_by nodes v n s = if list_any (nat_eq n) nodes && nat_eq s 0 then with_value v ∷ [] else []

-- nothing is held
abbrev pub nothing : HeldAtOpening
nothing n s = []
