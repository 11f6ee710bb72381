-- What calls leave of the fields is again what the turns left, theirs with them.
use Rattle.std.specs.Prelude.{◌≡◌, ℕ, List, [], ◌∷◌, ◌++◌, take, Option, None, true, IsTrue}
use Rattle.m3_model.specs.declared.act.Act.{Act}
use Rattle.m3_model.specs.declared.act.WriteLevel.{WriteLevel}
use Rattle.m3_model.specs.declared.answer.Answer.{Answer}
use Rattle.m3_model.specs.declared.point.Point.{Point}
use Rattle.m3_model.specs.declared.rules.MetaState.{MetaState}
use Rattle.m3_model.specs.declared.rules.Rules.{Rules}
use Rattle.m3_model.specs.declared.turn.Reply.TheVariants as reply
use Rattle.m3_model.specs.declared.turn.Request.TheVariants as request
use Rattle.m3_model.specs.declared.turn.Turn.{Turn}
use Rattle.m3_outside.specs.declared.disk.Disk.{Ghosts}
use Rattle.placement_core.specs.Shards.{Shard, nodes_of}
use Rattle.session_net.specs.replica_exchange.declared.call_id.CallId.{CallId}
use Rattle.session_net.specs.Writes.{AreMembers, bag_after, shard_of_point}
use Rattle.session_net.specs.declared.net.Net.{Net}
use Rattle.told_runs.specs.transcripts.Deliveries.{delivers_nothing}
use Rattle.told_runs.specs.transcripts.Fates.{fates_set}
use Rattle.told_runs.specs.transcripts.Placements.{printed, seed_by}
use Rattle.told_runs.specs.transcripts.Points.{was_sent}
use Rattle.told_runs.specs.transcripts.Record.{line_of}
use Rattle.told_runs.specs.transcripts.Rules.{rules_by}
use Rattle.line_tracks.specs.calls.Laws.{IsWrite}
use Rattle.line_tracks.specs.calls.Left.{NetIsLeftBy}

-- the state by which calls go and the fates stay
pub record FieldsStay {D : Type 0} {G : Ghosts D} (old new : Net D G) : Type 0 where
  pub state : new.state ≡ old.state
  pub fates : new.fates ≡ old.fates

-- the turn sets neither the rules nor the placement, the seed or the fates
pub record SetsNothing (a : Act) (b : Answer) : Type 0 where
  pub rules : (x : Rules) → rules_by a b x ≡ x
  pub place : printed b ≡ None
  pub seed : (x : ℕ) → seed_by a b x ≡ x
  pub fates : fates_set (request.One a) (reply.One b) ≡ None

-- where the bag stays and the turn delivers nothing
abbrev pub LeftAsBefore : {D : Type 0} {G : Ghosts D} → Net D G → Type 0
LeftAsBefore {D} {G} old =
    (start : Option MetaState) (turns : List Turn) (new : Net D G) (a : Act) (b : Answer) → NetIsLeftBy start turns old → FieldsStay old new → SetsNothing a b → IsTrue (delivers_nothing (line_of a b)) → new.bag ≡ old.bag → NetIsLeftBy start (turns ++ line_of a b ∷ []) new

-- where the late messages of a write to some first ones of the members of the placement that it used came to the bag; `was` goes by the placement that stands
abbrev pub LeftByWrite : {D : Type 0} {G : Ghosts D} → Net D G → Type 0
LeftByWrite {D} {G} old =
    (start : Option MetaState) (turns : List Turn) (was new : Net D G) (id : CallId) (a : Act) (b : Answer) (point : Point) (level : WriteLevel) (members : Shard) (k : ℕ) → IsWrite start turns old id a point level → NetIsLeftBy start turns was → FieldsStay was new → SetsNothing a b
    → was_sent b ≡ true → IsTrue (delivers_nothing (line_of a b)) → AreMembers old.state.place (shard_of_point old.state point) members → new.bag ≡ bag_after old id point (nodes_of (take k members)) → NetIsLeftBy start (turns ++ line_of a b ∷ []) new

-- and where the bag was emptied
abbrev pub LeftByDelivery : {D : Type 0} {G : Ghosts D} → Net D G → Type 0
LeftByDelivery {D} {G} old =
    (start : Option MetaState) (turns : List Turn) (new : Net D G) (a : Act) (b : Answer) → NetIsLeftBy start turns old → FieldsStay old new → SetsNothing a b → new.bag ≡ [] → NetIsLeftBy start (turns ++ line_of a b ∷ []) new
