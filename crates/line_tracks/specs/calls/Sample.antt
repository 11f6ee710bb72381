-- What is asked of the fields can be met: after a write whose one message is late, by the rules, the placement and the seed that its run set, and this message held back.
use Rattle.std.specs.Prelude.{◌≡◌, ℕ, [], ◌∷◌, None}
use Rattle.m3_model.specs.declared.act.Fate.TheVariants as fate
use Rattle.m3_outside.specs.declared.disk.Disk.{Ghosts}
use Rattle.net_plan.specs.Fates.{fate_of}
use Rattle.net_plan.specs.declared.late_write.LateWrite.{LateWrite}
use Rattle.session_net.specs.declared.net.Net.{Net}
use Rattle.told_runs.specs.told_by.Sample.{name, place, point, rules}
use Rattle.told_runs.specs.LateSample.{lines_to_write}
use Rattle.told_runs.specs.transcripts.Fates.{fate_in}
use Rattle.line_tracks.specs.calls.Left.{NetIsLeftBy}

-- the message of the run's write, as the bag holds it
abbrev pub held : LateWrite
held = record { client = 0; number = 0; node = 0; shard = 0; version = 1; point = point }

-- the fields are these
pub record IsSampleNet {D : Type 0} {G : Ghosts D} (net : Net D G) : Type 0 where
  pub rules : net.state.rules ≡ rules
  pub place : net.state.place ≡ place
  pub seed : net.state.seed ≡ 0
  pub fates : (client call : ℕ) → fate_of net.fates (record { client = client; call = call; node = 0 }) ≡ fate_in ((0, 0, name, fate.Late) ∷ []) client call name
  pub bag : net.bag ≡ held ∷ []

-- and they are what the turns to that write left
abbrev pub SampleIsLeft : {D : Type 0} {G : Ghosts D} → Net D G → Type 0
SampleIsLeft net = IsSampleNet net → NetIsLeftBy None lines_to_write net
