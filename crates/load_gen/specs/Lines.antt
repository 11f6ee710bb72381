-- The requests of a script.
use Rattle.std.specs.Prelude.{ℕ, ◌%◌, pos, [], ◌∷◌, ◌++◌, None, codes, decimal}
use Rattle.m3_model.specs.declared.act.Act.TheVariants as act
use Rattle.m3_model.specs.declared.act.ReadLevel.TheVariants as read
use Rattle.m3_model.specs.declared.act.WriteLevel.TheVariants as level
use Rattle.m3_model.specs.declared.turn.Request.{Request}
use Rattle.m3_model.specs.declared.turn.Request.TheVariants as request
use Rattle.load_gen.specs.Draws.{drawn, draw}

-- three nodes, each in a group of its own
abbrev pub init_line : Request
init_line = request.One (act.Init 3 8 0 ((codes "a", codes "g1") ∷ (codes "b", codes "g2") ∷ (codes "c", codes "g3") ∷ []))

abbrev pub namespace_line : Request
namespace_line = request.One (act.Namespace (codes "m") 200 100 50 10000)

abbrev pub now_line : ℕ → Request
now_line moment = request.One (act.Now moment)

-- the first draw from the state picks one of 100 series, the second the value
abbrev pub write_line : ℕ → ℕ → Request
write_line moment x = request.One (act.Write (codes "m") (codes "s" ++ decimal (draw x % 100)) moment (pos (draw (drawn x) % 1000)) level.Majority None)

abbrev pub replace_line : Request
replace_line = request.One (act.Replace (codes "c") (codes "d") (codes "g3"))

abbrev pub bootstrap_line : Request
bootstrap_line = request.One (act.Bootstrap (codes "d") None)

abbrev pub flush_line : Request
flush_line = request.One act.Flush

abbrev pub snapshot_line : Request
snapshot_line = request.One act.Snapshot

-- all series, at all moments of the script
abbrev pub match_line : Request
match_line = request.One (act.Match (codes "m") [] 0 501 read.Majority None)
