-- The request that a line spells.
use Rattle.std.specs.Prelude.{◌≡◌, ℕ, List, Some, None, Result, Ok, Err, false, if◌then◌else◌, nat_eq, codes, IsTrue, IsUtf8, ⊤, ◌⊎◌}
use Rattle.std.specs.Cmp.Lexicographic.{pointwise}
use Rattle.serde_json.specs.Data.{Data}
use Rattle.serde_json.specs.Read.{read}
use Rattle.m3_model.specs.Identifiers.{IsIdentifier}
use Rattle.m3_model.specs.declared.act.Act.{Act}
use Rattle.m3_model.specs.declared.act.Act.TheVariants as act
use Rattle.m3_model.specs.declared.turn.Request.{Request}
use Rattle.m3_model.specs.declared.turn.Request.TheVariants as request
use Rattle.line_fields.specs.declared.fault.LineErr.{LineErr}
use Rattle.line_fields.specs.declared.fault.LineErr.TheVariants as errors
use Rattle.line_fields.specs.Fields.{◌>>=◌, text_at}
use Rattle.m3_json.specs.Rows.{init_of, namespace_of, now_of, write_of, fetch_of, match_of, stop_of, restart_of, bootstrap_of}
use Rattle.m3_json.specs.Fates.{fates_of}
use Rattle.m3_json.specs.Placements.{add_of, drain_of, cancel_of, remove_of, replace_of}
use Rattle.m3_json.specs.Upkeep.{without_fields}
use Rattle.m3_json.specs.NotYet.{refusal_of, is_put_off}

-- the row of this op
unfoldable pub act_of : List ℕ → Data → Result Act LineErr
act_of op d =
    if pointwise nat_eq op (codes "init") then init_of d else
    (if pointwise nat_eq op (codes "namespace") then namespace_of d else
    (if pointwise nat_eq op (codes "now") then now_of d else
    (if pointwise nat_eq op (codes "write") then write_of d else
    (if pointwise nat_eq op (codes "fetch") then fetch_of d else
    (if pointwise nat_eq op (codes "match") then match_of d else
    (if pointwise nat_eq op (codes "fates") then fates_of d else
    (if pointwise nat_eq op (codes "deliver") then without_fields act.Deliver d else
    (if pointwise nat_eq op (codes "stop") then stop_of d else
    (if pointwise nat_eq op (codes "restart") then restart_of d else
    (if pointwise nat_eq op (codes "bootstrap") then bootstrap_of d else
    (if pointwise nat_eq op (codes "add") then add_of d else
    (if pointwise nat_eq op (codes "drain") then drain_of d else
    (if pointwise nat_eq op (codes "cancel") then cancel_of d else
    (if pointwise nat_eq op (codes "remove") then remove_of d else
    (if pointwise nat_eq op (codes "replace") then replace_of d else
    (if pointwise nat_eq op (codes "tick") then without_fields act.Tick d else
    (if pointwise nat_eq op (codes "flush") then without_fields act.Flush d else
    (if pointwise nat_eq op (codes "snapshot") then without_fields act.Snapshot d else
    (if pointwise nat_eq op (codes "repair") then without_fields act.Repair d else
    (if pointwise nat_eq op (codes "status") then without_fields act.Status d else Err (refusal_of op)))))))))))))))))))))

-- the act of the row that an object is in by its field `op`; any text stands for an identifier here
abbrev pub row_of : Data → Result Act LineErr
row_of d = text_at (codes "op") d >>= λ op. act_of op d

-- the text that stands for the identifier of a series is one
abbrev pub NamesSeries : Act → Type 0
NamesSeries (act.Write ns id t v level version) = IsIdentifier id
NamesSeries (act.Fetch ns id from to level version) = IsIdentifier id
NamesSeries _ = ⊤

-- the object spells this act: it is in its row, and its identifier is one
abbrev pub SpellsAct : Data → Act → Type 0
SpellsAct d one = (row_of d ≡ Ok one) × NamesSeries one

-- the object spells nothing: it is in no row, or its identifier is none
abbrev pub SpellsNoAct : Data → Type 0
SpellsNoAct d = (row_of d ≡ Err errors.Form) ⊎ ((one : Act) × (row_of d ≡ Ok one) × (¬ NamesSeries one))

-- the object's op is put off, or the act that it spells is
abbrev pub IsPutOff : Data → Type 0
IsPutOff d = (row_of d ≡ Err errors.Later) ⊎ ((one : Act) × SpellsAct d one × IsTrue (is_put_off one))

-- what an object means: the act that it spells, where that isn't put off; want of memory says nothing of it
abbrev pub ObjectMeans : Data → Result Request LineErr → Type 0
ObjectMeans d (Ok r) = (one : Act) × SpellsAct d one × (is_put_off one ≡ false) × (r ≡ request.One one)
ObjectMeans d (Err errors.Form) = SpellsNoAct d
ObjectMeans d (Err errors.Later) = IsPutOff d
ObjectMeans d (Err errors.Memory) = ⊤

-- the line is the text of this data, as serde_json reads it
abbrev pub Spells : List ℕ → Data → Type 0
Spells line d = IsUtf8 line × (read line ≡ Some d)

-- the line is the text of no data
abbrev pub SpellsNothing : List ℕ → Type 0
SpellsNothing line = ¬ IsUtf8 line ⊎ (read line ≡ None)

-- what a line means: what its object means, or no form; want of memory says nothing of it
abbrev pub LineMeans : List ℕ → Result Request LineErr → Type 0
LineMeans line (Ok r) = (d : Data) × Spells line d × ObjectMeans d (Ok r)
LineMeans line (Err errors.Form) = SpellsNothing line ⊎ ((d : Data) × Spells line d × SpellsNoAct d)
LineMeans line (Err errors.Later) = (d : Data) × Spells line d × IsPutOff d
LineMeans line (Err errors.Memory) = ⊤
