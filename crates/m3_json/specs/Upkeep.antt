-- The row of what has no fields: the upkeep of replicas, and what tells of them.
use Rattle.std.specs.Prelude.{[], ◌∷◌, Result, Ok, codes}
use Rattle.serde_json.specs.Data.{Data}
use Rattle.m3_model.specs.declared.act.Act.{Act}
use Rattle.line_fields.specs.declared.fault.LineErr.{LineErr}
use Rattle.line_fields.specs.Fields.{◌>>=◌, tested, has_only}

-- this act, where the object has no field but its op
unfoldable pub without_fields : Act → Data → Result Act LineErr
without_fields one d = do
  whole ← tested (has_only (codes "op" ∷ [])) d
  Ok one
