-- The row of the fates of messages.
use Rattle.std.specs.Prelude.{[], ◌∷◌, Result, Ok, codes}
use Rattle.serde_json.specs.Data.{Data}
use Rattle.m3_model.specs.declared.act.Act.{Act}
use Rattle.m3_model.specs.declared.act.Act.TheVariants as act
use Rattle.line_fields.specs.declared.fault.LineErr.{LineErr}
use Rattle.line_fields.specs.Fields.{◌>>=◌, tested, has_only}
use Rattle.line_lists.specs.Fates.{fates_at}

-- fates: the fates of messages from now on
unfoldable pub fates_of : Data → Result Act LineErr
fates_of d = do
  whole ← tested (has_only (codes "list" ∷ codes "op" ∷ [])) d
  list ← fates_at (codes "list") d
  Ok (act.Fates list)
