-- What the grammar has and no part of the program serves yet.
use Rattle.std.specs.Prelude.{ℕ, List, [], ◌∷◌, Bool, true, false, if◌then◌else◌, codes}
use Rattle.m3_model.specs.declared.act.Act.{Act}
use Rattle.m3_model.specs.declared.act.Act.TheVariants as act
use Rattle.line_fields.specs.declared.fault.LineErr.{LineErr}
use Rattle.line_fields.specs.declared.fault.LineErr.TheVariants as errors
use Rattle.line_fields.specs.Fields.{is_one_of}

-- the ops that are put off, whatever other fields stand with them
abbrev pub later_ops : List (List ℕ)
later_ops = codes "par" ∷ []

-- what an op without a row is answered: put off, or no op at all
unfoldable pub refusal_of : List ℕ → LineErr
refusal_of op = if is_one_of later_ops op then errors.Later else errors.Form

-- the act is put off
unfoldable pub is_put_off : Act → Bool
is_put_off (act.Init rf shards seed nodes) = false
is_put_off (act.Namespace name block past future retention) = false
is_put_off (act.Now now) = false
is_put_off (act.Write ns id t v level version) = false
is_put_off (act.Fetch ns id from to level version) = false
is_put_off (act.Match ns wanted from to level version) = false
is_put_off (act.Fates list) = false
is_put_off act.Deliver = false
is_put_off (act.Stop node) = false
is_put_off (act.Restart node pick) = false
is_put_off (act.Bootstrap node shard) = false
is_put_off (act.Add node group) = false
is_put_off (act.Drain node) = false
is_put_off (act.Cancel node) = false
is_put_off (act.Remove node) = false
is_put_off (act.Replace node by group) = false
is_put_off act.Tick = false
is_put_off act.Flush = false
is_put_off act.Snapshot = false
is_put_off act.Status = false
is_put_off act.Repair = true
