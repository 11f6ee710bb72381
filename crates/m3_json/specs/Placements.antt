-- The rows of the requests that make a placement of another.
use Rattle.std.specs.Prelude.{[], ◌∷◌, Result, Ok, codes}
use Rattle.serde_json.specs.Data.{Data}
use Rattle.m3_model.specs.declared.act.Act.{Act}
use Rattle.m3_model.specs.declared.act.Act.TheVariants as act
use Rattle.line_fields.specs.declared.fault.LineErr.{LineErr}
use Rattle.line_fields.specs.Fields.{◌>>=◌, tested, has_only, name_at}
use Rattle.m3_json.specs.Rows.{sole_node}

-- add: the name of the node that is added, and its group
unfoldable pub add_of : Data → Result Act LineErr
add_of d = do
  whole ← tested (has_only (codes "group" ∷ codes "node" ∷ codes "op" ∷ [])) d
  node ← name_at (codes "node") d
  group ← name_at (codes "group") d
  Ok (act.Add node group)

-- drain: the name of the node whose shards move to others
unfoldable pub drain_of : Data → Result Act LineErr
drain_of d = do
  node ← sole_node d
  Ok (act.Drain node)

-- cancel: the name of the node to which nothing moves any more
unfoldable pub cancel_of : Data → Result Act LineErr
cancel_of d = do
  node ← sole_node d
  Ok (act.Cancel node)

-- remove: the name of the node that leaves the cluster
unfoldable pub remove_of : Data → Result Act LineErr
remove_of d = do
  node ← sole_node d
  Ok (act.Remove node)

-- replace: the name of the node whose shards move, and the name and the group of the one that takes them all
unfoldable pub replace_of : Data → Result Act LineErr
replace_of d = do
  whole ← tested (has_only (codes "by" ∷ codes "group" ∷ codes "node" ∷ codes "op" ∷ [])) d
  node ← name_at (codes "node") d
  by ← name_at (codes "by") d
  group ← name_at (codes "group") d
  Ok (act.Replace node by group)
