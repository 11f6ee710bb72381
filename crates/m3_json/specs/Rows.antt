-- The grammar: one row for each kind of request.
use Rattle.std.specs.Prelude.{ℕ, ◌+◌, List, [], ◌∷◌, Some, None, Option, Result, Ok, Err, nat_eq, if◌then◌else◌, codes}
use Rattle.std.specs.Cmp.Lexicographic.{pointwise}
use Rattle.serde_json.specs.Data.{Data}
use Rattle.m3_model.specs.declared.act.Act.{Act}
use Rattle.m3_model.specs.declared.act.Act.TheVariants as act
use Rattle.m3_model.specs.declared.act.ReadLevel.{ReadLevel}
use Rattle.m3_model.specs.declared.act.ReadLevel.TheVariants as read_level
use Rattle.m3_model.specs.declared.act.WriteLevel.{WriteLevel}
use Rattle.m3_model.specs.declared.act.WriteLevel.TheVariants as write_level
use Rattle.line_fields.specs.declared.fault.LineErr.{LineErr}
use Rattle.line_fields.specs.declared.fault.LineErr.TheVariants as errors
use Rattle.m3_model.specs.declared.limits.TheConstants.{MOST_REPLICAS, MOST_SHARDS, TIME_END, DURATION_END, SEED_END}
use Rattle.line_fields.specs.Fields.{◌>>=◌, tested, has_only, text_of, number_of, text_at, name_at, number_at, value_at, optional_at}
use Rattle.line_lists.specs.Nodes.{nodes_at}
use Rattle.line_lists.specs.Matchers.{matchers_at}

-- init: the replicas of a shard, the shards, the seed of their hash, the nodes
unfoldable pub init_of : Data → Result Act LineErr
init_of d = do
  whole ← tested (has_only (codes "nodes" ∷ codes "op" ∷ codes "rf" ∷ codes "seed" ∷ codes "shards" ∷ [])) d
  rf ← number_at (codes "rf") 1 (MOST_REPLICAS + 1) d
  shards ← number_at (codes "shards") 1 (MOST_SHARDS + 1) d
  seed ← number_at (codes "seed") 0 SEED_END d
  nodes ← nodes_at (codes "nodes") d
  Ok (act.Init rf shards seed nodes)

-- namespace: its name, and durations below their limit
unfoldable pub namespace_of : Data → Result Act LineErr
namespace_of d = do
  whole ← tested (has_only (codes "block" ∷ codes "future" ∷ codes "name" ∷ codes "op" ∷ codes "past" ∷ codes "retention" ∷ [])) d
  name ← name_at (codes "name") d
  block ← number_at (codes "block") 1 DURATION_END d
  past ← number_at (codes "past") 0 block d
  future ← number_at (codes "future") 0 block d
  retention ← number_at (codes "retention") block DURATION_END d
  Ok (act.Namespace name block past future retention)

-- now: the moment
unfoldable pub now_of : Data → Result Act LineErr
now_of d = do
  whole ← tested (has_only (codes "now" ∷ codes "op" ∷ [])) d
  now ← number_at (codes "now") 0 TIME_END d
  Ok (act.Now now)

-- the level of a write of this name
abbrev pub write_level_named : List ℕ → Result WriteLevel LineErr
write_level_named name =
    if pointwise nat_eq name (codes "one") then Ok write_level.One else
    (if pointwise nat_eq name (codes "majority") then Ok write_level.Majority else
    (if pointwise nat_eq name (codes "all") then Ok write_level.All else Err errors.Form))

-- the level of a read of this name
abbrev pub read_level_named : List ℕ → Result ReadLevel LineErr
read_level_named name =
    if pointwise nat_eq name (codes "one") then Ok read_level.One else
    (if pointwise nat_eq name (codes "unstrict") then Ok read_level.Unstrict else
    (if pointwise nat_eq name (codes "majority") then Ok read_level.Majority else
    (if pointwise nat_eq name (codes "all") then Ok read_level.All else Err errors.Form)))

-- the field `level` of a write; where it is absent, a majority
unfoldable pub write_level_at : Data → Result WriteLevel LineErr
write_level_at = optional_at write_level.Majority (codes "level") (λ v. text_of v >>= write_level_named)

-- the field `level` of a fetch; where it is absent, a majority
unfoldable pub read_level_at : Data → Result ReadLevel LineErr
read_level_at = optional_at read_level.Majority (codes "level") (λ v. text_of v >>= read_level_named)

-- the field `version` of a call; where it is absent, none
unfoldable pub version_at : Data → Result (Option ℕ) LineErr
version_at = optional_at None (codes "version") (λ v. number_of 0 TIME_END v >>= λ n. Ok (Some n))

-- the keys of a write
abbrev pub write_keys : List (List ℕ)
write_keys = codes "id" ∷ codes "level" ∷ codes "ns" ∷ codes "op" ∷ codes "t" ∷ codes "v" ∷ codes "version" ∷ []

-- write: a value for a series at a time; any text stands for the identifier here
unfoldable pub write_of : Data → Result Act LineErr
write_of d = do
  whole ← tested (has_only write_keys) d
  ns ← name_at (codes "ns") d
  id ← text_at (codes "id") d
  t ← number_at (codes "t") 0 TIME_END d
  v ← value_at (codes "v") d
  level ← write_level_at d
  version ← version_at d
  Ok (act.Write ns id t v level version)

-- the keys of a fetch
abbrev pub fetch_keys : List (List ℕ)
fetch_keys = codes "from" ∷ codes "id" ∷ codes "level" ∷ codes "ns" ∷ codes "op" ∷ codes "to" ∷ codes "version" ∷ []

-- fetch: the points of a series in a range of times; any text stands for the identifier here
unfoldable pub fetch_of : Data → Result Act LineErr
fetch_of d = do
  whole ← tested (has_only fetch_keys) d
  ns ← name_at (codes "ns") d
  id ← text_at (codes "id") d
  from ← number_at (codes "from") 0 TIME_END d
  to ← number_at (codes "to") 0 TIME_END d
  level ← read_level_at d
  version ← version_at d
  Ok (act.Fetch ns id from to level version)

-- match: the points in a range of times of the series that the matchers pick
unfoldable pub match_of : Data → Result Act LineErr
match_of d = do
  whole ← tested (has_only (codes "from" ∷ codes "level" ∷ codes "ns" ∷ codes "op" ∷ codes "to" ∷ codes "version" ∷ codes "where" ∷ [])) d
  ns ← name_at (codes "ns") d
  wanted ← matchers_at (codes "where") d
  from ← number_at (codes "from") 0 TIME_END d
  to ← number_at (codes "to") 0 TIME_END d
  level ← read_level_at d
  version ← version_at d
  Ok (act.Match ns wanted from to level version)

-- the node's name of an object that has no other field
unfoldable pub sole_node : Data → Result (List ℕ) LineErr
sole_node d = do
  whole ← tested (has_only (codes "node" ∷ codes "op" ∷ [])) d
  name_at (codes "node") d

-- stop: the node's name
unfoldable pub stop_of : Data → Result Act LineErr
stop_of d = do
  node ← sole_node d
  Ok (act.Stop node)

-- the field `pick`, 0 where it is absent
unfoldable pub pick_at : Data → Result ℕ LineErr
pick_at = optional_at 0 (codes "pick") (number_of 0 TIME_END)

-- restart: the node's name, and what its disks make of writes that weren't synced
unfoldable pub restart_of : Data → Result Act LineErr
restart_of d = do
  whole ← tested (has_only (codes "node" ∷ codes "op" ∷ codes "pick" ∷ [])) d
  node ← name_at (codes "node") d
  pick ← pick_at d
  Ok (act.Restart node pick)

-- the field `shard` of a bootstrap; where it is absent, none
unfoldable pub shard_asked : Data → Result (Option ℕ) LineErr
shard_asked = optional_at None (codes "shard") (λ v. number_of 0 MOST_SHARDS v >>= λ n. Ok (Some n))

-- bootstrap: the node's name, and one of its shards or all
unfoldable pub bootstrap_of : Data → Result Act LineErr
bootstrap_of d = do
  whole ← tested (has_only (codes "node" ∷ codes "op" ∷ codes "shard" ∷ [])) d
  node ← name_at (codes "node") d
  shard ← shard_asked d
  Ok (act.Bootstrap node shard)
