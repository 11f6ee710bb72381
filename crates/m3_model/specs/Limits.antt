-- The limits of the numbers and texts in a request.
use Rattle.std.specs.Prelude.{◌≡◌, ◌≢◌, ℕ, ◌<◌, ◌≤◌, List, length, Bool, IsTrue, Option, IfSome, ⊤}
use Rattle.m3_model.specs.Ascends.{Ascends}
use Rattle.m3_model.specs.Calls.{is_call, is_work}
use Rattle.m3_model.specs.Members.{IsIn}
use Rattle.m3_model.specs.Identifiers.{IsIdentifier}
use Rattle.m3_model.specs.Names.{is_name}
use Rattle.m3_model.specs.Tags.{is_tag_name}
use Rattle.m3_model.specs.declared.act.Act.{Act}
use Rattle.m3_model.specs.declared.act.Act.TheVariants as act
use Rattle.m3_model.specs.declared.turn.Request.{Request}
use Rattle.m3_model.specs.declared.turn.Request.TheVariants as request
use Rattle.m3_model.specs.declared.act.Fate.{Fate}
use Rattle.m3_model.specs.declared.act.Fate.TheVariants.{Deliver}
use Rattle.m3_model.specs.declared.point.Matcher.{Matcher}
use Rattle.m3_model.specs.declared.limits.TheConstants.{MOST_REPLICAS, MOST_SHARDS, MOST_NODES, MOST_MATCHERS, MOST_FATES, MOST_CLIENTS, MOST_CLIENT_REQUESTS, MOST_WORKERS, MOST_WORKER_REQUESTS, TIME_END, DURATION_END, SEED_END}

-- a moment, a timestamp or a number of a request that has no closer bound
abbrev pub IsMoment : ℕ → Type 0
IsMoment n = n < TIME_END

-- a name with its group
abbrev pub IsNamed : List ℕ × List ℕ → Type 0
IsNamed node = IsTrue (is_name node.0) × IsTrue (is_name node.1)

-- some replicas of some shards on some nodes with names of their own, none of them above its limit
pub record IsInit (rf shards seed : ℕ) (nodes : List (List ℕ × List ℕ)) : Type 0 where
  pub some_replicas : 1 ≤ rf
  pub few_replicas : rf ≤ MOST_REPLICAS
  pub some_shards : 1 ≤ shards
  pub few_shards : shards ≤ MOST_SHARDS
  pub seed_fits : seed < SEED_END
  pub some_nodes : 1 ≤ length nodes
  pub few_nodes : length nodes ≤ MOST_NODES
  pub named : (node : List ℕ × List ℕ) → IsIn nodes node → IsNamed node
  pub distinct : Ascends (λ a b. a.0 ≢ b.0) nodes

-- durations below their limit; past and future below the block size, which isn't above the retention
pub record IsSpace (name : List ℕ) (block past future retention : ℕ) : Type 0 where
  pub named : IsTrue (is_name name)
  pub some_block : 1 ≤ block
  pub past_below : past < block
  pub future_below : future < block
  pub kept_longer : block ≤ retention
  pub retention_fits : retention < DURATION_END

-- a call of a client on a namespace, at a version or at the present one
pub record IsCall (ns : List ℕ) (version : Option ℕ) : Type 0 where
  pub named : IsTrue (is_name ns)
  pub version_fits : IfSome version IsMoment

-- the range of a read, which may be empty
pub record IsRange (from to : ℕ) : Type 0 where
  pub from_fits : IsMoment from
  pub to_fits : IsMoment to

-- not too many matchers, each of a tag's name; their values are any texts
pub record AreMatchers (wanted : List Matcher) : Type 0 where
  pub few : length wanted ≤ MOST_MATCHERS
  pub named : (m : Matcher) → IsIn wanted m → IsTrue (is_tag_name m.name)

-- a fate of the call of a client (0 for lines outside `par`) to a node
pub record IsFate (fate : ℕ × ℕ × List ℕ × Fate) : Type 0 where
  pub client_fits : fate.0 ≤ MOST_CLIENTS
  pub call_fits : IsMoment fate.1
  pub named : IsTrue (is_name fate.2)
  pub not_deliver : fate.3 ≢ Deliver

-- the same call to the same node
abbrev pub IsFateOfSameMessage : ℕ × ℕ × List ℕ × Fate → ℕ × ℕ × List ℕ × Fate → Type 0
IsFateOfSameMessage a b = (a.0 ≡ b.0) × (a.1 ≡ b.1) × (a.2 ≡ b.2)

-- the request of one line, or of one position of a `par` line, keeps to the limits
abbrev pub MeetsLimits : Act → Type 0
MeetsLimits (act.Init rf shards seed nodes) = IsInit rf shards seed nodes
MeetsLimits (act.Namespace name block past future retention) = IsSpace name block past future retention
MeetsLimits (act.Now now) = IsMoment now
MeetsLimits (act.Write ns id t v level version) = IsCall ns version × IsIdentifier id × IsMoment t
MeetsLimits (act.Fetch ns id from to level version) = IsCall ns version × IsIdentifier id × IsRange from to
MeetsLimits (act.Match ns wanted from to level version) = IsCall ns version × AreMatchers wanted × IsRange from to
MeetsLimits (act.Fates list) = (length list ≤ MOST_FATES) × ((fate : _) → IsIn list fate → IsFate fate) × Ascends (λ a b. ¬ IsFateOfSameMessage a b) list
MeetsLimits (act.Stop node) = IsTrue (is_name node)
MeetsLimits (act.Restart node pick) = IsTrue (is_name node) × IsMoment pick
MeetsLimits (act.Bootstrap node shard) = IsTrue (is_name node) × IfSome shard (λ s. s < MOST_SHARDS)
MeetsLimits (act.Add node group) = IsTrue (is_name node) × IsTrue (is_name group)
MeetsLimits (act.Drain node) = IsTrue (is_name node)
MeetsLimits (act.Cancel node) = IsTrue (is_name node)
MeetsLimits (act.Remove node) = IsTrue (is_name node)
MeetsLimits (act.Replace node by group) = IsTrue (is_name node) × IsTrue (is_name by) × IsTrue (is_name group)
MeetsLimits act.Deliver = ⊤
MeetsLimits act.Tick = ⊤
MeetsLimits act.Flush = ⊤
MeetsLimits act.Snapshot = ⊤
MeetsLimits act.Repair = ⊤
MeetsLimits act.Status = ⊤

-- acts of one list of a `par` line: not too many, each of a kind that it may have and within the limits
pub record IsListOf (most : ℕ) (may : Act → Bool) (acts : List Act) : Type 0 where
  pub few : length acts ≤ most
  pub kind : (one : Act) → IsIn acts one → IsTrue (may one)
  pub limits : (one : Act) → IsIn acts one → MeetsLimits one

-- the lists of a `par` line: some clients that call, and not too many workers beside them
pub record IsPar (clients workers : List (List Act)) : Type 0 where
  pub some_clients : 1 ≤ length clients
  pub few_clients : length clients ≤ MOST_CLIENTS
  pub few_workers : length workers ≤ MOST_WORKERS
  pub calls : (acts : List Act) → IsIn clients acts → IsListOf MOST_CLIENT_REQUESTS is_call acts
  pub works : (acts : List Act) → IsIn workers acts → IsListOf MOST_WORKER_REQUESTS is_work acts

-- each act of the request keeps to the limits
abbrev pub KeepsLimits : Request → Type 0
KeepsLimits (request.One one) = MeetsLimits one
KeepsLimits (request.Par clients workers) = IsPar clients workers
