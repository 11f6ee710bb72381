-- The bytes of a cluster's state: its moment, its namespaces and its placement.
use Rattle.std.specs.Prelude.{◌≡◌, ◌≢◌, ⊤, ℕ, ◌-◌, ◌<◌, ◌≤◌, ◌^◌, List, ◌++◌, length, flat_map, Option, Some, None, IfSome, Bool, true, false, ◌||◌, ◌==◌, nat_lt}
use Rattle.std.specs.List.{All}
use Rattle.byteorder.specs.Endian.{big_bytes}
use Rattle.m3_model.specs.Ascends.{Ascends}
use Rattle.m3_model.specs.Limits.{IsSpace}
use Rattle.m3_model.specs.Names.{is_name_byte}
use Rattle.m3_model.specs.declared.limits.TheConstants.{MOST_NAMESPACES, TIME_END, SEED_END}
use Rattle.m3_model.specs.declared.placement.ShardState.{ShardState}
use Rattle.m3_model.specs.declared.placement.ShardState.TheVariants.{Initializing, Available, Leaving}
use Rattle.m3_model.specs.declared.placement.Assignment.{Assignment}
use Rattle.m3_model.specs.declared.placement.Instance.{Instance}
use Rattle.m3_model.specs.declared.rules.Space.{Space}
use Rattle.m3_model.specs.declared.rules.MetaState.{MetaState}
use Rattle.placement_core.specs.Lawful.{IsLawful}
use Rattle.wire_bytes.specs.Fields.{StopsAt}
use Rattle.wire_bytes.specs.declared.wire_err.WireErr.TheVariants as wire
use Rattle.meta_bytes.specs.Forms.{Form, Byte, Number, Both, Counted, HasForm}
use Rattle.meta_bytes.specs.declared.read_err.ReadErr.{ReadErr}
use Rattle.meta_bytes.specs.declared.read_err.ReadErr.TheVariants as why
use Rattle.meta_bytes.specs.declared.state_read.StateErr.{StateErr}
use Rattle.meta_bytes.specs.declared.state_read.StateErr.TheVariants as refused

-- ---- bytes

-- items behind their count
abbrev pub counted_bytes : {X : Type 0} → (X → List ℕ) → List X → List ℕ
counted_bytes spelled xs = big_bytes 1 (length xs) ++ flat_map spelled xs

abbrev pub name_bytes : List ℕ → List ℕ
name_bytes name = big_bytes 1 (length name) ++ name

-- bit 0: listed; bit 1: drained
abbrev pub flags_of : Bool → Bool → ℕ
flags_of false false = 0
flags_of true false = 1
flags_of false true = 2
flags_of true true = 3

abbrev pub instance_bytes : Instance → List ℕ
instance_bytes i = name_bytes i.name ++ (name_bytes i.group ++ big_bytes 1 (flags_of i.listed i.drained))

abbrev pub code_of : ShardState → ℕ
code_of Initializing = 0
code_of Available = 1
code_of Leaving = 2

-- the source's number, and 255 where there is none
abbrev pub source_of : Option ℕ → ℕ
source_of (Some node) = node
source_of None = 255

abbrev pub assignment_bytes : Assignment → List ℕ
assignment_bytes a = big_bytes 1 a.node ++ (big_bytes 8 a.tenure ++ (big_bytes 1 (code_of a.state) ++ big_bytes 1 (source_of a.source)))

abbrev pub shard_bytes : List Assignment → List ℕ
shard_bytes shard = counted_bytes assignment_bytes shard

abbrev pub space_bytes : Space → List ℕ
space_bytes s = name_bytes s.name ++ (big_bytes 8 s.block ++ (big_bytes 8 s.past ++ (big_bytes 8 s.future ++ big_bytes 8 s.retention)))

abbrev pub state_bytes : MetaState → List ℕ
state_bytes s = big_bytes 1 1 ++ (big_bytes 8 s.rules.now ++ (big_bytes 4 s.seed ++ (big_bytes 1 s.place.rf ++ (big_bytes 8 s.place.version ++ (counted_bytes instance_bytes s.place.instances ++ (counted_bytes shard_bytes s.place.shards ++ counted_bytes space_bytes s.rules.spaces))))))

-- ---- values

-- a node's names are short enough for their lengths
pub record FitsInstance (i : Instance) : Type 0 where
  pub name : length i.name < 256
  pub group : length i.group < 256

-- the numbers of an assignment fit their fields, and a source isn't the number that stands for none
pub record FitsAssignment (a : Assignment) : Type 0 where
  pub node : a.node < 256
  pub tenure : a.tenure < 2 ^ 64
  pub source : IfSome a.source (λ node. node < 255)

pub record FitsShard (shard : List Assignment) : Type 0 where
  pub few : length shard < 256
  pub each : All FitsAssignment shard

pub record FitsSpace (s : Space) : Type 0 where
  pub name : length s.name < 256
  pub block : s.block < 2 ^ 64
  pub past : s.past < 2 ^ 64
  pub future : s.future < 2 ^ 64
  pub retention : s.retention < 2 ^ 64

-- each number of the state fits its field
pub record FitsState (s : MetaState) : Type 0 where
  pub now : s.rules.now < 2 ^ 64
  pub seed : s.seed < 2 ^ 32
  pub rf : s.place.rf < 256
  pub version : s.place.version < 2 ^ 64
  pub few_instances : length s.place.instances < 256
  pub instances : All FitsInstance s.place.instances
  pub few_shards : length s.place.shards < 256
  pub shards : All FitsShard s.place.shards
  pub few_spaces : length s.rules.spaces < 256
  pub spaces : All FitsSpace s.rules.spaces

-- ---- the form, field by field

abbrev pub name_form : Form
name_form = Counted 1 32 (Byte is_name_byte)

abbrev pub instance_form : Form
instance_form = Both name_form (Both name_form (Number 1 0 3))

-- a node's number, or none
abbrev pub is_source : ℕ → Bool
is_source n = nat_lt n 16 || (n == 255)

abbrev pub assignment_form : Form
assignment_form = Both (Number 1 0 15) (Both (Number 8 0 (2 ^ 62 - 1)) (Both (Number 1 0 2) (Byte is_source)))

-- at most as many as there are replicas, and one more while a replica moves
abbrev pub shard_form : Form
shard_form = Counted 1 6 assignment_form

abbrev pub space_form : Form
space_form = Both name_form (Both (Number 8 1 (2 ^ 40 - 1)) (Both (Number 8 0 (2 ^ 40 - 2)) (Both (Number 8 0 (2 ^ 40 - 2)) (Number 8 1 (2 ^ 40 - 1)))))

abbrev pub state_form : Form
state_form =
    Both (Number 1 1 1) (Both (Number 8 0 (2 ^ 62 - 1)) (Both (Number 4 0 (2 ^ 32 - 1)) (Both (Number 1 1 5) (Both (Number 8 0 (2 ^ 62 - 1)) (Both (Counted 1 16 instance_form) (Both (Counted 1 64 shard_form) (Counted 0 8 space_form)))))))

-- ---- states that a cluster may have

-- its name and its durations are within the limits
abbrev pub IsSpaceOf : Space → Type 0
IsSpaceOf s = IsSpace s.name s.block s.past s.future s.retention

-- not too many namespaces, with names of their own
pub record AreSpaces (spaces : List Space) : Type 0 where
  pub few : length spaces ≤ MOST_NAMESPACES
  pub each : All IsSpaceOf spaces
  pub distinct : Ascends (λ a b. a.name ≢ b.name) spaces

-- a moment, a seed, a placement and namespaces that a cluster may have
pub record IsMetaState (s : MetaState) : Type 0 where
  pub moment : s.rules.now < TIME_END
  pub seed : s.seed < SEED_END
  pub place : IsLawful s.place
  pub spaces : AreSpaces s.rules.spaces

-- ---- reading

-- these bytes are those of this state, which a cluster may have
pub record IsStateOf (bytes : List ℕ) (s : MetaState) : Type 0 where
  pub lawful : IsMetaState s
  pub is : bytes ≡ state_bytes s

-- no state that a cluster may have has these bytes
abbrev pub IsNoState : List ℕ → Type 0
IsNoState bytes = (s : MetaState) → ¬ (IsStateOf bytes s)

-- The bytes are no state's: they stop to have the fields of one at the offset; or they have its fields, and what some say doesn't go with what others say.
-- Memory may always be wanted.
abbrev pub MayBreak : List ℕ → StateErr → Type 0
MayBreak bytes refused.Memory = ⊤
MayBreak bytes (refused.Form at) = IsNoState bytes × StopsAt (HasForm state_form) bytes at
MayBreak bytes refused.Rules = IsNoState bytes × HasForm state_form bytes

-- a fault as an offset in so many bytes
abbrev pub placed : ℕ → ReadErr → StateErr
placed len why.Memory = refused.Memory
placed len (why.Wire wire.Short) = refused.Form len
placed len (why.Wire (wire.Bad at)) = refused.Form at

-- ---- laws

-- states of the same bytes are one
abbrev pub StatesAreOne : Type 0
StatesAreOne = (s t : MetaState) → FitsState s → FitsState t → state_bytes s ≡ state_bytes t → s ≡ t

-- the numbers of each state that a cluster may have fit their fields, and its bytes, at most 5,905, have a state's form
pub record IsInForm (s : MetaState) : Type 0 where
  pub fits : FitsState s
  pub form : HasForm state_form (state_bytes s)
  pub short : length (state_bytes s) ≤ 5905

abbrev pub StatesFit : Type 0
StatesFit = (s : MetaState) → IsMetaState s → IsInForm s
