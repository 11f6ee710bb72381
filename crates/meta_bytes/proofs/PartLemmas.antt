-- The fields of a state's parts, one after another.
use Rattle.std.proofs.Common.{◌≡◌, ℕ, zero, suc, ◌-◌, ◌≤◌, ◌^◌, ◌%◌, List, ◌++◌, Bool, refl, sym, subst, arith}
use Rattle.std.specs.Prelude.{◌==◌, nat_le}
use Rattle.byteorder.specs.Endian.{big_bytes}
use Rattle.meta_bytes.specs.Forms.{Form, Byte, Number, Both, HasForm, StandsAs, MayFault}
use Rattle.meta_bytes.specs.States.{name_form, name_bytes, instance_form, is_source, assignment_form, space_form, flags_of}
use Rattle.meta_bytes.specs.declared.read_err.ReadErr.{ReadErr}
use Rattle.meta_bytes.proofs.FairForms.{fair_name, fair_instance, fair_assignment, fair_space}
use Rattle.meta_bytes.proofs.FormLemmas.{Behind, behind, fails, both_stand}

-- the flags that are told of a number from 0 to 3
pub flags_back : (n : ℕ) → n ≤ 3 → flags_of (n % 2 == 1) (nat_le 2 n) ≡ n
flags_back zero le = refl
flags_back (suc zero) le = refl
flags_back (suc (suc zero)) le = refl
flags_back (suc (suc (suc zero))) le = refl
flags_back (suc (suc (suc (suc n)))) le = absurd (omega arith)

-- ---- the fields of a node

module _ (bytes : List ℕ) (at : ℕ) where
  abbrev flag_form : Form
  flag_form = Number 1 0 3

  pub node_name : (e : ReadErr) → MayFault (HasForm name_form) bytes at e → MayFault (HasForm instance_form) bytes at e
  node_name e a = fails instance_form name_form (Both name_form flag_form) fair_name fair_instance.1 bytes at at (λ f b. b) e a

  module _ (name : List ℕ) (group_at : ℕ) (st : StandsAs name_form (name_bytes name) bytes at group_at) where
    behind_name : Behind instance_form (Both name_form flag_form) bytes at group_at
    behind_name = behind instance_form name_form (Both name_form flag_form) fair_name (name_bytes name) bytes at at group_at (λ f b. b) st

    pub node_group : (e : ReadErr) → MayFault (HasForm name_form) bytes group_at e → MayFault (HasForm instance_form) bytes at e
    node_group e a = fails instance_form name_form flag_form fair_name fair_instance.1.1 bytes at group_at behind_name e a

    pub node_flags : (group : List ℕ) (flags_at : ℕ) → StandsAs name_form (name_bytes group) bytes group_at flags_at → (e : ReadErr) → MayFault (HasForm flag_form) bytes flags_at e → MayFault (HasForm instance_form) bytes at e
    node_flags group flags_at su e a = behind instance_form name_form flag_form fair_name (name_bytes group) bytes at group_at flags_at behind_name su e a

-- ---- the fields of an assignment

module _ (bytes : List ℕ) (at : ℕ) where
  abbrev node_form : Form
  node_form = Number 1 0 15

  abbrev tenure_form : Form
  tenure_form = Number 8 0 (2 ^ 62 - 1)

  abbrev shard_state_form : Form
  shard_state_form = Number 1 0 2

  abbrev source_form : Form
  source_form = Byte is_source

  pub assigned_node : (e : ReadErr) → MayFault (HasForm node_form) bytes at e → MayFault (HasForm assignment_form) bytes at e
  assigned_node e a = fails assignment_form node_form (Both tenure_form (Both shard_state_form source_form)) fair_assignment.0 fair_assignment.1 bytes at at (λ f b. b) e a

  module _ (node tenure_at : ℕ) (st : StandsAs node_form (big_bytes 1 node) bytes at tenure_at) where
    behind_node : Behind assignment_form (Both tenure_form (Both shard_state_form source_form)) bytes at tenure_at
    behind_node = behind assignment_form node_form (Both tenure_form (Both shard_state_form source_form)) fair_assignment.0 (big_bytes 1 node) bytes at at tenure_at (λ f b. b) st

    pub assigned_tenure : (e : ReadErr) → MayFault (HasForm tenure_form) bytes tenure_at e → MayFault (HasForm assignment_form) bytes at e
    assigned_tenure e a = fails assignment_form tenure_form (Both shard_state_form source_form) fair_assignment.1.0 fair_assignment.1.1 bytes at tenure_at behind_node e a

    module _ (tenure state_at : ℕ) (su : StandsAs tenure_form (big_bytes 8 tenure) bytes tenure_at state_at) where
      behind_tenure : Behind assignment_form (Both shard_state_form source_form) bytes at state_at
      behind_tenure = behind assignment_form tenure_form (Both shard_state_form source_form) fair_assignment.1.0 (big_bytes 8 tenure) bytes at tenure_at state_at behind_node su

      pub assigned_state : (e : ReadErr) → MayFault (HasForm shard_state_form) bytes state_at e → MayFault (HasForm assignment_form) bytes at e
      assigned_state e a = fails assignment_form shard_state_form source_form fair_assignment.1.1.0 fair_assignment.1.1.1 bytes at state_at behind_tenure e a

      pub assigned_source : (code source_at : ℕ) → StandsAs shard_state_form (big_bytes 1 code) bytes state_at source_at → (e : ReadErr) → MayFault (HasForm source_form) bytes source_at e → MayFault (HasForm assignment_form) bytes at e
      assigned_source code source_at sv e a = behind assignment_form shard_state_form source_form fair_assignment.1.1.0 (big_bytes 1 code) bytes at state_at source_at behind_tenure sv e a

-- ---- the fields of a namespace

module _ (bytes : List ℕ) (at : ℕ) where
  abbrev long_form : Form
  long_form = Number 8 1 (2 ^ 40 - 1)

  abbrev buffer_form : Form
  buffer_form = Number 8 0 (2 ^ 40 - 2)

  abbrev from_future : Form
  from_future = Both buffer_form long_form

  abbrev from_past : Form
  from_past = Both buffer_form from_future

  abbrev from_block : Form
  from_block = Both long_form from_past

  pub space_name : (e : ReadErr) → MayFault (HasForm name_form) bytes at e → MayFault (HasForm space_form) bytes at e
  space_name e a = fails space_form name_form from_block fair_name fair_space.1 bytes at at (λ f b. b) e a

  module _ (name : List ℕ) (block_at : ℕ) (st : StandsAs name_form (name_bytes name) bytes at block_at) where
    behind_space_name : Behind space_form from_block bytes at block_at
    behind_space_name = behind space_form name_form from_block fair_name (name_bytes name) bytes at at block_at (λ f b. b) st

    pub space_block : (e : ReadErr) → MayFault (HasForm long_form) bytes block_at e → MayFault (HasForm space_form) bytes at e
    space_block e a = fails space_form long_form from_past fair_space.1.0 fair_space.1.1 bytes at block_at behind_space_name e a

    module _ (block past_at : ℕ) (su : StandsAs long_form (big_bytes 8 block) bytes block_at past_at) where
      behind_block : Behind space_form from_past bytes at past_at
      behind_block = behind space_form long_form from_past fair_space.1.0 (big_bytes 8 block) bytes at block_at past_at behind_space_name su

      pub space_past : (e : ReadErr) → MayFault (HasForm buffer_form) bytes past_at e → MayFault (HasForm space_form) bytes at e
      space_past e a = fails space_form buffer_form from_future fair_space.1.1.0 fair_space.1.1.1 bytes at past_at behind_block e a

      module _ (past future_at : ℕ) (sv : StandsAs buffer_form (big_bytes 8 past) bytes past_at future_at) where
        behind_past : Behind space_form from_future bytes at future_at
        behind_past = behind space_form buffer_form from_future fair_space.1.1.0 (big_bytes 8 past) bytes at past_at future_at behind_block sv

        pub space_future : (e : ReadErr) → MayFault (HasForm buffer_form) bytes future_at e → MayFault (HasForm space_form) bytes at e
        space_future e a = fails space_form buffer_form long_form fair_space.1.1.1.0 fair_space.1.1.1.1 bytes at future_at behind_past e a

        pub space_retention : (future retention_at : ℕ) → StandsAs buffer_form (big_bytes 8 future) bytes future_at retention_at → (e : ReadErr) → MayFault (HasForm long_form) bytes retention_at e → MayFault (HasForm space_form) bytes at e
        space_retention future retention_at sw e a = behind space_form buffer_form long_form fair_space.1.1.1.0 (big_bytes 8 future) bytes at future_at retention_at behind_past sw e a

-- ---- parts that stand whole

pub node_stands : (name group : List ℕ) (flags : ℕ) (listed drained : Bool) (bytes : List ℕ) (at group_at flags_at next : ℕ) → StandsAs name_form (name_bytes name) bytes at group_at → StandsAs name_form (name_bytes group) bytes group_at flags_at → StandsAs (Number 1 0 3) (big_bytes 1 flags) bytes flags_at next
    → flags_of listed drained ≡ flags → StandsAs instance_form (name_bytes name ++ (name_bytes group ++ big_bytes 1 (flags_of listed drained))) bytes at next
node_stands name group flags listed drained bytes at group_at flags_at next a b c is =
    let f = subst (λ (n : ℕ). StandsAs (Number 1 0 3) (big_bytes 1 n) bytes flags_at next) (sym is) c in
    both_stand name_form (Both name_form (Number 1 0 3)) (name_bytes name) _ bytes at group_at next a (both_stand name_form (Number 1 0 3) (name_bytes group) _ bytes group_at flags_at next b f)

pub assignment_stands : (node tenure code source : ℕ) (bytes : List ℕ) (at tenure_at state_at source_at next : ℕ) → StandsAs (Number 1 0 15) (big_bytes 1 node) bytes at tenure_at → StandsAs (Number 8 0 (2 ^ 62 - 1)) (big_bytes 8 tenure) bytes tenure_at state_at
    → StandsAs (Number 1 0 2) (big_bytes 1 code) bytes state_at source_at → StandsAs (Byte is_source) (big_bytes 1 source) bytes source_at next
    → StandsAs assignment_form (big_bytes 1 node ++ (big_bytes 8 tenure ++ (big_bytes 1 code ++ big_bytes 1 source))) bytes at next
assignment_stands node tenure code source bytes at tenure_at state_at source_at next a b c d =
    both_stand (Number 1 0 15) _ (big_bytes 1 node) _ bytes at tenure_at next a (both_stand (Number 8 0 (2 ^ 62 - 1)) _ (big_bytes 8 tenure) _ bytes tenure_at state_at next b (both_stand (Number 1 0 2) (Byte is_source) (big_bytes 1 code) (big_bytes 1 source) bytes state_at source_at next c d))

pub space_stands : (name : List ℕ) (block past future retention : ℕ) (bytes : List ℕ) (at block_at past_at future_at retention_at next : ℕ) → StandsAs name_form (name_bytes name) bytes at block_at → StandsAs (Number 8 1 (2 ^ 40 - 1)) (big_bytes 8 block) bytes block_at past_at
    → StandsAs (Number 8 0 (2 ^ 40 - 2)) (big_bytes 8 past) bytes past_at future_at → StandsAs (Number 8 0 (2 ^ 40 - 2)) (big_bytes 8 future) bytes future_at retention_at → StandsAs (Number 8 1 (2 ^ 40 - 1)) (big_bytes 8 retention) bytes retention_at next
    → StandsAs space_form (name_bytes name ++ (big_bytes 8 block ++ (big_bytes 8 past ++ (big_bytes 8 future ++ big_bytes 8 retention)))) bytes at next
space_stands name block past future retention bytes at block_at past_at future_at retention_at next a b c d e =
    both_stand name_form _ (name_bytes name) _ bytes at block_at next a (both_stand (Number 8 1 (2 ^ 40 - 1)) _ (big_bytes 8 block) _ bytes block_at past_at next b
    (both_stand (Number 8 0 (2 ^ 40 - 2)) _ (big_bytes 8 past) _ bytes past_at future_at next c (both_stand (Number 8 0 (2 ^ 40 - 2)) (Number 8 1 (2 ^ 40 - 1)) (big_bytes 8 future) (big_bytes 8 retention) bytes future_at retention_at next d e)))
