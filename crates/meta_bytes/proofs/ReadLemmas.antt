-- The fields of a state, one after another.
use Rattle.std.proofs.Common.{◌≡◌, ℕ, ◌-◌, ◌≤◌, ◌^◌, List, subst, arith}
use Rattle.byteorder.specs.Endian.{big_bytes}
use Rattle.m3_model.specs.declared.placement.Assignment.{Assignment}
use Rattle.m3_model.specs.declared.placement.Instance.{Instance}
use Rattle.m3_model.specs.declared.rules.Space.{Space}
use Rattle.meta_bytes.specs.Forms.{Form, Number, Both, Counted, HasForm, StandsAs, MayFault}
use Rattle.meta_bytes.specs.States.{counted_bytes, instance_form, instance_bytes, shard_form, shard_bytes, space_form, space_bytes, state_form, state_bytes}
use Rattle.meta_bytes.specs.declared.read_err.ReadErr.{ReadErr}
use Rattle.meta_bytes.proofs.FairForms.{fair_state}
use Rattle.meta_bytes.proofs.FormLemmas.{Behind, behind, fails, both_stand}

abbrev pub format_form : Form
format_form = Number 1 1 1

abbrev pub moment_form : Form
moment_form = Number 8 0 (2 ^ 62 - 1)

abbrev pub seed_form : Form
seed_form = Number 4 0 (2 ^ 32 - 1)

abbrev pub rf_form : Form
rf_form = Number 1 1 5

abbrev pub nodes_form : Form
nodes_form = Counted 1 16 instance_form

abbrev pub shards_form : Form
shards_form = Counted 1 64 shard_form

abbrev pub spaces_form : Form
spaces_form = Counted 0 8 space_form

abbrev from_shards : Form
from_shards = Both shards_form spaces_form

abbrev from_nodes : Form
from_nodes = Both nodes_form from_shards

abbrev from_version : Form
from_version = Both moment_form from_nodes

abbrev from_rf : Form
from_rf = Both rf_form from_version

abbrev from_seed : Form
from_seed = Both seed_form from_rf

abbrev from_moment : Form
from_moment = Both moment_form from_seed

module _ (bytes : List ℕ) where
  pub state_format : (e : ReadErr) → MayFault (HasForm format_form) bytes 0 e → MayFault (HasForm state_form) bytes 0 e
  state_format e a = fails state_form format_form from_moment fair_state.0 fair_state.1 bytes 0 0 (λ f b. b) e a

  module _ (now_at : ℕ) (a1 : StandsAs format_form (big_bytes 1 1) bytes 0 now_at) where
    b1 : Behind state_form from_moment bytes 0 now_at
    b1 = behind state_form format_form from_moment fair_state.0 (big_bytes 1 1) bytes 0 0 now_at (λ f b. b) a1

    pub state_moment : (e : ReadErr) → MayFault (HasForm moment_form) bytes now_at e → MayFault (HasForm state_form) bytes 0 e
    state_moment e a = fails state_form moment_form from_seed fair_state.1.0 fair_state.1.1 bytes 0 now_at b1 e a

    module _ (now seed_at : ℕ) (a2 : StandsAs moment_form (big_bytes 8 now) bytes now_at seed_at) where
      b2 : Behind state_form from_seed bytes 0 seed_at
      b2 = behind state_form moment_form from_seed fair_state.1.0 (big_bytes 8 now) bytes 0 now_at seed_at b1 a2

      pub state_seed : (e : ReadErr) → MayFault (HasForm seed_form) bytes seed_at e → MayFault (HasForm state_form) bytes 0 e
      state_seed e a = fails state_form seed_form from_rf fair_state.1.1.0 fair_state.1.1.1 bytes 0 seed_at b2 e a

      module _ (seed rf_at : ℕ) (a3 : StandsAs seed_form (big_bytes 4 seed) bytes seed_at rf_at) where
        b3 : Behind state_form from_rf bytes 0 rf_at
        b3 = behind state_form seed_form from_rf fair_state.1.1.0 (big_bytes 4 seed) bytes 0 seed_at rf_at b2 a3

        pub state_rf : (e : ReadErr) → MayFault (HasForm rf_form) bytes rf_at e → MayFault (HasForm state_form) bytes 0 e
        state_rf e a = fails state_form rf_form from_version fair_state.1.1.1.0 fair_state.1.1.1.1 bytes 0 rf_at b3 e a

        module _ (rf version_at : ℕ) (a4 : StandsAs rf_form (big_bytes 1 rf) bytes rf_at version_at) where
          b4 : Behind state_form from_version bytes 0 version_at
          b4 = behind state_form rf_form from_version fair_state.1.1.1.0 (big_bytes 1 rf) bytes 0 rf_at version_at b3 a4

          pub state_version : (e : ReadErr) → MayFault (HasForm moment_form) bytes version_at e → MayFault (HasForm state_form) bytes 0 e
          state_version e a = fails state_form moment_form from_nodes fair_state.1.1.1.1.0 fair_state.1.1.1.1.1 bytes 0 version_at b4 e a

          module _ (version nodes_at : ℕ) (a5 : StandsAs moment_form (big_bytes 8 version) bytes version_at nodes_at) where
            b5 : Behind state_form from_nodes bytes 0 nodes_at
            b5 = behind state_form moment_form from_nodes fair_state.1.1.1.1.0 (big_bytes 8 version) bytes 0 version_at nodes_at b4 a5

            pub state_nodes : (e : ReadErr) → MayFault (HasForm nodes_form) bytes nodes_at e → MayFault (HasForm state_form) bytes 0 e
            state_nodes e a = fails state_form nodes_form from_shards fair_state.1.1.1.1.1.0 fair_state.1.1.1.1.1.1 bytes 0 nodes_at b5 e a

            module _ (nodes : List Instance) (shards_at : ℕ) (a6 : StandsAs nodes_form (counted_bytes instance_bytes nodes) bytes nodes_at shards_at) where
              b6 : Behind state_form from_shards bytes 0 shards_at
              b6 = behind state_form nodes_form from_shards fair_state.1.1.1.1.1.0 (counted_bytes instance_bytes nodes) bytes 0 nodes_at shards_at b5 a6

              pub state_shards : (e : ReadErr) → MayFault (HasForm shards_form) bytes shards_at e → MayFault (HasForm state_form) bytes 0 e
              state_shards e a = fails state_form shards_form spaces_form fair_state.1.1.1.1.1.1.0 fair_state.1.1.1.1.1.1.1 bytes 0 shards_at b6 e a

              module _ (shards : List (List Assignment)) (spaces_at : ℕ) (a7 : StandsAs shards_form (counted_bytes shard_bytes shards) bytes shards_at spaces_at) where
                pub state_spaces : (e : ReadErr) → MayFault (HasForm spaces_form) bytes spaces_at e → MayFault (HasForm state_form) bytes 0 e
                state_spaces e a = behind state_form shards_form spaces_form fair_state.1.1.1.1.1.1.0 (counted_bytes shard_bytes shards) bytes 0 shards_at spaces_at b6 a7 e a

                pub state_stands : (spaces : List Space) (next : ℕ) → StandsAs spaces_form (counted_bytes space_bytes spaces) bytes spaces_at next
                    → StandsAs state_form (state_bytes (record { rules = record { now = now; spaces = spaces }; seed = seed; place = record { version = version; rf = rf; instances = nodes; shards = shards } })) bytes 0 next
                state_stands spaces next a8 =
                    both_stand format_form from_moment (big_bytes 1 1) _ bytes 0 now_at next a1
                    (both_stand moment_form from_seed (big_bytes 8 now) _ bytes now_at seed_at next a2
                    (both_stand seed_form from_rf (big_bytes 4 seed) _ bytes seed_at rf_at next a3
                    (both_stand rf_form from_version (big_bytes 1 rf) _ bytes rf_at version_at next a4
                    (both_stand moment_form from_nodes (big_bytes 8 version) _ bytes version_at nodes_at next a5
                    (both_stand nodes_form from_shards (counted_bytes instance_bytes nodes) _ bytes nodes_at shards_at next a6
                    (both_stand shards_form spaces_form (counted_bytes shard_bytes shards) (counted_bytes space_bytes spaces) bytes shards_at spaces_at next a7 a8))))))

-- the one format
pub format_is : (n : ℕ) (bytes : List ℕ) (now_at : ℕ) → (1 ≤ n) × (n ≤ 1) → StandsAs format_form (big_bytes 1 n) bytes 0 now_at → StandsAs format_form (big_bytes 1 1) bytes 0 now_at
format_is n bytes now_at one st = let is : n ≡ 1 = omega (arith, one.0, one.1) in subst (λ (k : ℕ). StandsAs format_form (big_bytes 1 k) bytes 0 now_at) is st
