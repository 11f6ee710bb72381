-- States that a cluster may have: their numbers fit their fields, and their bytes have a state's form.
use Rattle.std.proofs.Common.{ℕ, suc, ◌+◌, ◌-◌, ◌<◌, ◌≤◌, ◌^◌, List, [], ◌∷◌, ◌++◌, length, Bool, true, false, ◌||◌, Option, Some, None, refl, sym, ap, subst, ◌∙◌, inl, inr, ◌&&◌, arith, All, IsTrue}
use Rattle.std.specs.Prelude.{◌==◌, nat_le, IfSome}
use Rattle.std.specs.List.{flat_map, list_all}
use Rattle.std.proofs.lemmas.Bool.{cases_eq, leb-true, lt-ltb, and_parts}
use Rattle.std.proofs.lemmas.List.Elements.{All-weaker}
use Rattle.std.proofs.lemmas.Option.{slice_get_within}
use Rattle.byteorder.specs.Endian.{big_bytes}
use Rattle.m3_model.specs.Members.{IsIn}
use Rattle.m3_model.specs.Names.{is_name_byte, is_name}
use Rattle.m3_model.specs.declared.placement.ShardState.{ShardState}
use Rattle.m3_model.specs.declared.placement.ShardState.TheVariants.{Initializing, Available, Leaving}
use Rattle.m3_model.specs.declared.placement.Assignment.{Assignment}
use Rattle.m3_model.specs.declared.placement.Instance.{Instance}
use Rattle.m3_model.specs.declared.placement.Placement.{Placement}
use Rattle.m3_model.specs.declared.rules.Space.{Space}
use Rattle.m3_model.specs.declared.rules.MetaState.{MetaState}
use Rattle.m3_model.proofs.Lists.{All-from_each}
use Rattle.placement_core.specs.Shards.{Shard}
use Rattle.placement_core.specs.Lawful.{IsMoving, IsLawful}
use Rattle.placement_core.proofs.HolderLemmas.{same_node}
use Rattle.wire_bytes.specs.Numbers.{ANumber}
use Rattle.meta_bytes.specs.Forms.{Form, AByte, Times, CountHas, HasForm}
use Rattle.meta_bytes.specs.States.{counted_bytes, name_bytes, name_form, flags_of, instance_bytes, instance_form, code_of, source_of, is_source, assignment_bytes, assignment_form, shard_bytes, shard_form, space_bytes, space_form, state_bytes, state_form, FitsInstance, FitsAssignment, FitsShard, FitsSpace, FitsState, IsSpaceOf, IsMetaState, IsInForm, StatesFit}
use Rattle.meta_bytes.proofs.LengthLemmas.{state_short}
use Rattle.meta_bytes.proofs.NameLemmas.{letters}

-- ---- lists

times_of : {X : Type 0} (form : Form) (spelled : X → List ℕ) (xs : List X) → All (λ x. HasForm form (spelled x)) xs → Times (length xs) (HasForm form) (flat_map spelled xs)
times_of form spelled [] h = refl
times_of form spelled (x ∷ xs) h = record { a = spelled x; b = flat_map spelled xs; first = h 0 x (omega arith); second = times_of form spelled xs (λ i d lt. h (suc i) d (omega (arith, lt))); joined = refl }

count_of : {X : Type 0} (low high : ℕ) (form : Form) (spelled : X → List ℕ) (xs : List X) → low ≤ length xs → length xs ≤ high → All (λ x. HasForm form (spelled x)) xs → CountHas low high (HasForm form) (counted_bytes spelled xs)
count_of low high form spelled xs least most h = record { n = length xs; b = flat_map spelled xs; least = least; most = most; items = times_of form spelled xs h; joined = refl }

some_in : {X : Type 0} (xs : List X) → 1 ≤ length xs → (x : X) × IsIn xs x
some_in [] h = absurd (omega arith)
some_in (x ∷ xs) h = (x, inl refl)

-- a number in its field
number_of : (width low high n : ℕ) → low ≤ n → n ≤ high → ANumber width low high (big_bytes width n)
number_of width low high n least most = record { n = n; least = least; most = most; spelled = refl }

-- ---- names and nodes

record NameFits (name : List ℕ) : Type 0 where
  short : length name < 256
  form : HasForm name_form (name_bytes name)

name_fits : (name : List ℕ) → IsTrue (is_name name) → NameFits name
name_fits name h =
    let p = and_parts (nat_le 1 (length name) && nat_le (length name) 32) (list_all is_name_byte name) h in
    let q = and_parts (nat_le 1 (length name)) (nat_le (length name) 32) p.0 in
    let least = leb-true 1 (length name) q.0 in
    let most = leb-true (length name) 32 q.1 in
    record {
      short = omega (arith, most);
      form = record { n = length name; b = name; least = least; most = most; items = letters name p.1; joined = refl };
    }

most_flags : (listed drained : Bool) → flags_of listed drained ≤ 3
most_flags false false = omega arith
most_flags true false = omega arith
most_flags false true = omega arith
most_flags true true = omega arith

record NodeFits (i : Instance) : Type 0 where
  fits : FitsInstance i
  form : HasForm instance_form (instance_bytes i)

node_fits : (i : Instance) → IsTrue (is_name i.name) × IsTrue (is_name i.group) → NodeFits i
node_fits i h =
    let name = name_fits i.name h.0 in
    let group = name_fits i.group h.1 in
    let flags = big_bytes 1 (flags_of i.listed i.drained) in
    record {
      fits = record { name = name.short; group = group.short };
      form = record {
        a = name_bytes i.name;
        b = name_bytes i.group ++ flags;
        first = name.form;
        second = record { a = name_bytes i.group; b = flags; first = group.form; second = number_of 1 0 3 (flags_of i.listed i.drained) (omega arith) (most_flags i.listed i.drained); joined = refl };
        joined = refl;
      };
    }

-- ---- assignments and shards

-- its node and its source are among 16, and its tenure is below 2^62
record IsSmall (a : Assignment) : Type 0 where
  node : a.node < 16
  tenure : a.tenure < 2 ^ 62
  source : IfSome a.source (λ n. n < 16)

most_code : (state : ShardState) → code_of state ≤ 2
most_code Initializing = omega arith
most_code Available = omega arith
most_code Leaving = omega arith

source_fits : (o : Option ℕ) → IfSome o (λ n. n < 16) → IfSome o (λ n. n < 255)
source_fits None h = tt
source_fits (Some n) h = omega (arith, h)

source_form_of : (o : Option ℕ) → IfSome o (λ n. n < 16) → AByte is_source (big_bytes 1 (source_of o))
source_form_of None h = record { n = 255; small = omega arith; passed = refl; spelled = refl }
source_form_of (Some n) h = record { n = n; small = omega (arith, h); passed = ap (λ b. b || (n == 255)) (lt-ltb n 16 h); spelled = refl }

record AssignmentFits (a : Assignment) : Type 0 where
  fits : FitsAssignment a
  form : HasForm assignment_form (assignment_bytes a)

assignment_fits : (a : Assignment) → IsSmall a → AssignmentFits a
assignment_fits a s =
    let tenure = big_bytes 8 a.tenure in
    let code = big_bytes 1 (code_of a.state) in
    let source = big_bytes 1 (source_of a.source) in
    let node_small = s.node in
    let tenure_small = s.tenure in
    record {
      fits = record { node = omega (arith, node_small); tenure = omega (arith, tenure_small); source = source_fits a.source s.source };
      form = record {
        a = big_bytes 1 a.node;
        b = tenure ++ (code ++ source);
        first = number_of 1 0 15 a.node (omega arith) (omega (arith, node_small));
        second = record {
          a = tenure;
          b = code ++ source;
          first = number_of 8 0 (2 ^ 62 - 1) a.tenure (omega arith) (omega (arith, tenure_small));
          second = record { a = code; b = source; first = number_of 1 0 2 (code_of a.state) (omega arith) (most_code a.state); second = source_form_of a.source s.source; joined = refl };
          joined = refl;
        };
        joined = refl;
      };
    }

module _ (place : Placement) (law : IsLawful place) (shard : Shard) (stands : IsIn place.shards shard) where
  node_there : (a : Assignment) → IsIn shard a → a.node < length place.instances
  node_there a m = let listed = (law.spread shard stands).listed a m in slice_get_within place.instances a.node listed.0 listed.1

  node_small : (a : Assignment) → IsIn shard a → a.node < 16
  node_small a m = let there = node_there a m in let few = law.limits.few_nodes in omega (arith, there, few)

  -- a replica that serves, or the one that leaves, has no source; the one that joins has a node's number
  moving_source : IsMoving shard → (a : Assignment) → IsIn shard a → IfSome a.source (λ n. n < 16)
  moving_source v a m =
      let distinct = (law.shards shard stands).distinct in
      elim (cases_eq a.node (v.leaving).node) as (λ _. IfSome a.source (λ n. n < 16)) [
        | inl e ↦
            let is = same_node shard a v.leaving distinct m v.stands e in
            subst (λ (o : Option ℕ). IfSome o (λ n. n < 16)) (sym (ap (λ (w : Assignment). w.source) is ∙ (v.is_leaving).1)) tt
        | inr nl ↦ elim (cases_eq a.node (v.joining).node) as (λ _. IfSome a.source (λ n. n < 16)) [
          | inl e ↦
              let is = same_node shard a v.joining distinct m v.joins e in
              subst (λ (o : Option ℕ). IfSome o (λ n. n < 16)) (sym (ap (λ (w : Assignment). w.source) is ∙ (v.is_joining).1)) (node_small v.leaving v.stands)
          | inr nj ↦ subst (λ (o : Option ℕ). IfSome o (λ n. n < 16)) (sym (v.others a m nl nj).1) tt
        ]
      ]

  small_source : (a : Assignment) → IsIn shard a → IfSome a.source (λ n. n < 16)
  small_source a m =
      elim (law.shards shard stands).replicas as (λ _. IfSome a.source (λ n. n < 16)) [
        | inl s ↦ subst (λ (o : Option ℕ). IfSome o (λ n. n < 16)) (sym (s.0 a m).1) tt
        | inr v ↦ moving_source v.0 a m
      ]

  is_small : (a : Assignment) → IsIn shard a → IsSmall a
  is_small a m = record {
    node = node_small a m;
    tenure = let low = (law.shards shard stands).tenures a m in let fits = law.limits.version_fits in omega (arith, low, fits);
    source = small_source a m;
  }

  many : (place.rf ≤ length shard) × (length shard ≤ place.rf + 1)
  many = elim (law.shards shard stands).replicas as (λ _. (place.rf ≤ length shard) × (length shard ≤ place.rf + 1)) [
    | inl s ↦ let e = s.1 in (omega (arith, e), omega (arith, e))
    | inr v ↦ let e = v.1 in (omega (arith, e), omega (arith, e))
  ]

  -- the shard's node is among the instances, so there are some
  some_nodes : 1 ≤ length place.instances
  some_nodes =
      let rf = law.limits.some_replicas in
      let first = some_in shard (omega (arith, many.0, rf)) in
      let there = node_there first.0 first.1 in
      omega (arith, there)

  shard_fits : FitsShard shard
  shard_fits =
      let rf = law.limits.few_replicas in
      record { few = omega (arith, many.1, rf); each = All-from_each FitsAssignment shard (λ a m. (assignment_fits a (is_small a m)).fits) }

  shard_has : HasForm shard_form (shard_bytes shard)
  shard_has =
      let low = law.limits.some_replicas in
      let high = law.limits.few_replicas in
      count_of 1 6 assignment_form assignment_bytes shard (omega (arith, many.0, low)) (omega (arith, many.1, high))
      (All-from_each (λ a. HasForm assignment_form (assignment_bytes a)) shard (λ a m. (assignment_fits a (is_small a m)).form))

-- ---- namespaces

record SpaceFits (s : Space) : Type 0 where
  fits : FitsSpace s
  form : HasForm space_form (space_bytes s)

space_fits : (s : Space) → IsSpaceOf s → SpaceFits s
space_fits s h =
    let name = name_fits s.name h.named in
    let some = h.some_block in
    let past_low = h.past_below in
    let future_low = h.future_below in
    let kept = h.kept_longer in
    let small = h.retention_fits in
    let past = big_bytes 8 s.past in
    let future = big_bytes 8 s.future in
    let retention = big_bytes 8 s.retention in
    record {
      fits = record {
        name = name.short;
        block = omega (arith, kept, small);
        past = omega (arith, past_low, kept, small);
        future = omega (arith, future_low, kept, small);
        retention = omega (arith, small);
      };
      form = record {
        a = name_bytes s.name;
        b = big_bytes 8 s.block ++ (past ++ (future ++ retention));
        first = name.form;
        second = record {
          a = big_bytes 8 s.block;
          b = past ++ (future ++ retention);
          first = number_of 8 1 (2 ^ 40 - 1) s.block some (omega (arith, kept, small));
          second = record {
            a = past;
            b = future ++ retention;
            first = number_of 8 0 (2 ^ 40 - 2) s.past (omega arith) (omega (arith, past_low, kept, small));
            second = record {
              a = future;
              b = retention;
              first = number_of 8 0 (2 ^ 40 - 2) s.future (omega arith) (omega (arith, future_low, kept, small));
              second = number_of 8 1 (2 ^ 40 - 1) s.retention (omega (arith, some, kept)) (omega (arith, small));
              joined = refl;
            };
            joined = refl;
          };
          joined = refl;
        };
        joined = refl;
      };
    }

-- ---- a state

module _ (s : MetaState) (h : IsMetaState s) where
  abbrev place : Placement
  place = s.place

  nodes_all : All (λ i. HasForm instance_form (instance_bytes i)) place.instances
  nodes_all = All-from_each (λ i. HasForm instance_form (instance_bytes i)) place.instances (λ i m. (node_fits i (h.place.limits.named i m)).form)

  shards_all : All (λ x. HasForm shard_form (shard_bytes x)) place.shards
  shards_all = All-from_each (λ x. HasForm shard_form (shard_bytes x)) place.shards (λ x m. shard_has place h.place x m)

  spaces_all : All (λ x. HasForm space_form (space_bytes x)) s.rules.spaces
  spaces_all = All-weaker IsSpaceOf (λ x. HasForm space_form (space_bytes x)) (λ x is. (space_fits x is).form) s.rules.spaces h.spaces.each

  nodes_some : 1 ≤ length place.instances
  nodes_some = let x = some_in place.shards h.place.limits.some_shards in some_nodes place h.place x.0 x.1

  state_fits : FitsState s
  state_fits =
      let moment = h.moment in
      let seed = h.seed in
      let rf = h.place.limits.few_replicas in
      let version = h.place.limits.version_fits in
      let nodes = h.place.limits.few_nodes in
      let shards = h.place.limits.few_shards in
      let spaces = h.spaces.few in
      record {
        now = omega (arith, moment);
        seed = omega (arith, seed);
        rf = omega (arith, rf);
        version = omega (arith, version);
        few_instances = omega (arith, nodes);
        instances = All-from_each FitsInstance place.instances (λ i m. (node_fits i (h.place.limits.named i m)).fits);
        few_shards = omega (arith, shards);
        shards = All-from_each FitsShard place.shards (λ x m. shard_fits place h.place x m);
        few_spaces = omega (arith, spaces);
        spaces = All-weaker IsSpaceOf FitsSpace (λ x is. (space_fits x is).fits) s.rules.spaces h.spaces.each;
      }

  state_has : HasForm state_form (state_bytes s)
  state_has =
      let moment = h.moment in
      let seed = h.seed in
      let low = h.place.limits.some_replicas in
      let high = h.place.limits.few_replicas in
      let version = h.place.limits.version_fits in
      let nodes = h.place.limits.few_nodes in
      let spaces = h.spaces.few in
      let last = counted_bytes space_bytes s.rules.spaces in
      let from_shards = counted_bytes shard_bytes place.shards ++ last in
      let from_nodes = counted_bytes instance_bytes place.instances ++ from_shards in
      let from_version = big_bytes 8 place.version ++ from_nodes in
      let from_rf = big_bytes 1 place.rf ++ from_version in
      let from_seed = big_bytes 4 s.seed ++ from_rf in
      record {
        a = big_bytes 1 1;
        b = big_bytes 8 s.rules.now ++ from_seed;
        first = number_of 1 1 1 1 (omega arith) (omega arith);
        second = record {
          a = big_bytes 8 s.rules.now;
          b = from_seed;
          first = number_of 8 0 (2 ^ 62 - 1) s.rules.now (omega arith) (omega (arith, moment));
          second = record {
            a = big_bytes 4 s.seed;
            b = from_rf;
            first = number_of 4 0 (2 ^ 32 - 1) s.seed (omega arith) (omega (arith, seed));
            second = record {
              a = big_bytes 1 place.rf;
              b = from_version;
              first = number_of 1 1 5 place.rf low (omega (arith, high));
              second = record {
                a = big_bytes 8 place.version;
                b = from_nodes;
                first = number_of 8 0 (2 ^ 62 - 1) place.version (omega arith) (omega (arith, version));
                second = record {
                  a = counted_bytes instance_bytes place.instances;
                  b = from_shards;
                  first = count_of 1 16 instance_form instance_bytes place.instances nodes_some nodes nodes_all;
                  second = record {
                    a = counted_bytes shard_bytes place.shards;
                    b = last;
                    first = count_of 1 64 shard_form shard_bytes place.shards h.place.limits.some_shards h.place.limits.few_shards shards_all;
                    second = count_of 0 8 space_form space_bytes s.rules.spaces (omega arith) spaces spaces_all;
                    joined = refl;
                  };
                  joined = refl;
                };
                joined = refl;
              };
              joined = refl;
            };
            joined = refl;
          };
          joined = refl;
        };
        joined = refl;
      }

pub in_form : (s : MetaState) → IsMetaState s → IsInForm s
in_form s h = record { fits = state_fits s h; form = state_has s h; short = state_short (state_bytes s) (state_has s h) }

pub states_fit : StatesFit
states_fit s h = in_form s h
