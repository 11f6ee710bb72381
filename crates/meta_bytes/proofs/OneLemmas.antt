-- One spelling for each state.
use Rattle.std.proofs.Common.{◌≡◌, ℕ, zero, suc, ◌<◌, ◌^◌, ◌%◌, List, [], ◌∷◌, ◌++◌, length, Bool, true, false, Option, Some, None, refl, sym, ap, ◌∙◌, arith, append_assoc, append-nil, All}
use Rattle.std.specs.Prelude.{◌==◌, nat_le, IfSome}
use Rattle.std.specs.List.{flat_map}
use Rattle.byteorder.specs.Endian.{big_bytes}
use Rattle.m3_model.specs.declared.placement.ShardState.{ShardState}
use Rattle.m3_model.specs.declared.placement.ShardState.TheVariants.{Initializing, Available, Leaving}
use Rattle.m3_model.specs.declared.placement.Assignment.{Assignment}
use Rattle.m3_model.specs.declared.placement.Instance.{Instance}
use Rattle.m3_model.specs.declared.rules.Space.{Space}
use Rattle.wire_bytes.proofs.PointLemmas.{both_parts, number_parts}
use Rattle.meta_bytes.specs.States.{counted_bytes, name_bytes, flags_of, instance_bytes, code_of, source_of, assignment_bytes, shard_bytes, space_bytes, FitsInstance, FitsAssignment, FitsShard, FitsSpace, StatesAreOne}

-- of two values that fit, which begin the same bytes, each is the other
abbrev IsOne : {X : Type 0} → (X → Type 0) → (X → List ℕ) → Type 0
IsOne {X} Fits f = (x y : X) (r s : List ℕ) → Fits x → Fits y → f x ++ r ≡ f y ++ s → (x ≡ y) × (r ≡ s)

one_name : (a b r s : List ℕ) → length a < 256 → length b < 256 → name_bytes a ++ r ≡ name_bytes b ++ s → (a ≡ b) × (r ≡ s)
one_name a b r s p q e =
    let whole = sym (append_assoc (big_bytes 1 (length a)) a r) ∙ e ∙ append_assoc (big_bytes 1 (length b)) b s in
    let n = number_parts 1 (length a) (length b) (a ++ r) (b ++ s) (omega (arith, p)) (omega (arith, q)) whole in
    both_parts a r b s n.0 n.1

module _ {X : Type 0} (Fits : X → Type 0) (f : X → List ℕ) (one : IsOne Fits f) where
  one_items : (xs ys : List X) (r s : List ℕ) → length xs ≡ length ys → All Fits xs → All Fits ys → flat_map f xs ++ r ≡ flat_map f ys ++ s → (xs ≡ ys) × (r ≡ s)
  one_items [] [] r s long p q e = (refl, e)
  one_items [] (y ∷ ys) r s long p q e = absurd (omega arith)
  one_items (x ∷ xs) [] r s long p q e = absurd (omega arith)
  one_items (x ∷ xs) (y ∷ ys) r s long p q e =
      let whole = sym (append_assoc (f x) (flat_map f xs) r) ∙ e ∙ append_assoc (f y) (flat_map f ys) s in
      let head = one x y (flat_map f xs ++ r) (flat_map f ys ++ s) (p 0 x (omega arith)) (q 0 y (omega arith)) whole in
      let rest = one_items xs ys r s (omega arith) (λ i d lt. p (suc i) d (omega (arith, lt))) (λ i d lt. q (suc i) d (omega (arith, lt))) head.1 in
      ((λ i. head.0 i ∷ rest.0 i), rest.1)

  one_list : (xs ys : List X) (r s : List ℕ) → length xs < 256 → length ys < 256 → All Fits xs → All Fits ys → counted_bytes f xs ++ r ≡ counted_bytes f ys ++ s → (xs ≡ ys) × (r ≡ s)
  one_list xs ys r s few less p q e =
      let whole = sym (append_assoc (big_bytes 1 (length xs)) (flat_map f xs) r) ∙ e ∙ append_assoc (big_bytes 1 (length ys)) (flat_map f ys) s in
      let n = number_parts 1 (length xs) (length ys) (flat_map f xs ++ r) (flat_map f ys ++ s) (omega (arith, few)) (omega (arith, less)) whole in
      one_items xs ys r s n.0 p q n.1

-- ---- flags and codes, told back

abbrev listed_of : ℕ → Bool
listed_of n = n % 2 == 1

abbrev drained_of : ℕ → Bool
drained_of n = nat_le 2 n

listed_back : (l d : Bool) → listed_of (flags_of l d) ≡ l
listed_back false false = refl
listed_back true false = refl
listed_back false true = refl
listed_back true true = refl

drained_back : (l d : Bool) → drained_of (flags_of l d) ≡ d
drained_back false false = refl
drained_back true false = refl
drained_back false true = refl
drained_back true true = refl

small_flags : (l d : Bool) → flags_of l d < 256
small_flags false false = omega arith
small_flags true false = omega arith
small_flags false true = omega arith
small_flags true true = omega arith

abbrev state_at : ℕ → ShardState
state_at zero = Initializing
state_at (suc zero) = Available
state_at (suc (suc n)) = Leaving

state_back : (st : ShardState) → state_at (code_of st) ≡ st
state_back Initializing = refl
state_back Available = refl
state_back Leaving = refl

small_code : (st : ShardState) → code_of st < 256
small_code Initializing = omega arith
small_code Available = omega arith
small_code Leaving = omega arith

one_source : (a b : Option ℕ) → IfSome a (λ n. n < 255) → IfSome b (λ n. n < 255) → source_of a ≡ source_of b → a ≡ b
one_source None None p q e = refl
one_source None (Some n) p q e = absurd (omega (arith, q, e))
one_source (Some m) None p q e = absurd (omega (arith, p, e))
one_source (Some m) (Some n) p q e = ap Some e

small_source : (a : Option ℕ) → IfSome a (λ n. n < 255) → source_of a < 256
small_source None p = omega arith
small_source (Some n) p = omega (arith, p)

-- ---- each of a state's parts

word : (n : ℕ) → n < 2 ^ 64 → n < 256 ^ 8
word n lt = omega (arith, lt)

one_instance : IsOne FitsInstance instance_bytes
one_instance x y r s p q e =
    let out : (i : Instance) (t : List ℕ) → instance_bytes i ++ t ≡ name_bytes i.name ++ (name_bytes i.group ++ (big_bytes 1 (flags_of i.listed i.drained) ++ t)) =
    λ i t. append_assoc (name_bytes i.name) (name_bytes i.group ++ big_bytes 1 (flags_of i.listed i.drained)) t ∙ ap (λ (l : List ℕ). name_bytes i.name ++ l) (append_assoc (name_bytes i.group) (big_bytes 1 (flags_of i.listed i.drained)) t) in
    let name = one_name x.name y.name _ _ p.name q.name (sym (out x r) ∙ e ∙ out y s) in
    let group = one_name x.group y.group _ _ p.group q.group name.1 in
    let flags = number_parts 1 (flags_of x.listed x.drained) (flags_of y.listed y.drained) r s (small_flags x.listed x.drained) (small_flags y.listed y.drained) group.1 in
    let listed : x.listed ≡ y.listed = sym (listed_back x.listed x.drained) ∙ ap listed_of flags.0 ∙ listed_back y.listed y.drained in
    let drained : x.drained ≡ y.drained = sym (drained_back x.listed x.drained) ∙ ap drained_of flags.0 ∙ drained_back y.listed y.drained in
    ((λ i. record { name = name.0 i; group = group.0 i; listed = listed i; drained = drained i }), flags.1)

one_assignment : IsOne FitsAssignment assignment_bytes
one_assignment x y r s p q e =
    let out : (a : Assignment) (t : List ℕ) → assignment_bytes a ++ t ≡ big_bytes 1 a.node ++ (big_bytes 8 a.tenure ++ (big_bytes 1 (code_of a.state) ++ (big_bytes 1 (source_of a.source) ++ t))) =
    λ a t. append_assoc (big_bytes 1 a.node) (big_bytes 8 a.tenure ++ (big_bytes 1 (code_of a.state) ++ big_bytes 1 (source_of a.source))) t
    ∙ ap (λ (l : List ℕ). big_bytes 1 a.node ++ l) (append_assoc (big_bytes 8 a.tenure) (big_bytes 1 (code_of a.state) ++ big_bytes 1 (source_of a.source)) t
    ∙ ap (λ (l : List ℕ). big_bytes 8 a.tenure ++ l) (append_assoc (big_bytes 1 (code_of a.state)) (big_bytes 1 (source_of a.source)) t)) in
    let node = number_parts 1 x.node y.node _ _ p.node q.node (sym (out x r) ∙ e ∙ out y s) in
    let tenure = number_parts 8 x.tenure y.tenure _ _ (word x.tenure p.tenure) (word y.tenure q.tenure) node.1 in
    let code = number_parts 1 (code_of x.state) (code_of y.state) _ _ (small_code x.state) (small_code y.state) tenure.1 in
    let source = number_parts 1 (source_of x.source) (source_of y.source) r s (small_source x.source p.source) (small_source y.source q.source) code.1 in
    let state : x.state ≡ y.state = sym (state_back x.state) ∙ ap state_at code.0 ∙ state_back y.state in
    let from : x.source ≡ y.source = one_source x.source y.source p.source q.source source.0 in
    ((λ i. record { node = node.0 i; tenure = tenure.0 i; state = state i; source = from i }), source.1)

one_shard : IsOne FitsShard shard_bytes
one_shard x y r s p q e = one_list FitsAssignment assignment_bytes one_assignment x y r s p.few q.few p.each q.each e

one_space : IsOne FitsSpace space_bytes
one_space x y r s p q e =
    let out : (a : Space) (t : List ℕ) → space_bytes a ++ t ≡ name_bytes a.name ++ (big_bytes 8 a.block ++ (big_bytes 8 a.past ++ (big_bytes 8 a.future ++ (big_bytes 8 a.retention ++ t)))) =
    λ a t. append_assoc (name_bytes a.name) (big_bytes 8 a.block ++ (big_bytes 8 a.past ++ (big_bytes 8 a.future ++ big_bytes 8 a.retention))) t
    ∙ ap (λ (l : List ℕ). name_bytes a.name ++ l) (append_assoc (big_bytes 8 a.block) (big_bytes 8 a.past ++ (big_bytes 8 a.future ++ big_bytes 8 a.retention)) t
    ∙ ap (λ (l : List ℕ). big_bytes 8 a.block ++ l) (append_assoc (big_bytes 8 a.past) (big_bytes 8 a.future ++ big_bytes 8 a.retention) t ∙ ap (λ (l : List ℕ). big_bytes 8 a.past ++ l) (append_assoc (big_bytes 8 a.future) (big_bytes 8 a.retention) t))) in
    let name = one_name x.name y.name _ _ p.name q.name (sym (out x r) ∙ e ∙ out y s) in
    let block = number_parts 8 x.block y.block _ _ (word x.block p.block) (word y.block q.block) name.1 in
    let past = number_parts 8 x.past y.past _ _ (word x.past p.past) (word y.past q.past) block.1 in
    let future = number_parts 8 x.future y.future _ _ (word x.future p.future) (word y.future q.future) past.1 in
    let retention = number_parts 8 x.retention y.retention r s (word x.retention p.retention) (word y.retention q.retention) future.1 in
    ((λ i. record { name = name.0 i; block = block.0 i; past = past.0 i; future = future.0 i; retention = retention.0 i }), retention.1)

pub states_are_one : StatesAreOne
states_are_one x y p q e =
    let format = number_parts 1 1 1 _ _ (omega arith) (omega arith) e in
    let now = number_parts 8 x.rules.now y.rules.now _ _ (word x.rules.now p.now) (word y.rules.now q.now) format.1 in
    let seed = number_parts 4 x.seed y.seed _ _ (let h = p.seed in omega arith) (let h = q.seed in omega arith) now.1 in
    let rf = number_parts 1 x.place.rf y.place.rf _ _ p.rf q.rf seed.1 in
    let version = number_parts 8 x.place.version y.place.version _ _ (word x.place.version p.version) (word y.place.version q.version) rf.1 in
    let instances = one_list FitsInstance instance_bytes one_instance x.place.instances y.place.instances _ _ p.few_instances q.few_instances p.instances q.instances version.1 in
    let shards = one_list FitsShard shard_bytes one_shard x.place.shards y.place.shards _ _ p.few_shards q.few_shards p.shards q.shards instances.1 in
    let nil : (l : List Space) → counted_bytes space_bytes l ++ [] ≡ counted_bytes space_bytes l = λ l. append-nil (counted_bytes space_bytes l) in
    let spaces = one_list FitsSpace space_bytes one_space x.rules.spaces y.rules.spaces [] [] p.few_spaces q.few_spaces p.spaces q.spaces (nil x.rules.spaces ∙ shards.1 ∙ sym (nil y.rules.spaces)) in
    λ i. record {
      rules = record { now = now.0 i; spaces = spaces.0 i };
      seed = seed.0 i;
      place = record { version = version.0 i; rf = rf.0 i; instances = instances.0 i; shards = shards.0 i };
    }
