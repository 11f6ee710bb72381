-- Which objects are put off.
use Rattle.std.proofs.Common.{◌≡◌, ◌≢◌, ℕ, List, refl, sym, ap, ◌∙◌, inl, inr, false, true}
use Rattle.std.specs.Prelude.{Option, Some, None, Result, Ok, Err, IsTrue, Bool, nat_eq, ◌⊎◌, if◌then◌else◌, codes, option_and_then, ◌+◌}
use Rattle.std.specs.Option.{option_map_or}
use Rattle.std.specs.Cmp.Lexicographic.{pointwise, bytes_decides}
use Rattle.std.proofs.lemmas.Bool.{both_ways, false_from_ne_true}
use Rattle.serde_json.specs.Data.{Data, Items, no_items, item}
use Rattle.serde_json.specs.Find.{get, as_str, as_number, as_u64, as_i64, as_array}
use Rattle.m3_model.specs.declared.act.Act.{Act}
use Rattle.m3_model.specs.declared.act.Act.TheVariants as act
use Rattle.m3_model.specs.declared.act.Fate.{Fate}
use Rattle.m3_model.specs.declared.act.ReadLevel.{ReadLevel}
use Rattle.m3_model.specs.declared.act.WriteLevel.{WriteLevel}
use Rattle.m3_model.specs.declared.point.Matcher.{Matcher}
use Rattle.m3_model.specs.declared.limits.TheConstants.{MOST_SHARDS, MOST_NODES, MOST_MATCHERS, MOST_FATES, MOST_CLIENTS, TIME_END}
use Rattle.m3_model.specs.Names.{is_name}
use Rattle.m3_model.specs.Tags.{is_tag_name}
use Rattle.line_fields.specs.declared.fault.LineErr.{LineErr}
use Rattle.line_fields.specs.declared.fault.LineErr.TheVariants as errors
use Rattle.line_fields.specs.Fields.{◌>>=◌, needed, tested, is_one_of, text_of, name_in, number_of, field, text_at, name_at, number_at, value_at, optional_at}
use Rattle.line_lists.specs.Lists.{has_count, items_at, entries_of, list_at}
use Rattle.line_lists.specs.Nodes.{node_of_two, node_of_items, node_of, names_differ, nodes_at}
use Rattle.line_lists.specs.Matchers.{sign_named, matcher_of_three, matcher_of_items, matcher_of, matchers_at}
use Rattle.m3_json.specs.Rows.{init_of, namespace_of, now_of, write_level_named, read_level_named, write_level_at, read_level_at, version_at, write_of, fetch_of, match_of, sole_node, stop_of, pick_at, restart_of, shard_asked, bootstrap_of}
use Rattle.line_lists.specs.Fates.{fate_named, fate_of_four, fate_of_items, fate_of, messages_differ, fates_at}
use Rattle.m3_json.specs.Fates.{fates_of}
use Rattle.m3_json.specs.Placements.{add_of, drain_of, cancel_of, remove_of, replace_of}
use Rattle.m3_json.specs.Upkeep.{without_fields}
use Rattle.m3_json.specs.NotYet.{later_ops, refusal_of, is_put_off}
use Rattle.m3_json.specs.Requests.{act_of, row_of, NamesSeries, IsPutOff}
use Rattle.m3_json.specs.Laws.{HasLaterOp, HasLaterForm, PutsOffExactly}
use Rattle.line_lists.proofs.Steps.{from_steps}

-- reading doesn't end in `Later`
abbrev pub Decided : {A : Type 0} → Result A LineErr → Type 0
Decided r = r ≢ Err errors.Later

Decided-steps : {A B : Type 0} (r : Result A LineErr) (f : A → Result B LineErr) → Decided r → ((x : A) → Decided (f x)) → Decided (r >>= f)
Decided-steps (Ok x) f first next = next x
Decided-steps (Err e) f first next = λ same. let later : e ≡ errors.Later = cc in first (ap Err later)

Decided-needed : {A : Type 0} (o : Option A) → Decided (needed o)
Decided-needed None = λ same. cc
Decided-needed (Some x) = λ same. cc

Decided-if : {A : Type 0} (b : Bool) (x : A) (r : Result A LineErr) → Decided r → Decided (if b then Ok x else r)
Decided-if true x r other = λ same. cc
Decided-if false x r other = other

Decided-Form : (A : Type 0) → Decided {A = A} (Err errors.Form)
Decided-Form A same = cc

Decided-Ok : {A : Type 0} (x : A) → Decided (Ok x)
Decided-Ok x same = cc

Decided-tested : {A : Type 0} (test : A → Bool) (x : A) → Decided (tested test x)
Decided-tested {A} test x = Decided-if (test x) x (Err errors.Form) (Decided-Form A)

Decided-field : (key : List ℕ) (d : Data) → Decided (field key d)
Decided-field key d = Decided-needed (get key d)

Decided-text_of : (d : Data) → Decided (text_of d)
Decided-text_of d = Decided-needed (as_str d)

Decided-name_in : (d : Data) → Decided (name_in d)
unfolding name_in
Decided-name_in d = Decided-steps (text_of d) (tested is_name) (Decided-text_of d) (Decided-tested is_name)

Decided-number_of : (from limit : ℕ) (d : Data) → Decided (number_of from limit d)
unfolding number_of
Decided-number_of from limit d = Decided-steps (needed (option_and_then as_u64 (as_number d))) (tested _) (Decided-needed (option_and_then as_u64 (as_number d))) (Decided-tested _)

Decided-text_at : (key : List ℕ) (d : Data) → Decided (text_at key d)
unfolding text_at
Decided-text_at key d = Decided-steps (field key d) text_of (Decided-field key d) Decided-text_of

Decided-name_at : (key : List ℕ) (d : Data) → Decided (name_at key d)
unfolding name_at
Decided-name_at key d = Decided-steps (field key d) name_in (Decided-field key d) Decided-name_in

Decided-number_at : (key : List ℕ) (from limit : ℕ) (d : Data) → Decided (number_at key from limit d)
unfolding number_at
Decided-number_at key from limit d = Decided-steps (field key d) (number_of from limit) (Decided-field key d) (Decided-number_of from limit)

Decided-namespace_of : (d : Data) → Decided (namespace_of d)
unfolding namespace_of
Decided-namespace_of d = search (Decided-steps, Decided-Ok, Decided-tested, Decided-name_at, Decided-number_at) depth 20

Decided-now_of : (d : Data) → Decided (now_of d)
unfolding now_of
Decided-now_of d = search (Decided-steps, Decided-Ok, Decided-tested, Decided-number_at) depth 20

Decided-value_at : (key : List ℕ) (d : Data) → Decided (value_at key d)
unfolding value_at
Decided-value_at key d = Decided-steps _ _ (Decided-field key d) (λ v. Decided-needed (option_and_then as_i64 (as_number v)))

Decided-optional_at : {A : Type 0} (absent : A) (key : List ℕ) (row : Data → Result A LineErr) (d : Data) → ((v : Data) → Decided (row v)) → Decided (optional_at absent key row d)
Decided-optional_at {A} absent key row d each = by (get key d)
  where
    by : (o : Option Data) → Decided (option_map_or row o (Ok absent))
    by None = λ same. cc
    by (Some v) = each v

Decided-write_level_at : (d : Data) → Decided (write_level_at d)
unfolding write_level_at
Decided-write_level_at d =
    Decided-optional_at _ (codes "level") _ d (λ v. Decided-steps (text_of v) write_level_named (Decided-text_of v) (λ name.
    Decided-if (pointwise nat_eq name (codes "one")) _ _ (Decided-if (pointwise nat_eq name (codes "majority")) _ _ (Decided-if (pointwise nat_eq name (codes "all")) _ _ (Decided-Form WriteLevel)))))

Decided-read_level_at : (d : Data) → Decided (read_level_at d)
unfolding read_level_at
Decided-read_level_at d =
    Decided-optional_at _ (codes "level") _ d (λ v. Decided-steps (text_of v) read_level_named (Decided-text_of v) (λ name.
    Decided-if (pointwise nat_eq name (codes "one")) _ _ (Decided-if (pointwise nat_eq name (codes "unstrict")) _ _
    (Decided-if (pointwise nat_eq name (codes "majority")) _ _ (Decided-if (pointwise nat_eq name (codes "all")) _ _ (Decided-Form ReadLevel))))))

Decided-version_at : (d : Data) → Decided (version_at d)
unfolding version_at
Decided-version_at d = Decided-optional_at _ (codes "version") _ d (λ v. Decided-steps (number_of 0 TIME_END v) _ (Decided-number_of 0 TIME_END v) (λ n same. cc))

Decided-node_of_two : (a b : Data) → Decided (node_of_two a b)
Decided-node_of_two a b = Decided-steps (name_in a) _ (Decided-name_in a) (λ n. Decided-steps (name_in b) _ (Decided-name_in b) (λ g same. cc))

Decided-node_of_items : (items : Items) → Decided (node_of_items items)
Decided-node_of_items no_items = Decided-Form (List ℕ × List ℕ)
Decided-node_of_items (item a no_items) = Decided-Form (List ℕ × List ℕ)
Decided-node_of_items (item a (item b no_items)) = Decided-node_of_two a b
Decided-node_of_items (item a (item b (item c ds))) = Decided-Form (List ℕ × List ℕ)

Decided-node_of : (d : Data) → Decided (node_of d)
unfolding node_of
Decided-node_of d = Decided-steps (needed (as_array d)) node_of_items (Decided-needed (as_array d)) Decided-node_of_items

Decided-items_at : (key : List ℕ) (least most : ℕ) (d : Data) → Decided (items_at key least most d)
unfolding items_at
Decided-items_at key least most d = Decided-steps (field key d) _ (Decided-field key d) (λ array. Decided-steps (needed (as_array array)) (tested (has_count least most)) (Decided-needed (as_array array)) (Decided-tested (has_count least most)))

Decided-entries_of : {A : Type 0} (row : Data → Result A LineErr) → ((d : Data) → Decided (row d)) → (items : Items) → Decided (entries_of row items)
Decided-entries_of row each no_items = λ same. cc
Decided-entries_of row each (item d ds) = Decided-steps (row d) _ (each d) (λ entry. Decided-steps (entries_of row ds) _ (Decided-entries_of row each ds) (λ entries same. cc))

Decided-list_at : {A : Type 0} (row : Data → Result A LineErr) → ((d : Data) → Decided (row d)) → (key : List ℕ) (least most : ℕ) (d : Data) → Decided (list_at row key least most d)
Decided-list_at row each key least most d = Decided-steps (items_at key least most d) (entries_of row) (Decided-items_at key least most d) (Decided-entries_of row each)

Decided-nodes_at : (key : List ℕ) (d : Data) → Decided (nodes_at key d)
unfolding nodes_at
Decided-nodes_at key d = Decided-steps (list_at node_of key 1 MOST_NODES d) (tested names_differ) (Decided-list_at node_of Decided-node_of key 1 MOST_NODES d) (Decided-tested names_differ)

Decided-sign_named : (sign : List ℕ) → Decided (sign_named sign)
Decided-sign_named sign = Decided-if (pointwise nat_eq sign (codes "=")) _ _ (Decided-if (pointwise nat_eq sign (codes "!=")) _ _ (Decided-Form Bool))

Decided-matcher_of_three : (a b c : Data) → Decided (matcher_of_three a b c)
Decided-matcher_of_three a b c =
    Decided-steps (text_of a >>= tested is_tag_name) _ (Decided-steps (text_of a) (tested is_tag_name) (Decided-text_of a) (Decided-tested is_tag_name)) (λ name.
    Decided-steps (text_of b >>= sign_named) _ (Decided-steps (text_of b) sign_named (Decided-text_of b) Decided-sign_named) (λ equal.
    Decided-steps (text_of c) _ (Decided-text_of c) (λ value same. cc)))

Decided-matcher_of_items : (items : Items) → Decided (matcher_of_items items)
Decided-matcher_of_items no_items = Decided-Form Matcher
Decided-matcher_of_items (item a no_items) = Decided-Form Matcher
Decided-matcher_of_items (item a (item b no_items)) = Decided-Form Matcher
Decided-matcher_of_items (item a (item b (item c no_items))) = Decided-matcher_of_three a b c
Decided-matcher_of_items (item a (item b (item c (item d ds)))) = Decided-Form Matcher

Decided-matcher_of : (d : Data) → Decided (matcher_of d)
unfolding matcher_of
Decided-matcher_of d = Decided-steps (needed (as_array d)) matcher_of_items (Decided-needed (as_array d)) Decided-matcher_of_items

Decided-matchers_at : (key : List ℕ) (d : Data) → Decided (matchers_at key d)
unfolding matchers_at
Decided-matchers_at key d = Decided-list_at matcher_of Decided-matcher_of key 0 MOST_MATCHERS d

Decided-init_of : (d : Data) → Decided (init_of d)
unfolding init_of
Decided-init_of d = search (Decided-steps, Decided-Ok, Decided-tested, Decided-number_at, Decided-nodes_at) depth 20

Decided-write_of : (d : Data) → Decided (write_of d)
unfolding write_of
Decided-write_of d = search (Decided-steps, Decided-Ok, Decided-tested, Decided-name_at, Decided-text_at, Decided-number_at, Decided-value_at, Decided-write_level_at, Decided-version_at) depth 20

Decided-fetch_of : (d : Data) → Decided (fetch_of d)
unfolding fetch_of
Decided-fetch_of d = search (Decided-steps, Decided-Ok, Decided-tested, Decided-name_at, Decided-text_at, Decided-number_at, Decided-read_level_at, Decided-version_at) depth 20

Decided-match_of : (d : Data) → Decided (match_of d)
unfolding match_of
Decided-match_of d = search (Decided-steps, Decided-Ok, Decided-tested, Decided-name_at, Decided-matchers_at, Decided-number_at, Decided-read_level_at, Decided-version_at) depth 20

Decided-fate_named : (name : List ℕ) → Decided (fate_named name)
Decided-fate_named name = Decided-if (pointwise nat_eq name (codes "lose")) _ _ (Decided-if (pointwise nat_eq name (codes "twice")) _ _ (Decided-if (pointwise nat_eq name (codes "late")) _ _ (Decided-Form Fate)))

Decided-fate_of_four : (a b c d : Data) → Decided (fate_of_four a b c d)
Decided-fate_of_four a b c d =
    Decided-steps (number_of 0 (MOST_CLIENTS + 1) a) _ (Decided-number_of 0 (MOST_CLIENTS + 1) a) (λ client.
    Decided-steps (number_of 0 TIME_END b) _ (Decided-number_of 0 TIME_END b) (λ call.
    Decided-steps (name_in c) _ (Decided-name_in c) (λ node.
    Decided-steps (text_of d >>= fate_named) _ (Decided-steps (text_of d) fate_named (Decided-text_of d) Decided-fate_named) (λ fate same. cc))))

Decided-fate_of_items : (items : Items) → Decided (fate_of_items items)
Decided-fate_of_items no_items = Decided-Form (ℕ × ℕ × List ℕ × Fate)
Decided-fate_of_items (item a no_items) = Decided-Form (ℕ × ℕ × List ℕ × Fate)
Decided-fate_of_items (item a (item b no_items)) = Decided-Form (ℕ × ℕ × List ℕ × Fate)
Decided-fate_of_items (item a (item b (item c no_items))) = Decided-Form (ℕ × ℕ × List ℕ × Fate)
Decided-fate_of_items (item a (item b (item c (item d no_items)))) = Decided-fate_of_four a b c d
Decided-fate_of_items (item a (item b (item c (item d (item e ds))))) = Decided-Form (ℕ × ℕ × List ℕ × Fate)

Decided-fate_of : (d : Data) → Decided (fate_of d)
unfolding fate_of
Decided-fate_of d = Decided-steps (needed (as_array d)) fate_of_items (Decided-needed (as_array d)) Decided-fate_of_items

Decided-fates_at : (key : List ℕ) (d : Data) → Decided (fates_at key d)
unfolding fates_at
Decided-fates_at key d = Decided-steps (list_at fate_of key 0 MOST_FATES d) (tested messages_differ) (Decided-list_at fate_of Decided-fate_of key 0 MOST_FATES d) (Decided-tested messages_differ)

Decided-fates_of : (d : Data) → Decided (fates_of d)
unfolding fates_of
Decided-fates_of d = search (Decided-steps, Decided-Ok, Decided-tested, Decided-fates_at) depth 20

Decided-without_fields : (one : Act) (d : Data) → Decided (without_fields one d)
unfolding without_fields
Decided-without_fields one d = search (Decided-steps, Decided-Ok, Decided-tested) depth 20

Decided-sole_node : (d : Data) → Decided (sole_node d)
unfolding sole_node
Decided-sole_node d = search (Decided-steps, Decided-tested, Decided-name_at) depth 20

Decided-stop_of : (d : Data) → Decided (stop_of d)
unfolding stop_of
Decided-stop_of d = search (Decided-steps, Decided-Ok, Decided-sole_node) depth 20

Decided-pick_at : (d : Data) → Decided (pick_at d)
unfolding pick_at
Decided-pick_at d = Decided-optional_at _ (codes "pick") _ d (Decided-number_of 0 TIME_END)

Decided-restart_of : (d : Data) → Decided (restart_of d)
unfolding restart_of
Decided-restart_of d = search (Decided-steps, Decided-Ok, Decided-tested, Decided-name_at, Decided-pick_at) depth 20

Decided-shard_asked : (d : Data) → Decided (shard_asked d)
unfolding shard_asked
Decided-shard_asked d = Decided-optional_at _ (codes "shard") _ d (λ v. Decided-steps (number_of 0 MOST_SHARDS v) _ (Decided-number_of 0 MOST_SHARDS v) (λ n same. cc))

Decided-bootstrap_of : (d : Data) → Decided (bootstrap_of d)
unfolding bootstrap_of
Decided-bootstrap_of d = search (Decided-steps, Decided-Ok, Decided-tested, Decided-name_at, Decided-shard_asked) depth 20

Decided-add_of : (d : Data) → Decided (add_of d)
unfolding add_of
Decided-add_of d = search (Decided-steps, Decided-Ok, Decided-tested, Decided-name_at) depth 20

Decided-drain_of : (d : Data) → Decided (drain_of d)
unfolding drain_of
Decided-drain_of d = search (Decided-steps, Decided-Ok, Decided-sole_node) depth 20

Decided-cancel_of : (d : Data) → Decided (cancel_of d)
unfolding cancel_of
Decided-cancel_of d = search (Decided-steps, Decided-Ok, Decided-sole_node) depth 20

Decided-remove_of : (d : Data) → Decided (remove_of d)
unfolding remove_of
Decided-remove_of d = search (Decided-steps, Decided-Ok, Decided-sole_node) depth 20

Decided-replace_of : (d : Data) → Decided (replace_of d)
unfolding replace_of
Decided-replace_of d = search (Decided-steps, Decided-Ok, Decided-tested, Decided-name_at) depth 20

-- where a chain of rows is answered `Later`, a row that decides isn't the one that was taken
passes : {A : Type 0} (taken : Bool) (row others : Result A LineErr) → Decided row → (if taken then row else others) ≡ Err errors.Later → others ≡ Err errors.Later
passes true row others decided e = absurd (decided e)
passes false row others decided e = e

-- an op whose row is answered `Later` is one that is put off
later_op : (op : List ℕ) (d : Data) → act_of op d ≡ Err errors.Later → IsTrue (is_one_of later_ops op)
unfolding act_of refusal_of
later_op op d e =
    last (is_one_of later_ops op) (passes (pointwise nat_eq op (codes "status")) _ _ (Decided-without_fields act.Status d) (passes (pointwise nat_eq op (codes "repair")) _ _ (Decided-without_fields act.Repair d)
    (passes (pointwise nat_eq op (codes "snapshot")) _ _ (Decided-without_fields act.Snapshot d) (passes (pointwise nat_eq op (codes "flush")) _ _ (Decided-without_fields act.Flush d)
    (passes (pointwise nat_eq op (codes "tick")) _ _ (Decided-without_fields act.Tick d) (passes (pointwise nat_eq op (codes "replace")) _ _ (Decided-replace_of d)
    (passes (pointwise nat_eq op (codes "remove")) _ _ (Decided-remove_of d) (passes (pointwise nat_eq op (codes "cancel")) _ _ (Decided-cancel_of d)
    (passes (pointwise nat_eq op (codes "drain")) _ _ (Decided-drain_of d) (passes (pointwise nat_eq op (codes "add")) _ _ (Decided-add_of d)
    (passes (pointwise nat_eq op (codes "bootstrap")) _ _ (Decided-bootstrap_of d) (passes (pointwise nat_eq op (codes "restart")) _ _ (Decided-restart_of d)
    (passes (pointwise nat_eq op (codes "stop")) _ _ (Decided-stop_of d) (passes (pointwise nat_eq op (codes "deliver")) _ _ (Decided-without_fields act.Deliver d)
    (passes (pointwise nat_eq op (codes "fates")) _ _ (Decided-fates_of d) (passes (pointwise nat_eq op (codes "match")) _ _ (Decided-match_of d)
    (passes (pointwise nat_eq op (codes "fetch")) _ _ (Decided-fetch_of d) (passes (pointwise nat_eq op (codes "write")) _ _ (Decided-write_of d)
    (passes (pointwise nat_eq op (codes "now")) _ _ (Decided-now_of d) (passes (pointwise nat_eq op (codes "namespace")) _ _ (Decided-namespace_of d)
    (passes (pointwise nat_eq op (codes "init")) _ _ (Decided-init_of d) e)))))))))))))))))))))
  where
    refused : Bool → Result Act LineErr
    refused later = Err (if later then errors.Later else errors.Form)

    last : (later : Bool) → refused later ≡ Err errors.Later → IsTrue later
    last true e = refl
    last false e = absurd (Decided-Form Act e)

-- a text that is put off is none that isn't
is_other_op : (op row : List ℕ) → IsTrue (is_one_of later_ops op) → is_one_of later_ops row ≡ false → pointwise nat_eq op row ≡ false
is_other_op op row later not_later =
    false_from_ne_true (pointwise nat_eq op row) (λ same. both_ways (is_one_of later_ops row) not_later (ap (is_one_of later_ops) (sym ((bytes_decides op row).0 same)) ∙ later))

-- an op that is put off is answered `Later`
op_later : (op : List ℕ) (d : Data) → IsTrue (is_one_of later_ops op) → act_of op d ≡ Err errors.Later
unfolding act_of refusal_of
op_later op d later =
    simp (
      other (codes "init") refl,
      other (codes "namespace") refl,
      other (codes "now") refl,
      other (codes "write") refl,
      other (codes "fetch") refl,
      other (codes "match") refl,
      other (codes "fates") refl,
      other (codes "deliver") refl,
      other (codes "stop") refl,
      other (codes "restart") refl,
      other (codes "bootstrap") refl,
      other (codes "add") refl,
      other (codes "drain") refl,
      other (codes "cancel") refl,
      other (codes "remove") refl,
      other (codes "replace") refl,
      other (codes "tick") refl,
      other (codes "flush") refl,
      other (codes "snapshot") refl,
      other (codes "repair") refl,
      other (codes "status") refl,
      later,
    )
  where
    other : (row : List ℕ) → is_one_of later_ops row ≡ false → pointwise nat_eq op row ≡ false
    other row free = is_other_op op row later free

put_off : (d : Data) → IsPutOff d → HasLaterOp d ⊎ HasLaterForm d
put_off d cause = elim cause as (λ _. HasLaterOp d ⊎ HasLaterForm d) [ inl e ↦ by (text_at (codes "op") d) refl e | inr form ↦ inr (whole form.0 form.1.0 form.1.1 form.2) ]
  where
    by : (r : Result (List ℕ) LineErr) → text_at (codes "op") d ≡ r → (r >>= λ op. act_of op d) ≡ Err errors.Later → HasLaterOp d ⊎ HasLaterForm d
    by (Ok op) is_op e = inl (op, is_op, later_op op d e)
    by (Err error) is_op e = let later : error ≡ errors.Later = cc in absurd (Decided-text_at (codes "op") d (is_op ∙ ap Err later))

    whole : (one : Act) → row_of d ≡ Ok one → NamesSeries one → IsTrue (is_put_off one) → HasLaterForm d
    whole one is_row named later = let steps = from_steps (text_at (codes "op") d) (λ op. act_of op d) one is_row in (steps.0, one, steps.1, steps.2, named, later)

op_put_off : (d : Data) → HasLaterOp d → IsPutOff d
op_put_off d (op, is_op, later) = inl (ap (λ r. r >>= λ op. act_of op d) is_op ∙ op_later op d later)

form_put_off : (d : Data) → HasLaterForm d → IsPutOff d
form_put_off d (op, one, is_op, is_row, named, later) = inr (one, (ap (λ r. r >>= λ op. act_of op d) is_op ∙ is_row, named), later)

pub puts_off_exactly : (d : Data) → PutsOffExactly d
puts_off_exactly d = (put_off d, λ cause. elim cause as (λ _. IsPutOff d) [ inl op ↦ op_put_off d op | inr form ↦ form_put_off d form ])
