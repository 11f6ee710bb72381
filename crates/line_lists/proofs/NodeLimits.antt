-- The nodes that are read keep to the limits.
use Rattle.std.proofs.Common.{◌≡◌, ◌≢◌, ℕ, ◌≤◌, List, length, sym, subst}
use Rattle.std.specs.Prelude.{Ok, IsTrue, nat_eq, ◌↔◌}
use Rattle.std.specs.Cmp.Lexicographic.{pointwise, bytes_decides}
use Rattle.serde_json.specs.Data.{Data, Items, no_items, item}
use Rattle.serde_json.specs.Find.{as_array}
use Rattle.m3_model.specs.Names.{is_name}
use Rattle.m3_model.specs.Members.{IsIn}
use Rattle.m3_model.specs.Ascends.{Ascends}
use Rattle.m3_model.specs.Limits.{IsNamed}
use Rattle.m3_model.specs.declared.limits.TheConstants.{MOST_NODES}
use Rattle.line_fields.specs.Fields.{◌>>=◌, needed, tested, text_of, name_in}
use Rattle.line_lists.specs.Lists.{list_at}
use Rattle.line_lists.specs.Nodes.{node_of_two, node_of_items, node_of, names_differ, nodes_at}
use Rattle.line_lists.proofs.Steps.{from_steps, from_tested, tested_same}
use Rattle.line_lists.proofs.Differ.{differ_by-Ascends}
use Rattle.line_lists.proofs.ListLimits.{AreEntries, list_at-AreEntries}

-- a name that is read is one
pub name_is_name : (d : Data) (name : List ℕ) → name_in d ≡ Ok name → IsTrue (is_name name)
unfolding name_in
name_is_name d name e = let steps = from_steps (text_of d) (tested is_name) name e in from_tested is_name steps.0 name steps.2

two_named : (a b : Data) (node : List ℕ × List ℕ) → node_of_two a b ≡ Ok node → IsNamed node
two_named a b node e =
    let first = from_steps (name_in a) (λ n. name_in b >>= λ g. Ok (n, g)) node e in
    let second = from_steps (name_in b) (λ g. Ok (first.0, g)) node first.2 in
    let same : (first.0, second.0) ≡ node = cc in
    subst IsNamed same (name_is_name a first.0 first.1, name_is_name b second.0 second.1)

items_named : (items : Items) (node : List ℕ × List ℕ) → node_of_items items ≡ Ok node → IsNamed node
items_named no_items node e = cc
items_named (item a no_items) node e = cc
items_named (item a (item b no_items)) node e = two_named a b node e
items_named (item a (item b (item c ds))) node e = cc

node_named : (d : Data) (node : List ℕ × List ℕ) → node_of d ≡ Ok node → IsNamed node
unfolding node_of
node_named d node e = let steps = from_steps (needed (as_array d)) node_of_items node e in items_named steps.0 node steps.2

-- the test of names tells whether each two names differ
pub names_differ-Ascends : (nodes : List (List ℕ × List ℕ)) → IsTrue (names_differ nodes) ↔ Ascends (λ a b. a.0 ≢ b.0) nodes
names_differ-Ascends = differ_by-Ascends (λ node other. pointwise nat_eq other.0 node.0) (λ a b. a.0 ≡ b.0) (λ a b. (λ same. sym ((bytes_decides b.0 a.0).0 same), λ same. (bytes_decides b.0 a.0).1 (sym same)))

-- the nodes of an init
pub record AreNodes (nodes : List (List ℕ × List ℕ)) : Type 0 where
  pub some : 1 ≤ length nodes
  pub few : length nodes ≤ MOST_NODES
  pub named : (node : List ℕ × List ℕ) → IsIn nodes node → IsNamed node
  pub distinct : Ascends (λ a b. a.0 ≢ b.0) nodes

pub nodes_at-AreNodes : (key : List ℕ) (d : Data) (nodes : List (List ℕ × List ℕ)) → nodes_at key d ≡ Ok nodes → AreNodes nodes
unfolding nodes_at
nodes_at-AreNodes key d nodes e =
    let listed = from_steps (list_at node_of key 1 MOST_NODES d) (tested names_differ) nodes e in
    let same : listed.0 ≡ nodes = tested_same names_differ listed.0 nodes listed.2 in
    let read = subst (AreEntries IsNamed 1 MOST_NODES) same (list_at-AreEntries IsNamed node_of node_named key 1 MOST_NODES d listed.0 listed.1) in
    record { some = read.least_of; few = read.most_of; named = read.each; distinct = (names_differ-Ascends nodes).0 (from_tested names_differ listed.0 nodes listed.2) }
