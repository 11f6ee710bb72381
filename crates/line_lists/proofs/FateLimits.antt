-- The fates that are read keep to the limits.
use Rattle.std.proofs.Common.{◌≡◌, ◌≢◌, ℕ, ◌<◌, List, subst, arith, true, false}
use Rattle.std.specs.Prelude.{Ok, Err, Bool, IsTrue, ◌↔◌, ◌+◌, ◌&&◌, nat_eq, nat_le, nat_lt, if◌then◌else◌, codes}
use Rattle.std.specs.Cmp.Lexicographic.{pointwise, bytes_decides}
use Rattle.std.proofs.lemmas.Bool.{and_parts, and_from, ltb-true, eqb-true, eq-eqb}
use Rattle.serde_json.specs.Data.{Data, Items, no_items, item}
use Rattle.serde_json.specs.Find.{as_array}
use Rattle.m3_model.specs.Ascends.{Ascends}
use Rattle.m3_model.specs.Limits.{MeetsLimits, IsFate, IsFateOfSameMessage}
use Rattle.m3_model.specs.declared.act.Act.TheVariants as act
use Rattle.m3_model.specs.declared.act.Fate.{Fate}
use Rattle.m3_model.specs.declared.act.Fate.TheVariants as fates
use Rattle.m3_model.specs.declared.limits.TheConstants.{MOST_CLIENTS, MOST_FATES, TIME_END}
use Rattle.line_fields.specs.declared.fault.LineErr.TheVariants as errors
use Rattle.line_fields.specs.Fields.{◌>>=◌, needed, tested, text_of, name_in, number_of}
use Rattle.line_lists.specs.Lists.{list_at}
use Rattle.line_lists.specs.Fates.{fate_named, fate_of_four, fate_of_items, fate_of, is_same_message, messages_differ, fates_at}
use Rattle.line_lists.proofs.Steps.{from_steps, from_tested, tested_same}
use Rattle.line_lists.proofs.Differ.{differ_by-Ascends}
use Rattle.line_lists.proofs.ListLimits.{AreEntries, list_at-AreEntries}
use Rattle.line_lists.proofs.NodeLimits.{name_is_name}

number_below : (from limit : ℕ) (d : Data) (n : ℕ) → number_of from limit d ≡ Ok n → n < limit
unfolding number_of
number_below from limit d n e =
    let steps = from_steps _ (tested (λ n. nat_le from n && nat_lt n limit)) n e in
    let bounds = and_parts (nat_le from n) (nat_lt n limit) (from_tested (λ n. nat_le from n && nat_lt n limit) steps.0 n steps.2) in
    ltb-true n limit bounds.1

named_fate : (name : List ℕ) (fate : Fate) → fate_named name ≡ Ok fate → fate ≢ fates.Deliver
named_fate name fate e = by (pointwise nat_eq name (codes "lose")) (pointwise nat_eq name (codes "twice")) (pointwise nat_eq name (codes "late")) e
  where
    by : (lose twice late : Bool) → (if lose then Ok fates.Lose else (if twice then Ok fates.Twice else (if late then Ok fates.Late else Err errors.Form))) ≡ Ok fate → fate ≢ fates.Deliver
    by true twice late read is = let clash : fates.Lose ≡ fates.Deliver = cc in cc
    by false true late read is = let clash : fates.Twice ≡ fates.Deliver = cc in cc
    by false false true read is = let clash : fates.Late ≡ fates.Deliver = cc in cc
    by false false false read is = cc

four_fate : (a b c d : Data) (fate : ℕ × ℕ × List ℕ × Fate) → fate_of_four a b c d ≡ Ok fate → IsFate fate
four_fate a b c d fate e =
    let client = from_steps (number_of 0 (MOST_CLIENTS + 1) a) _ fate e in
    let call = from_steps (number_of 0 TIME_END b) _ fate client.2 in
    let node = from_steps (name_in c) _ fate call.2 in
    let last = from_steps (text_of d >>= fate_named) _ fate node.2 in
    let text = from_steps (text_of d) fate_named last.0 last.1 in
    let below = number_below 0 (MOST_CLIENTS + 1) a client.0 client.1 in
    let whole : (client.0, call.0, node.0, last.0) ≡ fate = cc in
    subst IsFate whole (record {
      client_fits = omega (arith, below);
      call_fits = number_below 0 TIME_END b call.0 call.1;
      named = name_is_name c node.0 node.1;
      not_deliver = named_fate text.0 last.0 text.2;
    })

items_fate : (items : Items) (fate : ℕ × ℕ × List ℕ × Fate) → fate_of_items items ≡ Ok fate → IsFate fate
items_fate no_items fate e = cc
items_fate (item a no_items) fate e = cc
items_fate (item a (item b no_items)) fate e = cc
items_fate (item a (item b (item c no_items))) fate e = cc
items_fate (item a (item b (item c (item d no_items)))) fate e = four_fate a b c d fate e
items_fate (item a (item b (item c (item d (item x ds))))) fate e = cc

data_fate : (d : Data) (fate : ℕ × ℕ × List ℕ × Fate) → fate_of d ≡ Ok fate → IsFate fate
unfolding fate_of
data_fate d fate e = let steps = from_steps (needed (as_array d)) fate_of_items fate e in items_fate steps.0 fate steps.2

tells_message : (a b : ℕ × ℕ × List ℕ × Fate) → IsTrue (is_same_message a b) ↔ IsFateOfSameMessage a b
tells_message a b = (there, back)
  where
    there : IsTrue (is_same_message a b) → IsFateOfSameMessage a b
    there same =
        let parts = and_parts (nat_eq a.0 b.0 && nat_eq a.1 b.1) (pointwise nat_eq a.2 b.2) same in
        let numbers = and_parts (nat_eq a.0 b.0) (nat_eq a.1 b.1) parts.0 in
        (eqb-true a.0 b.0 numbers.0, eqb-true a.1 b.1 numbers.1, (bytes_decides a.2 b.2).0 parts.1)

    back : IsFateOfSameMessage a b → IsTrue (is_same_message a b)
    back same =
        and_from (nat_eq a.0 b.0 && nat_eq a.1 b.1) (pointwise nat_eq a.2 b.2) (and_from (nat_eq a.0 b.0) (nat_eq a.1 b.1) (eq-eqb a.0 b.0 same.0) (eq-eqb a.1 b.1 same.1)) ((bytes_decides a.2 b.2).1 same.2)

-- the test of fates tells whether each two of them are of different messages
pub messages_differ-Ascends : (list : List (ℕ × ℕ × List ℕ × Fate)) → IsTrue (messages_differ list) ↔ Ascends (λ a b. ¬ IsFateOfSameMessage a b) list
messages_differ-Ascends = differ_by-Ascends is_same_message IsFateOfSameMessage tells_message

-- the fates that are read
pub fates_at-MeetsLimits : (key : List ℕ) (d : Data) (list : List (ℕ × ℕ × List ℕ × Fate)) → fates_at key d ≡ Ok list → MeetsLimits (act.Fates list)
unfolding fates_at
fates_at-MeetsLimits key d list e =
    let listed = from_steps (list_at fate_of key 0 MOST_FATES d) (tested messages_differ) list e in
    let same : listed.0 ≡ list = tested_same messages_differ listed.0 list listed.2 in
    let read = subst (AreEntries IsFate 0 MOST_FATES) same (list_at-AreEntries IsFate fate_of data_fate key 0 MOST_FATES d listed.0 listed.1) in
    (read.most_of, read.each, (messages_differ-Ascends list).0 (from_tested messages_differ listed.0 list listed.2))
