-- How the fates of a request object are read.
use Rattle.std.specs.Prelude.{ℕ, ◌+◌, List, Result, Ok, Err, Bool, ◌&&◌, nat_eq, if◌then◌else◌, codes}
use Rattle.std.specs.Cmp.Lexicographic.{pointwise}
use Rattle.serde_json.specs.Data.{Data, Items, no_items, item}
use Rattle.serde_json.specs.Find.{as_array}
use Rattle.m3_model.specs.declared.act.Fate.{Fate}
use Rattle.m3_model.specs.declared.act.Fate.TheVariants as fates
use Rattle.m3_model.specs.declared.limits.TheConstants.{MOST_CLIENTS, MOST_FATES, TIME_END}
use Rattle.line_fields.specs.declared.fault.LineErr.{LineErr}
use Rattle.line_fields.specs.declared.fault.LineErr.TheVariants as errors
use Rattle.line_fields.specs.Fields.{◌>>=◌, needed, tested, text_of, name_in, number_of}
use Rattle.line_lists.specs.Lists.{list_at, differ_by}

-- the fate of this name
abbrev pub fate_named : List ℕ → Result Fate LineErr
fate_named name =
    if pointwise nat_eq name (codes "lose") then Ok fates.Lose else
    (if pointwise nat_eq name (codes "twice") then Ok fates.Twice else
    (if pointwise nat_eq name (codes "late") then Ok fates.Late else Err errors.Form))

-- the fate of the message of a client's call to a node
abbrev pub fate_of_four : Data → Data → Data → Data → Result (ℕ × ℕ × List ℕ × Fate) LineErr
fate_of_four client call node name = do
  c ← number_of 0 (MOST_CLIENTS + 1) client
  number ← number_of 0 TIME_END call
  n ← name_in node
  fate ← text_of name >>= fate_named
  Ok (c, number, n, fate)

-- a fate: four items, the number of the client, the number of its call, the node's name and the fate's
abbrev pub fate_of_items : Items → Result (ℕ × ℕ × List ℕ × Fate) LineErr
fate_of_items (item client (item call (item node (item name no_items)))) = fate_of_four client call node name
fate_of_items _ = Err errors.Form

-- a fate is such an array
unfoldable pub fate_of : Data → Result (ℕ × ℕ × List ℕ × Fate) LineErr
fate_of d = needed (as_array d) >>= fate_of_items

-- both fates are of the same message
abbrev pub is_same_message : ℕ × ℕ × List ℕ × Fate → ℕ × ℕ × List ℕ × Fate → Bool
is_same_message a b = (nat_eq a.0 b.0 && nat_eq a.1 b.1) && pointwise nat_eq a.2 b.2

-- no two fates are of the same message
abbrev pub messages_differ : List (ℕ × ℕ × List ℕ × Fate) → Bool
messages_differ = differ_by is_same_message

-- the field is an array of fates, not too many, each of a message of its own
unfoldable pub fates_at : List ℕ → Data → Result (List (ℕ × ℕ × List ℕ × Fate)) LineErr
fates_at key d = list_at fate_of key 0 MOST_FATES d >>= tested messages_differ
