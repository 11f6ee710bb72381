-- Laws of the definitions.
use Rattle.std.specs.Prelude.{◌≡◌, ◌≢◌, ◌↔◌, ◌⊎◌, ℕ, List, Result, Ok, Err, IsTrue, codes}
use Rattle.serde_json.specs.Data.{Data}
use Rattle.m3_model.specs.Ascends.{Ascends}
use Rattle.m3_model.specs.Limits.{IsFateOfSameMessage}
use Rattle.m3_model.specs.declared.act.Act.{Act}
use Rattle.m3_model.specs.declared.act.Fate.{Fate}
use Rattle.m3_model.specs.declared.turn.Request.{Request}
use Rattle.line_fields.specs.declared.fault.LineErr.{LineErr}
use Rattle.line_fields.specs.declared.fault.LineErr.TheVariants as errors
use Rattle.line_fields.specs.Fields.{is_one_of, text_at}
use Rattle.line_lists.specs.Nodes.{names_differ}
use Rattle.line_lists.specs.Fates.{messages_differ}
use Rattle.m3_json.specs.NotYet.{later_ops, is_put_off}
use Rattle.m3_json.specs.Requests.{act_of, NamesSeries, IsPutOff, LineMeans}

-- a line has no two meanings
abbrev pub HasOneMeaning : List ℕ → Type 0
HasOneMeaning line = (a b : Result Request LineErr) → a ≢ Err errors.Memory → b ≢ Err errors.Memory → LineMeans line a → LineMeans line b → a ≡ b

-- the test of the names of nodes tells whether each two of them differ
abbrev pub TellsNamesApart : List (List ℕ × List ℕ) → Type 0
TellsNamesApart nodes = IsTrue (names_differ nodes) ↔ Ascends (λ a b. a.0 ≢ b.0) nodes

-- the test of the fates tells whether each two of them are of different messages
abbrev pub TellsMessagesApart : List (ℕ × ℕ × List ℕ × Fate) → Type 0
TellsMessagesApart list = IsTrue (messages_differ list) ↔ Ascends (λ a b. ¬ IsFateOfSameMessage a b) list

-- the object's op is one that is put off
abbrev pub HasLaterOp : Data → Type 0
HasLaterOp d = (op : List ℕ) × (text_at (codes "op") d ≡ Ok op) × IsTrue (is_one_of later_ops op)

-- the object is in the grammar, in a form that is put off
abbrev pub HasLaterForm : Data → Type 0
HasLaterForm d = (op : List ℕ) × (one : Act) × (text_at (codes "op") d ≡ Ok op) × (act_of op d ≡ Ok one) × NamesSeries one × IsTrue (is_put_off one)

-- just these objects are put off
abbrev pub PutsOffExactly : Data → Type 0
PutsOffExactly d = IsPutOff d ↔ (HasLaterOp d ⊎ HasLaterForm d)
