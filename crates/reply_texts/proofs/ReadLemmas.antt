-- What tokens read as.
use Rattle.std.proofs.Common.{◌≡◌, ◌≤◌, ℕ, ℤ, pos, negsuc, suc, max, List, [], Some, SFits, w64, refl, sym, ap, ap₂, ◌∙◌, arith, append-nil}
use Rattle.std.specs.Prelude.{◌++◌, Result, Ok, Err, OnOk, option_map, option_and_then}
use Rattle.json.specs.Json as json
use Rattle.json.specs.Lex.{tokens}
use Rattle.json.specs.Print.{print}
use Rattle.json.specs.Token.{Token}
use Rattle.json.specs.Tree as tree
use Rattle.json.proofs.Printed.Trees.{value-json_tokens}
use Rattle.serde_json.specs.Data.{Data, null, boolean, number, string, array, object, Items, no_items, item, Members, no_members, member, depth, items_depth, members_depth}
use Rattle.serde_json.specs.Find.{of_integer}
use Rattle.serde_json.specs.Read.{read, of_json, max_depth}
use Rattle.serde_json.specs.Written.{compact_text, outline, items_outline, members_outline}
use Rattle.serde_json.proofs.Numbers.{number_of-decimal, number_of-negative}
use Rattle.serde_json.proofs.Texts.{print-outline}
use Rattle.reply_texts.specs.Tokens.{tokens_of, ReadsBack}

pub integer_reads : (z : ℤ) → SFits w64 z → ReadsBack (number (of_integer z))
integer_reads (pos n) fits = ap (option_map number) (number_of-decimal n (grind arith))
integer_reads (negsuc n) fits = ap (option_map number) (number_of-negative n (grind arith))

mutual
  depth-outline : (d : Data) → tree.depth (outline d) ≡ depth d
  depth-outline null = refl
  depth-outline (boolean b) = refl
  depth-outline (number n) = refl
  depth-outline (string s) = refl
  depth-outline (array ds) = ap suc (depth-items ds)
  depth-outline (object ms) = ap suc (depth-members ms)

  depth-items : (ds : Items) → tree.items_depth (items_outline ds) ≡ items_depth ds
  depth-items no_items = refl
  depth-items (item d ds) = ap₂ max (depth-outline d) (depth-items ds)

  depth-members : (ms : Members) → tree.members_depth (members_outline ms) ≡ members_depth ms
  depth-members no_members = refl
  depth-members (member k d ms) = ap₂ max (depth-outline d) (depth-members ms)

-- a text with a value's tokens reads as the value
pub read_back : (d : Data) (text : List ℕ) → tokens text ≡ tokens_of d → ReadsBack d → depth d ≤ max_depth → read text ≡ Some d
read_back d text same reads shallow =
    ap (λ o. option_and_then of_json (option_and_then (λ p. json.if_last p.0 p.1) o))
    (ap (json.value max_depth) (same ∙ sym (append-nil (tokens_of d))) ∙ value-json_tokens (outline d) max_depth [] (omega (arith, depth-outline d)))
    ∙ reads

-- ---- what is written behind other bytes

-- the bytes of a value's tokens are its compact text
pub appended : {E : Type 0} (r w : Result (Unit {0}) E) (d : Data) (old before after : List ℕ) (none ts : List Token) → r ≡ w → before ≡ old → none ≡ [] → OnOk w (ts ≡ none ++ tokens_of d) → OnOk r (after ≡ before ++ print ts)
    → OnOk r (after ≡ old ++ compact_text d)
appended (Ok u) (Ok v) d old before after none ts same kept begun wrote e = e ∙ ap₂ (λ xs ys. xs ++ ys) kept (ap print (wrote ∙ ap (λ us. us ++ tokens_of d) begun) ∙ print-outline d)
appended (Ok u) (Err v) d old before after none ts same kept begun wrote e = cc
appended (Err u) w d old before after none ts same kept begun wrote e = tt

-- and read as the value
pub appended_reads : {E : Type 0} (r w : Result (Unit {0}) E) (d : Data) (none ts : List Token) → r ≡ w → none ≡ [] → OnOk w (ts ≡ none ++ tokens_of d) → OnOk w (ReadsBack d) → tokens (print ts) ≡ ts
    → OnOk r (depth d ≤ max_depth → read (compact_text d) ≡ Some d)
appended_reads (Ok u) (Ok v) d none ts same begun wrote reads lexed =
    let is : ts ≡ tokens_of d = wrote ∙ ap (λ us. us ++ tokens_of d) begun in
    λ shallow. read_back d (compact_text d) (sym (ap tokens (ap print is ∙ print-outline d)) ∙ lexed ∙ is) reads shallow
appended_reads (Ok u) (Err v) d none ts same begun wrote reads lexed = λ shallow. cc
appended_reads (Err u) w d none ts same begun wrote reads lexed = tt
