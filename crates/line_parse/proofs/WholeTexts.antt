-- Data that serde_json reads.
use Rattle.std.proofs.Common.{◌≡◌, ℕ, List, [], ◌∷◌, Bool, true, false, Option, Some, None, option_map, refl, sym, ap, subst, ◌∙◌}
use Rattle.std.specs.Prelude.{option_and_then, is_some, ◌&&◌}
use Rattle.std.specs.Option.{option_map_or}
use Rattle.json.specs.Json as json
use Rattle.json.specs.Lex.{tokens}
use Rattle.json.specs.Token.{Token}
use Rattle.serde_json.specs.Data.{Data, Num, null, number, array, object, item, Members, no_members, put}
use Rattle.serde_json.specs.Read.{number_of, of_json, of_items, of_members, max_depth, read}
use Rattle.line_parse.specs.Contents.{data_of, items_data, members_data, has_values, items_have_values, members_have_values}

-- o is the data where b says that there is some, else there is none
abbrev pub IsRead : {A : Type 0} → Bool → Option A → A → Type 0
IsRead true o x = o ≡ Some x
IsRead false o x = o ≡ None

number_read : (o : Option Num) → IsRead (is_some o) (option_map number o) (option_map_or number o null)
number_read None = refl
number_read (Some n) = refl

wrapped : {A B : Type 0} (f : A → B) (b : Bool) (o : Option A) (x : A) → IsRead b o x → IsRead b (option_map f o) (f x)
wrapped f true o x e = ap (option_map f) e
wrapped f false o x e = ap (option_map f) e

after : {A B : Type 0} (f : A → Option B) (b c : Bool) (o : Option A) (x : A) (y : B) → IsRead b o x → IsRead c (f x) y → IsRead (b && c) (option_and_then f o) y
after f true true o x y e h = ap (option_and_then f) e ∙ h
after f true false o x y e h = ap (option_and_then f) e ∙ h
after f false c o x y e h = ap (option_and_then f) e

mutual
  pub of_json-data_of : (j : json.Json) → IsRead (has_values j) (of_json j) (data_of j)
  of_json-data_of json.null = refl
  of_json-data_of (json.boolean b) = refl
  of_json-data_of (json.number s) = number_read (number_of s)
  of_json-data_of (json.string s) = refl
  of_json-data_of (json.array js) = wrapped array (items_have_values js) (of_items js) (items_data js) (of_items-items_data js)
  of_json-data_of (json.object ms) = wrapped object (members_have_values ms) (of_members ms no_members) (members_data ms no_members) (of_members-members_data ms no_members)

  of_items-items_data : (js : json.Items) → IsRead (items_have_values js) (of_items js) (items_data js)
  of_items-items_data json.no_items = refl
  of_items-items_data (json.item j js) =
      after (λ d. option_map (item d) (of_items js)) (has_values j) (items_have_values js) (of_json j) (data_of j) (item (data_of j) (items_data js)) (of_json-data_of j)
      (wrapped (item (data_of j)) (items_have_values js) (of_items js) (items_data js) (of_items-items_data js))

  of_members-members_data : (ms : json.Members) (found : Members) → IsRead (members_have_values ms) (of_members ms found) (members_data ms found)
  of_members-members_data json.no_members found = refl
  of_members-members_data (json.member k j ms) found =
      after (λ d. of_members ms (put k d found)) (has_values j) (members_have_values ms) (of_json j) (data_of j) (members_data ms (put k (data_of j) found)) (of_json-data_of j)
      (of_members-members_data ms (put k (data_of j) found))

-- ---- a whole text

abbrev pub whole : Option (json.Json × List Token) → Option Data
whole o = option_and_then of_json (option_and_then (λ p. json.if_last p.0 p.1) o)

-- the text is one value, and nothing more
pub read_whole : (text : List ℕ) (j : json.Json) → json.value max_depth (tokens text) ≡ Some (j, []) → IsRead (has_values j) (read text) (data_of j)
read_whole text j e = subst (λ o. IsRead (has_values j) o (data_of j)) (sym (ap whole e)) (of_json-data_of j)

pub read_more : (text : List ℕ) (j : json.Json) (t : Token) (ts : List Token) → json.value max_depth (tokens text) ≡ Some (j, t ∷ ts) → read text ≡ None
read_more text j t ts e = ap whole e

pub read_refused : (text : List ℕ) → json.value max_depth (tokens text) ≡ None → read text ≡ None
read_refused text e = ap whole e

pub read_valued : (text : List ℕ) (j : json.Json) → json.value max_depth (tokens text) ≡ Some (j, []) → has_values j ≡ true → read text ≡ Some (data_of j)
read_valued text j e valued = subst (λ b. IsRead b (read text) (data_of j)) valued (read_whole text j e)

pub read_valueless : (text : List ℕ) (j : json.Json) → json.value max_depth (tokens text) ≡ Some (j, []) → has_values j ≡ false → read text ≡ None
read_valueless text j e valueless = subst (λ b. IsRead b (read text) (data_of j)) valueless (read_whole text j e)
