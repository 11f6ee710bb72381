-- What a parsed value stands for, level by level.
use Rattle.std.proofs.Common.{◌≡◌, ℕ, List, [], ◌∷◌, Bool, true, false, cond, true≢false, bytes_eq, Vec, Global, Option, Some, None, option_map, refl, sym, ap, subst, ◌∙◌}
use Rattle.std.specs.Option.{option_map_or}
use Rattle.std.proofs.lemmas.Slice.Eq.{bytes_eq-Decides}
use Rattle.json.specs.Json as json
use Rattle.json.specs.Find as find
use Rattle.json.specs.Value.{items_view}
use Rattle.json.specs.declared.value.Value.{Value, Array}
use Rattle.json.proofs.Trees.{view-Array}
use Rattle.serde_json.specs.Data.{Data, Num, null, number, item, array, Members, no_members, put}
use Rattle.serde_json.specs.Find.{get, get_member}
use Rattle.serde_json.specs.Read.{number_of}
use Rattle.serde_json.proofs.Views.{get_member-put, get_member-put_other}
use Rattle.line_parse.specs.Contents.{data_of, items_data, members_data, content, contents}

items_data-items_view : (vs : List (Value Global)) → items_data (items_view vs) ≡ contents vs
items_data-items_view [] = refl
items_data-items_view (v ∷ vs) = ap (item (content v)) (items_data-items_view vs)

pub content-Array : (v : Vec (Value Global) Global) → content (Array v) ≡ array (contents v.items)
content-Array v = ap data_of (view-Array v) ∙ ap array (items_data-items_view v.items)

-- ---- look-ups

no_member : (key : List ℕ) (o : Option Num) → get key (option_map_or number o null) ≡ None
no_member key None = refl
no_member key (Some n) = refl

put_found : (name key : List ℕ) (d : Data) (found : Members) → get_member name (put key d found) ≡ cond (bytes_eq key name) (Some d) (get_member name found)
put_found name key d found = by (bytes_eq key name) refl
  where
    by : (b : Bool) → bytes_eq key name ≡ b → get_member name (put key d found) ≡ cond b (Some d) (get_member name found)
    by true e = subst (λ one. get_member one (put key d found) ≡ Some d) ((bytes_eq-Decides key name).0 e) (get_member-put key d found)
    by false e = get_member-put_other name key d found (λ same. true≢false (sym ((bytes_eq-Decides key name).1 (sym same)) ∙ e))

-- what was found last, or else what was there before
abbrev data_or : Option json.Json → Option Data → Option Data
data_or None before = before
data_or (Some j) before = Some (data_of j)

later_found : (o : Option json.Json) (b : Bool) (j : json.Json) (before : Option Data) → data_or o (cond b (Some (data_of j)) before) ≡ data_or (find.later_or o (cond b (Some j) None)) before
later_found (Some i) b j before = refl
later_found None true j before = refl
later_found None false j before = refl

found_in : (name : List ℕ) (ms : json.Members) (found : Members) → get_member name (members_data ms found) ≡ data_or (find.get_member name ms) (get_member name found)
found_in name json.no_members found = refl
found_in name (json.member key j ms) found =
    found_in name ms (put key (data_of j) found) ∙ ap (data_or (find.get_member name ms)) (put_found name key (data_of j) found)
    ∙ later_found (find.get_member name ms) (bytes_eq key name) j (get_member name found)

nothing_before : (o : Option json.Json) → data_or o None ≡ option_map data_of o
nothing_before None = refl
nothing_before (Some j) = refl

pub get-data_of : (name : List ℕ) (j : json.Json) → get name (data_of j) ≡ option_map data_of (find.get name j)
get-data_of name json.null = refl
get-data_of name (json.boolean b) = refl
get-data_of name (json.number s) = no_member name (number_of s)
get-data_of name (json.string s) = refl
get-data_of name (json.array js) = refl
get-data_of name (json.object ms) = found_in name ms no_members ∙ nothing_before (find.get_member name ms)
