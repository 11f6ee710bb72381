-- The matchers that are read keep to the limits.
use Rattle.std.proofs.Common.{◌≡◌, ℕ, List, subst}
use Rattle.std.specs.Prelude.{Result, Ok, Err, IfOk, IsTrue}
use Rattle.serde_json.specs.Data.{Data, Items, no_items, item}
use Rattle.serde_json.specs.Find.{as_array}
use Rattle.m3_model.specs.Limits.{AreMatchers}
use Rattle.m3_model.specs.Tags.{is_tag_name}
use Rattle.m3_model.specs.declared.limits.TheConstants.{MOST_MATCHERS}
use Rattle.m3_model.specs.declared.point.Matcher.{Matcher}
use Rattle.line_fields.specs.declared.fault.LineErr.{LineErr}
use Rattle.line_fields.specs.Fields.{◌>>=◌, Gives, needed, tested, text_of}
use Rattle.line_lists.specs.Matchers.{sign_named, matcher_of_three, matcher_of_items, matcher_of, matchers_at}
use Rattle.line_lists.proofs.Steps.{from_steps, from_tested}
use Rattle.line_lists.proofs.ListLimits.{list_at-AreEntries}

-- the matcher is one of a tag's name
abbrev IsOfTag : Matcher → Type 0
IsOfTag m = IsTrue (is_tag_name m.name)

three_of_tag : (a b c : Data) (m : Matcher) → matcher_of_three a b c ≡ Ok m → IsOfTag m
three_of_tag a b c m e =
    let name = from_steps (text_of a >>= tested is_tag_name) _ m e in
    let text = from_steps (text_of a) (tested is_tag_name) name.0 name.1 in
    let sign = from_steps (text_of b >>= sign_named) _ m name.2 in
    let value = from_steps (text_of c) _ m sign.2 in
    let whole : record { name = name.0; equal = sign.0; value = value.0 } ≡ m = cc in
    subst IsOfTag whole (from_tested is_tag_name text.0 name.0 text.2)

items_of_tag : (items : Items) (m : Matcher) → matcher_of_items items ≡ Ok m → IsOfTag m
items_of_tag no_items m e = cc
items_of_tag (item a no_items) m e = cc
items_of_tag (item a (item b no_items)) m e = cc
items_of_tag (item a (item b (item c no_items))) m e = three_of_tag a b c m e
items_of_tag (item a (item b (item c (item d ds)))) m e = cc

of_tag : (d : Data) (m : Matcher) → matcher_of d ≡ Ok m → IsOfTag m
unfolding matcher_of
of_tag d m e = let steps = from_steps (needed (as_array d)) matcher_of_items m e in items_of_tag steps.0 m steps.2

read_matchers : (key : List ℕ) (d : Data) (wanted : List Matcher) → matchers_at key d ≡ Ok wanted → AreMatchers wanted
unfolding matchers_at
read_matchers key d wanted e =
    let read = list_at-AreEntries IsOfTag matcher_of of_tag key 0 MOST_MATCHERS d wanted e in
    record { few = read.most_of; named = read.each }

-- the matchers that a call gives keep to the limits
pub given_matchers : (key : List ℕ) (d : Data) (r : Result (List Matcher) LineErr) → Gives (λ wanted. wanted) r (matchers_at key d) → IfOk r AreMatchers
given_matchers key d (Ok wanted) read = read_matchers key d wanted read
given_matchers key d (Err e) read = tt
