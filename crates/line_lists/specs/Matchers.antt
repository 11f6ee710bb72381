-- How the matchers of a request object are read.
use Rattle.std.specs.Prelude.{ℕ, List, Result, Ok, Err, Bool, true, false, nat_eq, if◌then◌else◌, codes}
use Rattle.std.specs.Cmp.Lexicographic.{pointwise}
use Rattle.serde_json.specs.Data.{Data, Items, no_items, item}
use Rattle.serde_json.specs.Find.{as_array}
use Rattle.m3_model.specs.Tags.{is_tag_name}
use Rattle.m3_model.specs.declared.point.Matcher.{Matcher}
use Rattle.m3_model.specs.declared.limits.TheConstants.{MOST_MATCHERS}
use Rattle.line_fields.specs.declared.fault.LineErr.{LineErr}
use Rattle.line_fields.specs.declared.fault.LineErr.TheVariants as errors
use Rattle.line_fields.specs.Fields.{◌>>=◌, needed, tested, text_of}
use Rattle.line_lists.specs.Lists.{list_at}

-- the name of a tag
abbrev pub tag_name_of : Data → Result (List ℕ) LineErr
tag_name_of d = text_of d >>= tested is_tag_name

-- whether a matcher of this sign is one of equality
abbrev pub sign_named : List ℕ → Result Bool LineErr
sign_named sign =
    if pointwise nat_eq sign (codes "=") then Ok true else
    (if pointwise nat_eq sign (codes "!=") then Ok false else Err errors.Form)

-- a matcher of a tag's name, a sign and any text as the value
abbrev pub matcher_of_three : Data → Data → Data → Result Matcher LineErr
matcher_of_three name sign value = do
  n ← tag_name_of name
  equal ← text_of sign >>= sign_named
  v ← text_of value
  Ok (record { name = n; equal = equal; value = v })

-- a matcher: three items, its tag's name, its sign and its value
abbrev pub matcher_of_items : Items → Result Matcher LineErr
matcher_of_items (item name (item sign (item value no_items))) = matcher_of_three name sign value
matcher_of_items _ = Err errors.Form

-- a matcher is such an array
unfoldable pub matcher_of : Data → Result Matcher LineErr
matcher_of d = needed (as_array d) >>= matcher_of_items

-- the field is an array of matchers, not too many
unfoldable pub matchers_at : List ℕ → Data → Result (List Matcher) LineErr
matchers_at key d = list_at matcher_of key 0 MOST_MATCHERS d
