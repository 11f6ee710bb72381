-- Values as tokens of JSON.
use Rattle.std.specs.Prelude.{◌≡◌, List, Some}
use Rattle.json.specs.Token.{Token}
use Rattle.json.specs.Tree.{json_tokens}
use Rattle.serde_json.specs.Data.{Data}
use Rattle.serde_json.specs.Read.{of_json}
use Rattle.serde_json.specs.Written.{outline}

-- the tokens of a value without floats
abbrev pub tokens_of : Data → List Token
tokens_of d = json_tokens (outline d)

-- the tokens read as the value: its numbers have at most 64 bits, and no key comes before an earlier one
abbrev pub ReadsBack : Data → Type 0
ReadsBack d = of_json (outline d) ≡ Some d
