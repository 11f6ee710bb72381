-- Laws over what a buffer's contracts say.
use Rattle.std.specs.Prelude.{◌≡◌, ◌↔◌, [], IsTrue, ⊤}
use Rattle.m3_model.specs.declared.point.Point.{Point}
use Rattle.m3_model.specs.declared.point.Pick.{Pick}
use Rattle.m3_model.specs.declared.point.Pick.TheVariants as pick
use Rattle.m3_model.specs.declared.rules.Rules.{Rules}
use Rattle.m3_model.specs.Contents.{key_of}
use Rattle.m3_model.specs.Reads.{Matches}
use Rattle.m3_model.specs.Rules.{HasExpired}
use Rattle.series_slots.specs.Ranges.{IsNamedBy}
use Rattle.block_buffer.specs.Held.{has_expired}

-- the pick has no matchers
abbrev pub HasNoMatchers : Pick → Type 0
HasNoMatchers (pick.One ns id) = ⊤
HasNoMatchers (pick.Match ns wanted) = wanted ≡ []

-- without matchers a pick asks for exactly the points that it names
abbrev pub NamesAllMatched : Type 0
NamesAllMatched = (pick : Pick) → HasNoMatchers pick → (p : Point) → Matches pick p ↔ IsNamedBy pick p

-- the test of a key says what the rules say of its point
abbrev pub ExpiresAsRulesSay : Type 0
ExpiresAsRulesSay = (rules : Rules) (p : Point) → IsTrue (has_expired rules (key_of p)) ↔ HasExpired rules p
