-- Fates: a finite map from messages to what becomes of them.
use Rattle.std.specs.Prelude.{◌≡◌, ◌≢◌, ℕ, List, All, map, unwrap_or, Bool, true, false, refl, IsSortedByKey}
use Rattle.std.specs.Coded.{Coded, code_by, coded×, coded_bool}
use Rattle.std.specs.FinMap as finite
use Rattle.std.specs.List.{IsDistinct}
use Rattle.std.specs.Ordering.{eq_by_cmp}
use Rattle.m3_model.specs.Ascends.{Ascends}
use Rattle.m3_model.specs.Members.{IsIn}
use Rattle.m3_model.specs.declared.act.Fate.{Fate}
use Rattle.m3_model.specs.declared.act.Fate.TheVariants.{Deliver, Lose, Twice, Late}
use Rattle.net_plan.specs.FateKeys.{fate_key_cmp, fate_key_code}
use Rattle.net_plan.specs.declared.fate_key.FateKey.{FateKey}

-- an item of a list of fates: a client, the number of its call, a node, and a fate
abbrev pub Item : Type 0
Item = ℕ × ℕ × ℕ × Fate

-- the message that an item speaks of
abbrev pub key_of : Item → FateKey
key_of item = record { client = item.0; call = item.1; node = item.2 }

-- the message of an item with its fate
abbrev pub entry_of : Item → FateKey × Fate
entry_of item = (key_of item, item.3)

-- the fates of some messages
abbrev pub FateMap : Type 0
FateMap = finite.FinMap fate_key_cmp Fate

-- the fates that a list gives its messages
abbrev pub fates_of : List Item → FateMap
fates_of list = finite.from_entries (map entry_of list)

-- what becomes of a message: the listed fate, else it is delivered
abbrev pub fate_of : FateMap → FateKey → Fate
fate_of fates key = unwrap_or (finite.get fates key) Deliver

-- no two items are of one message, and none says that a message is delivered
pub record IsFatesRow (list : List Item) : Type 0 where
  pub distinct : Ascends (λ a b. key_of a ≢ key_of b) list
  pub none_delivered : (item : Item) → IsIn list item → item.3 ≢ Deliver

-- such a row in the order of its messages
pub record IsSortedRow (list : List Item) : Type 0 where
  pub sorted : IsSortedByKey key_of fate_key_cmp list
  pub distinct : IsDistinct (eq_by_cmp fate_key_cmp) (map key_of list)
  pub none_delivered : All (λ item. item.3 ≢ Deliver) list

-- a fate is stored as two bits
abbrev pub bits_of : Fate → Bool × Bool
bits_of Deliver = (false, false)
bits_of Lose = (false, true)
bits_of Twice = (true, false)
bits_of Late = (true, true)

abbrev pub fate_by_bits : Bool → Bool → Fate
fate_by_bits false false = Deliver
fate_by_bits false true = Lose
fate_by_bits true false = Twice
fate_by_bits true true = Late

abbrev pub fate_by_own_bits : (fate : Fate) → fate_by_bits (bits_of fate).0 (bits_of fate).1 ≡ fate
fate_by_own_bits Deliver = refl
fate_by_own_bits Lose = refl
fate_by_own_bits Twice = refl
fate_by_own_bits Late = refl

abbrev pub fate_code : Coded Fate
fate_code = code_by (Bool × Bool) (coded× coded_bool coded_bool) bits_of (λ b. fate_by_bits b.0 b.1) fate_by_own_bits

abbrev pub fate_map_code : Coded FateMap
fate_map_code = finite.code fate_key_code fate_code
