-- What is so of the fates of each list.
use Rattle.std.specs.Prelude.{◌≡◌, ◌≢◌, List}
use Rattle.m3_model.specs.Members.{IsIn}
use Rattle.m3_model.specs.declared.act.Fate.TheVariants.{Deliver}
use Rattle.net_plan.specs.Fates.{Item, key_of, fates_of, fate_of, IsFatesRow}
use Rattle.net_plan.specs.declared.fate_key.FateKey.{FateKey}

-- an item's fate is that of its message
abbrev pub FindsListed : Type 0
FindsListed = (list : List Item) → IsFatesRow list → (item : Item) → IsIn list item → fate_of (fates_of list) (key_of item) ≡ item.3

-- a message of which no item speaks is delivered
abbrev pub DeliversOthers : Type 0
DeliversOthers = (list : List Item) (key : FateKey) → ((item : Item) → IsIn list item → key_of item ≢ key) → fate_of (fates_of list) key ≡ Deliver

-- a fate other than delivery stands in the list
abbrev pub ListsFound : Type 0
ListsFound =
    (list : List Item) (key : FateKey) → fate_of (fates_of list) key ≢ Deliver → IsIn list (key.client, key.call, key.node, fate_of (fates_of list) key)
