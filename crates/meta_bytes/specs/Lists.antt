-- Values one after another.
use Rattle.std.specs.Prelude.{◌≡◌, ℕ, List, length, flat_map}
use Rattle.wire_bytes.specs.Fields.{Stands}
use Rattle.meta_bytes.specs.Forms.{Form, HasForm, Times}

-- so many values of the form stand from the one offset to the other
pub record ItemsStand {X : Type 0} (form : Form) (spelled : X → List ℕ) (count : ℕ) (xs : List X) (bytes : List ℕ) (from next : ℕ) : Type 0 where
  pub counted : length xs ≡ count
  pub has : Times count (HasForm form) (flat_map spelled xs)
  pub stands : Stands (flat_map spelled xs) bytes from next
