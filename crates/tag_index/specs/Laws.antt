-- Laws over what an index's contracts say.
use Rattle.std.specs.Prelude.{◌≡◌, ℕ, List, Some, ◌↔◌}
use Rattle.std.specs.FinMap as finite
use Rattle.tag_index.specs.declared.entry.Entry.{Entry}
use Rattle.tag_index.specs.Listed.{Listed, IsAt, HasTagAt}

-- the series is present, at some ordinal
abbrev pub ListsEntry : Listed → Entry → Type 0
ListsEntry m e = (o : ℕ) × (finite.get m o ≡ Some e)

-- both have the same series, at whatever ordinals
abbrev pub HaveSameSeries : Listed → Listed → Type 0
HaveSameSeries m n = (e : Entry) → ListsEntry m e ↔ ListsEntry n e

-- the identifier is that of an ordinal of the posting
abbrev pub IsPosted : Listed → List ℕ → List ℕ → List ℕ → Type 0
IsPosted m name value id = (o : ℕ) × HasTagAt m name value o × IsAt m o id

-- with the same series postings name the same identifiers
abbrev pub PostingsAgree : Type 0
PostingsAgree = (m n : Listed) → HaveSameSeries m n → (name value id : List ℕ) → IsPosted m name value id ↔ IsPosted n name value id
