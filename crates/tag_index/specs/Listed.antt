-- The series that an index has, by their ordinals.
use Rattle.std.specs.Prelude.{◌≡◌, ℕ, List, Option, Some, None, option_map, refl}
use Rattle.std.specs.Coded.{Coded, code_by, coded×, coded_ℕ, coded_list}
use Rattle.std.specs.FinMap as finite
use Rattle.std.specs.Ordering.{nat_cmp}
use Rattle.m3_model.specs.Members.{IsIn}
use Rattle.tag_index.specs.declared.entry.Entry.{Entry}

abbrev pub Tags : Type 0
Tags = List (List ℕ × List ℕ)

abbrev pub entry_code : Coded Entry
entry_code = code_by (List ℕ × Tags) (coded× (coded_list coded_ℕ) (coded_list (coded× (coded_list coded_ℕ) (coded_list coded_ℕ)))) (λ e. (e.id, e.tags)) (λ p. record { id = p.0; tags = p.1 }) (λ _. refl)

-- the identifier and the tags of each series present, at its ordinal
abbrev pub Listed : Type 0
Listed = finite.FinMap nat_cmp Entry

-- the identifier at an ordinal
abbrev pub id_at : Listed → ℕ → Option (List ℕ)
id_at m o = option_map (λ e. e.id) (finite.get m o)

-- the series with this identifier has this ordinal
abbrev pub IsAt : Listed → ℕ → List ℕ → Type 0
IsAt m o id = id_at m o ≡ Some id

-- a series with this identifier is present
abbrev pub IsPresent : Listed → List ℕ → Type 0
IsPresent m id = (o : ℕ) × IsAt m o id

-- the series of this ordinal has the tag
abbrev pub HasTagAt : Listed → List ℕ → List ℕ → ℕ → Type 0
HasTagAt m name value o = (e : Entry) × (finite.get m o ≡ Some e) × IsIn e.tags (name, value)

-- no two ordinals have the same identifier
abbrev pub AreDistinct : Listed → Type 0
AreDistinct m = (o p : ℕ) (id : List ℕ) → IsAt m o id → IsAt m p id → o ≡ p

-- the series was absent, and now stands at an ordinal that was free
pub record IsAdded (old new : Listed) (id : List ℕ) (tags : Tags) (o : ℕ) : Type 0 where
  pub absent : ¬ IsPresent old id
  pub free : finite.get old o ≡ None
  pub added : new ≡ finite.insert old o (record { id = id; tags = tags })

-- the series was present, and nothing changed
pub record IsFound (old new : Listed) (id : List ℕ) (o : ℕ) : Type 0 where
  pub at : IsAt old o id
  pub unchanged : new ≡ old
