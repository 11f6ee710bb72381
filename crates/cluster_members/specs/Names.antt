-- Nodes by their names.
use Rattle.std.specs.Prelude.{◌≡◌, ℕ, List, [], ◌∷◌, Option, Some, None, nat_eq, ◌&&◌, ⊤}
use Rattle.std.specs.Cmp.Lexicographic.{pointwise}
use Rattle.std.specs.List.{position}
use Rattle.m3_model.specs.declared.act.Fate.{Fate}
use Rattle.m3_model.specs.declared.placement.Instance.{Instance}
use Rattle.session_writes.specs.net_plan.Fates.{Item}

-- the number of the first listed node of this name
abbrev pub node_named : List ℕ → List Instance → Option ℕ
node_named name instances = position (λ (node : Instance). node.listed && pointwise nat_eq name node.name) instances

-- the same messages and fates, with the numbers of the nodes in place of their names
abbrev pub AreNumbered : List Instance → List (ℕ × ℕ × List ℕ × Fate) → List Item → Type 0
AreNumbered instances [] [] = ⊤
AreNumbered instances (fate ∷ list) (item ∷ items) =
    (item.0 ≡ fate.0) × (item.1 ≡ fate.1) × (node_named fate.2 instances ≡ Some item.2) × (item.3 ≡ fate.3) × AreNumbered instances list items
AreNumbered instances _ _ = ⊥

-- the first name that no listed node has
abbrev pub first_missing : List Instance → List (ℕ × ℕ × List ℕ × Fate) → Option (List ℕ)
first_missing instances [] = None
first_missing instances (fate ∷ list) = missing_or (node_named fate.2 instances) fate.2 (first_missing instances list)
  where
    missing_or : Option ℕ → List ℕ → Option (List ℕ) → Option (List ℕ)
    missing_or None name later = Some name
    missing_or (Some node) name later = later
