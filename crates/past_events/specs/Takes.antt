-- Which nodes took a point: as one word, since it is asked of each node of an Ack.
use Rattle.std.specs.Prelude.{ℕ, List}
use Rattle.m3_model.specs.declared.point.Point.{Point}
use Rattle.cluster_core.specs.Earlier.{HasPut}
use Rattle.cluster_core.specs.declared.event.Event.{Event}

-- the node's replica took the point at the version
unfoldable pub HasTaken : List Event → ℕ → ℕ → Point → ℕ → Type 0
HasTaken past s version point n = HasPut past n s version point
