-- What one more entry amounts to.
use Rattle.std.proofs.Common.{◌≡◌, ℕ, ◌≤◌, List, [], ◌∷◌, ◌++◌, max, sym, ap, ◌∙◌, arith}
use Rattle.commit_log.specs.m3_model.declared.point.Point.{Point}
use Rattle.shard_files.specs.declared.entries.LogEntry.{LogEntry}
use Rattle.shard_files.specs.HeldEntries.{AmountTo, points_in, tenure_in, fence_in}
use Rattle.shard_files.proofs.HeldLemmas.{one_more, tenures_are_fences}

pub amount_more : (ps qs : List Point) (t f u g : ℕ) (es : List LogEntry) (e : LogEntry) → AmountTo es ps t f → qs ≡ ps ++ points_in e → u ≡ max t (tenure_in e) → g ≡ max f (fence_in e) → AmountTo (es ++ e ∷ []) qs u g
amount_more ps qs t f u g es e before points tenure fence =
    let more = one_more es e in
    record {
      points_are = points ∙ ap (λ (l : List Point). l ++ points_in e) before.points_are ∙ sym more.points;
      tenure_is = tenure ∙ ap (λ (n : ℕ). max n (tenure_in e)) before.tenure_is ∙ sym more.tenure;
      fence_is = fence ∙ ap (λ (n : ℕ). max n (fence_in e)) before.fence_is ∙ sym more.fence;
    }

-- a tenure is a fence too
pub order_of : (ps : List Point) (t f : ℕ) (es : List LogEntry) → AmountTo es ps t f → t ≤ f
order_of ps t f es amount = let up = tenures_are_fences es in omega (arith, up, amount.tenure_is, amount.fence_is)
