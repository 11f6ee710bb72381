-- What a list of points amounts to, by its first few.
use Rattle.std.proofs.Common.{◌≡◌, ℕ, suc, ◌+◌, ◌<◌, List, [], ◌∷◌, ◌++◌, length, take, get_or, sym, ap, ◌∙◌, arith}
use Rattle.std.proofs.Math.Seq.{take-suc}
use Rattle.std.proofs.lemmas.List.Sums.{fold_push}
use Rattle.std.specs.FinMap as finite
use Rattle.m3_model.specs.Contents.{Contents, raised, content_of}
use Rattle.m3_model.specs.declared.point.Point.{Point}

first_more : {X : Type 0} (xs : List X) (i : ℕ) (x : X) → i < length xs → x ≡ get_or xs i x → take (i + 1) xs ≡ take i xs ++ x ∷ []
first_more {X} xs i x lt is =
    let up : i + 1 ≡ suc i = omega arith in
    ap (λ (k : ℕ). take k xs) up ∙ take-suc xs i x lt ∙ ap (λ (y : X). take i xs ++ y ∷ []) (sym is)

pub held_more : (d e : Contents) (ps : List Point) (i : ℕ) (p : Point) → i < length ps → p ≡ get_or ps i p → d ≡ content_of (take i ps) → e ≡ raised d p → e ≡ content_of (take (i + 1) ps)
held_more d e ps i p lt is before now =
    now ∙ ap (λ (m : Contents). raised m p) before ∙ sym (fold_push raised finite.empty (take i ps) p) ∙ ap content_of (sym (first_more ps i p lt is))
