-- Points in turn, and what is past a key.
use Rattle.std.proofs.Common.{◌≡◌, ℕ, ◌+◌, ◌<◌, ◌≤◌, ℤ, List, [], ◌∷◌, ◌++◌, length, refl, sym, ap, ◌∙◌, subst, inl, inr, arith}
use Rattle.std.specs.Prelude.{◌⊎◌, Option, Some, None}
use Rattle.std.specs.FinMap.{get}
use Rattle.std.specs.Cmp.{tied_itself}
use Rattle.std.specs.declared.cmp.Ordering.TheVariants.{Less, Equal}
use Rattle.m3_model.specs.Answers.{HasPoint}
use Rattle.m3_model.specs.Contents.{Contents, key_of}
use Rattle.m3_model.specs.Keys.{key_cmp, key_cmp_total}
use Rattle.m3_model.specs.declared.point.Key.{Key}
use Rattle.m3_model.specs.declared.point.Point.{Point}
use Rattle.first_points.specs.Firsts.{IsPast, HasNonePast, IsNext, AreInTurn, last_key, AreFirst}

-- what stands above a key that is past is past
pub past_later : (after : Option Key) (k l : Key) → IsPast after k → key_cmp k l ≡ Less → IsPast after l
past_later None k l h below = tt
past_later (Some a) k l h below = key_cmp_total.trans a k l h below

-- no key is below itself
pub not_itself : (k : Key) → key_cmp k k ≡ Less → ⊥
not_itself k below = let tied : key_cmp k k ≡ Equal = tied_itself key_cmp_total k in let bad : Less ≡ Equal = sym below ∙ tied in cc

-- no two keys are below each other
pub not_both : (k l : Key) → key_cmp k l ≡ Less → key_cmp l k ≡ Less → ⊥
not_both k l one other = not_itself k (key_cmp_total.trans k l k one other)

-- ---- one more point

pub last_push : (after : Option Key) (ps : List Point) (p : Point) → last_key after (ps ++ p ∷ []) ≡ Some (key_of p)
last_push after [] p = refl
last_push after (q ∷ ps) p = last_push (Some (key_of q)) ps p

pub turn_push : (c : Contents) (after : Option Key) (ps : List Point) (p : Point) → AreInTurn c after ps → IsNext c (last_key after ps) p → AreInTurn c after (ps ++ p ∷ [])
turn_push c after [] p h next = (next, tt)
turn_push c after (q ∷ ps) p h next = (h.0, turn_push c (Some (key_of q)) ps p h.1 next)

-- ---- past a later key

pub none_later : (c : Contents) (last : Option Key) (a : Key) → HasNonePast c last → IsPast last a → HasNonePast c (Some a)
none_later c last a none past k v here above = none k v here (past_later last a k past above)

pub next_later : (c : Contents) (last : Option Key) (a : Key) (p : Point) → IsNext c last p → IsPast last a → key_cmp a (key_of p) ≡ Less → IsNext c (Some a) p
next_later c last a p next past below = record {
  stands = next.stands;
  past = below;
  first = λ k v here above low. next.first k v here (past_later last a k past above) low;
}
