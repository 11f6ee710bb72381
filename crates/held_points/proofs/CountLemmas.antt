-- How many points are held, with one more and with room for one.
use Rattle.std.proofs.Common.{◌≡◌, ℕ, ◌+◌, ◌-◌, ◌<◌, ◌≤◌, refl, sym, ap, ◌∙◌, subst, Bool, true, false, cond, not, Option, Some, None, arith}
use Rattle.std.specs.Prelude.{is_some, IfSome, IsSome, ℤ}
use Rattle.std.specs.FinMap as finite
use Rattle.std.specs.FinMap.{len-empty, len-insert}
use Rattle.m3_model.specs.declared.limits.TheConstants.{MOST_REPLICA_POINTS}
use Rattle.m3_model.specs.declared.point.Key.{Key}
use Rattle.m3_model.specs.declared.point.Point.{Point}
use Rattle.m3_model.specs.Contents.{raised, raised_at, key_of, higher}
use Rattle.m3_model.specs.Keys.{key_cmp, key_cmp_total}
use Rattle.block_buffer.specs.Held.{InMemory}
use Rattle.block_buffer.proofs.ContentLemmas.{len_removed}
use Rattle.held_points.specs.Counted.{IsCounted}

pub none_counted : (held : InMemory) → held ≡ record { points = finite.empty; room = None } → IsCounted 0 false held
none_counted held is = subst (IsCounted 0 false) (sym is) (record { counted = sym (len-empty key_cmp ℤ); limit = omega arith; fits = tt })

-- without room the same are held
pub counted_still : (count : ℕ) (adds : Bool) (held new : InMemory) → new ≡ record { points = held.points; room = None } → IsCounted count adds held → IsCounted count adds new
counted_still count adds held new is h = subst (IsCounted count adds) (sym is) (record { counted = h.counted; limit = h.limit; fits = tt })

-- with room for a point at this key
pub counted_room : (count : ℕ) (adds stands : Bool) (held new : InMemory) (key : Key) → new ≡ record { points = held.points; room = Some key } → stands ≡ is_some (finite.get held.points key) → (stands ≡ false → count < MOST_REPLICA_POINTS) → IsCounted count adds held
    → IsCounted count (not stands) new
counted_room count adds stands held new key is there fits h = subst (IsCounted count (not stands)) (sym is) (record { counted = h.counted; limit = h.limit; fits = (ap not there, λ e. fits (off stands e)) })
  where
    off : (b : Bool) → not b ≡ true → b ≡ false
    off true e = cc
    off false e = refl

-- what room says of the point for which it is
pub room_fits : (count : ℕ) (adds : Bool) (held : InMemory) (key : Key) → held.room ≡ Some key → IsCounted count adds held → (adds ≡ not (is_some (finite.get held.points key))) × (adds ≡ true → count < MOST_REPLICA_POINTS)
room_fits count adds held key is h = subst (λ (o : Option Key). IfSome o (λ k. (adds ≡ not (is_some (finite.get held.points k))) × (adds ≡ true → count < MOST_REPLICA_POINTS))) is h.fits

-- with the point
pub counted_more : (count next : ℕ) (adds : Bool) (held new : InMemory) (p : Point) → held.room ≡ Some (key_of p) → new ≡ record { points = raised held.points p; room = None } → next ≡ cond adds (count + 1) count → IsCounted count adds held → IsCounted next adds new
counted_more count next adds held new p room is more h =
    let fits = room_fits count adds held (key_of p) room h in
    let longer = len-insert key_cmp_total held.points (key_of p) (higher (finite.get held.points (key_of p)) p.v) in
    by adds (is_some (finite.get held.points (key_of p))) fits.0 fits.1 more longer
  where
    by : (adds there : Bool) → adds ≡ not there → (adds ≡ true → count < MOST_REPLICA_POINTS) → next ≡ cond adds (count + 1) count → finite.len (raised held.points p) ≡ cond there (finite.len held.points) (finite.len held.points + 1) → IsCounted next adds new
    by true true e low more longer = absurd (cc)
    by true false e low more longer = let was = h.counted in let lt = low refl in subst (IsCounted next true) (sym is) (record { counted = omega (arith, more, longer, was); limit = omega (arith, more, lt); fits = tt })
    by false true e low more longer = let was = h.counted in let le = h.limit in subst (IsCounted next false) (sym is) (record { counted = omega (arith, more, longer, was); limit = omega (arith, more, le); fits = tt })
    by false false e low more longer = absurd (cc)

-- ---- one point fewer

one_less : (held : InMemory) (key : Key) (v : ℤ) → finite.get held.points key ≡ Some v → 1 + finite.len (finite.remove held.points key) ≡ finite.len held.points
one_less held key v stands = let less = len_removed held.points key v stands in omega (arith, less)

-- where a point stands, there is one
pub some_counted : (count : ℕ) (adds : Bool) (held : InMemory) (key : Key) (v : ℤ) → finite.get held.points key ≡ Some v → IsCounted count adds held → 1 ≤ count
some_counted count adds held key v stands h = let less = one_less held key v stands in let was = h.counted in omega (arith, less, was)

-- without it
pub counted_fewer : (count : ℕ) (adds : Bool) (held new : InMemory) (key : Key) (v : ℤ) → finite.get held.points key ≡ Some v → new.points ≡ finite.remove held.points key → new.room ≡ None → IsCounted count adds held → IsCounted (count - 1) adds new
counted_fewer count adds held new key v stands left room h =
    let less = one_less held key v stands in
    let was = h.counted in
    let limit = h.limit in
    let size : finite.len new.points ≡ finite.len (finite.remove held.points key) = ap finite.len left in
    record {
      counted = omega (arith, less, was, size);
      limit = omega (arith, limit);
      fits = subst (λ (o : Option Key). IfSome o (λ k. (adds ≡ not (is_some (finite.get new.points k))) × (adds ≡ true → count - 1 < MOST_REPLICA_POINTS))) (sym room) tt;
    }

-- with the same points, and no room
pub counted_same : (count : ℕ) (adds : Bool) (held new : InMemory) → new.points ≡ held.points → new.room ≡ None → IsCounted count adds held → IsCounted count adds new
counted_same count adds held new same room h = record {
  counted = h.counted ∙ ap finite.len (sym same);
  limit = h.limit;
  fits = subst (λ (o : Option Key). IfSome o (λ k. (adds ≡ not (is_some (finite.get new.points k))) × (adds ≡ true → count < MOST_REPLICA_POINTS))) (sym room) tt;
}

pub some_of : {X : Type 0} (o : Option X) (P : X → Type 0) → is_some o ≡ true → IfSome o P → (x : X) × P x
some_of None P e h = cc
some_of (Some x) P e h = (x, h)

-- with a higher value at a key at which a point stands
pub counted_raised : (count : ℕ) (adds : Bool) (held new : InMemory) (key : Key) (v : ℤ) → new ≡ record { points = raised_at held.points key v; room = None } → IsSome (finite.get held.points key) → IsCounted count adds held → IsCounted count adds new
counted_raised count adds held new key v is there h =
    let size = len-insert key_cmp_total held.points key (higher (finite.get held.points key) v) ∙ ap (λ b. cond b (finite.len held.points) (finite.len held.points + 1)) there in
    subst (IsCounted count adds) (sym is) (record { counted = h.counted ∙ sym size; limit = h.limit; fits = tt })
