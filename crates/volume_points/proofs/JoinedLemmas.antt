-- What stands at a key after points were joined.
use Rattle.std.proofs.Common.{◌≡◌, ℤ, List, [], ◌∷◌, fold, refl, sym, ap, ◌∙◌, Bool, true, false, cond, arith}
use Rattle.std.specs.Prelude.{Option, Some, None}
use Rattle.std.specs.FinMap as map
use Rattle.std.specs.FinMap.{get-insert, same_map}
use Rattle.std.specs.Ordering.{eq_by_cmp}
use Rattle.std.proofs.lemmas.Int.{ints}
use Rattle.m3_model.specs.Contents.{Contents, content_of, higher, key_of, raised}
use Rattle.m3_model.specs.Keys.{key_cmp, key_cmp_total}
use Rattle.m3_model.specs.declared.point.Key.{Key}
use Rattle.m3_model.specs.declared.point.Point.{Point}
use Rattle.m3_model.proofs.Keyed.{key_cmp-IsAntisymmetric, equal_of}

-- the higher of what stands in two contents
abbrev pub higher_of : Option ℤ → Option ℤ → Option ℤ
higher_of o None = o
higher_of o (Some v) = Some (higher o v)

-- a value where one is raised
abbrev put_at : Bool → Option ℤ → ℤ → Option ℤ
put_at b o v = cond b (Some (higher o v)) o

higher_twice : (o : Option ℤ) (u v : ℤ) → higher o (higher (Some u) v) ≡ higher (Some (higher o u)) v
higher_twice None u v = refl
higher_twice (Some w) u v = grind (arith, ints)

put_higher : (b : Bool) (o a : Option ℤ) (v : ℤ) → put_at b (higher_of o a) v ≡ higher_of o (put_at b a v)
put_higher true o None v = refl
put_higher true o (Some u) v = ap Some (sym (higher_twice o u v))
put_higher false o a v = refl

abbrev is_at : Key → Point → Bool
is_at k p = eq_by_cmp key_cmp k (key_of p)

get-raised : (c : Contents) (p : Point) (k : Key) → map.get (raised c p) k ≡ put_at (is_at k p) (map.get c k) p.v
get-raised c p k = get-insert key_cmp_total c (key_of p) (higher (map.get c (key_of p)) p.v) k ∙ by (is_at k p) refl
  where
    by : (b : Bool) → is_at k p ≡ b → cond b (Some (higher (map.get c (key_of p)) p.v)) (map.get c k) ≡ put_at b (map.get c k) p.v
    by true t = ap (λ (q : Key). Some (higher (map.get c q) p.v)) (sym (key_cmp-IsAntisymmetric k (key_of p) (equal_of _ t)))
    by false t = refl

joined_from_two : (ps : List Point) (c d e : Contents) → ((k : Key) → map.get d k ≡ higher_of (map.get c k) (map.get e k)) → (k : Key) → map.get (fold raised d ps) k ≡ higher_of (map.get c k) (map.get (fold raised e ps) k)
joined_from_two [] c d e h k = h k
joined_from_two (p ∷ ps) c d e h k =
    joined_from_two ps c (raised d p) (raised e p)
    (λ q. get-raised d p q ∙ ap (λ o. put_at (is_at q p) o p.v) (h q) ∙ put_higher (is_at q p) (map.get c q) (map.get e q) p.v ∙ ap (higher_of (map.get c q)) (sym (get-raised e p q))) k

-- at each key stands the higher of what the content has and of what the points stand for
pub get-joined : (c : Contents) (ps : List Point) (k : Key) → map.get (fold raised c ps) k ≡ higher_of (map.get c k) (map.get (content_of ps) k)
get-joined c ps k = joined_from_two ps c c map.empty (λ q. ap (higher_of (map.get c q)) (sym (map.get-empty {X = ℤ} key_cmp q))) k

-- contents with the same at each key are the same
pub same_content : (c d : Contents) → ((k : Key) → map.get c k ≡ map.get d k) → c ≡ d
same_content c d h = same_map key_cmp_total key_cmp-IsAntisymmetric c d h

-- points that stand for one content are joined alike
pub joined_alike : (c : Contents) (ps qs : List Point) → content_of ps ≡ content_of qs → fold raised c ps ≡ fold raised c qs
joined_alike c ps qs e = same_content _ _ (λ k. get-joined c ps k ∙ ap (λ (m : Contents). higher_of (map.get c k) (map.get m k)) e ∙ sym (get-joined c qs k))
