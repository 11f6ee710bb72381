-- What a reply's JSON tells of what it was made of.
use Rattle.std.proofs.Common.{◌≡◌, ℕ, ℤ, pos, negsuc, List, [], ◌∷◌, map, Bool, Option, Some, refl, sym, ap, ◌∙◌}
use Rattle.serde_json.specs.Data.{Data}
use Rattle.serde_json.specs.Find.{of_integer}
use Rattle.m3_model.specs.declared.answer.Answer.TheVariants as answer
use Rattle.m3_model.specs.declared.placement.Instance.{Instance}
use Rattle.m3_model.specs.declared.point.Series.{Series}
use Rattle.reply_values.specs.Json.{list_of}
use Rattle.reply_items.specs.Names.{node_name, node_data}
use Rattle.m3_replies.specs.Replies.{answer_data}
use Rattle.reply_items.specs.Series.{pair_data, series_data}

-- lists with one JSON have what each element's JSON tells
list_tells : {X Y : Type 0} (f : X → Data) (told : X → Y) → ((x y : X) → f x ≡ f y → told x ≡ told y) → (xs ys : List X) → list_of f xs ≡ list_of f ys → map told xs ≡ map told ys
list_tells f told tells [] [] e = refl
list_tells f told tells [] (y ∷ ys) e = cc
list_tells f told tells (x ∷ xs) [] e = cc
list_tells f told tells (x ∷ xs) (y ∷ ys) e =
    let first : f x ≡ f y = cc in
    let rest : list_of f xs ≡ list_of f ys = cc in
    let told_first = tells x y first in
    let told_rest = list_tells f told tells xs ys rest in
    cc

map_same : {X : Type 0} (xs : List X) → map (λ x. x) xs ≡ xs
map_same [] = refl
map_same (x ∷ xs) = ap (λ ys. x ∷ ys) (map_same xs)

integer_tells : (v w : ℤ) → of_integer v ≡ of_integer w → v ≡ w
integer_tells (pos m) (pos n) e = cc
integer_tells (pos m) (negsuc n) e = cc
integer_tells (negsuc m) (pos n) e = cc
integer_tells (negsuc m) (negsuc n) e = cc

pair_tells : (p q : ℕ × ℤ) → pair_data p ≡ pair_data q → p ≡ q
pair_tells p q e =
    let time : p.0 ≡ q.0 = cc in
    let number_of : of_integer p.1 ≡ of_integer q.1 = cc in
    let value = integer_tells p.1 q.1 number_of in
    λ i. (time i, value i)

series_tells : (s t : Series) → series_data s ≡ series_data t → s ≡ t
series_tells s t e =
    let id : s.id ≡ t.id = cc in
    let lists : list_of pair_data s.points ≡ list_of pair_data t.points = cc in
    let points = sym (map_same s.points) ∙ list_tells pair_data (λ p. p) pair_tells s.points t.points lists ∙ map_same t.points in
    λ i. record { id = id i; points = points i }

same_read : (o : Option Data) (d e : Data) → o ≡ Some d → o ≡ Some e → d ≡ e
same_read o d e p q = cc

node_tells : (instances : List Instance) (m n : ℕ) → node_data instances m ≡ node_data instances n → node_name instances m ≡ node_name instances n
node_tells instances m n e = cc

pub found_tells : (instances : List Instance) (s t : List Series) (a b : Bool) (o : Option Data) → o ≡ Some (answer_data instances (answer.Found s a)) → o ≡ Some (answer_data instances (answer.Found t b))
    → (s ≡ t) × (a ≡ b)
found_tells instances s t a b o p q =
    let same : answer_data instances (answer.Found s a) ≡ answer_data instances (answer.Found t b) = same_read o _ _ p q in
    let lists : list_of series_data s ≡ list_of series_data t = cc in
    (sym (map_same s) ∙ list_tells series_data (λ x. x) series_tells s t lists ∙ map_same t, cc)

pub acks_tell : (instances : List Instance) (m n : List ℕ) (o : Option Data) → o ≡ Some (answer_data instances (answer.Acks m)) → o ≡ Some (answer_data instances (answer.Acks n))
    → map (node_name instances) m ≡ map (node_name instances) n
acks_tell instances m n o p q =
    let same : answer_data instances (answer.Acks m) ≡ answer_data instances (answer.Acks n) = same_read o _ _ p q in
    let lists : list_of (node_data instances) m ≡ list_of (node_data instances) n = cc in
    list_tells (node_data instances) (node_name instances) (node_tells instances) m n lists
