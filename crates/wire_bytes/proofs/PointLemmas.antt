-- A point's fields, one after another.
use Rattle.std.proofs.Common.{◌≡◌, ℕ, ℤ, ◌+◌, ◌-◌, ◌<◌, ◌≤◌, ◌^◌, List, ◌++◌, length, take, drop, refl, sym, ap, subst, ◌∙◌, arith, append_assoc, FitsSigned, Fits, w64}
use Rattle.std.proofs.Math.Facts.{sfits_to_z, Fits-of_z}
use Rattle.std.proofs.lemmas.List.{take_at, drop_at}
use Rattle.std.proofs.Common.{Result, Ok, Err, IfOk, IfErr, IsErrAnd}
use Rattle.std.proofs.lemmas.Result.{err_from_is_err_and}
use Rattle.std.proofs.lemmas.Int.{to_z-of_z, of_z-to_z}
use Rattle.std.specs.Int.{cast_unsigned, cast_signed}
use Rattle.byteorder.specs.Endian.{big_bytes}
use Rattle.wire_bytes.specs.Fields.{Stands, IsFault}
use Rattle.wire_bytes.specs.Numbers.{ANumber}
use Rattle.wire_bytes.specs.Texts.{AText}
use Rattle.wire_bytes.specs.Points.{IsPoint, point_bytes, APoint, PointStands}
use Rattle.wire_bytes.specs.declared.wire_err.WireErr.{WireErr}
use Rattle.wire_bytes.specs.declared.points.PointAt.{PointAt}
use Rattle.wire_bytes.proofs.FieldLemmas.{EndsItself, Then, Some_of, first_fault, second_fault, then_ends, fault_as, fault_one, no_fault, one_stands, stands_both}
use Rattle.wire_bytes.proofs.NumberLemmas.{length_number, number_ends, bytes_one}
use Rattle.wire_bytes.proofs.TextLemmas.{text_ends, letters}

pub fits_word : (n : ℕ) → n < 2 ^ 64 → Fits w64 n
fits_word n lt = omega arith

pub word_fits : (n : ℕ) → Fits w64 n → n < 2 ^ 64
word_fits n f = omega arith

-- a number by its value
pub record Counted (w low high n : ℕ) (bytes : List ℕ) : Type 0 where
  pub least : low ≤ n
  pub most : n ≤ high
  pub spelled : bytes ≡ big_bytes w n

pub counted_ends : (w low high : ℕ) → EndsItself (Some_of (Counted w low high))
counted_ends w low high a r f g = number_ends w low high a r (number a f) (number (a ++ r) g)
  where
    number : (l : List ℕ) → Some_of (Counted w low high) l → ANumber w low high l
    number l f = record { n = f.0; least = f.1.least; most = f.1.most; spelled = f.1.spelled }

pub counted_one : (w low high : ℕ) → high < 256 ^ w → (x y : ℕ) (a : List ℕ) → Counted w low high x a → Counted w low high y a → x ≡ y
counted_one w low high fits x y a f g = bytes_one w x y (omega (arith, f.most)) (omega (arith, g.most)) (sym f.spelled ∙ g.spelled)

pub counted_fault : (w low high : ℕ) (bytes : List ℕ) (at : ℕ) (e : WireErr) → IsFault (ANumber w low high) bytes at e → IsFault (Some_of (Counted w low high)) bytes at e
counted_fault w low high bytes at e a =
    fault_as (ANumber w low high) (Some_of (Counted w low high)) bytes at e
    (λ b f. (f.n, record { least = f.least; most = f.most; spelled = f.spelled })) (λ b f. record { n = f.0; least = f.1.least; most = f.1.most; spelled = f.1.spelled }) a

-- a text by its length
pub record Texted (n x : ℕ) (bytes : List ℕ) : Type 0 where
  pub same : x ≡ n
  pub text : AText n bytes

pub texted_ends : (n : ℕ) → EndsItself (Some_of (Texted n))
texted_ends n a r f g = text_ends n a r f.1.text g.1.text

pub texted_fault : (n : ℕ) (bytes : List ℕ) (at : ℕ) (e : WireErr) → IsFault (AText n) bytes at e → IsFault (Some_of (Texted n)) bytes at e
texted_fault n bytes at e a = fault_as (AText n) (Some_of (Texted n)) bytes at e (λ b f. (n, record { same = refl; text = f })) (λ b f. f.1.text) a

-- the parts of a point, from each field on
abbrev OfNs : ℕ → List ℕ → Type 0
OfNs = Counted 1 0 7

abbrev OfLen : ℕ → List ℕ → Type 0
OfLen = Counted 2 1 512

abbrev OfTime : ℕ → List ℕ → Type 0
OfTime = Counted 8 0 (2 ^ 62 - 1)

abbrev Value : List ℕ → Type 0
Value = ANumber 8 0 (256 ^ 8 - 1)

FromTime : List ℕ → Type 0
FromTime = Then OfTime (λ t. Value)

FromId : ℕ → List ℕ → Type 0
FromId n = Then (Texted n) (λ x. FromTime)

FromLen : List ℕ → Type 0
FromLen = Then OfLen FromId

Whole : List ℕ → Type 0
Whole = Then OfNs (λ ns. FromLen)

some_value : Value (big_bytes 8 0)
some_value = record { n = 0; least = omega arith; most = omega arith; spelled = refl }

some_time : (b : List ℕ) × FromTime b
unfolding FromTime
some_time = (big_bytes 8 0 ++ big_bytes 8 0, record { x = 0; a = big_bytes 8 0; b = big_bytes 8 0; first = record { least = omega arith; most = omega arith; spelled = refl }; second = some_value; joined = refl })

some_id : (n : ℕ) → (b : List ℕ) × FromId n b
unfolding FromId
some_id n =
    let l = letters n in
    (l.0 ++ some_time.0, record { x = n; a = l.0; b = some_time.0; first = record { same = refl; text = record { long = l.1; utf8 = l.2 } }; second = some_time.1; joined = refl })

some_len : (b : List ℕ) × FromLen b
unfolding FromLen
some_len =
    let i = some_id 1 in
    (big_bytes 2 1 ++ i.0, record { x = 1; a = big_bytes 2 1; b = i.0; first = record { least = omega arith; most = omega arith; spelled = refl }; second = i.1; joined = refl })

-- a point is its parts
to_point : (b : List ℕ) → Whole b → APoint b
unfolding Whole FromLen FromId FromTime
to_point b w =
    let l = w.second in
    let i = l.second in
    let t = i.second in
    let u = t.second in
    let unsigned : cast_unsigned w64 (cast_signed w64 u.n) ≡ u.n = of_z-to_z w64 u.n (omega (arith, u.most)) in
    record {
      ns = w.x;
      id = i.a;
      t = t.x;
      v = cast_signed w64 u.n;
      values = record {
        namespace = omega (arith, w.first.most);
        some = omega (arith, l.first.least, i.first.text.long);
        most = omega (arith, l.first.most, i.first.text.long);
        utf8 = i.first.text.utf8;
        time = omega (arith, t.first.most);
        value = sfits_to_z (fits_word u.n (omega (arith, u.most)));
      };
      spelled = w.joined ∙ ap (λ (p : List ℕ). p ++ w.b) w.first.spelled ∙ ap (λ (p : List ℕ). big_bytes 1 w.x ++ p)
          (l.joined ∙ ap (λ (p : List ℕ). p ++ l.b) (l.first.spelled ∙ ap (big_bytes 2) (sym i.first.text.long)) ∙ ap (λ (p : List ℕ). big_bytes 2 (length i.a) ++ p)
          (i.joined ∙ ap (λ (p : List ℕ). i.a ++ p)
          (t.joined ∙ ap (λ (p : List ℕ). p ++ t.b) t.first.spelled ∙ ap (λ (p : List ℕ). big_bytes 8 t.x ++ p) (u.spelled ∙ ap (big_bytes 8) (sym unsigned)))));
    }

from_point : (b : List ℕ) → APoint b → Whole b
unfolding Whole FromLen FromId FromTime
from_point b p = record {
  x = p.ns;
  a = big_bytes 1 p.ns;
  b = big_bytes 2 (length p.id) ++ (p.id ++ (big_bytes 8 p.t ++ big_bytes 8 (cast_unsigned w64 p.v)));
  first = record { least = omega arith; most = omega (arith, p.values.namespace); spelled = refl };
  second = record {
    x = length p.id;
    a = big_bytes 2 (length p.id);
    b = p.id ++ (big_bytes 8 p.t ++ big_bytes 8 (cast_unsigned w64 p.v));
    first = record { least = p.values.some; most = p.values.most; spelled = refl };
    second = record {
      x = length p.id;
      a = p.id;
      b = big_bytes 8 p.t ++ big_bytes 8 (cast_unsigned w64 p.v);
      first = record { same = refl; text = record { long = refl; utf8 = p.values.utf8 } };
      second = record {
        x = p.t;
        a = big_bytes 8 p.t;
        b = big_bytes 8 (cast_unsigned w64 p.v);
        first = record { least = omega arith; most = omega (arith, p.values.time); spelled = refl };
        second = record { n = cast_unsigned w64 p.v; least = omega arith; most = (let h = word_fits (cast_unsigned w64 p.v) (Fits-of_z p.values.value) in omega (arith, h)); spelled = refl };
        joined = refl;
      };
      joined = refl;
    };
    joined = refl;
  };
  joined = p.spelled;
}

-- where a field fails, the point does
whole_fault : (bytes : List ℕ) (at : ℕ) (e : WireErr) → IsFault Whole bytes at e → IsFault APoint bytes at e
whole_fault bytes at e a = fault_as Whole APoint bytes at e to_point from_point a

pub fault_ns : (bytes : List ℕ) (at : ℕ) (e : WireErr) → IsFault (ANumber 1 0 7) bytes at e → IsFault APoint bytes at e
unfolding Whole
fault_ns bytes at e a = whole_fault bytes at e (first_fault OfNs (λ ns. FromLen) (counted_ends 1 0 7) bytes at e (λ x l f. some_len) (counted_fault 1 0 7 bytes at e a))

module _ (bytes : List ℕ) (at ns : ℕ) (ns_fits : ns ≤ 7) (ns_at : Stands (big_bytes 1 ns) bytes at (at + 1)) where
  behind_ns : (e : WireErr) → IsFault FromLen bytes (at + 1) e → IsFault APoint bytes at e
  unfolding Whole
  behind_ns e a = whole_fault bytes at e (second_fault OfNs (λ ns. FromLen) (counted_ends 1 0 7) (counted_one 1 0 7 (omega arith)) ns (big_bytes 1 ns)
      (record { least = omega arith; most = ns_fits; spelled = refl }) bytes at (at + 1) e ns_at a)

  pub fault_len : (e : WireErr) → IsFault (ANumber 2 1 512) bytes (at + 1) e → IsFault APoint bytes at e
  unfolding FromLen
  fault_len e a = behind_ns e (first_fault OfLen FromId (counted_ends 2 1 512) bytes (at + 1) e (λ x l f. some_id x) (counted_fault 2 1 512 bytes (at + 1) e a))

  module _ (len : ℕ) (least : 1 ≤ len) (most : len ≤ 512) (len_at : Stands (big_bytes 2 len) bytes (at + 1) (at + 1 + 2)) where
    behind_len : (e : WireErr) → IsFault (FromId len) bytes (at + 3) e → IsFault APoint bytes at e
    unfolding FromLen
    behind_len e a =
        let there : at + 1 + 2 ≡ at + 3 = omega arith in
        behind_ns e (second_fault OfLen FromId (counted_ends 2 1 512) (counted_one 2 1 512 (omega arith)) len (big_bytes 2 len)
        (record { least = least; most = most; spelled = refl }) bytes (at + 1) (at + 3) e (subst (λ (k : ℕ). Stands (big_bytes 2 len) bytes (at + 1) k) there len_at) a)

    pub fault_id : (e : WireErr) → IsFault (AText len) bytes (at + 3) e → IsFault APoint bytes at e
    unfolding FromId
    fault_id e a = behind_len e (first_fault (Texted len) (λ x. FromTime) (texted_ends len) bytes (at + 3) e (λ x l f. some_time) (texted_fault len bytes (at + 3) e a))

    module _ (id : List ℕ) (text : AText len id) (id_at : Stands id bytes (at + 3) (at + 3 + len)) where
      behind_id : (e : WireErr) → IsFault FromTime bytes (at + 3 + len) e → IsFault APoint bytes at e
      unfolding FromId
      behind_id e a = behind_len e (second_fault (Texted len) (λ x. FromTime) (texted_ends len) (λ x y l f g. f.same ∙ sym g.same) len id
          (record { same = refl; text = text }) bytes (at + 3) (at + 3 + len) e id_at a)

      pub fault_time : (e : WireErr) → IsFault (ANumber 8 0 (2 ^ 62 - 1)) bytes (at + 3 + len) e → IsFault APoint bytes at e
      unfolding FromTime
      fault_time e a = behind_id e (first_fault OfTime (λ t. Value) (counted_ends 8 0 (2 ^ 62 - 1)) bytes (at + 3 + len) e (λ x l f. (big_bytes 8 0, some_value)) (counted_fault 8 0 (2 ^ 62 - 1) bytes (at + 3 + len) e a))

      module _ (t : ℕ) (time : t ≤ 2 ^ 62 - 1) (time_at : Stands (big_bytes 8 t) bytes (at + 3 + len) (at + 3 + len + 8)) where
        pub fault_value : (e : WireErr) → IsFault (ANumber 8 0 (256 ^ 8 - 1)) bytes (at + 3 + len + 8) e → IsFault APoint bytes at e
        unfolding FromTime
        fault_value e a = behind_id e (second_fault OfTime (λ t. Value) (counted_ends 8 0 (2 ^ 62 - 1)) (counted_one 8 0 (2 ^ 62 - 1) (omega arith)) t (big_bytes 8 t)
            (record { least = omega arith; most = time; spelled = refl }) bytes (at + 3 + len) (at + 3 + len + 8) e time_at a)

        -- and where none fails, it stands
        pub point_stands : (n : ℕ) (v : ℤ) → n < 256 ^ 8 → v ≡ cast_signed w64 n → Stands (big_bytes 8 n) bytes (at + 3 + len + 8) (at + 3 + len + 8 + 8)
            → PointStands bytes at (record { ns = ns; id_from = at + 3; id_to = at + 3 + len; t = t; v = v; next = at + 3 + len + 16 })
        point_stands n v fits signed value_at =
            let unsigned : cast_unsigned w64 v ≡ n = ap (cast_unsigned w64) signed ∙ of_z-to_z w64 n fits in
            let there : at + 1 + 2 ≡ at + 3 = omega arith in
            let ends : at + 3 + len + 8 + 8 ≡ at + 3 + len + 16 = omega arith in
            let value = subst (λ (k : ℕ). Stands (big_bytes 8 (cast_unsigned w64 v)) bytes (at + 3 + len + 8) k) ends (subst (λ (k : ℕ). Stands (big_bytes 8 k) bytes (at + 3 + len + 8) (at + 3 + len + 8 + 8)) (sym unsigned) value_at) in
            let from_time = stands_both (big_bytes 8 t) (big_bytes 8 (cast_unsigned w64 v)) bytes (at + 3 + len) (at + 3 + len + 8) (at + 3 + len + 16) time_at value in
            let from_id = stands_both id (big_bytes 8 t ++ big_bytes 8 (cast_unsigned w64 v)) bytes (at + 3) (at + 3 + len) (at + 3 + len + 16) id_at from_time in
            let len_there = subst (λ (k : ℕ). Stands (big_bytes 2 k) bytes (at + 1) (at + 3)) (sym text.long) (subst (λ (k : ℕ). Stands (big_bytes 2 len) bytes (at + 1) k) there len_at) in
            let from_len = stands_both (big_bytes 2 (length id)) (id ++ (big_bytes 8 t ++ big_bytes 8 (cast_unsigned w64 v))) bytes (at + 1) (at + 3) (at + 3 + len + 16) len_there from_id in
            record {
              id = id;
              values = record { namespace = omega arith; some = omega (arith, text.long); most = omega (arith, text.long); utf8 = text.utf8; time = omega arith; value = subst (FitsSigned w64) (sym signed) (sfits_to_z (fits_word n fits)) };
              stands = stands_both (big_bytes 1 ns) _ bytes at (at + 1) (at + 3 + len + 16) ns_at from_len;
              named = id_at;
              from = refl;
            }

-- points don't begin one another
pub point_ends : EndsItself APoint
unfolding Whole FromLen FromId FromTime
point_ends a r f g =
    then_ends OfNs (λ ns. FromLen) (counted_ends 1 0 7) (counted_one 1 0 7 (omega arith))
    (λ x b h. then_ends OfLen FromId (counted_ends 2 1 512) (counted_one 2 1 512 (omega arith))
    (λ n c i. then_ends (Texted n) (λ x. FromTime) (texted_ends n) (λ x y l p q. p.same ∙ sym q.same)
    (λ m d j. then_ends OfTime (λ t. Value) (counted_ends 8 0 (2 ^ 62 - 1)) (counted_one 8 0 (2 ^ 62 - 1) (omega arith)) (λ t k o. number_ends 8 0 (256 ^ 8 - 1)))))
    a r (from_point a f) (from_point (a ++ r) g)

-- two points of the same bytes are one
pub both_parts : (a b c d : List ℕ) → length a ≡ length c → a ++ b ≡ c ++ d → (a ≡ c) × (b ≡ d)
both_parts a b c d same e = (
  sym (take_at a b (length a) refl) ∙ ap (λ (l : List ℕ). take (length a) l) e ∙ take_at c d (length a) (sym same),
  sym (drop_at a b (length a) refl) ∙ ap (λ (l : List ℕ). drop (length a) l) e ∙ drop_at c d (length a) (sym same),
)

pub number_parts : (w m n : ℕ) (b d : List ℕ) → m < 256 ^ w → n < 256 ^ w → big_bytes w m ++ b ≡ big_bytes w n ++ d → (m ≡ n) × (b ≡ d)
number_parts w m n b d p q e =
    let r = both_parts (big_bytes w m) b (big_bytes w n) d (length_number w m ∙ sym (length_number w n)) e in
    (bytes_one w m n p q r.0, r.1)

pub same_bytes : (ms ns : ℕ) (id jd : List ℕ) (s t : ℕ) (u v : ℤ) → IsPoint ms id s u → IsPoint ns jd t v → point_bytes ms id s u ≡ point_bytes ns jd t v → (ms ≡ ns) × (id ≡ jd) × (s ≡ t) × (u ≡ v)
same_bytes ms ns id jd s t u v p q e =
    let a = number_parts 1 ms ns _ _ (omega (arith, p.namespace)) (omega (arith, q.namespace)) e in
    let b = number_parts 2 (length id) (length jd) _ _ (omega (arith, p.most)) (omega (arith, q.most)) a.1 in
    let c = both_parts id _ jd _ b.0 b.1 in
    let d = number_parts 8 s t _ _ (omega (arith, p.time)) (omega (arith, q.time)) c.1 in
    let n : cast_unsigned w64 u ≡ cast_unsigned w64 v = bytes_one 8 (cast_unsigned w64 u) (cast_unsigned w64 v) (word_fits (cast_unsigned w64 u) (Fits-of_z p.value)) (word_fits (cast_unsigned w64 v) (Fits-of_z q.value)) d.1 in
    (a.0, c.0, d.0, sym (to_z-of_z w64 u p.value) ∙ ap (cast_signed w64) n ∙ to_z-of_z w64 v q.value)

pub one_point : (bytes : List ℕ) (at : ℕ) (p q : PointAt) → PointStands bytes at p → PointStands bytes at q → p ≡ q
one_point bytes at p q a b =
    let whole : (r : PointAt) → PointStands bytes at r → APoint (point_bytes r.ns _ r.t r.v) = λ r s. record { ns = r.ns; id = s.id; t = r.t; v = r.v; values = s.values; spelled = refl } in
    let same = one_stands APoint point_ends (point_bytes p.ns a.id p.t p.v) (point_bytes q.ns b.id q.t q.v) bytes at p.next q.next (whole p a) (whole q b) a.stands b.stands in
    let parts = same_bytes p.ns q.ns a.id b.id p.t q.t p.v q.v a.values b.values same in
    let from : p.id_from ≡ q.id_from = a.from ∙ sym b.from in
    let to : p.id_to ≡ q.id_to = omega (arith, a.named.ends, b.named.ends, from, ap length parts.1) in
    let next : p.next ≡ q.next = omega (arith, a.stands.ends, b.stands.ends, ap length same) in
    λ i. record { ns = parts.0 i; id_from = from i; id_to = to i; t = parts.2 i; v = parts.3 i; next = next i }

-- what the answer of a reading settles
pub whole_answer : (r : Result PointAt WireErr) (bytes : List ℕ) (at : ℕ) → IfOk r (λ p. PointStands bytes at p) → IfErr r (λ e. IsFault APoint bytes at e) → (p : PointAt) → PointStands bytes at p → r ≡ Ok p
whole_answer (Ok q) bytes at ok err p st = ap Ok (one_point bytes at q p ok st)
whole_answer (Err e) bytes at ok err p st = absurd (point_no_fault bytes at p e st err)
  where
    point_no_fault : (bytes : List ℕ) (at : ℕ) (p : PointAt) (e : WireErr) → PointStands bytes at p → IsFault APoint bytes at e → ⊥
    point_no_fault bytes at p e st f = no_fault APoint point_ends (point_bytes p.ns st.id p.t p.v) bytes at p.next e (record { ns = p.ns; id = st.id; t = p.t; v = p.v; values = st.values; spelled = refl }) st.stands f

pub fault_answer : (r : Result PointAt WireErr) (bytes : List ℕ) (at : ℕ) → IfOk r (λ p. PointStands bytes at p) → IfErr r (λ e. IsFault APoint bytes at e) → (e : WireErr) → IsFault APoint bytes at e → r ≡ Err e
fault_answer (Ok p) bytes at ok err e f = absurd (no_fault APoint point_ends (point_bytes p.ns ok.id p.t p.v) bytes at p.next e (record { ns = p.ns; id = ok.id; t = p.t; v = p.v; values = ok.values; spelled = refl }) ok.stands f)
fault_answer (Err d) bytes at ok err e f = ap Err (fault_one APoint bytes at d e err f)

-- fields pushed one after another
pub pushed : (o p q r s u a b c d e : List ℕ) → p ≡ o ++ a → q ≡ p ++ b → r ≡ q ++ c → s ≡ r ++ d → u ≡ s ++ e → u ≡ o ++ (a ++ (b ++ (c ++ (d ++ e))))
pushed o p q r s u a b c d e i j k l m =
    m ∙ ap (λ (x : List ℕ). x ++ e) (l ∙ ap (λ (x : List ℕ). x ++ d) (k ∙ ap (λ (x : List ℕ). x ++ c) (j ∙ ap (λ (x : List ℕ). x ++ b) i)))
    ∙ simp append_assoc

pub exit_err : {T E : Type 0} (r : Result T E) (x : E) (P : E → Type 0) → IsErrAnd r (λ y. y ≡ x) → P x → IfErr r P
exit_err {T} {E} r x P is p = let q = err_from_is_err_and r is in subst (λ (s : Result T E). IfErr s P) (sym q.1) (subst P (sym q.2) p)
