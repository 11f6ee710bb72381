-- The info of a volume as numbers one after another, and its head.
use Rattle.std.proofs.Common.{◌≡◌, inl, inr, ℕ, ◌+◌, ◌-◌, ◌<◌, ◌≤◌, ◌^◌, List, [], ◌∷◌, ◌++◌, length, drop, refl, sym, ap, subst, ◌∙◌, arith, append_assoc, append-nil}
use Rattle.byteorder.specs.Endian.{big_bytes}
use Rattle.fileset_read.specs.m3_model.declared.limits.TheConstants.{DURATION_END, MOST_NAMESPACES, NUMBER_END, TIME_END}
use Rattle.fileset_read.specs.m3_outside.declared.file_name.FileName.{FileName}
use Rattle.fileset_read.specs.wire_bytes.Fields.{Stands, StopsAt}
use Rattle.fileset_read.specs.wire_bytes.Numbers.{ANumber}
use Rattle.fileset_read.specs.wire_bytes.Volumes.{VolumeHead, IsHead, Info, info_of}
use Rattle.fileset_read.proofs.wire_bytes_proofs.PointLemmas.{number_parts}
use Rattle.fileset_read.specs.shard_files.Parts.{part_name, part_of}
use Rattle.fileset_read.specs.shard_files.Damage.{IsInfo, IsSomeInfo}
use Rattle.fileset_read.proofs.RowLemmas.{number_stands}
use Rattle.fileset_check.specs.Numbers.{IsField, AreFields, NumberThen, AreNumbers, info_fields}
use Rattle.fileset_check.specs.Told.{IsInside}
use Rattle.fileset_check.specs.declared.numbers.Field.{Field}
use Rattle.fileset_check.proofs.StopLemmas.{stops_as}

-- the fields have numbers, where a volume may have the name
pub info_fit : (ns start number : ℕ) → IsInside ns start number → AreFields (info_fields ns start number)
info_fit ns start number i =
    let a = i.0 in
    let b = i.1 in
    let c = i.2 in (
      record { least = omega arith; most = omega arith; order = omega arith; fits = omega arith },
      (
        record { least = omega arith; most = omega arith; order = omega arith; fits = omega (arith, a) },
        (
          record { least = omega arith; most = omega arith; order = omega arith; fits = omega (arith, b) },
          (
            record { least = omega arith; most = omega arith; order = omega arith; fits = omega arith },
            (
              record { least = omega arith; most = omega arith; order = omega arith; fits = omega (arith, c) },
              (
                record { least = omega arith; most = omega arith; order = omega arith; fits = omega arith },
                (record { least = omega arith; most = omega arith; order = omega arith; fits = omega arith }, tt),
              ),
            ),
          ),
        ),
      ),
    )

-- a field that has one number alone
exact : (w k : ℕ) (bytes : List ℕ) → ANumber w k k bytes → bytes ≡ big_bytes w k
exact w k bytes a = let low = a.least in let high = a.most in let same : a.n ≡ k = omega (arith, low, high) in a.spelled ∙ ap (big_bytes w) same

joined : (a b c d e f g r1 r2 r3 r4 r5 r6 r7 s1 s2 s3 s4 s5 s6 s7 : List ℕ) → r1 ≡ s1 ++ r2 → s1 ≡ a → r2 ≡ s2 ++ r3 → s2 ≡ b → r3 ≡ s3 ++ r4 → s3 ≡ c → r4 ≡ s4 ++ r5 → s4 ≡ d → r5 ≡ s5 ++ r6 → s5 ≡ e → r6 ≡ s6 ++ r7 → s6 ≡ f → r7 ≡ s7 ++ [] → s7 ≡ g
    → r1 ≡ a ++ (b ++ (c ++ (d ++ (e ++ (f ++ g)))))
joined a b c d e f g r1 r2 r3 r4 r5 r6 r7 s1 s2 s3 s4 s5 s6 s7 j1 k1 j2 k2 j3 k3 j4 k4 j5 k5 j6 k6 j7 k7 =
    let l7 : r7 ≡ g = j7 ∙ append-nil s7 ∙ k7 in
    let l6 : r6 ≡ f ++ g = j6 ∙ (λ i. k6 i ++ l7 i) in
    let l5 : r5 ≡ e ++ (f ++ g) = j5 ∙ (λ i. k5 i ++ l6 i) in
    let l4 : r4 ≡ d ++ (e ++ (f ++ g)) = j4 ∙ (λ i. k4 i ++ l5 i) in
    let l3 : r3 ≡ c ++ (d ++ (e ++ (f ++ g))) = j3 ∙ (λ i. k3 i ++ l4 i) in
    let l2 : r2 ≡ b ++ (c ++ (d ++ (e ++ (f ++ g)))) = j2 ∙ (λ i. k2 i ++ l3 i) in
    j1 ∙ (λ i. k1 i ++ l2 i)

pub info_from : (ns start number : ℕ) (bytes : List ℕ) → IsInside ns start number → AreNumbers (info_fields ns start number) bytes → IsSomeInfo ns start number bytes
info_from ns start number bytes i x1 =
    let x2 = x1.later in
    let x3 = x2.later in
    let x4 = x3.later in
    let x5 = x4.later in
    let x6 = x5.later in
    let x7 = x6.later in
    let size = x4.number in
    let series = x6.number in
    let points = x7.number in
    let least = size.least in
    let most = size.most in
    let some = series.least in
    let few = series.most in
    let fit = points.most in
    let v : VolumeHead = record { format = 1; ns = ns; start = start; size = size.n; number = number } in
    record {
      head = v;
      info = record {
        series = series.n;
        points = points.n;
        values = record { format = inl refl; ns = i.0; start = i.1; size_low = least; size_high = omega (arith, most); number = i.2 };
        read = refl;
        named = refl;
        some = some;
        series_fits = omega (arith, few);
        points_fit = omega (arith, fit);
        is = joined (big_bytes 1 1) (big_bytes 1 ns) (big_bytes 8 start) (big_bytes 8 size.n) (big_bytes 8 number) (big_bytes 4 series.n) (big_bytes 8 points.n) bytes x1.rest x2.rest x3.rest x4.rest x5.rest x6.rest x1.front x2.front x3.front x4.front x5.front x6.front x7.front
            x1.joined (exact 1 1 x1.front x1.number) x2.joined (exact 1 ns x2.front x2.number) x3.joined (exact 8 start x3.front x3.number) x4.joined size.spelled x5.joined (exact 8 number x5.front x5.number) x6.joined series.spelled (x7.joined ∙ ap (λ (l : List ℕ). x7.front ++ l) x7.later) points.spelled;
      };
    }

-- its names are those of the file
pub record HasNames (ns start number : ℕ) (v : VolumeHead) : Type 0 where
  pub format : v.format ≡ 1
  pub ns_is : v.ns ≡ ns
  pub start_is : v.start ≡ start
  pub number_is : v.number ≡ number

pub names_of : (ns start number : ℕ) (v : VolumeHead) (bytes : List ℕ) → IsInfo ns start number v bytes → HasNames ns start number v
names_of ns start number v bytes x = record {
  format = x.read;
  ns_is = ap (λ (q : FileName). q.ns) x.named;
  start_is = ap (λ (q : FileName). q.block) x.named;
  number_is = ap (λ (q : FileName). q.number) x.named;
}

between : (n k : ℕ) → n ≡ k → (k ≤ n) × (n ≤ k)
between n k e = (omega (arith, e), omega (arith, e))

pub info_to : (ns start number : ℕ) (bytes : List ℕ) → IsSomeInfo ns start number bytes → AreNumbers (info_fields ns start number) bytes
info_to ns start number bytes s =
    let x = s.info in
    let v = s.head in
    let names = names_of ns start number v bytes x in
    let high = x.values.size_high in
    let fits = x.series_fits in
    let fit = x.points_fit in
    let format = between v.format 1 names.format in
    let of_ns = between v.ns ns names.ns_is in
    let of_start = between v.start start names.start_is in
    let of_number = between v.number number names.number_is in
    record {
      front = big_bytes 1 v.format;
      rest = big_bytes 1 v.ns ++ (big_bytes 8 v.start ++ (big_bytes 8 v.size ++ (big_bytes 8 v.number ++ (big_bytes 4 x.series ++ big_bytes 8 x.points))));
      number = record { n = v.format; least = format.0; most = format.1; spelled = refl };
      later = record {
        front = big_bytes 1 v.ns;
        rest = big_bytes 8 v.start ++ (big_bytes 8 v.size ++ (big_bytes 8 v.number ++ (big_bytes 4 x.series ++ big_bytes 8 x.points)));
        number = record { n = v.ns; least = of_ns.0; most = of_ns.1; spelled = refl };
        later = record {
          front = big_bytes 8 v.start;
          rest = big_bytes 8 v.size ++ (big_bytes 8 v.number ++ (big_bytes 4 x.series ++ big_bytes 8 x.points));
          number = record { n = v.start; least = of_start.0; most = of_start.1; spelled = refl };
          later = record {
            front = big_bytes 8 v.size;
            rest = big_bytes 8 v.number ++ (big_bytes 4 x.series ++ big_bytes 8 x.points);
            number = record { n = v.size; least = x.values.size_low; most = omega (arith, high); spelled = refl };
            later = record {
              front = big_bytes 8 v.number;
              rest = big_bytes 4 x.series ++ big_bytes 8 x.points;
              number = record { n = v.number; least = of_number.0; most = of_number.1; spelled = refl };
              later = record {
                front = big_bytes 4 x.series;
                rest = big_bytes 8 x.points;
                number = record { n = x.series; least = x.some; most = omega (arith, fits); spelled = refl };
                later = record {
                  front = big_bytes 8 x.points;
                  rest = [];
                  number = record { n = x.points; least = omega arith; most = omega (arith, fit); spelled = refl };
                  later = refl;
                  joined = sym (append-nil (big_bytes 8 x.points));
                };
                joined = refl;
              };
              joined = refl;
            };
            joined = refl;
          };
          joined = refl;
        };
        joined = refl;
      };
      joined = x.is;
    }

pub info_stops : (ns start number : ℕ) (bytes : List ℕ) (at : ℕ) → IsInside ns start number → StopsAt (AreNumbers (info_fields ns start number)) bytes at → StopsAt (IsSomeInfo ns start number) bytes at
info_stops ns start number bytes at i s = stops_as (AreNumbers (info_fields ns start number)) (IsSomeInfo ns start number) bytes at (λ b x. info_from ns start number b i x) (λ b x. info_to ns start number b x) s

-- the size of the block stands at its offset
pub size_stands : (v : VolumeHead) (series points : ℕ) (bytes : List ℕ) → bytes ≡ info_of v series points → Stands (big_bytes 8 v.size) bytes 10 18
size_stands v series points bytes is =
    let one = number_stands 1 v.format _ bytes 0 (omega arith) is in
    let two = number_stands 1 v.ns _ bytes 1 one.0.within one.1 in
    let three = number_stands 8 v.start _ bytes 2 two.0.within two.1 in
    (number_stands 8 v.size _ bytes 10 three.0.within three.1).0

-- the head with this size is the one that the info has
pub same_head : (ns start number size : ℕ) (v : VolumeHead) (bytes : List ℕ) → IsInfo ns start number v bytes → size ≡ v.size → v ≡ record { format = 1; ns = ns; start = start; size = size; number = number }
same_head ns start number size v bytes x e =
    let names = names_of ns start number v bytes x in
    λ i. record { format = names.format i; ns = names.ns_is i; start = names.start_is i; size = sym e i; number = names.number_is i }

-- an info has one head
pub one_head : (ns start number : ℕ) (v w : VolumeHead) (bytes : List ℕ) → IsInfo ns start number v bytes → IsInfo ns start number w bytes → v ≡ w
one_head ns start number v w bytes x y =
    let a = names_of ns start number v bytes x in
    let b = names_of ns start number w bytes y in
    let small = x.values.size_high in
    let low = y.values.size_high in
    let size = same_number_at (size_stands v x.series x.points bytes x.is) (size_stands w y.series y.points bytes y.is) small low in
    λ i. record { format = (a.format ∙ sym b.format) i; ns = (a.ns_is ∙ sym b.ns_is) i; start = (a.start_is ∙ sym b.start_is) i; size = size i; number = (a.number_is ∙ sym b.number_is) i }
  where
    same_number_at : Stands (big_bytes 8 v.size) bytes 10 18 → Stands (big_bytes 8 w.size) bytes 10 18 → v.size < DURATION_END → w.size < DURATION_END → v.size ≡ w.size
    same_number_at s t small low = Rattle.fileset_read.proofs.wire_bytes_proofs.NumberLemmas.same_number 8 v.size w.size 10 bytes (omega (arith, small)) (omega (arith, low)) s t
