-- The data of a snapshot, field by field.
use Rattle.std.proofs.Common.{◌≡◌, ℕ, ◌+◌, List, ◌++◌, length, drop, refl, sym, ap, ◌∙◌, arith, append-nil}
use Rattle.std.proofs.Math.ListN.{drop_of_length-le}
use Rattle.byteorder.specs.Endian.{big_bytes}
use Rattle.fileset_check.specs.m3_model.declared.point.Point.{Point}
use Rattle.fileset_check.specs.wire_bytes.Fields.{Stands}
use Rattle.fileset_check.specs.wire_bytes.Entries.{points_bytes, PointsStand}
use Rattle.fileset_check.specs.wire_bytes.Snapshots.{Snapshot, snapshot_bytes}
use Rattle.fileset_check.proofs.wire_bytes_proofs.FieldLemmas.{stands_both}
use Rattle.fileset_check.proofs.wire_bytes_proofs.VolumeLemmas.{points_front}
use Rattle.fileset_check.specs.shard_files.Damage.{IsBody}
use Rattle.fileset_check.specs.shard_files.Entries.{HavePoints}
use Rattle.fileset_check.proofs.shard_files_proofs.LocationLemmas.{stands_apart, whole_stands}
use Rattle.snapshot_files.specs.Snaps.{head_bytes}

-- where the fields of a snapshot stand
pub record AreFields (s : Snapshot) (bytes : List ℕ) : Type 0 where
  pub format : Stands (big_bytes 1 1) bytes 0 1
  pub number : Stands (big_bytes 8 s.number) bytes 1 9
  pub tenure : Stands (big_bytes 8 s.tenure) bytes 9 17
  pub fence : Stands (big_bytes 8 s.fence) bytes 17 25
  pub first : Stands (big_bytes 8 s.first_segment) bytes 25 33
  pub count : Stands (big_bytes 4 (length s.points)) bytes 33 37
  pub points : Stands (points_bytes s.points) bytes 37 (length bytes)

all_stands : (w bytes : List ℕ) → bytes ≡ w → Stands w bytes 0 (length bytes)
all_stands w bytes e = record {
  split = e ∙ sym (append-nil w) ∙ ap (λ (l : List ℕ). w ++ l) (sym (drop_of_length-le bytes (omega arith)));
  ends = (let long : length bytes ≡ length w = ap length e in omega (arith, long));
  within = omega arith;
}

pub fields_of : (s : Snapshot) (bytes : List ℕ) → bytes ≡ snapshot_bytes s → AreFields s bytes
fields_of s bytes e =
    let n = length bytes in
    let a = stands_apart (big_bytes 1 1) _ bytes 0 n (all_stands (snapshot_bytes s) bytes e) in
    let b = stands_apart (big_bytes 8 s.number) _ bytes 1 n a.1 in
    let c = stands_apart (big_bytes 8 s.tenure) _ bytes 9 n b.1 in
    let d = stands_apart (big_bytes 8 s.fence) _ bytes 17 n c.1 in
    let f = stands_apart (big_bytes 8 s.first_segment) _ bytes 25 n d.1 in
    let g = stands_apart (big_bytes 4 (length s.points)) (points_bytes s.points) bytes 33 n f.1 in
    record { format = a.0; number = b.0; tenure = c.0; fence = d.0; first = f.0; count = g.0; points = g.1 }

-- fields that were read one after another
pub head_stands : (number tenure fence first count : ℕ) (bytes : List ℕ) → Stands (big_bytes 1 1) bytes 0 1 → Stands (big_bytes 8 number) bytes 1 9 → Stands (big_bytes 8 tenure) bytes 9 17 → Stands (big_bytes 8 fence) bytes 17 25
    → Stands (big_bytes 8 first) bytes 25 33 → Stands (big_bytes 4 count) bytes 33 37 → Stands (head_bytes number tenure fence first count) bytes 0 37
head_stands number tenure fence first count bytes a b c d f g =
    stands_both (big_bytes 1 1) _ bytes 0 1 37 a
    (stands_both (big_bytes 8 number) _ bytes 1 9 37 b (stands_both (big_bytes 8 tenure) _ bytes 9 17 37 c (stands_both (big_bytes 8 fence) _ bytes 17 25 37 d (stands_both (big_bytes 8 first) (big_bytes 4 count) bytes 25 33 37 f g))))

module _ (number : ℕ) (bytes : List ℕ) (b : IsBody number bytes) where
  fields : AreFields b.snapshot bytes
  fields = fields_of b.snapshot bytes b.is

  pub have_points : HavePoints (length b.snapshot.points) bytes 37
  have_points = record { ps = b.snapshot.points; next = length bytes; counted = refl; stand = record { bounded = b.values.bounded; stands = fields.points } }

  -- as many points that were read are its points
  pub points_same : (ps : List Point) (next : ℕ) → length ps ≡ length b.snapshot.points → PointsStand ps bytes 37 next → (ps ≡ b.snapshot.points) × (next ≡ length bytes)
  points_same ps next counted st =
      let both = points_front ps b.snapshot.points (drop next bytes) (drop (length bytes) bytes) st.bounded b.values.bounded counted (sym st.stands.split ∙ fields.points.split) in
      (both.0, st.stands.ends ∙ ap (λ (l : List Point). 37 + length (points_bytes l)) both.0 ∙ sym fields.points.ends)

-- a head and points behind it that are all of the bytes
pub read_whole : (number tenure fence first count : ℕ) (ps : List Point) (bytes : List ℕ) (next : ℕ) → Stands (head_bytes number tenure fence first count) bytes 0 37 → length ps ≡ count → PointsStand ps bytes 37 next → next ≡ length bytes
    → bytes ≡ snapshot_bytes (record { number = number; tenure = tenure; fence = fence; first_segment = first; points = ps })
read_whole number tenure fence first count ps bytes next head counted st all =
    whole_stands (head_bytes number tenure fence first count ++ points_bytes ps) bytes next (stands_both (head_bytes number tenure fence first count) (points_bytes ps) bytes 0 37 next head st.stands) all
    ∙ ap (λ (n : ℕ). head_bytes number tenure fence first n ++ points_bytes ps) (sym counted)
