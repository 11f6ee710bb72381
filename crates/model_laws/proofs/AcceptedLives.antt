-- Why the accepted transcripts are kept.
use Rattle.std.proofs.Common.{[], ◌∷◌, refl, inl, inr, arith}
use Rattle.std.specs.Prelude.{pos}
use Rattle.std.proofs.lemmas.Int.{ints}
use Rattle.transcripts.specs.Kept.{Kept}
use Rattle.model_laws.specs.Building.{life_of}
use Rattle.model_laws.specs.Accepted.{write_then_read, three_values, two_ranges, until_expiry, after_cut, write_beside, edge_writes, unmet_then_read}
use Rattle.model_laws.specs.Refused.{own_write, own_later_write}
use Rattle.model_laws.proofs.EachLemmas.{◌also◌}
use Rattle.model_laws.proofs.PositionLemmas.{kept_by_positions, no_read, only}
use Rattle.model_laws.proofs.ReadLemmas.{kept_each, ordered_point, ordered_pair, ordered_none, covered_by}
use Rattle.model_laws.proofs.SampleLemmas.{sought, sought-live}

pub write_then_read-kept : Kept (life_of write_then_read)
write_then_read-kept =
    kept_by_positions (life_of write_then_read) (
    only (no_read _ _ _ refl)
    also only (no_read _ _ _ refl)
    also only (no_read _ _ _ refl)
    also only (no_read _ _ _ refl)
    also only (kept_each _ _ _ _ _ refl refl
    ((λ s. covered_by _ _ (pos 5) (omega (arith, ints)) (inl refl)) also tt)
    ((inl refl, sought 100 0 200 100 (pos 5) (omega arith) (omega arith) (omega arith)) also tt)
    (ordered_point _ _ _))
    also tt)

pub three_values-kept : Kept (life_of three_values)
three_values-kept =
    kept_by_positions (life_of three_values) (
    only (no_read _ _ _ refl)
    also only (no_read _ _ _ refl)
    also only (no_read _ _ _ refl)
    also only (no_read _ _ _ refl)
    also only (no_read _ _ _ refl)
    also only (no_read _ _ _ refl)
    also only (kept_each _ _ _ _ _ refl refl
    ((λ s. covered_by _ _ (pos 9) (omega (arith, ints)) (inl refl))
    also (λ s. covered_by _ _ (pos 9) (omega (arith, ints)) (inl refl))
    also (λ s. covered_by _ _ (pos 9) (omega (arith, ints)) (inl refl))
    also tt)
    ((inr (inl refl), sought 100 0 200 100 (pos 9) (omega arith) (omega arith) (omega arith)) also tt)
    (ordered_point _ _ _))
    also tt)

pub two_ranges-kept : Kept (life_of two_ranges)
two_ranges-kept =
    kept_by_positions (life_of two_ranges) (
    only (no_read _ _ _ refl)
    also only (no_read _ _ _ refl)
    also only (no_read _ _ _ refl)
    also only (no_read _ _ _ refl)
    also only (no_read _ _ _ refl)
    also only (kept_each _ _ _ _ _ refl refl
    ((λ s. covered_by _ _ (pos 1) (omega (arith, ints)) (inl refl))
    also (λ s. absurd (omega (arith, s.in_range.1)))
    also tt)
    ((inl refl, sought 100 100 120 100 (pos 1) (omega arith) (omega arith) (omega arith)) also tt)
    (ordered_point _ _ _))
    also only (kept_each _ _ _ _ _ refl refl
    ((λ s. absurd (omega (arith, s.in_range.0)))
    also (λ s. absurd (omega (arith, s.in_range.1)))
    also tt)
    tt
    ordered_none)
    also tt)

pub until_expiry-kept : Kept (life_of until_expiry)
until_expiry-kept =
    kept_by_positions (life_of until_expiry) (
    only (no_read _ _ _ refl)
    also only (no_read _ _ _ refl)
    also only (no_read _ _ _ refl)
    also only (no_read _ _ _ refl)
    also only (no_read _ _ _ refl)
    also only (kept_each _ _ _ _ _ refl refl
    ((λ s. covered_by _ _ (pos 7) (omega (arith, ints)) (inl refl)) also tt)
    ((inl refl, sought 1499 0 2000 1000 (pos 7) (omega arith) (omega arith) (omega arith)) also tt)
    (ordered_point _ _ _))
    also only (no_read _ _ _ refl)
    also only (kept_each _ _ _ _ _ refl refl
    ((λ s. absurd (omega (arith, sought-live 1500 0 2000 1000 (pos 7) s))) also tt)
    tt
    ordered_none)
    also tt)

pub after_cut-found : Kept (after_cut ((100, pos 5) ∷ []))
after_cut-found =
    kept_by_positions (after_cut ((100, pos 5) ∷ [])) (
    only (kept_each _ _ _ _ _ refl refl
    tt
    ((inl refl, sought 100 0 200 100 (pos 5) (omega arith) (omega arith) (omega arith)) also tt)
    (ordered_point _ _ _))
    also tt)

pub after_cut-not_found : Kept (after_cut [])
after_cut-not_found = kept_by_positions (after_cut []) (only (kept_each _ _ _ _ _ refl refl tt tt ordered_none) also tt)

-- the line has one list for each client, and each list has one act
pub write_beside-found : Kept (life_of (write_beside ((100, pos 5) ∷ [])))
write_beside-found =
    kept_by_positions (life_of (write_beside ((100, pos 5) ∷ []))) (
    only (no_read _ _ _ refl)
    also only (no_read _ _ _ refl)
    also only (no_read _ _ _ refl)
    also (
    (no_read _ _ _ refl also tt)
    also (kept_each _ _ _ _ _ refl refl
    tt
    ((inl refl, sought 100 0 200 100 (pos 5) (omega arith) (omega arith) (omega arith)) also tt)
    (ordered_point _ _ _)
    also tt)
    also tt)
    also tt)

pub write_beside-not_found : Kept (life_of (write_beside []))
write_beside-not_found =
    kept_by_positions (life_of (write_beside [])) (
    only (no_read _ _ _ refl)
    also only (no_read _ _ _ refl)
    also only (no_read _ _ _ refl)
    also (
    (no_read _ _ _ refl also tt)
    also (kept_each _ _ _ _ _ refl refl tt tt ordered_none also tt)
    also tt)
    also tt)

pub edge_writes-kept : Kept (life_of edge_writes)
edge_writes-kept =
    kept_by_positions (life_of edge_writes) (
    only (no_read _ _ _ refl)
    also only (no_read _ _ _ refl)
    also only (no_read _ _ _ refl)
    also only (no_read _ _ _ refl)
    also only (no_read _ _ _ refl)
    also only (no_read _ _ _ refl)
    also only (no_read _ _ _ refl)
    also only (kept_each _ _ _ _ _ refl refl
    ((λ s. covered_by _ _ (pos 2) (omega (arith, ints)) (inl refl))
    also (λ s. covered_by _ _ (pos 3) (omega (arith, ints)) (inr (inl refl)))
    also tt)
    ((inr (inl refl), sought 250 0 400 151 (pos 2) (omega arith) (omega arith) (omega arith))
    also (inr (inr (inl refl)), sought 250 0 400 299 (pos 3) (omega arith) (omega arith) (omega arith))
    also tt)
    (ordered_pair _ _ _ _ _ (omega arith)))
    also tt)

pub unmet_then_read-found : Kept (life_of (unmet_then_read ((100, pos 5) ∷ [])))
unmet_then_read-found =
    kept_by_positions (life_of (unmet_then_read ((100, pos 5) ∷ []))) (
    only (no_read _ _ _ refl)
    also only (no_read _ _ _ refl)
    also only (no_read _ _ _ refl)
    also only (no_read _ _ _ refl)
    also only (kept_each _ _ _ _ _ refl refl
    tt
    ((inl refl, sought 100 0 200 100 (pos 5) (omega arith) (omega arith) (omega arith)) also tt)
    (ordered_point _ _ _))
    also tt)

pub unmet_then_read-not_found : Kept (life_of (unmet_then_read []))
unmet_then_read-not_found =
    kept_by_positions (life_of (unmet_then_read [])) (
    only (no_read _ _ _ refl)
    also only (no_read _ _ _ refl)
    also only (no_read _ _ _ refl)
    also only (no_read _ _ _ refl)
    also only (kept_each _ _ _ _ _ refl refl tt tt ordered_none)
    also tt)

-- a client's own writes, before and after its fetch
pub own_write-found : Kept (life_of (own_write ((100, pos 5) ∷ [])))
own_write-found =
    kept_by_positions (life_of (own_write ((100, pos 5) ∷ []))) (
    only (no_read _ _ _ refl)
    also only (no_read _ _ _ refl)
    also only (no_read _ _ _ refl)
    also (
    (no_read _ _ _ refl
    also kept_each _ _ _ _ _ refl refl
    ((λ s. covered_by _ _ (pos 5) (omega (arith, ints)) (inl refl)) also tt)
    ((inl refl, sought 100 0 200 100 (pos 5) (omega arith) (omega arith) (omega arith)) also tt)
    (ordered_point _ _ _)
    also tt)
    also tt)
    also tt)

pub own_later_write-nothing : Kept (life_of (own_later_write []))
own_later_write-nothing =
    kept_by_positions (life_of (own_later_write [])) (
    only (no_read _ _ _ refl)
    also only (no_read _ _ _ refl)
    also only (no_read _ _ _ refl)
    also (
    (kept_each _ _ _ _ _ refl refl tt tt ordered_none
    also no_read _ _ _ refl
    also tt)
    also tt)
    also tt)
