-- The order of series: by namespace, then by identifier.
use Rattle.std.specs.Prelude.{List, ℕ, Bool, refl, ◌==◌}
use Rattle.std.specs.Coded.{Coded, code_by, coded×, coded_ℕ, coded_list}
use Rattle.std.specs.Cmp.{IsTotalOrder}
use Rattle.std.specs.Cmp.Lexicographic.{slice_cmp, pointwise}
use Rattle.std.specs.Ordering.{nat_cmp, on, then_cmp, eq_of_both}
use Rattle.std.specs.declared.cmp.Ordering.{Ordering}
use Rattle.std.proofs.lemmas.Cmp.{then_total, on_total, nat_cmp_total, nat_list_cmp_total}
use Rattle.m3_model.specs.declared.point.Key.{Key}
use Rattle.series_slots.specs.declared.series_key.SeriesKey.{SeriesKey}

abbrev pub series_cmp : SeriesKey → SeriesKey → Ordering
series_cmp = then_cmp (on (λ k. k.ns) nat_cmp) (on (λ k. k.id) (slice_cmp nat_cmp))

pub series_cmp_total : IsTotalOrder series_cmp
series_cmp_total = then_total (on_total (λ k. k.ns) nat_cmp_total) (on_total (λ k. k.id) nat_list_cmp_total)

-- whether two series are the same
abbrev pub series_eq : SeriesKey → SeriesKey → Bool
series_eq = eq_of_both (on (λ k. k.ns) ◌==◌) (on (λ k. k.id) (pointwise ◌==◌))

abbrev pub series_code : Coded SeriesKey
series_code = code_by (ℕ × List ℕ) (coded× coded_ℕ (coded_list coded_ℕ)) (λ k. (k.ns, k.id)) (λ p. record { ns = p.0; id = p.1 }) (λ _. refl)

-- the series of a key
abbrev pub series_of : Key → SeriesKey
series_of k = record { ns = k.ns; id = k.id }

-- the key of a series at a time
abbrev pub key_at : SeriesKey → ℕ → Key
key_at s t = record { ns = s.ns; id = s.id; t = t }
