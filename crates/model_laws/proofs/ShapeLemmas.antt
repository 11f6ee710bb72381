-- Which replies have the shape of their request.
use Rattle.std.proofs.Common.{◌≡◌, ◌≢◌, ◌∙◌, Bool, true, List, [], ◌∷◌, length, map, refl, sym, ap, arith}
use Rattle.std.specs.Prelude.{Some, None, ℕ}
use Rattle.std.proofs.lemmas.List.{length-map}
use Rattle.transcripts.specs.Caused.{Caused}
use Rattle.m3_model.specs.declared.act.Act.{Act}
use Rattle.m3_model.specs.declared.answer.Answer.{Answer}
use Rattle.m3_model.specs.declared.answer.Answer.TheVariants as answer
use Rattle.model_laws.specs.Building.{begun, life_of, place}
use Rattle.model_laws.specs.Shapes.{AreAnswered, refused_whole, refused_whole_late, refused_whole_early}
use Rattle.model_laws.proofs.CausedLives.{begun_caused}
use Rattle.model_laws.proofs.PositionLemmas.{caused_over}

-- lists of the same lengths are as many
as_many : {X Y : Type 0} (xs : List (List X)) (ys : List (List Y)) → map length xs ≡ map length ys → length xs ≡ length ys
as_many xs ys e = sym (length-map xs length) ∙ ap length e ∙ length-map ys length

pub other_clients : (clients workers : List (List Act)) (for_clients for_workers : List (List Answer)) → length for_clients ≢ length clients → ¬ AreAnswered clients workers for_clients for_workers
other_clients clients workers for_clients for_workers other shaped = other (as_many for_clients clients shaped.0)

pub other_workers : (clients workers : List (List Act)) (for_clients for_workers : List (List Answer)) → length for_workers ≢ length workers → ¬ AreAnswered clients workers for_clients for_workers
other_workers clients workers for_clients for_workers other shaped = other (as_many for_workers workers shaped.1)

first_of : (m n : ℕ) (ms ns : List ℕ) → m ∷ ms ≡ n ∷ ns → m ≡ n
first_of m n ms ns e = cc

pub other_answers : (acts : List Act) (clients workers : List (List Act)) (answers : List Answer) (for_clients for_workers : List (List Answer)) → length answers ≢ length acts → ¬ AreAnswered (acts ∷ clients) workers (answers ∷ for_clients) for_workers
other_answers acts clients workers answers for_clients for_workers other shaped = other (first_of _ _ _ _ shaped.0)

pub list_too_few : (a b : Act) (c : Answer) → ¬ AreAnswered ((a ∷ []) ∷ (b ∷ []) ∷ []) [] ((c ∷ []) ∷ []) []
list_too_few a b c = other_clients ((a ∷ []) ∷ (b ∷ []) ∷ []) [] ((c ∷ []) ∷ []) [] (λ e. let bad : 1 ≡ 2 = e in omega (arith, bad))

pub answer_too_few : (a b : Act) (c : Answer) → ¬ AreAnswered ((a ∷ b ∷ []) ∷ []) [] ((c ∷ []) ∷ []) []
answer_too_few a b c = other_answers (a ∷ b ∷ []) [] [] (c ∷ []) [] [] (λ e. let bad : 1 ≡ 2 = e in omega (arith, bad))

-- ---- refused as a whole

pub early-caused : Caused true (life_of refused_whole_early) []
early-caused = caused_over true [] (life_of refused_whole_early) (λ p. []) tt (refl, tt) (λ p q of_p of_q a b in_p in_q same. absurd in_p) (tt, tt)

pub memory-caused : Caused true (life_of (refused_whole_late answer.Memory)) []
memory-caused = begun_caused 100 _ refl (tt, tt)

pub late-refused : {tells : Bool} → ¬ Caused tells (life_of (refused_whole_late answer.Order)) []
late-refused caused =
    let bad : Some place ≡ None = caused.whole (begun 100 []) (refused_whole answer.Order) [] refl in
    cc
