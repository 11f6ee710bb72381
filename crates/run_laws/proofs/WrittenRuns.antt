-- What a run wrote that ended so.
use Rattle.std.proofs.Common.{◌≡◌, ◌≤◌, ℕ, suc, List, [], ◌∷◌, ◌++◌, length, drop, refl, sym, ap, subst, ◌∙◌, inl, inr, arith, Some, None}
use Rattle.std.specs.Prelude.{Option, codes}
use Rattle.m3_model.specs.Members.{IsIn}
use Rattle.m3_model.specs.declared.turn.Request.{Request}
use Rattle.m3_program.specs.Exchanges.{Exchange, replies_text}
use Rattle.m3_program.specs.Runs.{AreWholeLines, GotTo}
use Rattle.m3_program.specs.declared.status.Status.TheVariants as status
use Rattle.run_laws.specs.Samples.{ask, both_lines, gets, one, two}
use Rattle.run_laws.proofs.ClashLemmas.{false_not, longer}

-- ---- at the end

pub left_out-refused : ¬ GotTo status.Done both_lines [] (codes "r") two None []
left_out-refused h = longer (codes "r") (replies_text two) 1 2 refl refl (λ e. omega (arith, e)) h.1

pub twice-refused : ¬ GotTo status.Done both_lines [] (codes "rss") two None []
twice-refused h = longer (codes "rss") (replies_text two) 3 2 refl refl (λ e. omega (arith, e)) h.1

pub lines-refused : ¬ GotTo status.Done both_lines [] (codes "rs") two None (codes "z" ∷ [])
lines-refused h = longer (codes "z" ∷ []) [] 1 0 refl refl (λ e. omega (arith, e)) h.0

pub bytes-refused : ¬ GotTo status.Done both_lines (codes "z") (codes "rs") two None []
bytes-refused h = longer (codes "z") [] 1 0 refl refl (λ e. omega (arith, e)) h.2

-- ---- cut in a line

-- the second line is whole, and not among them
second_left : ¬ AreWholeLines both_lines one
second_left h =
    let rest : 121 ∷ 10 ∷ [] ≡ h.open_line = ap (drop 2) h.are in
    h.no_end (subst (λ l. IsIn l 10) rest (inr (inl refl)))

pub fault-refused : ¬ GotTo status.ReadFault both_lines [] (codes "r") one None []
fault-refused h = second_left h.0

pub limit-refused : ¬ GotTo status.TooLong both_lines [] (codes "r") one None []
limit-refused h = second_left h.0

some_none : Some ask ≡ None → ⊥
some_none e = cc

pub fault_taken-refused : (taken left written : List ℕ) (xs : List Exchange) (later : List (List ℕ)) → ¬ GotTo status.ReadFault taken left written xs (Some ask) later
fault_taken-refused taken left written xs later h = some_none h.2

pub limit_taken-refused : (taken left written : List ℕ) (xs : List Exchange) (later : List (List ℕ)) → ¬ GotTo status.TooLong taken left written xs (Some ask) later
limit_taken-refused taken left written xs later h = some_none h.3

pub unlimited-refused : ¬ GotTo status.TooLong both_lines [] (codes "rs") two None []
unlimited-refused h = let all = h.2 in omega (arith, all)

-- ---- the meta disk

pub disk_left_out-refused : ¬ GotTo status.DiskFault both_lines [] (codes "r") two (Some ask) []
disk_left_out-refused h = longer (codes "r") (replies_text two) 1 2 refl refl (λ e. omega (arith, e)) h.0

pub disk_none-refused : (taken left written : List ℕ) (xs : List Exchange) (later : List (List ℕ)) → ¬ GotTo status.DiskFault taken left written xs None later
disk_none-refused taken left written xs later h = false_not h.1

-- ---- memory

-- the reply to the first of some lines is a front of the replies
nothing_written : (x y : Exchange) (before : List Exchange) (part : List ℕ) → y ≡ x → x.text ≡ codes "r" → [] ≡ replies_text (y ∷ before) ++ part → ⊥
nothing_written x y before part same text are =
    let first : y.text ≡ codes "r" = ap (λ (z : Exchange). z.text) same ∙ text in
    let some : 0 ≡ suc (length (replies_text before ++ part)) = ap length (are ∙ ap (λ l. (l ++ replies_text before) ++ part) first) in
    omega (arith, some)

pub cut-refused : ¬ GotTo status.Memory both_lines [] [] two None []
cut-refused h = by h.before h.last h.parts h.few h.part h.are
  where
    by : (before last : List Exchange) → two ≡ before ++ last → length last ≤ 1 → (part : List ℕ) → [] ≡ replies_text before ++ part → ⊥
    by [] last parts few part are = let both : 2 ≡ length last = ap length parts in omega (arith, both, few)
    by (y ∷ before) last parts few part are =
        let same : gets (codes "x") (codes "r") ≡ y = cc in
        nothing_written (gets (codes "x") (codes "r")) y before part (sym same) refl are

-- ---- the sink

module _ (more left : List ℕ) (xs : List Exchange) (long : 65536 ≤ length more) where
  abbrev first : Exchange
  first = gets (codes "x") (codes "r")

  abbrev taken : List ℕ
  taken = 120 ∷ 10 ∷ more

  -- the first line ended before the last piece, so that it is among the earlier ones
  ended_before : (earlier piece : List ℕ) (before last : List Exchange) → taken ≡ earlier ++ piece → length piece ≤ 65536 → first ∷ xs ≡ before ++ last → AreWholeLines earlier before → (part : List ℕ) → [] ≡ replies_text before ++ part → ⊥
  ended_before [] piece before last is short parts ended part are = let size : suc (suc (length more)) ≡ length piece = ap length is in omega (arith, size, short, long)
  ended_before (a ∷ []) piece before last is short parts ended part are = let size : suc (suc (length more)) ≡ suc (length piece) = ap length is in omega (arith, size, short, long)
  ended_before (a ∷ b ∷ earlier) piece [] last is short parts ended part are =
      let newline : 10 ≡ b = cc in
      let open_ : a ∷ b ∷ earlier ≡ ended.open_line = ended.are in
      ended.no_end (subst (λ l. IsIn l 10) open_ (inr (inl (sym newline))))
  ended_before (a ∷ b ∷ earlier) piece (y ∷ before) last is short parts ended part are =
      let same : first ≡ y = cc in
      nothing_written first y before part (sym same) refl are

  pub held-refused : (asked : Option Request) (later : List (List ℕ)) → ¬ GotTo status.WriteFault taken left [] (first ∷ xs) asked later
  held-refused asked later h = ended_before h.earlier h.piece h.before h.last h.of_taken h.short h.parts h.ended h.part h.are
