-- Notes from seat to seat keep the rule.
use Rattle.std.proofs.Common.{◌≡◌, ℕ, ◌≤◌, Bool, true, false, true≢false, cond, ltb, List, [], ◌∷◌, ◌++◌, length, slice_index, set, refl, ap, sym, ◌∙◌, subst, arith}
use mathlib.Core.Option.{some, none, some-injective}
use mathlib.Core.List.{IsPrefix}
use lib.ListN.{get_elem?}
use Rattle.std.proofs.lemmas.Bool.{ltb-true, ltb-false}
use Rattle.atomic_table.proofs.Lists.{set_else, set_again}
use Rattle.atomic_table.specs.Table.{Me, step, keeps, Allows, Splits, Joins}
use Rattle.event_book.specs.declared.view.Made.{Made}
use Rattle.event_book.specs.declared.view.View.{View}
use Rattle.event_book.specs.Lists.{longer, most_entries}
use Rattle.event_book.specs.Seats.{IsSound}
use Rattle.event_book.specs.Views.{shown, note_of, with_seen}
use Rattle.event_book.specs.Rule.{FitsList, IsApart, HoldsList}
use Rattle.event_book.specs.Steps.{TakesLonger}
use Rattle.event_book.proofs.Prefixes.{prefix_self, prefix_shorter, prefix_length}
use Rattle.event_book.proofs.Naming.{made_between, ended_between, none_before, squeeze}
use Rattle.event_book.proofs.Members.{each_set, pair_set, each_end, pair_end}
use Rattle.event_book.proofs.Looking.{Rule, keeps_seen}

pub unnamed : {P : Type 0} → false ≡ true → P
unnamed e = absurd (true≢false (sym e))

pub opened_not : {P : Type 0} → true ≡ false → P
opened_not e = absurd (true≢false e)

module _ {E : Type 0} (lawful : Bool → List (Made E) → Type 0) where
  -- where one seat is in an open book, each is
  pub none_blank : (words : List ℕ) (views : List (View E)) (k : HoldsList lawful words views) (i : ℕ) (v : View E) → get_elem? views i ≡ some v → v.opened ≡ true
      → (j : ℕ) (u : View E) → get_elem? views j ≡ some u → u.opened ≡ false → ⊥
  none_blank words views k i v at opened j u at' closed =
      let same : j ≡ i = (k.apart j i u v at' at).blank closed in
      let one : u ≡ v = some-injective u v (sym at' ∙ (ap (λ (x : ℕ). get_elem? views x) same ∙ at)) in
      true≢false (sym opened ∙ (ap (λ (x : View E). x.opened) (sym one) ∙ closed))

  -- a note says nothing but what it has seen
  pub fits_note : (log : List (Made E)) (tells : Bool) (seen : List (Made E)) → IsPrefix seen log → FitsList log tells (note_of seen)
  fits_note log tells seen p = record { seen = p; told = (log, refl); made = unnamed; ended = tt; fresh = unnamed; as_named = unnamed; blank = opened_not; sole = unnamed }

  -- a note beside the other seats
  pub note_left : (i j : ℕ) (seen : List (Made E)) (w : View E) → IsApart i j (note_of seen) w
  note_left i j seen w = record { same = unnamed; free = unnamed; gone = λ n. tt; blank = opened_not; alone = unnamed }

  pub note_right : (i j : ℕ) (seen : List (Made E)) (v : View E) → (v.opened ≡ false → i ≡ j) → IsApart i j v (note_of seen)
  note_right i j seen v b = record { same = λ n. unnamed; free = λ n. unnamed; gone = unnamed; blank = b; alone = λ n name splits. unnamed }

  -- a note of what was seen is split off
  pub gives_note : (i : ℕ) (v : View E) → v.opened ≡ true → Splits (Rule lawful) i v v (note_of v.seen)
  gives_note i v opened s k at =
      let views : List (View E) = set s.views i v in
      let same : views ≡ s.views = set_again s.views i v at in
      subst (λ (l : List (View E)). HoldsList lawful s.words (l ++ note_of v.seen ∷ [])) (sym same) record {
        log = k.log;
        tells = k.tells;
        word = k.word;
        room = k.room;
        legal = k.legal;
        fits = each_end (λ j u. FitsList k.log k.tells u) s.views (note_of v.seen) (fits_note k.log k.tells v.seen (k.fits i v at).seen) k.fits;
        apart = pair_end IsApart s.views (note_of v.seen)
            (note_left _ _ v.seen _)
            (λ j u at'. note_left _ _ v.seen u)
            (λ j u at'. note_right j (length s.views) v.seen u (λ closed. absurd (none_blank s.words s.views k i v at opened j u at' closed)))
            k.apart;
      }

  -- a token is spent
  unfoldable pub keeps_spent : (words : List ℕ) (views : List (View E)) (k : HoldsList lawful words views) (j : ℕ) (w : View E) → get_elem? views j ≡ some w → HoldsList lawful words (set views j (note_of []))
  keeps_spent words views k j w at = record {
    log = k.log;
    tells = k.tells;
    word = k.word;
    room = k.room;
    legal = k.legal;
    fits = each_set (λ i u. FitsList k.log k.tells u) views j (note_of []) (fits_note k.log k.tells [] (k.log, refl)) (λ i u n. k.fits i u);
    apart = pair_set IsApart views j (note_of [])
        (note_left _ _ [] _)
        (λ i u n at'. note_left _ _ [] u)
        (λ i u n at'. note_right i j [] u (k.apart i j u w at' at).blank)
        k.apart;
  }

  -- a note is read
  pub takes_note : (i : ℕ) (v : View E) (j : ℕ) (w : View E) → Joins (Rule lawful) i v j w (with_seen v v.seen w.seen) (note_of [])
  takes_note i v j w s k at n at' =
      let there : get_elem? s.views j ≡ some w = sym (set_else s.views i j (with_seen v v.seen w.seen) n) ∙ at' in
      let first = keeps_seen lawful s.words s.views k i v v.seen w.seen at (k.fits i v at).seen (k.fits j w there).seen in
      keeps_spent s.words (set s.views i (with_seen v v.seen w.seen)) first j w at'

  -- of two beginnings of the list the longer is one that both begin
  longer_begins : (xs ys log : List (Made E)) → IsPrefix xs log → IsPrefix ys log → IsPrefix xs (longer xs ys) × IsPrefix ys (longer xs ys) × IsPrefix (longer xs ys) log
  longer_begins xs ys log p q = by (ltb (length xs) (length ys)) refl
    where
      by : (t : Bool) → ltb (length xs) (length ys) ≡ t → IsPrefix xs (cond t ys xs) × IsPrefix ys (cond t ys xs) × IsPrefix (cond t ys xs) log
      by true e = (prefix_shorter xs ys log p q (let h = ltb-true _ _ e in omega arith), prefix_self ys, q)
      by false e = (prefix_self xs, prefix_shorter ys xs log q p (ltb-false _ _ e), p)

  longer_lawful : (tells : Bool) (xs ys : List (Made E)) → lawful tells xs → lawful tells ys → lawful tells (longer xs ys)
  longer_lawful tells xs ys a b = by (ltb (length xs) (length ys))
    where
      by : (t : Bool) → lawful tells (cond t ys xs)
      by true = b
      by false = a

  -- a sound seat that has seen the longer of two lists is sound
  longer_sound : (log : List (Made E)) (tells : Bool) (v : View E) → length log ≤ most_entries → FitsList log tells v → v.named ≡ true
      → (says : Bool) → lawful says v.told → IsSound lawful says (shown v) → IsSound lawful says (shown (with_seen v (longer v.seen v.told) []))
  longer_sound log tells v room f named says legal s =
      let top : List (Made E) = longer v.seen v.told in
      let both = longer_begins v.seen v.told log f.seen f.told in
      let within : length top ≤ length log = prefix_length top log both.2 in
      record {
        legal = longer_lawful says v.seen v.told s.legal legal;
        room = omega (arith, within, room);
        made = made_between v.name v.seen top log v.made both.0 both.2 s.made (f.made named);
        ended = ended_between v.ended v.seen top log both.0 both.2 s.ended f.ended;
        fresh = λ m o. none_before m top log both.2 (f.fresh named m o);
        sole = λ name splits. squeeze v.name v.seen top log v.made both.0 both.2 s.made (f.sole named name splits);
      }

  -- a seat takes over the longer of what it has seen and what it was told of
  pub takes_longer : (slots i : ℕ) (me : Me E (View E)) → me.1 ≡ [] → me.0.named ≡ true → Allows (Rule lawful) slots i me 0 (λ n. n) (TakesLonger lawful (step slots 0 0 0 none) me)
  takes_longer slots i me none_held named s k homes at bound =
      let v : View E = me.0 in
      let f = k.fits i v at in
      let same : set s.words 0 (slice_index s.words 0) ≡ s.words = ap (λ (l : List ℕ). set l 0 (slice_index l 0)) k.word ∙ sym k.word in
      let top : List (Made E) = longer v.seen v.told in
      let both = longer_begins v.seen v.told k.log f.seen f.told in (
        with_seen v top [],
        keeps,
        tt,
        subst (λ (l : List ℕ). HoldsList lawful l (set s.views i (with_seen v top []))) (sym same) (keeps_seen lawful s.words s.views k i v top [] at both.2 (k.log, refl)),
        (refl, record { view = refl; mine = both.0; others = both.1; sound = longer_sound k.log k.tells v k.room f named }),
      )
