-- A seat that has seen another beginning of the list keeps the rule.
use Rattle.std.proofs.Common.{◌≡◌, ℕ, ◌≤◌, Bool, true, List, [], ◌∷◌, ◌++◌, length, slice_index, set, refl, ap, sym, ◌∙◌, subst}
use mathlib.Core.Option.{some, none}
use mathlib.Core.List.{IsPrefix}
use lib.ListN.{get_elem?}
use Rattle.atomic_table.specs.Table.{State, Me, step, keeps, Allows}
use Rattle.event_book.specs.Names.{Name}
use Rattle.event_book.specs.declared.view.Made.{Made}
use Rattle.event_book.specs.declared.view.Ended.{Ended}
use Rattle.event_book.specs.declared.view.View.{View}
use Rattle.event_book.specs.Lists.{made_by, HasEnded, most_entries}
use Rattle.event_book.specs.Seats.{IsSound}
use Rattle.event_book.specs.Views.{shown, with_seen}
use Rattle.event_book.specs.Rule.{NoneNamed, FitsList, IsApart, HoldsList}
use Rattle.event_book.specs.Steps.{SeesList}
use Rattle.event_book.proofs.Prefixes.{prefix_self}
use Rattle.event_book.proofs.Members.{each_set, pair_set}

module _ {E : Type 0} (lawful : Bool → List (Made E) → Type 0) where
  -- the rule of a book
  abbrev pub Rule : State E (View E) → Type 0
  Rule s = HoldsList lawful s.words s.views

  -- a seat that has seen another beginning of the list
  pub fits_seen : (log : List (Made E)) (tells : Bool) (v : View E) (s t : List (Made E)) → FitsList log tells v → IsPrefix s log → IsPrefix t log → FitsList log tells (with_seen v s t)
  fits_seen log tells v s t f p q = record { seen = p; told = q; made = f.made; ended = f.ended; fresh = f.fresh; as_named = f.as_named; blank = f.blank; sole = f.sole }

  -- the ended seats have another name than a seat with this name, split as often
  pub none_named_like : (xs : List (Ended E)) (v w : View E) → v.name ≡ w.name → v.splits ≡ w.splits → NoneNamed xs v → NoneNamed xs w
  none_named_like [] v w n k a = tt
  none_named_like (x ∷ xs) v w n k a = (
    (λ e. a.0 (e ∙ sym n)),
    (λ o. a.1 (o.0, o.1, subst (λ (z : ℕ). z ≤ o.0) (sym k) o.2, o.3 ∙ ap (λ (z : Name). z ++ o.0 ∷ o.1) (sym n))),
    none_named_like xs v w n k a.2,
  )

  -- of two seats one may have seen another beginning
  pub apart_left : (i j : ℕ) (v w : View E) (s t : List (Made E)) → IsApart i j v w → IsApart i j (with_seen v s t) w
  apart_left i j v w s t a = record { same = a.same; free = a.free; gone = a.gone; blank = a.blank; alone = a.alone }

  pub apart_right : (i j : ℕ) (v w : View E) (s t : List (Made E)) → IsApart i j v w → IsApart i j v (with_seen w s t)
  apart_right i j v w s t a = record { same = a.same; free = a.free; gone = λ n. none_named_like v.ended w (with_seen w s t) refl refl (a.gone n); blank = a.blank; alone = a.alone }

  pub keeps_seen : (words : List ℕ) (views : List (View E)) (k : HoldsList lawful words views) (i : ℕ) (v : View E) (s t : List (Made E)) → get_elem? views i ≡ some v
      → IsPrefix s k.log → IsPrefix t k.log → HoldsList lawful words (set views i (with_seen v s t))
  keeps_seen words views k i v s t at p q = let w : View E = with_seen v s t in record {
    log = k.log;
    tells = k.tells;
    word = k.word;
    room = k.room;
    legal = k.legal;
    fits = each_set (λ j u. FitsList k.log k.tells u) views i w (fits_seen k.log k.tells v s t (k.fits i v at) p q) (λ j u n. k.fits j u);
    apart = pair_set IsApart views i w
        (apart_left i i v w s t (apart_right i i v v s t (k.apart i i v v at at)))
        (λ j u n at'. apart_left i j v u s t (k.apart i j v u at at'))
        (λ j u n at'. apart_right j i u v s t (k.apart j i u v at' at))
        k.apart;
  }

  -- a seat that has seen the whole list is sound
  pub fits_sound : (log : List (Made E)) (tells : Bool) (v : View E) → v.named ≡ true → v.opened ≡ true → v.seen ≡ log → length log ≤ most_entries → lawful tells log
      → FitsList log tells v → IsSound lawful v.tells (shown v)
  fits_sound log tells v named opened same room legal f = record {
    legal = subst (λ (l : List (Made E)). lawful v.tells l) (sym same) (subst (λ (b : Bool). lawful b log) (sym (f.as_named named opened)) legal);
    room = subst (λ (l : List (Made E)). length l ≤ most_entries) (sym same) room;
    made = ap (λ (l : List (Made E)). made_by v.name l) same ∙ f.made named;
    ended = subst (λ (l : List (Made E)). HasEnded v.ended l) (sym same) f.ended;
    fresh = λ m o. ap (λ (l : List (Made E)). made_by m l) same ∙ f.fresh named m o;
    sole = λ name splits. ap (λ (l : List (Made E)). length l) same ∙ f.sole named name splits;
  }

  -- a look at the whole list
  pub sees : (slots i : ℕ) (v : View E) → v.named ≡ true → v.opened ≡ true
      → Allows Rule slots i (v, []) 0 (λ n. n) (SeesList lawful (step slots 0 0 0 none) (v, []))
  sees slots i v named opened s k homes at bound =
      let f = k.fits i v at in
      let count : slice_index s.words 0 ≡ length k.log = ap (λ (l : List ℕ). slice_index l 0) k.word in
      let same : set s.words 0 (slice_index s.words 0) ≡ s.words = ap (λ (l : List ℕ). set l 0 (slice_index l 0)) k.word ∙ sym k.word in
      let w : View E = with_seen v k.log [] in (
        w,
        keeps,
        tt,
        subst (λ (l : List ℕ). HoldsList lawful l (set s.views i w)) (sym same) (keeps_seen s.words s.views k i v k.log [] at (prefix_self k.log) (k.log, refl)),
        record {
          view = refl;
          count = count;
          longer = f.seen;
          sound = fits_sound k.log k.tells w named opened refl k.room k.legal (fits_seen k.log k.tells v k.log [] f (prefix_self k.log) (k.log, refl));
        },
      )

  pub sees_me : (slots i : ℕ) (me : Me E (View E)) → me.1 ≡ [] → me.0.named ≡ true → me.0.opened ≡ true
      → Allows Rule slots i me 0 (λ n. n) (SeesList lawful (step slots 0 0 0 none) me)
  sees_me slots i me none_held named opened = subst (λ (c : List (ℕ × E)). Allows Rule slots i (me.0, c) 0 (λ n. n) (SeesList lawful (step slots 0 0 0 none) (me.0, c))) (sym none_held) (sees slots i me.0 named opened)
