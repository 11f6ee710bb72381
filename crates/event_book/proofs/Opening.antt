-- A book that was made, and one that is opened, keep the rule.
use Rattle.std.proofs.Common.{◌≡◌, ℕ, ◌≢◌, Bool, false, List, [], ◌∷◌, slice_index, set, refl, ap, sym, ◌∙◌, subst, zero-le}
use mathlib.Core.Option.{some, none, some-ne-none}
use lib.ListN.{get_elem?}
use Rattle.atomic_table.specs.Table.{Me, step, keeps, Allows}
use Rattle.event_book.specs.declared.view.Made.{Made}
use Rattle.event_book.specs.declared.view.View.{View}
use Rattle.event_book.specs.Views.{first_view, opened_view}
use Rattle.event_book.specs.Rule.{FitsList, IsApart, HoldsList}
use Rattle.event_book.specs.Steps.{OpensBook}
use Rattle.event_book.proofs.Naming.{not_own}
use Rattle.event_book.proofs.Members.{each_set, pair_set, each_end, pair_end}
use Rattle.event_book.proofs.Looking.{Rule, none_named_like}
use Rattle.event_book.proofs.Passing.{unnamed, opened_not}

module _ {E : Type 0} (lawful : Bool → List (Made E) → Type 0) where
  -- the book is opened
  pub opens : (slots i : ℕ) (me : Me E (View E)) (tells : Bool) → me.0.opened ≡ false → lawful tells [] → Allows (Rule lawful) slots i me 0 (λ n. n) (OpensBook tells (step slots 0 0 0 none) me)
  opens slots i me tells closed starts s k homes at bound =
      let v : View E = me.0 in
      let b : View E = opened_view tells v in
      let f = k.fits i v at in
      let none_yet : k.log ≡ [] = f.blank closed in
      let alone : (j : ℕ) (u : View E) → j ≢ i → get_elem? s.views j ≡ some u → ⊥ = λ j u n at'. n (sym ((k.apart i j v u at at').blank closed)) in
      let same : set s.words 0 (slice_index s.words 0) ≡ s.words = ap (λ (l : List ℕ). set l 0 (slice_index l 0)) k.word ∙ sym k.word in
      let a = k.apart i i v v at at in (
        b,
        keeps,
        tt,
        subst (λ (l : List ℕ). HoldsList lawful l (set s.views i b)) (sym same) record {
          log = k.log;
          tells = tells;
          word = k.word;
          room = k.room;
          legal = subst (λ (l : List (Made E)). lawful tells l) (sym none_yet) starts;
          fits = each_set (λ j u. FitsList k.log tells u) s.views i b
              record { seen = f.seen; told = f.told; made = f.made; ended = f.ended; fresh = f.fresh; as_named = λ n o. refl; blank = opened_not; sole = f.sole }
              (λ j u n at'. absurd (alone j u n at'));
          apart = pair_set IsApart s.views i b
              record { same = a.same; free = a.free; gone = λ n. none_named_like lawful v.ended v b refl refl (a.gone n); blank = opened_not; alone = a.alone }
              (λ j u n at'. absurd (alone j u n at'))
              (λ j u n at'. absurd (alone j u n at'))
              k.apart;
        },
        refl,
      )

  -- a book that has just been made keeps its rule
  pub starts_kept : lawful false [] → HoldsList lawful (0 ∷ []) (first_view ∷ [])
  starts_kept starts = record {
    log = [];
    tells = false;
    word = refl;
    room = zero-le;
    legal = starts;
    fits = each_end (λ j u. FitsList [] false u) [] first_view
        record { seen = ([], refl); told = ([], refl); made = λ n. refl; ended = tt; fresh = λ n m o. refl; as_named = λ n. unnamed; blank = λ n. refl; sole = λ n m s. refl }
        (λ j u at. absurd (some-ne-none u (sym at)));
    apart = pair_end IsApart [] first_view
        record { same = λ n m e. refl; free = λ n m o. not_own [] 0 o; gone = λ n. tt; blank = λ n. refl; alone = λ n m s l. refl }
        (λ j u at. absurd (some-ne-none u (sym at)))
        (λ j u at. absurd (some-ne-none u (sym at)))
        (λ j k u x at. absurd (some-ne-none u (sym at)));
  }
