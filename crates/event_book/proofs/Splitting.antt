-- A seat that is split off keeps the rule.
use Rattle.std.proofs.Common.{◌≡◌, ℕ, ◌+◌, ◌≤◌, ⊎_elim, Bool, true, true≢false, List, [], ◌∷◌, ◌++◌, length, set, refl, sym, ◌∙◌, subst, arith}
use mathlib.Core.Option.{some}
use lib.ListN.{get_elem?}
use Rattle.std.proofs.lemmas.List.{append-nil}
use Rattle.atomic_table.specs.Table.{Splits}
use Rattle.event_book.specs.Names.{Name, MayGiveName}
use Rattle.event_book.specs.declared.view.Made.{Made}
use Rattle.event_book.specs.declared.view.Ended.{Ended}
use Rattle.event_book.specs.declared.view.View.{View}
use Rattle.event_book.specs.Views.{parent_view, child_view}
use Rattle.event_book.specs.Rule.{NoneNamed, FitsList, IsApart, HoldsList}
use Rattle.event_book.proofs.Naming.{next_given, child_gives, parent_gives, gives_next, not_longer, not_own, not_first}
use Rattle.event_book.proofs.Members.{each_set, pair_set, each_end, pair_end}
use Rattle.event_book.proofs.Looking.{Rule}
use Rattle.event_book.proofs.Passing.{opened_not, none_blank}

module _ {E : Type 0} (lawful : Bool → List (Made E) → Type 0) where
  none_named_parent : (xs : List (Ended E)) (v : View E) → NoneNamed xs v → NoneNamed xs (parent_view v)
  none_named_parent [] v a = tt
  none_named_parent (x ∷ xs) v a = (a.0, (λ o. a.1 (parent_gives v.name v.splits x.name o)), none_named_parent xs v a.2)

  none_named_child : (xs : List (Ended E)) (v : View E) → NoneNamed xs v → NoneNamed xs (child_view v)
  none_named_child [] v a = tt
  none_named_child (x ∷ xs) v a = (
    (λ e. a.1 (subst (λ (n : Name). MayGiveName v.name v.splits n) (sym e) (next_given v.name v.splits))),
    (λ o. a.1 (child_gives v.name v.splits x.name o)),
    none_named_child xs v a.2,
  )

  -- a seat that has given its next name
  keeps_parent : (words : List ℕ) (views : List (View E)) (k : HoldsList lawful words views) (i : ℕ) (v : View E) → get_elem? views i ≡ some v
      → HoldsList lawful words (set views i (parent_view v))
  keeps_parent words views k i v at = let w : View E = parent_view v in let f = k.fits i v at in record {
    log = k.log;
    tells = k.tells;
    word = k.word;
    room = k.room;
    legal = k.legal;
    fits = each_set (λ j u. FitsList k.log k.tells u) views i w
        record {
          seen = f.seen;
          told = f.told;
          made = f.made;
          ended = f.ended;
          fresh = λ n m o. f.fresh n m (parent_gives v.name v.splits m o);
          as_named = f.as_named;
          blank = f.blank;
          sole = λ n name splits. absurd (omega arith);
        }
        (λ j u n. k.fits j u);
    apart = pair_set IsApart views i w
        (let a = k.apart i i v v at at in record {
          same = a.same;
          free = λ n m o. a.free n m (parent_gives v.name v.splits v.name o);
          gone = λ n. none_named_parent v.ended v (a.gone n);
          blank = a.blank;
          alone = λ n name splits. absurd (omega arith);
        })
        (λ j u n at'. let a = k.apart i j v u at at' in record {
          same = a.same;
          free = λ n m o. a.free n m (parent_gives v.name v.splits u.name o);
          gone = a.gone;
          blank = a.blank;
          alone = λ n name splits. absurd (omega arith);
        })
        (λ j u n at'. let a = k.apart j i u v at' at in record {
          same = a.same;
          free = a.free;
          gone = λ n. none_named_parent u.ended v (a.gone n);
          blank = a.blank;
          alone = a.alone;
        })
        k.apart;
  }

  -- the seat that was split off fits the list
  fits_child : (log : List (Made E)) (tells : Bool) (v : View E) → v.opened ≡ true → v.named ≡ true → FitsList log tells v → FitsList log tells (child_view v)
  fits_child log tells v opened named f = record {
    seen = f.seen;
    told = (log, refl);
    made = λ n. f.fresh named (v.name ++ v.splits ∷ []) (next_given v.name v.splits);
    ended = tt;
    fresh = λ n m o. f.fresh named m (child_gives v.name v.splits m o);
    as_named = λ n o. f.as_named named opened;
    blank = opened_not;
    sole = λ n name splits. absurd (not_first v.name v.splits name);
  }

  -- it is apart from each other seat
  child_left : (i j : ℕ) (v u : View E) → (v.name ++ v.splits ∷ [] ≡ u.name → u.named ≡ true → i ≡ j) → (u.named ≡ true → ¬ (MayGiveName (v.name ++ v.splits ∷ []) 0 u.name))
      → IsApart i j (child_view v) u
  child_left i j v u same free = record {
    same = λ n m e. same e m;
    free = λ n m. free m;
    gone = λ n. tt;
    blank = opened_not;
    alone = λ n name. absurd (not_first v.name v.splits name);
  }

  -- a seat of an open book gives another
  pub gives_seat : (i : ℕ) (v : View E) → v.opened ≡ true → v.named ≡ true → Splits (Rule lawful) i v (parent_view v) (child_view v)
  unfolding keeps_parent
  gives_seat i v opened named s k at =
      let p : View E = parent_view v in
      let views : List (View E) = set s.views i p in
      let c : View E = child_view v in
      let L : ℕ = length views in
      let next = next_given v.name v.splits in
      let h = keeps_parent s.words s.views k i v at in
      let own : v.name ≡ c.name → ⊥ = λ e. not_longer v.name (v.splits ∷ []) [] (e ∙ sym (append-nil _)) (omega arith) in
      record {
        log = k.log;
        tells = k.tells;
        word = k.word;
        room = k.room;
        legal = k.legal;
        fits = each_end (λ j u. FitsList k.log k.tells u) views c (fits_child k.log k.tells v opened named (k.fits i v at)) h.fits;
        apart = pair_end IsApart views c
            (child_left L L v c (λ e m. refl) (λ m. not_own_below c.name))
            (each_set (λ j u. IsApart L j c u) s.views i p
            (child_left L i v p (λ e m. absurd (own (sym e))) (λ m o. not_longer v.name (v.splits ∷ []) (o.0 ∷ o.1) o.3 (omega arith)))
            (λ j u ne at'. let a = k.apart i j v u at at' in
            child_left L j v u
            (λ e m. absurd (a.free named m (subst (λ (x : Name). MayGiveName v.name v.splits x) e next)))
            (λ m o. a.free named m (child_gives v.name v.splits u.name o))))
            (each_set (λ j u. IsApart j L u c) s.views i p
            record {
              same = λ n m e. absurd (own e);
              free = λ n m o. ⊎_elim
                  (λ (t : (v.name ≡ v.name) × (v.splits + 1 ≤ v.splits)). let le = t.1 in omega (arith, le))
                  (λ (x : MayGiveName v.name (v.splits + 1) v.name). not_own v.name (v.splits + 1) x)
                  (gives_next v.name v.splits v.name (v.splits + 1) o);
              gone = λ n. none_named_child v.ended v ((k.apart i i v v at at).gone named);
              blank = λ closed. absurd (true≢false (sym opened ∙ closed));
              alone = λ n name splits. absurd (omega arith);
            }
            (λ j u ne at'. let a = k.apart j i u v at' at in
            record {
              same = λ n m e. absurd ((k.apart i j v u at at').free named n (subst (λ (x : Name). MayGiveName v.name v.splits x) (sym e) next));
              free = λ n m o. ⊎_elim
                  (λ (t : (u.name ≡ v.name) × (u.splits ≤ v.splits)). ne (a.same n named t.0))
                  (λ (x : MayGiveName u.name u.splits v.name). a.free n named x)
                  (gives_next v.name v.splits u.name u.splits o);
              gone = λ n. none_named_child u.ended v (a.gone named);
              blank = λ closed. absurd (none_blank lawful s.words s.views k i v at opened j u at' closed);
              alone = λ n name splits m. absurd (ne (a.alone n name splits named));
            }))
            h.apart;
      }
    where
      not_own_below : (n : Name) → MayGiveName n 0 n → ⊥
      not_own_below n o = not_own n 0 o
