-- A seat that ends in another keeps the rule.
use Rattle.std.proofs.Common.{◌≡◌, ℕ, Bool, true, List, [], ◌∷◌, ◌++◌, set, refl, sym, ◌∙◌, subst}
use Rattle.std.proofs.lemmas.List.{set_comm}
use mathlib.Core.Option.{some}
use lib.ListN.{get_elem?}
use Rattle.atomic_table.proofs.Lists.{set_else}
use Rattle.atomic_table.specs.Table.{Joins}
use Rattle.event_book.specs.declared.view.Made.{Made}
use Rattle.event_book.specs.declared.view.Ended.{Ended}
use Rattle.event_book.specs.declared.view.View.{View}
use Rattle.event_book.specs.Lists.{HasEnded}
use Rattle.event_book.specs.Views.{note_of, joined_view}
use Rattle.event_book.specs.Rule.{NoneNamed, FitsList, IsApart, HoldsList}
use Rattle.event_book.proofs.Members.{each_set, pair_set}
use Rattle.event_book.proofs.Looking.{Rule, none_named_like}
use Rattle.event_book.proofs.Passing.{unnamed, keeps_spent}

module _ {E : Type 0} (lawful : Bool → List (Made E) → Type 0) where
  -- of ended seats after ended seats
  pub ended_more : (xs : List (Ended E)) (ys : List (Ended E)) (log : List (Made E)) → HasEnded xs log → HasEnded ys log → HasEnded (xs ++ ys) log
  ended_more [] ys log a b = b
  ended_more (x ∷ xs) ys log a b = (a.0, ended_more xs ys log a.1 b)

  none_named_more : (xs : List (Ended E)) (ys : List (Ended E)) (w : View E) → NoneNamed xs w → NoneNamed ys w → NoneNamed (xs ++ ys) w
  none_named_more [] ys w a b = b
  none_named_more (x ∷ xs) ys w a b = (a.0, a.1, none_named_more xs ys w a.2 b)

  -- a seat ends in another
  pub takes_seat : (i : ℕ) (v : View E) (j : ℕ) (w : View E) → v.named ≡ true → w.named ≡ true → Joins (Rule lawful) i v j w (joined_view v w) (note_of [])
  unfolding keeps_spent
  takes_seat i v j w named ended s k at ne at' =
      let b : View E = joined_view v w in
      let gone : Ended E = record { name = w.name; made = w.made } in
      let there : get_elem? s.views j ≡ some w = sym (set_else s.views i j b ne) ∙ at' in
      let views : List (View E) = set s.views j (note_of []) in
      let h = keeps_spent lawful s.words s.views k j w there in
      let here : get_elem? views i ≡ some v = set_else s.views j i (note_of []) (λ e. ne (sym e)) ∙ at in
      let f = k.fits i v at in
      let g = k.fits j w there in
      let away : (l : ℕ) (u : View E) → get_elem? views l ≡ some u → u.named ≡ true → NoneNamed (gone ∷ w.ended) u =
      each_set (λ l u. u.named ≡ true → NoneNamed (gone ∷ w.ended) u) s.views j (note_of []) unnamed
      (λ l u n at''. λ live. let a = k.apart j l w u there at'' in ((λ e. n (sym (a.same ended live e))), (λ o. (k.apart l j u w at'' there).free live ended o), a.gone live)) in
      let swap : set (set s.views i b) j (note_of []) ≡ set views i b = set_comm s.views i j b (note_of []) (λ e. ne (sym e)) in
      subst (λ (l : List (View E)). HoldsList lawful s.words l) (sym swap) record {
        log = k.log;
        tells = k.tells;
        word = k.word;
        room = k.room;
        legal = k.legal;
        fits = each_set (λ l u. FitsList k.log k.tells u) views i b
            record { seen = f.seen; told = f.told; made = f.made; ended = ended_more v.ended (gone ∷ w.ended) k.log f.ended (g.made ended, g.ended); fresh = f.fresh; as_named = f.as_named; blank = f.blank; sole = f.sole }
            (λ l u n. h.fits l u);
        apart = pair_set IsApart views i b
            (let a = h.apart i i v v here here in record { same = a.same; free = a.free; gone = λ n. none_named_like lawful (v.ended ++ gone ∷ w.ended) v b refl refl (none_named_more v.ended (gone ∷ w.ended) v (a.gone n) (away i v here n)); blank = a.blank; alone = a.alone })
            (λ l u n at''. let a = h.apart i l v u here at'' in record { same = a.same; free = a.free; gone = λ m. none_named_more v.ended (gone ∷ w.ended) u (a.gone m) (away l u at'' m); blank = a.blank; alone = a.alone })
            (λ l u n at''. let a = h.apart l i u v at'' here in record { same = a.same; free = a.free; gone = λ m. none_named_like lawful u.ended v b refl refl (a.gone m); blank = a.blank; alone = a.alone })
            h.apart;
      }
