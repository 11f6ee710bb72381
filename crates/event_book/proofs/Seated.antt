-- Seats stay sound over calls.
use Rattle.std.proofs.Common.{◌≡◌, Bool, List, [], ◌∷◌, ◌++◌, sym, ap, refl, ◌∙◌, subst}
use Rattle.event_book.specs.declared.view.Made.{Made}
use Rattle.event_book.specs.declared.view.View.{View}
use Rattle.event_book.specs.Lists.{made_by, HasEnded}
use Rattle.event_book.specs.Views.{child_view, joined_view}
use Rattle.event_book.specs.Steps.{IsSeated, IsTold}
use Rattle.event_book.proofs.Naming.{next_given, child_gives, not_first}
use Rattle.event_book.proofs.Ending.{ended_more}

module _ {E : Type 0} (lawful : Bool → List (Made E) → Type 0) (tells : Bool) where
  -- the seat that was split off
  pub child_seated : (v w : View E) → w ≡ child_view v → IsSeated lawful tells v → IsSeated lawful tells w
  child_seated v w is s = subst (λ (x : View E). IsSeated lawful tells x) (sym is) record {
    opened = refl;
    tells_is = s.tells_is;
    sound = record {
      legal = s.sound.legal;
      room = s.sound.room;
      made = s.sound.fresh (v.name ++ v.splits ∷ []) (next_given v.name v.splits);
      ended = tt;
      fresh = λ m o. s.sound.fresh m (child_gives v.name v.splits m o);
      sole = λ name. absurd (not_first v.name v.splits name);
    };
  }

  -- the seat in which another ended that had seen the same
  pub joined_seated : (v w x : View E) → x ≡ joined_view v w → v.seen ≡ w.seen → IsSeated lawful tells v → IsSeated lawful tells w → IsSeated lawful tells x
  joined_seated v w x is same s t = subst (λ (x : View E). IsSeated lawful tells x) (sym is) record {
    opened = s.opened;
    tells_is = s.tells_is;
    sound = record {
      legal = s.sound.legal;
      room = s.sound.room;
      made = s.sound.made;
      ended = ended_more lawful v.ended _ v.seen s.sound.ended (subst (λ (l : List (Made E)). (made_by w.name l ≡ w.made) × HasEnded w.ended l) (sym same) (t.sound.made, t.sound.ended));
      fresh = s.sound.fresh;
      sole = s.sound.sole;
    };
  }

  -- the seat that was told of a lawful list
  pub told_seated : (list : List (Made E)) (v w : View E) → IsTold lawful list v w → lawful tells list → IsSeated lawful tells v → IsSeated lawful tells w
  told_seated list v w t legal s = record {
    opened = ap (λ (x : View E). x.opened) t.view ∙ s.opened;
    tells_is = ap (λ (x : View E). x.tells) t.view ∙ s.tells_is;
    sound = t.sound tells legal s.sound;
  }
