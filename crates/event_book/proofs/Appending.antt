-- An append, from look to look.
use Rattle.std.proofs.Common.{◌≡◌, ℕ, ◌≤◌, Bool, List, [], ◌∷◌, ◌++◌, length, ap, sym, ◌∙◌, subst, arith, append_assoc}
use Rattle.atomic_table.specs.Table.{Me, Step}
use Rattle.event_book.specs.declared.view.Made.{Made}
use Rattle.event_book.specs.declared.view.View.{View}
use Rattle.event_book.specs.Lists.{made_by, most_entries}
use Rattle.event_book.specs.Seats.{IsSound}
use Rattle.event_book.specs.Calls.{MayAdd, Appended, Looked}
use Rattle.event_book.specs.Views.{shown, with_seen, with_entry}
use Rattle.event_book.specs.Steps.{SeesList, StaysSound}

module _ {E : Type 0} (lawful : Bool → List (Made E) → Type 0) where
  -- since v the whole list was seen, which has this length
  pub record Since (v w : View E) (n : ℕ) : Type 0 where
    pub between : List (Made E)
    pub view : w ≡ with_seen v (v.seen ++ between) []
    pub sound : IsSound lawful w.tells (shown w)
    pub count : length w.seen ≡ n

  pub begins : (st : Step E) (me after : Me E (View E)) (n : ℕ) → SeesList lawful st me n after → Since me.0 after.0 n
  begins st me after n l = record {
    between = l.longer.0;
    view = ap (λ (m : Me E (View E)). m.0) l.view ∙ ap (λ (s : List (Made E)). with_seen me.0 s []) (sym l.longer.1);
    sound = l.sound;
    count = sym l.count;
  }

  pub goes_on : (st : Step E) (v : View E) (me after : Me E (View E)) (n m : ℕ) → Since v me.0 n → SeesList lawful st me m after → Since v after.0 m
  goes_on st v me after n m a l =
      let seen : me.0.seen ≡ v.seen ++ a.between = ap (λ (x : View E). x.seen) a.view in
      record {
        between = a.between ++ l.longer.0;
        view = ap (λ (x : Me E (View E)). x.0) l.view ∙ (ap (λ (x : View E). with_seen x after.0.seen []) a.view ∙ ap (λ (s : List (Made E)). with_seen v s []) (sym l.longer.1 ∙ (ap (λ (s : List (Made E)). s ++ l.longer.0) seen ∙ append_assoc v.seen a.between l.longer.0)));
        sound = l.sound;
        count = sym l.count;
      }

  -- the entry may be added to what was seen since
  pub may_still : (v w : View E) (n : ℕ) (e : E) → Since v w n → IsSound lawful v.tells (shown v) → MayAdd lawful v.tells (shown v) e → lawful w.tells (w.seen ++ (record { by = w.name; entry = e }) ∷ [])
  may_still v w n e a sound may =
      let tells : w.tells ≡ v.tells = ap (λ (x : View E). x.tells) a.view in
      let name : w.name ≡ v.name = ap (λ (x : View E). x.name) a.view in
      let made : w.made ≡ v.made = ap (λ (x : View E). x.made) a.view in
      let seen : w.seen ≡ v.seen ++ a.between = ap (λ (x : View E). x.seen) a.view in
      subst (λ (b : Bool). lawful b (w.seen ++ (record { by = w.name; entry = e }) ∷ [])) (sym tells)
      (subst (λ (x : List ℕ). lawful v.tells (w.seen ++ (record { by = x; entry = e }) ∷ [])) (sym name)
      (may sound w.seen (subst (λ (b : Bool). lawful b w.seen) tells a.sound.legal) (a.between, sym seen) (subst (λ (x : List ℕ). made_by x w.seen ≡ v.made) name (a.sound.made ∙ made))))

  -- the seat stays sound while it looks, and with its entry
  pub looks_sound : (v w : View E) (n : ℕ) → Since v w n → StaysSound lawful v w
  looks_sound v w n a =
      let tells : w.tells ≡ v.tells = ap (λ (x : View E). x.tells) a.view in
      record { opened = ap (λ (x : View E). x.opened) a.view; tells = tells; sound = subst (λ (b : Bool). IsSound lawful b (shown w)) tells a.sound }

  pub adds_sound : (v w : View E) (n : ℕ) (e : E) (after : View E) → Since v w n → after ≡ with_entry w e → IsSound lawful after.tells (shown after) → StaysSound lawful v after
  adds_sound v w n e after a is h =
      let tells : after.tells ≡ v.tells = ap (λ (x : View E). x.tells) is ∙ ap (λ (x : View E). x.tells) a.view in
      record {
        opened = ap (λ (x : View E). x.opened) is ∙ ap (λ (x : View E). x.opened) a.view;
        tells = tells;
        sound = subst (λ (b : Bool). IsSound lawful b (shown after)) tells h;
      }

  pub looked : (v w : View E) (n : ℕ) → Since v w n → Looked (shown v) (shown w)
  looked v w n a = record { between = a.between; after = ap (λ (x : View E). shown x) a.view }

  pub entry_added : (v w : View E) (n : ℕ) (e : E) (after : View E) → Since v w n → after ≡ with_entry w e → Appended (shown v) e n (shown after)
  entry_added v w n e after a is = record {
    between = a.between;
    after = ap (λ (x : View E). shown x) is ∙ ap (λ (x : View E). shown (with_entry x e)) a.view;
    position_is = sym a.count ∙ ap (λ (x : View E). length x.seen) a.view;
  }

  -- a list that is no shorter than a book may be is just as long
  pub is_full : (v w : View E) (n : ℕ) → Since v w n → most_entries ≤ n → length w.seen ≡ most_entries
  is_full v w n a full = omega (arith, a.count, a.sound.room, full)
