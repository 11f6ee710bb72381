-- An entry that is added keeps the rule.
use Rattle.std.proofs.Common.{◌≡◌, ℕ, ◌+◌, ◌≤◌, ◌<◌, ◌==◌, ◌≢◌, ⊎_elim, Bool, true, false, true≢false, List, [], ◌∷◌, ◌++◌, length, slice_index, set, refl, ap, sym, ◌∙◌, subst, arith, length-append}
use mathlib.Core.Option.{Option, some}
use lib.ListN.{get_elem?}
use prog.Atomic.{either}
use Rattle.std.proofs.lemmas.List.{append-nil}
use Rattle.std.proofs.lemmas.Bool.Decides.{eqb_tells}
use Rattle.std.specs.Prelude.{MatchBool}
use Rattle.atomic_table.specs.Table.{Me, step, keeps, stepped, carried_after, Allows, Act, Valid}
use Rattle.event_book.specs.Names.{Name, MayGiveName}
use Rattle.event_book.specs.declared.view.Made.{Made}
use Rattle.event_book.specs.declared.view.Ended.{Ended}
use Rattle.event_book.specs.declared.view.View.{View}
use Rattle.event_book.specs.Lists.{HasEnded, most_entries}
use Rattle.event_book.specs.Seats.{IsSound}
use Rattle.event_book.specs.Views.{shown, with_entry}
use Rattle.event_book.specs.Rule.{NoneNamed, FitsList, IsApart, HoldsList}
use Rattle.event_book.specs.Steps.{SeesList, AddsEntry}
use Rattle.event_book.proofs.Prefixes.{prefix_append, prefix_whole}
use Rattle.event_book.proofs.Members.{each_set, pair_set}
use Rattle.event_book.proofs.Naming.{made_by_own, made_by_other}
use Rattle.event_book.proofs.Looking.{Rule, fits_sound, none_named_like, sees}

module _ {E : Type 0} (lawful : Bool → List (Made E) → Type 0) where
  -- a seat that goes on adds nothing to what those made that have ended
  ended_stays : (xs : List (Ended E)) (v : View E) (log : List (Made E)) (e : E) → NoneNamed xs v → HasEnded xs log → HasEnded xs (log ++ (record { by = v.name; entry = e }) ∷ [])
  ended_stays [] v log e a h = tt
  ended_stays (x ∷ xs) v log e a h = (made_by_other x.name v.name log e a.0 ∙ h.0, ended_stays xs v log e a.2 h.1)

  -- the seat that adds an entry to the whole list fits it then
  fits_entry : (log : List (Made E)) (tells : Bool) (i : ℕ) (v : View E) (e : E) → v.named ≡ true → v.opened ≡ true → v.seen ≡ log → IsApart i i v v
      → FitsList log tells v → FitsList (log ++ (record { by = v.name; entry = e }) ∷ []) tells (with_entry v e)
  fits_entry log tells i v e named opened same a f = let entry : Made E = record { by = v.name; entry = e } in record {
    seen = ([], append-nil _ ∙ ap (λ (l : List (Made E)). l ++ entry ∷ []) same);
    told = (log ++ entry ∷ [], refl);
    made = λ n. made_by_own v.name log e ∙ ap (λ (l : List E). l ++ e ∷ []) (f.made n);
    ended = ended_stays v.ended v log e (a.gone named) f.ended;
    fresh = λ n m o. made_by_other m v.name log e (λ same_name. a.free named named (subst (λ (x : Name). MayGiveName v.name v.splits x) same_name o)) ∙ f.fresh n m o;
    as_named = f.as_named;
    blank = λ closed. absurd (true≢false (sym opened ∙ closed));
    sole = λ n name splits. let h = f.sole n name splits in omega (arith, length-append log (entry ∷ []), length-append v.made (e ∷ []));
  }

  -- each other seat fits the longer list
  fits_other : (log : List (Made E)) (tells : Bool) (i j : ℕ) (v u : View E) (e : E) → v.named ≡ true → j ≢ i → IsApart j i u v
      → FitsList log tells u → FitsList (log ++ (record { by = v.name; entry = e }) ∷ []) tells u
  fits_other log tells i j v u e named n a g = let entry : Made E = record { by = v.name; entry = e } in record {
    seen = prefix_append u.seen log (entry ∷ []) g.seen;
    told = prefix_append u.told log (entry ∷ []) g.told;
    made = λ live. made_by_other u.name v.name log e (λ same_name. n (a.same live named same_name)) ∙ g.made live;
    ended = ended_stays u.ended v log e (a.gone named) g.ended;
    fresh = λ live m o. made_by_other m v.name log e (λ same_name. a.free live named (subst (λ (x : Name). MayGiveName u.name u.splits x) same_name o)) ∙ g.fresh live m o;
    as_named = g.as_named;
    blank = λ closed. absurd (n (a.blank closed));
    sole = λ live name splits. absurd (n (a.alone live name splits named));
  }

  -- an entry of the seat i is added to the list
  keeps_entry : (words : List ℕ) (views : List (View E)) (k : HoldsList lawful words views) (i : ℕ) (v : View E) (e : E) → get_elem? views i ≡ some v → v.named ≡ true → v.opened ≡ true
      → v.seen ≡ k.log → length k.log < most_entries → lawful k.tells (k.log ++ (record { by = v.name; entry = e }) ∷ [])
      → HoldsList lawful ((length k.log + 1) ∷ []) (set views i (with_entry v e))
  keeps_entry words views k i v e at named opened same some_room legal =
      let w : View E = with_entry v e in
      let entry : Made E = record { by = v.name; entry = e } in
      let log : List (Made E) = k.log ++ entry ∷ [] in
      let count : length log ≡ length k.log + 1 = length-append k.log (entry ∷ []) in
      record {
        log = log;
        tells = k.tells;
        word = ap (λ (n : ℕ). n ∷ []) (sym count);
        room = omega (arith, count, some_room);
        legal = legal;
        fits = each_set (λ j u. FitsList log k.tells u) views i w
            (fits_entry k.log k.tells i v e named opened same (k.apart i i v v at at) (k.fits i v at))
            (λ j u n at'. fits_other k.log k.tells i j v u e named n (k.apart j i u v at' at) (k.fits j u at'));
        apart = pair_set IsApart views i w
            (let a = k.apart i i v v at at in record { same = a.same; free = a.free; gone = λ n. none_named_like lawful v.ended v w refl refl (a.gone n); blank = a.blank; alone = a.alone })
            (λ j u n at'. let a = k.apart i j v u at at' in record { same = a.same; free = a.free; gone = a.gone; blank = a.blank; alone = a.alone })
            (λ j u n at'. let a = k.apart j i u v at' at in record { same = a.same; free = a.free; gone = λ n. none_named_like lawful u.ended v w refl refl (a.gone n); blank = a.blank; alone = a.alone })
            k.apart;
      }

  -- the exchange adds the entry to all that was seen, or finds that the list is longer
  adds : (slots i : ℕ) (v : View E) (e : E) → v.named ≡ true → v.opened ≡ true → length v.seen < most_entries → lawful v.tells (v.seen ++ (record { by = v.name; entry = e }) ∷ [])
      → Allows (Rule lawful) slots i (v, []) 0 (λ n. either (n == length v.seen) (length v.seen + 1) n) (AddsEntry lawful (step slots 0 (length v.seen) (length v.seen + 1) (some e)) (v, []))
  adds slots i v e named opened some_room legal s k homes at bound =
      let f = k.fits i v at in
      let n : ℕ = slice_index s.words 0 in
      let count : n ≡ length k.log = ap (λ (l : List ℕ). slice_index l 0) k.word in
      let D : Bool → ℕ → Type 0 = λ b m. (w : View E) × (a : Act E) × Valid s.homes [] a
      × Rule lawful (stepped s 0 (either b (length v.seen + 1) m) i [] w a)
      × MatchBool b
      (((e' : E) × (◌≡◌ {A = Option E} (some e) (some e')) × (◌≡◌ {A = Me E (View E)} (w, carried_after [] a) (with_entry v e', []))) × IsSound lawful w.tells (shown w))
      (SeesList lawful (step slots 0 (length v.seen) (length v.seen + 1) (some e)) (v, []) m (w, carried_after [] a)) in
      ⊎_elim
      (λ (t : ((n == length v.seen) ≡ true) × (n ≡ length v.seen)).
      let same : v.seen ≡ k.log = prefix_whole v.seen k.log f.seen (omega (arith, t.1, count)) in
      let tells : v.tells ≡ k.tells = f.as_named named opened in
      let entry : Made E = record { by = v.name; entry = e } in
      let w : View E = with_entry v e in
      let legal' : lawful k.tells (k.log ++ entry ∷ []) = subst (λ (l : List (Made E)). lawful k.tells (l ++ entry ∷ [])) same (subst (λ (b : Bool). lawful b (v.seen ++ entry ∷ [])) tells legal) in
      let words : set s.words 0 (length v.seen + 1) ≡ (length k.log + 1) ∷ [] = ap (λ (l : List ℕ). set l 0 (length v.seen + 1)) k.word ∙ ap (λ (l : List (Made E)). (length l + 1) ∷ []) same in
      let room : length k.log < most_entries = subst (λ (l : List (Made E)). length l < most_entries) same some_room in
      let room' : length (k.log ++ entry ∷ []) ≤ most_entries = omega (arith, length-append k.log (entry ∷ []), room) in
      let all : w.seen ≡ k.log ++ entry ∷ [] = ap (λ (l : List (Made E)). l ++ entry ∷ []) same in
      subst (λ (b : Bool). D b n) (sym t.0) (
        w,
        keeps,
        tt,
        subst (λ (l : List ℕ). HoldsList lawful l (set s.views i w)) (sym words) (keeps_entry s.words s.views k i v e at named opened same room legal'),
        (
          (e, refl, refl),
          fits_sound lawful (k.log ++ entry ∷ []) k.tells w named opened all room' legal' (fits_entry k.log k.tells i v e named opened same (k.apart i i v v at at) f),
        ),
      ))
      (λ (t : ((n == length v.seen) ≡ false) × (n ≢ length v.seen)).
      let seen = sees lawful slots i v named opened s k homes at bound in
      subst (λ (b : Bool). D b n) (sym t.0) (seen.0, seen.1, seen.2, seen.3, record { view = seen.4.view; count = seen.4.count; longer = seen.4.longer; sound = seen.4.sound }))
      (eqb_tells n (length v.seen))

  pub adds_me : (slots i : ℕ) (me : Me E (View E)) (e : E) (old : ℕ) → me.1 ≡ [] → me.0.named ≡ true → me.0.opened ≡ true → length me.0.seen ≡ old → old < most_entries
      → lawful me.0.tells (me.0.seen ++ (record { by = me.0.name; entry = e }) ∷ [])
      → Allows (Rule lawful) slots i me 0 (λ n. either (n == old) (old + 1) n) (AddsEntry lawful (step slots 0 old (old + 1) (some e)) me)
  adds_me slots i me e old none_held named opened len some_room legal =
      subst (λ (m : ℕ). Allows (Rule lawful) slots i me 0 (λ n. either (n == m) (m + 1) n) (AddsEntry lawful (step slots 0 m (m + 1) (some e)) me)) len
      (subst (λ (c : List (ℕ × E)). Allows (Rule lawful) slots i (me.0, c) 0 (λ n. either (n == length me.0.seen) (length me.0.seen + 1) n) (AddsEntry lawful (step slots 0 (length me.0.seen) (length me.0.seen + 1) (some e)) (me.0, c))) (sym none_held)
      (adds slots i me.0 e named opened (omega (arith, len, some_room)) legal))
