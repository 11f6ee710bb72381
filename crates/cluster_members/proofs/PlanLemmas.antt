-- Rules that are planned may be set.
use Rattle.std.proofs.Common.{◌≡◌, ◌<◌, ◌≤◌, ◌+◌, ℕ, List, [], ◌∷◌, length, take, refl, sym, ap, subst, ◌∙◌, arith, length-append, Bool, true}
use Rattle.std.specs.Prelude.{nat_le}
use Rattle.std.specs.List.{All}
use Rattle.std.proofs.lemmas.Bool.{leb-true}
use Rattle.std.proofs.Math.Seq.{take-append_seam}
use Rattle.std.proofs.lemmas.List.Elements.{All-append, All-cons, All-nil}
use Rattle.m3_model.specs.declared.answer.Answer.{Answer}
use Rattle.m3_model.specs.declared.answer.Answer.TheVariants as answer
use Rattle.m3_model.specs.declared.limits.TheConstants.{MOST_NAMESPACES, TIME_END}
use Rattle.m3_model.specs.declared.rules.Rules.{Rules}
use Rattle.m3_model.specs.declared.rules.Space.{Space}
use Rattle.m3_outside.specs.DiskState.{DiskState}
use Rattle.m3_outside.specs.declared.disk.Disk.{Ghosts}
use Rattle.session_writes.specs.cluster_core.declared.event.Event.{Event}
use Rattle.event_book.specs.Lists.{most_entries}
use Rattle.session_writes.specs.replica_exchange.MachineCalls.{HasRoom}
use Rattle.session_writes.specs.session_net.Ready.{IsReady}
use Rattle.cluster_members.specs.Steps.{IsMovePlanned, IsMoved, IsSpaceAdded, IsSpacePlanned, MayName, MaySetRules, RefusesMove, RefusesSpace, at_moment, spaces_in, with_space}
use Rattle.cluster_members.specs.declared.members.Members.{Members}

take_all : {X : Type 0} (xs : List X) → take (length xs) xs ≡ xs
take_all [] = refl
take_all (x ∷ xs) = ap (λ l. x ∷ l) (take_all xs)

-- the list has room
pub has_room : (events : List Event) (b : Bool) → b ≡ nat_le (length events + 2) most_entries → b ≡ true → HasRoom 2 events
has_room events b is on = let fits = leb-true (length events + 2) most_entries (sym is ∙ on) in omega (arith, fits)

module _ {D : Type 0} {G : Ghosts D} (m : Members D G) (ready : IsReady m.net.state m.net.replicas m.net.bag) (room : HasRoom 2 m.net.replicas.events) where
  space_set : (space : Space) → 0 < space.block → MayName (spaces_in m) space → MaySetRules m (with_space space m.net.state.rules)
  space_set space sized may =
      let P : Space → Type 0 = λ s. 0 < s.block in
      let few = may.few in
      let long = length-append (spaces_in m) (space ∷ []) in
      record {
        next = record { last = m.net.state.rules; last_is = ready.clock; not_lower = omega arith; grows = take-append_seam (spaces_in m) (space ∷ []) };
        room = room;
        few = omega (arith, few, long);
        sizes = All-append P (spaces_in m) (space ∷ []) m.sizes (All-cons P space [] sized (All-nil P));
        moment = m.moment;
      }

  pub space_planned : (space : Space) (rules : Rules) → 0 < space.block → MayName (spaces_in m) space → rules ≡ with_space space m.net.state.rules → IsSpacePlanned m space rules
  space_planned space rules sized may is = record { may_name = may; rules_are = is; may_set = subst (MaySetRules m) (sym is) (space_set space sized may) }

  move_set : (now : ℕ) → now < TIME_END → m.net.state.rules.now ≤ now → MaySetRules m (at_moment now m.net.state.rules)
  move_set now low not_lower = record {
    next = record { last = m.net.state.rules; last_is = ready.clock; not_lower = not_lower; grows = take_all (spaces_in m) };
    room = room;
    few = m.few;
    sizes = m.sizes;
    moment = low;
  }

  pub move_planned : (now : ℕ) (rules : Rules) → now < TIME_END → m.net.state.rules.now ≤ now → rules ≡ at_moment now m.net.state.rules → IsMovePlanned m now rules
  move_planned now rules low not_lower is = record { not_lower = not_lower; rules_are = is; may_set = subst (MaySetRules m) (sym is) (move_set now low not_lower) }

-- ---- refused before anything changes

module _ {D : Type 0} {G : Ghosts D} (state : D → DiskState) (m : Members D G) where
  pub space_refused : (space : Space) (b : Answer) → RefusesSpace m space b → IsSpaceAdded state m space b m
  space_refused space answer.Order h = (h, refl)
  space_refused space (answer.Limit limit) h = (h.0, h.1, h.2, refl)
  space_refused space answer.Memory h = (h, refl)
  space_refused space answer.Full h = (h.0, (refl, h.1))
  space_refused space _ h = absurd h

  pub move_refused : (now : ℕ) (b : Answer) → RefusesMove m now b → IsMoved state m now b m
  move_refused now (answer.Clock moment) h = (h.0, h.1, refl)
  move_refused now answer.Memory h = (h, refl)
  move_refused now answer.Full h = (h.0, (refl, h.1))
  move_refused now _ h = absurd h
