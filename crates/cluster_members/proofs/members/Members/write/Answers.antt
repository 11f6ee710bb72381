use Rattle.std.proofs.Common.{ℤ, List, refl, sym, ◌∙◌, subst, inl, inr, w64}
use Rattle.std.proofs.lemmas.Int.{to_z-of_z}
use Rattle.m3_model.specs.declared.placement.Placement.{Placement}
use Rattle.cluster_members.specs.Calls.{IsWriteAnswer}
use Rattle.cluster_members.specs.Kept.{KeepsNone, MadeBy, StandsAt, Uses}
use Rattle.cluster_members.proofs.SameMembers.{same_members}
use Rattle.cluster_members.proofs.WentLemmas.{items_back, may_use, serves_after, went_by}
use Rattle.cluster_members.proofs.members.Members.write.Goals as goal

pub returns-in_default-kept_of-clause-written : goal.returns-in_default-kept_of-clause-written
returns-in_default-kept_of-clause-written g c = inl (inr (record { position = c.in-Some.position; found = cc; unkept = c.unkept.ensures c.args.self.now.net.state.place c.args.self.now.past.items (subst (λ (xs : List Placement). KeepsNone c.args.self.now.net.state.place xs c.args.version) c.deref.ensures.value (c.in_default-kept_of.ensures.none refl)); same = same_members c.args.self.now _ _ _ _ _ _ _ }))

pub write_by-requires-clause-there : goal.write_by-requires-clause-there
write_by-requires-clause-there g c =
    let now = c.args.self.now in
    let used = c.in-Some-kept_of.ensures.some in
    let at : StandsAt now.net.state.place now.past.items c.in-Some-kept_of.kept used.0 = subst (λ (xs : List Placement). StandsAt now.net.state.place xs c.in-Some-kept_of.kept used.0) c.deref.ensures.value used.1 in
    (used.0, subst (λ (xs : List Placement). StandsAt now.net.state.place xs c.in-Some-kept_of.kept used.0) (sym c.deref_mut.ensures.value) at, may_use now.net now.past.items c.in-Some-kept_of.kept used.0 c.requires.ready c.requires.past at)

pub returns-clause-past : goal.returns-clause-past
returns-clause-past g c =
    let now = c.args.self.now in
    serves_after now.net.state c.write_by.new.net.state now.net.replicas c.write_by.new.net.replicas now.net.bag c.write_by.new.net.bag now.past.items _ c.requires.past c.write_by.ensures.callable c.write_by.ensures.state
    (items_back now.past.len now.past.items c.write_by.new.past _ (c.write_by.ensures.past ∙ c.deref_mut.ensures.value) (sym now.past.ok.0))

pub returns-clause-written : goal.returns-clause-written
returns-clause-written g c =
    let now = c.args.self.now in
    let used = c.in-Some-kept_of.ensures.some in
    let at = subst (λ (xs : List Placement). StandsAt now.net.state.place xs c.in-Some-kept_of.kept used.0) (c.deref.ensures.value ∙ sym c.deref_mut.ensures.value) used.1 in
    let uses = subst (λ (xs : List Placement). Uses now.net.state.place xs c.args.version used.0) c.deref.ensures.value used.2 in
    let made = subst (λ (v : ℤ). MadeBy used.0 (λ before after. IsWriteAnswer g.D.Disk.state before c.args.id (record { ns = c.in-Some.position; id = c.args.name; t = c.args.t; v = v }) c.args.level c.write_by.result after) now.net c.write_by.new.net) (to_z-of_z w64 c.args.v c.ranges.v) (c.write_by.ensures.by used.0 at) in
    inr (record {
      position = c.in-Some.position;
      found = cc;
      answers = went_by now c.args.version _ c.write_by.new.net used.0 uses made;
      keeps = record {
        state = c.write_by.ensures.state;
        past = items_back now.past.len now.past.items c.write_by.new.past _ (c.write_by.ensures.past ∙ c.deref_mut.ensures.value) (sym now.past.ok.0);
        fates = c.write_by.ensures.fates;
        slots = refl;
        stopped = refl;
      };
    })
