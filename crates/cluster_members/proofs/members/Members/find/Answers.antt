use Rattle.std.proofs.Common.{List, refl, sym, ◌∙◌, subst, inl, inr}
use Rattle.m3_model.specs.declared.placement.Placement.{Placement}
use Rattle.cluster_members.specs.Kept.{KeepsNone, StandsAt, Uses}
use Rattle.cluster_members.proofs.SameMembers.{same_members}
use Rattle.cluster_members.proofs.WentLemmas.{items_back, may_use, serves_after, went_by}
use Rattle.cluster_members.proofs.members.Members.find.Goals as goal

pub returns-in_default-kept_of-clause-fetched : goal.returns-in_default-kept_of-clause-fetched
returns-in_default-kept_of-clause-fetched g c = inl (inr (record { position = c.in-Some.position; found = cc; unkept = c.unkept.ensures c.args.self.now.net.state.place c.args.self.now.past.items (subst (λ (xs : List Placement). KeepsNone c.args.self.now.net.state.place xs c.args.version) c.deref.ensures.value (c.in_default-kept_of.ensures.none refl)); same = same_members c.args.self.now _ _ _ _ _ _ _ }))

pub read_by-requires-clause-there : goal.read_by-requires-clause-there
read_by-requires-clause-there g c =
    let now = c.args.self.now in
    let used = c.in-Some-kept_of.ensures.some in
    let at : StandsAt now.net.state.place now.past.items c.in-Some-kept_of.kept used.0 = subst (λ (xs : List Placement). StandsAt now.net.state.place xs c.in-Some-kept_of.kept used.0) c.deref.ensures.value used.1 in
    (used.0, subst (λ (xs : List Placement). StandsAt now.net.state.place xs c.in-Some-kept_of.kept used.0) (sym c.deref_mut.ensures.value) at, may_use now.net now.past.items c.in-Some-kept_of.kept used.0 c.requires.ready c.requires.past at)

pub returns-clause-past : goal.returns-clause-past
returns-clause-past g c =
    let now = c.args.self.now in
    serves_after now.net.state c.read_by.new.net.state now.net.replicas c.read_by.new.net.replicas now.net.bag c.read_by.new.net.bag now.past.items _ c.requires.past c.read_by.ensures.callable c.read_by.ensures.state
    (items_back now.past.len now.past.items c.read_by.new.past _ (c.read_by.ensures.past ∙ c.deref_mut.ensures.value) (sym now.past.ok.0))

pub returns-clause-fetched : goal.returns-clause-fetched
returns-clause-fetched g c =
    let now = c.args.self.now in
    let used = c.in-Some-kept_of.ensures.some in
    let at = subst (λ (xs : List Placement). StandsAt now.net.state.place xs c.in-Some-kept_of.kept used.0) (c.deref.ensures.value ∙ sym c.deref_mut.ensures.value) used.1 in
    let uses = subst (λ (xs : List Placement). Uses now.net.state.place xs c.args.version used.0) c.deref.ensures.value used.2 in
    inr (record {
      position = c.in-Some.position;
      found = cc;
      answers = went_by now c.args.version _ c.read_by.new.net used.0 uses (c.read_by.ensures.by used.0 at);
      keeps = record {
        state = c.read_by.ensures.state;
        past = items_back now.past.len now.past.items c.read_by.new.past _ (c.read_by.ensures.past ∙ c.deref_mut.ensures.value) (sym now.past.ok.0);
        fates = c.read_by.ensures.fates;
        slots = refl;
        stopped = refl;
      };
      bag = c.read_by.ensures.bag;
    })
