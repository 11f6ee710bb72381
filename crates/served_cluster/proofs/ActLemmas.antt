-- What a cluster answers an act, from what its members do.
use Rattle.std.proofs.Common.{◌≡◌, ℕ, List, refl, sym, ap, subst, ◌∙◌, true, false, inr}
use Rattle.std.specs.Prelude.{Option, Some, ◌+◌, min, slice_index, slice_set, replicate}
use Rattle.m3_model.specs.Calls.{is_call}
use Rattle.m3_model.specs.declared.act.Act.{Act}
use Rattle.m3_model.specs.declared.act.Act.TheVariants as act
use Rattle.m3_model.specs.declared.act.Fate.{Fate}
use Rattle.m3_model.specs.declared.answer.Answer.{Answer}
use Rattle.m3_model.specs.declared.answer.Answer.TheVariants as answer
use Rattle.m3_model.specs.declared.limits.TheConstants.{MOST_CLIENTS}
use Rattle.m3_outside.specs.DiskState.{DiskState}
use Rattle.m3_outside.specs.declared.disk.Disk.{Ghosts}
use Rattle.line_tracks.specs.replica_exchange.declared.call_id.CallId.{CallId}
use Rattle.line_tracks.specs.cluster_members.declared.members.Members.{Members}
use Rattle.line_tracks.specs.node_calls.Nodes.{IsFated}
use Rattle.line_tracks.specs.tracks.Numbers.{after_call, last_number, numbers_by}
use Rattle.line_tracks.specs.tracks.Acts.{Does, OnMembers, next_call}
use Rattle.line_tracks.specs.tracks.Slots.{is_bootstrap}
use Rattle.served_cluster.specs.Acts.{Answers, sets_fates, tends_nodes}
use Rattle.served_cluster.specs.declared.cluster.Cluster.{Cluster}

-- ---- numbers

-- a call takes the next number
numbers_of_call : (a : Act) (b : Answer) (calls : List ℕ) → is_call a ≡ true → numbers_by a b calls ≡ after_call calls
numbers_of_call (act.Write ns id t v level version) b calls is = refl
numbers_of_call (act.Fetch ns id from to level version) b calls is = refl
numbers_of_call (act.Match ns wanted from to level version) b calls is = refl
numbers_of_call _ b calls is = cc

-- what neither is a call nor sets fates takes none
numbers_of_change : (a : Act) (b : Answer) (calls : List ℕ) → is_call a ≡ false → sets_fates a ≡ false → numbers_by a b calls ≡ calls
numbers_of_change (act.Write ns id t v level version) b calls no_call no_fates = cc
numbers_of_change (act.Fetch ns id from to level version) b calls no_call no_fates = cc
numbers_of_change (act.Match ns wanted from to level version) b calls no_call no_fates = cc
numbers_of_change (act.Fates list) b calls no_call no_fates = cc
numbers_of_change _ b calls no_call no_fates = refl

-- what tends to nodes is neither a call nor a bootstrap, and sets no fates
pub tends_alone : (a : Act) → tends_nodes a ≡ true → (is_call a ≡ false) × (sets_fates a ≡ false) × (is_bootstrap a ≡ false)
tends_alone act.Deliver tends = (refl, refl, refl)
tends_alone (act.Stop node) tends = (refl, refl, refl)
tends_alone (act.Restart node pick) tends = (refl, refl, refl)
tends_alone act.Tick tends = (refl, refl, refl)
tends_alone act.Flush tends = (refl, refl, refl)
tends_alone act.Snapshot tends = (refl, refl, refl)
tends_alone act.Status tends = (refl, refl, refl)
tends_alone _ tends = cc

-- fates that weren't set begin no numbering anew
numbers_of_fates : (list : List (ℕ × ℕ × List ℕ × Fate)) (b : Answer) (calls : List ℕ) → (b ≡ answer.Done → ⊥) → numbers_by (act.Fates list) b calls ≡ calls
numbers_of_fates list answer.Done calls other = absurd (other refl)
numbers_of_fates list _ calls other = refl

module _ {D : Type 0} {G : Ghosts D} (state : D → DiskState) (old : Cluster D G) (m : Members D G) (stands : old.members ≡ Some m) where
  -- what the members do is what the cluster does
  on_members : (a : Act) (b : Answer) (g : Members D G) → Does state (next_call old.calls) m a b g → OnMembers old.members (λ k n. Does state (next_call old.calls) k a b n) b (Some g)
  on_members a b g does = subst (λ (o : Option (Members D G)). OnMembers o (λ k n. Does state (next_call old.calls) k a b n) b (Some g)) (sym stands) (g, refl, does)

  -- the number that the next call has
  next_has : (number : ℕ) → number ≡ slice_index old.calls 0 → record { client = 0; number = number } ≡ next_call old.calls
  next_has number is = ap (λ (n : ℕ). record { client = 0; number = n }) is

  -- a call was made
  pub made : (a : Act) (b : Answer) (g : Members D G) (number : ℕ) (id : CallId) (calls : List ℕ) → is_call a ≡ true → number ≡ slice_index old.calls 0 → calls ≡ slice_set old.calls 0 (min (number + 1) last_number) → id ≡ record { client = 0; number = number }
      → Does state id m a b g → Answers state old a b (record { members = Some g; calls = calls })
  made a b g number id calls call is raised named does = record {
    members = on_members a b g (subst (λ (i : CallId). Does state i m a b g) (named ∙ next_has number is) does);
    calls = raised ∙ ap (λ (n : ℕ). slice_set old.calls 0 (min (n + 1) last_number)) is ∙ sym (numbers_of_call a b old.calls call);
  }

  -- there was no number for it
  pub wanted : (a : Act) (number : ℕ) (calls : List ℕ) → is_call a ≡ true → number ≡ slice_index old.calls 0 → calls ≡ slice_set old.calls 0 (min (number + 1) last_number) → number ≡ last_number → Answers state old a answer.Memory (record { members = Some m; calls = calls })
  wanted a number calls call is raised last = record {
    members = on_members a answer.Memory m (unmade a call);
    calls = raised ∙ ap (λ (n : ℕ). slice_set old.calls 0 (min (n + 1) last_number)) is ∙ sym (numbers_of_call a answer.Memory old.calls call);
  }
    where
      unmade : (x : Act) → is_call x ≡ true → Does state (next_call old.calls) m x answer.Memory m
      unmade (act.Write ns id t v level version) it = inr (sym is ∙ last, refl, refl)
      unmade (act.Fetch ns id from to level version) it = inr (sym is ∙ last, refl, refl)
      unmade (act.Match ns wanted from to level version) it = inr (sym is ∙ last, refl, refl)
      unmade _ it = cc

  -- what is no call was done
  pub changed : (a : Act) (b : Answer) (g : Members D G) → is_call a ≡ false → sets_fates a ≡ false → ((id : CallId) → Does state id m a b g) → Answers state old a b (record { members = Some g; calls = old.calls })
  changed a b g no_call no_fates does = record { members = on_members a b g (does (next_call old.calls)); calls = sym (numbers_of_change a b old.calls no_call no_fates) }

  -- fates were set
  pub fated : (list : List (ℕ × ℕ × List ℕ × Fate)) (b : Answer) (g : Members D G) (calls : List ℕ) → b ≡ answer.Done → calls ≡ replicate (MOST_CLIENTS + 1) 0 → IsFated m list b g → Answers state old (act.Fates list) b (record { members = Some g; calls = calls })
  fated list b g calls done anew h = record { members = on_members (act.Fates list) b g h; calls = anew ∙ sym (ap (λ (x : Answer). numbers_by (act.Fates list) x old.calls) done) }

  -- or they weren't, and nothing changed
  pub unfated : (list : List (ℕ × ℕ × List ℕ × Fate)) (b : Answer) (g : Members D G) → (b ≡ answer.Done → ⊥) → IsFated m list b g → Answers state old (act.Fates list) b (record { members = Some g; calls = old.calls })
  unfated list b g other h = record { members = on_members (act.Fates list) b g h; calls = sym (numbers_of_fates list b old.calls other) }

pub same_unfated : {D : Type 0} {G : Ghosts D} (m : Members D G) (list : List (ℕ × ℕ × List ℕ × Fate)) (b : Answer) (g : Members D G) → (b ≡ answer.Done → ⊥) → IsFated m list b g → g ≡ m
same_unfated m list answer.Done g other h = absurd (other refl)
same_unfated m list (answer.Unknown name) g other h = h.1
same_unfated m list answer.Memory g other h = h
same_unfated m list _ g other h = absurd h
