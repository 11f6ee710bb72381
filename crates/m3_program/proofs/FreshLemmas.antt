-- A cluster that was just opened.
use Rattle.std.specs.Prelude.{Option, Some, None}
use Rattle.std.proofs.Common.{◌≡◌, true, false, ap, inl, inr}
use Rattle.m3_model.specs.declared.rules.MetaState.{MetaState}
use Rattle.m3_outside.specs.DiskState.{DiskState}
use Rattle.m3_outside.specs.declared.disk.Disk.{Ghosts}
use Rattle.m3_outside.specs.Depots.{Depot}
use Rattle.saved_cluster.specs.first_cluster.Depots.{meta_slot}
use Rattle.saved_cluster.specs.first_cluster.Slots.{slots_of}
use Rattle.saved_cluster.specs.served_cluster.Plans.{state_of}
use Rattle.saved_cluster.specs.Openings.{IsOpened, OpensWith}
use Rattle.saved_cluster.specs.Saved.{IsSaved}
use Rattle.saved_cluster.specs.declared.saved.SavedCluster.{SavedCluster}
use Rattle.saved_cluster.proofs.OutLemmas.{meta_at}
use Rattle.saved_cluster.proofs.first_cluster_proofs.SlotLists.{in_or_out}
use Rattle.m3_program.specs.Saved.{IsFound}
use Rattle.m3_program.specs.Streams.{IsFresh, stage}

module _ {D : Type 0} {G : Ghosts D} (state : D → DiskState) (before now : Depot D) (c : SavedCluster D G) (opened : IsOpened state before now c) where
  pub is_found : IsFound state before (state_of c.cluster)
  is_found = record { disk = opened.disk; is_meta = opened.is_meta; last = opened.last }

  -- the slot of the meta disk, which was out, shows the count that it showed
  pub meta_stays : now.counted meta_slot ≡ opened.mid.counted meta_slot
  meta_stays = by (state_of c.cluster) opened.opens
    where
      by : (o : Option MetaState) → OpensWith state o opened.mid now c.cluster.members → now.counted meta_slot ≡ opened.mid.counted meta_slot
      by None opens = ap (λ (d : Depot D). d.counted meta_slot) opens.1
      by (Some s) (m, is, reopened) =
          elim (in_or_out (slots_of s.place) meta_at) as (λ _. now.counted meta_slot ≡ opened.mid.counted meta_slot) [
            | inl i ↦ (reopened.gained.gained meta_at i).counted
            | inr out ↦ (reopened.gained.others meta_at out).counted
          ]

  -- no request was served yet
  pub is_fresh : IsSaved (state_of c.cluster) (state c.meta) → IsFresh state (stage c now)
  is_fresh saved = record { saved = saved; untold = record { lay = opened.mid; each = λ past. opened.tracks false past (λ is. absurd (never is)) (λ is. absurd (never is)) } }
    where
      never : false ≡ true → ⊥
      never is = cc
