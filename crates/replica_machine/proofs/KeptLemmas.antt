-- What stays as it is keeps what it has.
use Rattle.std.proofs.Common.{◌≡◌, inl, refl, sym, ap, subst, ◌∙◌, ℕ, true, List, Bool, false, arith}
use Rattle.std.specs.Prelude.{Some}
use Rattle.std.specs.FinMap.{empty, get-empty}
use Rattle.m3_model.specs.Answers.{HasPoint}
use Rattle.m3_model.specs.Contents.{Contents, key_of}
use Rattle.m3_model.specs.Keys.{key_cmp}
use Rattle.m3_model.specs.declared.replica.Standing.{Standing}
use Rattle.m3_model.specs.declared.replica.Standing.TheVariants as standing
use Rattle.m3_model.specs.declared.reason.Reason.{Reason}
use Rattle.m3_model.specs.Members.{IsIn}
use Rattle.m3_model.specs.declared.point.Point.{Point}
use Rattle.m3_model.specs.declared.rules.Rules.{Rules}
use Rattle.m3_outside.specs.Files.{Files}
use Rattle.m3_outside.specs.DiskState.{DiskState, EachImage, Elapses}
use Rattle.shard_store.specs.block_buffer.Held.{without, has_expired}
use Rattle.shard_store.proofs.block_buffer_proofs.LawLemmas.{expires}
use Rattle.shard_store.specs.shard_files.Keeps.{Keeps, Rearranges}
use Rattle.shard_store.proofs.shard_files_proofs.FilesHoldLemmas.{files_hold_one}
use Rattle.shard_store.specs.Stores.{HoldsOpened, StoreState, closed_over}
use Rattle.cluster_core.specs.Refusals.{shut}
use Rattle.shard_store.proofs.LogStepLemmas.{counts_same}
use Rattle.shard_store.proofs.PointLemmas.{fewer_has, has_fewer}
use Rattle.replica_machine.specs.Machines.{IsStoreOf}
use Rattle.replica_machine.specs.Rearranged.{KeepsLive, KeepsImages}

-- files that have each point of a content keep it
keeps_itself : (kept content : Contents) (tenure fence : ℕ) (c : Files) → ((p : Point) → HasPoint kept p → HasPoint content p) → HoldsOpened content tenure fence c → Keeps kept c c
keeps_itself kept content tenure fence c of has = record {
  held = λ before t f held.
      let same = (files_hold_one has.points before tenure t fence f c has.held held).0 in
      record { points = before; held = held; sheds = record { nothing_else = λ p m. m; whole = λ p h. subst (λ (ps : List Point). IsIn ps p) same (has.all p (of p h)) } };
  snapshots = λ whole. whole;
}

elapses_itself : (step : Files → Files → Type 0) (d : DiskState) → ((c : Files) → d.images c → step c c) → Elapses step d d
elapses_itself step d same = record {
  later = omega arith;
  images = λ c image. record { before = c; was = image; stepped = same c image };
  nothing_else = λ t c le since. inl since;
  keeps = λ t c le since. since;
}

rearranges_itself : (kept : Contents) (F : Type 0) (d : DiskState) → (F → ⊥) → (d.tells ≡ true → (c : Files) → d.images c → Keeps kept c c) → Rearranges kept F d d
rearranges_itself kept F d never same = record { any_moment = λ told. elapses_itself (Keeps kept) d (same told); tells = refl; faults = counts_same F _ never }

-- a call of an open store that did nothing
pub rearranges_open : (kept content : Contents) (tenure fence : ℕ) (F : Type 0) (d : DiskState) → (F → ⊥) → ((p : Point) → HasPoint kept p → HasPoint content p) → EachImage d (HoldsOpened content tenure fence) → Rearranges kept F d d
rearranges_open kept content tenure fence F d never of each = rearranges_itself kept F d never (λ told c image. keeps_itself kept content tenure fence c of (each told c image))

-- a call that keeps nothing and did nothing
pub rearranges_empty : (kept : Contents) (F : Type 0) (d : DiskState) → (F → ⊥) → ((p : Point) → HasPoint kept p → ⊥) → Rearranges kept F d d
rearranges_empty kept F d never none = rearranges_itself kept F d never (λ told c image. record {
  held = λ before t f held. record { points = before; held = held; sheds = record { nothing_else = λ p m. m; whole = λ p h. absurd (none p h) } };
  snapshots = λ whole. whole;
})

pub images_of : (kept : Contents) (F : Type 0) (old new : DiskState) → Rearranges kept F old new → KeepsImages kept old new
images_of kept F old new moves = record { tells = moves.tells; images = λ told c image. (moves.any_moment told).images c image }

-- what hasn't expired is kept
pub live_kept : (rules : Rules) (content : Contents) → KeepsLive rules content (without content (has_expired rules))
live_kept rules content p has stays = fewer_has content (has_expired rules) p has (by (has_expired rules (key_of p)) refl)
  where
    by : (b : Bool) → has_expired rules (key_of p) ≡ b → has_expired rules (key_of p) ≡ false
    by true e = absurd (stays ((expires rules p).0 e))
    by false e = e

pub fewer : (rules : Rules) (content : Contents) (p : Point) → HasPoint (without content (has_expired rules)) p → HasPoint content p
fewer rules content p h = has_fewer content (has_expired rules) p h

-- ---- a machine that isn't open

closed_by : {D : Type 0} (s : Standing) (store : StoreState D) (why : Reason) → IsStoreOf s store → shut s ≡ Some why → store ≡ closed_over store.disk
closed_by standing.Down store why of first = of
closed_by standing.Boot store why of first = of
closed_by standing.Open store why of first = absurd (cc)

-- has no points
pub no_points : {D : Type 0} (s : Standing) (store : StoreState D) (why : Reason) → IsStoreOf s store → shut s ≡ Some why → (p : Point) → HasPoint store.content p → ⊥
no_points s store why of first p has =
    let none : store.content ≡ empty = ap (λ (x : StoreState _). x.content) (closed_by s store why of first) in
    let at = subst (λ (c : Contents). HasPoint c p) none has in
    let wrong = sym (get-empty key_cmp (key_of p)) ∙ at in
    absurd (cc)
