-- A flush, after the first few blocks.
use Rattle.std.proofs.Common.{◌≡◌, inl, inr, ⊎_elim, ℕ, ◌+◌, ◌<◌, ◌≤◌, List, [], ◌∷◌, ◌++◌, length, take, get_or, append-nil, refl, sym, ap, subst, ◌∙◌, arith, Bool, true, false, cond, ◌&&◌, rules}
use Rattle.std.specs.Prelude.{◌==◌, Some, filter, slice_get}
use Rattle.std.proofs.lemmas.List.{length-take, length_push, take-append-drop, take_all}
use Rattle.std.proofs.lemmas.List.Elements.{filter_more}
use Rattle.std.proofs.lemmas.List.Sums.{count_by-le-length, length-filter}
use Rattle.std.proofs.lemmas.Bool.{eqb-true, eq-eqb}
use Rattle.m3_model.specs.Ascends.{Ascends}
use Rattle.m3_model.specs.Contents.{Contents}
use Rattle.m3_model.specs.Members.{IsIn}
use Rattle.m3_model.specs.declared.rules.Rules.{Rules}
use Rattle.m3_model.proofs.MemberLemmas.{IsIn-append_left, IsIn-append_right}
use Rattle.m3_outside.specs.DiskState.{DiskState}
use Rattle.std.specs.List.{All}
use Rattle.store_log.specs.listed_volumes.block_buffer.Blocks.{IsBefore, IsClosedBlocksOf}
use Rattle.store_log.proofs.listed_volumes_proofs.block_buffer_proofs.ClosedLemmas.{all_blocks, all_are, closed_are}
use Rattle.store_log.specs.listed_volumes.block_buffer.Held.{is_in_block, without}
use Rattle.store_log.specs.listed_volumes.shard_files.Keeps.{Rearranges}
use Rattle.store_log.specs.listed_volumes.shard_files.Steps.{next_volume}
use Rattle.store_log.proofs.listed_volumes_proofs.shard_files_proofs.CountedLemmas.{IsIn-filter}
use Rattle.shard_store.specs.Blocks.{IsOneVolume, OtherNumbersStay}
use Rattle.shard_store.specs.Flushes.{AreFlushed, AreFlushedTo, block_size, ended_size, is_in, is_in_one, may_be_flushed}
use Rattle.store_log.specs.listed_volumes.Listed.{known_in}
use Rattle.shard_store.specs.StoreParts.{IsCachedIn, IsCountedIn, IsOpenOn, content_of_opened}
use Rattle.shard_store.specs.declared.opened.Opened.{Opened}
use Rattle.shard_store.proofs.FlushedLemmas.{IsAligned, blocks_aligned, flushed_more, has_ended_size, without_more}
use Rattle.shard_store.proofs.ListLemmas.{first_more}
use Rattle.shard_store.proofs.PointLemmas.{fewer_has, has_fewer, has_holds, same_by_points}
use Rattle.shard_store.proofs.RearrangeLemmas.{rearranges_left, rearranges_then}
use Rattle.store_log.proofs.listed_volumes_proofs.commit_log_proofs.Leaves.{leaves_none}

-- those of the first i blocks that may be flushed
abbrev pub flushed_of : Rules → List (ℕ × ℕ) → ℕ → List (ℕ × ℕ)
flushed_of rules blocks i = filter (may_be_flushed rules) (take i blocks)

pub record Flushing (rules : Rules) (blocks : List (ℕ × ℕ)) (i written : ℕ) (first now : Opened) (old new : DiskState) : Type 0 where
  pub kept : IsOpenOn now new
  pub counted : IsCountedIn first old → IsCountedIn now new
  pub cached : IsCachedIn first old → IsCachedIn now new
  pub numbers : (now.tenure ≡ first.tenure) × (now.fence ≡ first.fence)
  pub count : written ≡ length (flushed_of rules blocks i)
  pub held : now.held.points ≡ without first.held.points (is_in_one rules (flushed_of rules blocks i))
  pub content : old.tells ≡ true → content_of_opened now ≡ content_of_opened first
  pub volumes : old.tells ≡ true → AreFlushedTo rules first.held.points (flushed_of rules blocks i) (known_in first.volumes.items) old.files (known_in now.volumes.items)
  pub nexts : old.tells ≡ true → (n s : ℕ) → (IsIn (flushed_of rules blocks i) (n, s) → ⊥) → next_volume n s new.files ≡ next_volume n s old.files
  pub disk : Rearranges (content_of_opened first) ⊥ old new

-- an element stands before all later ones
stands_before : {X : Type 0} (Before : X → X → Type 0) (xs : List X) (y : X) → Ascends Before (xs ++ y ∷ []) → (x : X) → IsIn xs x → Before x y
stands_before Before [] y up x m = absurd m
stands_before {X} Before (z ∷ xs) y up x m =
    ⊎_elim (λ (e : z ≡ x). subst (λ (w : X). Before w y) e (up.0 y (IsIn-append_right xs (y ∷ []) y (inl refl)))) (λ (rest : IsIn xs x). stands_before Before xs y up.1 x rest) m

ascends_front : {X : Type 0} (Before : X → X → Type 0) (xs ys : List X) → Ascends Before (xs ++ ys) → Ascends Before xs
ascends_front Before [] ys up = tt
ascends_front Before (x ∷ xs) ys up = ((λ y m. up.0 y (IsIn-append_left xs ys y m)), ascends_front Before xs ys up.1)

module _ (rules : Rules) (blocks : List (ℕ × ℕ)) (i : ℕ) (b : ℕ × ℕ) (lt : i < length blocks) (is : b ≡ get_or blocks i b) where
  abbrev done : List (ℕ × ℕ)
  done = flushed_of rules blocks i

  next_is : flushed_of rules blocks (i + 1) ≡ done ++ cond (may_be_flushed rules b) (b ∷ []) []
  next_is = filter_more (may_be_flushed rules) blocks i b lt ∙ ap (λ (a : ℕ × ℕ). done ++ cond (may_be_flushed rules a) (a ∷ []) []) (sym is)

  pub more_is : may_be_flushed rules b ≡ true → flushed_of rules blocks (i + 1) ≡ done ++ b ∷ []
  more_is t = next_is ∙ ap (λ (c : Bool). done ++ cond c (b ∷ []) []) t

  pub still_is : may_be_flushed rules b ≡ false → flushed_of rules blocks (i + 1) ≡ done
  still_is t = next_is ∙ ap (λ (c : Bool). done ++ cond c (b ∷ []) []) t ∙ append-nil done

  before_itself : (a : ℕ × ℕ) → IsBefore a a → ⊥
  before_itself a (inl lt) = absurd (omega (arith, lt))
  before_itself a (inr same) = let lt = same.1 in absurd (omega (arith, lt))

  -- the next block isn't among those so far
  pub next_fresh : Ascends IsBefore blocks → IsIn done b → ⊥
  next_fresh up m =
      let front : Ascends IsBefore (take (i + 1) blocks) = ascends_front IsBefore (take (i + 1) blocks) _ (subst (Ascends IsBefore) (sym (take-append-drop (i + 1) blocks)) up) in
      before_itself b (stands_before IsBefore (take i blocks) b (subst (Ascends IsBefore) (first_more blocks i b lt is) front) b (IsIn-filter (may_be_flushed rules) (take i blocks) b m))

  module _ (written : ℕ) (first now : Opened) (old new : DiskState) (so_far : Flushing rules blocks i written first now old new) where
    -- a block that isn't flushed
    pub flushing_still : may_be_flushed rules b ≡ false → Flushing rules blocks (i + 1) written first now old new
    flushing_still t =
        let same = sym (still_is t) in
        record {
          kept = so_far.kept;
          counted = so_far.counted;
          cached = so_far.cached;
          numbers = so_far.numbers;
          count = so_far.count ∙ ap (λ (l : List (ℕ × ℕ)). length l) same;
          held = so_far.held ∙ ap (λ (l : List (ℕ × ℕ)). without first.held.points (is_in_one rules l)) same;
          content = so_far.content;
          volumes = λ told. subst (λ (l : List (ℕ × ℕ)). AreFlushedTo rules first.held.points l (known_in first.volumes.items) old.files (known_in now.volumes.items)) same (so_far.volumes told);
          nexts = λ told n s none. so_far.nexts told n s (λ m. none (subst (λ (l : List (ℕ × ℕ)). IsIn l (n, s)) same m));
          disk = so_far.disk;
        }

    module _ (later : Opened) (last : DiskState) (fresh : IsIn done b → ⊥) (aligned : (a : ℕ × ℕ) → IsIn blocks a → IsAligned rules a) (b_in : IsIn blocks b) where
      of_done : (a : ℕ × ℕ) → IsIn done a → IsIn blocks a
      of_done a m = subst (λ l. IsIn l a) (take-append-drop i blocks) (IsIn-append_left (take i blocks) _ a (IsIn-filter (may_be_flushed rules) (take i blocks) a m))

      eq_itself : (a : ℕ) → (a == a) ≡ true
      eq_itself a = eq-eqb a a refl

      other_of : (n s : ℕ) → (IsIn (done ++ b ∷ []) (n, s) → ⊥) → ((n == b.0) && (s == b.1)) ≡ false
      other_of n s none = by (n == b.0) (s == b.1) refl refl
        where
          by : (x y : Bool) → (n == b.0) ≡ x → (s == b.1) ≡ y → (x && y) ≡ false
          by true true e f =
              let one = eqb-true n b.0 e in
              let two = eqb-true s b.1 f in
              let same : b ≡ (n, s) = λ i. (sym one i, sym two i) in
              absurd (none (IsIn-append_right done (b ∷ []) (n, s) (inl same)))
          by true false e f = refl
          by false y e f = refl

      -- a block that is flushed
      pub flushing_more : may_be_flushed rules b ≡ true → IsOpenOn later last → (IsCountedIn now new → IsCountedIn later last) → (IsCachedIn now new → IsCachedIn later last) → (later.tenure ≡ now.tenure) × (later.fence ≡ now.fence) → later.held.points ≡ without now.held.points (is_in rules b)
          → (new.tells ≡ true → content_of_opened later ≡ content_of_opened now)
          → (new.tells ≡ true → IsOneVolume b.0 b.1 (block_size rules b.0) now.held.points (known_in now.volumes.items) new.files (known_in later.volumes.items))
          → (new.tells ≡ true → OtherNumbersStay b.0 b.1 new.files last.files) → Rearranges (content_of_opened now) ⊥ new last → Flushing rules blocks (i + 1) (written + 1) first later old last
      flushing_more t kept counted cached numbers held content one others disk =
          let same = sym (more_is t) in
          let told_of = λ (told : old.tells ≡ true). so_far.disk.tells ∙ told in
          record {
            kept = kept;
            counted = λ has. counted (so_far.counted has);
            cached = λ has. cached (so_far.cached has);
            numbers = (numbers.0 ∙ so_far.numbers.0, numbers.1 ∙ so_far.numbers.1);
            count = ap (λ n. n + 1) so_far.count ∙ sym (length_push done b) ∙ ap (λ (l : List (ℕ × ℕ)). length l) same;
            held = held ∙ ap (λ c. without c (is_in rules b)) so_far.held ∙ without_more rules first.held.points done b ∙ ap (λ (l : List (ℕ × ℕ)). without first.held.points (is_in_one rules l)) same;
            content = λ told. content (told_of told) ∙ so_far.content told;
            volumes = λ told. subst (λ (l : List (ℕ × ℕ)). AreFlushedTo rules first.held.points l (known_in first.volumes.items) old.files (known_in later.volumes.items)) same
                (flushed_more rules first.held.points (known_in first.volumes.items) old.files done b fresh (λ a m. aligned a (of_done a m)) (aligned b b_in) (known_in now.volumes.items) new.files (so_far.volumes told) (so_far.nexts told) (known_in later.volumes.items)
                (subst (λ c. IsOneVolume b.0 b.1 (block_size rules b.0) c (known_in now.volumes.items) new.files (known_in later.volumes.items)) so_far.held (one (told_of told))));
            nexts = λ told n s none.
                let out : IsIn (done ++ b ∷ []) (n, s) → ⊥ = λ m. none (subst (λ (l : List (ℕ × ℕ)). IsIn l (n, s)) same m) in
                others (told_of told) n s (other_of n s out) ∙ so_far.nexts told n s (λ m. out (IsIn-append_left done (b ∷ []) (n, s) m));
            disk = rearranges_then (content_of_opened first) (content_of_opened now) ⊥ old new last so_far.content so_far.disk disk;
          }

      -- one of this size, which has ended
      pub flushing_ended : (size : ℕ) → ended_size (slice_get rules.spaces b.0) b.1 rules.now ≡ Some size → IsOpenOn later last → (IsCountedIn now new → IsCountedIn later last) → (IsCachedIn now new → IsCachedIn later last) → (later.tenure ≡ now.tenure) × (later.fence ≡ now.fence) → later.held.points ≡ without now.held.points (is_in_block b.0 b.1 size)
          → (new.tells ≡ true → content_of_opened later ≡ content_of_opened now)
          → (new.tells ≡ true → IsOneVolume b.0 b.1 size now.held.points (known_in now.volumes.items) new.files (known_in later.volumes.items))
          → (new.tells ≡ true → OtherNumbersStay b.0 b.1 new.files last.files) → Rearranges (content_of_opened now) ⊥ new last → Flushing rules blocks (i + 1) (written + 1) first later old last
      flushing_ended size ended kept counted cached numbers held content one others disk =
          let over = has_ended_size (slice_get rules.spaces b.0) b.1 rules.now size ended in
          flushing_more over.0 kept counted cached numbers (subst (λ (n : ℕ). later.held.points ≡ without now.held.points (is_in_block b.0 b.1 n)) over.1 held) content
          (λ told. subst (λ (n : ℕ). IsOneVolume b.0 b.1 n now.held.points (known_in now.volumes.items) new.files (known_in later.volumes.items)) over.1 (one told)) others disk

-- before the first block
pub flushing_none : (rules : Rules) (blocks : List (ℕ × ℕ)) (first : Opened) (d : DiskState) → IsOpenOn first d → Flushing rules blocks 0 0 first first d d
flushing_none rules blocks first d kept = record {
  kept = kept;
  counted = λ has. has;
  cached = λ has. has;
  numbers = (refl, refl);
  count = refl;
  held = same_by_points _ _ (λ p h. has_holds (without first.held.points (is_in_one rules [])) p (fewer_has first.held.points (is_in_one rules []) p h refl)) (λ p h. has_holds first.held.points p (has_fewer first.held.points (is_in_one rules []) p h));
  content = λ told. refl;
  volumes = λ told. record { written = λ a m. absurd m; alone = λ a m. absurd m; others = λ k none. ((λ m. m), (λ m. m)) };
  nexts = λ told n s none. refl;
  disk = rearranges_left first.held.points (known_in first.volumes.items) first.tenure first.fence ⊥ d d kept.exact (leaves_none ⊥ d (λ f. f));
}

-- to leave out twice leaves out once
filter_twice : {X : Type 0} (f : X → Bool) (xs : List X) → filter f (filter f xs) ≡ filter f xs
filter_twice f [] = refl
filter_twice f (x ∷ xs) = by (f x) refl (filter_twice f xs)
  where
    by : (b : Bool) → f x ≡ b → filter f (filter f xs) ≡ filter f xs → filter f (cond b (x ∷ filter f xs) (filter f xs)) ≡ cond b (x ∷ filter f xs) (filter f xs)
    by true t twice = ap (λ c. cond c (x ∷ filter f (filter f xs)) (filter f (filter f xs))) t ∙ ap (λ l. x ∷ l) twice
    by false t twice = twice

-- after the last block
pub flushed_all : (rules : Rules) (c : Contents) (blocks : List (ℕ × ℕ)) (i : ℕ) → length blocks ≤ i → IsClosedBlocksOf rules c blocks → AreFlushed rules c (flushed_of rules blocks i)
flushed_all rules c blocks i le of = record {
  all = all_blocks rules c;
  are = all_are rules c;
  is = ap (filter (may_be_flushed rules)) (take_all i blocks le ∙ closed_are rules c blocks of) ∙ filter_twice (may_be_flushed rules) (all_blocks rules c);
}

-- each of the blocks is one of all that have points
pub closed_aligned : (rules : Rules) (c : Contents) (blocks : List (ℕ × ℕ)) → All (λ space. 0 < space.block) rules.spaces → IsClosedBlocksOf rules c blocks → (a : ℕ × ℕ) → IsIn blocks a → IsAligned rules a
closed_aligned rules c blocks sizes of a m = let held = of.held a m in blocks_aligned rules c (all_blocks rules c) sizes (all_are rules c) a ((all_are rules c).whole a held.0 held.1 held.2)

-- they are no more than the blocks so far
pub flushed_few : (rules : Rules) (blocks : List (ℕ × ℕ)) (i : ℕ) → length (flushed_of rules blocks i) ≤ i
flushed_few rules blocks i =
    let same = length-filter (may_be_flushed rules) (take i blocks) in
    let few = count_by-le-length (may_be_flushed rules) (take i blocks) in
    let first = length-take i blocks in
    omega (arith, same, few, first)
