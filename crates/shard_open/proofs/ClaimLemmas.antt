-- Ranges that are asked for, the blocks of them, and who claims which.
use Rattle.std.proofs.Common.{◌≡◌, ℕ, zero, suc, max, ◌++◌, List, [], ◌∷◌, Bool, true, false, cond, refl, sym, ap, ◌∙◌, inl, inr, true≢false, ◌==◌}
use Rattle.m3_model.specs.declared.limits.TheConstants.{MOST_NAMESPACES}
use Rattle.boot_chain.specs.Chains.{after_files, after_log, after_peers, after_fresh}
use Rattle.boot_chain.specs.Ranges.{range_eq, IsSublist, left_of}
use Rattle.boot_chain.specs.declared.chain.Claims.{Claims}
use Rattle.boot_chain.specs.declared.range.Range.{Range}
use Rattle.boot_chain.proofs.PartLemmas.{range_eq-true, range_eq-refl, sublist_later, sublist_tail, sublist_whole, left_of-all}
use Rattle.shard_open.specs.Claims.{end_of, before_block, in_block, ranges_from, blocks_from, ranges_below, blocks_below, asked_for, counted_blocks, asked_of, claims_of_files}
use Rattle.shard_open.specs.declared.volumes.OpenVolume.{OpenVolume}

-- ---- the blocks are some of what is asked for

sublist_append : (xs ys us vs : List Range) → IsSublist xs ys → IsSublist us vs → IsSublist (xs ++ us) (ys ++ vs)
sublist_append [] [] us vs h k = k
sublist_append [] (y ∷ ys) us vs h k = sublist_later us (ys ++ vs) y (sublist_append [] ys us vs tt k)
sublist_append (x ∷ xs) [] us vs h k = absurd h
sublist_append (x ∷ xs) (y ∷ ys) us vs h k =
    elim h as (λ _. IsSublist ((x ∷ xs) ++ us) ((y ∷ ys) ++ vs)) [
      | inl here ↦ inl (here.0, sublist_append xs ys us vs here.1 k)
      | inr later ↦ inr (sublist_append (x ∷ xs) ys us vs later k)
    ]

at_volume : (b : Bool) (before own ranges blocks other_ranges other_blocks : List Range) → IsSublist blocks ranges → IsSublist other_blocks other_ranges
    → IsSublist (cond b (own ++ blocks) other_blocks) (cond b ((before ++ own) ++ ranges) other_ranges)
at_volume true before own ranges blocks other_ranges other_blocks h k = sublist_append own (before ++ own) blocks ranges (sublist_append [] before own own tt (sublist_whole own)) h
at_volume false before own ranges blocks other_ranges other_blocks h k = k

blocks_in_ranges : (ns from : ℕ) (volumes : List OpenVolume) → IsSublist (blocks_from ns from volumes) (ranges_from ns from volumes)
blocks_in_ranges ns from [] = tt
blocks_in_ranges ns from (v ∷ volumes) =
    let later = max from (end_of v.volume.head) in
    at_volume (v.volume.head.ns == ns) (before_block from v.volume.head) (in_block from v.volume.head) (ranges_from ns later volumes) (blocks_from ns later volumes) (ranges_from ns from volumes) (blocks_from ns from volumes)
    (blocks_in_ranges ns later volumes) (blocks_in_ranges ns from volumes)

in_ranges_below : (n : ℕ) (volumes : List OpenVolume) → IsSublist (blocks_below n volumes) (ranges_below n volumes)
in_ranges_below zero volumes = tt
in_ranges_below (suc n) volumes = sublist_append (blocks_below n volumes) (ranges_below n volumes) (blocks_from n 0 volumes) (ranges_from n 0 volumes) (in_ranges_below n volumes) (blocks_in_ranges n 0 volumes)

pub blocks_are_asked_for : (volumes : List OpenVolume) → IsSublist (counted_blocks volumes) (asked_for volumes)
blocks_are_asked_for volumes = in_ranges_below MOST_NAMESPACES volumes

-- ---- what is claimed of a list

in_order : (b : Bool) (r : Range) (one two asked : List Range) → IsSublist one asked → IsSublist two asked → IsSublist (cond b (r ∷ one) two) (r ∷ asked)
in_order true r one two asked h k = inl (refl, h)
in_order false r one two asked h k = sublist_later two asked r k

pub asked_in_order : (asked blocks : List Range) → IsSublist (asked_of asked blocks) asked
asked_in_order [] blocks = tt
asked_in_order (r ∷ asked) [] = sublist_later (asked_of asked []) asked r (asked_in_order asked [])
asked_in_order (r ∷ asked) (x ∷ xs) = in_order (range_eq x r) r (asked_of asked xs) (asked_of asked (x ∷ xs)) asked (asked_in_order asked xs) (asked_in_order asked (x ∷ xs))

whole_at : (b : Bool) (r x : Range) (xs one two : List Range) → range_eq x r ≡ b → (b ≡ true → one ≡ xs) → (b ≡ false → two ≡ x ∷ xs) → cond b (r ∷ one) two ≡ x ∷ xs
whole_at true r x xs one two e h k = ap (λ (y : Range). y ∷ one) (sym (range_eq-true x r e)) ∙ ap (λ (l : List Range). x ∷ l) (h refl)
whole_at false r x xs one two e h k = k refl

behind_first : (r x : Range) (xs asked : List Range) → IsSublist (x ∷ xs) (r ∷ asked) → IsSublist xs asked
behind_first r x xs asked h = elim h as (λ _. IsSublist xs asked) [ inl here ↦ here.1 | inr later ↦ sublist_tail x xs asked later ]

behind_other : (r x : Range) (xs asked : List Range) → range_eq x r ≡ false → IsSublist (x ∷ xs) (r ∷ asked) → IsSublist (x ∷ xs) asked
behind_other r x xs asked e h =
    elim h as (λ _. IsSublist (x ∷ xs) asked) [
      | inl here ↦ absurd (true≢false (sym (ap (λ (y : Range). range_eq y r) here.0 ∙ range_eq-refl r) ∙ e))
      | inr later ↦ later
    ]

-- of blocks that are asked for, all are claimed
pub asked_whole : (asked blocks : List Range) → IsSublist blocks asked → asked_of asked blocks ≡ blocks
asked_whole [] [] h = refl
asked_whole [] (x ∷ xs) h = absurd h
asked_whole (r ∷ asked) [] h = asked_whole asked [] tt
asked_whole (r ∷ asked) (x ∷ xs) h =
    whole_at (range_eq x r) r x xs (asked_of asked xs) (asked_of asked (x ∷ xs)) refl (λ _. asked_whole asked xs (behind_first r x xs asked h)) (λ e. asked_whole asked (x ∷ xs) (behind_other r x xs asked e h))

-- ---- the whole chain

claims_are : (claims : Claims) (files log peers fresh left : List Range) → claims.files ≡ files → claims.log ≡ log → claims.peers ≡ peers → claims.fresh ≡ fresh → claims.left ≡ left
    → claims ≡ record { files = files; log = log; peers = peers; fresh = fresh; left = left }
claims_are claims files log peers fresh left is_files is_log is_peers is_fresh is_left =
    ap (λ x. record { files = x; log = claims.log; peers = claims.peers; fresh = claims.fresh; left = claims.left }) is_files
    ∙ ap (λ x. record { files = files; log = x; peers = claims.peers; fresh = claims.fresh; left = claims.left }) is_log
    ∙ ap (λ x. record { files = files; log = log; peers = x; fresh = claims.fresh; left = claims.left }) is_peers
    ∙ ap (λ x. record { files = files; log = log; peers = peers; fresh = x; left = claims.left }) is_fresh
    ∙ ap (λ x. record { files = files; log = log; peers = peers; fresh = fresh; left = x }) is_left

pub held_claims : (asked blocks : List Range) (claims : Claims) → IsSublist blocks asked → claims.files ≡ asked_of asked blocks → claims.log ≡ after_files asked claims → claims.peers ≡ [] → claims.fresh ≡ []
    → claims.left ≡ after_fresh asked claims → claims ≡ claims_of_files asked blocks
held_claims asked blocks claims part files log peers fresh left =
    let of_files : claims.files ≡ blocks = files ∙ asked_whole asked blocks part in
    let rest : after_log asked claims ≡ [] = ap (left_of (after_files asked claims)) log ∙ left_of-all (after_files asked claims) in
    let none : after_fresh asked claims ≡ [] = ap (λ xs. left_of (left_of xs claims.peers) claims.fresh) rest in
    claims_are claims blocks (left_of asked blocks) [] [] [] of_files (log ∙ ap (left_of asked) of_files) peers fresh (left ∙ none)
