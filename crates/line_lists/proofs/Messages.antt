-- The messages of fates, gathered in a set.
use Rattle.std.proofs.Common.{◌≡◌, ℕ, suc, ◌+◌, ◌<◌, List, [], ◌∷◌, drop, length, get_or, refl, sym, ap, subst, ◌∙◌, add-one, true, false}
use Rattle.std.specs.Prelude.{Bool, not, cond, ◌&&◌, ◌||◌, nat_eq}
use Rattle.std.specs.BTreeSet.{BTreeSet, contains}
use Rattle.std.specs.Cmp.{both_tied, unsigned_ties}
use Rattle.std.specs.Cmp.Lexicographic.{pointwise, slice_cmp, texts_ties}
use Rattle.std.specs.List.{list_any}
use Rattle.std.specs.Ordering.{nat_cmp, ordering_then, eq_by_cmp}
use Rattle.std.specs.declared.cmp.Ordering.{Ordering}
use Rattle.std.proofs.Math.Bool.{or-true}
use Rattle.m3_model.specs.declared.act.Fate.{Fate}
use Rattle.line_lists.specs.Fates.{is_same_message, messages_differ}
use Rattle.line_lists.proofs.Differ.{none_of}
use Rattle.line_lists.proofs.Entries.{drop_at}

-- the order of messages: by client, then by its call, then by node
abbrev pub message_cmp : ℕ × ℕ × List ℕ → ℕ × ℕ × List ℕ → Ordering
message_cmp a b = ordering_then (ordering_then (nat_cmp a.0 b.0) (nat_cmp a.1 b.1)) (slice_cmp nat_cmp a.2 b.2)

-- the message whose fate it is
abbrev pub message_of : ℕ × ℕ × List ℕ × Fate → ℕ × ℕ × List ℕ
message_of fate = (fate.0, fate.1, fate.2)

-- whether the message of a fate was seen
abbrev pub is_seen : BTreeSet (ℕ × ℕ × List ℕ) → ℕ × ℕ × List ℕ × Fate → Bool
is_seen seen fate = contains message_cmp seen (message_of fate)

-- whether the messages of these fates differ from each other and from those that were seen
abbrev pub are_new : BTreeSet (ℕ × ℕ × List ℕ) → List (ℕ × ℕ × List ℕ × Fate) → Bool
are_new seen fates = not (list_any (is_seen seen) fates) && messages_differ fates

same_message : (a b : ℕ × ℕ × List ℕ × Fate) → is_same_message a b ≡ eq_by_cmp message_cmp (message_of a) (message_of b)
same_message a b =
    both_tied (nat_eq a.0 b.0 && nat_eq a.1 b.1) (pointwise nat_eq a.2 b.2) (ordering_then (nat_cmp a.0 b.0) (nat_cmp a.1 b.1)) (slice_cmp nat_cmp a.2 b.2)
    (both_tied (nat_eq a.0 b.0) (nat_eq a.1 b.1) (nat_cmp a.0 b.0) (nat_cmp a.1 b.1) (unsigned_ties a.0 b.0) (unsigned_ties a.1 b.1)) (texts_ties a.2 b.2)

-- the set has this message now, and all others that it had
abbrev pub Adds : BTreeSet (ℕ × ℕ × List ℕ) → ℕ × ℕ × List ℕ → BTreeSet (ℕ × ℕ × List ℕ) → Type 0
Adds old message new = (q : ℕ × ℕ × List ℕ) → contains message_cmp new q ≡ cond (eq_by_cmp message_cmp message q) true (contains message_cmp old q)

any_added : (old new : BTreeSet (ℕ × ℕ × List ℕ)) (fate : ℕ × ℕ × List ℕ × Fate) → Adds old (message_of fate) new → (fates : List (ℕ × ℕ × List ℕ × Fate)) → list_any (is_seen new) fates ≡ (list_any (is_same_message fate) fates || list_any (is_seen old) fates)
any_added old new fate added [] = refl
any_added old new fate added (one ∷ fates) =
    by (is_seen new one) (is_same_message fate one) (is_seen old one) (list_any (is_seen new) fates) (list_any (is_same_message fate) fates) (list_any (is_seen old) fates)
    (added (message_of one) ∙ ap (λ b. cond b true (is_seen old one)) (sym (same_message fate one))) (any_added old new fate added fates)
  where
    by : (n s o ns ss os : Bool) → n ≡ cond s true o → ns ≡ (ss || os) → (n || ns) ≡ ((s || ss) || (o || os))
    by n true o ns ss os e f = ap (λ b. b || ns) e
    by n false true ns ss os e f = ap (λ b. b || ns) e ∙ sym (or-true ss)
    by n false false ns ss os e f = ap (λ b. b || ns) e ∙ f

one_more_message : (old new : BTreeSet (ℕ × ℕ × List ℕ)) (fate : ℕ × ℕ × List ℕ × Fate) (fates : List (ℕ × ℕ × List ℕ × Fate)) → Adds old (message_of fate) new → is_seen old fate ≡ false → are_new new fates ≡ are_new old (fate ∷ fates)
one_more_message old new fate fates added fresh =
    ap (λ b. not b && messages_differ fates) (any_added old new fate added fates) ∙ by (is_seen old fate) (list_any (is_same_message fate) fates) (list_any (is_seen old) fates) (messages_differ fates) fresh
  where
    by : (o s os d : Bool) → o ≡ false → (not (s || os) && d) ≡ (not (o || os) && (not s && d))
    by true s os d e = cc
    by false true true d e = refl
    by false true false d e = refl
    by false false true d e = refl
    by false false false d e = refl

-- one fate more was seen
pub one_more_fate : (fates : List (ℕ × ℕ × List ℕ × Fate)) (i : ℕ) (fate : ℕ × ℕ × List ℕ × Fate) (old new : BTreeSet (ℕ × ℕ × List ℕ)) (node : List ℕ) → i < length fates → fate ≡ get_or fates i fate → node ≡ fate.2
    → Adds old (fate.0, fate.1, node) new → contains message_cmp old (fate.0, fate.1, node) ≡ false → are_new old (drop i fates) ≡ messages_differ fates → are_new new (drop (i + 1) fates) ≡ messages_differ fates
one_more_fate fates i fate old new node h at_i named added fresh was =
    ap (λ n. are_new new (drop n fates)) (add-one i)
    ∙ one_more_message old new fate (drop (suc i) fates) (subst (λ n. Adds old (fate.0, fate.1, n) new) named added) (ap (λ n. contains message_cmp old (fate.0, fate.1, n)) (sym named) ∙ fresh)
    ∙ ap (are_new old) (sym (drop_at fates i fate h at_i)) ∙ was

-- at first no message was seen
pub none_seen : (seen : BTreeSet (ℕ × ℕ × List ℕ)) → seen.keys ≡ [] → (fates : List (ℕ × ℕ × List ℕ × Fate)) → are_new seen fates ≡ messages_differ fates
none_seen seen empty fates = ap (λ b. not b && messages_differ fates) (none_of (is_seen seen) fates (λ fate inside. ap (list_any (λ k. eq_by_cmp message_cmp (message_of fate) k)) empty))
