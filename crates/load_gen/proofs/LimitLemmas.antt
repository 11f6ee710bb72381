-- Each request of a script keeps to the limits.
use Rattle.std.proofs.Common.{◌≡◌, ◌≢◌, ◌++◌, ◌<◌, ◌≤◌, ℕ, suc, zero, List, [], ◌∷◌, Bool, true, false, length, cond, refl, sym, ap, subst, ◌∙◌, inl, inr, arith}
use Rattle.std.specs.Prelude.{◌==◌, ◌%◌, codes, decimal}
use Rattle.std.proofs.lemmas.Bool.{and_from, le-leb}
use Rattle.std.proofs.lemmas.Fmt.{IsAscii-decimal, length-decimal-le}
use Rattle.std.proofs.lemmas.Str.{IsUtf8-from_ascii, IsAscii-append}
use Rattle.std.specs.Str.{IsAscii}
use Rattle.m3_model.specs.Identifiers.{IsIdentifier}
use Rattle.m3_model.specs.Limits.{KeepsLimits, IsNamed}
use Rattle.m3_model.specs.Members.{IsIn}
use Rattle.m3_model.proofs.MemberLemmas.{IsIn-append_cases}
use Rattle.m3_model.specs.declared.turn.Request.{Request}
use Rattle.load_gen.specs.Draws.{drawn, draw, after_writes}
use Rattle.load_gen.specs.Lines.{init_line, namespace_line, now_line, write_line, replace_line, bootstrap_line, flush_line, snapshot_line, match_line}
use Rattle.load_gen.specs.Script.{moment_of, writes, move_at, flushes_at, round, rounds, script}
use Rattle.load_gen.proofs.LeftLemmas.{rounds-none, rounds-more}

-- each of some requests does
AllKeep : List Request → Type 0
AllKeep xs = (r : Request) → IsIn xs r → KeepsLimits r

none_keep : AllKeep []
unfolding AllKeep
none_keep r h = absurd h

one_keeps : (x : Request) (xs : List Request) → KeepsLimits x → AllKeep xs → AllKeep (x ∷ xs)
unfolding AllKeep
one_keeps x xs here later r h = elim h as (λ _. KeepsLimits r) [ inl same ↦ subst KeepsLimits same here | inr behind ↦ later r behind ]

both_keep : (xs ys : List Request) → AllKeep xs → AllKeep ys → AllKeep (xs ++ ys)
unfolding AllKeep
both_keep xs ys one other r h = elim (IsIn-append_cases xs ys r h) as (λ _. KeepsLimits r) [ inl a ↦ one r a | inr b ↦ other r b ]

if_keeps : (b : Bool) (one other : Request) → KeepsLimits one → KeepsLimits other → AllKeep (cond b (one ∷ other ∷ []) [])
if_keeps true one other h g = one_keeps one (other ∷ []) h (one_keeps other [] g none_keep)
if_keeps false one other h g = none_keep

nodes_named : (node : List ℕ × List ℕ) → IsIn ((codes "a", codes "g1") ∷ (codes "b", codes "g2") ∷ (codes "c", codes "g3") ∷ []) node → IsNamed node
nodes_named node (inl a) = subst IsNamed a (refl, refl)
nodes_named node (inr (inl b)) = subst IsNamed b (refl, refl)
nodes_named node (inr (inr (inl c))) = subst IsNamed c (refl, refl)
nodes_named node (inr (inr (inr none))) = absurd none

letters_differ : (a b : ℕ) (node : List ℕ × List ℕ) → a ≢ b → node.0 ≡ b ∷ [] → (a ∷ []) ≢ node.0
letters_differ a b node ne is e =
    let whole : ◌≡◌ {A = List ℕ} (a ∷ []) (b ∷ []) = e ∙ is in
    let same : a ≡ b = cc in
    ne same

name_of : (one other : List ℕ × List ℕ) → one ≡ other → other.0 ≡ one.0
name_of one other same = sym (ap (λ (node : List ℕ × List ℕ). node.0) same)

not_a : (node : List ℕ × List ℕ) → IsIn ((codes "b", codes "g2") ∷ (codes "c", codes "g3") ∷ []) node → codes "a" ≢ node.0
not_a node (inl b) = letters_differ 97 98 node (λ e. absurd (omega (arith, e))) (name_of (codes "b", codes "g2") node b)
not_a node (inr (inl c)) = letters_differ 97 99 node (λ e. absurd (omega (arith, e))) (name_of (codes "c", codes "g3") node c)
not_a node (inr (inr none)) = absurd none

not_b : (node : List ℕ × List ℕ) → IsIn ((codes "c", codes "g3") ∷ []) node → codes "b" ≢ node.0
not_b node (inl c) = letters_differ 98 99 node (λ e. absurd (omega (arith, e))) (name_of (codes "c", codes "g3") node c)
not_b node (inr none) = absurd none

init_keeps : KeepsLimits init_line
init_keeps = record {
  some_replicas = omega arith;
  few_replicas = omega arith;
  some_shards = omega arith;
  few_shards = omega arith;
  seed_fits = omega arith;
  some_nodes = omega arith;
  few_nodes = omega arith;
  named = nodes_named;
  distinct = (not_a, (not_b, ((λ y h. absurd h), tt)));
}

namespace_keeps : KeepsLimits namespace_line
namespace_keeps = record {
  named = refl;
  some_block = omega arith;
  past_below = omega arith;
  future_below = omega arith;
  kept_longer = omega arith;
  retention_fits = omega arith;
}

now_keeps : (moment : ℕ) → moment ≤ 500 → KeepsLimits (now_line moment)
now_keeps moment low = omega arith

one_letter : IsAscii (codes "s")
one_letter zero = omega arith
one_letter (suc i) = omega arith

series_named : (d : ℕ) → d < 100 → IsIdentifier (codes "s" ++ decimal d)
series_named d low =
    let few : length (decimal d) ≤ 2 = length-decimal-le 2 d (omega arith) (omega arith) (omega arith) in
    inl (record {
      is_text = IsUtf8-from_ascii _ (IsAscii-append (codes "s") (decimal d) one_letter (IsAscii-decimal d (omega arith)));
      has_length = and_from _ _ (le-leb 1 (suc (length (decimal d))) (omega arith)) (le-leb (suc (length (decimal d))) 512 (omega arith));
      untagged = refl;
    })

write_keeps : (moment x : ℕ) → moment ≤ 500 → KeepsLimits (write_line moment x)
write_keeps moment x low = (record { named = refl; version_fits = tt }, series_named (draw x % 100) (omega arith), omega arith)

replace_keeps : KeepsLimits replace_line
replace_keeps = (refl, refl, refl)

bootstrap_keeps : KeepsLimits bootstrap_line
bootstrap_keeps = (refl, tt)

match_keeps : KeepsLimits match_line
match_keeps = (record { named = refl; version_fits = tt }, record { few = omega arith; named = λ m h. absurd h }, record { from_fits = omega arith; to_fits = omega arith })

writes_keep : (k moment x : ℕ) → moment ≤ 500 → AllKeep (writes k moment x)
unfolding writes
writes_keep zero moment x low = none_keep
writes_keep (suc k) moment x low = one_keeps (write_line moment x) (writes k moment (drawn (drawn x))) (write_keeps moment x low) (writes_keep k moment (drawn (drawn x)) low)

round_keeps : (moment x : ℕ) → moment ≤ 500 → AllKeep (round moment x)
round_keeps moment x low =
    one_keeps (now_line moment) _ (now_keeps moment low) (both_keep (writes 10 moment x) (move_at moment ++ flushes_at moment) (writes_keep 10 moment x low)
    (both_keep (move_at moment) (flushes_at moment) (if_keeps (moment == 250) replace_line bootstrap_line replace_keeps bootstrap_keeps) (if_keeps (moment % 100 == 0) flush_line snapshot_line tt tt)))

rounds_keep : (k x : ℕ) → AllKeep (rounds k x)
rounds_keep zero x = subst AllKeep (sym (rounds-none x)) (one_keeps match_line [] match_keeps none_keep)
rounds_keep (suc k) x =
    subst AllKeep (sym (rounds-more k x)) (both_keep (round (moment_of k) x) (rounds k (after_writes 10 x)) (round_keeps (moment_of k) x (omega arith)) (rounds_keep k (after_writes 10 x)))

pub script_keeps : (n : ℕ) (r : Request) → IsIn (script n) r → KeepsLimits r
unfolding AllKeep
script_keeps n = one_keeps init_line (namespace_line ∷ rounds 500 n) init_keeps (one_keeps namespace_line (rounds 500 n) namespace_keeps (rounds_keep 500 n))
