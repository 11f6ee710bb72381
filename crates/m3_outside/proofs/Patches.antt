-- Parts of files that are written over.
use Rattle.std.proofs.Common.{◌≡◌, ℕ, ◌+◌, ◌-◌, ◌<◌, ◌≤◌, List, ◌++◌, length, drop, get_or, sym, ap, ◌∙◌, arith, length-append, length-take, length-drop, append_assoc}
use Rattle.std.proofs.lemmas.List.{places, take_at, drop_at}
use Rattle.m3_outside.specs.Files.{patched}

pub length-patched : (file : List ℕ) (at : ℕ) (bytes : List ℕ) → at + length bytes ≤ length file → length (patched file at bytes) ≡ length file
length-patched file at bytes within = simp (length-append, length-take, length-drop) (omega arith)

pub patched_inside : (file : List ℕ) (at : ℕ) (bytes : List ℕ) (i d : ℕ) → at + length bytes ≤ length file → at ≤ i → i < at + length bytes → get_or (patched file at bytes) i d ≡ get_or bytes (i - at) d
patched_inside file at bytes i d within from below = grind (arith, places)

pub patched_before : (file : List ℕ) (at : ℕ) (bytes : List ℕ) (i d : ℕ) → at + length bytes ≤ length file → i < at → get_or (patched file at bytes) i d ≡ get_or file i d
patched_before file at bytes i d within below = grind (arith, places)

pub patched_behind : (file : List ℕ) (at : ℕ) (bytes : List ℕ) (i d : ℕ) → at + length bytes ≤ length file → at + length bytes ≤ i → get_or (patched file at bytes) i d ≡ get_or file i d
patched_behind file at bytes i d within behind = grind (arith, places)

-- where the file is three parts, and the middle one is written over
pub patched_parts : (a b c : List ℕ) (at : ℕ) (bytes : List ℕ) → length a ≡ at → length bytes ≡ length b → patched (a ++ (b ++ c)) at bytes ≡ a ++ (bytes ++ c)
patched_parts a b c at bytes front same =
    ap (λ (l : List ℕ). l ++ bytes ++ drop (at + length bytes) (a ++ (b ++ c))) (take_at a (b ++ c) at front)
    ∙ ap (λ (l : List ℕ). a ++ bytes ++ l) (ap (λ (l : List ℕ). drop (at + length bytes) l) (sym (append_assoc a b c)) ∙ drop_at (a ++ b) c (at + length bytes) (omega (arith, length-append a b)))
    ∙ append_assoc a bytes c
