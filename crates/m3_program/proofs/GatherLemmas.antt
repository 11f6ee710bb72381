-- Replies that are held, and written one part after the other.
use Rattle.std.proofs.Common.{◌≡◌, ℕ, List, [], ◌++◌, take, drop, refl, sym, ap, ◌∙◌, subst, append_assoc, append-nil}
use Rattle.std.proofs.lemmas.List.{take-append-drop}
use Rattle.m3_program.specs.declared.status.Status.{Status}
use Rattle.m3_program.specs.declared.status.Status.TheVariants as status
use Rattle.m3_program.specs.Passing.{Outflow, Takes}
use Rattle.m3_program.specs.Writing.{Gathers, WritesUntil}
use Rattle.m3_program.proofs.WrittenLemmas.{appends_more, appends_nothing}

-- nothing was made
pub gathers_nothing : (w : Outflow) (held : List ℕ) → Gathers w held [] w held
gathers_nothing w held = ([], appends_nothing w, append-nil held)

-- all that was held is written
pub gathers_all : (w w2 : Outflow) (held bytes held2 : List ℕ) → bytes ≡ held → Takes w w2 bytes → held2 ≡ [] → Gathers w held [] w2 held2
gathers_all w w2 held bytes held2 same wrote empty = (bytes, wrote, ap (λ l. l ++ []) (sym same) ∙ ap (λ l. bytes ++ l) (sym empty))

-- a front of what was held is written
pub gathers_front : (w w2 : Outflow) (held bytes : List ℕ) (n : ℕ) → bytes ≡ held → Takes w w2 (take n bytes) → (lost : List ℕ) × Gathers w held [] w2 lost
gathers_front w w2 held bytes n same wrote = (drop n bytes, (take n bytes, wrote, append-nil held ∙ sym same ∙ sym (take-append-drop n bytes)))

-- more is made, and held
gathers_more : (w w2 : Outflow) (held text held2 add held3 : List ℕ) → Gathers w held text w2 held2 → held3 ≡ held2 ++ add → Gathers w held (text ++ add) w2 held3
gathers_more w w2 held text held2 add held3 g is =
    (g.0, g.1, sym (append_assoc held text add) ∙ ap (λ l. l ++ add) g.2 ∙ append_assoc g.0 held2 add ∙ ap (λ l. g.0 ++ l) (sym is))

gathers_both : (w w2 w3 : Outflow) (held text held2 text2 held3 : List ℕ) → Gathers w held text w2 held2 → Gathers w2 held2 text2 w3 held3 → Gathers w held (text ++ text2) w3 held3
gathers_both w w2 w3 held text held2 text2 held3 g h = (
  g.0 ++ h.0,
  appends_more w w2 w3 g.0 h.0 g.1 h.1,
  sym (append_assoc held text text2) ∙ ap (λ l. l ++ text2) g.2 ∙ append_assoc g.0 held2 text2 ∙ ap (λ l. g.0 ++ l) h.2 ∙ sym (append_assoc g.0 h.0 held3),
)

-- more is made, and some of it written
pub gathers_on : (w w2 w3 : Outflow) (held text held2 add held3 held4 : List ℕ) → Gathers w held text w2 held2 → held3 ≡ held2 ++ add → Gathers w2 held3 [] w3 held4 → Gathers w held (text ++ add) w3 held4
gathers_on w w2 w3 held text held2 add held3 held4 g is h =
    subst (λ t. Gathers w held t w3 held4) (append-nil (text ++ add)) (gathers_both w w2 w3 held (text ++ add) held3 [] held4 (gathers_more w w2 held text held2 add held3 g is) h)

-- a front of this is written
pub writes_part : (s : Status) (w w2 : Outflow) (text bytes : List ℕ) (n : ℕ) → s ≡ status.WriteFault → bytes ≡ text → Takes w w2 (take n bytes) → WritesUntil s w text w2
writes_part s w w2 text bytes n is same wrote = subst (λ t. WritesUntil t w text w2) (sym is) (take n bytes, drop n bytes, wrote, sym same ∙ sym (take-append-drop n bytes))

-- the sink failed when some was written and held
pub until_fault : (s : Status) (w w2 w3 : Outflow) (held text held2 add held3 : List ℕ) → s ≡ status.WriteFault → Gathers w held text w2 held2 → held3 ≡ held2 ++ add → (lost : List ℕ) × Gathers w2 held3 [] w3 lost
    → WritesUntil s w (held ++ (text ++ add)) w3
until_fault s w w2 w3 held text held2 add held3 is g more h =
    let all = gathers_on w w2 w3 held text held2 add held3 h.0 g more h.1 in
    subst (λ t. WritesUntil t w (held ++ (text ++ add)) w3) (sym is) (all.0, h.0, all.1, all.2)

-- what is held is written at last, or a front of it
pub until_more : (s : Status) (w w2 w3 : Outflow) (held text held2 bytes : List ℕ) → Gathers w held text w2 held2 → bytes ≡ held2 → WritesUntil s w2 bytes w3 → WritesUntil s w (held ++ text) w3
until_more status.WriteFault w w2 w3 held text held2 bytes g same h =
    (g.0 ++ h.0, h.1, appends_more w w2 w3 g.0 h.0 g.1 h.2, g.2 ∙ ap (λ l. g.0 ++ l) (sym same ∙ h.3) ∙ sym (append_assoc g.0 h.0 h.1))
until_more _ w w2 w3 held text held2 bytes g same h = subst (Takes w w3) (ap (λ l. g.0 ++ l) same ∙ sym g.2) (appends_more w w2 w3 g.0 bytes g.1 h)

-- nothing was held at first, and all is written
pub writes_held : (w w2 w3 : Outflow) (held text held2 bytes : List ℕ) → held ≡ [] → Gathers w held text w2 held2 → bytes ≡ held2 → Takes w2 w3 bytes → Takes w w3 text
writes_held w w2 w3 held text held2 bytes empty g same wrote =
    subst (Takes w w3) (ap (λ l. g.0 ++ l) same ∙ sym g.2 ∙ ap (λ l. l ++ text) empty) (appends_more w w2 w3 g.0 bytes g.1 wrote)

-- or a front of it
pub writes_front : (s : Status) (w w2 w3 : Outflow) (held text held2 bytes : List ℕ) (n : ℕ) → s ≡ status.WriteFault → held ≡ [] → Gathers w held text w2 held2 → bytes ≡ held2 → Takes w2 w3 (take n bytes) → WritesUntil s w text w3
writes_front s w w2 w3 held text held2 bytes n is empty g same wrote =
    subst (λ l. WritesUntil s w (l ++ text) w3) empty (until_more s w w2 w3 held text held2 bytes g same (writes_part s w2 w3 bytes bytes n is refl wrote))
