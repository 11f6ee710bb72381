-- What lines mean.
use Rattle.std.proofs.Common.{◌≡◌, ◌≢◌, List, ℕ, refl, sym, ap, subst, ◌∙◌, inl, inr}
use Rattle.std.specs.Prelude.{Option, Some, None, Result, Ok, Err, IsTrue, IsUtf8, ◌⊎◌}
use Rattle.std.proofs.lemmas.Bool.{both_ways}
use Rattle.serde_json.specs.Data.{Data}
use Rattle.serde_json.specs.Read.{read}
use Rattle.line_fields.specs.declared.fault.LineErr.{LineErr}
use Rattle.line_fields.specs.declared.fault.LineErr.TheVariants as errors
use Rattle.m3_model.specs.declared.act.Act.{Act}
use Rattle.m3_model.specs.declared.turn.Request.{Request}
use Rattle.m3_model.specs.declared.turn.Request.TheVariants as request
use Rattle.line_fields.specs.Fields.{Fails}
use Rattle.m3_json.specs.Laws.{HasOneMeaning}
use Rattle.m3_json.specs.NotYet.{is_put_off}
use Rattle.m3_json.specs.Requests.{NamesSeries, SpellsAct, SpellsNoAct, IsPutOff, Spells, SpellsNothing, LineMeans}

-- a line of which nothing is read, where it is UTF-8 at all
pub nothing_spelled : (line : List ℕ) → (IsUtf8 line → read line ≡ None) → SpellsNothing line
nothing_spelled line h = by (read line) h
  where
    by : (o : Option Data) → (IsUtf8 line → o ≡ None) → ¬ IsUtf8 line ⊎ (o ≡ None)
    by None h = inr cc
    by (Some d) h = inl (λ text. let clash : Some d ≡ None = h text in cc)

-- what fails so, fails so
pub fails_as : {A : Type 0} (e : LineErr) (r : Result A LineErr) → r ≡ Err e → Fails e r
fails_as errors.Memory r same = tt
fails_as errors.Form r same = same
fails_as errors.Later r same = same

-- an object that spells an act spells no other one, and isn't one that spells nothing
same_act : (d : Data) (one other : Act) → SpellsAct d one → SpellsAct d other → one ≡ other
same_act d one other a b = let rows : Ok one ≡ Ok other = sym a.0 ∙ b.0 in cc

spells_one : (d : Data) (one : Act) → SpellsAct d one → SpellsNoAct d → ⊥
spells_one d one a none = elim none as (λ _. ⊥) [
  | inl e ↦ let clash : Ok one ≡ Err errors.Form = sym a.0 ∙ e in cc
  | inr other ↦ other.2 (let rows : Ok one ≡ Ok other.0 = sym a.0 ∙ other.1 in let same : one ≡ other.0 = cc in subst NamesSeries same a.1)
]

put_off_one : (d : Data) (one : Act) → SpellsAct d one → IsPutOff d → IsTrue (is_put_off one)
put_off_one d one a off = elim off as (λ _. IsTrue (is_put_off one)) [
  | inl e ↦ let clash : Ok one ≡ Err errors.Later = sym a.0 ∙ e in cc
  | inr other ↦ subst (λ x. IsTrue (is_put_off x)) (same_act d other.0 one other.1 a) other.2
]

put_off_some : (d : Data) → IsPutOff d → SpellsNoAct d → ⊥
put_off_some d off none = elim off as (λ _. ⊥) [
  | inl e ↦ elim none as (λ _. ⊥) [
    | inl f ↦ let clash : Err errors.Later ≡ Err errors.Form = sym e ∙ f in cc
    | inr other ↦ let clash : Err errors.Later ≡ Ok other.0 = sym e ∙ other.1 in cc
  ]
  | inr one ↦ spells_one d one.0 one.1 none
]

same_data : (line : List ℕ) (d other : Data) → Spells line d → Spells line other → other ≡ d
same_data line d other a b = let texts : Some other ≡ Some d = sym b.1 ∙ a.1 in cc

spells_some : (line : List ℕ) (d : Data) → Spells line d → SpellsNothing line → ⊥
spells_some line d a none = elim none as (λ _. ⊥) [
  | inl not_text ↦ not_text a.0
  | inr e ↦ let clash : Some d ≡ None = sym a.1 ∙ e in cc
]

-- a line of no form isn't one whose object has a P that excludes that
formless : (line : List ℕ) (d : Data) → Spells line d → LineMeans line (Err errors.Form) → SpellsNoAct d
formless line d a form = elim form as (λ _. SpellsNoAct d) [
  | inl none ↦ absurd (spells_some line d a none)
  | inr other ↦ subst SpellsNoAct (same_data line d other.0 a other.1) other.2
]

-- a line has no two meanings
pub one_meaning : (line : List ℕ) → HasOneMeaning line
one_meaning line = by
  where
    by : (a b : Result Request LineErr) → a ≢ Err errors.Memory → b ≢ Err errors.Memory → LineMeans line a → LineMeans line b → a ≡ b
    by (Ok r) (Ok s) m n (d, a, (one, spells, served, is)) (e, b, (other, spelled, also, was)) =
        let same : one ≡ other = same_act d one other spells (subst (λ x. SpellsAct x other) (same_data line d e a b) spelled) in
        ap Ok (is ∙ ap (λ x. request.One x) same ∙ sym was)
    by (Ok r) (Err errors.Form) m n (d, a, (one, spells, served, is)) form = absurd (spells_one d one spells (formless line d a form))
    by (Ok r) (Err errors.Later) m n (d, a, (one, spells, served, is)) (e, b, off) = absurd (both_ways (is_put_off one) served (put_off_one d one spells (subst IsPutOff (same_data line d e a b) off)))
    by (Err errors.Form) (Ok s) m n form (d, a, (one, spells, served, is)) = absurd (spells_one d one spells (formless line d a form))
    by (Err errors.Form) (Err errors.Form) m n a b = refl
    by (Err errors.Form) (Err errors.Later) m n form (d, a, off) = absurd (put_off_some d off (formless line d a form))
    by (Err errors.Later) (Ok s) m n (e, b, off) (d, a, (one, spells, served, is)) = absurd (both_ways (is_put_off one) served (put_off_one d one spells (subst IsPutOff (same_data line d e a b) off)))
    by (Err errors.Later) (Err errors.Form) m n (d, a, off) form = absurd (put_off_some d off (formless line d a form))
    by (Err errors.Later) (Err errors.Later) m n a b = refl
    by (Err errors.Memory) b m n a means = absurd (m refl)
    by a (Err errors.Memory) m n means b = absurd (n refl)
