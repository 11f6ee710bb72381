-- Words that are always taken.
use Rattle.std.proofs.Common.{◌≡◌, ℕ, ◌<◌, ◌≤◌, ◌≢◌, ◌^◌, true, false, refl, ap, ◌∙◌, subst, codes, List, [], ◌∷◌, arith}
use Rattle.std.specs.Prelude.{Option, Some, None, option_and_then, option_map, decimal}
use Rattle.std.specs.Str.Parse.{IsNumeral, digits_value}
use Rattle.std.proofs.lemmas.Bool.{le-leb, lt-ltb, ne_eqb}
use Rattle.std.proofs.lemmas.Fmt.{decimal_is_IsNumeral}
use Rattle.clap.specs.Kinds.{Kinds}
use Rattle.clap.specs.Words.{Row, Text, fault_of, one_of, read_as, reading_of, subcommand_of}
use Rattle.clap.specs.ValueTests.{accepts}
use Rattle.clap.specs.declared.builder.value_parser.ValueParser.{ValueParser}
use Rattle.clap.proofs.OnLiterals.{clap_on_literals}
use Rattle.command_words.specs.Laws.{DiskIsTaken, NoFolder, NumberIsTaken}
use Rattle.command_words.specs.Line.{line_app, line_app_by, number_parser}
use Rattle.command_words.specs.Tasks.{folder_by, folder_of, number_by, task_by, task_of, task_where}
use Rattle.command_words.specs.declared.task.Task.TheVariants as task
use Rattle.command_words.proofs.NumberLemmas.{digits_back, fits}

-- a text that the parser accepts, and that begins with no `-`, is no fault
taken_by : (p : ValueParser) (d : ℕ) (ds : Text) → d ≢ 45 → accepts false p (d ∷ ds) ≡ true → fault_of (line_app_by p) (codes "generate" ∷ (d ∷ ds) ∷ []) ≡ []
unfolding clap_on_literals
taken_by p d ds other fine = simp (ne_eqb d 45 other, fine)

-- and is the value
found_by : (p : ValueParser) (d : ℕ) (ds : Text) → d ≢ 45
    → option_and_then (λ q. one_of (codes "number") q.1) (subcommand_of (line_app_by p) (codes "generate" ∷ (d ∷ ds) ∷ [])) ≡ Some (read_as (reading_of p) (d ∷ ds))
unfolding clap_on_literals
found_by p d ds other = simp (ne_eqb d 45 other)

named_by : (p : ValueParser) (d : ℕ) (ds : Text) → option_map (λ q. q.0) (subcommand_of (line_app_by p) (codes "generate" ∷ (d ∷ ds) ∷ [])) ≡ Some (codes "generate")
unfolding clap_on_literals
named_by p d ds = refl

-- a digit is no sign
no_minus : (d : ℕ) (ds : Text) → IsNumeral 10 (d ∷ ds) → d ≢ 45
no_minus d ds h = λ is. let low = subst (λ e. IsNumeral 10 (e ∷ ds)) is h in let bad = low.1.0 in absurd (omega arith)

no_plus : (d : ℕ) (ds : Text) → IsNumeral 10 (d ∷ ds) → d ≢ 43
no_plus d ds h = λ is. let low = subst (λ e. IsNumeral 10 (e ∷ ds)) is h in let bad = low.1.0 in absurd (omega arith)

accepted : (d : ℕ) (ds : Text) → IsNumeral 10 (d ∷ ds) → digits_value 10 (d ∷ ds) < 2 ^ 32 → accepts false number_parser (d ∷ ds) ≡ true
accepted d ds h low =
    let wide : digits_value 10 (d ∷ ds) < 2 ^ 63 = omega (arith, low) in
    let most : digits_value 10 (d ∷ ds) ≤ 4294967295 = omega (arith, low) in
    let least : 0 ≤ digits_value 10 (d ∷ ds) = omega arith in
    rw (ne_eqb d 45 (no_minus d ds h), ne_eqb d 43 (no_plus d ds h), lt-ltb _ _ h.0, digits_back (d ∷ ds) h.1, lt-ltb _ _ wide, le-leb _ _ least, le-leb _ _ most) refl

spelled : (d : ℕ) (ds : Text) → IsNumeral 10 (d ∷ ds) → digits_value 10 (d ∷ ds) < 2 ^ 32 → number_by (d ∷ ds) ≡ Some (digits_value 10 (d ∷ ds))
spelled d ds h low = rw (ne_eqb d 43 (no_plus d ds h)) (rw (fits (d ∷ ds) h low) refl)

read_plainly : (d : ℕ) (ds : Text) → d ≢ 45 → read_as (reading_of number_parser) (d ∷ ds) ≡ d ∷ ds
read_plainly d ds other = simp (ne_eqb d 45 other)

task_with : (sub : Option (Text × List Row)) (text : Text) (n : ℕ) → option_map (λ q. q.0) sub ≡ Some (codes "generate") → option_and_then (λ q. one_of (codes "number") q.1) sub ≡ Some text
    → number_by text ≡ Some n → task_by sub ≡ Some (task.Generate n)
task_with None text n named found number = cc
task_with (Some (name, rows)) text n named found number =
    let is : name ≡ codes "generate" = cc in
    rw is (ap (λ o. option_map task.Generate (option_and_then number_by o)) found ∙ ap (option_map task.Generate) number)

no_fault : (kinds : Kinds) (words : List Text) → kinds ≡ [] → task_where kinds words ≡ task_by (subcommand_of line_app words)
no_fault kinds words none = ap (λ ks. task_where ks words) none

taken : (text : Text) → IsNumeral 10 text → digits_value 10 text < 2 ^ 32 → task_of (codes "generate" ∷ text ∷ []) ≡ Some (task.Generate (digits_value 10 text))
taken [] h low = absurd (let bad = h.0 in omega arith)
taken (d ∷ ds) h low =
    let other = no_minus d ds h in
    let words = codes "generate" ∷ (d ∷ ds) ∷ [] in
    no_fault (fault_of line_app words) words (taken_by number_parser d ds other (accepted d ds h low))
    ∙ task_with (subcommand_of line_app words) (d ∷ ds) (digits_value 10 (d ∷ ds)) (named_by number_parser d ds) (found_by number_parser d ds other ∙ ap Some (read_plainly d ds other)) (spelled d ds h low)

pub number_taken : NumberIsTaken
number_taken n low =
    let (numeral, value) = decimal_is_IsNumeral n (omega (arith, low)) in
    taken (decimal n) numeral (omega (arith, low, value)) ∙ ap (λ m. Some (task.Generate m)) value

-- ---- a folder

-- a text that begins with no `-` is no fault behind `--disk`
disk_no_fault : (first : ℕ) (rest : Text) → first ≢ 45 → fault_of line_app (codes "run" ∷ codes "--disk" ∷ (first ∷ rest) ∷ []) ≡ []
unfolding clap_on_literals
disk_no_fault first rest other = simp (ne_eqb first 45 other)

disk_runs : (first : ℕ) (rest : Text) → first ≢ 45 → task_by (subcommand_of line_app (codes "run" ∷ codes "--disk" ∷ (first ∷ rest) ∷ [])) ≡ Some task.Run
unfolding clap_on_literals
disk_runs first rest other = refl

disk_found : (first : ℕ) (rest : Text) → first ≢ 45 → folder_by (subcommand_of line_app (codes "run" ∷ codes "--disk" ∷ (first ∷ rest) ∷ [])) ≡ Some (first ∷ rest)
unfolding clap_on_literals
disk_found first rest other = simp (ne_eqb first 45 other)

pub disk_taken : DiskIsTaken
disk_taken first rest other =
    let words = codes "run" ∷ codes "--disk" ∷ (first ∷ rest) ∷ [] in
    (no_fault (fault_of line_app words) words (disk_no_fault first rest other) ∙ disk_runs first rest other, disk_found first rest other)

run_names_none : folder_of (codes "run" ∷ []) ≡ None
unfolding clap_on_literals
run_names_none = refl

number_names_none : (p : ValueParser) (d : ℕ) (ds : Text) → d ≢ 45 → folder_by (subcommand_of (line_app_by p) (codes "generate" ∷ (d ∷ ds) ∷ [])) ≡ None
unfolding clap_on_literals
number_names_none p d ds other = simp (ne_eqb d 45 other)

numeral_names_none : (text : Text) → IsNumeral 10 text → folder_of (codes "generate" ∷ text ∷ []) ≡ None
numeral_names_none [] h = absurd (let bad = h.0 in omega arith)
numeral_names_none (d ∷ ds) h = number_names_none number_parser d ds (no_minus d ds h)

pub no_folder : NoFolder
no_folder = (run_names_none, λ n low. let (numeral, value) = decimal_is_IsNumeral n (omega (arith, low)) in numeral_names_none (decimal n) numeral)
