-- The task of a subcommand.
use Rattle.std.proofs.Common.{◌≡◌, ℕ, List, [], ◌∷◌, false, refl, sym, ap, ◌∙◌, codes}
use Rattle.std.specs.Prelude.{Option, Some, None, option_and_then, option_map}
use Rattle.std.specs.Str.{bytes_eq}
use Rattle.clap.specs.Kinds.{IsAmong, Kinds}
use Rattle.clap.specs.Words.{Row, Text, first_of, subcommand_of}
use Rattle.clap.specs.declared.error.kind.ErrorKind.{ErrorKind}
use Rattle.command_words.specs.Line.{line_app}
use Rattle.command_words.specs.Tasks.{folder_by, number_in, task_by, task_where}
use Rattle.command_words.specs.declared.task.Task.TheVariants as task

-- a pair, from its parts
pub both_parts : {B : Type 0} (f : B → Text × List Row) (g : B → Text) (o : Option B) (name : Text) (rows : List Row) → ((b : B) → g b ≡ (f b).0) → Some name ≡ option_map g o
    → Some rows ≡ option_map (λ p. p.1) (option_map f o) → option_map f o ≡ Some (name, rows)
both_parts f g None name rows same first second = cc
both_parts f g (Some b) name rows same first second =
    let a : name ≡ (f b).0 = (let e : name ≡ g b = cc in e ∙ same b) in
    let r : rows ≡ (f b).1 = cc in
    ap Some (rw (a, r) refl)

-- the task of another subcommand than `run`
pub task_of_number : (sub : Option (Text × List Row)) (name : Text) (rows : List Row) (number : Option ℕ) → sub ≡ Some (name, rows) → false ≡ bytes_eq name (codes "run") → number ≡ number_in rows
    → option_map task.Generate number ≡ task_by sub
task_of_number sub name rows number is other read = rw (is, sym other) (ap (option_map task.Generate) read)

-- the folder of a subcommand is in its matches
pub folder_in_rows : (sub : Option (Text × List Row)) (found : Option (List Row)) → found ≡ option_map (λ p. p.1) sub → option_and_then (first_of (codes "disk")) found ≡ folder_by sub
folder_in_rows None found is = rw is refl
folder_in_rows (Some (name, rows)) found is = rw is refl

-- words without a fault ask for what their subcommand does
pub task_without_fault : (kinds : Kinds) (words : List Text) → kinds ≡ [] → task_where kinds words ≡ task_by (subcommand_of line_app words)
task_without_fault kinds words none = ap (λ ks. task_where ks words) none

-- words at fault ask for nothing
pub task_at_fault : (kinds : Kinds) (kind : ErrorKind) (words : List Text) → IsAmong kind kinds → task_where kinds words ≡ None
task_at_fault [] kind words h = absurd h
task_at_fault (k ∷ kinds) kind words h = refl
