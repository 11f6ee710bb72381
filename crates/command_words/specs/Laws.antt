-- What is so of the words of each task.
use Rattle.std.specs.Prelude.{◌≡◌, ◌≢◌, ℕ, ◌<◌, ◌^◌, List, [], ◌∷◌, Some, None, codes, decimal}
use Rattle.command_words.specs.Tasks.{folder_of, task_of}
use Rattle.command_words.specs.declared.task.Task.TheVariants as task

abbrev pub RunIsTaken : Type 0
RunIsTaken = task_of (codes "run" ∷ []) ≡ Some task.Run

abbrev pub NumberIsTaken : Type 0
NumberIsTaken = (n : ℕ) → n < 2 ^ 32 → task_of (codes "generate" ∷ decimal n ∷ []) ≡ Some (task.Generate n)

-- `run`, `--disk` and a text that isn't empty and doesn't begin with a minus, which has the code 45, ask for a run over this folder
abbrev pub DiskIsTaken : Type 0
DiskIsTaken = (first : ℕ) (rest : List ℕ) → first ≢ 45
    → (task_of (codes "run" ∷ codes "--disk" ∷ (first ∷ rest) ∷ []) ≡ Some task.Run) × (folder_of (codes "run" ∷ codes "--disk" ∷ (first ∷ rest) ∷ []) ≡ Some (first ∷ rest))

-- other words that are always taken name no folder
abbrev pub NoFolder : Type 0
NoFolder = (folder_of (codes "run" ∷ []) ≡ None) × ((n : ℕ) → n < 2 ^ 32 → folder_of (codes "generate" ∷ decimal n ∷ []) ≡ None)

-- no words, another word, a second word after `run`, `--disk` with no folder and with two, and `generate` with no number, with one that is too great, with two, and with a folder
pub record OthersAreNot : Type 0 where
  pub none : task_of [] ≡ None
  pub other : task_of (codes "frob" ∷ []) ≡ None
  pub second : task_of (codes "run" ∷ codes "run" ∷ []) ≡ None
  pub no_folder : task_of (codes "run" ∷ codes "--disk" ∷ []) ≡ None
  pub two_folders : task_of (codes "run" ∷ codes "--disk" ∷ codes "f" ∷ codes "g" ∷ []) ≡ None
  pub help : task_of (codes "--help" ∷ []) ≡ None
  pub no_number : task_of (codes "generate" ∷ []) ≡ None
  pub too_great : task_of (codes "generate" ∷ codes "4294967296" ∷ []) ≡ None
  pub two_numbers : task_of (codes "generate" ∷ codes "1" ∷ codes "2" ∷ []) ≡ None
  pub folder_too : task_of (codes "generate" ∷ codes "1" ∷ codes "--disk" ∷ codes "f" ∷ []) ≡ None
