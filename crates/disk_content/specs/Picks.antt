-- Which image of a disk in memory a pick gives.
use Rattle.std.specs.Prelude.{ℕ, ◌-◌, ◌/◌, ◌%◌, nat_eq, if◌then◌else◌, List, [], ◌∷◌, length, map, take}
use Rattle.m3_outside.specs.Files.{Files}
use Rattle.disk_content.specs.Writes.{PendingWrite}
use Rattle.disk_content.specs.Tables.{with_bytes}

-- what a digit leaves of a pending write: nothing, the whole, its first half, or each byte of it subtracted from 255
abbrev pub picked_bytes : ℕ → List ℕ → List ℕ
picked_bytes digit bytes = if nat_eq digit 0 then [] else if nat_eq digit 1 then bytes else if nat_eq digit 2 then take (length bytes / 2) bytes else map (λ b. 255 - b) bytes

-- The files after these writes in their order. The lowest digit of the pick, to the base four, decides the first of them, and the other digits the others.
abbrev pub picked_files : ℕ → List PendingWrite → Files → Files
picked_files pick [] files = files
picked_files pick (w ∷ ws) files = picked_files (pick / 4) ws (with_bytes w.name w.at (picked_bytes (pick % 4) w.bytes) files)
