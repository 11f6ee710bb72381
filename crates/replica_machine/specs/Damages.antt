-- What is said of a file that is damaged.
use Rattle.std.specs.Prelude.{◌≡◌, ◌≢◌, ◌≤◌, [], String, string_bytes, string_len, string_capacity}
use Rattle.m3_model.specs.declared.reason.Damage.{Damage}
use Rattle.m3_model.specs.declared.reason.Damage.TheVariants as damage
use Rattle.m3_outside.specs.Files.{Files}
use Rattle.m3_outside.specs.declared.file_name.FileName.{FileName}
use Rattle.file_names.specs.Names.{name_text}
use Rattle.shard_store.specs.shard_files.Damage.{Damage as FileDamage, OfForm, OfDigest}
use Rattle.shard_store.specs.Told.{FilesTell}

-- an empty text, with room for the name of any file
pub record IsNameRoom {Z : Type 0} (text : String Z) : Type 0 where
  pub empty : string_bytes text ≡ []
  pub len : string_len text ≡ 0
  pub room : 96 ≤ string_capacity text

abbrev pub told_of : FileDamage → Damage
told_of (OfForm name at) = damage.Form (name_text name) at
told_of (OfDigest name kept found) = damage.Digest (name_text name) kept found

-- it names a file, and two digests that are told differ
abbrev pub IsFileDamage : Damage → Type 0
IsFileDamage (damage.Digest file kept found) = ((name : FileName) × (file ≡ name_text name)) × (kept ≢ found)
IsFileDamage (damage.Form file at) = (name : FileName) × (file ≡ name_text name)

-- it is what is told of these files, which hold nothing
pub record IsDamageOf (told : Damage) (files : Files) : Type 0 where
  pub damage : FileDamage
  pub is : told ≡ told_of damage
  pub damaged : FilesTell files damage
