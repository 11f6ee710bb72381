-- Where bytes stop to have a form that is another one by another name.
use Rattle.std.proofs.Common.{◌≡◌, ℕ, List, sym, ap, subst}
use Rattle.fileset_read.specs.m3_outside.Files.{Files}
use Rattle.fileset_read.specs.m3_outside.declared.file_name.FileName.{FileName}
use Rattle.fileset_read.specs.wire_bytes.Fields.{StopsAt}
use Rattle.fileset_read.specs.shard_files.Damage.{Damage, BreaksForm}

pub stops_as : (F G : List ℕ → Type 0) (bytes : List ℕ) (at : ℕ) → ((b : List ℕ) → F b → G b) → ((b : List ℕ) → G b → F b) → StopsAt F bytes at → StopsAt G bytes at
stops_as F G bytes at to from s = record {
  inside = s.inside;
  begins = record { rest = s.begins.rest; whole = to _ s.begins.whole };
  stops = λ lt g. s.stops lt (record { rest = g.rest; whole = from _ g.whole });
  none = λ g. s.none (from _ g);
}

pub breaks_as : (F G : List ℕ → Type 0) (files : Files) (name : FileName) (d : Damage) → ((b : List ℕ) → F b → G b) → ((b : List ℕ) → G b → F b) → BreaksForm F files name d → BreaksForm G files name d
breaks_as F G files name d to from b = record { at = b.at; stops = stops_as F G _ b.at to from b.stops; is = b.is }
