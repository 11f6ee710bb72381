-- What an opening takes into memory.
use Rattle.std.specs.Prelude.{map}
use Rattle.m3_model.specs.Contents.{Contents, content_of}
use Rattle.store_log.specs.listed_volumes.block_buffer.Taken.{settled_with}
use Rattle.store_log.specs.listed_volumes.shard_files.FilesHold.{volume_points}
use Rattle.shard_open.specs.Loads.{known_of}
use Rattle.shard_open.specs.declared.load.Loaded.{Loaded}

-- of the points that were loaded, joined, those that are above each of a volume at their key
abbrev pub beside_volumes : Loaded → Contents
beside_volumes loaded = settled_with (content_of loaded.points) (volume_points (map known_of loaded.volumes))
