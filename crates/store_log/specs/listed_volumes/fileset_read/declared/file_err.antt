pub use Rattle.joined_reads.specs.listed_volumes.fileset_read.declared.file_err.FileErr
