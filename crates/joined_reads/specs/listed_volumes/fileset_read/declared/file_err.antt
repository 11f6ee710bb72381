pub use Rattle.listed_volumes.specs.fileset_read.declared.file_err.FileErr
