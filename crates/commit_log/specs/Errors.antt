-- A disk's refusal as a log's.
use Rattle.log_chunks.specs.m3_outside.declared.disk_err.DiskErr.{DiskErr}
use Rattle.log_chunks.specs.m3_outside.declared.disk_err.DiskErr.TheVariants as disk
use Rattle.commit_log.specs.declared.log_err.LogErr.{LogErr}
use Rattle.commit_log.specs.declared.log_err.LogErr.TheVariants as errors

abbrev pub log_err_of : DiskErr → LogErr
log_err_of disk.Failed = errors.Disk
log_err_of disk.Memory = errors.Memory
