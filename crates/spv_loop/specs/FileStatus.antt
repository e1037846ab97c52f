-- The status for a file that wasn't read.
use Rattle.spv_base.specs.declared.causes.FileErr.{FileErr}
use Rattle.spv_base.specs.declared.causes.FileErr.TheVariants as error
use Rattle.spv_loop.specs.declared.status.Status.{Status}
use Rattle.spv_loop.specs.declared.status.Status.TheVariants.{FileFault, NoMemory, FileTooLong}

abbrev pub status_of_file : FileErr → Status
status_of_file error.Failed = FileFault
status_of_file error.TooLong = FileTooLong
status_of_file error.NoMemory = NoMemory
