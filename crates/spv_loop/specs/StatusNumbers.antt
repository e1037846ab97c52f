-- The numbers of the statuses, with which the program ends.
use Rattle.std.specs.Prelude.{ℕ}
use Rattle.spv_loop.specs.declared.status.Status.{Status}
use Rattle.spv_loop.specs.declared.status.Status.TheVariants.{Done, Usage, ModuleRefused, SetupRefused, FileFault, ReadFault, WriteFault, NoMemory, InputTooLong, FileTooLong}

abbrev pub status_number : Status → ℕ
status_number Done = 0
status_number Usage = 2
status_number ModuleRefused = 3
status_number SetupRefused = 4
status_number FileFault = 5
status_number ReadFault = 6
status_number WriteFault = 7
status_number NoMemory = 8
status_number InputTooLong = 9
status_number FileTooLong = 10
