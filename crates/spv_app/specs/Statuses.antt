-- How a call of the program ends, as its callers say it.
pub use Rattle.spv_loop.specs.Limits.{input_limit}
pub use Rattle.spv_loop.specs.StatusNumbers.{status_number}
pub use Rattle.spv_loop.specs.declared.status.Status.{Status}
pub use Rattle.spv_loop.specs.declared.status.Status.TheVariants.{Done, Usage, ModuleRefused, SetupRefused, FileFault, ReadFault, WriteFault, NoMemory, InputTooLong, FileTooLong}
