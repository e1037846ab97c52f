-- What crates above cite.
pub use Rattle.spv_arguments.proofs.CallLemmas.{Names, names_check, names_debug, names_make, names_text, no_other, not_untaken}
