use Rattle.spv_effects.proofs.ResultLemmas.{extracted_scalars, inserted_scalars, selected_scalars, selected_widths, shuffled_scalars}
use Rattle.spv_effects.proofs.laws.selections_are_scalars.Goals as goal

pub returns-clause-selected : goal.returns-clause-selected
returns-clause-selected c = selected_scalars

pub returns-clause-extracted : goal.returns-clause-extracted
returns-clause-extracted c = extracted_scalars

pub returns-clause-inserted : goal.returns-clause-inserted
returns-clause-inserted c = inserted_scalars

pub returns-clause-shuffled : goal.returns-clause-shuffled
returns-clause-shuffled c = shuffled_scalars

pub returns-clause-widths : goal.returns-clause-widths
returns-clause-widths c = selected_widths
