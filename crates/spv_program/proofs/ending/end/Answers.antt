use Rattle.std.proofs.Common.{ap, ◌∙◌}
use Rattle.spv_app.specs.Statuses.{status_number, FileFault, ReadFault, WriteFault}
use Rattle.spv_program.proofs.Numbers.{code_counts}
use Rattle.spv_program.proofs.ending.end.Goals as goal

pub returns-clause-file_fault : goal.returns-clause-file_fault
returns-clause-file_fault g c = code_counts _ c.debug_main-status.result FileFault _ _ c.exit_code.ensures c.debug_main-status.ensures.file_fault

pub returns-clause-read_fault : goal.returns-clause-read_fault
returns-clause-read_fault g c = code_counts _ c.debug_main-status.result ReadFault _ _ c.exit_code.ensures c.debug_main-status.ensures.read_fault

pub returns-clause-write_fault : goal.returns-clause-write_fault
returns-clause-write_fault g c = code_counts _ c.debug_main-status.result WriteFault _ _ c.exit_code.ensures c.debug_main-status.ensures.write_fault

pub returns-clause-debugged : goal.returns-clause-debugged
returns-clause-debugged g c names m binary setup xs before words_are told binary_is setup_is few_binary few_setup left few held files reads writes memory =
    c.exit_code.ensures
    ∙ ap status_number (c.debug_main-status.ensures.headline names m binary setup xs before words_are told binary_is setup_is few_binary few_setup left few held files reads writes memory).1

pub returns-clause-checked : goal.returns-clause-checked
returns-clause-checked g c name m binary before word_is told binary_is few held files writes memory =
    c.exit_code.ensures ∙ ap status_number (c.debug_main-status.ensures.check_headline name m binary before word_is told binary_is few held files writes memory).1

pub returns-clause-texted : goal.returns-clause-texted
returns-clause-texted g c name m binary before word_is told binary_is few held files writes memory =
    c.exit_code.ensures ∙ ap status_number (c.debug_main-status.ensures.text_headline name m binary before word_is told binary_is few held files writes memory).1

pub returns-clause-made : goal.returns-clause-made
returns-clause-made g c n before number_is held writes memory =
    c.exit_code.ensures ∙ ap status_number (c.debug_main-status.ensures.make_headline n before number_is held writes memory).1
