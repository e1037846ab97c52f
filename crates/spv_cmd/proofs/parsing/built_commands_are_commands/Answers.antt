use Rattle.spv_cmd.proofs.CommandLemmas.{command_is_line, line_is_command, refused_is_line, unknown_line}
use Rattle.spv_cmd.proofs.parsing.built_commands_are_commands.Goals as goal

pub returns-clause-command : goal.returns-clause-command
returns-clause-command c line command h = command_is_line line command h

pub returns-clause-line : goal.returns-clause-line
returns-clause-line c line command h known = line_is_command line command h known

pub returns-clause-refused : goal.returns-clause-refused
returns-clause-refused c line code h = refused_is_line line code h

pub returns-clause-unknown : goal.returns-clause-unknown
returns-clause-unknown c line h = unknown_line line h
