use Rattle.spv_session.proofs.ShownLemmas.{shown_ascend, shown_are_theirs, texts_are_shown}
use Rattle.spv_session.proofs.registers.shown_registers_ascend.Goals as goal

pub returns-clause-ascending : goal.returns-clause-ascending
returns-clause-ascending c shown = shown_ascend shown

pub returns-clause-texts : goal.returns-clause-texts
returns-clause-texts c shown id text h = shown_are_theirs shown id text h

pub returns-clause-all : goal.returns-clause-all
returns-clause-all c shown id text h = texts_are_shown shown id text h
