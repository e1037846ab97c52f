mod UndoLemmas
mod RingLemmas
mod TouchLemmas
mod RecordLemmas
mod CellLemmas
mod ListLemmas
