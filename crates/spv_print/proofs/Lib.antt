mod LeafLemmas
mod NumberLemmas
mod PieceLemmas
mod SheetLemmas
mod LayoutLemmas
mod WholeLemmas
mod RecordLemmas
mod DepthLemmas
