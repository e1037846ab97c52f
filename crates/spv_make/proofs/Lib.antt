mod Insts
mod RowLemmas
mod WordLemmas
