mod CallLemmas
mod BodyLemmas
mod TestLemmas
mod TermLemmas
mod ClassLemmas
mod RuleLaws
