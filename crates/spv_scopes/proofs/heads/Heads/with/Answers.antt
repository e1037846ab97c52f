use Rattle.std.proofs.Common.{◌≡◌, ◌∙◌, ℕ, List, [], Option, sym, ap}
use Rattle.std.specs.Prelude.{Vec}
use Rattle.std.specs.Option.{option_map_or}
use Rattle.std.specs.declared.alloc.Global.{Global}
use Rattle.std.proofs.lemmas.Result.{IfOk-weaker}
use Rattle.spv_scopes.specs.Heads.{Heads, heads_with}
use Rattle.spv_scopes.proofs.HeadLemmas.{no_words, words_kept}
use Rattle.spv_scopes.proofs.heads.Heads.with.Goals as goal

abbrev items_in : Option (Vec ℕ Global) → List ℕ
items_in o = option_map_or (λ words. words.items) o []

pub returns-in_default : goal.returns-in_default
returns-in_default c =
    let x = c.self.inside in
    let i = c.self.invariant in
    c.new.ensures
    ∙ sym (no_words x.names x.files.items i.names_are c.args.file.now c.args.line (sym c.in_default.ensures.value) x.table i.within)
    ∙ ap (λ (heads : Heads). heads_with heads (c.args.file.now, c.args.line)) c.self.view_is

pub returns-in-Some-get : goal.returns-in-Some-get
returns-in-Some-get c =
    let x = c.self.inside in
    let i = c.self.invariant in
    let here = c.as_slice.ensures.value ∙ ap items_in c.in-Some-get.ensures.value in
    let same = words_kept x.names x.files.items x.lines x.table c.args.self.now c.args.file.now c.in-Some.number.now c.args.line c.as_slice.result.now i.names_are i.lines_are i.within c.self.view_is c.in-Some.ensures.value here in
    IfOk-weaker c.from_slice.result _ _ (λ (words : List ℕ) (e : words ≡ c.as_slice.result.now). e ∙ same) c.from_slice.ensures

pub returns-in-None : goal.returns-in-None
returns-in-None c =
    let x = c.self.inside in
    let i = c.self.invariant in
    c.new-in-None.ensures
    ∙ words_kept x.names x.files.items x.lines x.table c.args.self.now c.args.file.now c.in-Some.number.now c.args.line [] i.names_are i.lines_are i.within c.self.view_is c.in-Some.ensures.value (ap items_in c.in-None.ensures.value)
