use Rattle.std.proofs.Common.{◌≡◌, ◌∙◌, ℕ, get_or, slice_set, ap, subst, sym}
use Rattle.spv_base.specs.Variables.{Roots}
use Rattle.spv_base.specs.declared.values.Value.{Value}
use Rattle.spv_mem.specs.Roots.{ExchangesIn, IsAt, distinct}
use Rattle.spv_mem.specs.Targets.{Exchanges}
use Rattle.spv_mem.proofs.RootLemmas.{distinct_set, exchanged_at, fit_at, item_is, may_at}
use Rattle.spv_mem.proofs.entries.Roots.exchange.Goals as goal

pub exchange-requires-clause-fits : goal.exchange-requires-clause-fits
exchange-requires-clause-fits c =
    let a : IsAt c.args.id c.in-Some.k c.args.self.now = c.in-Some.ensures in
    let here : c.index_mut.result.now ≡ get_or c.args.self.now c.in-Some.k c.index_mut.result.now = subst (λ (es : Roots). c.index_mut.result.now ≡ get_or es c.in-Some.k c.index_mut.result.now) c.self.view_is c.index_mut.ensures.value in
    let same = item_is c.args.id c.args.self.now c.in-Some.k c.index_mut.result.now c.index_mut.result.now a here in
    fit_at c.args.types.now c.args.target.ty c.args.id c.args.self.now c.in-Some.k c.index_mut.result.now.1 a (ap (λ (p : ℕ × Value). p.1) same) c.requires.fit

pub exchange-requires-clause-may : goal.exchange-requires-clause-may
exchange-requires-clause-may c =
    let a : IsAt c.args.id c.in-Some.k c.args.self.now = c.in-Some.ensures in
    let here : c.index_mut.result.now ≡ get_or c.args.self.now c.in-Some.k c.index_mut.result.now = subst (λ (es : Roots). c.index_mut.result.now ≡ get_or es c.in-Some.k c.index_mut.result.now) c.self.view_is c.index_mut.ensures.value in
    let same = item_is c.args.id c.args.self.now c.in-Some.k c.index_mut.result.now c.index_mut.result.now a here in
    may_at c.args.types.now c.args.target.ty c.args.id c.args.self.now c.in-Some.k c.index_mut.result.now.1 c.args.path.now c.args.other.now a (ap (λ (p : ℕ × Value). p.1) same) c.requires.may

pub invariant_of-self : goal.invariant_of-self
invariant_of-self c =
    let a : IsAt c.args.id c.in-Some.k c.args.self.now = c.in-Some.ensures in
    let here : c.index_mut.result.now ≡ get_or c.args.self.now c.in-Some.k c.index_mut.result.now = subst (λ (es : Roots). c.index_mut.result.now ≡ get_or es c.in-Some.k c.index_mut.result.now) c.self.view_is c.index_mut.ensures.value in
    let same = item_is c.args.id c.args.self.now c.in-Some.k c.index_mut.result.now c.index_mut.result.now a here in
    let apart = distinct_set c.args.id c.args.self.now c.in-Some.k c.exchange.new.self a (sym (ap distinct c.self.view_is) ∙ c.self.invariant) in
    ap (λ (es : Roots). distinct (slice_set es c.in-Some.k (c.index_mut.result.now.0, c.exchange.new.self))) c.self.view_is
    ∙ ap (λ (p : ℕ × Value). distinct (slice_set c.args.self.now c.in-Some.k (p.0, c.exchange.new.self))) same ∙ apart

pub returns : goal.returns
returns c =
    let a : IsAt c.args.id c.in-Some.k c.args.self.now = c.in-Some.ensures in
    let here : c.index_mut.result.now ≡ get_or c.args.self.now c.in-Some.k c.index_mut.result.now = subst (λ (es : Roots). c.index_mut.result.now ≡ get_or es c.in-Some.k c.index_mut.result.now) c.self.view_is c.index_mut.ensures.value in
    let same = item_is c.args.id c.args.self.now c.in-Some.k c.index_mut.result.now c.index_mut.result.now a here in
    let did = subst (λ (p : ℕ × Value). Exchanges p.1 c.args.path.now c.args.other.now c.exchange.new.self c.exchange.new.other c.exchange.result) same c.exchange.ensures in
    let all = exchanged_at c.args.id c.args.self.now c.in-Some.k c.args.path.now c.args.other.now c.exchange.new.self c.exchange.new.other c.exchange.result a did in
    subst (λ (es : Roots). ExchangesIn c.args.self.now c.args.id c.args.path.now c.args.other.now es c.exchange.new.other c.exchange.result)
    (sym (ap (λ (es : Roots). slice_set es c.in-Some.k (c.index_mut.result.now.0, c.exchange.new.self)) c.self.view_is
    ∙ ap (λ (p : ℕ × Value). slice_set c.args.self.now c.in-Some.k (p.0, c.exchange.new.self)) same)) all
