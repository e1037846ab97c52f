use Rattle.std.proofs.Common.{◌≡◌, ◌∙◌, ℕ, true, get_or, slice_set, ap, subst, sym}
use Rattle.spv_base.specs.Variables.{Roots}
use Rattle.spv_base.specs.declared.values.Value.{Value}
use Rattle.spv_mem.specs.Roots.{ExchangesIn, IsAt, distinct}
use Rattle.spv_mem.specs.Targets.{Exchanges}
use Rattle.spv_mem.proofs.RootLemmas.{distinct_set, exchanged_at, item_is}
use Rattle.spv_mem.proofs.SingleLemmas.{leaf_at}
use Rattle.spv_mem.proofs.entries.Roots.exchange_single.Goals as goal

pub exchange_single-requires : goal.exchange_single-requires
exchange_single-requires c =
    let a : IsAt c.args.spot.id c.in-Some.k c.args.self.now = c.in-Some.ensures in
    let here : c.index_mut.result.now ≡ get_or c.args.self.now c.in-Some.k c.index_mut.result.now = subst (λ (es : Roots). c.index_mut.result.now ≡ get_or es c.in-Some.k c.index_mut.result.now) c.self.view_is c.index_mut.ensures.value in
    let same = item_is c.args.spot.id c.args.self.now c.in-Some.k c.index_mut.result.now c.index_mut.result.now a here in
    leaf_at c.args.spot.id c.args.self.now c.in-Some.k c.args.spot.leaf c.args.path.now.value c.args.other.now c.index_mut.result.now.1 a (ap (λ (p : ℕ × Value). p.1) same) c.requires

pub invariant_of-self : goal.invariant_of-self
invariant_of-self c =
    let a : IsAt c.args.spot.id c.in-Some.k c.args.self.now = c.in-Some.ensures in
    let here : c.index_mut.result.now ≡ get_or c.args.self.now c.in-Some.k c.index_mut.result.now = subst (λ (es : Roots). c.index_mut.result.now ≡ get_or es c.in-Some.k c.index_mut.result.now) c.self.view_is c.index_mut.ensures.value in
    let same = item_is c.args.spot.id c.args.self.now c.in-Some.k c.index_mut.result.now c.index_mut.result.now a here in
    let apart = distinct_set c.args.spot.id c.args.self.now c.in-Some.k c.exchange_single.new.self a (sym (ap distinct c.self.view_is) ∙ c.self.invariant) in
    ap (λ (es : Roots). distinct (slice_set es c.in-Some.k (c.index_mut.result.now.0, c.exchange_single.new.self))) c.self.view_is
    ∙ ap (λ (p : ℕ × Value). distinct (slice_set c.args.self.now c.in-Some.k (p.0, c.exchange_single.new.self))) same ∙ apart

pub returns : goal.returns
returns c =
    let a : IsAt c.args.spot.id c.in-Some.k c.args.self.now = c.in-Some.ensures in
    let here : c.index_mut.result.now ≡ get_or c.args.self.now c.in-Some.k c.index_mut.result.now = subst (λ (es : Roots). c.index_mut.result.now ≡ get_or es c.in-Some.k c.index_mut.result.now) c.self.view_is c.index_mut.ensures.value in
    let same = item_is c.args.spot.id c.args.self.now c.in-Some.k c.index_mut.result.now c.index_mut.result.now a here in
    let did = subst (λ (p : ℕ × Value). Exchanges p.1 c.args.path.now.value c.args.other.now c.exchange_single.new.self c.exchange_single.new.other true) same c.exchange_single.ensures in
    let all = exchanged_at c.args.spot.id c.args.self.now c.in-Some.k c.args.path.now.value c.args.other.now c.exchange_single.new.self c.exchange_single.new.other true a did in
    subst (λ (es : Roots). ExchangesIn c.args.self.now c.args.spot.id c.args.path.now.value c.args.other.now es c.exchange_single.new.other true)
    (sym (ap (λ (es : Roots). slice_set es c.in-Some.k (c.index_mut.result.now.0, c.exchange_single.new.self)) c.self.view_is
    ∙ ap (λ (p : ℕ × Value). slice_set c.args.self.now c.in-Some.k (p.0, c.exchange_single.new.self)) same)) all
