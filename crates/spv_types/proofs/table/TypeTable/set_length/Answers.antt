use Rattle.std.proofs.Common.{◌<◌, ◌∙◌, ℕ, arith, ap, sym, length}
use Rattle.spv_types.specs.declared.forms.Form.{Form}
use Rattle.spv_types.proofs.TypeLemmas.{number_lt}
use Rattle.spv_types.proofs.CountedLemmas.{counted_set}
use Rattle.spv_types.proofs.TableLemmas.{length_at, number_set, unset_at, unset_known}
use Rattle.spv_types.proofs.table.TypeTable.set_length.Goals as goal

pub index_mut-requires : goal.index_mut-requires
index_mut-requires c = let e = number_lt c.args.self.now c.args.ty c.in-Some.number (sym c.in-Some.ensures) in omega (arith, e, ap length c.self.view_is)

pub invariant_of-self : goal.invariant_of-self
invariant_of-self c =
    let e = number_lt c.args.self.now c.args.ty c.in-Some.number (sym c.in-Some.ensures) in
    let l : c.in-Some.number < length c.self.inside.entries.items = omega (arith, e, ap length c.self.view_is) in
    let same = ap (λ (x : ℕ × Form). x.0) c.index_mut.ensures.value in
    record {
      numbers = λ q. c.self.invariant.numbers q ∙ sym (number_set c.self.inside.entries.items c.in-Some.number _ c.index_mut.result.now q l same);
      counts = rw c.truncate.ensures.items (counted_set c.self.inside.entries.items c.in-Some.number _ c.index_mut.result.now c.self.inside.counts.items l same c.self.invariant.counts);
    }

pub returns-in-Array : goal.returns-in-Array
returns-in-Array c = length_at _ c.args.self.now c.args.ty c.in-Some.number c.args.n c.index_mut.result.now c.in-Array.element _ c.in-Array.stride c.self.view_is (sym c.in-Some.ensures) c.index_mut.ensures.value c.in-Array.is

pub returns-in_default-1₀ : goal.returns-in_default-1₀
returns-in_default-1₀ c = absurd (unset_at _ c.args.self.now c.args.ty c.in-Some.number c.index_mut.result.now c.self.view_is (sym c.in-Some.ensures) c.index_mut.ensures.value c.requires.unset c.in_default-1₀.not-Array)

pub returns-in_default : goal.returns-in_default
returns-in_default c = absurd (unset_known c.args.self.now c.args.ty (sym c.in_default.ensures) c.requires.unset)
