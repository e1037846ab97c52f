use Rattle.std.proofs.Common.{◌≡◌, ◌∙◌, ◌-◌, List, length, option_copied, Some, ap, subst, sym}
use Rattle.std.proofs.lemmas.Result.{IfOk-weaker}
use Rattle.std.specs.Option.{option_map}
use Rattle.spv_base.proofs.Exports.{some_at}
use Rattle.spv_mem.specs.Memory.{Held as Memory, NamesArray, load_of, member_of}
use Rattle.spv_mem.specs.Targets.{count_in}
use Rattle.spv_types.specs.declared.forms.Member.{Member}
use Rattle.spv_types.specs.Rules.{is_runtime, is_sized_data}
use Rattle.spv_types.specs.Types.{Types, form_of}
use Rattle.spv_valid.specs.Acceptance.{Accepted}
use Rattle.spv_valid.specs.Validity.{IsValid}
use Rattle.spv_ids.proofs.LoadLemmas.{array_loaded, array_named, array_within, block_loaded, block_named, formless_none, last_of, loaded, other_none, sized_loaded, struct_open}
use Rattle.spv_ids.proofs.elements.elements.Goals as goal

pub returns-then-is_sized_data : goal.returns-then-is_sized_data
returns-then-is_sized_data c = λ v load.
    let valid = subst (λ (a : Accepted). ∥ IsValid a ∥₁) c.accepted-accepted.ensures.module c.insts-insts.ensures.valid in
    let types = c.types-types.ensures ∙ ap (λ (a : Accepted). a.types) c.accepted-accepted.ensures.module in
    let own = ap (λ (ts : Types). is_sized_data ts c.args.target) (sym types) ∙ sym c.is_sized_data.ensures ∙ c.if-is_sized_data.true in
    let l = loaded c.args.m.now c.args.state.now c.args.inv c.args.pointer.now c.args.target v c.requires.leads load in
    sized_loaded c.values_have_their_shapes.ensures.variables c.args.m.now c.args.state.now valid c.requires.sound c.args.inv c.args.pointer.now c.args.target v l 0 own

pub unreachable-requires : goal.unreachable-requires
unreachable-requires c =
    let valid = subst (λ (a : Accepted). ∥ IsValid a ∥₁) c.accepted-accepted.ensures.module c.insts-insts.ensures.valid in
    let types = c.types-types.ensures ∙ ap (λ (a : Accepted). a.types) c.accepted-accepted.ensures.module in
    let part = some_at (load_of c.args.state.now.memory c.args.inv c.args.pointer.now) c.requires.there in
    let l = loaded c.args.m.now c.args.state.now c.args.inv c.args.pointer.now c.args.target part.0 c.requires.leads part.1 in
    let none = ap (λ (ts : Types). form_of ts c.args.target) (sym types) ∙ sym c.form.ensures ∙ ap option_copied c.in_default.is in
    formless_none c.values_have_their_shapes.ensures.variables c.args.m.now c.args.state.now valid c.requires.sound c.args.inv c.args.pointer.now c.args.target part.0 l none

pub of_array-requires-clause-some : goal.of_array-requires-clause-some
of_array-requires-clause-some c = λ path.
    let valid = subst (λ (a : Accepted). ∥ IsValid a ∥₁) c.accepted-accepted.ensures.module c.insts-insts.ensures.valid in
    let types = c.types-types.ensures ∙ ap (λ (a : Accepted). a.types) c.accepted-accepted.ensures.module in
    let part = some_at (load_of c.args.state.now.memory c.args.inv c.args.pointer.now) c.requires.there in
    let l = loaded c.args.m.now c.args.state.now c.args.inv c.args.pointer.now c.args.target part.0 c.requires.leads part.1 in
    let form = ap (λ (ts : Types). form_of ts c.args.target) (sym types) ∙ sym c.form.ensures ∙ ap option_copied c.in-Some.is ∙ ap Some c.in-Runtime.is in
    array_within c.values_have_their_shapes.ensures.variables c.args.m.now c.args.state.now valid c.requires.sound c.args.inv c.args.pointer.now c.args.target part.0 l (ap is_runtime form) path

pub of_array-requires-clause-names : goal.of_array-requires-clause-names
of_array-requires-clause-names c = λ front member path.
    let valid = subst (λ (a : Accepted). ∥ IsValid a ∥₁) c.accepted-accepted.ensures.module c.insts-insts.ensures.valid in
    let types = c.types-types.ensures ∙ ap (λ (a : Accepted). a.types) c.accepted-accepted.ensures.module in
    let part = some_at (load_of c.args.state.now.memory c.args.inv c.args.pointer.now) c.requires.there in
    let l = loaded c.args.m.now c.args.state.now c.args.inv c.args.pointer.now c.args.target part.0 c.requires.leads part.1 in
    let form = ap (λ (ts : Types). form_of ts c.args.target) (sym types) ∙ sym c.form.ensures ∙ ap option_copied c.in-Some.is ∙ ap Some c.in-Runtime.is in
    let named = array_named c.values_have_their_shapes.ensures.variables c.args.m.now c.args.state.now valid c.requires.sound c.args.inv c.args.pointer.now c.args.target part.0 l (ap is_runtime form) front member path in
    subst (λ (m : Memory). ∥ NamesArray m (record { root = c.args.pointer.now.root; path = front }) member ∥₁) (sym c.memory.ensures) ∣ named ∣₁

pub length_of-requires : goal.length_of-requires
length_of-requires c =
    let valid = subst (λ (a : Accepted). ∥ IsValid a ∥₁) c.accepted-accepted.ensures.module c.insts-insts.ensures.valid in
    let types = c.types-types.ensures ∙ ap (λ (a : Accepted). a.types) c.accepted-accepted.ensures.module in
    let part = some_at (load_of c.args.state.now.memory c.args.inv c.args.pointer.now) c.requires.there in
    let l = loaded c.args.m.now c.args.state.now c.args.inv c.args.pointer.now c.args.target part.0 c.requires.leads part.1 in
    let form = ap (λ (ts : Types). form_of ts c.args.target) (sym types) ∙ sym c.form.ensures ∙ ap option_copied c.in-Some.is ∙ ap Some c.in-Struct.is in
    let unsized = ap (λ (ts : Types). is_sized_data ts c.args.target) (sym types) ∙ sym c.is_sized_data.ensures ∙ c.if-is_sized_data.false in
    let runtime = struct_open c.args.m.now.accepted.types c.args.target c.in-Struct.members c.in-Struct.block form unsized in
    let last = last_of c.args.m.now.accepted.types c.args.target c.in-Struct.members c.in-Struct.block c.saturating_sub-last.result form runtime
    (c.saturating_sub-last.ensures ∙ ap (λ (ms : List Member). length ms - 1) c.as_slice.ensures) in
    let named = block_named c.values_have_their_shapes.ensures.variables c.args.m.now c.args.state.now valid c.requires.sound c.args.inv c.args.pointer.now c.args.target part.0 l c.saturating_sub-last.result c.in-Struct.members c.in-Struct.block form runtime last in
    subst (λ (m : Memory). ∥ NamesArray m c.args.pointer.now c.saturating_sub-last.result ∥₁) (sym c.memory-in-Struct.ensures) ∣ named ∣₁

pub unreachable-requires-in_default-form : goal.unreachable-requires-in_default-form
unreachable-requires-in_default-form c =
    let valid = subst (λ (a : Accepted). ∥ IsValid a ∥₁) c.accepted-accepted.ensures.module c.insts-insts.ensures.valid in
    let types = c.types-types.ensures ∙ ap (λ (a : Accepted). a.types) c.accepted-accepted.ensures.module in
    let part = some_at (load_of c.args.state.now.memory c.args.inv c.args.pointer.now) c.requires.there in
    let l = loaded c.args.m.now c.args.state.now c.args.inv c.args.pointer.now c.args.target part.0 c.requires.leads part.1 in
    let form = ap (λ (ts : Types). form_of ts c.args.target) (sym types) ∙ sym c.form.ensures ∙ ap option_copied c.in-Some.is in
    let unsized = ap (λ (ts : Types). is_sized_data ts c.args.target) (sym types) ∙ sym c.is_sized_data.ensures ∙ c.if-is_sized_data.false in
    other_none c.values_have_their_shapes.ensures.variables c.args.m.now c.args.state.now valid c.requires.sound c.args.inv c.args.pointer.now c.args.target part.0 l c.in-Some.form.now form unsized
    c.in_default-form.not-Runtime c.in_default-form.not-Struct

pub returns-in-Runtime : goal.returns-in-Runtime
returns-in-Runtime c =
    let valid = subst (λ (a : Accepted). ∥ IsValid a ∥₁) c.accepted-accepted.ensures.module c.insts-insts.ensures.valid in
    let types = c.types-types.ensures ∙ ap (λ (a : Accepted). a.types) c.accepted-accepted.ensures.module in
    let form = ap (λ (ts : Types). form_of ts c.args.target) (sym types) ∙ sym c.form.ensures ∙ ap option_copied c.in-Some.is ∙ ap Some c.in-Runtime.is in
    IfOk-weaker c.of_array.result _ _ (λ n counts v load.
    let l = loaded c.args.m.now c.args.state.now c.args.inv c.args.pointer.now c.args.target v c.requires.leads load in
    let count = subst (λ (m : Memory). option_map count_in (load_of m c.args.inv c.args.pointer.now) ≡ Some n) c.memory.ensures (counts c.args.inv) in
    let one : Some (count_in v) ≡ Some n = sym (ap (option_map count_in) load) ∙ count in
    array_loaded c.values_have_their_shapes.ensures.variables c.args.m.now c.args.state.now valid c.requires.sound c.args.inv c.args.pointer.now c.args.target v l n c.in-Runtime.element c.in-Runtime.stride form (cc)) c.of_array.ensures

pub returns-in-Struct : goal.returns-in-Struct
returns-in-Struct c =
    let valid = subst (λ (a : Accepted). ∥ IsValid a ∥₁) c.accepted-accepted.ensures.module c.insts-insts.ensures.valid in
    let types = c.types-types.ensures ∙ ap (λ (a : Accepted). a.types) c.accepted-accepted.ensures.module in
    let form = ap (λ (ts : Types). form_of ts c.args.target) (sym types) ∙ sym c.form.ensures ∙ ap option_copied c.in-Some.is ∙ ap Some c.in-Struct.is in
    let unsized = ap (λ (ts : Types). is_sized_data ts c.args.target) (sym types) ∙ sym c.is_sized_data.ensures ∙ c.if-is_sized_data.false in
    let runtime = struct_open c.args.m.now.accepted.types c.args.target c.in-Struct.members c.in-Struct.block form unsized in
    let last = last_of c.args.m.now.accepted.types c.args.target c.in-Struct.members c.in-Struct.block c.saturating_sub-last.result form runtime
    (c.saturating_sub-last.ensures ∙ ap (λ (ms : List Member). length ms - 1) c.as_slice.ensures) in
    IfOk-weaker c.length_of.result _ _ (λ n counts v load.
    let l = loaded c.args.m.now c.args.state.now c.args.inv c.args.pointer.now c.args.target v c.requires.leads load in
    let count = subst (λ (m : Memory). option_map count_in (load_of m c.args.inv (member_of c.args.pointer.now c.saturating_sub-last.result)) ≡ Some n) c.memory-in-Struct.ensures (counts c.args.inv) in
    block_loaded c.values_have_their_shapes.ensures.variables c.args.m.now c.args.state.now valid c.requires.sound c.args.inv c.args.pointer.now c.args.target v l n c.saturating_sub-last.result c.in-Struct.members c.in-Struct.block form last count)
    c.length_of.ensures
