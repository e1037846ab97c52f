use Rattle.std.proofs.Common.{◌≡◌, ◌∙◌, ℕ, None, Some, ap, subst, sym}
use Rattle.std.specs.Option.{option_map}
use Rattle.spv_mem.specs.Memory.{Held as Memory, load_of, member_of}
use Rattle.spv_mem.specs.Targets.{count_in}
use Rattle.spv_sites.specs.Sites.{LeadsToArray}
use Rattle.spv_accesses.proofs.LengthLemmas.{elements_outside, elements_private, elements_there, names_array, outside_none}
use Rattle.spv_accesses.proofs.lengths.elements.Goals as goal

pub returns-then-not-is_shared : goal.returns-then-not-is_shared
returns-then-not-is_shared c = elements_private c.args.site.now c.args.p.now c.args.member (sym c.if-not-is_shared.ensures)

pub array_length-requires : goal.array_length-requires
array_length-requires c =
    let leads = subst (λ (m : Memory). ∥ LeadsToArray m c.args.p.now c.args.member ∥₁) (sym c.memory-memory.ensures) c.requires in
    names_array c.memory-memory.result.now c.inv.result c.args.p.now c.args.member c.in-Ok.field-0 leads (sym c.if-not-is_shared.ensures) c.in-Ok.ensures

pub returns-in-Ok : goal.returns-in-Ok
returns-in-Ok c =
    let many = subst (λ (m : Memory). option_map count_in (load_of m c.args.site.now.inv (member_of c.args.p.now c.args.member)) ≡ Some c.array_length.result) c.memory-memory.ensures (c.array_length.ensures c.args.site.now.inv) in
    elements_there c.args.site.now c.args.p.now c.args.member c.array_length.result (sym c.if-not-is_shared.ensures) many

pub returns-in-Err : goal.returns-in-Err
returns-in-Err c =
    let none = outside_none c.memory-memory.result.now c.inv.result c.args.p.now c.in-Err.field-0 c.in-Err.ensures in
    let inv : load_of c.memory-memory.result.now c.args.site.now.inv c.args.p.now ≡ None = ap (λ (i : ℕ). load_of c.memory-memory.result.now i c.args.p.now) (sym c.inv.ensures) ∙ none in
    elements_outside c.args.site.now c.args.p.now c.args.member (subst (λ (m : Memory). load_of m c.args.site.now.inv c.args.p.now ≡ None) c.memory-memory.ensures inv)
