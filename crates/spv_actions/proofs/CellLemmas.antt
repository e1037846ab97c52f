-- Predecoded instructions where a run has come to them.
use Rattle.std.proofs.Common.{◌≡◌, ◌∙◌, ℕ, length, Option, Some, None, Ok, ok_or, refl, sym, ap, subst}
use Rattle.std.proofs.Math.Logic.{∥∥₁_elim}
use Rattle.std.proofs.Props.{props}
use Rattle.std.specs.Coded.{codes}
use Rattle.std.specs.Option.{IsSomeAnd}
use Rattle.spv_base.specs.declared.instructions.Inst.{Inst}
use Rattle.spv_base.specs.declared.values.Root.{Root}
use Rattle.spv_base.specs.declared.values.Value.{Value, out-Value}
use Rattle.spv_types.specs.Rows.{leaves}
use Rattle.spv_types.specs.Shapes.{pointer_in}
use Rattle.spv_mem.specs.Memory.{load_of, root_value}
use Rattle.spv_valid.specs.Acceptance.{Accepted}
use Rattle.spv_frame.specs.Registers.{IsSlotOf, Planned}
use Rattle.spv_operands.specs.Values.{pointer_to}
use Rattle.spv_plans.specs.Plans.{plan_of}
use Rattle.spv_state.specs.Predecoded.{IsResultAt}
use Rattle.spv_state.specs.Sources.{slot_of}
use Rattle.spv_state.specs.declared.predecoded.CellSlot.{CellSlot}
use Rattle.spv_actions.specs.Cells.{GivesCell, SetsCell, whole}
use Rattle.spv_sites.specs.Effects.{pointer}
use Rattle.spv_sites.specs.Sites.{IsSite, Site, accepted, part_of, values}
use Rattle.spv_sites.specs.declared.causes.Cause.TheVariants.{OutOfBounds}
use Rattle.spv_accesses.proofs.Exports.{found}
use Rattle.spv_sites.proofs.Exports.{whole_part, of_function, slot_lies}
use Rattle.spv_base.proofs.Exports.{out_pointer}

-- ---- slots

result_slot : (a : Accepted) (function : ℕ) (d : Inst) (slot : CellSlot) → ∥ IsResultAt a function d slot ∥₁ → IsResultAt a function d slot
result_slot a function d slot h = record {
  lies = slot_lies (plan_of a function).values (slot_of slot) h (λ (r : IsResultAt a function d slot). r.lies);
  id = ∥∥₁_elim h (hlevel (props, codes)) (λ (r : IsResultAt a function d slot). r.id);
}

pub gives_cell : (x : Site) (v : Value) (into : CellSlot) → ∥ IsSite x ∥₁ → ∥ IsResultAt (accepted x) x.frame.plan.function x.inst into ∥₁ → pointer_in (out-Value v) ≡ None → GivesCell x v into
gives_cell x v into site h plain =
    let r = result_slot (accepted x) x.frame.plan.function x.inst into h in
    record { lies = subst (λ (p : Planned). IsSlotOf p.values (slot_of into)) (sym (of_function x site).is) r.lies; id = r.id; plain = plain }

-- ---- variables

-- the value of a whole variable is what the pointer to it leads to
pub whole_there : (x : Site) (r : Root) (o : Option Value) (v : Value) → o ≡ root_value x.state.memory x.inv r → o ≡ Some v → part_of x (pointer_to r) ≡ Ok v
whole_there x r o v value some = whole_part x r ∙ ap (λ (p : Option Value). ok_or p OutOfBounds) (sym value ∙ some)

pub variable_is : (r : Root) → pointer (pointer_to r) ≡ Ok (whole r)
variable_is r = rw (out_pointer (whole r)) refl

-- a variable of one cell is there
pub sets_cell : (x : Site) (r : Root) (v : Value) → part_of x (pointer_to r) ≡ Ok v → length (leaves v) ≡ 1 → SetsCell x r
sets_cell x r v part one =
    let there = found x (pointer_to r) v part in
    let same : there.place ≡ whole r = let is = there.is in let place = variable_is r in cc in
    let loads : load_of x.state.memory x.inv (whole r) ≡ Some v = ap (load_of x.state.memory x.inv) (sym same) ∙ there.there in
    subst (λ (o : Option Value). IsSomeAnd o (λ w. length (leaves w) ≡ 1)) (sym loads) one
