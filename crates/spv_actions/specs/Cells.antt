-- What predecoded instructions on values of one cell do. No definition of a step speaks of it.
use Rattle.std.specs.Prelude.{◌≡◌, [], length, None, Ok}
use Rattle.std.specs.Option.{IsSomeAnd}
use Rattle.spv_base.specs.declared.values.Pointer.{Pointer}
use Rattle.spv_base.specs.declared.values.Root.{Root}
use Rattle.spv_base.specs.declared.values.Value.{Value, out-Value}
use Rattle.spv_types.specs.Rows.{leaves}
use Rattle.spv_types.specs.Shapes.{pointer_in}
use Rattle.spv_mem.specs.Memory.{load_of}
use Rattle.spv_frame.specs.Registers.{IsSlotOf}
use Rattle.spv_state.specs.Sources.{slot_of}
use Rattle.spv_state.specs.declared.predecoded.CellSlot.{CellSlot}
use Rattle.spv_sites.specs.Effects as spec
use Rattle.spv_sites.specs.Effects.{gives, sets}
use Rattle.spv_sites.specs.Fits.{Fits}
use Rattle.spv_sites.specs.Sites.{Site, due}
use Rattle.spv_actions.specs.declared.cells.CellEffect.{CellEffect}
use Rattle.spv_actions.specs.declared.cells.CellEffect.TheVariants.{Gives, Sets}

-- the pointer to a whole variable
abbrev pub whole : Root → Pointer
whole r = record { root = r; path = [] }

-- the effect of a step that it is
abbrev pub full : CellEffect → spec.Effect
full (Gives slot v) = gives v
full (Sets root v) = sets (whole root) v

-- the register of the instruction's result lies in a slot of one cell; the value is no pointer
pub record GivesCell (x : Site) (v : Value) (slot : CellSlot) : Type 0 where
  pub lies : IsSlotOf x.frame.plan.values (slot_of slot)
  pub id : slot.id ≡ x.inst.id
  pub plain : pointer_in (out-Value v) ≡ None

-- the variable is there, and has one cell
abbrev pub SetsCell : Site → Root → Type 0
SetsCell x r = IsSomeAnd (load_of x.state.memory x.inv (whole r)) (λ w. length (leaves w) ≡ 1)

abbrev pub IsOn : Site → CellEffect → Type 0
IsOn x (Gives slot v) = GivesCell x v slot
IsOn x (Sets root v) = SetsCell x root

-- what the instruction does; it can be done
pub record IsCellEffect (x : Site) (e : CellEffect) : Type 0 where
  pub due : due x ≡ Ok (full e)
  pub fits : Fits x.program x.state x.inv x.inst (full e)
  pub on : IsOn x e
