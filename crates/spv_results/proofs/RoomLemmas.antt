-- How many cells values have, and where those of their parts lie.
use Rattle.std.proofs.Common.{◌≡◌, ◌∙◌, ℕ, ◌+◌, ◌<◌, ◌≤◌, ◌^◌, not, true, false, List, length, Option, Some, sym, ap, subst, arith}
use Rattle.std.specs.Prelude.{unwrap_or}
use Rattle.std.specs.Option.{is_some, option_map_or}
use Rattle.std.proofs.lemmas.Bool.{and_parts, not-true}
use Rattle.spv_base.specs.Parts.{part_at, with_part}
use Rattle.spv_base.specs.declared.instructions.Operand.{Operand}
use Rattle.spv_base.specs.declared.values.Root.{Root}
use Rattle.spv_base.specs.declared.values.Value.{Value}
use Rattle.spv_types.specs.declared.forms.Form.{Form}
use Rattle.spv_types.specs.Cells.{cells_of}
use Rattle.spv_base.specs.Saturation.{saturated}
use Rattle.spv_types.specs.Laws.{AreSound}
use Rattle.spv_types.specs.Leaves.{leaf_of}
use Rattle.spv_types.specs.Rows.{HasRow, leaves}
use Rattle.spv_types.specs.Rules.{has_runtime, is_data, is_sized_data}
use Rattle.spv_types.specs.Shapes.{HasShape}
use Rattle.spv_types.specs.Types.{Types, form_of}
use Rattle.spv_types.proofs.Exports.{shapes_count, lies_within, part_lies, shapes_keep, shape_formed, data_form}
use Rattle.spv_valid.specs.Below.spv_bodies.specs.Composites.{named_type}
use Rattle.spv_valid.specs.Below.spv_bodies.specs.Context.{Known}
use Rattle.spv_results.specs.Results.{numbers}
use Rattle.spv_results.proofs.NamedParts.{named_there}
use Rattle.spv_base.proofs.Exports.{some_at}

-- types without runtime arrays have numbers of cells
abbrev pub AreCounted : Types → Type 0
AreCounted ts = (id : ℕ) (f : Form) → form_of ts id ≡ Some f → has_runtime ts id ≡ false → is_some (cells_of ts id) ≡ true

pub room_is : (ts : Types) (roots : Root → Option ℕ) → AreCounted ts → (id : ℕ) (v : Value) → has_runtime ts id ≡ false → HasShape ts roots id v → length (leaves v) ≡ unwrap_or (cells_of ts id) 0
room_is ts roots counted id v sized h =
    let f = shape_formed ts roots id v h in
    let n = some_at (cells_of ts id) (counted id f.0 f.1 sized) in
    shapes_count ts roots id v n.0 h n.1 ∙ ap (λ (o : Option ℕ). unwrap_or o 0) (sym n.1)

pub sized_counted : (ts : Types) → AreCounted ts → (id : ℕ) → is_sized_data ts id ≡ true → (n : ℕ) × (cells_of ts id ≡ Some n)
sized_counted ts counted id h =
    let both = and_parts (is_data (form_of ts id)) (not (has_runtime ts id)) h in
    let f = data_form (form_of ts id) both.0 in
    some_at (cells_of ts id) (counted id f.0 f.1 (not-true (has_runtime ts id) both.1))

-- a part that literals name, of a type without a runtime array: its shape, and where its row lies
pub record IsNamed (k : Known) (roots : Root → Option ℕ) (os : List Operand) (id target : ℕ) (v : Value) : Type 0 where
  pub part : Value
  pub is : part_at v (numbers os) ≡ Some part
  pub shape : HasShape k.types roots target part
  pub whole : (u : Value) → HasShape k.types roots target u → HasShape k.types roots id (with_part v (numbers os) u)
  pub row : HasRow v (numbers os) (option_map_or saturated (leaf_of k.types id (numbers os)) 0) (unwrap_or (cells_of k.types target) 0)

pub is_named : (k : Known) (roots : Root → Option ℕ) → AreSound k.types → AreCounted k.types → (os : List Operand) (id target : ℕ) (v : Value) → HasShape k.types roots id v → named_type k id os ≡ Some target
    → has_runtime k.types target ≡ false → length (leaves v) < 2 ^ 64 → IsNamed k roots os id target v
is_named k roots sound counted os id target v h n sized short =
    let path : List ℕ = numbers os in
    let t = named_there k roots sound (sized_counted k.types counted) os id target v h n in
    let lies = part_lies k.types roots sound path id t.before v t.part h t.leaf t.is in
    let keeps = shapes_keep k.types roots sound path id target v t.part in
    let shape = (keeps t.part h t.typed t.is).0 in
    let within : t.before + length (leaves t.part) ≤ length (leaves v) = lies_within v path t.part t.before lies in
    let small : t.before ≡ saturated t.before = omega (arith, within, short) in
    let begins : t.before ≡ option_map_or saturated (leaf_of k.types id path) 0 = small ∙ ap (λ (o : Option ℕ). option_map_or saturated o 0) (sym t.leaf) in
    record {
      part = t.part;
      is = t.is;
      shape = shape;
      whole = λ u has. (keeps u h t.typed t.is).1 has;
      row = subst (λ (i : ℕ). HasRow v path i (unwrap_or (cells_of k.types target) 0)) begins
          (record { part = t.part; is = t.is; lies = lies; long = room_is k.types roots counted target t.part sized shape });
    }
