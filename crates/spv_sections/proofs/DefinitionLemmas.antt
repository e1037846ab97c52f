-- The first definition of an id, by the instruction that defines it.
use Rattle.std.proofs.Common.{◌≡◌, ◌∙◌, ℕ, ◌≤◌, ◌==◌, Bool, true, false, cond, List, [], ◌∷◌, map, Option, Some, None, refl, sym, arith}
use Rattle.std.proofs.lemmas.Grind.{common_steps}
use Rattle.std.specs.Prelude.{find}
use Rattle.std.specs.Option.{option_map}
use Rattle.spv_base.specs.Entries.{reads}
use Rattle.spv_base.specs.declared.instructions.Inst.{Inst}
use Rattle.spv_ops.specs.Module.{Decoded}
use Rattle.spv_index.specs.declared.positions.Position.{Position}
use Rattle.spv_index.specs.declared.positions.Standing.{Standing}
use Rattle.spv_index.specs.Classes.{class_of, sets_of}
use Rattle.spv_index.specs.Definitions.{defining, has_result, is_id as is_limited}
use Rattle.spv_index.specs.Positions.{Stand, outside, position_after, stand_of, standing, stands, stands_of}
use Rattle.spv_sections.specs.declared.definitions.Definition.{Definition}
use Rattle.spv_sections.specs.Definitions.{by_parts, definition_at, definition_of, definitions_of, first, is_id}

-- what the first stand with an id as its result gives
abbrev pub of_stand : Stand → Definition
of_stand s = definition_at s.position s.inst

reads_found : (id : ℕ) (stood : List Stand) → reads id (map definition_of stood) ≡ option_map of_stand (find (λ (s : Stand). has_result id s.inst) stood)
reads_found id [] = refl
reads_found id (s ∷ more) = by_test (s.inst.id == id) (reads_found id more)
  where
    by_test : (b : Bool) → reads id (map definition_of more) ≡ option_map of_stand (find (λ (t : Stand). has_result id t.inst) more)
        → cond b (Some (of_stand s)) (reads id (map definition_of more)) ≡ option_map of_stand (cond b (Some s) (find (λ (t : Stand). has_result id t.inst) more))
    by_test true rest = refl
    by_test false rest = rest

inst_found : (id : ℕ) (sets : List (ℕ × Bool)) (position : Position) (insts : List Inst)
    → find (has_result id) insts ≡ option_map (λ (s : Stand). s.inst) (find (λ (s : Stand). has_result id s.inst) (stands sets position insts))
inst_found id sets position [] = refl
inst_found id sets position (i ∷ is) = by_test (i.id == id) (inst_found id sets (position_after position (class_of sets i) i) is)
  where
    rest : List Stand
    rest = stands sets (position_after position (class_of sets i) i) is

    by_test : (b : Bool) → find (has_result id) is ≡ option_map (λ (s : Stand). s.inst) (find (λ (s : Stand). has_result id s.inst) rest)
        → cond b (Some i) (find (has_result id) is) ≡ option_map (λ (s : Stand). s.inst) (cond b (Some (record { position = position; class = class_of sets i; inst = i })) (find (λ (s : Stand). has_result id s.inst) rest))
    by_test true more = refl
    by_test false more = more

limited : (bound id : ℕ) → bound ≤ 1048576 → is_id bound id ≡ true → is_limited id ≡ true
limited bound id le h = grind (arith, common_steps)

pub first_none : (decoded : Decoded) (id : ℕ) → false ≡ is_id decoded.bound id → None ≡ first decoded id
unfolding first
first_none decoded id h = rw (← h) refl

first_is : (decoded : Decoded) (id : ℕ) → decoded.bound ≤ 1048576 → is_id decoded.bound id ≡ true
    → (first decoded id ≡ option_map of_stand (stand_of decoded.insts id)) × (defining decoded.insts id ≡ option_map (λ (s : Stand). s.inst) (stand_of decoded.insts id))
unfolding first definitions_of stand_of defining
first_is decoded id le h =
    let small : is_limited id ≡ true = limited decoded.bound id le h in
    rw (h, small) (reads_found id (stands_of decoded.insts), inst_found id (sets_of decoded.insts) outside decoded.insts)

parts_are : (o : Option Stand) → by_parts (option_map (λ (s : Stand). s.inst) o) (option_map standing o) ≡ option_map of_stand o
parts_are None = refl
parts_are (Some s) = refl

pub first_by_parts : (decoded : Decoded) (id : ℕ) (i : Option Inst) (st : Option Standing) → decoded.bound ≤ 1048576 → true ≡ is_id decoded.bound id
    → i ≡ defining decoded.insts id → st ≡ option_map standing (stand_of decoded.insts id) → by_parts i st ≡ first decoded id
first_by_parts decoded id i st le h i_is st_is =
    let is = first_is decoded id le (sym h) in
    rw (i_is, st_is, is.1) (parts_are (stand_of decoded.insts id)) ∙ sym is.0
