-- What the instructions of GLSL.std.450 ask of their operands, and the shape of their results.
use Rattle.std.proofs.Common.{◌≡◌, ◌∙◌, inl, inr, ℕ, zero, suc, false, Some, List, length, refl, sym, ap, subst}
use Rattle.std.specs.Option.{option_map}
use Rattle.spv_alu.specs.Glsl.{glsl_lane}
use Rattle.spv_alu.specs.Integers.{IsWidth}
use Rattle.spv_alu.specs.declared.glsl_op.GlslOp.{GlslOp}
use Rattle.spv_base.specs.Cell.{Cell}
use Rattle.spv_base.specs.declared.instructions.Inst.{Inst}
use Rattle.spv_base.specs.declared.values.Value.{Value}
use Rattle.spv_index.specs.Classes.{is_debug}
use Rattle.spv_types.specs.Laws.{AreSound}
use Rattle.spv_types.specs.Rows.{leaves}
use Rattle.spv_types.specs.Types.{Types}
use Rattle.spv_typing.specs.declared.lanes.Element.TheVariants.{Int}
use Rattle.spv_typing.specs.declared.rules.Rule.{Rule}
use Rattle.spv_typing.specs.declared.rules.Rule.TheVariants.{Clamp, Integer, Integers}
use Rattle.spv_typing.specs.Glsl.{glsl_rule, glsl_rules}
use Rattle.spv_typing.specs.Lanes.{lanes_of}
use Rattle.spv_typing.specs.Laws.{IsTyped, integers}
use Rattle.spv_typing.specs.Rules.{rule_count}
use Rattle.spv_valid.specs.Below.spv_bodies.specs.Context.{Known}
use Rattle.spv_valid.specs.Below.spv_bodies.specs.Lanes.{KeepsExtended, count_of, types_after}
use Rattle.spv_valid.specs.Acceptance.{Accepted}
use Rattle.spv_effects.specs.GlslOps.{MayJoin, glsl_value}
use Rattle.spv_effects.specs.Lanes.{AreScalars}
use Rattle.spv_effects.proofs.Exports.{glsl_scalars, scalars_are_lanes}
use Rattle.spv_results.specs.Operands.{IsOperand, IsResult, known}
use Rattle.spv_results.proofs.LaneTypes.{lanes_fit, operand_lanes}
use Rattle.spv_base.proofs.Exports.{reads_each}
use Rattle.spv_alu.specs.Lanes.{zip3}

-- ---- the rule of an instruction

-- by how many operands there are
abbrev rule_by : ℕ → Rule
rule_by zero = Integer
rule_by (suc zero) = Integer
rule_by (suc (suc zero)) = Integers
rule_by (suc (suc (suc n))) = Clamp

glsl_rule_is : (number : ℕ) (rule : Rule) → glsl_rule number ≡ Some rule → Some rule ≡ option_map rule_by (rule_count rule)
glsl_rule_is number rule h =
    reads_each (λ (k : ℕ) (r : Rule). Some r ≡ option_map rule_by (rule_count r)) number rule glsl_rules
    (refl, (refl, (refl, (refl, (refl, (refl, (refl, (refl, (refl, (refl, (refl, tt))))))))))) h

typed_glsl : (k : Known) (i : Inst) (n : ℕ) → KeepsExtended k i → is_debug k.sets i ≡ false → count_of i ≡ n → IsTyped k.types (rule_by n) i.ty (types_after k i 2)
typed_glsl k i n (inl debug) none count = absurd (cc)
typed_glsl k i n (inr kept) none count =
    let rule : Rule = kept.2.0 in
    let found : Some rule ≡ Some (rule_by n) = glsl_rule_is kept.0 rule kept.2.1 ∙ ap (option_map rule_by) (kept.2.2 ∙ ap Some count) in
    let same : rule ≡ rule_by n = cc in
    subst (λ (r : Rule). IsTyped k.types r i.ty (types_after k i 2)) same kept.2.3

-- ---- operands

-- three rows of n integers of one width, for a result of as many
record DoJoin (ts : Types) (ty : ℕ) (cs ds es : List Cell) : Type 0 where
  n : ℕ
  w : ℕ
  fits : IsWidth w
  first : AreScalars w n cs
  second : AreScalars w n ds
  third : AreScalars w n es
  result : lanes_of ts ty ≡ integers n w

abbrev joining : (ts : Types) (ty : ℕ) (cs ds es : List Cell) (h : DoJoin ts ty cs ds es) → MayJoin cs ds es h.n
joining ts ty cs ds es h = record {
  width = h.w;
  fits = h.fits;
  first = scalars_are_lanes h.w h.n cs h.first;
  second = scalars_are_lanes h.w h.n ds h.second;
  third = scalars_are_lanes h.w h.n es h.third;
}

may_join : (ts : Types) (ty : ℕ) (cs ds es : List Cell) (n : ℕ) → DoJoin ts ty cs ds es → n ≡ length cs → MayJoin cs ds es n
may_join ts ty cs ds es n h long = subst (MayJoin cs ds es) (sym (long ∙ h.first.count)) (joining ts ty cs ds es h)

-- an operand may be passed again, as a copy
module _ (a : Accepted) (i : Inst) (operation : GlslOp) (sound : AreSound a.types) (none : is_debug (known a).sets i ≡ false) (kept : KeepsExtended (known a) i) where
  shape_of : (x y z : Value) → DoJoin a.types i.ty (leaves x) (leaves y) (leaves z) → IsResult a i (glsl_value operation x y z)
  shape_of x y z h =
      let cs : List Cell = zip3 (glsl_lane operation) (leaves x) (leaves y) (leaves z) in
      let may = joining a.types i.ty (leaves x) (leaves y) (leaves z) h in
      lanes_fit a.types i.ty h.n (Int h.w) cs sound h.result (glsl_scalars operation h.n (leaves x) (leaves y) (leaves z) may)

  module _ (x : Value) (first : IsOperand a i 2 x) (count : count_of i ≡ 1) where
    one : DoJoin a.types i.ty (leaves x) (leaves x) (leaves x)
    one =
        let t : IsTyped a.types Integer i.ty (types_after (known a) i 2) = typed_glsl (known a) i 1 kept none count in
        let p = operand_lanes a i 2 t.0 (Int t.1) x sound first t.3 in
        record { n = t.0; w = t.1; fits = p.width; first = p.scalars; second = p.scalars; third = p.scalars; result = t.2 }

    pub may_join_one : (y z : Value) (n : ℕ) → y ≡ x → z ≡ x → n ≡ length (leaves x) → MayJoin (leaves x) (leaves y) (leaves z) n
    may_join_one y z n again more long = rw (again, more) (may_join a.types i.ty (leaves x) (leaves x) (leaves x) n one long)

    pub shape_of_one : (y z v : Value) → y ≡ x → z ≡ x → v ≡ glsl_value operation x y z → IsResult a i v
    shape_of_one y z v again more e = rw (e, again, more) (shape_of x x x one)

  module _ (x y : Value) (first : IsOperand a i 2 x) (second : IsOperand a i 3 y) (count : count_of i ≡ 2) where
    two : DoJoin a.types i.ty (leaves x) (leaves y) (leaves y)
    two =
        let t : IsTyped a.types Integers i.ty (types_after (known a) i 2) = typed_glsl (known a) i 2 kept none count in
        let p = operand_lanes a i 2 t.0 (Int t.1) x sound first t.3 in
        let q = operand_lanes a i 3 t.0 (Int t.1) y sound second t.4 in
        record { n = t.0; w = t.1; fits = p.width; first = p.scalars; second = q.scalars; third = q.scalars; result = t.2 }

    pub may_join_two : (z : Value) (n : ℕ) → z ≡ y → n ≡ length (leaves x) → MayJoin (leaves x) (leaves y) (leaves z) n
    may_join_two z n again long = rw again (may_join a.types i.ty (leaves x) (leaves y) (leaves y) n two long)

    pub shape_of_two : (z v : Value) → z ≡ y → v ≡ glsl_value operation x y z → IsResult a i v
    shape_of_two z v again e = rw (e, again) (shape_of x y y two)

  module _ (x y z : Value) (first : IsOperand a i 2 x) (second : IsOperand a i 3 y) (third : IsOperand a i 4 z) (count : count_of i ≡ 3) where
    three : DoJoin a.types i.ty (leaves x) (leaves y) (leaves z)
    three =
        let t : IsTyped a.types Clamp i.ty (types_after (known a) i 2) = typed_glsl (known a) i 3 kept none count in
        let p = operand_lanes a i 2 t.0 (Int t.1) x sound first t.3 in
        let q = operand_lanes a i 3 t.0 (Int t.1) y sound second t.4 in
        let r = operand_lanes a i 4 t.0 (Int t.1) z sound third t.5 in
        record { n = t.0; w = t.1; fits = p.width; first = p.scalars; second = q.scalars; third = r.scalars; result = t.2 }

    pub may_join_three : (n : ℕ) → n ≡ length (leaves x) → MayJoin (leaves x) (leaves y) (leaves z) n
    may_join_three n long = may_join a.types i.ty (leaves x) (leaves y) (leaves z) n three long

    pub shape_of_three : (v : Value) → v ≡ glsl_value operation x y z → IsResult a i v
    shape_of_three v e = rw e (shape_of x y z three)
