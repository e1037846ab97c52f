-- Values of one type with one number of leaves have one outline, and so has what may be stored over a part of memory.
use Rattle.std.proofs.Common.{◌≡◌, ◌∙◌, ℕ, zero, suc, Bool, true, false, List, [], ◌∷◌, Option, Some, None, map, length, refl, sym, ap, arith}
use Rattle.std.specs.Bool.{MatchBool}
use Rattle.std.specs.Option.{IsSomeAnd, MatchOption, option_map_or}
use Rattle.std.specs.Prelude.{if◌then◌else◌}
use Rattle.std.specs.List.{All, AllZip}
use Rattle.std.proofs.lemmas.List.Elements.{All-head, All-tail}
use Rattle.spv_base.specs.Cell.{Cell, undefined_cell}
use Rattle.spv_base.specs.declared.values.Value.{Value, Scalar, List as Many, out-Value}
use Rattle.spv_base.specs.declared.values.Value.TheOpen.{Value-F}
use Rattle.spv_base.specs.Options.{holds}
use Rattle.spv_types.specs.declared.forms.Form.{Form}
use Rattle.spv_types.specs.declared.forms.Form.TheVariants.{Void, Bool as Boolean, Int, Vector, Array, Runtime, Struct, Pointer, Function}
use Rattle.spv_types.specs.declared.forms.Member.{Member}
use Rattle.spv_types.specs.Types.{Types, form_of, in_first, number_of}
use Rattle.spv_types.specs.Cells.{cells_among, cells_of, cells_step, members_cells}
use Rattle.spv_types.specs.Shapes.{HasShape, HasShapeAmong, scalar_in, shape_step}
use Rattle.spv_types.specs.Rows.{no_roots}
use Rattle.spv_types.proofs.Exports.{added_is, many_by, many_is, no_pointer, scalar_by, times_is}
use Rattle.spv_touch.specs.Views.{outline}
use Rattle.spv_touch.proofs.OutlineLemmas.{outline_many, outline_scalar}

-- values of a type have one outline
abbrev pub Outlines : (ℕ → Value → Type 0) → (ℕ → Option ℕ) → Type 0
Outlines shape cells = (id : ℕ) (v u : Value) (n : ℕ) → shape id v → shape id u → cells id ≡ Some n → outline v ≡ outline u

each_alike : (P : Value → Type 0) (vs us : List Value) → ((v u : Value) → P v → P u → outline v ≡ outline u) → All P vs → All P us → length vs ≡ length us → map outline vs ≡ map outline us
each_alike P [] [] alike p q l = refl
each_alike P [] (u ∷ us) alike p q l = absurd (omega (arith, l))
each_alike P (v ∷ vs) [] alike p q l = absurd (omega (arith, l))
each_alike P (v ∷ vs) (u ∷ us) alike p q l =
    let first : outline v ≡ outline u = alike v u (All-head P v vs p) (All-head P u us q) in
    let rest : map outline vs ≡ map outline us = each_alike P vs us alike (All-tail P v vs p) (All-tail P u us q) (omega (arith, l)) in
    cc

members_alike : (shape : ℕ → Value → Type 0) (cells : ℕ → Option ℕ) (ms : List Member) (vs us : List Value) (n : ℕ) → Outlines shape cells
    → AllZip (λ (m : Member). shape m.ty) ms vs → AllZip (λ (m : Member). shape m.ty) ms us → members_cells cells ms ≡ Some n → map outline vs ≡ map outline us
unfolding members_cells
members_alike shape cells [] [] [] n alike p q k = refl
members_alike shape cells [] [] (u ∷ us) n alike p q k = absurd q
members_alike shape cells [] (v ∷ vs) us n alike p q k = absurd p
members_alike shape cells (m ∷ ms) [] us n alike p q k = absurd p
members_alike shape cells (m ∷ ms) (v ∷ vs) [] n alike p q k = absurd q
members_alike shape cells (m ∷ ms) (v ∷ vs) (u ∷ us) n alike p q k =
    let sum = added_is (cells m.ty) (members_cells cells ms) n k in
    let first : outline v ≡ outline u = alike m.ty v u sum.0 p.0 q.0 sum.2 in
    let rest : map outline vs ≡ map outline us = members_alike shape cells ms vs us sum.1 alike p.1 q.1 sum.3 in
    cc

pub scalar_outline : (P : Cell → Type 0) (v : Value) → IsSomeAnd (scalar_in (out-Value v)) P → outline v ≡ Scalar (undefined_cell 0)
scalar_outline P v h = level (out-Value v) refl h
  where
    level : (l : Value-F Value) → out-Value v ≡ l → IsSomeAnd (scalar_in l) P → outline v ≡ Scalar (undefined_cell 0)
    level (Value-F.Scalar c) e h = ap outline (scalar_by v c e) ∙ outline_scalar c
    level (Value-F.List vs) e h = absurd h
    level (Value-F.Ptr p) e h = absurd h

many_alike : (v u : Value) (vs us : List Value) → out-Value v ≡ Value-F.List vs → out-Value u ≡ Value-F.List us → map outline vs ≡ map outline us → outline v ≡ outline u
many_alike v u vs us e f h = ap outline (many_by v vs e) ∙ outline_many vs ∙ ap Many h ∙ sym (outline_many us) ∙ ap outline (sym (many_by u us f))

step_alike : (ts : Types) (shape : ℕ → Value → Type 0) (cells : ℕ → Option ℕ) (f : Form) (v u : Value) (n : ℕ) → Outlines shape cells
    → shape_step ts no_roots shape f v → shape_step ts no_roots shape f u → cells_step cells f ≡ Some n → outline v ≡ outline u
step_alike ts shape cells Void v u n alike p q k = absurd p
step_alike ts shape cells Boolean v u n alike p q k = scalar_outline _ v p ∙ sym (scalar_outline _ u q)
step_alike ts shape cells (Int width sign) v u n alike p q k = scalar_outline _ v p ∙ sym (scalar_outline _ u q)
step_alike ts shape cells (Vector component size) v u n alike p q k =
    let a = many_is _ v p in
    let b = many_is _ u q in
    let times = times_is (cells component) size n k in
    many_alike v u a.0 b.0 a.1 b.1 (each_alike (shape component) a.0 b.0 (λ w x s t. alike component w x times.0 s t times.1) a.2.1 b.2.1 (a.2.0 ∙ sym b.2.0))
step_alike ts shape cells (Array element None stride) v u n alike p q k = cc
step_alike ts shape cells (Array element (Some size) stride) v u n alike p q k =
    let a = many_is _ v p in
    let b = many_is _ u q in
    let times = times_is (cells element) size n k in
    let same : length a.0 ≡ length b.0 = let e = a.2.0 in let f = b.2.0 in cc in
    many_alike v u a.0 b.0 a.1 b.1 (each_alike (shape element) a.0 b.0 (λ w x s t. alike element w x times.0 s t times.1) a.2.1 b.2.1 same)
step_alike ts shape cells (Runtime element stride) v u n alike p q k = cc
step_alike ts shape cells (Struct members block) v u n alike p q k =
    let a = many_is _ v p in
    let b = many_is _ u q in
    many_alike v u a.0 b.0 a.1 b.1 (members_alike shape cells members a.0 b.0 n alike a.2 b.2 k)
step_alike ts shape cells (Pointer class target) v u n alike p q k = absurd (no_pointer ts v target p)
step_alike ts shape cells (Function returns parameters) v u n alike p q k = absurd p

formed_alike : (ts : Types) (shape : ℕ → Value → Type 0) (cells : ℕ → Option ℕ) (o : Option Form) (v u : Value) (n : ℕ) → Outlines shape cells
    → MatchOption o ⊥ (λ f. shape_step ts no_roots shape f v) → MatchOption o ⊥ (λ f. shape_step ts no_roots shape f u) → option_map_or (cells_step cells) o None ≡ Some n → outline v ≡ outline u
formed_alike ts shape cells None v u n alike p q k = absurd p
formed_alike ts shape cells (Some f) v u n alike p q k = step_alike ts shape cells f v u n alike p q k

among_alike : (ts : Types) (m : ℕ) → Outlines (HasShapeAmong ts no_roots m) (cells_among ts m)
unfolding HasShapeAmong cells_among in_first
among_alike ts zero id v u n p q k = absurd p
among_alike ts (suc m) id v u n p q k = here (among_alike ts m) (holds m (number_of ts id)) p q k
  where
    here : Outlines (HasShapeAmong ts no_roots m) (cells_among ts m) → (b : Bool)
        → MatchBool b (MatchOption (form_of ts id) ⊥ (λ f. shape_step ts no_roots (HasShapeAmong ts no_roots m) f v)) (HasShapeAmong ts no_roots m id v)
        → MatchBool b (MatchOption (form_of ts id) ⊥ (λ f. shape_step ts no_roots (HasShapeAmong ts no_roots m) f u)) (HasShapeAmong ts no_roots m id u)
        → (if b then option_map_or (cells_step (cells_among ts m)) (form_of ts id) None else cells_among ts m id) ≡ Some n → outline v ≡ outline u
    here below true p q k = formed_alike ts (HasShapeAmong ts no_roots m) (cells_among ts m) (form_of ts id) v u n below p q k
    here below false p q k = below id v u n p q k

pub shapes_alike : (ts : Types) → Outlines (HasShape ts no_roots) (cells_of ts)
unfolding HasShape cells_of
shapes_alike ts id v u n p q k = among_alike ts (length ts) id v u n p q k
