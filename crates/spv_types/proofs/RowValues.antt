-- The row of a value with no pointer tells the value.
use Rattle.std.proofs.Common.{◌≡◌, ◌∙◌, ℕ, zero, suc, Bool, true, false, List, [], ◌∷◌, ◌++◌, Option, Some, None, length, take, drop, take_at, drop_at, refl, sym, ap, arith}
use Rattle.std.specs.Bool.{MatchBool}
use Rattle.std.specs.Option.{IsSomeAnd, MatchOption, option_map_or}
use Rattle.std.specs.Prelude.{if◌then◌else◌}
use Rattle.std.specs.List.{All, AllZip, flat_map}
use Rattle.std.proofs.lemmas.List.Elements.{All-head, All-tail}
use Rattle.spv_base.specs.Cell.{Cell}
use Rattle.spv_base.specs.declared.values.Value.{Value, Scalar, List as Many, out-Value}
use Rattle.spv_base.specs.declared.values.Value.TheOpen.{Value-F}
use Rattle.spv_base.specs.Options.{holds}
use Rattle.spv_types.specs.declared.forms.Form.{Form}
use Rattle.spv_types.specs.declared.forms.Form.TheVariants.{Void, Bool as Boolean, Int, Vector, Array, Runtime, Struct, Pointer, Function}
use Rattle.spv_types.specs.declared.forms.Member.{Member}
use Rattle.spv_types.specs.Types.{Types, form_of, in_first, number_of}
use Rattle.spv_types.specs.Cells.{cells_among, cells_of, cells_step, members_cells}
use Rattle.spv_types.specs.Shapes.{HasShape, HasShapeAmong, LeadsTo, pointer_in, scalar_in, shape_step}
use Rattle.spv_types.specs.Rows.{leaves, no_roots}
use Rattle.spv_types.proofs.RowLemmas.{many_by, many_row, scalar_by, scalar_row}
use Rattle.spv_types.proofs.CellLemmas.{added_is}
use Rattle.spv_types.proofs.RowCounts.{Counts, among_counts, many_is, times_is}

-- values of a type with one row are one value
abbrev pub Tells : (ℕ → Value → Type 0) → (ℕ → Option ℕ) → Type 0
Tells shape cells = (id : ℕ) (v u : Value) (n : ℕ) → shape id v → shape id u → cells id ≡ Some n → leaves v ≡ leaves u → v ≡ u

-- two lists that begin with as many items
split : (a b c d : List Cell) → length a ≡ length b → a ++ c ≡ b ++ d → (a ≡ b) × (c ≡ d)
split a b c d l h = (
  sym (take_at a c (length b) l) ∙ ap (take (length b)) h ∙ take_at b d (length b) refl,
  sym (drop_at a c (length b) l) ∙ ap (drop (length b)) h ∙ drop_at b d (length b) refl,
)

each_tell : (P : Value → Type 0) (c : ℕ) (vs us : List Value) → ((v : Value) → P v → length (leaves v) ≡ c) → ((v u : Value) → P v → P u → leaves v ≡ leaves u → v ≡ u)
    → All P vs → All P us → length vs ≡ length us → flat_map leaves vs ≡ flat_map leaves us → vs ≡ us
each_tell P c [] [] count tell p q l h = refl
each_tell P c [] (u ∷ us) count tell p q l h = absurd (omega arith)
each_tell P c (v ∷ vs) [] count tell p q l h = absurd (omega arith)
each_tell P c (v ∷ vs) (u ∷ us) count tell p q l h =
    let one : length (leaves v) ≡ length (leaves u) = count v (All-head P v vs p) ∙ sym (count u (All-head P u us q)) in
    let parts = split (leaves v) (leaves u) (flat_map leaves vs) (flat_map leaves us) one h in
    let first : v ≡ u = tell v u (All-head P v vs p) (All-head P u us q) parts.0 in
    let rest : vs ≡ us = each_tell P c vs us count tell (All-tail P v vs p) (All-tail P u us q) (omega arith) parts.1 in
    cc

members_tell : (shape : ℕ → Value → Type 0) (cells : ℕ → Option ℕ) (ms : List Member) (vs us : List Value) (n : ℕ) → Counts shape cells → Tells shape cells
    → AllZip (λ (m : Member). shape m.ty) ms vs → AllZip (λ (m : Member). shape m.ty) ms us → members_cells cells ms ≡ Some n → flat_map leaves vs ≡ flat_map leaves us → vs ≡ us
unfolding members_cells
members_tell shape cells [] [] [] n count tell p q k h = refl
members_tell shape cells [] [] (u ∷ us) n count tell p q k h = absurd q
members_tell shape cells [] (v ∷ vs) us n count tell p q k h = absurd p
members_tell shape cells (m ∷ ms) [] us n count tell p q k h = absurd p
members_tell shape cells (m ∷ ms) (v ∷ vs) [] n count tell p q k h = absurd q
members_tell shape cells (m ∷ ms) (v ∷ vs) (u ∷ us) n count tell p q k h =
    let sum = added_is (cells m.ty) (members_cells cells ms) n k in
    let one : length (leaves v) ≡ length (leaves u) = count m.ty v sum.0 p.0 sum.2 ∙ sym (count m.ty u sum.0 q.0 sum.2) in
    let parts = split (leaves v) (leaves u) (flat_map leaves vs) (flat_map leaves us) one h in
    let first : v ≡ u = tell m.ty v u sum.0 p.0 q.0 sum.2 parts.0 in
    let rest : vs ≡ us = members_tell shape cells ms vs us sum.1 count tell p.1 q.1 sum.3 parts.1 in
    cc

scalar_value : (P : Cell → Type 0) (v : Value) → IsSomeAnd (scalar_in (out-Value v)) P → (c : Cell) × (v ≡ Scalar c) × (leaves v ≡ c ∷ [])
scalar_value P v h = level (out-Value v) refl h
  where
    level : (l : Value-F Value) → out-Value v ≡ l → IsSomeAnd (scalar_in l) P → (c : Cell) × (v ≡ Scalar c) × (leaves v ≡ c ∷ [])
    level (Value-F.Scalar c) e h = (c, scalar_by v c e, scalar_row v c e)
    level (Value-F.List vs) e h = absurd h
    level (Value-F.Ptr p) e h = absurd h

scalars_tell : (P : Cell → Type 0) (v u : Value) → IsSomeAnd (scalar_in (out-Value v)) P → IsSomeAnd (scalar_in (out-Value u)) P → leaves v ≡ leaves u → v ≡ u
scalars_tell P v u p q h =
    let a = scalar_value P v p in
    let b = scalar_value P u q in
    let rows : a.0 ∷ [] ≡ b.0 ∷ [] = sym a.2 ∙ h ∙ b.2 in
    let same : a.0 ≡ b.0 = cc in
    a.1 ∙ ap Scalar same ∙ sym b.1

pub no_pointer : (ts : Types) (v : Value) (target : ℕ) → IsSomeAnd (pointer_in (out-Value v)) (λ p. LeadsTo ts no_roots p target) → ⊥
no_pointer ts v target h = level (out-Value v) h
  where
    level : (l : Value-F Value) → IsSomeAnd (pointer_in l) (λ p. LeadsTo ts no_roots p target) → ⊥
    level (Value-F.Scalar c) h = h
    level (Value-F.List vs) h = h
    level (Value-F.Ptr p) h = cc

rows_of : (v u : Value) (vs us : List Value) → out-Value v ≡ Value-F.List vs → out-Value u ≡ Value-F.List us → leaves v ≡ leaves u → flat_map leaves vs ≡ flat_map leaves us
rows_of v u vs us e f h = sym (many_row v vs e) ∙ h ∙ many_row u us f

values_of : (v u : Value) (vs us : List Value) → out-Value v ≡ Value-F.List vs → out-Value u ≡ Value-F.List us → vs ≡ us → v ≡ u
values_of v u vs us e f h = many_by v vs e ∙ ap Many h ∙ sym (many_by u us f)

step_tells : (ts : Types) (shape : ℕ → Value → Type 0) (cells : ℕ → Option ℕ) (f : Form) (v u : Value) (n : ℕ) → Counts shape cells → Tells shape cells
    → shape_step ts no_roots shape f v → shape_step ts no_roots shape f u → cells_step cells f ≡ Some n → leaves v ≡ leaves u → v ≡ u
step_tells ts shape cells Void v u n count tell p q k h = absurd p
step_tells ts shape cells Boolean v u n count tell p q k h = scalars_tell _ v u p q h
step_tells ts shape cells (Int width sign) v u n count tell p q k h = scalars_tell _ v u p q h
step_tells ts shape cells (Vector component size) v u n count tell p q k h =
    let a = many_is _ v p in
    let b = many_is _ u q in
    let times = times_is (cells component) size n k in
    values_of v u a.0 b.0 a.1 b.1 (each_tell (shape component) times.0 a.0 b.0 (λ w s. count component w times.0 s times.1) (λ w x s t. tell component w x times.0 s t times.1)
    a.2.1 b.2.1 (a.2.0 ∙ sym b.2.0) (rows_of v u a.0 b.0 a.1 b.1 h))
step_tells ts shape cells (Array element None stride) v u n count tell p q k h = cc
step_tells ts shape cells (Array element (Some size) stride) v u n count tell p q k h =
    let a = many_is _ v p in
    let b = many_is _ u q in
    let times = times_is (cells element) size n k in
    let same : length a.0 ≡ length b.0 = let e = a.2.0 in let f = b.2.0 in cc in
    values_of v u a.0 b.0 a.1 b.1 (each_tell (shape element) times.0 a.0 b.0 (λ w s. count element w times.0 s times.1) (λ w x s t. tell element w x times.0 s t times.1)
    a.2.1 b.2.1 same (rows_of v u a.0 b.0 a.1 b.1 h))
step_tells ts shape cells (Runtime element stride) v u n count tell p q k h = cc
step_tells ts shape cells (Struct members block) v u n count tell p q k h =
    let a = many_is _ v p in
    let b = many_is _ u q in
    values_of v u a.0 b.0 a.1 b.1 (members_tell shape cells members a.0 b.0 n count tell a.2 b.2 k (rows_of v u a.0 b.0 a.1 b.1 h))
step_tells ts shape cells (Pointer class target) v u n count tell p q k h = absurd (no_pointer ts v target p)
step_tells ts shape cells (Function returns parameters) v u n count tell p q k h = absurd p

formed_tells : (ts : Types) (shape : ℕ → Value → Type 0) (cells : ℕ → Option ℕ) (o : Option Form) (v u : Value) (n : ℕ) → Counts shape cells → Tells shape cells
    → MatchOption o ⊥ (λ f. shape_step ts no_roots shape f v) → MatchOption o ⊥ (λ f. shape_step ts no_roots shape f u) → option_map_or (cells_step cells) o None ≡ Some n → leaves v ≡ leaves u → v ≡ u
formed_tells ts shape cells None v u n count tell p q k h = absurd p
formed_tells ts shape cells (Some f) v u n count tell p q k h = step_tells ts shape cells f v u n count tell p q k h

among_tells : (ts : Types) (m : ℕ) → Tells (HasShapeAmong ts no_roots m) (cells_among ts m)
unfolding HasShapeAmong cells_among in_first
among_tells ts zero id v u n p q k h = absurd p
among_tells ts (suc m) id v u n p q k h = here (among_tells ts m) (holds m (number_of ts id)) p q k
  where
    here : Tells (HasShapeAmong ts no_roots m) (cells_among ts m) → (b : Bool)
        → MatchBool b (MatchOption (form_of ts id) ⊥ (λ f. shape_step ts no_roots (HasShapeAmong ts no_roots m) f v)) (HasShapeAmong ts no_roots m id v)
        → MatchBool b (MatchOption (form_of ts id) ⊥ (λ f. shape_step ts no_roots (HasShapeAmong ts no_roots m) f u)) (HasShapeAmong ts no_roots m id u)
        → (if b then option_map_or (cells_step (cells_among ts m)) (form_of ts id) None else cells_among ts m id) ≡ Some n → v ≡ u
    here below true p q k = formed_tells ts (HasShapeAmong ts no_roots m) (cells_among ts m) (form_of ts id) v u n (among_counts ts no_roots m) below p q k h
    here below false p q k = below id v u n p q k h

pub rows_tell : (ts : Types) → Tells (HasShape ts no_roots) (cells_of ts)
unfolding HasShape cells_of
rows_tell ts id v u n p q k h = among_tells ts (length ts) id v u n p q k h
