-- The bits of a value, by its leaves.
use Rattle.std.proofs.Common.{◌≡◌, ◌∙◌, Bool, List, [], ◌∷◌, ◌++◌, Option, map, append_assoc, refl, sym, ap, subst}
use Rattle.std.specs.List.{flat_map}
use Rattle.std.proofs.lemmas.List.{append-nil}
use Rattle.std.proofs.lemmas.List.Folds.{flat_map-map}
use Rattle.spv_base.specs.Bits.{bits, bits_step, cell_bits, joined}
use Rattle.spv_base.specs.Cell.{Cell}
use Rattle.spv_base.specs.declared.values.Pointer.{Pointer}
use Rattle.spv_base.specs.declared.values.Value.{Value, fold-roll-Value, ind-Value, map-Value, roll-Value}
use Rattle.spv_base.specs.declared.values.Value.TheOpen.{Value-F}
use Rattle.spv_types.specs.Rows.{leaves, leaves_step}
use Rattle.spv_expr.specs.Bits.{bits_of}

abbrev IsByLeaves : Value → Type 0
IsByLeaves v = bits v ≡ bits_of (leaves v)

abbrev Proved : Type 0
Proved = (v : Value) × IsByLeaves v

abbrev firsts : List Proved → List Value
firsts es = map (λ (e : Proved). e.0) es

bits_append : (xs ys : List Cell) → bits_of (xs ++ ys) ≡ bits_of xs ++ bits_of ys
bits_append [] ys = refl
bits_append (x ∷ xs) ys = ap (λ (bs : List (Option Bool)). cell_bits x ++ bs) (bits_append xs ys) ∙ sym (append_assoc (cell_bits x) (bits_of xs) (bits_of ys))

each : (es : List Proved) → joined (map bits (firsts es)) ≡ bits_of (flat_map leaves (firsts es))
each [] = refl
each (e ∷ es) =
    ap (λ (bs : List (Option Bool)). bs ++ joined (map bits (firsts es))) e.1
    ∙ ap (λ (bs : List (Option Bool)). bits_of (leaves e.0) ++ bs) (each es)
    ∙ sym (bits_append (leaves e.0) (flat_map leaves (firsts es)))

scalar : (c : Cell) → IsByLeaves (roll-Value (Value-F.Scalar c))
unfolding leaves
scalar c = fold-roll-Value (List (Option Bool)) bits_step (Value-F.Scalar c) ∙ sym (append-nil (cell_bits c)) ∙ ap bits_of (sym (fold-roll-Value (List Cell) leaves_step (Value-F.Scalar c)))

pointer : (p : Pointer) → IsByLeaves (roll-Value (Value-F.Ptr p))
unfolding leaves
pointer p = fold-roll-Value (List (Option Bool)) bits_step (Value-F.Ptr p) ∙ ap bits_of (sym (fold-roll-Value (List Cell) leaves_step (Value-F.Ptr p)))

many : (es : List Proved) → IsByLeaves (roll-Value (Value-F.List (firsts es)))
unfolding leaves
many es =
    let vs : List Value = firsts es in
    fold-roll-Value (List (Option Bool)) bits_step (Value-F.List vs) ∙ each es
    ∙ ap bits_of (sym (fold-roll-Value (List Cell) leaves_step (Value-F.List vs) ∙ flat_map-map (λ (row : List Cell). row) leaves vs))

level : (x : Value-F Value) (y : Value-F Proved) → map-Value Proved Value (λ (e : Proved). e.0) y ≡ x → IsByLeaves (roll-Value x)
level x (Value-F.Scalar c) is = subst (λ (z : Value-F Value). IsByLeaves (roll-Value z)) is (scalar c)
level x (Value-F.List es) is = subst (λ (z : Value-F Value). IsByLeaves (roll-Value z)) is (many es)
level x (Value-F.Ptr p) is = subst (λ (z : Value-F Value). IsByLeaves (roll-Value z)) is (pointer p)

pub bits_by_leaves : (v : Value) → bits v ≡ bits_of (leaves v)
bits_by_leaves = ind-Value IsByLeaves level
