-- A value of the form of another has the leaves that it is filled with.
use Rattle.std.proofs.Common.{◌≡◌, ◌∙◌, ℕ, ◌+◌, List, [], ◌∷◌, ◌++◌, map, length, length-append, append_assoc, append-nil, refl, sym, ap, subst, arith, take, drop}
use Rattle.std.proofs.lemmas.List.{length-drop, length-take-le, take-append-drop}
use Rattle.std.proofs.lemmas.List.Folds.{flat_map-map}
use Rattle.std.specs.List.{flat_map}
use Rattle.spv_base.specs.Cell.{Cell}
use Rattle.spv_base.specs.declared.values.Pointer.{Pointer}
use Rattle.spv_base.specs.declared.values.Value.{Value, List as Many, fold-roll-Value, ind-Value, map-Value, roll-Value}
use Rattle.spv_base.specs.declared.values.Value.TheOpen.{Value-F}
use Rattle.spv_types.specs.Rows.{leaves, leaves_step, pointer_lane}
use Rattle.spv_types.proofs.Exports.{leaves_many, leaves_scalar}
use Rattle.spv_effects.specs.Forms.{Filler, fill_each, fill_scalar, fill_step, filled, with_leaves}

-- filled with as many leaves as it has, a value has these, and leaves what is behind them
abbrev pub Fills : Value → Type 0
Fills v = (cs rest : List Cell) → length cs ≡ length (leaves v) → (leaves (filled v (cs ++ rest)).0 ≡ cs) × ((filled v (cs ++ rest)).1 ≡ rest)

abbrev Proved : Type 0
Proved = (v : Value) × Fills v

abbrev firsts : List Proved → List Value
firsts es = map (λ (e : Proved). e.0) es

each_fills : (es : List Proved) (cs rest : List Cell) → length cs ≡ length (flat_map leaves (firsts es))
    → (flat_map leaves (fill_each (map filled (firsts es)) (cs ++ rest)).0 ≡ cs) × ((fill_each (map filled (firsts es)) (cs ++ rest)).1 ≡ rest)
each_fills [] [] rest h = (refl, refl)
each_fills [] (c ∷ cs) rest h = absurd (omega arith)
each_fills (e ∷ es) cs rest h =
    let v : Value = e.0 in
    let n : ℕ = length (leaves v) in
    let sum : length cs ≡ n + length (flat_map leaves (firsts es)) = h ∙ length-append (leaves v) (flat_map leaves (firsts es)) in
    let front : length (take n cs) ≡ n = length-take-le n cs (omega arith) in
    let back : length (drop n cs) ≡ length (flat_map leaves (firsts es)) = length-drop n cs ∙ omega arith in
    let whole : take n cs ++ drop n cs ≡ cs = take-append-drop n cs in
    let one = e.1 (take n cs) (drop n cs ++ rest) front in
    let more = each_fills es (drop n cs) rest back in
    let split : cs ++ rest ≡ take n cs ++ (drop n cs ++ rest) = ap (λ (t : List Cell). t ++ rest) (sym whole) ∙ append_assoc (take n cs) (drop n cs) rest in
    let first : leaves (filled v (cs ++ rest)).0 ≡ take n cs = ap (λ (t : List Cell). leaves (filled v t).0) split ∙ one.0 in
    let behind : (filled v (cs ++ rest)).1 ≡ drop n cs ++ rest = ap (λ (t : List Cell). (filled v t).1) split ∙ one.1 in
    let fillers : List Filler = map filled (firsts es) in (
      ap (λ (t : List Cell). t ++ flat_map leaves (fill_each fillers (filled v (cs ++ rest)).1).0) first
          ∙ ap (λ (t : List Cell). take n cs ++ flat_map leaves (fill_each fillers t).0) behind
          ∙ ap (λ (t : List Cell). take n cs ++ t) more.0
          ∙ whole,
      ap (λ (t : List Cell). (fill_each fillers t).1) behind ∙ more.1,
    )

one_fills : (v : Value) (c : Cell) → filled v ≡ fill_scalar → leaves v ≡ c ∷ [] → Fills v
one_fills v c e row [] rest h = let n : length (leaves v) ≡ 1 = ap length row in absurd (omega arith)
one_fills v c e row (d ∷ []) rest h = rw e (leaves_scalar d, refl)
one_fills v c e row (d ∷ (g ∷ cs)) rest h = let n : length (leaves v) ≡ 1 = ap length row in absurd (omega arith)

scalar_fills : (c : Cell) → Fills (roll-Value (Value-F.Scalar c))
unfolding filled leaves
scalar_fills c = one_fills (roll-Value (Value-F.Scalar c)) c (fold-roll-Value Filler fill_step (Value-F.Scalar c)) (fold-roll-Value (List Cell) leaves_step (Value-F.Scalar c))

pointer_fills : (p : Pointer) → Fills (roll-Value (Value-F.Ptr p))
unfolding filled leaves
pointer_fills p = one_fills (roll-Value (Value-F.Ptr p)) pointer_lane (fold-roll-Value Filler fill_step (Value-F.Ptr p)) (fold-roll-Value (List Cell) leaves_step (Value-F.Ptr p))

pub many_filled : (vs : List Value) (cs : List Cell) → filled (roll-Value (Value-F.List vs)) cs ≡ (Many (fill_each (map filled vs) cs).0, (fill_each (map filled vs) cs).1)
unfolding filled
many_filled vs cs = ap (λ (f : Filler). f cs) (fold-roll-Value Filler fill_step (Value-F.List vs))

many_leaves : (vs : List Value) → leaves (roll-Value (Value-F.List vs)) ≡ flat_map leaves vs
unfolding leaves
many_leaves vs = fold-roll-Value (List Cell) leaves_step (Value-F.List vs) ∙ flat_map-map (λ row. row) leaves vs

many_fills : (es : List Proved) → Fills (roll-Value (Value-F.List (firsts es)))
many_fills es cs rest h =
    let vs : List Value = firsts es in
    let out = many_filled vs (cs ++ rest) in
    let each = each_fills es cs rest (h ∙ ap length (many_leaves vs)) in
    (ap (λ (p : Value × List Cell). leaves p.0) out ∙ leaves_many (fill_each (map filled vs) (cs ++ rest)).0 ∙ each.0, ap (λ (p : Value × List Cell). p.1) out ∙ each.1)

level_fills : (x : Value-F Value) (y : Value-F Proved) → map-Value Proved Value (λ (e : Proved). e.0) y ≡ x → Fills (roll-Value x)
level_fills x (Value-F.Scalar c) is = subst (λ (z : Value-F Value). Fills (roll-Value z)) is (scalar_fills c)
level_fills x (Value-F.List es) is = subst (λ (z : Value-F Value). Fills (roll-Value z)) is (many_fills es)
level_fills x (Value-F.Ptr p) is = subst (λ (z : Value-F Value). Fills (roll-Value z)) is (pointer_fills p)

pub fills : (v : Value) → Fills v
fills = ind-Value Fills level_fills

pub leaves_filled : (v : Value) (cs : List Cell) → length cs ≡ length (leaves v) → leaves (with_leaves v cs) ≡ cs
unfolding with_leaves
leaves_filled v cs h = subst (λ (t : List Cell). leaves (filled v t).0 ≡ cs) (append-nil cs) (fills v cs [] h).0
