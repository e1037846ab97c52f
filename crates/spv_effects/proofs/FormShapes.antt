-- A value whose leaves are exchanged for others of the same widths keeps its shape.
use Rattle.std.proofs.Common.{◌≡◌, ◌∙◌, ℕ, zero, suc, Bool, true, false, List, [], ◌∷◌, ◌++◌, Option, Some, None, map, length, append_assoc, append-nil, refl, sym, ap, subst, arith, take, drop, take_at, drop_at}
use Rattle.std.specs.Bool.{MatchBool}
use Rattle.std.specs.Option.{IsSomeAnd, MatchOption}
use Rattle.std.proofs.lemmas.List.{drop-map, length-map, map-append, take-append-drop, take-map}
use Rattle.std.proofs.lemmas.List.Elements.{All-cons, All-drop, All-head, All-nil, All-tail, All-take}
use Rattle.std.specs.List.{All, AllZip, flat_map}
use Rattle.spv_base.specs.Cell.{IsCell, Cell}
use Rattle.spv_base.specs.Parts.{parts_in}
use Rattle.spv_base.specs.declared.values.Value.{Value, List as Many, fold-roll-Value, out-Value, roll-Value, roll-out-Value}
use Rattle.spv_base.specs.declared.values.Value.TheOpen.{Value-F}
use Rattle.spv_base.proofs.Exports.{out_many}
use Rattle.spv_base.specs.Options.{holds}
use Rattle.spv_types.specs.declared.forms.Form.{Form}
use Rattle.spv_types.specs.declared.forms.Form.TheVariants.{Void, Bool as Boolean, Int, Vector, Array, Runtime, Struct, Pointer, Function}
use Rattle.spv_types.specs.declared.forms.Member.{Member}
use Rattle.spv_types.specs.Types.{Types, form_of, number_of}
use Rattle.spv_types.specs.Rows.{leaves, no_roots}
use Rattle.spv_types.specs.Shapes.{HasShape, HasShapeAmong, IsScalar, scalar_in, shape_step}
use Rattle.spv_types.proofs.Exports.{many_is, many_row, scalar_row, no_pointer}
use Rattle.spv_effects.specs.Forms.{Filler, fill_each, fill_scalar, fill_step, filled, with_leaves}
use Rattle.spv_effects.proofs.FormLemmas.{fills, many_filled}
use Rattle.spv_effects.proofs.TypeLemmas.{is_scalar_of}

abbrev pub width_in : Cell → ℕ
width_in c = c.width

abbrev pub widths : List Cell → List ℕ
widths cs = map width_in cs

-- leaves of the same widths as others, whose numbers fit them
pub record AreLike (cs ds : List Cell) : Type 0 where
  pub same : widths cs ≡ widths ds
  pub fit : All IsCell cs

count_of : (cs ds : List Cell) → AreLike cs ds → length cs ≡ length ds
count_of cs ds h = sym (length-map cs width_in) ∙ ap length h.same ∙ length-map ds width_in

front_like : (cs ds es : List Cell) → AreLike cs (ds ++ es) → AreLike (take (length ds) cs) ds
front_like cs ds es h = record {
  same = sym (take-map width_in (length ds) cs) ∙ ap (take (length ds)) (h.same ∙ map-append width_in ds es) ∙ take_at (widths ds) (widths es) (length ds) (length-map ds width_in);
  fit = All-take IsCell (length ds) cs h.fit;
}

back_like : (cs ds es : List Cell) → AreLike cs (ds ++ es) → AreLike (drop (length ds) cs) es
back_like cs ds es h = record {
  same = sym (drop-map width_in (length ds) cs) ∙ ap (drop (length ds)) (h.same ∙ map-append width_in ds es) ∙ drop_at (widths ds) (widths es) (length ds) (length-map ds width_in);
  fit = All-drop IsCell (length ds) cs h.fit;
}

parted : (n : ℕ) (cs rest : List Cell) → cs ++ rest ≡ take n cs ++ (drop n cs ++ rest)
parted n cs rest = ap (λ (t : List Cell). t ++ rest) (sym (take-append-drop n cs)) ∙ append_assoc (take n cs) (drop n cs) rest

behind : (v : Value) (es cs rest : List Cell) → AreLike cs (leaves v ++ es) → (filled v (cs ++ rest)).1 ≡ drop (length (leaves v)) cs ++ rest
behind v es cs rest h =
    let n : ℕ = length (leaves v) in
    ap (λ (t : List Cell). (filled v t).1) (parted n cs rest)
    ∙ (fills v (take n cs) (drop n cs ++ rest) (count_of (take n cs) (leaves v) (front_like cs (leaves v) es h))).1

-- values of a shape keep it
abbrev Keeps : (Value → Type 0) → Type 0
Keeps P = (v : Value) (cs rest : List Cell) → P v → AreLike cs (leaves v) → P (filled v (cs ++ rest)).0

first_keeps : (P : Value → Type 0) (v : Value) (es cs rest : List Cell) → Keeps P → P v → AreLike cs (leaves v ++ es) → P (filled v (cs ++ rest)).0
first_keeps P v es cs rest keeps p h =
    let n : ℕ = length (leaves v) in
    subst (λ (t : List Cell). P (filled v t).0) (sym (parted n cs rest)) (keeps v (take n cs) (drop n cs ++ rest) p (front_like cs (leaves v) es h))

-- ---- values one after another

abbrev each_filled : List Value → List Cell → List Value
each_filled vs cs = (fill_each (map filled vs) cs).0

each_keep : (P : Value → Type 0) (vs : List Value) (cs rest : List Cell) → Keeps P → All P vs → AreLike cs (flat_map leaves vs)
    → (length (each_filled vs (cs ++ rest)) ≡ length vs) × All P (each_filled vs (cs ++ rest))
each_keep P [] cs rest keeps all h = (refl, All-nil P)
each_keep P (v ∷ vs) cs rest keeps all h =
    let n : ℕ = length (leaves v) in
    let es : List Cell = flat_map leaves vs in
    let first = first_keeps P v es cs rest keeps (All-head P v vs all) h in
    let more = each_keep P vs (drop n cs) rest keeps (All-tail P v vs all) (back_like cs (leaves v) es h) in
    let head : Value = (filled v (cs ++ rest)).0 in
    let T : List Cell → Type 0 = λ t. (length (head ∷ each_filled vs t) ≡ length (v ∷ vs)) × All P (head ∷ each_filled vs t) in
    subst T (sym (behind v es cs rest h)) (ap suc more.0, All-cons P head (each_filled vs (drop n cs ++ rest)) first more.1)

members_keep : (shape : ℕ → Value → Type 0) (ms : List Member) (vs : List Value) (cs rest : List Cell) → ((id : ℕ) → Keeps (shape id))
    → AllZip (λ (m : Member). shape m.ty) ms vs → AreLike cs (flat_map leaves vs) → AllZip (λ (m : Member). shape m.ty) ms (each_filled vs (cs ++ rest))
members_keep shape [] [] cs rest keeps all h = tt
members_keep shape [] (v ∷ vs) cs rest keeps all h = absurd all
members_keep shape (m ∷ ms) [] cs rest keeps all h = absurd all
members_keep shape (m ∷ ms) (v ∷ vs) cs rest keeps all h =
    let n : ℕ = length (leaves v) in
    let es : List Cell = flat_map leaves vs in
    let first = first_keeps (shape m.ty) v es cs rest (keeps m.ty) all.0 h in
    let more = members_keep shape ms vs (drop n cs) rest keeps all.1 (back_like cs (leaves v) es h) in
    let head : Value = (filled v (cs ++ rest)).0 in
    let T : List Cell → Type 0 = λ t. shape m.ty head × AllZip (λ (k : Member). shape k.ty) ms (each_filled vs t) in
    subst T (sym (behind v es cs rest h)) (first, more)

-- ---- one level

scalar_filled : (v : Value) (c : Cell) → out-Value v ≡ Value-F.Scalar c → filled v ≡ fill_scalar
unfolding filled
scalar_filled v c e =
    ap (λ (u : Value). filled u) (sym (roll-out-Value v)) ∙ ap (λ (l : Value-F Value). filled (roll-Value l)) e ∙ fold-roll-Value Filler fill_step (Value-F.Scalar c)

list_filled : (v : Value) (vs : List Value) (cs : List Cell) → out-Value v ≡ Value-F.List vs → (filled v cs).0 ≡ Many (each_filled vs cs)
list_filled v vs cs e =
    ap (λ (u : Value). (filled u cs).0) (sym (roll-out-Value v)) ∙ ap (λ (l : Value-F Value). (filled (roll-Value l) cs).0) e
    ∙ ap (λ (p : Value × List Cell). p.0) (many_filled vs cs)

scalar_keeps : (w : ℕ) → Keeps (IsScalar w)
scalar_keeps w v cs rest p h = go (out-Value v) refl p
  where
    one : (c : Cell) (ds : List Cell) → (c.width ≡ w) × IsCell c → filled v ≡ fill_scalar → AreLike ds (c ∷ []) → IsScalar w (filled v (ds ++ rest)).0
    one c [] s e k = let n = count_of [] (c ∷ []) k in absurd (omega arith)
    one c (d ∷ []) s e k =
        let same : widths (d ∷ []) ≡ widths (c ∷ []) = k.same in
        let width : d.width ≡ c.width = cc in
        rw e (is_scalar_of w d (width ∙ s.0, All-head IsCell d [] k.fit))
    one c (d ∷ (g ∷ ds)) s e k = let n = count_of (d ∷ (g ∷ ds)) (c ∷ []) k in absurd (omega arith)

    go : (o : Value-F Value) → out-Value v ≡ o → IsSomeAnd (scalar_in o) (λ c. (c.width ≡ w) × IsCell c) → IsScalar w (filled v (cs ++ rest)).0
    go (Value-F.Scalar c) e s = one c cs s (scalar_filled v c e) (subst (AreLike cs) (scalar_row v c e) h)
    go (Value-F.List vs) e s = absurd s
    go (Value-F.Ptr p) e s = absurd s

parts_keep : (P Q : List Value → Type 0) (v : Value) (cs rest : List Cell) → ((vs : List Value) → P vs → AreLike cs (flat_map leaves vs) → Q (each_filled vs (cs ++ rest)))
    → IsSomeAnd (parts_in (out-Value v)) P → AreLike cs (leaves v) → IsSomeAnd (parts_in (out-Value (filled v (cs ++ rest)).0)) Q
parts_keep P Q v cs rest keep has h =
    let many = many_is P v has in
    let vs : List Value = many.0 in
    rw (list_filled v vs (cs ++ rest) many.1, out_many (each_filled vs (cs ++ rest))) (keep vs many.2 (subst (AreLike cs) (many_row v vs many.1) h))

step_keeps : (ts : Types) (shape : ℕ → Value → Type 0) (f : Form) → ((id : ℕ) → Keeps (shape id)) → Keeps (shape_step ts no_roots shape f)
step_keeps ts shape Void keeps v cs rest p h = absurd p
step_keeps ts shape Boolean keeps v cs rest p h = scalar_keeps 1 v cs rest p h
step_keeps ts shape (Int width sign) keeps v cs rest p h = scalar_keeps width v cs rest p h
step_keeps ts shape (Vector component count) keeps v cs rest p h =
    parts_keep (λ vs. (length vs ≡ count) × All (shape component) vs) (λ vs. (length vs ≡ count) × All (shape component) vs) v cs rest
    (λ vs has k. let e = each_keep (shape component) vs cs rest (keeps component) has.1 k in (e.0 ∙ has.0, e.1)) p h
step_keeps ts shape (Array element n stride) keeps v cs rest p h =
    parts_keep (λ vs. (Some (length vs) ≡ n) × All (shape element) vs) (λ vs. (Some (length vs) ≡ n) × All (shape element) vs) v cs rest
    (λ vs has k. let e = each_keep (shape element) vs cs rest (keeps element) has.1 k in (ap Some e.0 ∙ has.0, e.1)) p h
step_keeps ts shape (Runtime element stride) keeps v cs rest p h =
    parts_keep (λ vs. All (shape element) vs) (λ vs. All (shape element) vs) v cs rest
    (λ vs has k. (each_keep (shape element) vs cs rest (keeps element) has k).1) p h
step_keeps ts shape (Struct members block) keeps v cs rest p h =
    parts_keep (λ vs. AllZip (λ (m : Member). shape m.ty) members vs) (λ vs. AllZip (λ (m : Member). shape m.ty) members vs) v cs rest
    (λ vs has k. members_keep shape members vs cs rest keeps has k) p h
step_keeps ts shape (Pointer class target) keeps v cs rest p h = absurd (no_pointer ts v target p)
step_keeps ts shape (Function returns parameters) keeps v cs rest p h = absurd p

-- ---- all levels

formed_keeps : (ts : Types) (shape : ℕ → Value → Type 0) (o : Option Form) → ((id : ℕ) → Keeps (shape id)) → Keeps (λ v. MatchOption o ⊥ (λ f. shape_step ts no_roots shape f v))
formed_keeps ts shape None keeps v cs rest p h = absurd p
formed_keeps ts shape (Some f) keeps v cs rest p h = step_keeps ts shape f keeps v cs rest p h

among_keeps : (ts : Types) (n id : ℕ) → Keeps (HasShapeAmong ts no_roots n id)
unfolding HasShapeAmong
among_keeps ts zero id v cs rest p h = absurd p
among_keeps ts (suc n) id v cs rest p h = go (among_keeps ts n) (holds n (number_of ts id)) p
  where
    go : ((k : ℕ) → Keeps (HasShapeAmong ts no_roots n k)) → (b : Bool) → MatchBool b (MatchOption (form_of ts id) ⊥ (λ f. shape_step ts no_roots (HasShapeAmong ts no_roots n) f v)) (HasShapeAmong ts no_roots n id v)
        → MatchBool b (MatchOption (form_of ts id) ⊥ (λ f. shape_step ts no_roots (HasShapeAmong ts no_roots n) f (filled v (cs ++ rest)).0)) (HasShapeAmong ts no_roots n id (filled v (cs ++ rest)).0)
    go below true p = formed_keeps ts (HasShapeAmong ts no_roots n) (form_of ts id) below v cs rest p h
    go below false p = below id v cs rest p h

pub form_keeps_shape : (ts : Types) (id : ℕ) (v : Value) (cs : List Cell) → HasShape ts no_roots id v → map (λ (c : Cell). c.width) cs ≡ map (λ (c : Cell). c.width) (leaves v) → All IsCell cs
    → HasShape ts no_roots id (with_leaves v cs)
unfolding HasShape with_leaves
form_keeps_shape ts id v cs p same fit =
    subst (λ (t : List Cell). HasShapeAmong ts no_roots (length ts) id (filled v t).0) (append-nil cs) (among_keeps ts (length ts) id v cs [] p (record { same = same; fit = fit }))
