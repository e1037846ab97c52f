-- Values of a type without a runtime array have leaves of the same widths, and each of them has a number that fits its width.
use Rattle.std.proofs.Common.{◌≡◌, ◌∙◌, ℕ, zero, suc, Bool, true, false, List, [], ◌∷◌, ◌++◌, Option, Some, None, map, length, refl, sym, ap, subst, arith}
use Rattle.std.specs.Bool.{MatchBool}
use Rattle.std.specs.List.{All, AllZip, flat_map}
use Rattle.std.specs.Option.{IsSomeAnd, MatchOption}
use Rattle.std.proofs.lemmas.Bool.{and_parts}
use Rattle.std.proofs.lemmas.List.{map-append}
use Rattle.std.proofs.lemmas.List.Elements.{All-append, All-cons, All-head, All-nil, All-tail}
use Rattle.spv_base.specs.Cell.{IsCell, Cell}
use Rattle.spv_base.specs.Parts.{parts_in}
use Rattle.spv_base.specs.declared.values.Value.{Value, out-Value}
use Rattle.spv_base.specs.declared.values.Value.TheOpen.{Value-F}
use Rattle.spv_base.specs.Options.{holds}
use Rattle.spv_types.specs.declared.forms.Form.{Form}
use Rattle.spv_types.specs.declared.forms.Form.TheVariants.{Void, Bool as Boolean, Int, Vector, Array, Runtime, Struct, Pointer, Function}
use Rattle.spv_types.specs.declared.forms.Member.{Member}
use Rattle.spv_types.specs.Laws.{AreSound}
use Rattle.spv_types.specs.Rows.{leaves, no_roots}
use Rattle.spv_types.specs.Rules.{form_has_runtime, has_runtime, is_scalar, keeps_form}
use Rattle.spv_types.specs.Shapes.{HasShape, HasShapeAmong, scalar_in, shape_step}
use Rattle.spv_types.specs.Types.{Types, form_of, number_of}
use Rattle.spv_types.proofs.Exports.{many_is, many_row, scalar_row, no_pointer}
use Rattle.spv_plans.proofs.Exports.{scalar_plain, sized_plain, Plain, members_plain}

abbrev pub widths : List Cell → List ℕ
widths cs = map (λ (c : Cell). c.width) cs

-- ---- leaves whose numbers fit

-- the values of a shape have such leaves
abbrev Fit : (Value → Type 0) → Type 0
Fit P = (v : Value) → P v → All IsCell (leaves v)

scalar_fits : (w : ℕ) (v : Value) → IsSomeAnd (scalar_in (out-Value v)) (λ c. (c.width ≡ w) × IsCell c) → All IsCell (leaves v)
scalar_fits w v h = level (out-Value v) refl h
  where
    level : (l : Value-F Value) → out-Value v ≡ l → IsSomeAnd (scalar_in l) (λ c. (c.width ≡ w) × IsCell c) → All IsCell (leaves v)
    level (Value-F.Scalar c) e h = subst (All IsCell) (sym (scalar_row v c e)) (All-cons IsCell c [] h.1 (All-nil IsCell))
    level (Value-F.List vs) e h = absurd h
    level (Value-F.Ptr p) e h = absurd h

each_fits : (P : Value → Type 0) (vs : List Value) → Fit P → All P vs → All IsCell (flat_map leaves vs)
each_fits P [] fit all = All-nil IsCell
each_fits P (v ∷ vs) fit all = All-append IsCell (leaves v) (flat_map leaves vs) (fit v (All-head P v vs all)) (each_fits P vs fit (All-tail P v vs all))

members_fit : (shape : ℕ → Value → Type 0) (ms : List Member) (vs : List Value) → ((id : ℕ) → Fit (shape id)) → AllZip (λ (m : Member). shape m.ty) ms vs → All IsCell (flat_map leaves vs)
members_fit shape [] [] fit all = All-nil IsCell
members_fit shape [] (v ∷ vs) fit all = absurd all
members_fit shape (m ∷ ms) [] fit all = absurd all
members_fit shape (m ∷ ms) (v ∷ vs) fit all = All-append IsCell (leaves v) (flat_map leaves vs) (fit m.ty v all.0) (members_fit shape ms vs fit all.1)

-- ---- leaves of the same widths

-- two values of a shape have such leaves
abbrev Alike : (Value → Type 0) → Type 0
Alike P = (v u : Value) → P v → P u → widths (leaves v) ≡ widths (leaves u)

scalar_width : (w : ℕ) (v : Value) → IsSomeAnd (scalar_in (out-Value v)) (λ c. (c.width ≡ w) × IsCell c) → widths (leaves v) ≡ w ∷ []
scalar_width w v h = level (out-Value v) refl h
  where
    level : (l : Value-F Value) → out-Value v ≡ l → IsSomeAnd (scalar_in l) (λ c. (c.width ≡ w) × IsCell c) → widths (leaves v) ≡ w ∷ []
    level (Value-F.Scalar c) e h = ap widths (scalar_row v c e) ∙ ap (λ (k : ℕ). k ∷ []) h.0
    level (Value-F.List vs) e h = absurd h
    level (Value-F.Ptr p) e h = absurd h

more_alike : (cs ds es fs : List Cell) → widths cs ≡ widths ds → widths es ≡ widths fs → widths (cs ++ es) ≡ widths (ds ++ fs)
more_alike cs ds es fs h g =
    map-append (λ (c : Cell). c.width) cs es ∙ ap (λ (ns : List ℕ). ns ++ widths es) h ∙ ap (λ (ns : List ℕ). widths ds ++ ns) g ∙ sym (map-append (λ (c : Cell). c.width) ds fs)

each_alike : (P : Value → Type 0) (vs us : List Value) → Alike P → length vs ≡ length us → All P vs → All P us → widths (flat_map leaves vs) ≡ widths (flat_map leaves us)
each_alike P [] [] alike h p q = refl
each_alike P [] (u ∷ us) alike h p q = absurd (omega arith)
each_alike P (v ∷ vs) [] alike h p q = absurd (omega arith)
each_alike P (v ∷ vs) (u ∷ us) alike h p q =
    let less : length vs ≡ length us = omega arith in
    more_alike (leaves v) (leaves u) (flat_map leaves vs) (flat_map leaves us) (alike v u (All-head P v vs p) (All-head P u us q))
    (each_alike P vs us alike less (All-tail P v vs p) (All-tail P u us q))

module _ (ts : Types) (shape : ℕ → Value → Type 0) where
  -- each type without a runtime array has values that are alike
  abbrev AreAlikeBy : Type 0
  AreAlikeBy = (id : ℕ) → has_runtime ts id ≡ false → Alike (shape id)

  members_alike : AreAlikeBy → (ms : List Member) (vs us : List Value) → Plain ts ms → AllZip (λ (m : Member). shape m.ty) ms vs → AllZip (λ (m : Member). shape m.ty) ms us
      → widths (flat_map leaves vs) ≡ widths (flat_map leaves us)
  members_alike alike [] [] [] plain p q = refl
  members_alike alike [] [] (u ∷ us) plain p q = absurd q
  members_alike alike [] (v ∷ vs) us plain p q = absurd p
  members_alike alike (m ∷ ms) [] us plain p q = absurd p
  members_alike alike (m ∷ ms) (v ∷ vs) [] plain p q = absurd q
  members_alike alike (m ∷ ms) (v ∷ vs) (u ∷ us) plain p q =
      more_alike (leaves v) (leaves u) (flat_map leaves vs) (flat_map leaves us) (alike m.ty plain.0 v u p.0 q.0) (members_alike alike ms vs us plain.1 p.1 q.1)

  -- two lists of parts
  parts_alike : (P : List Value → Type 0) (v u : Value) → ((vs us : List Value) → P vs → P us → widths (flat_map leaves vs) ≡ widths (flat_map leaves us))
      → IsSomeAnd (parts_in (out-Value v)) P → IsSomeAnd (parts_in (out-Value u)) P → widths (leaves v) ≡ widths (leaves u)
  parts_alike P v u each p q =
      let a = many_is P v p in
      let b = many_is P u q in
      ap widths (many_row v a.0 a.1) ∙ each a.0 b.0 a.2 b.2 ∙ sym (ap widths (many_row u b.0 b.1))

  form_alike : AreAlikeBy → (f : Form) → keeps_form ts f ≡ true → form_has_runtime ts (Some f) ≡ false → Alike (shape_step ts no_roots shape f)
  form_alike alike Void kept plain v u p q = absurd p
  form_alike alike Boolean kept plain v u p q = scalar_width 1 v p ∙ sym (scalar_width 1 u q)
  form_alike alike (Int width sign) kept plain v u p q = scalar_width width v p ∙ sym (scalar_width width u q)
  form_alike alike (Vector component count) kept plain v u p q =
      let scalar = (and_parts (is_scalar (form_of ts component)) _ kept).0 in
      parts_alike (λ vs. (length vs ≡ count) × All (shape component) vs) v u
      (λ vs us h g. each_alike (shape component) vs us (alike component (scalar_plain ts (form_of ts component) scalar)) (h.0 ∙ sym g.0) h.1 g.1) p q
  form_alike alike (Array element n stride) kept plain v u p q =
      parts_alike (λ vs. (Some (length vs) ≡ n) × All (shape element) vs) v u
      (λ vs us h g. each_alike (shape element) vs us (alike element (sized_plain ts element kept)) (same_number (length vs) (length us) n h.0 g.0) h.1 g.1) p q
    where
      same_number : (j k : ℕ) (o : Option ℕ) → Some j ≡ o → Some k ≡ o → j ≡ k
      same_number j k o h g = cc
  form_alike alike (Runtime element stride) kept plain v u p q = absurd (cc)
  form_alike alike (Struct members block) kept plain v u p q =
      parts_alike (λ vs. AllZip (λ (m : Member). shape m.ty) members vs) v u (λ vs us h g. members_alike alike members vs us (members_plain ts block members kept plain) h g) p q
  form_alike alike (Pointer class target) kept plain v u p q = absurd (no_pointer ts v target p)
  form_alike alike (Function returns parameters) kept plain v u p q = absurd p

  form_fits : ((id : ℕ) → Fit (shape id)) → (f : Form) → Fit (shape_step ts no_roots shape f)
  form_fits fit Void v p = absurd p
  form_fits fit Boolean v p = scalar_fits 1 v p
  form_fits fit (Int width sign) v p = scalar_fits width v p
  form_fits fit (Vector component count) v p =
      let a = many_is (λ vs. (length vs ≡ count) × All (shape component) vs) v p in
      subst (All IsCell) (sym (many_row v a.0 a.1)) (each_fits (shape component) a.0 (fit component) a.2.1)
  form_fits fit (Array element n stride) v p =
      let a = many_is (λ vs. (Some (length vs) ≡ n) × All (shape element) vs) v p in
      subst (All IsCell) (sym (many_row v a.0 a.1)) (each_fits (shape element) a.0 (fit element) a.2.1)
  form_fits fit (Runtime element stride) v p =
      let a = many_is (λ vs. All (shape element) vs) v p in
      subst (All IsCell) (sym (many_row v a.0 a.1)) (each_fits (shape element) a.0 (fit element) a.2)
  form_fits fit (Struct members block) v p =
      let a = many_is (λ vs. AllZip (λ (m : Member). shape m.ty) members vs) v p in
      subst (All IsCell) (sym (many_row v a.0 a.1)) (members_fit shape members a.0 fit a.2)
  form_fits fit (Pointer class target) v p = absurd (no_pointer ts v target p)
  form_fits fit (Function returns parameters) v p = absurd p

-- ---- all levels

module _ (ts : Types) where
  among_fits : (n id : ℕ) → Fit (HasShapeAmong ts no_roots n id)
  unfolding HasShapeAmong
  among_fits zero id v p = absurd p
  among_fits (suc n) id v p = here (among_fits n) (holds n (number_of ts id)) p
    where
      formed : ((k : ℕ) → Fit (HasShapeAmong ts no_roots n k)) → (o : Option Form) → MatchOption o ⊥ (λ f. shape_step ts no_roots (HasShapeAmong ts no_roots n) f v) → All IsCell (leaves v)
      formed below None p = absurd p
      formed below (Some f) p = form_fits ts (HasShapeAmong ts no_roots n) below f v p

      here : ((k : ℕ) → Fit (HasShapeAmong ts no_roots n k)) → (b : Bool)
          → MatchBool b (MatchOption (form_of ts id) ⊥ (λ f. shape_step ts no_roots (HasShapeAmong ts no_roots n) f v)) (HasShapeAmong ts no_roots n id v) → All IsCell (leaves v)
      here below true p = formed below (form_of ts id) p
      here below false p = below id v p

  among_alike : AreSound ts → (n id : ℕ) → has_runtime ts id ≡ false → Alike (HasShapeAmong ts no_roots n id)
  unfolding HasShapeAmong
  among_alike sound zero id plain v u p q = absurd p
  among_alike sound (suc n) id plain v u p q = here (among_alike sound n) (holds n (number_of ts id)) p q
    where
      formed : AreAlikeBy ts (HasShapeAmong ts no_roots n) → (o : Option Form) → form_of ts id ≡ o
          → MatchOption o ⊥ (λ f. shape_step ts no_roots (HasShapeAmong ts no_roots n) f v) → MatchOption o ⊥ (λ f. shape_step ts no_roots (HasShapeAmong ts no_roots n) f u)
          → widths (leaves v) ≡ widths (leaves u)
      formed below None is p q = absurd p
      formed below (Some f) is p q =
          form_alike ts (HasShapeAmong ts no_roots n) below f (sound.kept id f is) (ap (form_has_runtime ts) (sym is) ∙ plain) v u p q

      here : AreAlikeBy ts (HasShapeAmong ts no_roots n) → (b : Bool)
          → MatchBool b (MatchOption (form_of ts id) ⊥ (λ f. shape_step ts no_roots (HasShapeAmong ts no_roots n) f v)) (HasShapeAmong ts no_roots n id v)
          → MatchBool b (MatchOption (form_of ts id) ⊥ (λ f. shape_step ts no_roots (HasShapeAmong ts no_roots n) f u)) (HasShapeAmong ts no_roots n id u)
          → widths (leaves v) ≡ widths (leaves u)
      here below true p q = formed below (form_of ts id) refl p q
      here below false p q = below id plain v u p q

pub leaves_fit : (ts : Types) (id : ℕ) (v : Value) → HasShape ts no_roots id v → All IsCell (leaves v)
unfolding HasShape
leaves_fit ts id v p = among_fits ts (length ts) id v p

pub leaves_alike : (ts : Types) → AreSound ts → (id : ℕ) → has_runtime ts id ≡ false → (v u : Value) → HasShape ts no_roots id v → HasShape ts no_roots id u → widths (leaves v) ≡ widths (leaves u)
unfolding HasShape
leaves_alike ts sound id plain v u p q = among_alike ts sound (length ts) id plain v u p q
