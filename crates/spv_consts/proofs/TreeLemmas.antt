-- Leaves that fill a type of data are those of the value that is read off them, which has the type's shape: a type comes after
-- its parts, so this goes by the types' numbers.
use Rattle.std.proofs.Common.{◌≡◌, ◌∙◌, ℕ, zero, suc, ◌==◌, Bool, true, List, [], ◌∷◌, ◌++◌, length, map, replicate, append_assoc, append-nil, Option, Some, None, slice_get, refl, sym, ap, subst, arith}
use Rattle.std.proofs.Math.Path.{fun_ext}
use Rattle.std.specs.List.{All, AllZip, flat_map}
use Rattle.std.proofs.lemmas.List.Elements.{All-cons, All-nil}
use Rattle.spv_base.specs.Cell.{Cell, HasWidth}
use Rattle.spv_base.specs.declared.values.Root.{Root}
use Rattle.spv_base.specs.declared.values.Value.{Value, Scalar, List as Many}
use Rattle.spv_base.proofs.Exports.{out_scalar, is_many}
use Rattle.spv_types.specs.declared.forms.Form.{Form}
use Rattle.spv_types.specs.declared.forms.Form.TheVariants.{Void, Bool as Boolean, Int, Vector, Array, Runtime, Struct, Pointer, Function}
use Rattle.spv_types.specs.declared.forms.Member.{Member}
use Rattle.spv_types.specs.Types.{IsUnset, Types, form_of}
use Rattle.spv_types.specs.Rows.{leaves}
use Rattle.spv_types.specs.Rules.{is_data, is_scalar, keep_members, keeps_form, keeps_member}
use Rattle.spv_types.specs.Shapes.{HasShape, shape_step}
use Rattle.spv_types.specs.Laws.{AreByForms, AreComplete, AreSound, ComesBefore, IsAmong}
use Rattle.spv_types.proofs.Exports.{leaves_many, scalar_row, scalar_data, member_data, sized_data, impossible}
use Rattle.spv_consts.specs.Laws.{FillType, IsRowAt}
use Rattle.spv_consts.specs.Trees.{Reader, read_among, read_list, read_none, read_parts, read_scalar, read_step, value_at}
use Rattle.spv_consts.specs.Values.{leaf_widths, part_types, widths_step}
use Rattle.spv_consts.proofs.FillLemmas.{Fill, fill_split}
use Rattle.spv_consts.proofs.ScalarShapes.{is_scalar as scalar_has_shape}
use Rattle.spv_consts.proofs.WidthLemmas.{by_form, listed, widths_by_form}
use Rattle.std.proofs.lemmas.Bool.{and_parts}

-- ---- types of data

same_data : (ts : Types) (n t index part : ℕ) → is_data (form_of ts t) ≡ true → slice_get (replicate n t) index ≡ Some part → is_data (form_of ts part) ≡ true
same_data ts zero t index part d h = cc
same_data ts (suc n) t zero part d h = let same : t ≡ part = cc in subst (λ (k : ℕ). is_data (form_of ts k) ≡ true) same d
same_data ts (suc n) t (suc index) part d h = same_data ts n t index part d h

members_data : (ts : Types) (block : Bool) (ms : List Member) (index part : ℕ) → keep_members ts block ms ≡ true → slice_get (map (λ (m : Member). m.ty) ms) index ≡ Some part → is_data (form_of ts part) ≡ true
unfolding keep_members
members_data ts block [] index part k h = cc
members_data ts block (m ∷ ms) zero part k h =
    let same : m.ty ≡ part = cc in
    let p = and_parts (keeps_member ts block (length ms == 0) m.ty) (keep_members ts block ms) k in
    subst (λ (t : ℕ). is_data (form_of ts t) ≡ true) same (member_data ts block (length ms == 0) m.ty p.0)
members_data ts block (m ∷ ms) (suc index) part k h =
    let p = and_parts (keeps_member ts block (length ms == 0) m.ty) (keep_members ts block ms) k in
    members_data ts block ms index part p.1 h

-- the parts of a form that keeps its rule are data
parts_data : (ts : Types) (f : Form) → keeps_form ts f ≡ true → (index part : ℕ) → slice_get (part_types f) index ≡ Some part → is_data (form_of ts part) ≡ true
parts_data ts Void k index part h = cc
parts_data ts Boolean k index part h = cc
parts_data ts (Int width sign) k index part h = cc
parts_data ts (Vector component count) k index part h = same_data ts count component index part (scalar_data (form_of ts component) (and_parts (is_scalar (form_of ts component)) _ k).0) h
parts_data ts (Array element None stride) k index part h = cc
parts_data ts (Array element (Some n) stride) k index part h = same_data ts n element index part (sized_data ts element k) h
parts_data ts (Runtime element stride) k index part h = cc
parts_data ts (Struct members block) k index part h = members_data ts block members index part k h
parts_data ts (Pointer class target) k index part h = cc
parts_data ts (Function returns parameters) k index part h = cc

-- ---- readers by forms

parts_same : (g h : ℕ → Reader) (types : List ℕ) → ((index part : ℕ) → slice_get types index ≡ Some part → g part ≡ h part) → (cs : List Cell) → read_parts g types cs ≡ read_parts h types cs
parts_same g h [] same cs = refl
parts_same g h (t ∷ types) same cs =
    let first : g t cs ≡ h t cs = ap (λ (r : Reader). r cs) (same 0 t refl) in
    let rest : read_parts g types (h t cs).1 ≡ read_parts h types (h t cs).1 = parts_same g h types (λ index part at. same (suc index) part at) (h t cs).1 in
    rw (first, rest) refl

list_same : (g h : ℕ → Reader) (types : List ℕ) → ((index part : ℕ) → slice_get types index ≡ Some part → g part ≡ h part) → read_list g types ≡ read_list h types
list_same g h types same = fun_ext (λ cs. ap (λ (r : List Value × List Cell). (Many r.0, r.1)) (parts_same g h types same cs))

step_same : (f : Form) (g h : ℕ → Reader) → ((index part : ℕ) → slice_get (part_types f) index ≡ Some part → g part ≡ h part) → read_step g f ≡ read_step h f
step_same Void g h same = list_same g h [] same
step_same Boolean g h same = refl
step_same (Int width sign) g h same = refl
step_same (Vector component count) g h same = list_same g h (part_types (Vector component count)) same
step_same (Array element n stride) g h same = list_same g h (part_types (Array element n stride)) same
step_same (Runtime element stride) g h same = list_same g h [] same
step_same (Struct members block) g h same = list_same g h (part_types (Struct members block)) same
step_same (Pointer class target) g h same = list_same g h [] same
step_same (Function returns parameters) g h same = list_same g h [] same

-- ---- values read off leaves

-- a reader gives off leaves that go with widths a value of a shape with these leaves, and leaves what is behind them
abbrev pub ReadsAs : Reader → (Value → Type 0) → List ℕ → Type 0
ReadsAs read shape ws = (cs more : List Cell) → Fill ws cs → shape (read (cs ++ more)).0 × (leaves (read (cs ++ more)).0 ≡ cs) × ((read (cs ++ more)).1 ≡ more)

scalar_reads : (w : ℕ) (P : Value → Type 0) → ((c : Cell) → HasWidth w c → P (Scalar c)) → ReadsAs read_scalar P (w ∷ [])
scalar_reads w P is [] more h = absurd h
scalar_reads w P is (c ∷ []) more h = (is c h.0, scalar_row (Scalar c) c (out_scalar c), refl)
scalar_reads w P is (c ∷ d ∷ cs) more h = absurd h.1

module _ (read : ℕ → Reader) (shape : ℕ → Value → Type 0) (widths : ℕ → List ℕ) where
  abbrev PartsRead : List ℕ → List Cell → List Cell → Type 0
  PartsRead types cs more =
      AllZip shape types (read_parts read types (cs ++ more)).0 × (flat_map leaves (read_parts read types (cs ++ more)).0 ≡ cs) × ((read_parts read types (cs ++ more)).1 ≡ more)

  part_read : (t : ℕ) (types : List ℕ) (ds es more cs : List Cell) → cs ≡ ds ++ es
      → shape t (read t (ds ++ (es ++ more))).0 × (leaves (read t (ds ++ (es ++ more))).0 ≡ ds) × ((read t (ds ++ (es ++ more))).1 ≡ es ++ more)
      → PartsRead types es more → PartsRead (t ∷ types) cs more
  part_read t types ds es more cs same first rest = subst (λ (xs : List Cell). PartsRead (t ∷ types) xs more) (sym same) joined
    where
      joined : PartsRead (t ∷ types) (ds ++ es) more
      joined = rw (append_assoc ds es more, first.2) (((first.0, rest.0), rw (first.1, rest.1) refl, rest.2))

  parts_read : (types : List ℕ) → ((index part : ℕ) → slice_get types index ≡ Some part → ReadsAs (read part) (shape part) (widths part))
      → (cs more : List Cell) → Fill (flat_map widths types) cs → PartsRead types cs more
  parts_read [] each [] more h = (tt, refl, refl)
  parts_read [] each (c ∷ cs) more h = absurd h
  parts_read (t ∷ types) each cs more h =
      let p = fill_split (widths t) (flat_map widths types) cs h in
      part_read t types p.0 p.1 more cs p.2 (each 0 t refl p.0 (p.1 ++ more) p.3) (parts_read types (λ index part at. each (suc index) part at) p.1 more p.4)

  list_reads : (types : List ℕ) (P : Value → Type 0) → ((vs : List Value) → AllZip shape types vs → P (Many vs))
      → ((index part : ℕ) → slice_get types index ≡ Some part → ReadsAs (read part) (shape part) (widths part)) → ReadsAs (read_list read types) P (flat_map widths types)
  list_reads types P is each cs more h =
      let r = parts_read types each cs more h in
      (is (read_parts read types (cs ++ more)).0 r.0, leaves_many (read_parts read types (cs ++ more)).0 ∙ r.1, r.2)

-- ---- one form

zip_same : (P : ℕ → Value → Type 0) (n t : ℕ) (vs : List Value) → AllZip P (replicate n t) vs → (length vs ≡ n) × All (P t) vs
zip_same P zero t [] h = (refl, All-nil (P t))
zip_same P zero t (v ∷ vs) h = absurd h
zip_same P (suc n) t [] h = absurd h
zip_same P (suc n) t (v ∷ vs) h = let r = zip_same P n t vs h.1 in (ap suc r.0, All-cons (P t) v vs h.0 r.1)

zip_members : (P : ℕ → Value → Type 0) (ms : List Member) (vs : List Value) → AllZip P (map (λ (m : Member). m.ty) ms) vs → AllZip (λ (m : Member). P m.ty) ms vs
zip_members P [] [] h = tt
zip_members P [] (v ∷ vs) h = absurd h
zip_members P (m ∷ ms) [] h = absurd h
zip_members P (m ∷ ms) (v ∷ vs) h = (h.0, zip_members P ms vs h.1)

module _ (ts : Types) (roots : Root → Option ℕ) (read : ℕ → Reader) (shape : ℕ → Value → Type 0) (widths : ℕ → List ℕ) where
  form_reads : (f : Form) → is_data (Some f) ≡ true → (IsUnset (Some f) → ⊥) → ((index part : ℕ) → slice_get (part_types f) index ≡ Some part → ReadsAs (read part) (shape part) (widths part))
      → ReadsAs (read_step read f) (shape_step ts roots shape f) (widths_step widths f)
  form_reads Void is_made set each = impossible is_made
  form_reads Boolean is_made set each = scalar_reads 1 (shape_step ts roots shape Boolean) (λ c h. scalar_has_shape c 1 h.0 h.1)
  form_reads (Int width sign) is_made set each = scalar_reads width (shape_step ts roots shape (Int width sign)) (λ c h. scalar_has_shape c width h.0 h.1)
  form_reads (Vector component count) is_made set each =
      list_reads read shape widths (replicate count component) (shape_step ts roots shape (Vector component count))
      (λ vs h. is_many (λ (vs : List Value). (length vs ≡ count) × All (shape component) vs) vs (zip_same shape count component vs h)) each
  form_reads (Array element None stride) is_made set each = absurd (set tt)
  form_reads (Array element (Some n) stride) is_made set each =
      list_reads read shape widths (replicate n element) (shape_step ts roots shape (Array element (Some n) stride))
      (λ vs h. let r = zip_same shape n element vs h in is_many (λ (vs : List Value). (Some (length vs) ≡ Some n) × All (shape element) vs) vs (ap Some r.0, r.1)) each
  form_reads (Runtime element stride) is_made set each =
      list_reads read shape widths [] (shape_step ts roots shape (Runtime element stride)) (λ vs h. is_many (All (shape element)) vs (none vs h)) each
    where
      none : (vs : List Value) → AllZip shape [] vs → All (shape element) vs
      none [] h = All-nil (shape element)
      none (v ∷ vs) h = absurd h
  form_reads (Struct members block) is_made set each =
      list_reads read shape widths (map (λ (m : Member). m.ty) members) (shape_step ts roots shape (Struct members block))
      (λ vs h. is_many (AllZip (λ (m : Member). shape m.ty) members) vs (zip_members shape members vs h)) each
  form_reads (Pointer class target) is_made set each = impossible is_made
  form_reads (Function returns parameters) is_made set each = impossible is_made

-- ---- all types

module _ (ts : Types) (roots : Root → Option ℕ) (n : ℕ) (sound : AreSound ts) (forms : AreByForms ts roots) (complete : AreComplete ts n) where
  abbrev reader : ℕ → Reader
  reader id = read_among ts (length ts) id

  abbrev TypeReads : ℕ → Type 0
  TypeReads id = is_data (form_of ts id) ≡ true → ReadsAs (reader id) (HasShape ts roots id) (leaf_widths ts id)

  reader_by_form : (id : ℕ) (f : Form) → form_of ts id ≡ Some f → reader id ≡ read_step reader f
  unfolding read_among
  reader_by_form id f is = by_form read_none read_step ts sound step_same id f is

  reads_among : (k id : ℕ) → IsAmong ts k id → IsAmong ts n id → TypeReads id
  reads_among zero id among known is_made = absurd (omega (arith, among.below))
  reads_among (suc k) id among known is_made = by_data (reads_among k) (form_of ts id) refl is_made
    where
      earlier : (part : ℕ) → ComesBefore ts part id → IsAmong ts k part × IsAmong ts n part
      earlier part before =
          let same : before.number ≡ among.number = let e = before.is in let g = among.is in cc in
          let other : before.number ≡ known.number = let e = before.is in let g = known.is in cc in (
            record { number = before.among.number; is = before.among.is; below = omega (arith, same, before.among.below, among.below) },
            record { number = before.among.number; is = before.among.is; below = omega (arith, other, before.among.below, known.below) },
          )

      by_data : ((part : ℕ) → IsAmong ts k part → IsAmong ts n part → TypeReads part) → (o : Option Form) → form_of ts id ≡ o → is_data o ≡ true → ReadsAs (reader id) (HasShape ts roots id) (leaf_widths ts id)
      by_data before None is d = impossible d
      by_data before (Some f) is d = λ cs more h.
          let fill : Fill (widths_step (leaf_widths ts) f) cs = subst (λ (ws : List ℕ). Fill ws cs) (widths_by_form ts sound id f is) h in
          let each : (index part : ℕ) → slice_get (part_types f) index ≡ Some part → ReadsAs (reader part) (HasShape ts roots part) (leaf_widths ts part)
          = λ index part at.
          let e = earlier part (sound.ordered id index part f is (listed f index part at)) in
          before part e.0 e.1 (parts_data ts f (sound.kept id f is) index part at) in
          let r = form_reads ts roots reader (HasShape ts roots) (leaf_widths ts) f d (λ unset. complete id known (subst IsUnset (sym is) unset)) each cs more fill in
          rw (reader_by_form id f is) ((forms id f _ is).1 r.0, r.1, r.2)

  pub row_is : (id : ℕ) → IsAmong ts n id → is_data (form_of ts id) ≡ true → (cs : List Cell) → FillType ts id cs → IsRowAt ts roots id cs
  unfolding value_at
  row_is id among is_made cs h =
      let r = reads_among n id among among is_made cs [] h in
      let Reads : List Cell → Type 0 = λ xs. HasShape ts roots id (reader id xs).0 × (leaves (reader id xs).0 ≡ cs) in
      let whole : Reads cs = subst Reads (append-nil cs) (r.0, r.1) in
      record { shape = whole.0; leaves_are = whole.1 }
