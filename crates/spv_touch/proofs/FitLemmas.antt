-- What may be stored over a part of a sound memory has the part's outline.
use Rattle.std.proofs.Common.{◌≡◌, ◌∙◌, ℕ, zero, suc, true, List, [], ◌∷◌, Option, Some, None, IsSome, slice_get, refl, ap, subst}
use Rattle.std.proofs.Math.Logic.{∥∥₁_elim}
use Rattle.std.proofs.Props.{props}
use Rattle.std.proofs.lemmas.List.Elements.{All-head, All-tail}
use Rattle.std.specs.Coded.{codes}
use Rattle.std.specs.List.{All, AllZip}
use Rattle.std.specs.Option.{is_some, option_and_then, option_map}
use Rattle.spv_base.specs.Entries.{reads}
use Rattle.spv_base.specs.Parts.{part_at}
use Rattle.spv_base.specs.Variables.{root_id}
use Rattle.spv_base.specs.declared.values.Pointer.{Pointer}
use Rattle.spv_base.specs.contracts.values.Value as value
use Rattle.spv_base.specs.declared.values.Root.{Root}
use Rattle.spv_base.specs.declared.values.Value.{Value, out-Value}
use Rattle.spv_base.specs.declared.values.Value.TheOpen.{Value-F}
use Rattle.spv_types.specs.declared.forms.Form.{Form}
use Rattle.spv_types.specs.declared.forms.Form.TheVariants.{Void, Bool as Boolean, Int, Vector, Array, Runtime, Struct, Pointer as PointerForm, Function}
use Rattle.spv_types.specs.declared.forms.Member.{Member}
use Rattle.spv_types.specs.Laws.{AreSound}
use Rattle.spv_types.specs.Cells.{cells_of}
use Rattle.spv_types.specs.Rows.{no_roots}
use Rattle.spv_types.specs.Shapes.{HasShape, part_type, reached_type, shape_step}
use Rattle.spv_types.specs.Types.{Types}
use Rattle.spv_types.proofs.Exports.{has_part, shape_formed, shapes_are_by_forms, shapes_keep}
use Rattle.spv_mem.specs.Memory.{Held as Memory, IsMemory, MayStore, load_of, root_value, roots_in}
use Rattle.spv_sites.specs.Fits.{StoreFits}
use Rattle.spv_state.specs.State.{State}
use Rattle.spv_touch.specs.Views.{KeepsOutline, outline}
use Rattle.spv_touch.proofs.ShapeLemmas.{shapes_alike}

-- what is there, by its parts
pub both : {A B : Type 0} (o : Option A) (g : A → Option B) (w : B) → option_and_then g o ≡ Some w → (x : A) × (o ≡ Some x) × (g x ≡ Some w)
both None g w h = cc
both (Some x) g w h = (x, refl, h)

pub counted_is : (o : Option ℕ) → is_some o ≡ true → (n : ℕ) × (o ≡ Some n)
counted_is None h = cc
counted_is (Some n) h = (n, refl)

-- ---- a part has a type

all_here : (P : Value → Type 0) (vs : List Value) (i : ℕ) (u : Value) → All P vs → slice_get vs i ≡ Some u → P u
all_here P [] i u all h = cc
all_here P (v ∷ vs) zero u all h = let e : v ≡ u = cc in subst P e (All-head P v vs all)
all_here P (v ∷ vs) (suc i) u all h = all_here P vs i u (All-tail P v vs all) h

members_typed : (shape : ℕ → Value → Type 0) (ms : List Member) (vs : List Value) (i : ℕ) (u : Value) → AllZip (λ (m : Member). shape m.ty) ms vs → slice_get vs i ≡ Some u
    → (t : ℕ) × (option_map (λ (m : Member). m.ty) (slice_get ms i) ≡ Some t) × shape t u
members_typed shape [] [] i u all h = cc
members_typed shape [] (v ∷ vs) i u all h = absurd all
members_typed shape (m ∷ ms) [] i u all h = absurd all
members_typed shape (m ∷ ms) (v ∷ vs) zero u all h = let e : v ≡ u = cc in (m.ty, refl, subst (shape m.ty) e all.0)
members_typed shape (m ∷ ms) (v ∷ vs) (suc i) u all h = members_typed shape ms vs i u all.1 h

part_typed : (ts : Types) (roots : Root → Option ℕ) (shape : ℕ → Value → Type 0) (f : Form) (v : Value) (i : ℕ) (vs : List Value) (u : Value)
    → shape_step ts roots shape f v → out-Value v ≡ Value-F.List vs → slice_get vs i ≡ Some u → (t : ℕ) × (part_type f i ≡ Some t) × shape t u
part_typed ts roots shape Void v i vs u s e g = absurd s
part_typed ts roots shape Boolean v i vs u s e g = let has = rw e at s in absurd has
part_typed ts roots shape (Int width sign) v i vs u s e g = let has = rw e at s in absurd has
part_typed ts roots shape (Vector component count) v i vs u s e g = let has = rw e at s in (component, refl, all_here (shape component) vs i u has.1 g)
part_typed ts roots shape (Array element n stride) v i vs u s e g = let has = rw e at s in (element, refl, all_here (shape element) vs i u has.1 g)
part_typed ts roots shape (Runtime element stride) v i vs u s e g = let has = rw e at s in (element, refl, all_here (shape element) vs i u has g)
part_typed ts roots shape (Struct members block) v i vs u s e g = let has = rw e at s in members_typed shape members vs i u has g
part_typed ts roots shape (PointerForm class target) v i vs u s e g = let has = rw e at s in absurd has
part_typed ts roots shape (Function returns parameters) v i vs u s e g = absurd s

-- the type that a path reaches where it names a part
reached_there : (ts : Types) (roots : Root → Option ℕ) → AreSound ts → (path : List ℕ) (id : ℕ) (v w : Value) → HasShape ts roots id v → part_at v path ≡ Some w
    → (t : ℕ) × (reached_type ts id path ≡ Some t)
unfolding reached_type
reached_there ts roots sound [] id v w shape h = (id, refl)
reached_there ts roots sound (i ∷ path) id v w shape h =
    let p = has_part v i path w h in
    let form = shape_formed ts roots id v shape in
    let formed = (shapes_are_by_forms ts roots sound id form.0 v form.1).0 shape in
    let part = part_typed ts roots (HasShape ts roots) form.0 v i p.values p.part formed p.is p.at in
    let rest = reached_there ts roots sound path part.0 p.part w part.2 p.rest in
    (rest.0, ap (option_and_then (λ t. reached_type ts t path)) (ap (option_and_then (λ f. part_type f i)) form.1 ∙ part.1) ∙ rest.1)

-- ---- what may be stored there

-- by this type both have one outline
stored_alike : (m : Memory) (i : ℕ) (q : Pointer) (u w : Value) → IsMemory m → MayStore m i q u → load_of m i q ≡ Some w → outline w ≡ outline u
stored_alike m i q u w memory may there =
    let part = both (root_value m i q.root) (λ v. part_at v q.path) w there in
    let list = both (roots_in m i q.root) (reads (root_id q.root)) part.0 part.1 in
    let variable = memory.variables i q.root list.0 list.1 (root_id q.root) part.0 list.2 in
    let reached = reached_there m.types no_roots memory.sound q.path variable.type part.0 w variable.shape part.2 in
    let put = may variable.type part.0 variable.named part.1 reached.0 w reached.1 part.2 in
    let shape = (shapes_keep m.types no_roots memory.sound q.path variable.type reached.0 part.0 w w variable.shape reached.1 part.2).0 in
    let counted = counted_is (cells_of m.types reached.0) put.0 in
    shapes_alike m.types reached.0 w u counted.0 shape put.1 counted.1

there_is : (o : Option Value) → IsSome o → (w : Value) × (o ≡ Some w)
there_is None h = cc
there_is (Some w) h = (w, refl)

pub kept : (s : State) (i : ℕ) (o : Option (Pointer × Value)) → ∥ IsMemory s.memory ∥₁ → StoreFits s i o → KeepsOutline s i o
kept s i None memory fits = tt
kept s i (Some e) memory fits =
    let is = there_is (load_of s.memory i e.0) fits.0 in (
      is.0,
      is.1,
      ∥∥₁_elim memory (hlevel (props, codes, value.the_row.coded))
          (λ (m : IsMemory s.memory). ∥∥₁_elim fits.1 (hlevel (props, codes, value.the_row.coded)) (λ (may : MayStore s.memory i e.0 e.1). stored_alike s.memory i e.0 e.1 is.0 m may is.1)),
    )
