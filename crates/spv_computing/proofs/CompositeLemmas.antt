-- The operands of the instructions on composites are data, by the rules that they keep.
use Rattle.std.proofs.Common.{◌≡◌, ◌∙◌, inl, inr, ℕ, zero, suc, ◌<◌, Bool, true, false, cond, List, [], ◌∷◌, length, drop, slice_get, Option, Some, None, refl, sym, ap, subst, arith}
use Rattle.std.specs.Prelude.{◌&&◌, ◌||◌, ◌==◌, not}
use Rattle.std.specs.List.{All, AllZip}
use Rattle.std.specs.Option.{option_and_then, option_map_or}
use Rattle.std.proofs.lemmas.Bool.{and_parts, eqb-true}
use Rattle.std.proofs.lemmas.List.Elements.{All-head, All-tail}
use Rattle.spv_base.specs.declared.instructions.Inst.{Inst}
use Rattle.spv_base.specs.declared.instructions.Operand.{Operand}
use Rattle.spv_base.specs.Options.{holds}
use Rattle.spv_index.specs.Operands.{id_in, literal_in}
use Rattle.spv_types.specs.declared.forms.Form.{Form}
use Rattle.spv_types.specs.declared.forms.Form.TheVariants.{Void, Bool as Boolean, Int, Vector, Array, Runtime, Struct, Pointer, Function}
use Rattle.spv_types.specs.declared.forms.Member.{Member}
use Rattle.spv_types.specs.declared.queries.Components.{Components}
use Rattle.spv_types.specs.Laws.{AreSound}
use Rattle.spv_types.specs.Queries.{components_in, is_pointer}
use Rattle.spv_types.specs.Rules.{is_data as is_data_form, is_runtime, is_scalar, is_sized_data, keep_members, keeps_form, keeps_member}
use Rattle.spv_types.specs.Types.{Types, form_of, in_first, number_of}
use Rattle.spv_typing.specs.Fitting.{is_selectable}
use Rattle.spv_bodies.specs.Composites.{AreParts, IsPart, KeepsConstruct, KeepsExtract, KeepsExtractDynamic, KeepsInsert, KeepsInsertDynamic, KeepsShuffle, given, named_type, part}
use Rattle.spv_bodies.specs.Context.{HasType, IsInteger, IsVectorOf, Known, form_at, type_at, type_in, type_of}
use Rattle.spv_bodies.specs.Matching.{KeepsCopyLogical, Match, form_term, term_among, term_of}
use Rattle.spv_valid.specs.Acceptance.{Accepted}
use Rattle.spv_sites.specs.Sites.{is_data}
use Rattle.spv_computing.proofs.DataLemmas.{selected_data, typed_data}

-- ---- forms

data_plain_form : (o : Option Form) → is_data_form o ≡ true → not (is_pointer o) ≡ true
data_plain_form = grind arith

scalar_plain_form : (o : Option Form) → is_scalar o ≡ true → not (is_pointer o) ≡ true
scalar_plain_form = grind arith

runtime_plain_form : (o : Option Form) → is_runtime o ≡ true → not (is_pointer o) ≡ true
runtime_plain_form = grind arith

-- an operand whose type has a form
pub form_data : (ts : Types) (o : Option ℕ) (f : Form) → option_and_then (form_of ts) o ≡ Some f → not (is_pointer (Some f)) ≡ true → is_data ts o ≡ true
form_data ts None f h plain = absurd (cc)
form_data ts (Some ty) f h plain = ap (λ (x : Option Form). not (is_pointer x)) h ∙ plain

module _ (k : Known) (i : Inst) where
  vector_data : (n : ℕ) (v : Components) → IsVectorOf (form_at k i n) v → is_data k.types (type_at k i n) ≡ true
  vector_data n v h = form_data k.types (type_at k i n) (Vector v.ty v.count) h refl

  integer_data : (n : ℕ) → IsInteger (form_at k i n) → is_data k.types (type_at k i n) ≡ true
  integer_data n h = form_data k.types (type_at k i n) (Int h.0 h.1) h.2 refl

  component_data : AreSound k.types → (n : ℕ) (v : Components) → IsVectorOf (form_of k.types i.ty) v → HasType k i n v.ty → is_data k.types (type_at k i n) ≡ true
  component_data sound n v h has =
      let kept : keeps_form k.types (Vector v.ty v.count) ≡ true = sound.kept i.ty (Vector v.ty v.count) h in
      typed_data k.types (type_at k i n) v.ty has (scalar_plain_form (form_of k.types v.ty) (and_parts (is_scalar (form_of k.types v.ty)) _ kept).0)

  -- ---- vectors

  pub extract_dynamic_data : KeepsExtractDynamic k i → (is_data k.types (type_at k i 0) ≡ true) × (is_data k.types (type_at k i 1) ≡ true)
  extract_dynamic_data h = (vector_data 0 h.1.0 h.1.1, integer_data 1 h.0)

  pub insert_dynamic_data : AreSound k.types → KeepsInsertDynamic k i
      → (is_data k.types (type_at k i 0) ≡ true) × (is_data k.types (type_at k i 1) ≡ true) × (is_data k.types (type_at k i 2) ≡ true)
  insert_dynamic_data sound h =
      (typed_data k.types (type_at k i 0) i.ty h.0.0 (ap (λ (x : Option Form). not (is_pointer x)) h.1.1), component_data sound 1 h.1.0 h.1.1 h.1.2, integer_data 2 h.0.1)

  pub shuffle_data : KeepsShuffle k i → (is_data k.types (type_at k i 0) ≡ true) × (is_data k.types (type_at k i 1) ≡ true)
  shuffle_data h = (vector_data 0 h.0 h.1, vector_data 1 h.2.0 h.2.1)

-- ---- parts

-- a pointer type has no part, and is selected by none
named_plain : (k : Known) (whole ty : ℕ) (os : List Operand) (f : Option Form) → form_of k.types whole ≡ f → named_type k whole os ≡ Some ty → is_selectable (form_of k.types ty) ≡ true → not (is_pointer f) ≡ true
named_plain k whole ty os None is found selectable = refl
named_plain k whole ty os (Some Void) is found selectable = refl
named_plain k whole ty os (Some Boolean) is found selectable = refl
named_plain k whole ty os (Some (Int width sign)) is found selectable = refl
named_plain k whole ty os (Some (Vector component count)) is found selectable = refl
named_plain k whole ty os (Some (Array element length stride)) is found selectable = refl
named_plain k whole ty os (Some (Runtime element stride)) is found selectable = refl
named_plain k whole ty os (Some (Struct members block)) is found selectable = refl
named_plain k whole ty [] (Some (Pointer class target)) is found selectable =
    let same : whole ≡ ty = cc in
    let wrong : is_selectable (Some (Pointer class target)) ≡ true = ap is_selectable (sym is) ∙ ap (λ (n : ℕ). is_selectable (form_of k.types n)) same ∙ selectable in
    absurd (cc)
named_plain k whole ty (o ∷ os) (Some (Pointer class target)) is found selectable =
    let none : option_and_then (λ (t : ℕ). named_type k t os) (option_and_then (part (Some (Pointer class target))) (literal_in o)) ≡ Some ty
    = ap (λ (x : Option Form). option_and_then (λ (t : ℕ). named_type k t os) (option_and_then (part x) (literal_in o))) (sym is) ∙ found in
    absurd (no_part (literal_in o) none)
  where
    no_part : (l : Option ℕ) → option_and_then (λ (t : ℕ). named_type k t os) (option_and_then (part (Some (Pointer class target))) l) ≡ Some ty → ⊥
    no_part None h = cc
    no_part (Some n) h = cc
named_plain k whole ty os (Some (Function returns parameters)) is found selectable = refl

whole_data : (k : Known) (o : Option ℕ) (whole ty : ℕ) (os : List Operand) → o ≡ Some whole → IsPart k whole os ty → is_data k.types o ≡ true
whole_data k o whole ty os has h = typed_data k.types o whole has (named_plain k whole ty os (form_of k.types whole) refl h.1 h.0)

pub extract_data : (k : Known) (i : Inst) → KeepsExtract k i → is_data k.types (type_at k i 0) ≡ true
extract_data k i h = whole_data k (type_at k i 0) h.0 i.ty (drop 1 i.operands) h.1 h.2

pub insert_data : (k : Known) (i : Inst) → KeepsInsert k i → (is_data k.types (type_at k i 0) ≡ true) × (is_data k.types (type_at k i 1) ≡ true)
insert_data k i h =
    (selected_data k.types (type_at k i 0) h.1.0 h.1.1 h.1.2.0, whole_data k (type_at k i 1) i.ty h.1.0 (drop 2 i.operands) h.0 h.1.2)

-- ---- constituents

-- the types of operands
abbrev TypesAreData : Known → List Operand → Type 0
TypesAreData k os = (n : ℕ) (o : Operand) → slice_get os n ≡ Some o → is_data k.types (type_in k o) ≡ true

each_data : (k : Known) (P : Operand → Type 0) → ((o : Operand) → P o → is_data k.types (type_in k o) ≡ true) → (os : List Operand) → All P os → TypesAreData k os
each_data k P gives [] all n o h = absurd (cc)
each_data k P gives (p ∷ os) all zero o h = let same : p ≡ o = cc in subst (λ (x : Operand). is_data k.types (type_in k x) ≡ true) same (gives p (All-head P p os all))
each_data k P gives (p ∷ os) all (suc n) o h = each_data k P gives os (All-tail P p os all) n o h

gives_data : (k : Known) (component : ℕ) (o : Option ℕ) → is_scalar (form_of k.types component) ≡ true → 0 < given k component o → is_data k.types o ≡ true
gives_data k component None scalar some = absurd (omega arith)
gives_data k component (Some ty) scalar some = by_test (ty == component) refl some
  where
    by_vector : (f : Option Form) → 0 < option_map_or (λ (v : Components). cond (v.ty == component) v.count 0) (components_in f) 0 → not (is_pointer f) ≡ true
    by_vector = grind arith

    by_test : (b : Bool) → (ty == component) ≡ b → 0 < cond b 1 (option_map_or (λ (v : Components). cond (v.ty == component) v.count 0) (components_in (form_of k.types ty)) 0)
        → not (is_pointer (form_of k.types ty)) ≡ true
    by_test true same h = scalar_plain_form (form_of k.types ty) (ap (λ (t : ℕ). is_scalar (form_of k.types t)) (eqb-true ty component same) ∙ scalar)
    by_test false same h = by_vector (form_of k.types ty) h

sized_plain : (ts : Types) (ty : ℕ) → is_sized_data ts ty ≡ true → not (is_pointer (form_of ts ty)) ≡ true
sized_plain ts ty h = data_plain_form (form_of ts ty) (and_parts (is_data_form (form_of ts ty)) _ h).0

member_plain : (ts : Types) (block last : Bool) (ty : ℕ) → keeps_member ts block last ty ≡ true → not (is_pointer (form_of ts ty)) ≡ true
member_plain ts block last ty h = by_size (is_sized_data ts ty) refl h
  where
    by_size : (b : Bool) → is_sized_data ts ty ≡ b → (b || (last && (block && is_runtime (form_of ts ty)))) ≡ true → not (is_pointer (form_of ts ty)) ≡ true
    by_size true is g = sized_plain ts ty is
    by_size false is g = runtime_plain_form (form_of ts ty) (and_parts block _ (and_parts last _ g).1).1

members_data : (k : Known) (block : Bool) (members : List Member) (os : List Operand) → keep_members k.types block members ≡ true
    → AllZip (λ (m : Member) (o : Operand). type_in k o ≡ Some m.ty) members os → TypesAreData k os
unfolding keep_members
members_data k block [] [] kept all n o h = absurd (cc)
members_data k block [] (p ∷ os) kept all n o h = absurd all
members_data k block (m ∷ ms) [] kept all n o h = absurd all
members_data k block (m ∷ ms) (p ∷ os) kept all zero o h =
    let same : p ≡ o = cc in
    let parts = and_parts (keeps_member k.types block (length ms == 0) m.ty) (keep_members k.types block ms) kept in
    subst (λ (x : Operand). is_data k.types (type_in k x) ≡ true) same (typed_data k.types (type_in k p) m.ty all.0 (member_plain k.types block (length ms == 0) m.ty parts.0))
members_data k block (m ∷ ms) (p ∷ os) kept all (suc n) o h =
    let parts = and_parts (keeps_member k.types block (length ms == 0) m.ty) (keep_members k.types block ms) kept in
    members_data k block ms os parts.1 all.1 n o h

parts_data : (k : Known) → AreSound k.types → (ty : ℕ) (os : List Operand) (f : Option Form) → form_of k.types ty ≡ f → AreParts k os f → TypesAreData k os
parts_data k sound ty os None is h = absurd h
parts_data k sound ty os (Some Void) is h = absurd h
parts_data k sound ty os (Some Boolean) is h = absurd h
parts_data k sound ty os (Some (Int width sign)) is h = absurd h
parts_data k sound ty os (Some (Vector component count)) is h =
    let kept : keeps_form k.types (Vector component count) ≡ true = sound.kept ty (Vector component count) is in
    let scalar = (and_parts (is_scalar (form_of k.types component)) _ kept).0 in
    each_data k (λ (o : Operand). 0 < given k component (type_in k o)) (λ o some. gives_data k component (type_in k o) scalar some) os h.0
parts_data k sound ty os (Some (Array element n stride)) is h =
    let kept : keeps_form k.types (Array element n stride) ≡ true = sound.kept ty (Array element n stride) is in
    each_data k (λ (o : Operand). type_in k o ≡ Some element) (λ o has. typed_data k.types (type_in k o) element has (sized_plain k.types element kept)) os h.1
parts_data k sound ty os (Some (Runtime element stride)) is h = absurd h
parts_data k sound ty os (Some (Struct members block)) is h = members_data k block members os (sound.kept ty (Struct members block) is) h
parts_data k sound ty os (Some (Pointer class target)) is h = absurd h
parts_data k sound ty os (Some (Function returns parameters)) is h = absurd h

there : (os : List Operand) (n : ℕ) → n < length os → (o : Operand) × (slice_get os n ≡ Some o)
there [] n lt = absurd (omega arith)
there (o ∷ os) zero lt = (o, refl)
there (o ∷ os) (suc n) lt = there os n (omega arith)

pub construct_data : (k : Known) (i : Inst) → AreSound k.types → KeepsConstruct k i → (n : ℕ) → n < length i.operands → is_data k.types (type_at k i n) ≡ true
construct_data k i sound h n lt =
    let here = there i.operands n lt in
    ap (λ (o : Option Operand). is_data k.types (option_and_then (type_of k) (option_and_then id_in o))) here.1 ∙ parts_data k sound i.ty i.operands (form_of k.types i.ty) refl h n here.0 here.1

-- ---- types that match

no_term : (ts : Types) (n id class target : ℕ) → form_of ts id ≡ Some (Pointer class target) → term_among ts n id ≡ None
unfolding term_among in_first
no_term ts zero id class target is = refl
no_term ts (suc n) id class target is = by_number (holds n (number_of ts id)) (no_term ts n id class target is)
  where
    by_number : (b : Bool) → in_first None form_term ts n id ≡ None → cond b (option_map_or (form_term (in_first None form_term ts n)) (form_of ts id) None) (in_first None form_term ts n id) ≡ None
    by_number true rest = ap (λ (o : Option Form). option_map_or (form_term (in_first None form_term ts n)) o None) is
    by_number false rest = rest

match_plain : (ts : Types) (a b : ℕ) (f : Option Form) → form_of ts a ≡ f → is_selectable (form_of ts b) ≡ true → Match ts a b → not (is_pointer f) ≡ true
match_plain ts a b None is selectable h = refl
match_plain ts a b (Some Void) is selectable h = refl
match_plain ts a b (Some Boolean) is selectable h = refl
match_plain ts a b (Some (Int width sign)) is selectable h = refl
match_plain ts a b (Some (Vector component count)) is selectable h = refl
match_plain ts a b (Some (Array element length stride)) is selectable h = refl
match_plain ts a b (Some (Runtime element stride)) is selectable h = refl
match_plain ts a b (Some (Struct members block)) is selectable h = refl
match_plain ts a b (Some (Pointer class target)) is selectable (inl same) =
    let wrong : is_selectable (Some (Pointer class target)) ≡ true = ap is_selectable (sym is) ∙ ap (λ (n : ℕ). is_selectable (form_of ts n)) same ∙ selectable in
    absurd (cc)
match_plain ts a b (Some (Pointer class target)) is selectable (inr both) =
    let none : term_of ts a ≡ None = no_term ts (length ts) a class target is in
    let some = both.1 in
    absurd (cc)
match_plain ts a b (Some (Function returns parameters)) is selectable h = refl

pub logical_data : (k : Known) (i : Inst) → KeepsCopyLogical k i → is_data k.types (type_at k i 0) ≡ true
logical_data k i h = typed_data k.types (type_at k i 0) h.1.0 h.1.1 (match_plain k.types h.1.0 i.ty (form_of k.types h.1.0) refl h.0 h.1.2)

-- ---- the same, where the module and the instruction are read

pub read_so : (P : Accepted → Inst → Type 0) (a b : Accepted) (d e : Inst) → a ≡ b → d ≡ e → P b e → P a d
read_so P a b d e module_is inst_is h = subst (λ (x : Accepted). P x d) (sym module_is) (subst (P b) (sym inst_is) h)
