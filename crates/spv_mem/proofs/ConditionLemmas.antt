-- What the types of variables tell of the parts that pointers name.
use Rattle.std.proofs.Common.{◌≡◌, ◌∙◌, ℕ, ◌==◌, Bool, true, false, List, [], ◌∷◌, Option, Some, None, refl, sym, ap, subst, arith}
use Rattle.std.proofs.Props.{props}
use Rattle.std.specs.Prelude.{if◌then◌else◌, IsSome}
use Rattle.std.specs.List.{list_all}
use Rattle.std.proofs.lemmas.Bool.{and_parts}
use Rattle.std.specs.Option.{IfSome, IsSomeAnd, is_some, option_and_then}
use Rattle.std.proofs.Math.Logic.{∥∥₁_elim, ∥∥₁_map}
use Rattle.spv_base.specs.Entries.{reads}
use Rattle.spv_base.specs.Cell.{IsCell, Cell}
use Rattle.spv_base.specs.Parts.{part_at}
use Rattle.spv_base.specs.declared.values.Pointer.{Pointer}
use Rattle.spv_base.specs.declared.values.Root.TheVariants.{Shared}
use Rattle.spv_base.specs.declared.values.Value.{Value, Scalar, out-Value}
use Rattle.spv_base.proofs.Exports.{out_scalar}
use Rattle.spv_base.specs.Variables.{root_id}
use Rattle.spv_types.specs.declared.forms.Form.{Form}
use Rattle.spv_types.specs.declared.forms.Form.TheVariants.{Int}
use Rattle.spv_types.specs.Rows.{no_roots}
use Rattle.spv_types.specs.Shapes.{HasShape, IsScalar, reached_type, scalar_in}
use Rattle.spv_types.specs.Types.{Types, form_of}
use Rattle.spv_types.proofs.Exports.{shapes_keep, shapes_are_by_forms, cells_by_form}
use Rattle.spv_mem.specs.Conditions.{integer_width, width_at}
use Rattle.spv_mem.specs.Memory.{Held, IsMemory, IsScalarAt, IsVariable, MayBeTargets, MayStore, NamesArray, load_of, root_value, roots_in}
use Rattle.spv_mem.specs.Targets.{is_array_at, is_counted, may_be_target}

-- ---- options

some_then : {A B : Type 0} (f : A → Option B) (o : Option A) (b : B) → option_and_then f o ≡ Some b → (a : A) × (o ≡ Some a) × (f a ≡ Some b)
some_then f None b h = absurd cc
some_then f (Some a) b h = (a, refl, h)

some_is : {A : Type 0} (o : Option A) → is_some o ≡ true → IsSome o
some_is None h = absurd (grind arith)
some_is (Some a) h = refl

and_some : {A : Type 0} (o : Option A) (P : A → Type 0) → IsSomeAnd o P → is_some o ≡ true
and_some None P h = absurd h
and_some (Some a) P h = refl

-- ---- where a pointer leads to an integer type

pub record LeadsToInteger (m : Held) (p : Pointer) (width : ℕ) : Type 0 where
  pub type : ℕ
  pub named : reads (root_id p.root) m.targets ≡ Some type
  pub part : ℕ
  pub reaches : reached_type m.types type p.path ≡ Some part
  pub sign : ℕ
  pub form : form_of m.types part ≡ Some (Int width sign)

form_is : (o : Option Form) (width : ℕ) → integer_width o ≡ Some width → (sign : ℕ) × (o ≡ Some (Int width sign))
form_is o width h = grind arith

leads : (m : Held) (p : Pointer) (width : ℕ) → width_at m p ≡ Some width → LeadsToInteger m p width
leads m p width h =
    let first = some_then (λ type. option_and_then (λ t. integer_width (form_of m.types t)) (reached_type m.types type p.path)) (reads (root_id p.root) m.targets) width h in
    let second = some_then (λ t. integer_width (form_of m.types t)) (reached_type m.types first.0 p.path) width first.2 in
    let third = form_is (form_of m.types second.0) width second.2 in
    record { type = first.0; named = first.1; part = second.0; reaches = second.1; sign = third.0; form = third.1 }

pub width_unnamed : (m : Held) (p : Pointer) → reads (root_id p.root) m.targets ≡ None → None ≡ width_at m p
width_unnamed m p h = rw h refl

pub width_unreached : (m : Held) (p : Pointer) (type : ℕ) → reads (root_id p.root) m.targets ≡ Some type → reached_type m.types type p.path ≡ None → None ≡ width_at m p
width_unreached m p type h g = rw (h, g) refl

pub width_reached : (m : Held) (p : Pointer) (type part : ℕ) → reads (root_id p.root) m.targets ≡ Some type → reached_type m.types type p.path ≡ Some part → integer_width (form_of m.types part) ≡ width_at m p
width_reached m p type part h g = rw (h, g) refl

-- ---- what is there is a scalar

there_scalar : (m : Held) (p : Pointer) (width i : ℕ) (w : Value) → IsMemory m → LeadsToInteger m p width → load_of m i p ≡ Some w → is_some (scalar_in (out-Value w)) ≡ true
there_scalar m p width i w is l load =
    let value = some_then (λ v. part_at v p.path) (root_value m i p.root) w load in
    let roots = some_then (reads (root_id p.root)) (roots_in m i p.root) value.0 value.1 in
    let variable : IsVariable m.types m.targets (root_id p.root) value.0 = is.variables i p.root roots.0 roots.1 (root_id p.root) value.0 roots.2 in
    let type : Some variable.type ≡ Some l.type = sym variable.named ∙ l.named in
    let same : variable.type ≡ l.type = cc in
    let shape : HasShape m.types no_roots l.type value.0 = subst (λ (k : ℕ). HasShape m.types no_roots k value.0) same variable.shape in
    let part : HasShape m.types no_roots l.part w = (shapes_keep m.types no_roots is.sound p.path l.type l.part value.0 w w shape l.reaches value.2).0 in
    and_some (scalar_in (out-Value w)) (λ c. (c.width ≡ width) × IsCell c) ((shapes_are_by_forms m.types no_roots is.sound l.part (Int width l.sign) w l.form).0 part)

scalar_at : (m : Held) (p : Pointer) (width : ℕ) → ∥ IsMemory m ∥₁ → width_at m p ≡ Some width → (i : ℕ) → IsScalarAt m i p
scalar_at m p width is h i w load = some_is (scalar_in (out-Value w)) (∥∥₁_elim is (hlevel props) (λ (k : IsMemory m). there_scalar m p width i w k (leads m p width h) load))

-- ---- a scalar of the width may be stored

may_be_put : (m : Held) (p : Pointer) (width i : ℕ) (c : Cell) → IsMemory m → LeadsToInteger m p width → c.width ≡ width → IsCell c → MayStore m i p (Scalar c)
may_be_put m p width i c is l same lane ty v named there t w reaches part =
    let type : Some l.type ≡ Some ty = sym l.named ∙ named in
    let alike : l.type ≡ ty = cc in
    let at : reached_type m.types l.type p.path ≡ Some t = subst (λ (k : ℕ). reached_type m.types k p.path ≡ Some t) (sym alike) reaches in
    let parts : Some l.part ≡ Some t = sym l.reaches ∙ at in
    let one : l.part ≡ t = cc in
    let scalar : IsScalar width (Scalar c) = rw out_scalar (same, lane) in
    let shape : HasShape m.types no_roots l.part (Scalar c) = (shapes_are_by_forms m.types no_roots is.sound l.part (Int width l.sign) (Scalar c) l.form).1 scalar in
    let counted : is_counted m.types l.part ≡ true = ap is_some (cells_by_form m.types is.sound l.part (Int width l.sign) l.form) in
    (subst (λ (k : ℕ). is_counted m.types k ≡ true) one counted, subst (λ (k : ℕ). HasShape m.types no_roots k (Scalar c)) one shape)

may_store : (m : Held) (p : Pointer) (width : ℕ) → ∥ IsMemory m ∥₁ → width_at m p ≡ Some width → (i : ℕ) (c : Cell) → c.width ≡ width → IsCell c → ∥ MayStore m i p (Scalar c) ∥₁
may_store m p width is h i c same lane = ∥∥₁_map is (λ (k : IsMemory m). may_be_put m p width i c k (leads m p width h) same lane)

-- ---- where a width is answered

pub scalar_if : (m : Held) (p : Pointer) (r : Option ℕ) → ∥ IsMemory m ∥₁ → r ≡ width_at m p → IfSome r (λ width. (i : ℕ) → IsScalarAt m i p)
scalar_if m p None is h = tt
scalar_if m p (Some width) is h = λ i. scalar_at m p width is (sym h) i

pub may_if : (m : Held) (p : Pointer) (r : Option ℕ) → ∥ IsMemory m ∥₁ → r ≡ width_at m p
    → IfSome r (λ width. (i : ℕ) (c : Cell) → c.width ≡ width → IsCell c → ∥ MayStore m i p (Scalar c) ∥₁)
may_if m p None is h = tt
may_if m p (Some width) is h = λ i c same lane. may_store m p width is (sym h) i c same lane

-- ---- lists of targets

with_first : (ts : Types) (t : ℕ × ℕ) (targets : List (ℕ × ℕ)) → may_be_target ts t.1 ≡ true → MayBeTargets ts targets → MayBeTargets ts (t ∷ targets)
with_first ts t targets may rest id type h = by_id (t.0 == id) refl h
  where
    by_id : (b : Bool) → (t.0 == id) ≡ b → (if b then Some t.1 else reads id targets) ≡ Some type → may_be_target ts type ≡ true
    by_id true e h = let same : t.1 ≡ type = cc in subst (λ (k : ℕ). may_be_target ts k ≡ true) same may
    by_id false e h = rest id type h

pub each_may : (ts : Types) (targets : List (ℕ × ℕ)) → list_all (λ (t : ℕ × ℕ). may_be_target ts t.1) targets ≡ true → MayBeTargets ts targets
each_may ts [] all = λ id type h. absurd cc
each_may ts (t ∷ targets) all = let both = and_parts (may_be_target ts t.1) (list_all (λ (s : ℕ × ℕ). may_be_target ts s.1) targets) all in with_first ts t targets both.0 (each_may ts targets both.1)

-- ---- runtime arrays

-- a pointer into the shared variable with an id names a block, whose member k is a runtime array
record LeadsToArray (m : Held) (p : Pointer) (k id : ℕ) : Type 0 where
  value : Value
  there : reads id m.shared ≡ Some value
  type : ℕ
  named : reads id m.targets ≡ Some type
  block : ℕ
  leads : reached_type m.types type p.path ≡ Some block
  array : is_array_at m.types (form_of m.types block) k ≡ true

of_id : (m : Held) (p : Pointer) (k id : ℕ) → p.root ≡ Shared id → NamesArray m p k → LeadsToArray m p k id
of_id m p k id root is =
    let roots : Shared is.id ≡ Shared id = sym is.shared ∙ root in
    let same : is.id ≡ id = cc in
    subst (λ (n : ℕ). LeadsToArray m p k n) same (record { value = is.value; there = is.there; type = is.type; named = is.named; block = is.block; leads = is.leads; array = is.array })

pub no_array_unshared : (m : Held) (p : Pointer) (k : ℕ) → ((id : ℕ) → p.root ≡ Shared id → ⊥) → ∥ NamesArray m p k ∥₁ → ⊥
no_array_unshared m p k other is = ∥∥₁_elim is (hlevel props) (λ (n : NamesArray m p k). other n.id n.shared)

pub no_array_fresh : (m : Held) (p : Pointer) (k id : ℕ) → p.root ≡ Shared id → reads id m.shared ≡ None → ∥ NamesArray m p k ∥₁ → ⊥
no_array_fresh m p k id root fresh is =
    ∥∥₁_elim is (hlevel props) (λ (n : NamesArray m p k). let l = of_id m p k id root n in let there = l.there in absurd cc)

pub no_array_untargeted : (m : Held) (p : Pointer) (k id : ℕ) → p.root ≡ Shared id → reads id m.targets ≡ None → ∥ NamesArray m p k ∥₁ → ⊥
no_array_untargeted m p k id root none is =
    ∥∥₁_elim is (hlevel props) (λ (n : NamesArray m p k). let l = of_id m p k id root n in let named = l.named in absurd cc)

pub no_array_unreached : (m : Held) (p : Pointer) (k id type : ℕ) → p.root ≡ Shared id → reads id m.targets ≡ Some type → reached_type m.types type p.path ≡ None → ∥ NamesArray m p k ∥₁ → ⊥
no_array_unreached m p k id type root named none is =
    ∥∥₁_elim is (hlevel props) (λ (n : NamesArray m p k).
    let l = of_id m p k id root n in
    let types : Some l.type ≡ Some type = sym l.named ∙ named in
    let same : l.type ≡ type = cc in
    let leads : reached_type m.types type p.path ≡ Some l.block = subst (λ (t : ℕ). reached_type m.types t p.path ≡ Some l.block) same l.leads in
    absurd cc)

pub array_named : (m : Held) (p : Pointer) (k id type block : ℕ) → p.root ≡ Shared id → (reads id m.shared ≡ None → ⊥) → reads id m.targets ≡ Some type
    → reached_type m.types type p.path ≡ Some block → is_array_at m.types (form_of m.types block) k ≡ true → ∥ NamesArray m p k ∥₁
array_named m p k id type block root there named leads array = by_value (reads id m.shared) refl
  where
    by_value : (o : Option Value) → reads id m.shared ≡ o → ∥ NamesArray m p k ∥₁
    by_value None e = absurd (there e)
    by_value (Some v) e = ∣ record { id = id; shared = root; value = v; there = e; type = type; named = named; block = block; leads = leads; array = array } ∣₁

pub array_is_named : (m : Held) (p : Pointer) (k id type block : ℕ) → p.root ≡ Shared id → reads id m.targets ≡ Some type → reached_type m.types type p.path ≡ Some block
    → ∥ NamesArray m p k ∥₁ → is_array_at m.types (form_of m.types block) k ≡ true
array_is_named m p k id type block root named leads is =
    ∥∥₁_elim is (hlevel props) (λ (n : NamesArray m p k).
    let l = of_id m p k id root n in
    let types : Some l.type ≡ Some type = sym l.named ∙ named in
    let same : l.type ≡ type = cc in
    let here : reached_type m.types type p.path ≡ Some l.block = subst (λ (t : ℕ). reached_type m.types t p.path ≡ Some l.block) same l.leads in
    let blocks : Some l.block ≡ Some block = sym here ∙ leads in
    let one : l.block ≡ block = cc in
    subst (λ (b : ℕ). is_array_at m.types (form_of m.types b) k ≡ true) one l.array)
