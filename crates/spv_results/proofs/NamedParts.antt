-- The part of a composite that literals name: its type, its leaves and where they lie.
use Rattle.std.proofs.Common.{◌≡◌, ◌∙◌, ℕ, zero, suc, ◌+◌, ◌*◌, ◌<◌, ◌==◌, ◌&&◌, ◌||◌, not, Bool, true, false, List, [], ◌∷◌, length, take, slice_get, Option, Some, None, nat_lt, refl, sym, ap, subst, arith}
use Rattle.std.specs.Prelude.{if◌then◌else◌}
use Rattle.std.specs.List.{All, AllZip}
use Rattle.std.specs.Option.{option_and_then, option_map, option_map_or}
use Rattle.std.proofs.lemmas.Bool.{and_parts, ltb-true}
use Rattle.spv_base.specs.Parts.{part_at}
use Rattle.spv_base.specs.declared.instructions.Operand.{Operand}
use Rattle.spv_base.specs.declared.values.Root.{Root}
use Rattle.spv_base.specs.declared.values.Value.{Value, out-Value}
use Rattle.spv_base.specs.declared.values.Value.TheOpen.{Value-F}
use Rattle.spv_index.specs.Operands.{literal_in}
use Rattle.spv_types.specs.declared.forms.Form.{Form}
use Rattle.spv_types.specs.declared.forms.Form.TheVariants.{Void, Bool as Boolean, Int, Vector, Array, Runtime, Struct, Pointer, Function}
use Rattle.spv_types.specs.declared.forms.Member.{Member}
use Rattle.spv_types.specs.Cells.{cells_of, members_cells}
use Rattle.spv_types.specs.Laws.{AreSound}
use Rattle.spv_types.specs.Leaves.{element_part, leaf_of, member_part, part_of}
use Rattle.spv_types.specs.Rules.{form_has_runtime, has_runtime, is_runtime, is_scalar, is_sized_data, keep_members, keeps_member, last_type}
use Rattle.spv_types.specs.Shapes.{HasShape, part_type, reached_type, shape_step}
use Rattle.spv_types.specs.Types.{Types, form_of}
use Rattle.spv_types.proofs.Exports.{many_is, shapes_are_by_forms, cells_by_form}
use Rattle.spv_mem.proofs.Exports.{part_cons}
use Rattle.spv_plans.proofs.Exports.{scalar_plain, sized_plain}
use Rattle.spv_valid.specs.Below.spv_bodies.specs.Composites.{named_type, part}
use Rattle.spv_valid.specs.Below.spv_bodies.specs.Context.{Known}
use Rattle.spv_results.specs.Results.{numbers}

-- ---- an index

-- part i of a value: its type, the leaves before it, and the part
record Here (ts : Types) (roots : Root → Option ℕ) (f : Form) (v : Value) (i t : ℕ) : Type 0 where
  before : ℕ
  values : List Value
  part : Value
  at : part_of (cells_of ts) f i ≡ Some (before, t)
  typed : part_type f i ≡ Some t
  is : out-Value v ≡ Value-F.List values
  found : slice_get values i ≡ Some part
  shape : HasShape ts roots t part

item_there : (P : Value → Type 0) (vs : List Value) (i : ℕ) → i < length vs → All P vs → (u : Value) × (slice_get vs i ≡ Some u) × P u
item_there P vs i below all = go vs i below all
  where
    go : (vs : List Value) (i : ℕ) → i < length vs → All P vs → (u : Value) × (slice_get vs i ≡ Some u) × P u
    go [] i below all = absurd (omega arith)
    go (v ∷ vs) zero below all = (v, refl, all 0 v (omega arith))
    go (v ∷ vs) (suc i) below all = go vs i (omega arith) (λ k d less. all (suc k) d (omega arith))

-- the member with a number, and the value under it
record MemberHere (shape : ℕ → Value → Type 0) (ms : List Member) (vs : List Value) (i t : ℕ) : Type 0 where
  member : Member
  value : Value
  is : slice_get ms i ≡ Some member
  type : member.ty ≡ t
  found : slice_get vs i ≡ Some value
  has : shape t value

member_here : (shape : ℕ → Value → Type 0) (ms : List Member) (vs : List Value) (i t : ℕ) → option_map (λ (m : Member). m.ty) (slice_get ms i) ≡ Some t → AllZip (λ (m : Member). shape m.ty) ms vs
    → MemberHere shape ms vs i t
member_here shape [] vs i t h all = cc
member_here shape (m ∷ ms) [] i t h all = absurd all
member_here shape (m ∷ ms) (v ∷ vs) zero t h all =
    let e : m.ty ≡ t = cc in
    record { member = m; value = v; is = refl; type = e; found = refl; has = subst (λ (k : ℕ). shape k v) e all.0 }
member_here shape (m ∷ ms) (v ∷ vs) (suc i) t h all =
    let r = member_here shape ms vs i t h all.1 in
    record { member = r.member; value = r.value; is = r.is; type = r.type; found = r.found; has = r.has }

below_there : (i count element t : ℕ) → (if nat_lt i count then Some element else None) ≡ Some t → (nat_lt i count ≡ true) × (element ≡ t)
below_there i count element t h = go (nat_lt i count) refl h
  where
    go : (b : Bool) → nat_lt i count ≡ b → (if b then Some element else None) ≡ Some t → (nat_lt i count ≡ true) × (element ≡ t)
    go false e h = cc
    go true e h = let same : element ≡ t = cc in (e, same)

module _ (ts : Types) (roots : Root → Option ℕ) (sound : AreSound ts) (counted : (id : ℕ) → is_sized_data ts id ≡ true → (n : ℕ) × (cells_of ts id ≡ Some n)) where
  -- a scalar is one leaf
  scalar_cells : (id : ℕ) → is_scalar (form_of ts id) ≡ true → cells_of ts id ≡ Some 1
  scalar_cells id h = go (form_of ts id) refl h
    where
      go : (o : Option Form) → form_of ts id ≡ o → is_scalar o ≡ true → cells_of ts id ≡ Some 1
      go None e h = cc
      go (Some Void) e h = cc
      go (Some Boolean) e h = cells_by_form ts sound id Boolean e
      go (Some (Int width sign)) e h = cells_by_form ts sound id (Int width sign) e
      go (Some (Vector component count)) e h = cc
      go (Some (Array element n stride)) e h = cc
      go (Some (Runtime element stride)) e h = cc
      go (Some (Struct members block)) e h = cc
      go (Some (Pointer class target)) e h = cc
      go (Some (Function returns parameters)) e h = cc

  sum_none : members_cells (cells_of ts) [] ≡ Some 0
  unfolding members_cells
  sum_none = refl

  sum_more : (m : Member) (ms : List Member) (c b : ℕ) → cells_of ts m.ty ≡ Some c → members_cells (cells_of ts) ms ≡ Some b → members_cells (cells_of ts) (m ∷ ms) ≡ Some (c + b)
  unfolding members_cells
  sum_more m ms c b h g = rw (h, g) refl

  -- a member that is not the last one is sized
  not_last : (block : Bool) (m n : Member) (ms : List Member) → keeps_member ts block (length (n ∷ ms) == 0) m.ty ≡ true → is_sized_data ts m.ty ≡ true
  not_last block m n ms h = go (is_sized_data ts m.ty) (length (n ∷ ms) == 0) refl some h
    where
      some : (length (n ∷ ms) == 0) ≡ false
      some = grind arith

      go : (b last : Bool) → is_sized_data ts m.ty ≡ b → last ≡ false → (b || (last && (block && is_runtime (form_of ts m.ty)))) ≡ true → is_sized_data ts m.ty ≡ true
      go true last e f h = e
      go false true e f h = cc
      go false false e f h = cc

  -- the members before one of them have leaves
  members_before : (block : Bool) (ms : List Member) (i : ℕ) (m : Member) → keep_members ts block ms ≡ true → slice_get ms i ≡ Some m → (b : ℕ) × (members_cells (cells_of ts) (take i ms) ≡ Some b)
  unfolding keep_members
  members_before block [] i m kept h = cc
  members_before block (k ∷ ms) zero m kept h = (0, sum_none)
  members_before block (k ∷ []) (suc i) m kept h = cc
  members_before block (k ∷ l ∷ ms) (suc i) m kept h =
      let both = and_parts (keeps_member ts block (length (l ∷ ms) == 0) k.ty) (keep_members ts block (l ∷ ms)) kept in
      let c = counted k.ty (not_last block k l ms both.0) in
      let b = members_before block (l ∷ ms) i m both.1 h in
      (c.0 + b.0, sum_more k (take i (l ∷ ms)) c.0 b.0 c.1 b.1)

  element_of : (element i count c t : ℕ) → cells_of ts element ≡ Some c → nat_lt i count ≡ true → element ≡ t → (if nat_lt i count then element_part (cells_of ts) element i else None) ≡ Some (c * i, t)
  element_of element i count c t h below same = rw (below, h, same) refl

  here : (f : Form) (v : Value) (id i t : ℕ) → form_of ts id ≡ Some f → shape_step ts roots (HasShape ts roots) f v → part (Some f) i ≡ Some t → Here ts roots f v i t
  here Void v id i t is s h = cc
  here Boolean v id i t is s h = cc
  here (Int width sign) v id i t is s h = cc
  here (Vector component count) v id i t is s h =
      let below = below_there i count component t h in
      let many = many_is (λ (vs : List Value). (length vs ≡ count) × All (HasShape ts roots component) vs) v s in
      let item = item_there (HasShape ts roots component) many.0 i (subst (λ (n : ℕ). i < n) (sym many.2.0) (ltb-true i count below.0)) many.2.1 in
      let cells = scalar_cells component (and_parts (is_scalar (form_of ts component)) _ (sound.kept id (Vector component count) is)).0 in
      record {
        before = 1 * i;
        values = many.0;
        part = item.0;
        at = element_of component i count 1 t cells below.0 below.1;
        typed = ap Some below.1;
        is = many.1;
        found = item.1;
        shape = subst (λ (k : ℕ). HasShape ts roots k item.0) below.1 item.2;
      }
  here (Array element None stride) v id i t is s h = cc
  here (Array element (Some count) stride) v id i t is s h =
      let below = below_there i count element t h in
      let many = many_is (λ (vs : List Value). (Some (length vs) ≡ Some count) × All (HasShape ts roots element) vs) v s in
      let long : length many.0 ≡ count = let e = many.2.0 in cc in
      let item = item_there (HasShape ts roots element) many.0 i (subst (λ (n : ℕ). i < n) (sym long) (ltb-true i count below.0)) many.2.1 in
      let cells = counted element (sound.kept id (Array element (Some count) stride) is) in
      record {
        before = cells.0 * i;
        values = many.0;
        part = item.0;
        at = element_of element i count cells.0 t cells.1 below.0 below.1;
        typed = ap Some below.1;
        is = many.1;
        found = item.1;
        shape = subst (λ (k : ℕ). HasShape ts roots k item.0) below.1 item.2;
      }
  here (Runtime element stride) v id i t is s h = cc
  here (Struct members block) v id i t is s h =
      let many = many_is (λ (vs : List Value). AllZip (λ (m : Member). HasShape ts roots m.ty) members vs) v s in
      let m = member_here (HasShape ts roots) members many.0 i t h many.2 in
      let sum = members_before block members i m.member (sound.kept id (Struct members block) is) m.is in
      record {
        before = sum.0;
        values = many.0;
        part = m.value;
        at = member_at members i sum.0 m.member t m.is sum.1 m.type;
        typed = h;
        is = many.1;
        found = m.found;
        shape = m.has;
      }
    where
      member_at : (ms : List Member) (i b : ℕ) (m : Member) (t : ℕ) → slice_get ms i ≡ Some m → members_cells (cells_of ts) (take i ms) ≡ Some b → m.ty ≡ t → member_part (cells_of ts) ms i ≡ Some (b, t)
      member_at ms i b m t g s e = rw (g, s, e) refl
  here (Pointer class target) v id i t is s h = cc
  here (Function returns parameters) v id i t is s h = cc

  -- ---- parts of types without runtime arrays

  -- a last member that is no runtime array is sized
  last_sized : (block : Bool) (m : Member) → is_runtime (form_of ts m.ty) ≡ false → keeps_member ts block true m.ty ≡ true → is_sized_data ts m.ty ≡ true
  last_sized block m plain h = go (is_sized_data ts m.ty) block (is_runtime (form_of ts m.ty)) refl plain h
    where
      go : (b block runtime : Bool) → is_sized_data ts m.ty ≡ b → runtime ≡ false → (b || (true && (block && runtime))) ≡ true → is_sized_data ts m.ty ≡ true
      go true block runtime e f h = e
      go false false runtime e f h = cc
      go false true true e f h = cc
      go false true false e f h = cc

  members_sized : (block : Bool) (ms : List Member) (i t : ℕ) → keep_members ts block ms ≡ true → option_map_or (λ ty. is_runtime (form_of ts ty)) (last_type ms) false ≡ false
      → option_map (λ (m : Member). m.ty) (slice_get ms i) ≡ Some t → is_sized_data ts t ≡ true
  unfolding keep_members
  members_sized block [] i t kept plain h = cc
  members_sized block (m ∷ []) zero t kept plain h =
      let e : m.ty ≡ t = cc in
      subst (λ (k : ℕ). is_sized_data ts k ≡ true) e (last_sized block m plain (and_parts (keeps_member ts block true m.ty) true kept).0)
  members_sized block (m ∷ []) (suc i) t kept plain h = cc
  members_sized block (m ∷ l ∷ ms) zero t kept plain h =
      let e : m.ty ≡ t = cc in
      subst (λ (k : ℕ). is_sized_data ts k ≡ true) e (not_last block m l ms (and_parts (keeps_member ts block (length (l ∷ ms) == 0) m.ty) (keep_members ts block (l ∷ ms)) kept).0)
  members_sized block (m ∷ l ∷ ms) (suc i) t kept plain h =
      members_sized block (l ∷ ms) i t (and_parts (keeps_member ts block (length (l ∷ ms) == 0) m.ty) (keep_members ts block (l ∷ ms)) kept).1 plain h

  part_plain : (f : Form) (id i t : ℕ) → form_of ts id ≡ Some f → form_has_runtime ts (Some f) ≡ false → part (Some f) i ≡ Some t → has_runtime ts t ≡ false
  part_plain Void id i t is plain h = cc
  part_plain Boolean id i t is plain h = cc
  part_plain (Int width sign) id i t is plain h = cc
  part_plain (Vector component count) id i t is plain h =
      subst (λ (k : ℕ). has_runtime ts k ≡ false) (below_there i count component t h).1
      (scalar_plain ts (form_of ts component) (and_parts (is_scalar (form_of ts component)) _ (sound.kept id (Vector component count) is)).0)
  part_plain (Array element None stride) id i t is plain h = cc
  part_plain (Array element (Some count) stride) id i t is plain h =
      subst (λ (k : ℕ). has_runtime ts k ≡ false) (below_there i count element t h).1 (sized_plain ts element (sound.kept id (Array element (Some count) stride) is))
  part_plain (Runtime element stride) id i t is plain h = cc
  part_plain (Struct members block) id i t is plain h = sized_plain ts t (members_sized block members i t (sound.kept id (Struct members block) is) plain h)
  part_plain (Pointer class target) id i t is plain h = cc
  part_plain (Function returns parameters) id i t is plain h = cc

  -- ---- paths

  leaf_cons : (id i b t : ℕ) (f : Form) (path : List ℕ) → form_of ts id ≡ Some f → part_of (cells_of ts) f i ≡ Some (b, t) → leaf_of ts id (i ∷ path) ≡ option_map (λ n. b + n) (leaf_of ts t path)
  unfolding leaf_of
  leaf_cons id i b t f path is at = rw (is, at) refl

  reached_cons : (id i t : ℕ) (f : Form) (path : List ℕ) → form_of ts id ≡ Some f → part_type f i ≡ Some t → reached_type ts id (i ∷ path) ≡ reached_type ts t path
  unfolding reached_type
  reached_cons id i t f path is at = rw (is, at) refl

  leaf_nil : (id : ℕ) → leaf_of ts id [] ≡ Some 0
  unfolding leaf_of
  leaf_nil id = refl

  reached_nil : (id : ℕ) → reached_type ts id [] ≡ Some id
  unfolding reached_type
  reached_nil id = refl

-- the part that a path names, of a type
pub record IsThere (ts : Types) (id : ℕ) (path : List ℕ) (v : Value) (target : ℕ) : Type 0 where
  pub before : ℕ
  pub part : Value
  pub leaf : leaf_of ts id path ≡ Some before
  pub typed : reached_type ts id path ≡ Some target
  pub is : part_at v path ≡ Some part

-- what a first literal names
record NamesMember (k : Known) (id : ℕ) (o : Operand) (os : List Operand) (target : ℕ) : Type 0 where
  index : ℕ
  form : Form
  type : ℕ
  literal : literal_in o ≡ Some index
  is : form_of k.types id ≡ Some form
  part : part (Some form) index ≡ Some type
  rest : named_type k type os ≡ Some target

names : (k : Known) (id : ℕ) (o : Operand) (os : List Operand) (target : ℕ) → named_type k id (o ∷ os) ≡ Some target → NamesMember k id o os target
names k id o os target h = literal (literal_in o) refl h
  where
    typed : (i : ℕ) (f : Form) → literal_in o ≡ Some i → form_of k.types id ≡ Some f → (t : Option ℕ) → part (Some f) i ≡ t → option_and_then (λ t. named_type k t os) t ≡ Some target → NamesMember k id o os target
    typed i f l e None g h = cc
    typed i f l e (Some t) g h = record { index = i; form = f; type = t; literal = l; is = e; part = g; rest = h }

    formed : (i : ℕ) → literal_in o ≡ Some i → (f : Option Form) → form_of k.types id ≡ f → option_and_then (λ t. named_type k t os) (part f i) ≡ Some target → NamesMember k id o os target
    formed i l None e h = cc
    formed i l (Some f) e h = typed i f l e (part (Some f) i) refl h

    literal : (l : Option ℕ) → literal_in o ≡ l → option_and_then (λ t. named_type k t os) (option_and_then (part (form_of k.types id)) l) ≡ Some target → NamesMember k id o os target
    literal None e h = cc
    literal (Some i) e h = formed i e (form_of k.types id) refl h

number_is : (o : Operand) (os : List Operand) (i : ℕ) → literal_in o ≡ Some i → numbers (o ∷ os) ≡ i ∷ numbers os
number_is o os i h = rw h refl

pub named_there : (k : Known) (roots : Root → Option ℕ) → AreSound k.types → ((id : ℕ) → is_sized_data k.types id ≡ true → (n : ℕ) × (cells_of k.types id ≡ Some n))
    → (os : List Operand) (id target : ℕ) (v : Value) → HasShape k.types roots id v → named_type k id os ≡ Some target → IsThere k.types id (numbers os) v target
named_there k roots sound counted [] id target v shape h =
    let e : id ≡ target = cc in
    record { before = 0; part = v; leaf = leaf_nil k.types roots sound counted id; typed = reached_nil k.types roots sound counted id ∙ ap Some e; is = refl }
named_there k roots sound counted (o ∷ os) id target v shape h =
    let n = names k id o os target h in
    let step = (shapes_are_by_forms k.types roots sound id n.form v n.is).0 shape in
    let at = here k.types roots sound counted n.form v id n.index n.type n.is step n.part in
    let rest = named_there k roots sound counted os n.type target at.part at.shape n.rest in
    subst (λ (path : List ℕ). IsThere k.types id path v target) (sym (number_is o os n.index n.literal)) (record {
      before = at.before + rest.before;
      part = rest.part;
      leaf = leaf_cons k.types roots sound counted id n.index at.before n.type n.form (numbers os) n.is at.at ∙ ap (option_map (λ m. at.before + m)) rest.leaf;
      typed = reached_cons k.types roots sound counted id n.index n.type n.form (numbers os) n.is at.typed ∙ rest.typed;
      is = part_cons v at.part at.values n.index (numbers os) at.is at.found ∙ rest.is;
    })

-- a part of a type without a runtime array has none
pub named_plain : (k : Known) (roots : Root → Option ℕ) → AreSound k.types → ((id : ℕ) → is_sized_data k.types id ≡ true → (n : ℕ) × (cells_of k.types id ≡ Some n))
    → (os : List Operand) (id target : ℕ) → has_runtime k.types id ≡ false → named_type k id os ≡ Some target → has_runtime k.types target ≡ false
named_plain k roots sound counted [] id target plain h = let e : id ≡ target = cc in subst (λ (t : ℕ). has_runtime k.types t ≡ false) e plain
named_plain k roots sound counted (o ∷ os) id target plain h =
    let n = names k id o os target h in
    let formed : form_has_runtime k.types (Some n.form) ≡ false = ap (form_has_runtime k.types) (sym n.is) ∙ plain in
    named_plain k roots sound counted os n.type target (part_plain k.types roots sound counted n.form id n.index n.type n.is formed n.part) n.rest
