-- Types that are written out alike have the same values.
use Rattle.std.proofs.Common.{◌≡◌, ◌↔◌, ℕ, zero, suc, Bool, true, false, List, [], ◌∷◌, length, Option, Some, None, inl, inr, refl, ap, subst}
use Rattle.std.specs.Prelude.{◌==◌, if◌then◌else◌}
use Rattle.std.specs.Bool.{MatchBool}
use Rattle.std.specs.Option.{IsSomeAnd, MatchOption, option_and_then, option_map, option_map_or}
use Rattle.std.specs.List.{All, AllZip}
use Rattle.spv_base.specs.Parts.{parts_in}
use Rattle.spv_base.specs.declared.values.Root.{Root}
use Rattle.spv_base.specs.declared.values.Value.{Value, out-Value}
use Rattle.spv_base.specs.Options.{holds}
use Rattle.spv_types.specs.declared.forms.Form.{Form}
use Rattle.spv_types.specs.declared.forms.Form.TheVariants.{Void, Bool as Boolean, Int, Vector, Array, Runtime, Struct, Pointer, Function}
use Rattle.spv_types.specs.declared.forms.Member.{Member}
use Rattle.spv_types.specs.Types.{Types, form_of, in_first, number_of}
use Rattle.spv_types.specs.Shapes.{HasShape, HasShapeAmong, IsScalar, shape_step}
use Rattle.spv_valid.specs.Below.spv_bodies.specs.Matching.{Match, Term, form_term, members_term, repeated, term_among}
use Rattle.spv_valid.specs.Below.spv_bodies.specs.Matching.Term.{Number, Pair}

-- What a term says: as a number, as a type's values, as members' values, and behind an opcode as so many values of a type and as
-- integers of a width.
record Says : Type 1 where
  number : ℕ
  value : Value → Type 0
  members : List Value → Type 0
  several : Value → Type 0
  integer : Value → Type 0

abbrev by_opcode : ℕ → Says → Value → Type 0
by_opcode opcode s v = MatchBool (opcode == 21) (s.integer v) (MatchBool (opcode == 30) (IsSomeAnd (parts_in (out-Value v)) s.members) (s.several v))

abbrev members_of : Says → Says → List Value → Type 0
members_of s t [] = ⊥
members_of s t (v ∷ vs) = s.value v × t.members vs

abbrev ended : List Value → Type 0
ended [] = Unit {0}
ended (v ∷ vs) = ⊥

abbrev says : Term → Says
says (Number n) = record { number = n; value = IsScalar 1; members = ended; several = λ v. ⊥; integer = λ v. ⊥ }
says (Pair s t) = record {
  number = 0;
  value = by_opcode (says s).number (says t);
  members = members_of (says s) (says t);
  several = λ v. IsSomeAnd (parts_in (out-Value v)) (λ vs. (length vs ≡ (says t).number) × All (says s).value vs);
  integer = IsScalar (says s).number;
}

some_both : {T : Type 0} (o : Option T) (P Q : T → Type 0) → ((x : T) → P x ↔ Q x) → IsSomeAnd o P ↔ IsSomeAnd o Q
some_both None P Q each = (λ h. h, λ h. h)
some_both (Some x) P Q each = each x

all_both : (P Q : Value → Type 0) (vs : List Value) → ((v : Value) → P v ↔ Q v) → All P vs ↔ All Q vs
all_both P Q vs each = (λ h k d lt. (each _).0 (h k d lt), λ h k d lt. (each _).1 (h k d lt))

-- values of types that are written out are what the terms say
abbrev Tells : (ℕ → Value → Type 0) → (ℕ → Option Term) → Type 0
Tells shape term = (id : ℕ) (t : Term) → term id ≡ Some t → (v : Value) → shape id v ↔ (says t).value v

-- an option of a term behind a step
there : (f : Term → Term) (o : Option Term) (t : Term) → option_map f o ≡ Some t → (s : Term) × (o ≡ Some s) × (f s ≡ t)
there f None t h = cc
there f (Some s) t h = let e : f s ≡ t = cc in (s, refl, e)

record IsCons (a b : Option Term) (t : Term) : Type 0 where
  first : Term
  rest : Term
  is : a ≡ Some first
  are : b ≡ Some rest
  same : Pair first rest ≡ t

cons_there : (a b : Option Term) (t : Term) → option_and_then (λ s. option_map (Pair s) b) a ≡ Some t → IsCons a b t
cons_there None b t h = cc
cons_there (Some s) None t h = cc
cons_there (Some s) (Some u) t h = let e : Pair s u ≡ t = cc in record { first = s; rest = u; is = refl; are = refl; same = e }

members_both : (shape : ℕ → Value → Type 0) (term : ℕ → Option Term) → Tells shape term → (ms : List Member) (t : Term) → members_term term ms ≡ Some t → (vs : List Value)
    → AllZip (λ (m : Member). shape m.ty) ms vs ↔ (says t).members vs
members_both shape term tells [] t h vs = let e : Number 0 ≡ t = cc in subst (λ (t : Term). AllZip (λ (m : Member). shape m.ty) [] vs ↔ (says t).members vs) e (none vs)
  where
    none : (vs : List Value) → AllZip (λ (m : Member). shape m.ty) [] vs ↔ ended vs
    none [] = (λ h. h, λ h. h)
    none (v ∷ vs) = (λ h. h, λ h. h)
members_both shape term tells (m ∷ ms) t h vs =
    let c = cons_there (term m.ty) (members_term term ms) t h in
    subst (λ (t : Term). AllZip (λ (m : Member). shape m.ty) (m ∷ ms) vs ↔ (says t).members vs) c.same (some c.first c.rest vs (tells m.ty c.first c.is) (members_both shape term tells ms c.rest c.are))
  where
    some : (s u : Term) (vs : List Value) → ((v : Value) → shape m.ty v ↔ (says s).value v) → ((vs : List Value) → AllZip (λ (m : Member). shape m.ty) ms vs ↔ (says u).members vs)
        → AllZip (λ (m : Member). shape m.ty) (m ∷ ms) vs ↔ members_of (says s) (says u) vs
    some s u [] one rest = (λ h. h, λ h. h)
    some s u (v ∷ vs) one rest = (λ h. ((one v).0 h.0, (rest vs).0 h.1), λ h. ((one v).1 h.0, (rest vs).1 h.1))

step_both : (ts : Types) (roots : Root → Option ℕ) (shape : ℕ → Value → Type 0) (term : ℕ → Option Term) → Tells shape term → (f : Form) (t : Term) → form_term term f ≡ Some t → (v : Value)
    → shape_step ts roots shape f v ↔ (says t).value v
step_both ts roots shape term tells Void t h v = cc
step_both ts roots shape term tells Boolean t h v = let e : Number 20 ≡ t = cc in subst (λ (t : Term). IsScalar 1 v ↔ (says t).value v) e (λ h. h, λ h. h)
step_both ts roots shape term tells (Int width sign) t h v =
    let e : Pair (Number 21) (Pair (Number width) (Number sign)) ≡ t = cc in
    subst (λ (t : Term). IsScalar width v ↔ (says t).value v) e (λ h. h, λ h. h)
step_both ts roots shape term tells (Vector component count) t h v =
    let p = there (repeated 23 count) (term component) t h in
    subst (λ (t : Term). shape_step ts roots shape (Vector component count) v ↔ (says t).value v) p.2
    (some_both (parts_in (out-Value v)) (λ vs. (length vs ≡ count) × All (shape component) vs) (λ vs. (length vs ≡ count) × All (says p.0).value vs)
    (λ vs. let all = all_both (shape component) (says p.0).value vs (tells component p.0 p.1) in (λ h. (h.0, all.0 h.1), λ h. (h.0, all.1 h.1))))
step_both ts roots shape term tells (Array element None stride) t h v = cc
step_both ts roots shape term tells (Array element (Some count) stride) t h v =
    let p = there (repeated 28 count) (term element) t h in
    subst (λ (t : Term). shape_step ts roots shape (Array element (Some count) stride) v ↔ (says t).value v) p.2
    (some_both (parts_in (out-Value v)) (λ vs. (Some (length vs) ≡ Some count) × All (shape element) vs) (λ vs. (length vs ≡ count) × All (says p.0).value vs)
    (λ vs. let all = all_both (shape element) (says p.0).value vs (tells element p.0 p.1) in (λ h. (let e = h.0 in cc, all.0 h.1), λ h. (ap Some h.0, all.1 h.1))))
step_both ts roots shape term tells (Runtime element stride) t h v = cc
step_both ts roots shape term tells (Struct members block) t h v =
    let p = there (Pair (Number 30)) (members_term term members) t h in
    subst (λ (t : Term). shape_step ts roots shape (Struct members block) v ↔ (says t).value v) p.2
    (some_both (parts_in (out-Value v)) (λ vs. AllZip (λ (m : Member). shape m.ty) members vs) (says p.0).members (members_both shape term tells members p.0 p.1))
step_both ts roots shape term tells (Pointer class target) t h v = cc
step_both ts roots shape term tells (Function returns parameters) t h v = cc

among_both : (ts : Types) (roots : Root → Option ℕ) (n : ℕ) → Tells (HasShapeAmong ts roots n) (term_among ts n)
unfolding HasShapeAmong term_among in_first
among_both ts roots zero id t h v = cc
among_both ts roots (suc n) id t h v = here (among_both ts roots n) (holds n (number_of ts id)) (form_of ts id) h
  where
    here : Tells (HasShapeAmong ts roots n) (term_among ts n) → (b : Bool) (o : Option Form) → (if b then option_map_or (form_term (term_among ts n)) o None else term_among ts n id) ≡ Some t
        → MatchBool b (MatchOption o ⊥ (λ f. shape_step ts roots (HasShapeAmong ts roots n) f v)) (HasShapeAmong ts roots n id v) ↔ (says t).value v
    here below true None h = cc
    here below true (Some f) h = step_both ts roots (HasShapeAmong ts roots n) (term_among ts n) below f t h v
    here below false o h = below id t h v

-- a value of a type has the shape of a type that matches it
pub match_keeps_shape : (ts : Types) (roots : Root → Option ℕ) (a b : ℕ) (v : Value) → Match ts a b → HasShape ts roots a v → HasShape ts roots b v
unfolding HasShape
match_keeps_shape ts roots a b v (inl same) h = subst (λ (k : ℕ). HasShapeAmong ts roots (length ts) k v) same h
match_keeps_shape ts roots a b v (inr w) h = (among_both ts roots (length ts) b w.0 w.2 v).1 ((among_both ts roots (length ts) a w.0 w.1 v).0 h)
