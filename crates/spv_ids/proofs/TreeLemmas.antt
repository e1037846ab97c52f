-- The value of a constant has no element of a runtime array: a row is read off without one.
use Rattle.std.proofs.Common.{◌≡◌, ℕ, zero, suc, Bool, true, false, List, [], ◌∷◌, length, map, replicate, Option, Some, None, refl, sym, ap, subst, arith}
use Rattle.std.specs.Bool.{MatchBool}
use Rattle.std.specs.List.{All, AllZip}
use Rattle.std.specs.Option.{IsSomeAnd, MatchOption, option_map, option_map_or}
use Rattle.std.specs.Prelude.{if◌then◌else◌, unwrap_or}
use Rattle.std.proofs.lemmas.List.Elements.{All-cons, All-head, All-tail}
use Rattle.spv_base.specs.Cell.{Cell}
use Rattle.spv_base.specs.Options.{holds}
use Rattle.spv_base.specs.Parts.{parts_in}
use Rattle.spv_base.specs.declared.values.Value.{Value, List as Many, out-Value}
use Rattle.spv_base.proofs.Exports.{out_many}
use Rattle.spv_types.specs.declared.forms.Form.{Form}
use Rattle.spv_types.specs.declared.forms.Form.TheVariants.{Void, Bool as Boolean, Int, Vector, Array, Runtime, Struct, Pointer, Function}
use Rattle.spv_types.specs.declared.forms.Member.{Member}
use Rattle.spv_types.specs.Rows.{no_roots}
use Rattle.spv_types.specs.Shapes.{HasShape, HasShapeAmong, shape_step}
use Rattle.spv_types.specs.Types.{Types, form_of, in_first, number_of}
use Rattle.spv_types.proofs.Exports.{no_pointer}
use Rattle.spv_consts.specs.Trees.{Reader, read_among, read_none, read_parts, read_step, value_at}
use Rattle.spv_show.specs.Elements.{sized, with_elements}
use Rattle.spv_show.proofs.Exports.{form_sized, length_sized, number_sized}

-- values that are read of types carry over
abbrev Carries : (ℕ → Reader) → (ℕ → Value → Type 0) → (ℕ → Value → Type 0) → Type 0
Carries read one other = (id : ℕ) (cs : List Cell) → one id (read id cs).0 → other id (read id cs).0

all_carried : (read : ℕ → Reader) (one other : ℕ → Value → Type 0) → Carries read one other → (part n : ℕ) (cs : List Cell) → All (one part) (read_parts read (replicate n part) cs).0 → All (other part) (read_parts read (replicate n part) cs).0
all_carried read one other carries part zero cs all = λ k d lt. absurd (omega (arith, lt))
all_carried read one other carries part (suc n) cs all =
    All-cons (other part) (read part cs).0 (read_parts read (replicate n part) (read part cs).1).0 (carries part cs (All-head (one part) (read part cs).0 (read_parts read (replicate n part) (read part cs).1).0 all))
    (all_carried read one other carries part n (read part cs).1 (All-tail (one part) (read part cs).0 (read_parts read (replicate n part) (read part cs).1).0 all))

members_carried : (read : ℕ → Reader) (one other : ℕ → Value → Type 0) → Carries read one other → (ms : List Member) (cs : List Cell) → AllZip (λ (m : Member). one m.ty) ms (read_parts read (map (λ (m : Member). m.ty) ms) cs).0
    → AllZip (λ (m : Member). other m.ty) ms (read_parts read (map (λ (m : Member). m.ty) ms) cs).0
members_carried read one other carries [] cs all = tt
members_carried read one other carries (m ∷ ms) cs all = (carries m.ty cs all.0, members_carried read one other carries ms (read m.ty cs).1 all.1)

-- the parts of a list
of_many : (vs : List Value) (P Q : List Value → Type 0) → (P vs → Q vs) → IsSomeAnd (parts_in (out-Value (Many vs))) P → IsSomeAnd (parts_in (out-Value (Many vs))) Q
of_many vs P Q more h =
    let e = ap parts_in (out_many vs) in
    subst (λ (o : Option (List Value)). IsSomeAnd o Q) (sym e) (more (subst (λ (o : Option (List Value)). IsSomeAnd o P) e h))

no_elements : (P : Value → Type 0) → IsSomeAnd (parts_in (out-Value (Many []))) (λ vs. (Some (length vs) ≡ Some 0) × All P vs)
no_elements P = subst (λ (o : Option (List Value)). IsSomeAnd o (λ vs. (Some (length vs) ≡ Some 0) × All P vs)) (sym (ap parts_in (out_many []))) (refl, λ k d lt. absurd (omega (arith, lt)))

step_carried : (ts us : Types) (read : ℕ → Reader) (one other : ℕ → Value → Type 0) (f : Form) (cs : List Cell) → Carries read one other → shape_step ts no_roots one f (read_step read f cs).0 → shape_step us no_roots other (sized 0 f) (read_step read f cs).0
step_carried ts us read one other Void cs carries h = h
step_carried ts us read one other Boolean cs carries h = h
step_carried ts us read one other (Int width sign) cs carries h = h
step_carried ts us read one other (Vector component count) cs carries h =
    of_many (read_parts read (replicate count component) cs).0 (λ vs. (length vs ≡ count) × All (one component) vs) (λ vs. (length vs ≡ count) × All (other component) vs) (λ has. (has.0, all_carried read one other carries component count cs has.1)) h
step_carried ts us read one other (Array element n stride) cs carries h =
    of_many (read_parts read (replicate (unwrap_or n 0) element) cs).0 (λ vs. (Some (length vs) ≡ n) × All (one element) vs) (λ vs. (Some (length vs) ≡ n) × All (other element) vs)
    (λ has. (has.0, all_carried read one other carries element (unwrap_or n 0) cs has.1)) h
step_carried ts us read one other (Runtime element stride) cs carries h = no_elements (other element)
step_carried ts us read one other (Struct members block) cs carries h =
    of_many (read_parts read (map (λ (m : Member). m.ty) members) cs).0 (λ vs. AllZip (λ (m : Member). one m.ty) members vs) (λ vs. AllZip (λ (m : Member). other m.ty) members vs) (members_carried read one other carries members cs) h
step_carried ts us read one other (Pointer class target) cs carries h = absurd (no_pointer ts (read_step read (Pointer class target) cs).0 target h)
step_carried ts us read one other (Function returns parameters) cs carries h = h

among_carried : (ts : Types) (m : ℕ) → Carries (read_among ts m) (HasShapeAmong ts no_roots m) (HasShapeAmong (with_elements 0 ts) no_roots m)
unfolding HasShapeAmong in_first read_among
among_carried ts zero id cs h = absurd h
among_carried ts (suc m) id cs h = rw (number_sized 0 ts id, form_sized 0 ts id) (here (λ other ds has. among_carried ts m other ds has) (holds m (number_of ts id)) (form_of ts id) h)
  where
    here : Carries (read_among ts m) (HasShapeAmong ts no_roots m) (HasShapeAmong (with_elements 0 ts) no_roots m) → (b : Bool) (o : Option Form)
        → MatchBool b (MatchOption o ⊥ (λ f. shape_step ts no_roots (HasShapeAmong ts no_roots m) f ((if b then option_map_or {U = Reader} (read_step (read_among ts m)) o read_none else read_among ts m id) cs).0))
        (HasShapeAmong ts no_roots m id ((if b then option_map_or {U = Reader} (read_step (read_among ts m)) o read_none else read_among ts m id) cs).0)
        → MatchBool b (MatchOption (option_map (sized 0) o) ⊥ (λ f. shape_step (with_elements 0 ts) no_roots (HasShapeAmong (with_elements 0 ts) no_roots m) f ((if b then option_map_or {U = Reader} (read_step (read_among ts m)) o read_none else read_among ts m id) cs).0))
        (HasShapeAmong (with_elements 0 ts) no_roots m id ((if b then option_map_or {U = Reader} (read_step (read_among ts m)) o read_none else read_among ts m id) cs).0)
    here below true None h = absurd h
    here below true (Some f) h = step_carried ts (with_elements 0 ts) (read_among ts m) (HasShapeAmong ts no_roots m) (HasShapeAmong (with_elements 0 ts) no_roots m) f cs below h
    here below false o h = below id cs h

pub tree_shape : (ts : Types) (id : ℕ) (cs : List Cell) → HasShape ts no_roots id (value_at ts id cs) → HasShape (with_elements 0 ts) no_roots id (value_at ts id cs)
unfolding HasShape value_at
tree_shape ts id cs h = rw (length_sized 0 ts) (among_carried ts (length ts) id cs h)
