-- A value has the shape of a type in one way at most.
use Rattle.std.proofs.Common.{ℕ, zero, suc, Bool, true, false, List, [], ◌∷◌, Option, Some, None, length}
use Rattle.std.proofs.Props.{props}
use Rattle.std.specs.Bool.{MatchBool}
use Rattle.std.specs.Option.{MatchOption}
use Rattle.std.specs.List.{All, AllZip}
use Rattle.spv_base.specs.declared.values.Pointer.{Pointer as Reference}
use Rattle.spv_base.specs.declared.values.Root.{Root}
use Rattle.spv_base.specs.declared.values.Value.{Value}
use Rattle.spv_base.specs.Options.{holds}
use Rattle.spv_types.specs.declared.forms.Form.{Form}
use Rattle.spv_types.specs.declared.forms.Form.TheVariants.{Void, Bool as Boolean, Int, Vector, Array, Runtime, Struct, Pointer, Function}
use Rattle.spv_types.specs.declared.forms.Member.{Member}
use Rattle.spv_types.specs.Types.{Types, form_of, number_of}
use Rattle.spv_types.specs.Shapes.{HasShape, HasShapeAmong, LeadsTo, shape_step}

-- each type has shapes in one way
abbrev AreProps : (ℕ → Value → Type 0) → Type 0
AreProps shape = (id : ℕ) (v : Value) → IsProp (shape id v)

all_prop : (P : Value → Type 0) → ((v : Value) → IsProp (P v)) → (vs : List Value) → IsProp (All P vs)
all_prop P each vs = hlevel each

members_prop : (shape : ℕ → Value → Type 0) → AreProps shape → (ms : List Member) (vs : List Value) → IsProp (AllZip (λ (m : Member). shape m.ty) ms vs)
members_prop shape each [] [] = hlevel props
members_prop shape each [] (v ∷ vs) = hlevel props
members_prop shape each (m ∷ ms) [] = hlevel props
members_prop shape each (m ∷ ms) (v ∷ vs) = hlevel (each, members_prop shape each ms vs)

leads_prop : (ts : Types) (roots : Root → Option ℕ) (p : Reference) (target : ℕ) → IsProp (LeadsTo ts roots p target)
leads_prop ts roots p target = hlevel props

step_prop : (ts : Types) (roots : Root → Option ℕ) (shape : ℕ → Value → Type 0) → AreProps shape → (f : Form) (v : Value) → IsProp (shape_step ts roots shape f v)
step_prop ts roots shape each Void v = hlevel props
step_prop ts roots shape each Boolean v = hlevel props
step_prop ts roots shape each (Int width sign) v = hlevel props
step_prop ts roots shape each (Vector component count) v = hlevel (props, all_prop (shape component) (each component))
step_prop ts roots shape each (Array element n stride) v = hlevel (props, all_prop (shape element) (each element))
step_prop ts roots shape each (Runtime element stride) v = hlevel (props, all_prop (shape element) (each element))
step_prop ts roots shape each (Struct members block) v = hlevel (props, members_prop shape each members)
step_prop ts roots shape each (Pointer class target) v = hlevel (props, leads_prop ts roots)
step_prop ts roots shape each (Function returns parameters) v = hlevel props

formed_prop : (ts : Types) (roots : Root → Option ℕ) (shape : ℕ → Value → Type 0) → AreProps shape → (o : Option Form) (v : Value) → IsProp (MatchOption o ⊥ (λ f. shape_step ts roots shape f v))
formed_prop ts roots shape each None v = hlevel props
formed_prop ts roots shape each (Some f) v = step_prop ts roots shape each f v

among_prop : (ts : Types) (roots : Root → Option ℕ) (n : ℕ) → AreProps (HasShapeAmong ts roots n)
unfolding HasShapeAmong
among_prop ts roots zero id v = hlevel props
among_prop ts roots (suc n) id v = here (among_prop ts roots n) (holds n (number_of ts id))
  where
    here : AreProps (HasShapeAmong ts roots n) → (b : Bool) → IsProp (MatchBool b (MatchOption (form_of ts id) ⊥ (λ f. shape_step ts roots (HasShapeAmong ts roots n) f v)) (HasShapeAmong ts roots n id v))
    here below true = formed_prop ts roots (HasShapeAmong ts roots n) below (form_of ts id) v
    here below false = below id v

pub shape_prop : (ts : Types) (roots : Root → Option ℕ) (id : ℕ) (v : Value) → IsProp (HasShape ts roots id v)
unfolding HasShape
shape_prop ts roots id v = among_prop ts roots (length ts) id v
