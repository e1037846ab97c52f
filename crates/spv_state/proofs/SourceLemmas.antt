-- What sources and names of variables stand for, and the table of predecoded instructions.
use Rattle.std.proofs.lemmas.List.{length-append}
use Rattle.std.proofs.Common.{◌≡◌, ◌∙◌, ◌==◌, ◌+◌, ◌⊎◌, inl, inr, if◌then◌else◌, ℕ, List, [], ◌∷◌, ◌++◌, Option, Some, None, IfSome, length, slice_get, refl, rules, sym, ap, subst}
use Rattle.std.specs.Option.{option_map}
use Rattle.spv_base.specs.Entries.{reads}
use Rattle.spv_base.specs.declared.instructions.Inst.{Inst}
use Rattle.spv_base.specs.declared.values.Root.{Root}
use Rattle.spv_base.specs.declared.values.Root.TheVariants as root
use Rattle.spv_base.specs.declared.values.Value.{Value}
use Rattle.spv_base.proofs.Exports.{snoc_get}
use Rattle.spv_valid.specs.Below.spv_consts.specs.Trees.{tree_of}
use Rattle.spv_frame.specs.Frames.{Held}
use Rattle.spv_frame.specs.Registers.{IsSlotOf, Planned, ids, number_of}
use Rattle.spv_index.specs.Definitions.{at, number_at, stands_at}
use Rattle.spv_index.proofs.Exports.{led}
use Rattle.spv_operands.specs.Values.{pointer_to, register_value, value_of}
use Rattle.spv_operands.proofs.Exports.{value_meant}
use Rattle.spv_plans.specs.Registered.{IsOfFunction}
use Rattle.spv_valid.specs.Acceptance.{Accepted}
use Rattle.spv_valid.specs.declared.meanings.Meaning.TheVariants as meaning
use Rattle.spv_state.specs.Predecoded.{ArePredecoded, IsPredecoded}
use Rattle.spv_state.specs.Sources.{IsName, IsSource, id_of, name_of, slot_of}
use Rattle.spv_state.specs.declared.predecoded.CellSlot.{CellSlot}
use Rattle.spv_state.specs.declared.predecoded.Predecoded.{Predecoded}
use Rattle.spv_state.specs.declared.predecoded.Source.{Source}
use Rattle.spv_state.specs.declared.predecoded.Source.TheVariants.{Register, Constant}
use Rattle.spv_state.specs.declared.predecoded.VariableName.{VariableName}
use Rattle.spv_state.specs.declared.predecoded.VariableName.TheVariants.{Module, Local}

-- ---- values

register_holds : (f : Held) (id n : ℕ) (v : Value) → number_of id (ids f.plan.values) ≡ Some n → reads id f.values ≡ Some (Some v) → register_value f id ≡ Some v
register_holds f id n v number read = rw (number, read) refl

register_value_of : (a : Accepted) (f : Held) (source : Source) (slot : CellSlot) (v : Value) → source ≡ Register slot → IsSource a f.plan.function source → IsOfFunction a f.plan
    → reads slot.id f.values ≡ Some (Some v) → (depth : ℕ) → value_of a f depth (id_of source) ≡ Some v
register_value_of a f source slot v is lies of_function read depth =
    let (own, meant) : IsSource a f.plan.function (Register slot) = subst (IsSource a f.plan.function) is lies in
    let lies_at : IsSlotOf f.plan.values (slot_of slot) = subst (λ (p : Planned). IsSlotOf p.values (slot_of slot)) (sym of_function.is) own in
    ap (λ (x : Source). value_of a f depth (id_of x)) is ∙ sym (value_meant a f depth slot.id (meaning.Register f.plan.function) meant) ∙ register_holds f slot.id slot.number v lies_at.named read

pub register_read : (a : Accepted) (f : Held) (source : Source) (slot : CellSlot) (o : Option Value) → source ≡ Register slot → IsSource a f.plan.function source → IsOfFunction a f.plan
    → reads slot.id f.values ≡ Some o → IfSome o (λ v. (depth : ℕ) → value_of a f depth (id_of source) ≡ Some v)
register_read a f source slot None is lies of_function read = tt
register_read a f source slot (Some v) is lies of_function read = register_value_of a f source slot v is lies of_function read

constant_value_of : (a : Accepted) (f : Held) (source : Source) (id : ℕ) (v : Value) → source ≡ Constant id → IsSource a f.plan.function source
    → Some v ≡ option_map (tree_of a.types) (reads id a.constants) → (depth : ℕ) → value_of a f depth (id_of source) ≡ Some v
constant_value_of a f source id v is meant read depth =
    let constant : IsSource a f.plan.function (Constant id) = subst (IsSource a f.plan.function) is meant in
    ap (λ (x : Source). value_of a f depth (id_of x)) is ∙ sym (value_meant a f depth id meaning.Constant constant) ∙ sym read

pub constant_read : (a : Accepted) (f : Held) (source : Source) (id : ℕ) (o : Option Value) → source ≡ Constant id → IsSource a f.plan.function source
    → o ≡ option_map (tree_of a.types) (reads id a.constants) → IfSome o (λ v. (depth : ℕ) → value_of a f depth (id_of source) ≡ Some v)
constant_read a f source id None is meant read = tt
constant_read a f source id (Some v) is meant read = constant_value_of a f source id v is meant read

-- ---- variables

pub variable_read : (a : Accepted) (f : Held) (depth : ℕ) (v : VariableName) (id : ℕ) (r : Root) → v ≡ Module id r → IsName a f.plan.function v
    → value_of a f depth (name_of v) ≡ Some (pointer_to r)
variable_read a f depth v id r is named =
    let (meant, root) : IsName a f.plan.function (Module id r) = subst (IsName a f.plan.function) is named in
    ap (λ (x : VariableName). value_of a f depth (name_of x)) is ∙ sym (value_meant a f depth id meaning.ModuleVariable meant) ∙ ap (λ (x : Root). Some (pointer_to x)) (sym root)

pub local_read : (a : Accepted) (f : Held) (depth : ℕ) (v : VariableName) (id : ℕ) → v ≡ Local id → IsName a f.plan.function v
    → value_of a f depth (name_of v) ≡ Some (pointer_to (root.Local depth id))
local_read a f depth v id is named =
    let meant : IsName a f.plan.function (Local id) = subst (IsName a f.plan.function) is named in
    ap (λ (x : VariableName). value_of a f depth (name_of x)) is ∙ sym (value_meant a f depth id (meaning.Variable f.plan.function) meant) ∙ own f.plan.function
  where
    own : (function : ℕ) → (if function == function then Some (pointer_to (root.Local depth id)) else None) ≡ Some (pointer_to (root.Local depth id))
    own function = search rules

-- ---- the table

number_stands : (insts : List Inst) (word n : ℕ) → Some n ≡ number_at insts word → slice_get insts n ≡ at insts word
unfolding number_at at
number_stands insts word n found = led (stands_at word) insts (Some n) found

pub predecoded_at : (a : Accepted) (ps : List (Option Predecoded)) (pc n : ℕ) (p : Predecoded) → ArePredecoded a ps → Some n ≡ number_at a.insts pc → slice_get ps n ≡ Some (Some p)
    → (d : Inst) → at a.insts pc ≡ Some d → ∥ IsPredecoded a d p ∥₁
predecoded_at a ps pc n p are found entry d stands = are n d p (number_stands a.insts pc n found ∙ stands) entry

-- some are predecoded, from the first on
pub record SoFar (a : Accepted) (ps : List (Option Predecoded)) (n : ℕ) : Type 0 where
  pub count : length ps ≡ n
  pub are : ArePredecoded a ps

pub one_more : (a : Accepted) (ps : List (Option Predecoded)) (n : ℕ) (i : Inst) (o : Option Predecoded) → SoFar a ps n → slice_get a.insts n ≡ Some i
    → IfSome o (IsPredecoded a i) → SoFar a (ps ++ o ∷ []) (n + 1)
one_more a ps n i o far stands is = record { count = long ps o ∙ ap (λ k. k + 1) far.count; are = λ k d p at_k entry. by k d p at_k (snoc_get ps o (Some p) k entry) }
  where
    long : {X : Type 0} (xs : List X) (x : X) → length (xs ++ x ∷ []) ≡ length xs + 1
    long xs x = length-append xs (x ∷ [])

    here : (o : Option Predecoded) (p : Predecoded) (d : Inst) → o ≡ Some p → i ≡ d → IfSome o (IsPredecoded a i) → IsPredecoded a d p
    here None p d same inst h = absurd (cc)
    here (Some q) p d same inst h = let is : q ≡ p = cc in subst (λ (x : Predecoded). IsPredecoded a d x) is (subst (λ (x : Inst). IsPredecoded a x q) inst h)

    by : (k : ℕ) (d : Inst) (p : Predecoded) → slice_get a.insts k ≡ Some d → (slice_get ps k ≡ Some (Some p)) ⊎ ((k ≡ length ps) × (Some p ≡ o)) → ∥ IsPredecoded a d p ∥₁
    by k d p at_k (inl before) = far.are k d p at_k before
    by k d p at_k (inr added) =
        let inst : Some i ≡ Some d = sym stands ∙ ap (λ (j : ℕ). slice_get a.insts j) (sym (added.0 ∙ far.count)) ∙ at_k in
        ∣ here o p d (sym added.1) (cc) is ∣₁
