-- Which opcodes compute what, and that each keeps a rule of bodies by its opcode and ends no block.
use Rattle.std.proofs.Common.{◌≡◌, ◌⊎◌, inl, inr, ℕ, Bool, true, false, cond, List, [], ◌∷◌, Option, Some, None, refl, subst}
use Rattle.std.specs.Prelude.{◌==◌}
use Rattle.std.specs.List.{AllByRecursion, list_all}
use Rattle.std.specs.Option.{option_and_then, option_map, option_or}
use Rattle.std.proofs.lemmas.Bool.{and_parts, eqb-true}
use Rattle.spv_base.proofs.Exports.{mapped_from, reads_each}
use Rattle.spv_base.specs.Entries.{reads}
use Rattle.spv_base.specs.declared.instructions.Inst.{Inst}
use Rattle.spv_state.specs.Below.spv_alu.specs.Binary.{binary_op}
use Rattle.spv_state.specs.Below.spv_alu.specs.Extended.{extended_op}
use Rattle.spv_state.specs.Below.spv_alu.specs.Fields.{field_op}
use Rattle.spv_state.specs.Below.spv_alu.specs.Glsl.{glsl_op}
use Rattle.spv_state.specs.Below.spv_alu.specs.Unary.{unary_op}
use Rattle.spv_state.specs.Below.spv_alu.specs.Vectors.{vector_op}
use Rattle.spv_index.specs.Operands.{literal_operand}
use Rattle.spv_state.specs.Below.spv_results.specs.Computations.{by_opcode, computation_of, others}
use Rattle.spv_state.specs.Below.spv_results.specs.declared.computations.Computation.{Computation}
use Rattle.spv_state.specs.Below.spv_results.specs.declared.computations.Computation.TheVariants.{Undef, Unary, Bitcast, Truth, Binary, Field, Extended, Select, Glsl, ExtractDynamic, InsertDynamic, Shuffle, Construct, Extract, Insert, Copy}

-- ---- tables

-- a test that each key of a table passes is passed by a key that has an entry
pub key_passes : {A : Type 0} (test : ℕ → Bool) (k : ℕ) (x : A) (es : List (ℕ × A)) → list_all (λ (e : ℕ × A). test e.0) es ≡ true → reads k es ≡ Some x → test k ≡ true
key_passes test k x [] all h = absurd (cc)
key_passes {A} test k x (e ∷ es) all h =
    let parts = and_parts (test e.0) (list_all (λ (e : ℕ × A). test e.0) es) all in
    by_key (e.0 == k) refl (key_passes test k x es parts.1) parts.0 h
  where
    by_key : (b : Bool) → (e.0 == k) ≡ b → (reads k es ≡ Some x → test k ≡ true) → test e.0 ≡ true → cond b (Some e.1) (reads k es) ≡ Some x → test k ≡ true
    by_key true is later own h = subst (λ (n : ℕ). test n ≡ true) (eqb-true e.0 k is) own
    by_key false is later own h = later h

-- ---- what computes

-- the instruction of a computation, by the table of its opcode
abbrev pub IsComputed : Inst → Computation → Type 0
IsComputed i Undef = i.op ≡ 1
IsComputed i (Unary operation) = unary_op i.op ≡ Some operation
IsComputed i Bitcast = i.op ≡ 124
IsComputed i (Truth operation) = vector_op i.op ≡ Some operation
IsComputed i (Binary operation) = binary_op i.op ≡ Some operation
IsComputed i (Field operation) = field_op i.op ≡ Some operation
IsComputed i (Extended operation) = extended_op i.op ≡ Some operation
IsComputed i Select = i.op ≡ 169
IsComputed i (Glsl operation) = (i.op ≡ 12) × (option_and_then glsl_op (literal_operand i 1) ≡ Some operation)
IsComputed i ExtractDynamic = i.op ≡ 77
IsComputed i InsertDynamic = i.op ≡ 78
IsComputed i Shuffle = i.op ≡ 79
IsComputed i Construct = i.op ≡ 80
IsComputed i Extract = i.op ≡ 81
IsComputed i Insert = i.op ≡ 82
IsComputed i Copy = (i.op ≡ 83) ⊎ (i.op ≡ 400)

-- an opcode that no table of lanes has
abbrev IsOther : ℕ → Computation → Type 0
IsOther op Undef = op ≡ 1
IsOther op Bitcast = op ≡ 124
IsOther op Select = op ≡ 169
IsOther op ExtractDynamic = op ≡ 77
IsOther op InsertDynamic = op ≡ 78
IsOther op Shuffle = op ≡ 79
IsOther op Construct = op ≡ 80
IsOther op Extract = op ≡ 81
IsOther op Insert = op ≡ 82
IsOther op Copy = (op ≡ 83) ⊎ (op ≡ 400)
IsOther op (Unary operation) = ⊥
IsOther op (Truth operation) = ⊥
IsOther op (Binary operation) = ⊥
IsOther op (Field operation) = ⊥
IsOther op (Extended operation) = ⊥
IsOther op (Glsl operation) = ⊥

others_are : AllByRecursion (λ (e : ℕ × Computation). IsOther e.0 e.1) others
others_are = (refl, (refl, (refl, (refl, (refl, (refl, (refl, (inl refl, (refl, (refl, (inr refl, tt)))))))))))

other_computed : (i : Inst) (c : Computation) → IsOther i.op c → IsComputed i c
other_computed i Undef h = h
other_computed i Bitcast h = h
other_computed i Select h = h
other_computed i ExtractDynamic h = h
other_computed i InsertDynamic h = h
other_computed i Shuffle h = h
other_computed i Construct h = h
other_computed i Extract h = h
other_computed i Insert h = h
other_computed i Copy h = h
other_computed i (Unary operation) h = absurd h
other_computed i (Truth operation) h = absurd h
other_computed i (Binary operation) h = absurd h
other_computed i (Field operation) h = absurd h
other_computed i (Extended operation) h = absurd h
other_computed i (Glsl operation) h = absurd h

or_cases : {A : Type 0} (o p : Option A) (x : A) → option_or o p ≡ Some x → (o ≡ Some x) ⊎ (p ≡ Some x)
or_cases None p x h = inr h
or_cases (Some y) p x h = inl h

module _ (i : Inst) (c : Computation) where
  by_table : {A : Type 0} (f : A → Computation) (o : Option A) → ((x : A) → o ≡ Some x → IsComputed i (f x)) → option_map f o ≡ Some c → IsComputed i c
  by_table f o each h = let found = mapped_from f o c h in subst (IsComputed i) found.2 (each found.0 found.1)

  by_code : by_opcode i.op ≡ Some c → IsComputed i c
  by_code h = elim (or_cases (reads i.op others) _ c h) [
    | inl other ↦ other_computed i c (reads_each IsOther i.op c others others_are other)
    | inr h1 ↦ elim (or_cases (option_map Unary (unary_op i.op)) _ c h1) [
      | inl unary ↦ by_table Unary (unary_op i.op) (λ x is. is) unary
      | inr h2 ↦ elim (or_cases (option_map Binary (binary_op i.op)) _ c h2) [
        | inl binary ↦ by_table Binary (binary_op i.op) (λ x is. is) binary
        | inr h3 ↦ elim (or_cases (option_map Field (field_op i.op)) _ c h3) [
          | inl field ↦ by_table Field (field_op i.op) (λ x is. is) field
          | inr h4 ↦ elim (or_cases (option_map Extended (extended_op i.op)) _ c h4) [
            | inl extended ↦ by_table Extended (extended_op i.op) (λ x is. is) extended
            | inr truth ↦ by_table Truth (vector_op i.op) (λ x is. is) truth
          ]
        ]
      ]
    ]
  ]

  pub computed : computation_of i ≡ Some c → IsComputed i c
  unfolding computation_of
  computed h = by_set (i.op == 12) refl h
    where
      by_set : (b : Bool) → (i.op == 12) ≡ b → cond b (option_map Glsl (option_and_then glsl_op (literal_operand i 1))) (by_opcode i.op) ≡ Some c → IsComputed i c
      by_set true is h = by_table Glsl (option_and_then glsl_op (literal_operand i 1)) (λ x found. (eqb-true i.op 12 is, found)) h
      by_set false is h = by_code h
