-- The values of all operands of an instruction, read one after another.
use Rattle.std.proofs.Common.{◌≡◌, ◌∙◌, ◌⊎◌, inl, inr, ℕ, zero, suc, ◌+◌, ◌-◌, ◌<◌, List, [], ◌∷◌, ◌++◌, length, slice_get, append_assoc, Option, Some, None, refl, sym, ap, subst, arith}
use Rattle.std.specs.List.{range_with_len}
use Rattle.std.specs.Option.{option_and_then, option_map}
use Rattle.spv_base.specs.declared.values.Value.{Value}
use Rattle.spv_results.specs.Operands.{IsOperand}
use Rattle.spv_results.specs.Results.{all_of}
use Rattle.spv_sites.specs.Sites.{Site, accepted, values}

-- the values of the first n operands, each of the type of its operand; those of the others come behind them
pub record Gathers (x : Site) (vs : List Value) (n : ℕ) : Type 0 where
  pub many : length vs ≡ n
  pub rest : all_of (values x) (range_with_len 0 (length x.inst.operands)) ≡ option_map (λ (us : List Value). vs ++ us) (all_of (values x) (range_with_len n (length x.inst.operands - n)))
  pub shapes : (k : ℕ) (v : Value) → slice_get vs k ≡ Some v → IsOperand (accepted x) x.inst k v

-- the next operand, and those behind it
next_of : (x : Site) (n : ℕ) → n < length x.inst.operands
    → all_of (values x) (range_with_len n (length x.inst.operands - n)) ≡ option_and_then (λ (v : Value). option_map (λ (us : List Value). v ∷ us) (all_of (values x) (range_with_len (n + 1) (length x.inst.operands - (n + 1))))) (values x n)
next_of x n lt =
    let more : length x.inst.operands - n ≡ suc (length x.inst.operands - (n + 1)) = omega arith in
    ap (λ (k : ℕ). all_of (values x) (range_with_len n k)) more

moved : (vs : List Value) (v : Value) (o : Option (List Value)) → option_map (λ (us : List Value). vs ++ us) (option_map (λ (us : List Value). v ∷ us) o) ≡ option_map (λ (us : List Value). (vs ++ v ∷ []) ++ us) o
moved vs v None = refl
moved vs v (Some us) = ap (λ (ws : List Value). Some ws) (sym (append_assoc vs (v ∷ []) us))

pushed : (vs : List Value) (u : Value) (k : ℕ) (v : Value) → slice_get (vs ++ u ∷ []) k ≡ Some v → (slice_get vs k ≡ Some v) ⊎ ((k ≡ length vs) × (u ≡ v))
pushed [] u zero v h = let same : u ≡ v = cc in inr (refl, same)
pushed [] u (suc k) v h = absurd (cc)
pushed (w ∷ vs) u zero v h = inl h
pushed (w ∷ vs) u (suc k) v h = elim (pushed vs u k v h) [
  | inl old ↦ inl old
  | inr new ↦ inr (ap suc new.0, new.1)
]

longer : (vs : List Value) (v : Value) → length (vs ++ v ∷ []) ≡ length vs + 1
longer [] v = refl
longer (w ∷ vs) v = let rest = longer vs v in omega (arith, rest)

pub one_gathered : (x : Site) (vs : List Value) (n : ℕ) (v : Value) → n < length x.inst.operands → Gathers x vs n → values x n ≡ Some v → IsOperand (accepted x) x.inst n v → Gathers x (vs ++ v ∷ []) (n + 1)
one_gathered x vs n v lt so_far value shape = record {
  many = longer vs v ∙ ap (λ (k : ℕ). k + 1) so_far.many;
  rest =
      so_far.rest ∙ ap (option_map (λ (us : List Value). vs ++ us)) (next_of x n lt
      ∙ ap (option_and_then (λ (v : Value). option_map (λ (us : List Value). v ∷ us) (all_of (values x) (range_with_len (n + 1) (length x.inst.operands - (n + 1)))))) value)
      ∙ moved vs v (all_of (values x) (range_with_len (n + 1) (length x.inst.operands - (n + 1))));
  shapes = λ k u at. elim (pushed vs v k u at) [
    | inl old ↦ so_far.shapes k u old
    | inr new ↦
        let here : n ≡ k = sym (new.0 ∙ so_far.many) in
        subst (λ (w : Value). IsOperand (accepted x) x.inst k w) new.1 (subst (λ (j : ℕ). IsOperand (accepted x) x.inst j v) here shape)
  ];
}
