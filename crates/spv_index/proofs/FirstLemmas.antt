-- First numbers: under keys that no key is, and as what leads to an instruction.
use Rattle.std.proofs.Common.{◌≡◌, ℕ, suc, ◌-◌, ◌<◌, ◌≤◌, ◌==◌, Bool, List, [], ◌∷◌, length, get_or, map, Option, Some, None, slice_get, refl, sym, arith}
use Rattle.std.specs.Prelude.{find}
use Rattle.std.specs.Option.{option_and_then}
use Rattle.std.proofs.lemmas.Grind.{common_steps}
use Rattle.spv_base.specs.declared.instructions.Inst.{Inst}
use Rattle.spv_index.specs.Firsts.{first_from}
use Rattle.spv_index.specs.Definitions.{number_from}

pub no_first : (n : ℕ) (keys : List ℕ) (key : ℕ) → ((k : ℕ) → k < length keys → get_or keys k 0 ≡ key → ⊥) → first_from n keys key ≡ None
no_first n [] key none = refl
no_first n (k ∷ ks) key none =
    grind (arith, common_steps, none 0, no_first (suc n) ks key (λ j lt e. none (suc j) (omega arith) e))

-- a key that is above all that are kept is none of them
pub past_all : (keys : List ℕ) (above key : ℕ) → ((k : ℕ) → k < length keys → get_or keys k 0 < 1048576 → get_or keys k 0 < above) → key < 1048576 → above ≤ key
    → (k : ℕ) → k < length keys → get_or keys k 0 ≡ key → ⊥
past_all keys above key kept small past k lt e =
    let fits : get_or keys k 0 < 1048576 = rw e small in
    let under : get_or keys k 0 < above = kept k lt fits in
    omega arith

-- keys that instructions give, found among the instructions
pub first_from-map : (n : ℕ) (f : Inst → ℕ) (insts : List Inst) (key : ℕ) → first_from n (map f insts) key ≡ number_from n (λ i. f i == key) insts
first_from-map n f [] key = refl
first_from-map n f (i ∷ is) key = rw (first_from-map (suc n) f is key) refl

-- tests that agree find one number
pub number_from_same : (n : ℕ) (p q : Inst → Bool) (insts : List Inst) → ((i : Inst) → p i ≡ q i) → number_from n p insts ≡ number_from n q insts
number_from_same n p q [] same = refl
number_from_same n p q (i ∷ is) same = rw (same i, number_from_same (suc n) p q is same) refl

-- the number leads to the instruction
pub number_above : (k : ℕ) (p : Inst → Bool) (insts : List Inst) (n : ℕ) → number_from k p insts ≡ Some n → k ≤ n
number_above k p [] n e = absurd (cc)
number_above k p (i ∷ is) n e = grind (arith, number_above (suc k) p is n)

pub number_leads : (k : ℕ) (p : Inst → Bool) (insts : List Inst) (n : ℕ) → number_from k p insts ≡ Some n → slice_get insts (n - k) ≡ find p insts
number_leads k p [] n e = absurd (cc)
number_leads k p (i ∷ is) n e = grind (arith, common_steps, number_above (suc k) p is n, number_leads (suc k) p is n)

pub number_misses : (k : ℕ) (p : Inst → Bool) (insts : List Inst) → number_from k p insts ≡ None → find p insts ≡ None
number_misses k p [] e = refl
number_misses k p (i ∷ is) e = grind (arith, number_misses (suc k) p is)

-- where there is a number, the instruction with it is the first that passes; where there is none, there is none
pub led : (p : Inst → Bool) (insts : List Inst) (number : Option ℕ) → number ≡ number_from 0 p insts → option_and_then (slice_get insts) number ≡ find p insts
led p insts None e = sym (number_misses 0 p insts (sym e))
led p insts (Some n) e = let z : n - 0 ≡ n = omega arith in rw z at (number_leads 0 p insts n (sym e))
