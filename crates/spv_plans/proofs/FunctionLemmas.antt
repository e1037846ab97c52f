-- The functions of an accepted module: no two have one id, and each has an OpFunction behind which its instructions stand.
use Rattle.std.proofs.Common.{◌≡◌, ◌≢◌, ◌⊎◌, ◌∙◌, inl, inr, ℕ, zero, suc, ◌+◌, ◌==◌, Bool, true, false, cond, List, [], ◌∷◌, ◌++◌, Option, Some, None, drop, map, slice_get, refl, sym, ap, subst}
use Rattle.std.proofs.lemmas.Bool.{eqb-true}
use Rattle.std.proofs.Math.Logic.{∥∥₁_elim}
use Rattle.std.proofs.Props.{props}
use Rattle.std.specs.Coded.{codes}
use Rattle.std.specs.Prelude.{find, nat_le}
use Rattle.std.specs.List.{AllByRecursion, Contains, flat_map}
use Rattle.std.specs.Option.{is_some, option_map, option_map_or}
use Rattle.spv_base.specs.Entries.{reads}
use Rattle.spv_base.specs.Order.{AreDistinct}
use Rattle.spv_base.specs.declared.instructions.Inst.{Inst}
use Rattle.spv_index.specs.Classes.{sets_of}
use Rattle.spv_index.specs.Positions.{Stand, outside, stands_of}
use Rattle.spv_types.specs.Cells.{cells_of}
use Rattle.spv_valid.specs.Below.spv_cfg.specs.Calls.{function_of, functions_of}
use Rattle.spv_valid.specs.Below.spv_sections.specs.Ids.{is_result}
use Rattle.spv_valid.specs.Below.spv_sections.specs.Laws.{IsInOrder}
use Rattle.spv_valid.specs.Acceptance.{Accepted, IsAccepted, decoded_in}
use Rattle.spv_valid.specs.Validity.{IsValid}
use Rattle.spv_frame.specs.Functions.{numbered}
use Rattle.spv_frame.specs.Plans.{AreApart}
use Rattle.spv_frame.specs.Registers.{Planned, number_of}
use Rattle.spv_plans.specs.Members.{first_stop, is_stop, leading, members, stands_in}
use Rattle.spv_plans.specs.Plans.{IsPlan, functions_in, plan_of, plans_in}
use Rattle.spv_plans.specs.Registers.{AreCounted, has_cells, is_counted, is_register}
use Rattle.spv_plans.proofs.ApartLemmas.{NoneTwice, found_apart, insts_of_stands}
use Rattle.spv_plans.proofs.ComesLemmas.{chosen}
use Rattle.spv_plans.proofs.NumberLemmas.{contains_at, leading_at, number_gets}
use Rattle.spv_plans.proofs.PlacedLemmas.{numbers_are}
use Rattle.spv_plans.proofs.PlanLemmas.{Facts, each_inst, facts, function_named}
use Rattle.spv_plans.proofs.PlanOfLemmas.{function_is, has, plan_at, plan_from}
use Rattle.spv_plans.proofs.ReadLemmas.{function_ids}
use Rattle.spv_base.proofs.Exports.{each_weaker}

-- ---- no two functions have one id

others_differ : (id : ℕ) (insts : List Inst) → AllByRecursion (λ (i : Inst). i.id ≢ id) insts → AllByRecursion (λ (k : ℕ). k ≢ id) (function_ids insts)
others_differ id [] h = tt
others_differ id (i ∷ is) h = by_op (i.op == 54) (others_differ id is h.1)
  where
    by_op : (b : Bool) → AllByRecursion (λ (k : ℕ). k ≢ id) (function_ids is) → AllByRecursion (λ (k : ℕ). k ≢ id) (map (λ (f : ℕ × ℕ). f.0) (cond b ((i.id, i.word) ∷ []) [] ++ flat_map function_of is))
    by_op true rest = (h.0, rest)
    by_op false rest = rest

none_twice : (a : Accepted) (insts : List Inst) → AreDistinct insts → AllByRecursion (λ (i : Inst). is_result (decoded_in a) i ≡ true) insts → NoneTwice (function_ids insts)
none_twice a [] distinct results = tt
none_twice a (i ∷ is) distinct results = by_op (i.op == 54) refl distinct.0 (none_twice a is distinct.1 results.1)
  where
    by_op : (b : Bool) → (i.op == 54) ≡ b → (i.id ≡ 0) ⊎ AllByRecursion (λ (later : Inst). later.id ≢ i.id) is → NoneTwice (function_ids is)
        → NoneTwice (map (λ (f : ℕ × ℕ). f.0) (cond b ((i.id, i.word) ∷ []) [] ++ flat_map function_of is))
    by_op true e (inl none) rest = absurd (function_named (decoded_in a) i results.0 (eqb-true i.op 54 e) none)
    by_op true e (inr apart) rest = (others_differ i.id is apart, rest)
    by_op false e others rest = rest

results_are : (a : Accepted) → IsValid a → AllByRecursion (λ (i : Inst). is_result (decoded_in a) i ≡ true) a.insts
results_are a v =
    subst (AllByRecursion (λ (i : Inst). is_result (decoded_in a) i ≡ true)) (insts_of_stands (sets_of a.insts) outside a.insts)
    (each_inst (λ (i : Inst). is_result (decoded_in a) i ≡ true) (stands_of a.insts)
    (each_weaker (IsInOrder (decoded_in a)) (λ (s : Stand). is_result (decoded_in a) s.inst ≡ true) (λ s order. order.result) (stands_of a.insts) v.ids))

-- ---- the functions of plans

functions_of_plans : (a : Accepted) (fs : List (ℕ × ℕ)) → map (λ (p : Planned). p.function) (map (λ (f : ℕ × ℕ). plan_of a f.0) fs) ≡ map (λ (f : ℕ × ℕ). f.0) fs
functions_of_plans a [] = refl
functions_of_plans a (f ∷ fs) = ap (λ (k : ℕ). k ∷ map (λ (p : Planned). p.function) (map (λ (g : ℕ × ℕ). plan_of a g.0) fs)) (function_is a f.0) ∙ ap (λ (ks : List ℕ). f.0 ∷ ks) (functions_of_plans a fs)

functions_are : (a : Accepted) → map (λ (p : Planned). p.function) (plans_in a) ≡ functions_in a
functions_are a = functions_of_plans a (functions_of a.insts)

module _ (valid : (a : Accepted) → IsAccepted a → IsValid a) (a : Accepted) (accepted : ∥ IsAccepted a ∥₁) where
  pub functions_apart : AreApart (functions_in a)
  functions_apart =
      ∥∥₁_elim accepted (hlevel (props, codes)) (λ (is : IsAccepted a).
      let v : IsValid a = valid a is in
      found_apart (functions_in a) (none_twice a a.insts v.named.distinct (results_are a v)))

  pub plan_numbered : (k : ℕ) (p : Planned) → slice_get (plans_in a) k ≡ Some p → reads p.function (numbered 0 (plans_in a)) ≡ Some k
  plan_numbered k p h =
      numbers_are p.function (plans_in a) ∙ ap (number_of p.function) (functions_are a) ∙ functions_apart k p.function (plan_from a k p h).at

pub plan_found : (a : Accepted) (function k : ℕ) → reads function (numbered 0 (plans_in a)) ≡ Some k → slice_get (plans_in a) k ≡ Some (plan_of a function)
plan_found a function k h =
    let number : number_of function (functions_in a) ≡ Some k = ap (number_of function) (sym (functions_are a)) ∙ sym (numbers_are function (plans_in a)) ∙ h in
    plan_at a k function (number_gets function (functions_in a) k number)

-- ---- the OpFunction of a function

pub record Begun (insts : List Inst) (function : ℕ) : Type 0 where
  pub number : ℕ
  pub inst : Inst
  pub at : slice_get insts number ≡ Some inst
  pub op : inst.op ≡ 54
  pub is : inst.id ≡ function

pub begun : (insts : List Inst) (k function : ℕ) → slice_get (function_ids insts) k ≡ Some function → Begun insts function
begun [] k function h = absurd (cc)
begun (i ∷ is) k function h = by_op (i.op == 54) refl k h (λ m. begun is m function)
  where
    later : Begun is function → Begun (i ∷ is) function
    later b = record { number = suc b.number; inst = b.inst; at = b.at; op = b.op; is = b.is }

    by_op : (b : Bool) → (i.op == 54) ≡ b → (m : ℕ) → slice_get (map (λ (f : ℕ × ℕ). f.0) (cond b ((i.id, i.word) ∷ []) [] ++ flat_map function_of is)) m ≡ Some function
        → ((j : ℕ) → slice_get (function_ids is) j ≡ Some function → Begun is function) → Begun (i ∷ is) function
    by_op true e zero g rest = let same : i.id ≡ function = cc in record { number = 0; inst = i; at = refl; op = eqb-true i.op 54 e; is = same }
    by_op true e (suc m) g rest = later (rest m g)
    by_op false e m g rest = later (rest m g)

-- a function has an instruction at which a run stops
pub first_there : (a : Accepted) → IsAccepted a → IsValid a → (k function : ℕ) → slice_get (functions_in a) k ≡ Some function → is_some (first_stop (members a.insts function)) ≡ true
first_there a is v k function at =
    let b = begun a.insts k function at in
    let f : Facts a b.number b.inst = facts a is v b.number b.inst b.at b.op in
    let there : is_some (first_stop (members a.insts b.inst.id)) ≡ true = ap is_some f.first ∙ word_there (find is_stop (drop (b.number + 1) (stands_of a.insts))) f.stops in
    subst (λ (id : ℕ). is_some (first_stop (members a.insts id)) ≡ true) b.is there
  where
    word_there : (o : Option Stand) → is_some o ≡ true → is_some (option_map (λ (s : Stand). s.inst.word) o) ≡ true
    word_there None h = h
    word_there (Some s) h = refl

-- the types of its registers have numbers of cells
known_cells : (o : Option ℕ) → option_map_or (λ n. nat_le n 4194304) o false ≡ true → is_some o ≡ true
known_cells None h = absurd (cc)
known_cells (Some n) h = refl

pub cells_there : ((b : Accepted) (m : ℕ) → IsAccepted b → option_map (λ (i : Inst). i.op) (slice_get b.insts m) ≡ Some 54 → AreCounted b.types (drop (m + 1) (stands_of b.insts)))
    → (a : Accepted) → IsAccepted a → IsValid a → (k function : ℕ) → slice_get (functions_in a) k ≡ Some function
    → (j : ℕ) (s : Stand) → slice_get (members a.insts function) j ≡ Some s → is_register a.types s.inst ≡ true → is_some (cells_of a.types s.inst.ty) ≡ true
cells_there law a is v k function at j s among register =
    let b = begun a.insts k function at in
    let f : Facts a b.number b.inst = facts a is v b.number b.inst b.at b.op in
    let within : members a.insts function ≡ leading (stands_in b.inst.id) (drop (b.number + 1) (stands_of a.insts)) = ap (members a.insts) (sym b.is) ∙ f.within in
    let behind : slice_get (drop (b.number + 1) (stands_of a.insts)) j ≡ Some s
    = leading_at (stands_in b.inst.id) (drop (b.number + 1) (stands_of a.insts)) j s (sym (ap (λ (ss : List Stand). slice_get ss j) within) ∙ among) in
    let op : option_map (λ (i : Inst). i.op) (slice_get a.insts b.number) ≡ Some 54 = ap (option_map (λ (i : Inst). i.op)) b.at ∙ ap Some b.op in
    let counted : is_counted a.types s.inst.ty ≡ true = law a b.number is op j s behind register in
    known_cells (cells_of a.types s.inst.ty) counted

pub cells_in : ((b : Accepted) (m : ℕ) → IsAccepted b → option_map (λ (i : Inst). i.op) (slice_get b.insts m) ≡ Some 54 → AreCounted b.types (drop (m + 1) (stands_of b.insts)))
    → ((b : Accepted) → IsAccepted b → IsValid b) → (a : Accepted) → IsAccepted a → (function : ℕ) → Contains (functions_in a) function
    → (j : ℕ) (s : Stand) → slice_get (members a.insts function) j ≡ Some s → is_register a.types s.inst ≡ true → is_some (cells_of a.types s.inst.ty) ≡ true
cells_in law valid a is function has = let k = contains_at (functions_in a) function has in cells_there law a is (valid a is) k.0 function k.1

-- so the plan of a function is one
plan_here : ((b : Accepted) (m : ℕ) → IsAccepted b → option_map (λ (i : Inst). i.op) (slice_get b.insts m) ≡ Some 54 → AreCounted b.types (drop (m + 1) (stands_of b.insts)))
    → (a : Accepted) → IsAccepted a → IsValid a → (k function : ℕ) → slice_get (functions_in a) k ≡ Some function → IsPlan a (plan_of a function)
plan_here law a is v k function at =
    has a function (first_there a is v k function at)
    (λ n i among.
    let c = chosen a.types (has_cells a.types) (members a.insts function) n i among in
    subst (λ (j : Inst). is_some (cells_of a.types j.ty) ≡ true) c.is (cells_there law a is v k function at c.number c.stand c.at c.register))

pub plan_is : ((b : Accepted) (m : ℕ) → IsAccepted b → option_map (λ (i : Inst). i.op) (slice_get b.insts m) ≡ Some 54 → AreCounted b.types (drop (m + 1) (stands_of b.insts)))
    → ((b : Accepted) → IsAccepted b → IsValid b) → (a : Accepted) → ∥ IsAccepted a ∥₁ → (function : ℕ) → Contains (functions_in a) function → IsPlan a (plan_of a function)
plan_is law valid a accepted function among =
    let k = contains_at (functions_in a) function among in
    ∥∥₁_elim accepted (hlevel (props, codes)) (λ (is : IsAccepted a). plan_here law a is (valid a is) k.0 function k.1)
