-- Lists of breaches in the order of the module: the first one is the least.
use Rattle.std.proofs.Common.{◌≡◌, ◌==◌, ◌<◌, ◌≤◌, inl, inr, ℕ, zero, suc, Bool, true, false, cond, List, [], ◌∷◌, ◌++◌, length, drop, refl, sym, subst, arith}
use Rattle.std.specs.List.{flat_map}
use Rattle.spv_base.specs.declared.causes.Refusal.{Refusal}
use Rattle.spv_base.specs.declared.instructions.Inst.{Inst}
use Rattle.spv_types.specs.Types.{Types}
use Rattle.spv_types.specs.Rules.{keeps_rules}
use Rattle.spv_types.specs.Typing.{types_in}
use Rattle.spv_types.specs.Build.{type_breaches, type_code}
use Rattle.spv_types.specs.InterfaceBlocks.{breach as layout_breach, keeps_layout, module_breaches}
use Rattle.spv_ops.specs.declared.op.TheConstants.{FUNCTION}
use Rattle.spv_index.specs.declared.positions.Position.{Position}
use Rattle.spv_index.specs.declared.classes.Class.{Class}
use Rattle.spv_index.specs.Classes.{class_of}
use Rattle.spv_index.specs.Positions.{Stand, position_after, stands}
use Rattle.spv_sections.specs.Sections.{may_stand, order_breach, order_breaches_behind}
use Rattle.spv_sections.specs.declared.ids.Scope.{Scope}
use Rattle.spv_ops.specs.Module.{Decoded}
use Rattle.spv_sections.specs.Ids.{breaches_at, breaches_of, is_naming, is_numbered, naming_breach, number_breach, scope_of}
use Rattle.spv_sections.specs.Capabilities.{capability_breach, capability_code, is_here}
use Rattle.spv_index.specs.Definitions.{before_functions}
use Rattle.spv_bodies.specs.Context.{Known}
use Rattle.spv_bodies.specs.declared.within.Within.{Within}
use Rattle.spv_bodies.specs.Bodies.{body_breaches, breach as body_breach, keeps_body}
use Rattle.spv_bodies.specs.Places.{nowhere, place, placed, placed_from, within_after}
use Rattle.spv_consts.specs.Context.{Context}
use Rattle.spv_consts.specs.State.{State}
use Rattle.spv_consts.specs.Rules.{keeps_rules as keeps_constant}
use Rattle.spv_consts.specs.Steps.{breaches_at as constant_breaches_at, breaches_from, breaks_limit, after_one}
use Rattle.spv_base.specs.Order.{Ascend}
use Rattle.spv_valid.specs.Breaches.{IsBefore, layout_breaches}

-- ---- such lists

-- breaches at or behind a word, at a word, and none of them before another breach
abbrev Above : ℕ → List Refusal → Type 0
Above w [] = Unit {0}
Above w (r ∷ rs) = (w ≤ r.word) × Above w rs

abbrev At : ℕ → List Refusal → Type 0
At w [] = Unit {0}
At w (r ∷ rs) = (r.word ≡ w) × At w rs

abbrev pub Behind : Refusal → List Refusal → Type 0
Behind r [] = Unit {0}
Behind r (s ∷ ss) = IsBefore r s × Behind r ss

-- the first one is the least
abbrev pub Led : List Refusal → Type 0
Led [] = Unit {0}
Led (r ∷ rs) = Behind r rs

pub record InOrder (from : ℕ) (rs : List Refusal) : Type 0 where
  pub above : Above from rs
  pub led : Led rs

Above-weaker : (v w : ℕ) (rs : List Refusal) → v ≤ w → Above w rs → Above v rs
Above-weaker v w [] le above = tt
Above-weaker v w (r ∷ rs) le (first, rest) = let here : v ≤ r.word = omega arith in (here, Above-weaker v w rs le rest)

Above-at : (v w : ℕ) (here rest : List Refusal) → v ≤ w → At w here → Above (suc w) rest → Above v (here ++ rest)
Above-at v w [] rest le at above = let lower : v ≤ suc w = omega arith in Above-weaker v (suc w) rest lower above
Above-at v w (r ∷ rs) rest le (same, more) above = let here : v ≤ r.word = omega arith in (here, Above-at v w rs rest le more above)

Behind-above : (r : Refusal) (rs : List Refusal) → Above (suc r.word) rs → Behind r rs
Behind-above r [] above = tt
Behind-above r (s ∷ ss) (first, rest) = let lt : r.word < s.word = omega arith in (inl lt, Behind-above r ss rest)

Behind-append : (r : Refusal) (rs ss : List Refusal) → Behind r rs → Behind r ss → Behind r (rs ++ ss)
Behind-append r [] ss front back = back
Behind-append r (s ∷ rs) ss (first, rest) back = (first, Behind-append r rs ss rest back)

pub none_in_order : (from : ℕ) → InOrder from []
none_in_order from = record { above = tt; led = tt }

-- the breaches of one instruction, and those of the ones behind it
joined_in_order : (from w : ℕ) (here rest : List Refusal) → from ≤ w → At w here → Led here → InOrder (suc w) rest → InOrder from (here ++ rest)
joined_in_order from w [] rest le at led behind = record { above = Above-at from w [] rest le tt behind.above; led = behind.led }
joined_in_order from w (r ∷ rs) rest le (same, more) led behind = record {
  above = Above-at from w (r ∷ rs) rest le (same, more) behind.above;
  led = Behind-append r rs rest led (Behind-above r rest (subst (λ (x : ℕ). Above (suc x) rest) (sym same) behind.above));
}

one_in_order : (from : ℕ) (b : Bool) (r : Refusal) (rest : List Refusal) → from ≤ r.word → InOrder (suc r.word) rest → InOrder from (cond b [] (r ∷ []) ++ rest)
one_in_order from true r rest le behind = joined_in_order from r.word [] rest le tt tt behind
one_in_order from false r rest le behind = joined_in_order from r.word (r ∷ []) rest le (refl, tt) tt behind

-- ---- words that ascend

Ascend-weaker : (v w : ℕ) (insts : List Inst) → v ≤ w → Ascend w insts → Ascend v insts
Ascend-weaker v w [] le ascend = tt
Ascend-weaker v w (i ∷ is) le (first, rest) = let here : v ≤ i.word = omega arith in (here, rest)

Ascend-drop : (n from : ℕ) (insts : List Inst) → Ascend from insts → Ascend from (drop n insts)
Ascend-drop zero from insts ascend = ascend
Ascend-drop (suc n) from [] ascend = tt
Ascend-drop (suc n) from (i ∷ is) (first, rest) = let lower : from ≤ suc i.word = omega arith in Ascend-weaker from (suc i.word) (drop n is) lower (Ascend-drop n (suc i.word) is rest)

Ascend-before : (from : ℕ) (insts : List Inst) → Ascend from insts → Ascend from (before_functions insts)
unfolding before_functions
Ascend-before from [] ascend = tt
Ascend-before from (i ∷ is) (first, rest) =
    elim (i.op == FUNCTION) as (λ b. Ascend from (cond b [] (i ∷ before_functions is))) [ true ↦ tt | false ↦ (first, Ascend-before (suc i.word) is rest) ]

-- ---- the passes

pub order_in_order : (sets : List (ℕ × Bool)) (before : List Stand) (position : Position) (from : ℕ) (insts : List Inst) → Ascend from insts
    → InOrder from (order_breaches_behind before (stands sets position insts))
unfolding order_breaches_behind
order_in_order sets before position from [] ascend = none_in_order from
order_in_order sets before position from (i ∷ is) (first, rest) =
    let s : Stand = record { position = position; class = class_of sets i; inst = i } in
    one_in_order from (may_stand before s) (order_breach i) _ first (order_in_order sets (before ++ s ∷ []) (position_after position (class_of sets i) i) (suc i.word) is rest)

at_in_order : (ids : Decoded) (scope : Scope) (class : Class) (i : Inst) (from : ℕ) (rest : List Refusal) → from ≤ i.word → InOrder (suc i.word) rest
    → InOrder from (breaches_at ids scope class i ++ rest)
unfolding breaches_at
at_in_order ids scope class i from rest le behind = by_tests (is_numbered ids class i) (is_naming ids scope class i)
  where
    by_tests : (a b : Bool) → InOrder from ((cond a [] (number_breach i ∷ []) ++ cond b [] (naming_breach i ∷ [])) ++ rest)
    by_tests true true = joined_in_order from i.word [] rest le tt tt behind
    by_tests true false = joined_in_order from i.word (naming_breach i ∷ []) rest le (refl, tt) tt behind
    by_tests false true = joined_in_order from i.word (number_breach i ∷ []) rest le (refl, tt) tt behind
    by_tests false false = let codes : 8 ≤ 9 = omega arith in joined_in_order from i.word (number_breach i ∷ naming_breach i ∷ []) rest le (refl, (refl, tt)) (inr (refl, codes), tt) behind

pub ids_in_order : (ids : Decoded) (sets : List (ℕ × Bool)) (position : Position) (from : ℕ) (insts : List Inst) → Ascend from insts
    → InOrder from (flat_map (breaches_of ids) (stands sets position insts))
ids_in_order ids sets position from [] ascend = none_in_order from
ids_in_order ids sets position from (i ∷ is) (first, rest) =
    at_in_order ids (scope_of position i) (class_of sets i) i from _ first (ids_in_order ids sets (position_after position (class_of sets i) i) (suc i.word) is rest)

pub capabilities_in_order : (pointers : Bool) (from : ℕ) (insts : List Inst) → Ascend from insts → InOrder from (flat_map (capability_breach pointers) insts)
capabilities_in_order pointers from [] ascend = none_in_order from
capabilities_in_order pointers from (i ∷ is) (first, rest) =
    one_in_order from (is_here pointers i) (record { code = capability_code; word = i.word }) _ first (capabilities_in_order pointers (suc i.word) is rest)

types_in_order_from : (all before : List Inst) (from : ℕ) (insts : List Inst) → Ascend from insts → InOrder from (type_breaches all before insts)
unfolding type_breaches
types_in_order_from all before from [] ascend = none_in_order from
types_in_order_from all before from (i ∷ is) (first, rest) =
    one_in_order from (keeps_rules all (types_in all before) i) (record { code = type_code; word = i.word }) _ first (types_in_order_from all (before ++ i ∷ []) (suc i.word) is rest)

pub types_in_order : (from : ℕ) (insts : List Inst) → Ascend from insts → InOrder from (type_breaches insts [] (before_functions insts))
types_in_order from insts ascend = types_in_order_from insts [] from (before_functions insts) (Ascend-before from insts ascend)

constants_in_order_from : (m : Context) (s : State) (from : ℕ) (insts : List Inst) → Ascend from insts → InOrder from (breaches_from m s insts)
unfolding breaches_from constant_breaches_at
constants_in_order_from m s from [] ascend = none_in_order from
constants_in_order_from m s from (i ∷ is) (first, rest) = here (keeps_constant m s i) (breaks_limit m s i) (constants_in_order_from m (after_one m s i) (suc i.word) is rest)
  where
    rule : Refusal
    rule = record { code = 14; word = i.word }

    limit : Refusal
    limit = record { code = 18; word = i.word }

    here : (b c : Bool) → InOrder (suc i.word) (breaches_from m (after_one m s i) is)
        → InOrder from ((cond b [] (rule ∷ []) ++ cond c (limit ∷ []) []) ++ breaches_from m (after_one m s i) is)
    here true true behind = joined_in_order from i.word (limit ∷ []) _ first (refl, tt) tt behind
    here true false behind = joined_in_order from i.word [] _ first tt tt behind
    here false true behind = let codes : 14 ≤ 18 = omega arith in joined_in_order from i.word (rule ∷ limit ∷ []) _ first (refl, (refl, tt)) (inr (refl, codes), tt) behind
    here false false behind = joined_in_order from i.word (rule ∷ []) _ first (refl, tt) tt behind

pub constants_in_order : (m : Context) (s : State) (from : ℕ) (insts : List Inst) → Ascend from insts → InOrder from (breaches_from m s (before_functions insts))
constants_in_order m s from insts ascend = constants_in_order_from m s from (before_functions insts) (Ascend-before from insts ascend)

layout_in_order_from : (all : List Inst) (ts : Types) (before : List Inst) (from : ℕ) (insts : List Inst) → Ascend from insts → InOrder from (module_breaches all ts before insts)
unfolding module_breaches
layout_in_order_from all ts before from [] ascend = none_in_order from
layout_in_order_from all ts before from (i ∷ is) (first, rest) =
    one_in_order from (keeps_layout all ts before i) (layout_breach i) _ first (layout_in_order_from all ts (before ++ i ∷ []) (suc i.word) is rest)

pub layout_in_order : (ts : Types) (from : ℕ) (insts : List Inst) → Ascend from insts → InOrder from (layout_breaches ts insts)
layout_in_order ts from insts ascend = layout_in_order_from insts ts [] from insts ascend

bodies_in_order_from : (k : Known) (w : Within) (from : ℕ) (insts : List Inst) → Ascend from insts → InOrder from (body_breaches k (placed_from w insts))
bodies_in_order_from k w from [] ascend = none_in_order from
bodies_in_order_from k w from (i ∷ is) (first, rest) = one_in_order from (keeps_body k (place i w is)) (body_breach i) _ first (bodies_in_order_from k (within_after w i) (suc i.word) is rest)

pub bodies_in_order : (k : Known) (from : ℕ) (insts : List Inst) → Ascend from insts → InOrder from (body_breaches k (placed insts))
bodies_in_order k from insts ascend = bodies_in_order_from k nowhere from (drop (length (before_functions insts)) insts) (Ascend-drop (length (before_functions insts)) from insts ascend)
