-- What each pass tells of its breaches, and all of them together.
use Rattle.std.proofs.Common.{◌≡◌, ◌≤◌, ℕ, ℤ, Bool, true, false, cond, List, [], ◌∷◌, Option, Some, None, Result, Ok, Err, refl, sym, ap, arith, subst, ◌++◌}
use Rattle.std.proofs.lemmas.Bool.Decides.{nat_tests}
use Rattle.std.specs.Prelude.{nat_le, nat_lt}
use Rattle.std.specs.List.{AllByRecursion, flat_map}
use Rattle.std.specs.Option.{option_map, option_to_list}
use Rattle.std.specs.Result.{result_err, result_unwrap_or}
use Rattle.spv_base.specs.declared.causes.Refusal.{Refusal}
use Rattle.spv_base.specs.declared.instructions.Inst.{Inst}
use Rattle.spv_types.specs.Types.{Types}
use Rattle.spv_index.specs.Definitions.{before_functions}
use Rattle.spv_types.specs.Build.{type_breaches, types_of, unless_refused}
use Rattle.spv_types.specs.InterfaceBlocks.{layout_of, nothing}
use Rattle.spv_index.specs.Classes.{sets_of}
use Rattle.spv_index.specs.Positions.{outside}
use Rattle.spv_base.specs.Lowest.{lowest}
use Rattle.spv_cfg.specs.Flow.{Flow, block_breaches, call_breaches, flow_in, flow_of, refusal, unless_refused as flow_unless}
use Rattle.spv_base.proofs.Exports.{lowest-append}
use Rattle.spv_sections.specs.Sections.{order_breaches, sections_of}
use Rattle.spv_sections.specs.Ids.{id_breaches, ids_of}
use Rattle.spv_sections.specs.Capabilities.{capabilities_of, capability_breaches, declares_variable_pointers}
use Rattle.spv_consts.specs.Table.{Constants}
use Rattle.spv_consts.specs.Context.{Context}
use Rattle.spv_consts.specs.State.{State}
use Rattle.spv_consts.specs.Rules.{keeps_rules}
use Rattle.spv_consts.specs.SpecIds.{lowest_wrong, wrong_spec_id}
use Rattle.spv_consts.specs.Steps.{breaches_at, breaches_from, breaks_limit, after_one}
use Rattle.spv_consts.specs.Build.{constant_breaches, constants_of, context_of, front_breaches, known_of as known_in, start_of, state_of, unless_earlier}
use Rattle.spv_bodies.specs.Context.{known_of}
use Rattle.spv_bodies.specs.Bodies.{bodies_of}
use Rattle.spv_valid.specs.Entry.{entry_of}
use Rattle.spv_base.specs.Answers.{after}
use Rattle.spv_valid.specs.Acceptance.{Accepted, acceptance, accepted}
use Rattle.spv_base.specs.Order.{Ascend}
use Rattle.spv_ops.specs.Module.{Decoded}
use Rattle.spv_types.specs.Typing.{types_read}
use Rattle.spv_valid.specs.Breaches.{IsLeast, at_words, bodies_breaches, breaches, first_with, flow_breaches, known_read, layout_breaches, refused_in}
use Rattle.spv_valid.proofs.OrderLemmas.{Led, bodies_in_order, constants_in_order, capabilities_in_order, ids_in_order, layout_in_order, order_in_order, types_in_order}
use Rattle.spv_valid.proofs.LeastLemmas.{IsLeastOf, Tells, earlier, joined_least, lowest_least, tells_after, tells_led, tells_refused}

tells_sections : (insts : List Inst) → Ascend 0 insts → Tells (sections_of insts) (order_breaches insts)
unfolding sections_of
tells_sections insts ascend = tells_led nothing _ (order_in_order (sets_of insts) [] outside 0 insts ascend).led

tells_ids : (m : Decoded) → Ascend 0 m.insts → Tells (ids_of m) (id_breaches m)
unfolding ids_of
tells_ids m ascend = tells_led nothing _ (ids_in_order m (sets_of m.insts) outside 0 m.insts ascend).led

tells_capabilities : (insts : List Inst) → Ascend 0 insts → Tells (capabilities_of insts) (capability_breaches insts)
unfolding capabilities_of
tells_capabilities insts ascend = tells_led nothing _ (capabilities_in_order (declares_variable_pointers insts) 0 insts ascend).led

tells_types : (insts : List Inst) → Ascend 0 insts → Tells (types_of insts) (type_breaches insts [] (before_functions insts))
unfolding types_of
tells_types insts ascend = tells_led _ _ (types_in_order 0 insts ascend).led

tells_layout : (ts : Types) (insts : List Inst) → Ascend 0 insts → Tells (layout_of ts insts) (layout_breaches ts insts)
unfolding layout_of
tells_layout ts insts ascend = tells_led nothing _ (layout_in_order ts 0 insts ascend).led

tells_bodies : (known : Types × Constants) (insts : List Inst) → Ascend 0 insts → Tells (bodies_of known.0 known.1 insts) (bodies_breaches known insts)
unfolding bodies_of
tells_bodies known insts ascend = tells_led nothing _ (bodies_in_order (known_of known.0 known.1 insts) 0 insts ascend).led

-- ---- functions and calls

code_of_some : (code : ℕ) (o : Option ℕ) (r : Refusal) → option_map (λ (w : ℕ). record { code = code; word = w }) o ≡ Some r → r.code ≡ code
code_of_some code None r is = absurd (cc)
code_of_some code (Some w) r is = let same : record { code = code; word = w } ≡ r = cc in sym (ap (λ (x : Refusal). x.code) same)

tells_flow : (insts : List Inst) → Tells (flow_of insts) (flow_breaches insts)
unfolding flow_of
tells_flow insts = by_words (lowest (block_breaches insts)) (lowest (call_breaches insts)) (joined_least _ _ _ _ (lowest_least 15 (block_breaches insts)) (lowest_least 16 (call_breaches insts)) codes)
  where
    codes : (r s : Refusal) → option_map (λ (w : ℕ). record { code = 15; word = w }) (lowest (block_breaches insts)) ≡ Some r
        → option_map (λ (w : ℕ). record { code = 16; word = w }) (lowest (call_breaches insts)) ≡ Some s → r.code ≤ s.code
    codes r s one other = let a : r.code ≡ 15 = code_of_some 15 _ r one in let b : s.code ≡ 16 = code_of_some 16 _ s other in omega arith

    by_words : (block call : Option ℕ) → IsLeastOf (earlier (option_map (λ (w : ℕ). record { code = 15; word = w }) block) (option_map (λ (w : ℕ). record { code = 16; word = w }) call)) (flow_breaches insts)
        → Tells (flow_unless (refusal block call) (flow_in insts)) (flow_breaches insts)
    by_words None None least = least
    by_words None (Some c) least = least
    by_words (Some b) None least = least
    by_words (Some b) (Some c) least = least

-- ---- constants

lowest_one : (o : Option ℕ) → lowest (option_to_list o) ≡ o
lowest_one None = refl
lowest_one (Some w) = refl

lowest_wrong_is : (all insts : List Inst) → lowest_wrong all insts ≡ lowest (flat_map (λ i. option_to_list (wrong_spec_id all i)) insts)
unfolding lowest_wrong
lowest_wrong_is all [] = refl
lowest_wrong_is all (i ∷ is) =
    let words : List ℕ = flat_map (λ (x : Inst). option_to_list (wrong_spec_id all x)) is in
    rw (lowest_wrong_is all is, lowest-append (option_to_list (wrong_spec_id all i)) words, lowest_one (wrong_spec_id all i)) refl

-- the codes of constants
abbrev AreCoded : List Refusal → Type 0
AreCoded = AllByRecursion (λ (r : Refusal). 14 ≤ r.code)

joined_coded : (rs ss : List Refusal) → AreCoded rs → AreCoded ss → AreCoded (rs ++ ss)
joined_coded [] ss one other = other
joined_coded (r ∷ rs) ss one other = (one.0, joined_coded rs ss one.1 other)

one_coded : (m : Context) (s : State) (i : Inst) → AreCoded (breaches_at m s i)
unfolding breaches_at
one_coded m s i = by_tests (keeps_rules m s i) (breaks_limit m s i)
  where
    by_tests : (b c : Bool) → AreCoded (cond b [] (record { code = 14; word = i.word } ∷ []) ++ cond c (record { code = 18; word = i.word } ∷ []) [])
    by_tests true true = (omega arith, tt)
    by_tests true false = tt
    by_tests false true = (omega arith, (omega arith, tt))
    by_tests false false = (omega arith, tt)

all_coded : (m : Context) (s : State) (insts : List Inst) → AreCoded (breaches_from m s insts)
unfolding breaches_from
all_coded m s [] = tt
all_coded m s (i ∷ is) = joined_coded (breaches_at m s i) (breaches_from m (after_one m s i) is) (one_coded m s i) (all_coded m (after_one m s i) is)

first_coded : {T : Type 0} (x : T) (rs : List Refusal) (r : Refusal) → AreCoded rs → result_err (unless_refused x rs) ≡ Some r → 14 ≤ r.code
first_coded x [] r coded is = absurd (cc)
first_coded x (s ∷ ss) r coded is = let same : s ≡ r = cc in subst (λ (q : Refusal). 14 ≤ q.code) same coded.0

led_least : {T : Type 0} (x : T) (rs : List Refusal) → Led rs → IsLeastOf (result_err (unless_refused x rs)) rs
led_least x [] led = refl
led_least x (r ∷ rs) led = tells_led x (r ∷ rs) led

choice_turned : (w v : ℕ) (x y : Refusal) → cond (nat_le w v) x y ≡ cond (nat_lt v w) y x
choice_turned w v x y = grind (arith, nat_tests)

earlier_tells : (o : Option ℕ) (due : Result (Types × Constants) Refusal) (rs : List Refusal) → IsLeastOf (earlier (option_map (λ (w : ℕ). record { code = 14; word = w }) o) (result_err due)) rs
    → Tells (unless_earlier o due) rs
earlier_tells None (Ok s) rs least = least
earlier_tells None (Err r) rs least = least
earlier_tells (Some w) (Ok s) rs least = least
earlier_tells (Some w) (Err r) rs least =
    let at : Refusal = record { code = 14; word = w } in
    let chosen : IsLeast rs (cond (nat_le w r.word) at r) = rw (choice_turned w r.word at r) least in
    elim (nat_le w r.word) as (λ b. IsLeast rs (cond b at r) → Tells {T = Types × Constants} (cond b (Err at) (Err r)) rs) [ true ↦ λ x. x | false ↦ λ x. x ] chosen

tells_constants : (ts : Types) (insts : List Inst) (over : List (ℕ × ℤ)) → Ascend 0 insts → Tells (constants_of ts insts over) (constant_breaches ts insts over)
unfolding constants_of
tells_constants ts insts over ascend =
    let words : List ℕ = flat_map (λ (i : Inst). option_to_list (wrong_spec_id insts i)) insts in
    let known : Types × Constants = known_in (state_of ts insts over) in
    let rs : List Refusal = front_breaches ts insts over in
    let led : Led rs = (constants_in_order (context_of ts insts over) (start_of ts) 0 insts ascend).led in
    let codes : (r s : Refusal) → option_map (λ (w : ℕ). record { code = 14; word = w }) (lowest words) ≡ Some r → result_err (unless_refused known rs) ≡ Some s → r.code ≤ s.code
    = λ r s one other.
    let a : r.code ≡ 14 = code_of_some 14 (lowest words) r one in
    let b : 14 ≤ s.code = first_coded known rs s (all_coded (context_of ts insts over) (start_of ts) (before_functions insts)) other in
    omega arith in
    rw lowest_wrong_is (earlier_tells (lowest words) (unless_refused known rs) (constant_breaches ts insts over)
    (joined_least (option_map (λ (w : ℕ). record { code = 14; word = w }) (lowest words)) (result_err (unless_refused known rs)) (at_words 14 words) rs (lowest_least 14 words) (led_least known rs led) codes))

-- ---- all passes

pub types_are : (insts : List Inst) (types : Types) → types_of insts ≡ Ok types → types ≡ types_read insts
unfolding types_of
types_are insts types is = by_list (type_breaches insts [] (before_functions insts)) is
  where
    by_list : (rs : List Refusal) → unless_refused (types_read insts) rs ≡ Ok types → types ≡ types_read insts
    by_list [] e = cc
    by_list (r ∷ rs) e = absurd (cc)

pub flow_is : (insts : List Inst) (flow : Flow) → flow_of insts ≡ Ok flow → flow ≡ flow_in insts
unfolding flow_of
flow_is insts flow is = by_refusal (refusal (lowest (block_breaches insts)) (lowest (call_breaches insts))) is
  where
    by_refusal : (o : Option Refusal) → flow_unless o (flow_in insts) ≡ Ok flow → flow ≡ flow_in insts
    by_refusal None e = cc
    by_refusal (Some r) e = absurd (cc)

tells_entry : (m : Decoded) (name : Option (List ℕ)) (known : Types × Constants) (flow : Flow) → flow ≡ flow_in m.insts
    → Tells (after (entry_of known.0 known.1 flow m.insts name) (λ entry. Ok (accepted m known flow entry)))
    (first_with (refused_in (entry_of known.0 known.1 (flow_in m.insts) m.insts name) ∷ []))
tells_entry m name known flow is =
    rw is (tells_after {U = Accepted} (entry_of known.0 known.1 (flow_in m.insts) m.insts name) (λ entry. Ok (accepted m known (flow_in m.insts) entry)) (refused_in (entry_of known.0 known.1 (flow_in m.insts) m.insts name)) [] (tells_refused (entry_of known.0 known.1 (flow_in m.insts) m.insts name)) (λ entry same. refl))

tells_code : (m : Decoded) (name : Option (List ℕ)) (known : Types × Constants) → Ascend 0 m.insts
    → Tells (after (flow_of m.insts) (λ flow. after (bodies_of known.0 known.1 m.insts) (λ _. after (entry_of known.0 known.1 flow m.insts name) (λ entry. Ok (accepted m known flow entry)))))
    (first_with (flow_breaches m.insts ∷ bodies_breaches known m.insts ∷ refused_in (entry_of known.0 known.1 (flow_in m.insts) m.insts name) ∷ []))
tells_code m name known ascend =
    tells_after {U = Accepted} (flow_of m.insts) _ (flow_breaches m.insts) _ (tells_flow m.insts) (λ flow is.
    tells_after {U = Accepted} (bodies_of known.0 known.1 m.insts) _ (bodies_breaches known m.insts) _ (tells_bodies known m.insts ascend) (λ _ _.
    tells_entry m name known flow (flow_is m.insts flow is)))

pub known_is : (insts : List Inst) (over : List (ℕ × ℤ)) (known : Types × Constants) → constants_of (types_read insts) insts over ≡ Ok known → known_read insts over ≡ known
known_is insts over known same = ap (λ (r : Result (Types × Constants) Refusal). result_unwrap_or r ([], [])) same

tells_known : (m : Decoded) (name : Option (List ℕ)) (over : List (ℕ × ℤ)) (types : Types) → types ≡ types_read m.insts → Ascend 0 m.insts
    → Tells (after (constants_of types m.insts over) (λ known. after (layout_of known.0 m.insts) (λ _. after (flow_of m.insts) (λ flow.
    after (bodies_of known.0 known.1 m.insts) (λ _. after (entry_of known.0 known.1 flow m.insts name) (λ entry. Ok (accepted m known flow entry)))))))
    (first_with (constant_breaches (types_read m.insts) m.insts over ∷ layout_breaches (known_read m.insts over).0 m.insts ∷ flow_breaches m.insts ∷ bodies_breaches (known_read m.insts over) m.insts
    ∷ refused_in (entry_of (known_read m.insts over).0 (known_read m.insts over).1 (flow_in m.insts) m.insts name) ∷ []))
tells_known m name over types is ascend =
    rw is (tells_after {U = Accepted} (constants_of (types_read m.insts) m.insts over) _ (constant_breaches (types_read m.insts) m.insts over) _ (tells_constants (types_read m.insts) m.insts over ascend) (λ known same.
    rw (known_is m.insts over known same)
    (tells_after {U = Accepted} (layout_of known.0 m.insts) _ (layout_breaches known.0 m.insts) _ (tells_layout known.0 m.insts ascend) (λ _ _. tells_code m name known ascend))))

pub tells_all : (m : Decoded) (name : Option (List ℕ)) (over : List (ℕ × ℤ)) → Ascend 0 m.insts → Tells (acceptance m name over) (breaches m name over)
unfolding acceptance breaches
tells_all m name over ascend =
    tells_after {U = Accepted} (sections_of m.insts) _ _ _ (tells_sections m.insts ascend) (λ _ _.
    tells_after {U = Accepted} (ids_of m) _ _ _ (tells_ids m ascend) (λ _ _.
    tells_after {U = Accepted} (capabilities_of m.insts) _ _ _ (tells_capabilities m.insts ascend) (λ _ _.
    tells_after {U = Accepted} (types_of m.insts) _ _ _ (tells_types m.insts ascend) (λ types is.
    tells_known m name over types (types_are m.insts types is) ascend))))
