-- What an accepted module gives to the plan of a function.
use Rattle.std.proofs.Common.{◌≡◌, ◌≢◌, ◌⊎◌, ◌∙◌, inl, inr, ℕ, zero, suc, ◌+◌, ◌==◌, Bool, true, false, cond, List, [], ◌∷◌, ◌++◌, length, drop, take, map, get_or, Option, Some, None, Ok, refl, sym, ap, subst, slice_get, arith}
use Rattle.std.proofs.lemmas.Bool.{and_parts, both_ways, eq-eqb}
use Rattle.std.proofs.Math.Logic.{∥∥₁_elim}
use Rattle.std.proofs.Props.{props}
use Rattle.std.specs.Coded.{codes}
use Rattle.std.specs.Prelude.{find, not}
use Rattle.std.specs.List.{AllByRecursion, filter, flat_map}
use Rattle.std.specs.Option.{is_some, option_map}
use Rattle.spv_base.specs.Entries.{reads}
use Rattle.spv_base.specs.Order.{AreDistinct, Ascend}
use Rattle.spv_base.specs.declared.instructions.Inst.{Inst}
use Rattle.spv_base.specs.declared.values.Root.{Root}
use Rattle.spv_ops.specs.Grammar.{row_of}
use Rattle.spv_ops.specs.Opcodes.{table}
use Rattle.spv_ops.specs.Module.{Decoded}
use Rattle.spv_index.specs.declared.classes.Class.TheVariants.{Function}
use Rattle.spv_index.specs.Classes.{class_of, sets_of}
use Rattle.spv_index.specs.Definitions.{before_functions}
use Rattle.spv_index.specs.Positions.{Stand, begins, outside, stands, stands_of}
use Rattle.spv_types.specs.declared.forms.Form.{Form}
use Rattle.spv_types.specs.declared.forms.Form.TheVariants.{Void}
use Rattle.spv_types.specs.Build.{types_of}
use Rattle.spv_types.specs.Cells.{cells_of}
use Rattle.spv_types.specs.Laws.{AreByForms, AreSound}
use Rattle.spv_types.specs.Rules.{has_runtime}
use Rattle.spv_types.specs.Types.{Types, form_of, lengthened, number_of, with_length}
use Rattle.spv_types.specs.Typing.{types_read}
use Rattle.spv_types.proofs.Exports.{number_form, number_none, accepted_is}
use Rattle.spv_valid.specs.Below.spv_cfg.proofs.Exports.{flow_accepted}
use Rattle.spv_valid.specs.Below.spv_sections.specs.declared.kinds.Wanted.TheVariants.{DeclaredType}
use Rattle.spv_valid.specs.Below.spv_sections.specs.Definitions.{definitions_from}
use Rattle.spv_valid.specs.Below.spv_sections.specs.Ids.{has_result as results, head_of, is_result, names, scope_of}
use Rattle.spv_valid.specs.Below.spv_sections.specs.Laws.{IsInOrder}
use Rattle.spv_valid.specs.Below.spv_consts.specs.Build.{context_of, start_of, state_of}
use Rattle.spv_valid.specs.Below.spv_consts.specs.Table.{Constants}
use Rattle.spv_valid.specs.Below.spv_consts.proofs.Exports.{ends, walk_follows, Differs, before_is_front, differ_before, differ_behind, Follows, follows_start}
use Rattle.spv_valid.specs.Below.spv_bodies.specs.Context.{known_of}
use Rattle.spv_valid.specs.Acceptance.{Accepted, IsAccepted, Passes, decoded_in}
use Rattle.spv_valid.specs.Validity.{IsValid}
use Rattle.spv_valid.proofs.Exports.{accepted_passes}
use Rattle.spv_frame.specs.Plans.{AreApart}
use Rattle.spv_frame.specs.Registers.{Planned, ids}
use Rattle.spv_plans.specs.Members.{first_stop, is_stop, leading, members, stands_in}
use Rattle.spv_plans.specs.Plans.{HasRegisters, IsPlan}
use Rattle.spv_plans.specs.Registers.{AreCounted, has_cells, has_pointer, has_result, is_counted, is_register, register_of, registers_of}
use Rattle.spv_plans.proofs.ApartLemmas.{counted_ids, ids_apart, insts_of_stands}
use Rattle.spv_plans.proofs.CountLemmas.{cells_known, within_limit}
use Rattle.spv_plans.proofs.MemberLemmas.{Reached, filter_leading, reached}
use Rattle.spv_plans.proofs.StopLemmas.{found_leading, function_stops}
use Rattle.spv_plans.proofs.TypeLemmas.{each_behind, form_found, named_type, no_types_behind, types_defined}
use Rattle.spv_base.proofs.Exports.{each_weaker, each_at}

-- ---- lists

pub each_drop : {X : Type 0} (P : X → Type 0) (n : ℕ) (xs : List X) → AllByRecursion P xs → AllByRecursion P (drop n xs)
each_drop P zero xs h = h
each_drop P (suc n) [] h = tt
each_drop P (suc n) (x ∷ xs) h = each_drop P n xs h.1

inst_at : (ss : List Stand) (m k : ℕ) (s : Stand) → slice_get (drop m ss) k ≡ Some s → slice_get (drop m (map (λ (t : Stand). t.inst) ss)) k ≡ Some s.inst
inst_at [] zero k s at = absurd (cc)
inst_at [] (suc m) k s at = absurd (cc)
inst_at (t ∷ ss) zero zero s at = let same : t ≡ s = cc in ap (λ (x : Stand). Some x.inst) same
inst_at (t ∷ ss) zero (suc k) s at = inst_at ss zero k s at
inst_at (t ∷ ss) (suc m) k s at = inst_at ss m k s at

split_at : (insts : List Inst) (n : ℕ) (i : Inst) → slice_get insts n ≡ Some i → insts ≡ take n insts ++ i ∷ drop (suc n) insts
split_at [] n i at = absurd (cc)
split_at (j ∷ is) zero i at = let same : j ≡ i = cc in ap (λ (x : Inst). x ∷ is) same
split_at (j ∷ is) (suc n) i at = ap (λ (xs : List Inst). j ∷ xs) (split_at is n i at)

-- behind an OpFunction the functions have begun
behind_first : (P : Inst → Type 0) (insts : List Inst) (n : ℕ) (i : Inst) → slice_get insts n ≡ Some i → i.op ≡ 54 → AllByRecursion P (drop (length (before_functions insts)) insts)
    → AllByRecursion P (drop (suc n) insts)
unfolding before_functions
behind_first P [] n i at op h = absurd (cc)
behind_first P (j ∷ is) n i at op h = by_op (j.op == 54) refl n at h (λ m there rest. behind_first P is m i there op rest)
  where
    by_op : (b : Bool) → (j.op == 54) ≡ b → (m : ℕ) → slice_get (j ∷ is) m ≡ Some i → AllByRecursion P (drop (length (cond b [] (j ∷ before_functions is))) (j ∷ is))
        → ((m : ℕ) → slice_get is m ≡ Some i → AllByRecursion P (drop (length (before_functions is)) is) → AllByRecursion P (drop (suc m) is)) → AllByRecursion P (drop (suc m) (j ∷ is))
    by_op true e m there h later = each_drop P (suc m) (j ∷ is) h
    by_op false e zero there h later =
        let same : j ≡ i = cc in
        let begins_here : (j.op == 54) ≡ true = eq-eqb j.op 54 (ap (λ (x : Inst). x.op) same ∙ op) in
        absurd (both_ways (j.op == 54) e begins_here)
    by_op false e (suc m) there h later = later m there h

-- ---- the types of registers have numbers of cells

pub result_typed : (ts : Types) (i : Inst) → is_register ts i ≡ true → i.ty ≢ 0
result_typed ts i h none =
    let result : has_result i ≡ true = (and_parts (has_result i) _ h).0 in
    let typed : not (i.ty == 0) ≡ true = (and_parts (not (i.id == 0)) (not (i.ty == 0)) result).1 in
    let test : (i.ty == 0) ≡ true = eq-eqb i.ty 0 none in
    let clash : false ≡ true = rw test at typed in
    cc

type_named : (decoded : Decoded) (s : Stand) → IsInOrder decoded s → s.inst.ty ≢ 0 → names decoded (scope_of s.position s.inst) DeclaredType s.inst.ty ≡ true
type_named decoded s order typed = by_type order.type_named
  where
    by_type : (s.inst.ty ≡ 0) ⊎ (names decoded (scope_of s.position s.inst) DeclaredType s.inst.ty ≡ true) → names decoded (scope_of s.position s.inst) DeclaredType s.inst.ty ≡ true
    by_type (inl none) = absurd (typed none)
    by_type (inr named) = named

form_by_number : (ts us : Types) (id : ℕ) → number_of us id ≡ number_of ts id → is_some (form_of ts id) ≡ true → (f : Form) × (form_of us id ≡ Some f)
form_by_number ts us id same h = by_number (number_of ts id) refl
  where
    by_number : (o : Option ℕ) → number_of ts id ≡ o → (f : Form) × (form_of us id ≡ Some f)
    by_number None e =
        let none : form_of ts id ≡ None = number_none ts id e in
        let clash : false ≡ true = sym (ap is_some none) ∙ h in
        absurd (cc)
    by_number (Some n) e = ((get_or us n (0, Void)).1, number_form us id n (0, Void) (same ∙ e))

-- the OpFunction with a number
pub function_here : (o : Option Inst) → option_map (λ (i : Inst). i.op) o ≡ Some 54 → (i : Inst) × (o ≡ Some i) × (i.op ≡ 54)
function_here None h = absurd (cc)
function_here (Some i) h = let op : i.op ≡ 54 = cc in (i, refl, op)

module _
    (sound : (insts : List Inst) (ts : Types) → types_of insts ≡ Ok ts → AreSound ts)
    (sound_kept : (ts : Types) (id n : ℕ) → AreSound ts → AreSound (with_length ts id n))
    (number_kept : (ts : Types) (id n q : ℕ) → number_of (with_length ts id n) q ≡ number_of ts q)
    (other_kept : (ts : Types) (id n q : ℕ) → id ≢ q → form_of (with_length ts id n) q ≡ form_of ts q)
    (own_set : (ts : Types) (id n : ℕ) (f : Form) → form_of ts id ≡ Some f → form_of (with_length ts id n) id ≡ Some (lengthened n f))
    (by_forms : (ts : Types) (roots : Root → Option ℕ) → AreSound ts → AreByForms ts roots)
    (valid : (a : Accepted) → IsAccepted a → IsValid a)
  where
    -- the types are those that the module declares, but for the lengths of arrays
    numbers_stay : (a : Accepted) (is : IsAccepted a) (q : ℕ) → number_of a.types q ≡ number_of (types_read a.insts) q
    numbers_stay a is q =
        let passes : Passes a is.name is.over = accepted_passes a is.name is.over is.is in
        let ts : Types = passes.declared in
        let ended = ends a.insts ts is.over (a.types, a.constants) passes.constants in
        let rules = accepted_is a.insts ts passes.types in
        let front = before_is_front a.insts in
        let words : Ascend 0 a.insts = is.decoded.ascend in
        let sound_start : AreSound (types_read a.insts) = subst AreSound (sym rules.1) (sound a.insts ts passes.types) in
        let start : Follows a.insts [] (start_of ts) = follows_start a.insts (start_of ts) refl (sym rules.1) refl sound_start in
        let follows : Follows a.insts (before_functions a.insts) (state_of ts a.insts is.over)
        = walk_follows (λ insts us _ h. sound insts us h) sound_kept number_kept other_kept own_set by_forms
        (context_of ts a.insts is.over) [] (before_functions a.insts) front.0 (start_of ts) words (valid a is).named rules.0 refl front.1 start ended.0 in
        ap (λ (k : Types × Constants). number_of k.0 q) ended.1 ∙ follows.numbers q

    type_known : (a : Accepted) (is : IsAccepted a) (s : Stand) → IsInOrder (decoded_in a) s → s.inst.ty ≢ 0 → (f : Form) × (form_of a.types s.inst.ty ≡ Some f)
    type_known a is s order typed =
        let v : IsValid a = valid a is in
        let front = before_is_front a.insts in
        let named = named_type (decoded_in a) (scope_of s.position s.inst) s.inst.ty (type_named (decoded_in a) s order typed) in
        let found : reads s.inst.ty (definitions_from (sets_of a.insts) outside (before_functions a.insts ++ front.0)) ≡ Some named.0
        = sym (ap (λ (xs : List Inst). reads s.inst.ty (definitions_from (sets_of a.insts) outside xs)) front.1) ∙ named.1 in
        let none = no_types_behind (known_of a.types a.constants a.insts) a.insts front.0 front.1 v.rules in
        let form = form_found a.insts (sets_of a.insts) outside (before_functions a.insts) front.0 s.inst.ty named.0 (types_defined a.insts [] (before_functions a.insts) v.declared) none found named.2 in
        form_by_number (types_read a.insts) a.types s.inst.ty (numbers_stay a is s.inst.ty) form

    register_counted : (a : Accepted) (is : IsAccepted a) (s : Stand) → IsInOrder (decoded_in a) s → has_runtime a.types s.inst.ty ≡ false → is_register a.types s.inst ≡ true
        → is_counted a.types s.inst.ty ≡ true
    register_counted a is s order plain register =
        let v : IsValid a = valid a is in
        let form = type_known a is s order (result_typed a.types s.inst register) in
        within_limit (cells_of a.types s.inst.ty) (cells_known a.types v.types v.lengths s.inst.ty form.0 form.1 plain) (λ n e. v.limits.leaves s.inst.ty n e)

    pub registers_counted : (a : Accepted) (n : ℕ) → IsAccepted a → option_map (λ (i : Inst). i.op) (slice_get a.insts n) ≡ Some 54
        → (k : ℕ) (s : Stand) → slice_get (drop (n + 1) (stands_of a.insts)) k ≡ Some s → is_register a.types s.inst ≡ true → is_counted a.types s.inst.ty ≡ true
    registers_counted a n is at k s there register =
        let v : IsValid a = valid a is in
        let next : n + 1 ≡ suc n = omega arith in
        let begun = function_here (slice_get a.insts n) at in
        let plain : AllByRecursion (λ (i : Inst). has_runtime a.types i.ty ≡ false) (drop (suc n) a.insts)
        = behind_first (λ (i : Inst). has_runtime a.types i.ty ≡ false) a.insts n begun.0 begun.1 begun.2
        (each_behind (known_of a.types a.constants a.insts) (λ (i : Inst). has_runtime a.types i.ty ≡ false) (λ p kept. kept.0) a.insts v.rules) in
        let stood : slice_get (drop (suc n) (stands_of a.insts)) k ≡ Some s = subst (λ (m : ℕ). slice_get (drop m (stands_of a.insts)) k ≡ Some s) next there in
        let inst : slice_get (drop (suc n) a.insts) k ≡ Some s.inst
        = subst (λ (xs : List Inst). slice_get (drop (suc n) xs) k ≡ Some s.inst) (insts_of_stands (sets_of a.insts) outside a.insts) (inst_at (stands_of a.insts) (suc n) k s stood) in
        register_counted a is s
        (each_at (IsInOrder (decoded_in a)) (drop (suc n) (stands_of a.insts)) k s (each_drop (IsInOrder (decoded_in a)) (suc n) (stands_of a.insts) v.ids) stood)
        (each_at (λ (i : Inst). has_runtime a.types i.ty ≡ false) (drop (suc n) a.insts) k s.inst plain inst) register

-- ---- what stands behind an OpFunction

function_results : results (head_of 54) ≡ true
unfolding head_of row_of table
function_results = refl

pub function_named : (decoded : Decoded) (i : Inst) → is_result decoded i ≡ true → i.op ≡ 54 → i.id ≢ 0
function_named decoded i h op none =
    let test : (i.id == 0) ≡ true = eq-eqb i.id 0 none in
    let without : not (results (head_of i.op)) ≡ true = rw test at h in
    let with_one : results (head_of i.op) ≡ true = ap (λ (n : ℕ). results (head_of n)) op ∙ function_results in
    let clash : false ≡ true = rw with_one at without in
    cc

pub function_class : (sets : List (ℕ × Bool)) (i : Inst) → i.op ≡ 54 → class_of sets i ≡ Function
function_class sets i op = rw op refl

differs : (id : ℕ) → id ≢ 0 → (j : Inst) → Differs id j → j.id ≢ id
differs id named j (inl none) = λ same. named (sym same ∙ none)
differs id named j (inr apart) = apart

pub each_inst : (P : Inst → Type 0) (ss : List Stand) → AllByRecursion (λ (s : Stand). P s.inst) ss → AllByRecursion P (map (λ (s : Stand). s.inst) ss)
each_inst P [] h = tt
each_inst P (s ∷ ss) h = (h.0, each_inst P ss h.1)

pub result_here : (a : Accepted) (n : ℕ) (i : Inst) → IsValid a → slice_get a.insts n ≡ Some i → is_result (decoded_in a) i ≡ true
result_here a n i v at =
    let each = each_inst (λ (j : Inst). is_result (decoded_in a) j ≡ true) (stands_of a.insts)
    (each_weaker (IsInOrder (decoded_in a)) (λ (s : Stand). is_result (decoded_in a) s.inst ≡ true) (λ s order. order.result) (stands_of a.insts) v.ids) in
    each_at (λ (j : Inst). is_result (decoded_in a) j ≡ true) a.insts n i
    (subst (AllByRecursion (λ (j : Inst). is_result (decoded_in a) j ≡ true)) (insts_of_stands (sets_of a.insts) outside a.insts) each) at

pub record Facts (a : Accepted) (n : ℕ) (i : Inst) : Type 0 where
  pub stops : is_some (find is_stop (drop (n + 1) (stands_of a.insts))) ≡ true
  pub first : first_stop (members a.insts i.id) ≡ first_stop (drop (n + 1) (stands_of a.insts))
  pub within : members a.insts i.id ≡ leading (stands_in i.id) (drop (n + 1) (stands_of a.insts))
  pub distinct : AreDistinct a.insts

facts_from : (a : Accepted) (n : ℕ) (i : Inst) → AreDistinct a.insts → AllByRecursion (λ (j : Inst). j.id ≢ i.id) (drop (suc n) a.insts) → Reached (sets_of a.insts) outside a.insts n i → Facts a n i
facts_from a n i distinct apart reach =
    let sets : List (ℕ × Bool) = sets_of a.insts in
    let later : List Inst = drop (suc n) a.insts in
    let next : n + 1 ≡ suc n = omega arith in
    let behind : drop (n + 1) (stands_of a.insts) ≡ stands sets (begins i) later = ap (λ (m : ℕ). drop m (stands_of a.insts)) next ∙ reach.behind in
    let within : members a.insts i.id ≡ leading (stands_in i.id) (drop (n + 1) (stands_of a.insts))
    = reach.within ∙ filter_leading i.id sets (begins i) later apart ∙ ap (leading (stands_in i.id)) (sym behind) in
    let stop = function_stops sets i later reach.whole in
    let among : find is_stop (members a.insts i.id) ≡ Some stop.0 = ap (find is_stop) (within ∙ ap (leading (stands_in i.id)) behind) ∙ stop.1 in
    let found : find is_stop (drop (n + 1) (stands_of a.insts)) ≡ Some stop.0
    = ap (find is_stop) behind ∙ found_leading (stands_in i.id) is_stop (stands sets (begins i) later) stop.0 stop.1 in
    record {
      stops = ap is_some found;
      first = ap (option_map (λ (s : Stand). s.inst.word)) (among ∙ sym found);
      within = within;
      distinct = distinct;
    }

pub facts : (a : Accepted) → IsAccepted a → IsValid a → (n : ℕ) (i : Inst) → slice_get a.insts n ≡ Some i → i.op ≡ 54 → Facts a n i
facts a is v n i at op =
    let passes : Passes a is.name is.over = accepted_passes a is.name is.over is.is in
    let flow = flow_accepted a.insts a.flow passes.flow in
    let distinct : AreDistinct a.insts = v.named.distinct in
    let parts : AreDistinct (take n a.insts ++ i ∷ drop (suc n) a.insts) = subst AreDistinct (split_at a.insts n i at) distinct in
    let named : i.id ≢ 0 = function_named (decoded_in a) i (result_here a n i v at) op in
    let before = each_weaker (Differs i.id) (λ (j : Inst). j.id ≢ i.id) (differs i.id named) (take n a.insts) (differ_before (take n a.insts) (drop (suc n) a.insts) i parts) in
    let behind = each_weaker (Differs i.id) (λ (j : Inst). j.id ≢ i.id) (differs i.id named) (drop (suc n) a.insts) (differ_behind (take n a.insts) (drop (suc n) a.insts) i parts) in
    facts_from a n i distinct behind (reached (sets_of a.insts) outside a.insts n i at (function_class (sets_of a.insts) i op) refl before flow.whole)

-- ---- the plan of a function

-- the instructions that have its registers, as a walk finds them
abbrev pub walked : Accepted → ℕ → ℕ → List Inst
walked a n id = flat_map (register_of a.types) (leading (stands_in id) (drop (n + 1) (stands_of a.insts)))

plan_from : (a : Accepted) (n : ℕ) (i : Inst) (p : Planned) → Facts a n i → p.function ≡ i.id → first_stop (drop (n + 1) (stands_of a.insts)) ≡ Some p.first → HasRegisters a.types (walked a n i.id) p
    → IsPlan a p
plan_from a n i p known function first lists = record {
  first = ap (λ (id : ℕ). first_stop (members a.insts id)) function ∙ known.first ∙ first;
  registers = subst (λ (id : ℕ). HasRegisters a.types (registers_of a.types a.insts id) p) (sym function)
      (subst (λ (ss : List Stand). HasRegisters a.types (flat_map (register_of a.types) ss) p) (sym known.within) lists);
}

-- the ids of those registers that pass a test
chosen_apart : (a : Accepted) (n : ℕ) (i : Inst) (test : Inst → Bool) → Facts a n i → AreApart (map (λ (j : Inst). j.id) (filter test (walked a n i.id)))
chosen_apart a n i test known =
    subst (λ (ss : List Stand). AreApart (map (λ (j : Inst). j.id) (filter test (flat_map (register_of a.types) ss)))) known.within
    (ids_apart a.types test (stands_in i.id) (sets_of a.insts) outside a.insts known.distinct)

ids_of_pairs : (ts : Types) (is : List Inst) → map (λ (e : ℕ × Option ℕ). e.0) (map (λ (i : Inst). (i.id, cells_of ts i.ty)) is) ≡ map (λ (i : Inst). i.id) is
ids_of_pairs ts [] = refl
ids_of_pairs ts (i ∷ is) = ap (λ (ks : List ℕ). i.id ∷ ks) (ids_of_pairs ts is)

values_from : (a : Accepted) (n : ℕ) (i : Inst) (p : Planned) → Facts a n i → HasRegisters a.types (walked a n i.id) p → AreApart (ids p.values)
values_from a n i p known lists =
    let same : ids p.values ≡ map (λ (j : Inst). j.id) (filter (has_cells a.types) (walked a n i.id))
    = counted_ids p.values _ lists.values ∙ ids_of_pairs a.types (filter (has_cells a.types) (walked a n i.id)) in
    subst AreApart (sym same) (chosen_apart a n i (has_cells a.types) known)

pointers_from : (a : Accepted) (n : ℕ) (i : Inst) (p : Planned) → Facts a n i → HasRegisters a.types (walked a n i.id) p → AreApart p.pointers
pointers_from a n i p known lists = subst AreApart (sym lists.pointers) (chosen_apart a n i (has_pointer a.types) known)

-- ---- what it is called with, where it is only known that the module is accepted

module _ (a : Accepted) (n : ℕ) (i : Inst) (accepted : ∥ IsAccepted a ∥₁) (valid : ∥ IsValid a ∥₁) (at : slice_get a.insts n ≡ Some i) (op : i.op ≡ 54) where
  pub stops_there : is_some (find is_stop (drop (n + 1) (stands_of a.insts))) ≡ true
  stops_there = ∥∥₁_elim accepted (hlevel props) (λ (is : IsAccepted a). ∥∥₁_elim valid (hlevel props) (λ (v : IsValid a). (facts a is v n i at op).stops))

  pub values_apart : (p : Planned) → HasRegisters a.types (walked a n i.id) p → AreApart (ids p.values)
  values_apart p lists =
      ∥∥₁_elim accepted (hlevel (props, codes)) (λ (is : IsAccepted a). ∥∥₁_elim valid (hlevel (props, codes)) (λ (v : IsValid a). values_from a n i p (facts a is v n i at op) lists))

  pub pointers_apart : (p : Planned) → HasRegisters a.types (walked a n i.id) p → AreApart p.pointers
  pointers_apart p lists =
      ∥∥₁_elim accepted (hlevel (props, codes)) (λ (is : IsAccepted a). ∥∥₁_elim valid (hlevel (props, codes)) (λ (v : IsValid a). pointers_from a n i p (facts a is v n i at op) lists))

  pub plan_is : (p : Planned) → p.function ≡ i.id → first_stop (drop (n + 1) (stands_of a.insts)) ≡ Some p.first → HasRegisters a.types (walked a n i.id) p → IsPlan a p
  plan_is p function first lists =
      ∥∥₁_elim accepted (hlevel (props, codes)) (λ (is : IsAccepted a). ∥∥₁_elim valid (hlevel (props, codes)) (λ (v : IsValid a). plan_from a n i p (facts a is v n i at op) function first lists))

pub counted_there : (a : Accepted) (n : ℕ) → ((b : Accepted) (m : ℕ) → IsAccepted b → option_map (λ (i : Inst). i.op) (slice_get b.insts m) ≡ Some 54 → AreCounted b.types (drop (m + 1) (stands_of b.insts)))
    → ∥ IsAccepted a ∥₁ → option_map (λ (i : Inst). i.op) (slice_get a.insts n) ≡ Some 54 → AreCounted a.types (drop (n + 1) (stands_of a.insts))
counted_there a n law accepted at = ∥∥₁_elim accepted (hlevel props) (λ (is : IsAccepted a). law a n is at)

-- ---- as the code has it

get_here : (xs : List Inst) (n : ℕ) (i d : Inst) → slice_get xs n ≡ Some i → get_or xs n d ≡ i
get_here [] n i d at = absurd (cc)
get_here (x ∷ xs) zero i d at = cc
get_here (x ∷ xs) (suc n) i d at = get_here xs n i d at

-- the instruction that is read is the one that stands there
pub read_here : (insts xs : List Inst) (n : ℕ) (i d : Inst) → xs ≡ insts → slice_get insts n ≡ Some i → get_or xs n d ≡ i
read_here insts xs n i d same at = ap (λ (ys : List Inst). get_or ys n d) same ∙ get_here insts n i d at

pub lists_here : (a : Accepted) (n : ℕ) (i j : Inst) (ts : Types) (ss : List Stand) (p : Planned) → ts ≡ a.types → ss ≡ stands_of a.insts → j ≡ i
    → HasRegisters ts (flat_map (register_of ts) (leading (stands_in j.id) (drop (n + 1) ss))) p → HasRegisters a.types (walked a n i.id) p
lists_here a n i j ts ss p types stood same lists =
    subst (λ (us : Types). HasRegisters us (flat_map (register_of us) (leading (stands_in i.id) (drop (n + 1) (stands_of a.insts)))) p) types
    (subst (λ (rs : List Stand). HasRegisters ts (flat_map (register_of ts) (leading (stands_in i.id) (drop (n + 1) rs))) p) stood
    (subst (λ (x : Inst). HasRegisters ts (flat_map (register_of ts) (leading (stands_in x.id) (drop (n + 1) ss))) p) same lists))
