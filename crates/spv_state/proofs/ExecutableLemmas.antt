-- The executable at which a frame stands, and the one behind it.
use Rattle.std.proofs.Common.{◌≡◌, ◌∙◌, ℕ, zero, suc, ◌==◌, Bool, true, false, cond, List, [], ◌∷◌, ◌++◌, Option, Some, map, slice_get, sym, ap, subst}
use Rattle.std.proofs.lemmas.Bool.{and_parts, eq-eqb, eqb-true}
use Rattle.std.specs.List.{Contains, flat_map}
use Rattle.spv_base.specs.Entries.{reads}
use Rattle.spv_base.specs.declared.instructions.Inst.{Inst}
use Rattle.spv_index.specs.Classes.{is_executable, sets_of}
use Rattle.spv_index.specs.Definitions.{at}
use Rattle.spv_index.specs.Positions.{Stand, in_block, in_function, stands_of}
use Rattle.spv_valid.specs.Below.spv_cfg.specs.Calls.{function_of}
use Rattle.spv_valid.specs.Below.spv_cfg.specs.Executables.{executables_of, followers_of}
use Rattle.spv_valid.specs.Below.spv_cfg.proofs.Exports.{opcode_of_function}
use Rattle.spv_valid.specs.Acceptance.{Accepted}
use Rattle.spv_plans.specs.Members.{is_stop, stands_in}
use Rattle.spv_plans.specs.Plans.{functions_in}
use Rattle.spv_state.specs.Sound.{StandsIn}
use Rattle.spv_state.proofs.Blocks.{Begun, Entered, Follows, Listed, follows, listed, rooted}
use Rattle.spv_plans.proofs.Exports.{at_contains, block_inside}
use Rattle.spv_state.proofs.AcceptedLemmas.{IsKnown}
use Rattle.spv_state.proofs.Stands.{IsOne, at_stand, class_is, member_one, one_member, same_stand_at, stand_inst}

pub record Standing (a : Accepted) (function word : ℕ) : Type 0 where
  pub stand : Stand
  pub one : IsOne (stands_of a.insts) stand
  pub within : stands_in function stand ≡ true
  pub here : stand.inst.word ≡ word
  pub stops : is_stop stand ≡ true

pub standing : (a : Accepted) (function word : ℕ) → StandsIn a function word → Standing a function word
standing a function word s =
    let member = member_one a.insts function s.stand s.among in
    record { stand = s.stand; one = member.0; within = member.1; here = s.here; stops = s.stops }

pub stands_there : (a : Accepted) (function word : ℕ) → Standing a function word → StandsIn a function word
stands_there a function word s = record { stand = s.stand; among = one_member a.insts function s.stand s.one s.within; here = s.here; stops = s.stops }

-- the instruction there
pub at_standing : (a : Accepted) (function word : ℕ) → IsKnown a → (s : Standing a function word) → at a.insts word ≡ Some s.stand.inst
at_standing a function word known s = at_stand a.insts s.stand word known.words s.one s.here

-- ---- the next executable

pub next_stands : (a : Accepted) (function pc word : ℕ) → IsKnown a → Standing a function pc → reads pc a.flow.nexts ≡ Some (Some word) → Standing a function word
next_stands a function pc word known here next =
    let read : reads pc (followers_of (executables_of a.insts)) ≡ Some (Some word) = subst (λ (es : List (ℕ × Option ℕ)). reads pc es ≡ Some (Some word)) known.nexts next in
    let pair : Follows (executables_of a.insts) pc word = follows (executables_of a.insts) pc word read in
    let first : Listed (stands_of a.insts) pair.label pc = listed (stands_of a.insts) pair.first.0 pair.label pc pair.first.1 in
    let second : Listed (stands_of a.insts) pair.label word = listed (stands_of a.insts) pair.second.0 pair.label word pair.second.1 in
    let one : Entered (stands_of a.insts) first.stand.position.function first.stand.position.label
    = (rooted a.insts first.stand first.one).block (and_parts (is_executable first.stand.class) (in_block first.stand.position.stage) first.stops).1 in
    let inside = (and_parts (is_executable second.stand.class) (in_block second.stand.position.stage) second.stops).1 in
    let other : Entered (stands_of a.insts) second.stand.position.function second.stand.position.label = (rooted a.insts second.stand second.one).block inside in
    let label : one.stand.inst.id ≡ other.stand.inst.id = one.id ∙ first.inside ∙ sym second.inside ∙ sym other.id in
    let functions = known.labels one.stand other.stand one.one other.one one.class label in
    let own : here.stand ≡ first.stand = same_stand_at a.insts here.stand first.stand known.words here.one first.one (here.here ∙ sym first.here) in
    let function_is : first.stand.position.function ≡ function
    = subst (λ (s : Stand). s.position.function ≡ function) own
    (eqb-true here.stand.position.function function (and_parts (in_function here.stand.position.stage) (here.stand.position.function == function) here.within).1) in
    let there : second.stand.position.function ≡ function = sym other.within ∙ sym functions ∙ one.within ∙ function_is in
    record {
      stand = second.stand;
      one = second.one;
      within = rw (block_inside second.stand.position.stage inside) (eq-eqb second.stand.position.function function there);
      here = second.here;
      stops = second.stops;
    }

-- ---- the function

-- an OpFunction is among the functions of a module
function_listed : (is : List Inst) (k : ℕ) (i : Inst) → slice_get is k ≡ Some i → i.op ≡ 54 → (n : ℕ) × (slice_get (map (λ (f : ℕ × ℕ). f.0) (flat_map function_of is)) n ≡ Some i.id)
function_listed [] k i h op = absurd (cc)
function_listed (x ∷ is) zero i h op =
    let same : x ≡ i = cc in
    let test : (x.op == 54) ≡ true = eq-eqb x.op 54 (ap (λ (z : Inst). z.op) same ∙ op) in
    (0, rw test (ap (λ (z : Inst). Some z.id) same))
function_listed (x ∷ is) (suc k) i h op = by_op (x.op == 54) (function_listed is k i h op)
  where
    by_op : (b : Bool) → (n : ℕ) × (slice_get (map (λ (f : ℕ × ℕ). f.0) (flat_map function_of is)) n ≡ Some i.id)
        → (n : ℕ) × (slice_get (map (λ (f : ℕ × ℕ). f.0) (cond b ((x.id, x.word) ∷ []) [] ++ flat_map function_of is)) n ≡ Some i.id)
    by_op true rest = (suc rest.0, rest.1)
    by_op false rest = rest

-- a function in which an executable stands is one of the module
pub function_known : (a : Accepted) (function word : ℕ) → Standing a function word → Contains (functions_in a) function
function_known a function word s =
    let parts = and_parts (in_function s.stand.position.stage) (s.stand.position.function == function) s.within in
    let begun : Begun (stands_of a.insts) s.stand.position.function = (rooted a.insts s.stand s.one).function parts.0 in
    let op = opcode_of_function (sets_of a.insts) begun.stand.inst (sym (class_is a.insts begun.stand begun.one) ∙ begun.class) in
    let found = function_listed a.insts begun.one.number begun.stand.inst (stand_inst a.insts begun.one.number begun.stand begun.one.is) op in
    let named : begun.stand.inst.id ≡ function = begun.id ∙ eqb-true s.stand.position.function function parts.1 in
    at_contains (functions_in a) found.0 function (found.1 ∙ ap (λ (n : ℕ). Some n) named)
