-- The values that debug events capture have the shapes of their types.
use Rattle.std.proofs.Common.{◌≡◌, ◌∙◌, ℕ, suc, Bool, true, false, cond, List, [], ◌∷◌, ◌++◌, Some, slice_get, refl}
use Rattle.std.proofs.Math.Logic.{∥∥₁_elim}
use Rattle.std.proofs.lemmas.List.Elements.{All-append, All-cons, All-map, All-nil}
use Rattle.std.specs.Prelude.{◌==◌, ◌&&◌, ◌||◌, not, if◌then◌else◌, unwrap_or}
use Rattle.std.specs.List.{All, AllByRecursion}
use Rattle.spv_base.specs.Entries.{reads}
use Rattle.spv_base.specs.declared.instructions.Inst.{Inst}
use Rattle.spv_base.specs.declared.values.Value.{Value}
use Rattle.spv_index.specs.Classes.{is_label}
use Rattle.spv_index.specs.Definitions.{result_type}
use Rattle.spv_index.specs.Operands.{id_operand}
use Rattle.spv_index.specs.Positions.{Stand, stands_of}
use Rattle.spv_types.specs.Queries.{is_pointer}
use Rattle.spv_types.specs.Rows.{no_roots}
use Rattle.spv_types.specs.Shapes.{HasShape}
use Rattle.spv_types.specs.Types.{form_of}
use Rattle.spv_valid.specs.Acceptance.{Accepted, IsAccepted}
use Rattle.spv_valid.specs.Validity.{IsValid}
use Rattle.spv_frame.specs.Frames.{Held as Frame}
use Rattle.spv_plans.specs.Members.{is_stop}
use Rattle.spv_results.proofs.Exports.{shape_prop}
use Rattle.spv_operands.specs.Shapes.{AreShaped, target_in}
use Rattle.spv_operands.specs.Values.{value_of}
use Rattle.spv_operands.proofs.Exports.{IsShaped, operand_shaped}
use Rattle.spv_state.specs.Events.{IsShapedEvent, are_none, capture_in, captured, captures, captures_before, due, entries, passed, since}
use Rattle.spv_state.specs.declared.captures.Capture.{Capture}
use Rattle.spv_state.proofs.AcceptedLemmas.{known}
use Rattle.spv_state.proofs.Stands.{IsOne, at_stand}

-- ---- what is captured is the operand of a debug instruction of the module

record Captures (insts : List Inst) (c : Capture) : Type 0 where
  stand : Stand
  one : IsOne (stands_of insts) stand
  debug : captures insts stand.inst ≡ true
  word : stand.inst.word ≡ c.word
  id : c.id ≡ id_operand stand.inst 3

module _ (insts : List Inst) where
  abbrev Among : List Stand → Type 0
  Among ss = AllByRecursion (IsOne (stands_of insts)) ss

  among : (ss : List Stand) → ((k : ℕ) (s : Stand) → slice_get ss k ≡ Some s → IsOne (stands_of insts) s) → Among ss
  among [] h = tt
  among (s ∷ ss) h = (h 0 s refl, among ss (λ k t at. h (suc k) t at))

  one_from : (s : Stand) → IsOne (stands_of insts) s → All (Captures insts) (capture_in insts s.inst)
  one_from s one = by_test (captures insts s.inst) refl
    where
      by_test : (b : Bool) → captures insts s.inst ≡ b → All (Captures insts) (cond b (record { word = s.inst.word; id = id_operand s.inst 3 } ∷ []) [])
      by_test false e = All-nil (Captures insts)
      by_test true e = All-cons (Captures insts) _ [] (record { stand = s; one = one; debug = e; word = refl; id = refl }) (All-nil (Captures insts))

  since_from : (ss : List Stand) → Among ss → All (Captures insts) (since insts ss)
  since_from [] all = All-nil (Captures insts)
  since_from (s ∷ ss) all = by_test (is_stop s || is_label s.class) (since_from ss all.1)
    where
      by_test : (b : Bool) → All (Captures insts) (since insts ss) → All (Captures insts) (cond b [] (since insts ss ++ capture_in insts s.inst))
      by_test true later = All-nil (Captures insts)
      by_test false later = All-append (Captures insts) (since insts ss) (capture_in insts s.inst) later (one_from s all.0)

  abbrev AreFrom : List (ℕ × List Capture) → Type 0
  AreFrom es = AllByRecursion (λ (e : ℕ × List Capture). All (Captures insts) e.1) es

  entries_from : (before ss : List Stand) → Among before → Among ss → AreFrom (entries insts before ss)
  entries_from before [] earlier all = tt
  entries_from before (s ∷ ss) earlier all = by_test (is_stop s && not (are_none (since insts before))) (entries_from (s ∷ before) ss (all.0, earlier) all.1)
    where
      by_test : (b : Bool) → AreFrom (entries insts (s ∷ before) ss) → AreFrom (cond b ((s.inst.word, since insts before) ∷ []) [] ++ entries insts (s ∷ before) ss)
      by_test true rest = (since_from before earlier, rest)
      by_test false rest = rest

  read_from : (pc : ℕ) (es : List (ℕ × List Capture)) → AreFrom es → All (Captures insts) (unwrap_or (reads pc es) [])
  read_from pc [] all = All-nil (Captures insts)
  read_from pc (e ∷ es) all = by_test (e.0 == pc) (read_from pc es all.1)
    where
      by_test : (b : Bool) → All (Captures insts) (unwrap_or (reads pc es) []) → All (Captures insts) (unwrap_or (cond b (Some e.1) (reads pc es)) [])
      by_test true rest = all.0
      by_test false rest = rest

before_from : (a : Accepted) (pc : ℕ) → All (Captures a.insts) (captures_before a pc)
unfolding captures_before
before_from a pc =
    read_from a.insts pc (entries a.insts [] (stands_of a.insts))
    (entries_from a.insts [] (stands_of a.insts) tt (among a.insts (stands_of a.insts) (λ k s at. record { number = k; is = at })))

-- ---- so it has the shape of the operand's type

module _ (a : Accepted) (accepted : ∥ IsAccepted a ∥₁) (valid : ∥ IsValid a ∥₁) (f : Frame) (shaped : AreShaped a f) (depth : ℕ) where
  value_shaped : (id ty : ℕ) (v : Value) → result_type a.insts id ≡ Some ty → value_of a f depth id ≡ Some v → HasShape a.types (if is_pointer (form_of a.types ty) then target_in a ty else no_roots) ty v
  value_shaped id ty v type value =
      let prop = shape_prop a.types (if is_pointer (form_of a.types ty) then target_in a ty else no_roots) ty v in
      ∥∥₁_elim accepted prop (λ (is : IsAccepted a). ∥∥₁_elim valid prop (λ (k : IsValid a).
      by_kind (operand_shaped a is k f shaped depth id ty v type value) (is_pointer (form_of a.types ty)) refl))
    where
      by_kind : IsShaped a ty v → (b : Bool) → is_pointer (form_of a.types ty) ≡ b → HasShape a.types (if b then target_in a ty else no_roots) ty v
      by_kind own true e = own.pointer e
      by_kind own false e = own.value e

  event_shaped : (c : Capture) → Captures a.insts c → IsShapedEvent a (captured a f depth c)
  event_shaped c from = record {
    inst = from.stand.inst;
    here = at_stand a.insts from.stand c.word (known a accepted valid).words from.one from.word;
    debug = from.debug;
    shaped = λ id ty v named type value. value_shaped id ty v type (let own : c.id ≡ Some id = from.id ∙ named in rw own at value);
  }

  -- and so do all that a frame passes
  pub passed_captured : All (IsShapedEvent a) f.events → All (IsShapedEvent a) (passed a depth f).events
  passed_captured before =
      let cs : List Capture = captures_before a f.pc in
      let own = All-map (IsShapedEvent a) (captured a f depth) cs (λ k c lt. event_shaped _ (before_from a f.pc k c lt)) in
      All-append (IsShapedEvent a) f.events (due a depth f) before own
