-- The frames of an invocation are a chain of calls from the entry function: there are no more of them than the longest chain has.
use Rattle.std.proofs.Common.{◌≡◌, ◌∙◌, ℕ, zero, suc, ◌≤◌, ◌==◌, Bool, true, false, cond, List, [], ◌∷◌, ◌++◌, Some, length, map, slice_get, refl, sym, ap, subst, arith}
use Rattle.std.proofs.Math.Logic.{∥∥₁_elim}
use Rattle.std.proofs.Props.{props}
use Rattle.std.proofs.lemmas.Bool.{and_parts, eq-eqb, eqb-true}
use Rattle.std.specs.Coded.{codes}
use Rattle.std.specs.List.{Contains, flat_map}
use Rattle.std.specs.Option.{option_and_then}
use Rattle.spv_base.specs.Entries.{reads}
use Rattle.spv_base.specs.declared.instructions.Inst.{Inst}
use Rattle.spv_index.specs.declared.classes.Class.TheVariants.{Function}
use Rattle.spv_index.specs.Positions.{Stand, in_function, stands_of}
use Rattle.spv_cfg.specs.Calls.{call_of, callee_of, calls_of, depths, functions_of, numbered}
use Rattle.spv_cfg.specs.Chains.{IsChain, IsLongest, lengths, limit, longest}
use Rattle.spv_cfg.specs.Flow.{Flow, lengths_of}
use Rattle.spv_cfg.specs.Laws.{HasDepth}
use Rattle.spv_cfg.proofs.Exports.{longest_is_longest}
use Rattle.spv_frame.specs.Frames.{Held as Frame}
use Rattle.spv_valid.specs.Acceptance.{Accepted, IsAccepted, Passes}
use Rattle.spv_valid.specs.Validity.{IsValid}
use Rattle.spv_valid.proofs.Exports.{accepted_passes, flow_is}
use Rattle.spv_actions.specs.Below.spv_plans.specs.Plans.{functions_in}
use Rattle.spv_actions.specs.Below.spv_plans.proofs.Exports.{at_contains, contains_at}
use Rattle.spv_state.specs.Sound.{IsCallOf, IsSoundFrame}
use Rattle.spv_state.proofs.Exports.{Begun, rooted, IsKnown, known, Standing, at_standing, function_known, standing}
use Rattle.spv_base.proofs.Exports.{each_at}

-- ---- numbers of functions

abbrev numbers : Accepted → List (ℕ × ℕ)
numbers a = numbered 0 (functions_of a.insts)

key_numbered : (m : ℕ) (fs : List (ℕ × ℕ)) (k id : ℕ) → slice_get (map (λ (f : ℕ × ℕ). f.0) fs) k ≡ Some id → (n : ℕ) × (reads id (numbered m fs) ≡ Some n)
key_numbered m [] k id h = absurd (cc)
key_numbered m (f ∷ fs) k id h = by_key (f.0 == id) refl k h (λ j g. key_numbered (suc m) fs j id g)
  where
    by_key : (b : Bool) → (f.0 == id) ≡ b → (j : ℕ) → slice_get (map (λ (f : ℕ × ℕ). f.0) (f ∷ fs)) j ≡ Some id
        → ((j : ℕ) → slice_get (map (λ (f : ℕ × ℕ). f.0) fs) j ≡ Some id → (n : ℕ) × (reads id (numbered (suc m) fs) ≡ Some n)) → (n : ℕ) × (cond b (Some m) (reads id (numbered (suc m) fs)) ≡ Some n)
    by_key true e j g rest = (m, refl)
    by_key false e zero g rest =
        let same : f.0 ≡ id = cc in
        let test = eq-eqb f.0 id same in
        let clash : false ≡ true = sym e ∙ test in
        absurd (cc)
    by_key false e (suc j) g rest = rest j g

-- a function in which an executable stands has a number
function_numbered : (a : Accepted) (function word : ℕ) → Standing a function word → (n : ℕ) × (reads function (numbers a) ≡ Some n)
function_numbered a function word s =
    let there = contains_at (functions_in a) function (function_known a function word s) in
    key_numbered 0 (functions_of a.insts) there.0 function there.1

-- ---- the depth of a function

depth_read : (calls : List (ℕ × ℕ)) (m : ℕ) (fs : List (ℕ × ℕ)) (id x n : ℕ) → reads id (numbered m fs) ≡ Some x → reads id (depths fs (lengths calls m (length fs))) ≡ Some n → n ≡ longest limit calls x
depth_read calls m [] id x n h g = absurd (cc)
depth_read calls m (f ∷ fs) id x n h g = by_key (f.0 == id) h g (depth_read calls (suc m) fs id x n)
  where
    by_key : (b : Bool) → cond b (Some m) (reads id (numbered (suc m) fs)) ≡ Some x → cond b (Some (longest limit calls m)) (reads id (depths fs (lengths calls (suc m) (length fs)))) ≡ Some n
        → (reads id (numbered (suc m) fs) ≡ Some x → reads id (depths fs (lengths calls (suc m) (length fs))) ≡ Some n → n ≡ longest limit calls x) → n ≡ longest limit calls x
    by_key true h g rest =
        let number : m ≡ x = cc in
        let depth : longest limit calls m ≡ n = cc in
        sym depth ∙ ap (longest limit calls) number
    by_key false h g rest = rest h g

-- ---- calls

later_there : {A : Type 0} (ys zs : List A) (n : ℕ) (y : A) → slice_get zs n ≡ Some y → (m : ℕ) × (slice_get (ys ++ zs) m ≡ Some y)
later_there [] zs n y h = (n, h)
later_there (x ∷ ys) zs n y h = let rest = later_there ys zs n y h in (suc rest.0, rest.1)

one_there : {X A : Type 0} (f : X → List A) (xs : List X) (k : ℕ) (x : X) (y : A) → slice_get xs k ≡ Some x → f x ≡ y ∷ [] → (m : ℕ) × (slice_get (flat_map f xs) m ≡ Some y)
one_there f [] k x y h one = absurd (cc)
one_there f (z ∷ zs) zero x y h one = let same : z ≡ x = cc in (0, rw (same, one) refl)
one_there f (z ∷ zs) (suc k) x y h one =
    let rest = one_there f zs k x y h one in
    later_there (f z) (flat_map f zs) rest.0 y rest.1

-- a call between two functions, by their numbers
record CallBetween (a : Accepted) (caller called : ℕ) : Type 0 where
  from : ℕ
  to : ℕ
  from_is : reads caller (numbers a) ≡ Some from
  to_is : reads called (numbers a) ≡ Some to
  among : Contains (calls_of a.insts) (from, to)

call_numbered : (a : Accepted) (f g : Frame) → IsKnown a → IsSoundFrame a f → IsSoundFrame a g → IsCallOf a f.pc g.plan.function → CallBetween a f.plan.function g.plan.function
call_numbered a f g known sf sg (d, found, op, names) =
    let s : Standing a f.plan.function f.pc = standing a f.plan.function f.pc sf.stands in
    let from = function_numbered a f.plan.function f.pc s in
    let to = function_numbered a g.plan.function g.pc (standing a g.plan.function g.pc sg.stands) in
    let same : d ≡ s.stand.inst = let own = at_standing a f.plan.function f.pc known s in cc in
    let parts = and_parts (in_function s.stand.position.stage) (s.stand.position.function == f.plan.function) s.within in
    let code : (s.stand.inst.op == 57) ≡ true = eq-eqb s.stand.inst.op 57 (sym (ap (λ (i : Inst). i.op) same) ∙ op) in
    let own : reads s.stand.position.function (numbers a) ≡ Some from.0 = ap (λ (n : ℕ). reads n (numbers a)) (eqb-true s.stand.position.function f.plan.function parts.1) ∙ from.1 in
    let callee : callee_of (numbers a) s.stand.inst ≡ Some to.0
    = ap (callee_of (numbers a)) (sym same) ∙ ap (option_and_then (λ (id : ℕ). reads id (numbers a))) names ∙ to.1 in
    let stage = parts.0 in
    let call : call_of (numbers a) s.stand ≡ (from.0, to.0) ∷ [] = rw (code, stage, own, callee) refl in
    let there = one_there (call_of (numbers a)) (stands_of a.insts) s.one.number s.stand (from.0, to.0) s.one.is call in
    record { from = from.0; to = to.0; from_is = from.1; to_is = to.1; among = at_contains (calls_of a.insts) there.0 (from.0, to.0) there.1 }

-- ---- chains of frames

abbrev pub AreSoundFrames : Accepted → List Frame → Type 0
AreSoundFrames a fs = (depth : ℕ) (f : Frame) → slice_get fs depth ≡ Some f → IsSoundFrame a f

-- each frame below another stands at the call of the other's function
abbrev pub AreCalls : Accepted → List Frame → Type 0
AreCalls a fs = (depth : ℕ) (f g : Frame) → slice_get fs depth ≡ Some f → slice_get fs (suc depth) ≡ Some g → IsCallOf a f.pc g.plan.function

chained : (a : Accepted) (f : Frame) (fs : List Frame) (x : ℕ) → IsKnown a → AreSoundFrames a (f ∷ fs) → AreCalls a (f ∷ fs) → reads f.plan.function (numbers a) ≡ Some x
    → (ns : List ℕ) × IsChain (calls_of a.insts) x ns × (length ns ≡ length fs)
chained a f [] x known sound calls number = ([], tt, refl)
chained a f (g ∷ fs) x known sound calls number =
    let call : CallBetween a f.plan.function g.plan.function = call_numbered a f g known (sound 0 f refl) (sound 1 g refl) (calls 0 f g refl refl) in
    let same : call.from ≡ x = let one = call.from_is in cc in
    let rest = chained a g fs call.to known (λ n h at. sound (suc n) h at) (λ n h k at above. calls (suc n) h k at above) call.to_is in
    (call.to ∷ rest.0, (subst (λ (n : ℕ). Contains (calls_of a.insts) (n, call.to)) same call.among, rest.1), ap suc rest.2)

-- ---- the longest chain

module _ (a : Accepted) (word x : ℕ) (s : Standing a a.entry word) (number : reads a.entry (numbers a) ≡ Some x) (ns : List ℕ) (chain : IsChain (calls_of a.insts) x ns) where
  deepest_in : IsValid a → reads a.entry (depths (functions_of a.insts) (lengths_of a.insts)) ≡ Some a.depth → suc (length ns) ≤ a.depth
  deepest_in v depth =
      let same : a.depth ≡ longest limit (calls_of a.insts) x = depth_read (calls_of a.insts) 0 (functions_of a.insts) a.entry x a.depth number depth in
      let parts = and_parts (in_function s.stand.position.stage) (s.stand.position.function == a.entry) s.within in
      let begun : Begun (stands_of a.insts) s.stand.position.function = (rooted a.insts s.stand s.one).function parts.0 in
      let named : begun.stand.inst.id ≡ a.entry = begun.id ∙ eqb-true s.stand.position.function a.entry parts.1 in
      let has : HasDepth a.flow begun.stand.inst.id = each_at (λ (t : Stand). t.class ≡ Function → HasDepth a.flow t.inst.id) (stands_of a.insts) begun.one.number begun.stand v.depths begun.one.is begun.class in
      let own : HasDepth a.flow a.entry = subst (HasDepth a.flow) named has in
      let known_depth = own.1 in
      let entry = v.entry.depth in
      let one : own.0 ≡ a.depth = cc in
      let few : a.depth ≤ 64 = subst (λ (n : ℕ). n ≤ 64) one own.3 in
      let small : longest limit (calls_of a.insts) x ≤ 64 = subst (λ (n : ℕ). n ≤ 64) same few in
      let long : IsLongest (calls_of a.insts) x (longest limit (calls_of a.insts) x) = longest_is_longest (calls_of a.insts) x small in
      subst (λ (n : ℕ). suc (length ns) ≤ n) (sym same) (long.most_functions ns chain)

  deepest : ∥ IsAccepted a ∥₁ → ∥ IsValid a ∥₁ → suc (length ns) ≤ a.depth
  deepest accepted valid =
      ∥∥₁_elim accepted (hlevel (props, codes)) (λ (is : IsAccepted a).
      ∥∥₁_elim valid (hlevel (props, codes)) (λ (v : IsValid a).
      let passes : Passes a is.name is.over = accepted_passes a is.name is.over is.is in
      deepest_in v (ap (λ (f : Flow). reads a.entry f.depths) (sym (flow_is a.insts a.flow passes.flow)) ∙ v.entry.depth)))

pub frames_within : (a : Accepted) (fs : List Frame) → ∥ IsAccepted a ∥₁ → ∥ IsValid a ∥₁ → AreSoundFrames a fs → AreCalls a fs → ((f : Frame) → slice_get fs 0 ≡ Some f → f.plan.function ≡ a.entry)
    → length fs ≤ a.depth
frames_within a [] accepted valid sound calls first = omega arith
frames_within a (f ∷ fs) accepted valid sound calls first =
    let entry = first f refl in
    let s : Standing a a.entry f.pc = subst (λ (n : ℕ). Standing a n f.pc) entry (standing a f.plan.function f.pc (sound 0 f refl).stands) in
    let number = function_numbered a a.entry f.pc s in
    let own : reads f.plan.function (numbers a) ≡ Some number.0 = ap (λ (n : ℕ). reads n (numbers a)) entry ∙ number.1 in
    let chain = chained a f fs number.0 (known a accepted valid) sound calls own in
    let most = deepest a f.pc number.0 s number.1 chain.0 chain.1 accepted valid in
    omega (arith, most, chain.2)
