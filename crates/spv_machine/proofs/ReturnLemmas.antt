-- What is left of a function that returns: the frame below stands at the call, which takes what it gave.
use Rattle.std.proofs.Common.{◌≡◌, ◌∙◌, ℕ, ◌-◌, ◌<◌, List, [], Option, Some, None, length, slice_get, refl, sym, ap, subst, arith}
use Rattle.std.proofs.lemmas.Option.{slice_get_within}
use Rattle.std.specs.Option.{option_and_then, option_map_or}
use Rattle.spv_base.specs.Entries.{reads}
use Rattle.spv_base.specs.Variables.{Roots}
use Rattle.spv_base.specs.declared.instructions.Inst.{Inst}
use Rattle.spv_base.specs.declared.values.Value.{Value}
use Rattle.spv_index.specs.Classes.{sets_of}
use Rattle.spv_index.specs.Definitions.{at, result_type}
use Rattle.spv_index.specs.Operands.{id_operand}
use Rattle.spv_actions.specs.Below.spv_types.specs.Types.{Types}
use Rattle.spv_actions.specs.Below.spv_mem.specs.Memory.{AreVariables, HasRoom, Levels}
use Rattle.spv_valid.specs.Acceptance.{Accepted}
use Rattle.spv_frame.specs.Frames.{Held as Frame}
use Rattle.spv_frame.specs.Stacks.{Stacked, top}
use Rattle.spv_statuses.specs.declared.invocations.Status.TheVariants.{Ready}
use Rattle.spv_sites.specs.Fits.{EnterFits, LeaveFits, ResultFits, ResultRooted}
use Rattle.spv_state.specs.Program.{Program}
use Rattle.spv_state.specs.Sound.{IsCallOf, IsSoundFrame, IsSoundStack, StandsIn}
use Rattle.spv_state.specs.State.{State, pop_frame, top_of, without_last}
use Rattle.spv_state.proofs.Exports.{root_anywhere, stood}
use Rattle.spv_machine.specs.Reached.{IsReached}
use Rattle.spv_machine.specs.Step.{finish, go_on, leave, put_result, resume}
use Rattle.spv_machine.proofs.CallTypes.{call_goes, call_to}
use Rattle.spv_machine.proofs.SoundCalls.{Below, below, has_levels, has_room, popped_sound, popped_top}
use Rattle.spv_machine.proofs.SoundControl.{stands_before}
use Rattle.spv_machine.proofs.ReachedLemmas.{Facts, word_is}
use Rattle.spv_base.proofs.Exports.{element_at}

-- a function that gives a value of its type to a call gives one of the call's type
given_fits : (a : Accepted) (d c : Inst) (function : ℕ) (o : Option Value) → StandsIn a function d.word → result_type a.insts function ≡ Some c.ty → LeaveFits a d o → ResultFits a c o
given_fits a d c function None stands typed fits = tt
given_fits a d c function (Some v) stands typed fits = fits function stands c.ty typed

-- the call that the frame below stands at, once the top one is left
pub record CalledBy (p : Program) (s : State) (i : ℕ) (d : Inst) (c : Inst) : Type 0 where
  pub reached : IsReached p (pop_frame i s) i c
  pub next : (word : ℕ) × (reads c.word p.accepted.flow.nexts ≡ Some (Some word))
  pub fits : (o : Option Value) → LeaveFits p.accepted d o → ResultFits p.accepted c o
  pub leaves : (o : Option Value) → leave p i o s ≡ go_on p.accepted i (put_result i c.id o (pop_frame i s))

abbrev pub LeftAt : Program → State → ℕ → Option Inst
LeftAt p s i = option_and_then (λ (f : Frame). at p.accepted.insts f.pc) (top_of (pop_frame i s) i)

module _ (p : Program) (known : Facts p.accepted) (s : State) (i : ℕ) (d : Inst) (r : IsReached p s i d) where
  pub own_stack : (k : Stacked) × (slice_get s.stacks i ≡ Some k) × (l : Levels) × (slice_get s.memory.locals i ≡ Some l) × IsSoundStack p.accepted Ready k l × (top k.frames ≡ Some r.frame)
  own_stack =
      let inside = slice_get_within s.statuses.list i Ready r.ready in
      let stacks = r.sound.stacks in
      let levels = r.sound.levels in
      let k = element_at s.stacks i (omega arith) in
      let l = element_at s.memory.locals i (omega arith) in
      let top_is : top k.0.frames ≡ Some r.frame = sym (ap (λ (o : Option Stacked). top (option_map_or (λ (x : Stacked). x.frames) o [])) k.1) ∙ r.top in
      (k.0, k.1, l.0, l.1, r.sound.each i Ready k.0 l.0 r.ready k.1 l.1, top_is)

  -- the frame below stands at a call
  called_by : (f : Frame) (c : Inst) → top_of (pop_frame i s) i ≡ Some f → at p.accepted.insts f.pc ≡ Some c → CalledBy p s i d c
  called_by f c is here =
      let a = p.accepted in
      let own = own_stack in
      let top_is : top (without_last own.0.frames) ≡ Some f = sym (popped_top s i own.0 own.1) ∙ is in
      let under : Below a r.frame.plan.function f = below a own.0 own.2 r.frame f own.4 own.5 top_is in
      let call = under.call in
      let same : call.0 ≡ c = let one = call.1 in cc in
      let op : c.op ≡ 57 = ap (λ (x : Inst). x.op) (sym same) ∙ call.2 in
      let names : id_operand c 0 ≡ Some r.frame.plan.function = ap (λ (x : Inst). id_operand x 0) (sym same) ∙ call.3 in
      let next = stands_before a f.plan.function f.pc c known.known under.sound.stands here (call_goes (sets_of a.insts) c op) in
      let word : c.word ≡ f.pc = (stood a.insts f.pc c here).here in
      let typed = call_to a f.plan.function f.pc r.frame.plan.function c known.accepted known.valid known.known under.sound.stands here op names in
      let top_sound : IsSoundFrame a r.frame = own.4.frames (length own.0.frames - 1) r.frame own.5 in
      let stands : StandsIn a r.frame.plan.function d.word = subst (StandsIn a r.frame.plan.function) (sym (word_is p s i d r)) top_sound.stands in
      record {
        reached = record { sound = popped_sound p s i r.sound r.ready f is; ready = r.ready; frame = f; top = is; at = here };
        next = (next.0, ap (λ (n : ℕ). reads n a.flow.nexts) word ∙ next.1);
        fits = λ o fits. given_fits a d c r.frame.plan.function o stands typed fits;
        leaves = λ o. ap (resume p i o (pop_frame i s)) is ∙ ap (λ (x : Option Inst). go_on a i (put_result i (option_map_or (λ (e : Inst). e.id) x 0) o (pop_frame i s))) here;
      }

  -- it stands at an instruction
  stands_somewhere : (f : Frame) → top_of (pop_frame i s) i ≡ Some f → (c : Inst) × (at p.accepted.insts f.pc ≡ Some c)
  stands_somewhere f is =
      let own = own_stack in
      let top_is : top (without_last own.0.frames) ≡ Some f = sym (popped_top s i own.0 own.1) ∙ is in
      let under : Below p.accepted r.frame.plan.function f = below p.accepted own.0 own.2 r.frame f own.4 own.5 top_is in
      (under.call.0, under.call.1)

  pub left_to : (c : Inst) → LeftAt p s i ≡ Some c → CalledBy p s i d c
  left_to c h = by_top (top_of (pop_frame i s) i) refl h
    where
      by_top : (o : Option Frame) → top_of (pop_frame i s) i ≡ o → option_and_then (λ (f : Frame). at p.accepted.insts f.pc) o ≡ Some c → CalledBy p s i d c
      by_top None e g = absurd (cc)
      by_top (Some f) e g = called_by f c e g

  -- or no frame is left
  pub left_all : LeftAt p s i ≡ None → top_of (pop_frame i s) i ≡ None
  left_all h = by_top (top_of (pop_frame i s) i) refl h
    where
      by_top : (o : Option Frame) → top_of (pop_frame i s) i ≡ o → option_and_then (λ (f : Frame). at p.accepted.insts f.pc) o ≡ None → o ≡ None
      by_top None e g = refl
      by_top (Some f) e g = let there = stands_somewhere f e in let found = there.1 in absurd (cc)

  pub left_finished : (o : Option Value) → LeftAt p s i ≡ None → leave p i o s ≡ finish p i (pop_frame i s)
  left_finished o h = ap (resume p i o (pop_frame i s)) (left_all h)

  -- the top frame is sound
  pub own_frame : IsSoundFrame p.accepted r.frame
  own_frame = let own = own_stack in own.4.frames (length own.0.frames - 1) r.frame own.5

-- a pointer that a function gives names a variable outside functions, which is there for the caller too
pub given_rooted : (a : Accepted) (o : Option Value) (fs : List Frame) → ResultRooted a [] o → ResultRooted a fs o
given_rooted a None fs h = tt
given_rooted a (Some v) fs h = λ q is. root_anywhere a fs (length fs - 1) q.root (h q is)

-- ---- room for a call

module _ (p : Program) (known : Facts p.accepted) (s : State) (i : ℕ) (d : Inst) (r : IsReached p s i d) (f : Frame) (es : Roots) (fits : EnterFits p.accepted d f es) where
  calls_it : IsCallOf p.accepted r.frame.pc f.plan.function
  calls_it = subst (λ (n : ℕ). IsCallOf p.accepted n f.plan.function) (word_is p s i d r) fits.call

  pub enter_room : (k : Stacked) → slice_get s.stacks i ≡ Some k → length k.frames < k.room
  enter_room k at =
      let own = own_stack p known s i d r in
      let same : own.0 ≡ k = let one = own.1 in cc in
      subst (λ (x : Stacked). length x.frames < x.room) same (has_room p.accepted own.0 own.2 own.4 f r.frame es own.5 fits.sound calls_it known.accepted known.valid)

  pub enter_levels : HasRoom s.memory i
  enter_levels l at =
      let own = own_stack p known s i d r in
      let same : own.2 ≡ l = let one = own.3 in cc in
      subst (λ (x : Levels). length x.list < x.room) same (has_levels p.accepted own.0 own.2 own.4 f r.frame es own.5 fits.sound calls_it known.accepted known.valid)

pub enter_variables : (p : Program) (s : State) (i : ℕ) (d : Inst) → IsReached p s i d → (f : Frame) (es : Roots) → EnterFits p.accepted d f es → ∥ AreVariables s.memory.types s.memory.targets es ∥₁
enter_variables p s i d r f es fits =
    ∣ subst (λ (ts : Types). AreVariables ts s.memory.targets es) (sym r.sound.types) (subst (λ (ks : List (ℕ × ℕ)). AreVariables p.accepted.types ks es) (sym r.sound.targets) fits.values) ∣₁
