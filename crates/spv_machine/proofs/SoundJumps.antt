-- A branch leaves a sound state: the block is one of the function, and the values of its phis have their types.
use Rattle.std.proofs.Common.{◌≡◌, ◌∙◌, ℕ, suc, ◌==◌, ◌&&◌, Bool, true, false, cond, List, [], ◌∷◌, ◌-◌, length, Option, Some, None, refl, sym, ap, subst}
use Rattle.std.proofs.Math.Logic.{∥∥₁_elim}
use Rattle.std.proofs.Props.{props}
use Rattle.std.proofs.lemmas.Bool.{and_parts, eq-eqb, eqb-true}
use Rattle.std.specs.Coded.{codes}
use Rattle.std.specs.Prelude.{find, not, if◌then◌else◌}
use Rattle.std.specs.List.{AllByRecursion}
use Rattle.std.specs.Option.{option_map}
use Rattle.spv_base.specs.Entries.{reads}
use Rattle.spv_base.specs.declared.instructions.Inst.{Inst}
use Rattle.spv_base.specs.declared.values.Value.{Value}
use Rattle.spv_index.specs.Classes.{is_executable, is_label}
use Rattle.spv_index.specs.Definitions.{has_result, is_id}
use Rattle.spv_index.specs.Positions.{Stand, in_block, in_function, is_head, stand_of, standing as place_of, stands_of}
use Rattle.spv_cfg.specs.Branches.{is_block_of, is_later_block_of, is_target, stands_so}
use Rattle.spv_cfg.specs.Executables.{executables_of}
use Rattle.spv_cfg.specs.Flow.{Flow}
use Rattle.spv_cfg.specs.Laws.{IsEntered}
use Rattle.spv_frame.specs.Frames.{Held as Frame}
use Rattle.spv_frame.specs.Registers.{Planned}
use Rattle.spv_statuses.specs.declared.invocations.Status.{Status}
use Rattle.spv_statuses.specs.declared.invocations.Status.TheVariants.{Ready}
use Rattle.spv_valid.specs.Acceptance.{Accepted, IsAccepted, Passes}
use Rattle.spv_valid.proofs.Exports.{accepted_passes, flow_is}
use Rattle.spv_sites.specs.Fits.{IsOfType, JumpFits, ResultRooted}
use Rattle.spv_sites.proofs.Exports.{moved_kept, register_kept, register_stays, register_rooted}
use Rattle.spv_base.proofs.Exports.{entry_at}
use Rattle.spv_state.specs.Program.{Program}
use Rattle.spv_state.specs.Roots.{IsRooted}
use Rattle.spv_state.specs.Sound.{IsSound, IsSoundFrame, StandsAs, StandsIn}
use Rattle.spv_state.specs.State.{State, frames_of, with_pc, with_register, with_registers}
use Rattle.spv_state.proofs.Exports.{Entered, Listed, listed, rooted, IsKnown, rooted_moved, stands_there, IsOne, top_at}
use Rattle.spv_machine.specs.Reached.{IsReached}
use Rattle.spv_machine.specs.Step.{first_of, jump, to_block}
use Rattle.spv_machine.proofs.SoundControl.{frame_kept, pass_kept}
use Rattle.spv_machine.proofs.SoundStacks.{frames_are, top_kept}
use Rattle.spv_actions.specs.Below.spv_plans.proofs.Exports.{block_inside}

-- ---- where a block begins

pub blocks_are : (a : Accepted) → ∥ IsAccepted a ∥₁ → a.flow.blocks ≡ executables_of a.insts
blocks_are a accepted =
    ∥∥₁_elim accepted (hlevel (props, codes)) (λ (is : IsAccepted a).
    let passes : Passes a is.name is.over = accepted_passes a is.name is.over is.is in
    ap (λ (f : Flow). f.blocks) (flow_is a.insts a.flow passes.flow))

found_one : (id : ℕ) (ss : List Stand) (t : Stand) → find (λ (s : Stand). has_result id s.inst) ss ≡ Some t → IsOne ss t × (t.inst.id ≡ id)
found_one id [] t h = absurd (cc)
found_one id (s ∷ ss) t h = by_id (s.inst.id == id) refl h (found_one id ss t)
  where
    by_id : (b : Bool) → (s.inst.id == id) ≡ b → cond b (Some s) (find (λ (x : Stand). has_result id x.inst) ss) ≡ Some t
        → (find (λ (x : Stand). has_result id x.inst) ss ≡ Some t → IsOne ss t × (t.inst.id ≡ id)) → IsOne (s ∷ ss) t × (t.inst.id ≡ id)
    by_id true e g rest =
        let same : s ≡ t = cc in
        (record { number = 0; is = g }, ap (λ (x : Stand). x.inst.id) (sym same) ∙ eqb-true s.inst.id id e)
    by_id false e g rest = let there = rest g in (record { number = suc there.0.number; is = there.0.is }, there.1)

stand_found : (insts : List Inst) (id : ℕ) (t : Stand) → stand_of insts id ≡ Some t → IsOne (stands_of insts) t × (t.inst.id ≡ id)
unfolding stand_of
stand_found insts id t h = by_id (is_id id) h
  where
    by_id : (b : Bool) → (if b then find (λ (s : Stand). has_result id s.inst) (stands_of insts) else None) ≡ Some t → IsOne (stands_of insts) t × (t.inst.id ≡ id)
    by_id true g = found_one id (stands_of insts) t g
    by_id false g = absurd (cc)

-- the OpLabel of a target
record TargetAt (insts : List Inst) (function label : ℕ) : Type 0 where
  stand : Stand
  one : IsOne (stands_of insts) stand
  id : stand.inst.id ≡ label
  within : stand.position.function ≡ function

target_at : (insts : List Inst) (function label : ℕ) → is_target insts function label ≡ true → TargetAt insts function label
target_at insts function label h = by_stand (stand_of insts label) refl h
  where
    by_stand : (o : Option Stand) → stand_of insts label ≡ o → stands_so (is_later_block_of function) (option_map place_of o) ≡ true → TargetAt insts function label
    by_stand None e g = absurd (cc)
    by_stand (Some t) e g =
        let found = stand_found insts label t e in
        let block = (and_parts (is_block_of function (place_of t)) (not (is_head t.position.stage)) g).0 in
        let inside = (and_parts (is_label t.class) (in_function t.position.stage && (t.position.function == function)) block).1 in
        record { stand = t; one = found.0; id = found.1; within = eqb-true t.position.function function (and_parts (in_function t.position.stage) (t.position.function == function) inside).1 }

-- a block that may be gone to begins with an executable of the function
pub target_stands : (a : Accepted) (function label : ℕ) → ∥ IsAccepted a ∥₁ → IsKnown a → IsEntered a.insts a.flow function label → StandsIn a function (first_of a label)
target_stands a function label accepted known entered =
    let read : reads label (executables_of a.insts) ≡ Some entered.1.0 = ap (reads label) (sym (blocks_are a accepted)) ∙ entered.1.1 in
    let entry = entry_at label entered.1.0 (executables_of a.insts) read in
    let there : Listed (stands_of a.insts) label entered.1.0 = listed (stands_of a.insts) entry.0 label entered.1.0 entry.1 in
    let inside = (and_parts (is_executable there.stand.class) (in_block there.stand.position.stage) there.stops).1 in
    let own : Entered (stands_of a.insts) there.stand.position.function there.stand.position.label = (rooted a.insts there.stand there.one).block inside in
    let target : TargetAt a.insts function label = target_at a.insts function label entered.0 in
    let functions = known.labels own.stand target.stand own.one target.one own.class (own.id ∙ there.inside ∙ sym target.id) in
    let within : there.stand.position.function ≡ function = sym own.within ∙ functions ∙ target.within in
    let first : entered.1.0 ≡ first_of a label = rw entered.1.1 refl in
    subst (StandsIn a function) first
    (stands_there a function entered.1.0 (record {
      stand = there.stand;
      one = there.one;
      within = rw (block_inside there.stand.position.stage inside) (eq-eqb there.stand.position.function function within);
      here = there.here;
      stops = there.stops;
    }))

-- ---- the registers of phis

pub registers_kept : (a : Accepted) (f : Frame) (rs : List (ℕ × Value)) → AllByRecursion (λ (r : ℕ × Value). IsOfType a r.0 r.1) rs → IsSoundFrame a f → IsSoundFrame a (with_registers rs f)
registers_kept a f [] all s = s
registers_kept a f (r ∷ rs) all s = registers_kept a (with_register r.0 r.1 f) rs all.1 (register_kept a f r.0 r.1 all.0 s)

registers_rooted : (a : Accepted) (fs : List Frame) (f : Frame) (rs : List (ℕ × Value)) → AllByRecursion (λ (r : ℕ × Value). ResultRooted a fs (Some r.1)) rs → IsRooted a fs (length fs - 1) f
    → IsRooted a fs (length fs - 1) (with_registers rs f)
registers_rooted a fs f [] all h = h
registers_rooted a fs f (r ∷ rs) all h = registers_rooted a fs (with_register r.0 r.1 f) rs all.1 (register_rooted a fs (length fs - 1) f r.0 r.1 all.0 h)

pub registers_stay : (f : Frame) (rs : List (ℕ × Value)) → ((with_registers rs f).plan ≡ f.plan) × ((with_registers rs f).pc ≡ f.pc)
registers_stay f [] = (refl, refl)
registers_stay f (r ∷ rs) =
    let rest = registers_stay (with_register r.0 r.1 f) rs in
    let here = register_stays f r.0 r.1 in
    (rest.0 ∙ here.0, rest.1 ∙ here.1)

-- ---- the branch

pub jump_kept : (p : Program) (s : State) (i : ℕ) (d : Inst) (block : ℕ) (phis : List (ℕ × Value)) → ∥ IsAccepted p.accepted ∥₁ → IsKnown p.accepted → (r : IsReached p s i d) → d.word ≡ r.frame.pc
    → JumpFits p.accepted d block phis → AllByRecursion (λ (x : ℕ × Value). ResultRooted p.accepted (frames_of s i) (Some x.1)) phis → IsSound p (jump p.accepted i block phis s)
jump_kept p s i d block phis accepted known r here fits passed =
    let a = p.accepted in
    let g : Frame → Frame = λ f. with_pc (first_of a block) (with_registers phis f) in
    pass_kept p (to_block a i block phis s) i known (frame_kept p s i g r.sound (λ t k l status stack level kept.
    let same : Ready ≡ t = let own = r.ready in cc in
    top_kept a t t k l g (λ f. (registers_stay f phis).0) kept (λ e. e, λ e. e) (λ f top_f sf.
    let own : r.frame ≡ f = let one = r.top in let other = top_at s i k f stack top_f in cc in
    let stands : StandsIn a f.plan.function d.word = subst (StandsIn a f.plan.function) (ap (λ (x : Frame). x.pc) (sym own) ∙ sym here) sf.stands in
    let target : StandsIn a f.plan.function (first_of a block) = target_stands a f.plan.function block accepted known (fits.entered f.plan.function stands) in
    moved_kept a (with_registers phis f) (first_of a block) (subst (λ (q : Planned). StandsIn a q.function (first_of a block)) (sym (registers_stay f phis).0) target)
    (registers_kept a f phis fits.values sf))
    (λ f top_f rooted. rooted_moved a k.frames (length k.frames - 1) (first_of a block) (with_registers phis f) (registers_rooted a k.frames f phis
    (subst (λ (fs : List Frame). AllByRecursion (λ (x : ℕ × Value). ResultRooted a fs (Some x.1)) phis) (frames_are s i k stack) passed) rooted))
    (λ f top_f stands. subst (λ (u : Status). StandsAs a u (g f)) same tt)))
