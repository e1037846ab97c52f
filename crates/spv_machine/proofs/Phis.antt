-- The phis of a block take their values one after the other, as all at once.
use Rattle.std.proofs.Common.{◌≡◌, ◌∙◌, ℕ, suc, ◌+◌, ◌-◌, ◌≤◌, List, [], ◌∷◌, Some, None, length, map, refl, sym, ap, subst, arith}
use Rattle.std.specs.List.{AllByRecursion}
use Rattle.spv_base.specs.Entries.{change, reads}
use Rattle.spv_base.specs.declared.instructions.Inst.{Inst}
use Rattle.spv_base.specs.declared.values.Value.{Value, out-Value}
use Rattle.spv_base.proofs.Exports.{length_change, change_still, change_twice}
use Rattle.spv_index.specs.Definitions.{result_type}
use Rattle.spv_actions.specs.Below.spv_types.specs.Rows.{no_roots}
use Rattle.spv_actions.specs.Below.spv_types.specs.Shapes.{HasShape, pointer_in}
use Rattle.spv_valid.specs.Acceptance.{Accepted}
use Rattle.spv_frame.specs.Frames.{Held as Frame}
use Rattle.spv_frame.specs.Stacks.{Stacked, on_top}
use Rattle.spv_sites.specs.Fits.{IsOfType, JumpFits, ResultRooted}
use Rattle.spv_sites.specs.Planned.{IsPlain, phi_value, taken}
use Rattle.spv_sites.specs.declared.effects.PhiValue.{PhiValue}
use Rattle.spv_sites.proofs.Exports.{register_stays}
use Rattle.spv_journal.specs.Held.{Held as Recorded, Records}
use Rattle.spv_state.specs.Program.{Program}
use Rattle.spv_state.specs.Sound.{StandsIn}
use Rattle.spv_state.specs.State.{State, frames_of, on_frame, on_frames, with_pc, with_register, with_registers}
use Rattle.spv_state.proofs.Exports.{change_none, change_same}
use Rattle.spv_machine.specs.Reached.{IsReached}
use Rattle.spv_machine.specs.Step.{first_of, to_block}
use Rattle.spv_machine.proofs.ReachedLemmas.{Facts, frames_changed, phis_stay, plain_shape, register_reached, word_is}
use Rattle.spv_machine.proofs.Recording.{records_more, records_on, records_still}
use Rattle.spv_machine.proofs.ReturnLemmas.{own_frame}

-- ---- two changes of the top frame

on_top_twice : (g h : Frame → Frame) (fs : List Frame) → on_top g (on_top h fs) ≡ on_top (λ f. g (h f)) fs
on_top_twice g h fs = ap (λ (n : ℕ). change (n - 1) g (on_top h fs)) (length_change (length fs - 1) h fs) ∙ change_twice (length fs - 1) g h fs

pub on_frame_twice : (i : ℕ) (g h : Frame → Frame) (s : State) → on_frame i g (on_frame i h s) ≡ on_frame i (λ f. g (h f)) s
on_frame_twice i g h s =
    ap (λ (ks : List Stacked). record s { stacks = ks })
    (change_twice i (on_frames g) (on_frames h) s.stacks
    ∙ change_same i (λ k. on_frames g (on_frames h k)) (on_frames (λ f. g (h f))) s.stacks (λ k at. ap (λ (fs : List Frame). record k { frames = fs }) (on_top_twice g h k.frames)))

pub on_frame_still : (i : ℕ) (s : State) → on_frame i (λ f. f) s ≡ s
on_frame_still i s =
    ap (λ (ks : List Stacked). record s { stacks = ks })
    (change_still i (on_frames (λ f. f)) s.stacks (λ k at. ap (λ (fs : List Frame). record k { frames = fs }) (change_none (length k.frames - 1) k.frames)))

-- ---- phis

-- what is still to be put leaves what all of it does
pub record PhisLeft (p : Program) (i : ℕ) (d : Inst) (phis : List PhiValue) (s end : State) : Type 0 where
  pub reached : IsReached p s i d
  pub values : AllByRecursion (λ (r : ℕ × Value). IsOfType p.accepted r.0 r.1) (map phi_value phis)
  pub rooted : AllByRecursion (λ (r : ℕ × Value). ResultRooted p.accepted (frames_of s i) (Some r.1)) (map phi_value phis)
  pub plain : AllByRecursion (λ (phi : PhiValue). IsPlain phi.value) phis
  pub left : on_frame i (with_registers (map phi_value phis)) s ≡ end

phi_put : (p : Program) → Facts p.accepted → (i : ℕ) (d : Inst) (phi : PhiValue) (phis : List PhiValue) (s new end : State) → PhisLeft p i d (phi ∷ phis) s end
    → new ≡ on_frame i (with_register phi.id (taken phi.value)) s → PhisLeft p i d phis new end
phi_put p known i d phi phis s new end left put =
    let v = taken phi.value in
    let g : Frame → Frame = with_register phi.id v in
    let there = phis_stay p.accepted g (frames_of s i) (map phi_value phis) (λ f. (register_stays f phi.id v).0) left.rooted.1 in
    let frames : on_top g (frames_of s i) ≡ frames_of new i = sym (ap (λ (x : State). frames_of x i) put ∙ frames_changed s i g) in
    record {
      reached = subst (λ (x : State). IsReached p x i d) (sym put) (register_reached p known.known s i d phi.id v left.reached left.values.0 left.rooted.0);
      values = left.values.1;
      rooted = subst (λ (fs : List Frame). AllByRecursion (λ (r : ℕ × Value). ResultRooted p.accepted fs (Some r.1)) (map phi_value phis)) frames there;
      plain = left.plain.1;
      left = ap (on_frame i (with_registers (map phi_value phis))) put ∙ on_frame_twice i (with_registers (map phi_value phis)) g s ∙ left.left;
    }

-- to the block, where its phis have their values
pub jump_is : (p : Program) (i block word : ℕ) (rs : List (ℕ × Value)) (s s1 : State) → s1 ≡ on_frame i (with_registers rs) s → word ≡ first_of p.accepted block → on_frame i (with_pc word) s1 ≡ to_block p.accepted i block rs s
jump_is p i block word rs s s1 put first =
    ap (on_frame i (with_pc word)) put ∙ ap (λ (n : ℕ). on_frame i (with_pc n) (on_frame i (with_registers rs) s)) first ∙ on_frame_twice i (with_pc (first_of p.accepted block)) (with_registers rs) s

-- the block has an executable to begin with
pub jump_first : (p : Program) → Facts p.accepted → (s : State) (i : ℕ) (d : Inst) (block : ℕ) (rs : List (ℕ × Value)) → IsReached p s i d → JumpFits p.accepted d block rs → (word : ℕ) × (reads block p.accepted.flow.blocks ≡ Some word)
jump_first p known s i d block rs r fits =
    let own = own_frame p known s i d r in
    (fits.entered r.frame.plan.function (subst (StandsIn p.accepted r.frame.plan.function) (sym (word_is p s i d r)) own.stands)).1

-- ---- phis in turn

-- so many phis have their values, with an entry for each
pub record PhisGoing (p : Program) (i : ℕ) (d : Inst) (all rest : List PhiValue) (old now : Recorded) : Type 0 where
  pub left : PhisLeft p i d rest now.state (on_frame i (with_registers (map phi_value all)) old.state)
  pub count : ℕ
  pub counted : count + length rest ≡ length all
  pub records : Records count old now

pub phis_begin : (p : Program) (i : ℕ) (d : Inst) (all rest : List PhiValue) (now : Recorded) → rest ≡ all → PhisLeft p i d all now.state (on_frame i (with_registers (map phi_value all)) now.state) → PhisGoing p i d all rest now now
phis_begin p i d all rest now same left = record {
  left = subst (λ (xs : List PhiValue). PhisLeft p i d xs now.state (on_frame i (with_registers (map phi_value all)) now.state)) (sym same) left;
  count = 0;
  counted = let e : length rest ≡ length all = ap length same in omega (arith, e);
  records = records_still now;
}

-- there is one more
module _ (p : Program) (i : ℕ) (d : Inst) (all rest more : List PhiValue) (phi : PhiValue) (old now : Recorded) (first : rest ≡ phi ∷ more) (going : PhisGoing p i d all rest old now) where
  pub phi_left : PhisLeft p i d (phi ∷ more) now.state (on_frame i (with_registers (map phi_value all)) old.state)
  phi_left = subst (λ (xs : List PhiValue). PhisLeft p i d xs now.state (on_frame i (with_registers (map phi_value all)) old.state)) first going.left

  pub phis_some : going.count + 1 ≤ length all
  phis_some = let c = going.counted in let size : length rest ≡ suc (length more) = ap length first in omega (arith, c, size)

  pub phis_next : Facts p.accepted → (new : Recorded) → new.state ≡ on_frame i (with_register phi.id (taken phi.value)) now.state → Records 1 now new → PhisGoing p i d all more old new
  phis_next known new put one = record {
    left = phi_put p known i d phi more now.state new.state (on_frame i (with_registers (map phi_value all)) old.state) phi_left put;
    count = going.count + 1;
    counted = let c = going.counted in let size : length rest ≡ suc (length more) = ap length first in omega (arith, c, size);
    records = records_on going.count 1 old now new going.records one;
  }

none_left : (rest : List PhiValue) → length rest ≡ 0 → rest ≡ []
none_left [] h = refl
none_left (phi ∷ rest) h = absurd (omega (arith, h))

pub phis_end : (p : Program) (i : ℕ) (d : Inst) (all rest : List PhiValue) (old now : Recorded) → length rest ≡ 0 → PhisGoing p i d all rest old now → now.state ≡ on_frame i (with_registers (map phi_value all)) old.state
phis_end p i d all rest old now none going =
    let end = on_frame i (with_registers (map phi_value all)) old.state in
    sym (on_frame_still i now.state) ∙ (subst (λ (xs : List PhiValue). PhisLeft p i d xs now.state end) (none_left rest none) going.left).left

-- not more than there are
pub phis_records : (p : Program) (i : ℕ) (d : Inst) (all rest : List PhiValue) (old now : Recorded) → PhisGoing p i d all rest old now → Records (length all) old now
phis_records p i d all rest old now going = records_more going.count (length all) old now (let c = going.counted in omega arith) going.records

-- a value that a phi takes from a row has the shape of its type
pub phi_shape : (a b : Accepted) → b ≡ a → (id : ℕ) (v : Value) → IsOfType a id v → pointer_in (out-Value v) ≡ None → (ty : ℕ) → result_type b.insts id ≡ Some ty → HasShape b.types no_roots ty v
phi_shape a b same id v of_type plain =
    subst (λ (x : Accepted). (ty : ℕ) → result_type x.insts id ≡ Some ty → HasShape x.types no_roots ty v) (sym same) (λ ty typed. plain_shape a ty v (out-Value v) (of_type ty typed) plain)
