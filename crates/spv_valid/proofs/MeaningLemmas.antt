-- The stand and the instruction of an id are one.
use Rattle.std.proofs.Common.{◌≡◌, ◌∙◌, ℕ, Bool, true, false, List, [], ◌∷◌, Option, Some, None, refl, sym}
use Rattle.std.specs.Prelude.{find, if◌then◌else◌}
use Rattle.std.specs.Option.{option_map}
use Rattle.spv_base.specs.declared.instructions.Inst.{Inst}
use Rattle.spv_index.specs.declared.positions.Position.{Position}
use Rattle.spv_index.specs.declared.positions.Standing.{Standing}
use Rattle.spv_index.specs.Classes.{class_of, sets_of}
use Rattle.spv_index.specs.Definitions.{defining, has_result, is_id}
use Rattle.spv_index.specs.Positions.{Stand, outside, position_after, stand_of, standing, stands, stands_of}
use Rattle.spv_valid.specs.Meanings.{meaning_at, meaning_of}

same_from : (p : Inst → Bool) (sets : List (ℕ × Bool)) (position : Position) (insts : List Inst)
    → option_map (λ s. s.inst) (find (λ s. p s.inst) (stands sets position insts)) ≡ find p insts
same_from p sets position [] = refl
same_from p sets position (i ∷ is) = go (p i) (same_from p sets (position_after position (class_of sets i) i) is) where
  go : (b : Bool) → option_map (λ s. s.inst) (find (λ s. p s.inst) (stands sets (position_after position (class_of sets i) i) is)) ≡ find p is
      → option_map (λ s. s.inst) (if b then Some (record { position = position; class = class_of sets i; inst = i }) else find (λ s. p s.inst) (stands sets (position_after position (class_of sets i) i) is)) ≡ (if b then Some i else find p is)
  go true h = refl
  go false h = h

-- the instruction of the stand of an id is the one that defines it
pub stand_defines : (insts : List Inst) (id : ℕ) → option_map (λ s. s.inst) (stand_of insts id) ≡ defining insts id
unfolding stand_of defining
stand_defines insts id = go (is_id id) where
  go : (b : Bool) → option_map (λ s. s.inst) (if b then find (λ s. has_result id s.inst) (stands_of insts) else None) ≡ (if b then find (has_result id) insts else None)
  go true = same_from (has_result id) (sets_of insts) outside insts
  go false = refl

no_stand : (o : Option Stand) → None ≡ option_map standing o → None ≡ option_map meaning_at o
no_stand None h = refl
no_stand (Some s) h = absurd (cc)

no_inst : (o : Option Stand) → None ≡ option_map (λ s. s.inst) o → None ≡ option_map meaning_at o
no_inst None h = refl
no_inst (Some s) h = absurd (cc)

one_stand : (o : Option Stand) (st : Standing) (inst : Inst) → Some st ≡ option_map standing o → Some inst ≡ option_map (λ s. s.inst) o
    → Some (meaning_at (record { position = st.position; class = st.class; inst = inst })) ≡ option_map meaning_at o
one_stand None st inst h k = absurd (cc)
one_stand (Some s) st inst h k = let is : st ≡ standing s = cc in let same : inst ≡ s.inst = cc in rw (is, same) refl

pub unplaced : (insts : List Inst) (id : ℕ) → None ≡ option_map standing (stand_of insts id) → None ≡ meaning_of insts id
unplaced insts id h = no_stand (stand_of insts id) h

pub undefined : (insts : List Inst) (id : ℕ) → None ≡ defining insts id → None ≡ meaning_of insts id
undefined insts id h = no_inst (stand_of insts id) (h ∙ sym (stand_defines insts id))

pub meant : (insts : List Inst) (id : ℕ) (st : Standing) (inst : Inst) → Some st ≡ option_map standing (stand_of insts id) → Some inst ≡ defining insts id
    → Some (meaning_at (record { position = st.position; class = st.class; inst = inst })) ≡ meaning_of insts id
meant insts id st inst h k = one_stand (stand_of insts id) st inst h (k ∙ sym (stand_defines insts id))
