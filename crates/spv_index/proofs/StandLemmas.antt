-- The stand of each instruction, by its number.
use Rattle.std.proofs.Common.{◌≡◌, ℕ, zero, suc, ◌<◌, Bool, List, [], ◌∷◌, length, map, get_or, drop, refl, ap, arith}
use Rattle.spv_base.specs.declared.instructions.Inst.{Inst}
use Rattle.spv_index.specs.declared.positions.Position.{Position}
use Rattle.spv_index.specs.declared.positions.Standing.{Standing}
use Rattle.spv_index.specs.Classes.{class_of}
use Rattle.spv_index.specs.Positions.{Stand, position_after, standing, stands}

-- there are as many as instructions
pub stands_length : (sets : List (ℕ × Bool)) (position : Position) (insts : List Inst) → length (stands sets position insts) ≡ length insts
stands_length sets position [] = refl
stands_length sets position (i ∷ is) = ap (λ (n : ℕ). suc n) (stands_length sets (position_after position (class_of sets i) i) is)

pub standings_length : (stood : List Stand) → length (map standing stood) ≡ length stood
standings_length [] = refl
standings_length (s ∷ more) = ap (λ (n : ℕ). suc n) (standings_length more)

-- the stand of the instruction with a number
abbrev pub with_standing : Standing → Inst → Stand
with_standing st inst = record { position = st.position; class = st.class; inst = inst }

pub stand_at : (sets : List (ℕ × Bool)) (position : Position) (insts : List Inst) (n : ℕ) (st : Standing) (inst : Inst) → n < length insts
    → st ≡ get_or (map standing (stands sets position insts)) n st → inst ≡ get_or insts n inst
    → drop n (stands sets position insts) ≡ with_standing st inst ∷ drop (suc n) (stands sets position insts)
stand_at sets position [] n st inst lt st_is inst_is = absurd (omega arith)
stand_at sets position (i ∷ is) zero st inst lt st_is inst_is = rw (st_is, inst_is) refl
stand_at sets position (i ∷ is) (suc m) st inst lt st_is inst_is =
    let less : m < length is = omega arith in
    stand_at sets (position_after position (class_of sets i) i) is m st inst less st_is inst_is
