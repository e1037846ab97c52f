-- Breaches of phis (SPIR-V 1.6, OpPhi): one pair for each predecessor of the block.
use Rattle.std.specs.Prelude.{ℕ, Bool, not, List, [], ◌∷◌, ◌++◌, ◌%◌, ◌==◌, ◌&&◌, if◌then◌else◌, map, length}
use Rattle.std.specs.List.{flat_map, filter, list_any, list_all, count_by}
use Rattle.spv_base.specs.declared.instructions.Inst.{Inst}
use Rattle.spv_index.specs.Classes.{is_phi, is_terminator}
use Rattle.spv_index.specs.Operands.{ids_in}
use Rattle.spv_index.specs.Positions.{Stand, in_block, stands_of}
use Rattle.spv_cfg.specs.Operands.{is_name}
use Rattle.spv_cfg.specs.Branches.{is_within, targets_of, selector_width, cases_by_word, are_distinct}

-- each number once
abbrev pub distinct : List ℕ → List ℕ
distinct [] = []
distinct (number ∷ numbers) = distinct numbers ++ (if list_any (λ n. n == number) numbers then [] else number ∷ [])

-- the edges from a block to the blocks of its function: the label of the target, and the label of the block
abbrev pub edges_by : List Inst → ℕ → ℕ → Inst → List (ℕ × ℕ)
edges_by insts function label inst =
    map (λ target. (target, label))
    (distinct (filter (λ target. is_within insts function target) (targets_of (selector_width insts inst) inst)))

abbrev pub edges_from : List Inst → Stand → List (ℕ × ℕ)
edges_from insts s =
    if is_terminator s.class && in_block s.position.stage then edges_by insts s.position.function s.position.label s.inst else []

abbrev pub edges_of : List Inst → List (ℕ × ℕ)
edges_of insts = flat_map (edges_from insts) (stands_of insts)

-- how many blocks an edge goes from to a label, and whether one goes from this block
abbrev pub predecessor_count : List (ℕ × ℕ) → ℕ → ℕ
predecessor_count edges label = count_by (λ edge. edge.0 == label) edges

abbrev pub is_predecessor : List (ℕ × ℕ) → ℕ → ℕ → Bool
is_predecessor edges label block = list_any (λ edge. (edge.0 == label) && (edge.1 == block)) edges

-- the parent blocks that a phi names: the second of each pair
abbrev pub parents_of : Inst → List ℕ
parents_of inst = map (λ pair. pair.1) (cases_by_word (ids_in inst.operands))

-- ids in whole pairs, as many as there are predecessors, each with another predecessor
abbrev pub is_phi_right : List (ℕ × ℕ) → ℕ → Inst → Bool
is_phi_right edges label inst =
    (list_all is_name inst.operands && (length (ids_in inst.operands) % 2 == 0)) && ((length (parents_of inst) == predecessor_count edges label)
    && (list_all (is_predecessor edges label) (parents_of inst) && are_distinct (parents_of inst)))

abbrev pub phi_breach : List (ℕ × ℕ) → Stand → List ℕ
phi_breach edges s = if (is_phi s.class && in_block s.position.stage) && not (is_phi_right edges s.position.label s.inst) then s.inst.word ∷ [] else []

abbrev pub phi_breaches : List Inst → List ℕ
phi_breaches insts = flat_map (phi_breach (edges_of insts)) (stands_of insts)
