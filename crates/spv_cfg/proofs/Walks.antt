-- Walks over instructions with where they stand, as loops go.
use Rattle.std.proofs.Common.{◌≡◌, ℕ, ◌+◌, ◌≤◌, Bool, List, [], ◌∷◌, ◌++◌, length, drop, Option, None, refl, sym, ◌∙◌}
use Rattle.std.proofs.lemmas.List.{drop_all}
use Rattle.std.specs.List.{flat_map}
use Rattle.spv_base.specs.declared.instructions.Inst.{Inst}
use Rattle.spv_index.specs.declared.positions.Position.{Position}
use Rattle.spv_index.specs.Classes.{class_of}
use Rattle.spv_index.specs.Positions.{Stand, stands, position_after, position_behind}
use Rattle.spv_cfg.specs.Layout.{behind}
use Rattle.spv_base.specs.Lowest.{lower, lowest}
use Rattle.spv_base.proofs.Exports.{lower_assoc, lowest-append, lower_none}

-- the stand of an instruction
abbrev pub stand : List (ℕ × Bool) → Position → Inst → Stand
stand sets position inst = record { position = position; class = class_of sets inst; inst = inst }

-- one more step of a loop that keeps the lowest word
pub lowest_more : (f : Stand → List ℕ) (least next more total : Option ℕ) (stood : List Stand) (n : ℕ) (s : Stand) → drop n stood ≡ s ∷ drop (n + 1) stood
    → next ≡ lowest (f s) → more ≡ lower least next
    → lower least (lowest (flat_map f (drop n stood))) ≡ total → lower more (lowest (flat_map f (drop (n + 1) stood))) ≡ total
lowest_more f least next more total stood n s is next_is more_is so_far =
    let rest : List Stand = drop (n + 1) stood in
    let joined : lowest (f s ++ flat_map f rest) ≡ lower (lowest (f s)) (lowest (flat_map f rest)) = lowest-append (f s) (flat_map f rest) in
    let front : lower least (lowest (f s ++ flat_map f rest)) ≡ total = rw is at so_far in
    rw (more_is, next_is, lower_assoc least (lowest (f s)) (lowest (flat_map f rest)), ← joined) front

-- behind the last one
pub lowest_all : (f : Stand → List ℕ) (least total : Option ℕ) (stood : List Stand) (n : ℕ) → length stood ≤ n
    → lower least (lowest (flat_map f (drop n stood))) ≡ total → least ≡ total
lowest_all f least total stood n le so_far =
    let past : drop n stood ≡ [] = drop_all n stood le in
    let ended : lower least None ≡ total = rw past at so_far in
    sym (lower_none least) ∙ ended

-- the position behind all of them
pub behind_more : (position after total : Position) (stood : List Stand) (n : ℕ) (s : Stand) → drop n stood ≡ s ∷ drop (n + 1) stood
    → after ≡ position_after s.position s.class s.inst → behind position (drop n stood) ≡ total → behind after (drop (n + 1) stood) ≡ total
behind_more position after total stood n s is after_is so_far = rw after_is (rw is at so_far)

pub behind_stands : (sets : List (ℕ × Bool)) (position : Position) (insts : List Inst) → behind position (stands sets position insts) ≡ position_behind sets position insts
behind_stands sets position [] = refl
behind_stands sets position (i ∷ is) = behind_stands sets (position_after position (class_of sets i) i) is
