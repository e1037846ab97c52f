-- The words of the instructions that are read ascend.
use Rattle.std.proofs.Common.{◌≡◌, ℕ, suc, ◌+◌, ◌<◌, ◌≤◌, List, [], ◌∷◌, ◌++◌, length, map, drop, arith, length-append, length-drop}
use Rattle.std.specs.List.{AllByRecursion, flat_map}
use Rattle.spv_base.specs.Order.{Ascend}
use Rattle.spv_base.specs.declared.instructions.Inst.{Inst}
use Rattle.spv_base.specs.declared.instructions.RawInst.{RawInst}
use Rattle.spv_words.specs.Cuts.{AreCutFrom, StandFrom, words_in}
use Rattle.spv_ops.specs.Module.{IsDecoded}

pub read_in_order : (place from : ℕ) (raws : List RawInst) (insts : List Inst) → from ≤ place → StandFrom place raws
    → map (λ (i : Inst). i.word) insts ≡ map (λ (r : RawInst). r.word) raws → Ascend from insts
read_in_order place from raws [] le stand same = tt
read_in_order place from [] (i ∷ is) le stand same = absurd (cc)
read_in_order place from (r ∷ rs) (i ∷ is) le stand same =
    let first : i.word ≡ r.word = cc in
    let rest : map (λ (i : Inst). i.word) is ≡ map (λ (r : RawInst). r.word) rs = cc in
    let here : r.word ≡ place = stand.0 in
    (omega arith, read_in_order (place + suc (length r.rest)) (suc i.word) rs is (omega arith) stand.3 rest)

read_below : (place : ℕ) (raws : List RawInst) (insts : List Inst) → StandFrom place raws → map (λ (i : Inst). i.word) insts ≡ map (λ (r : RawInst). r.word) raws
    → place + length (flat_map words_in raws) ≤ 1048576 → AllByRecursion (λ i. i.word < 1048576) insts
read_below place raws [] stand same short = tt
read_below place [] (i ∷ is) stand same short = absurd (cc)
read_below place (r ∷ rs) (i ∷ is) stand same short =
    let first : i.word ≡ r.word = cc in
    let rest : map (λ (i : Inst). i.word) is ≡ map (λ (r : RawInst). r.word) rs = cc in
    let here : r.word ≡ place = stand.0 in
    let long : length (words_in r ++ flat_map words_in rs) ≡ suc (length r.rest) + length (flat_map words_in rs) = length-append (words_in r) (flat_map words_in rs) in
    let all : place + (suc (length r.rest) + length (flat_map words_in rs)) ≤ 1048576 = rw long at short in
    let below : i.word < 1048576 = omega arith in
    (below, read_below (place + suc (length r.rest)) rs is stand.3 rest (omega arith))

-- what is read from the words of a module is a decoded module
pub read_decoded : (words : List ℕ) (raws : List RawInst) (insts : List Inst) (bound : ℕ) → 5 ≤ length words → length words ≤ 1048576 → AreCutFrom 5 (drop 5 words) raws
    → map (λ (i : Inst). i.word) insts ≡ map (λ (r : RawInst). r.word) raws → bound ≤ 1048576 → IsDecoded (record { insts = insts; bound = bound })
read_decoded words raws insts bound long short cut same limit =
    let behind : 5 + length (drop 5 words) ≤ 1048576 = rw length-drop (omega arith) in
    let z : 0 ≤ 5 = omega arith in
    record {
      ascend = read_in_order 5 0 raws insts z cut.stand same;
      words = read_below 5 raws insts cut.stand same (rw cut.joined behind);
      limit = limit;
    }
