-- The cuts of a module's words, one after the other.
use Rattle.std.proofs.Common.{◌≡◌, ℕ, zero, suc, ◌+◌, ◌-◌, ◌<◌, ◌≤◌, ◌==◌, nat_lt, ◌||◌, false, List, [], ◌∷◌, ◌++◌, length, take, drop, slice_index, refl, sym, ap, arith, Result, Ok, Err, length-drop, append_assoc}
use Rattle.std.proofs.Math.Seq.{drop-cons}
use Rattle.std.proofs.lemmas.List.{append-nil, drop-drop}
use Rattle.std.specs.Result.{result_map_both}
use Rattle.spv_base.specs.declared.causes.Refusal.{Refusal}
use Rattle.spv_base.specs.declared.instructions.RawInst.{RawInst}
use Rattle.spv_words.specs.Cuts.{count_of, opcode_of, before, cut}

-- the words that belong to the instruction before are left out
pub cut-left : (place left : ℕ) (words : List ℕ) → left ≤ length words → cut place left words ≡ cut (place + left) 0 (drop left words)
cut-left place zero words h = let same : place + zero ≡ place = omega arith in rw same refl
cut-left place (suc left) [] h = absurd (omega (arith, h))
cut-left place (suc left) (word ∷ words) h =
    let same : place + suc left ≡ suc place + left = omega arith in
    rw same (cut-left (suc place) left words (omega (arith, h)))

-- the instruction at the head of the words
pub cut-cons : (place first : ℕ) (words : List ℕ) → 1 ≤ count_of first → count_of first ≤ suc (length words)
    → cut place 0 (first ∷ words) ≡ before (record { word = place; op = opcode_of first; rest = take (count_of first - 1) words }) (cut (suc place) (count_of first - 1) words)
cut-cons place first words some inside =
    let kept : ((count_of first == 0) || nat_lt (suc (length words)) (count_of first)) ≡ false = grind arith in
    rw kept refl

-- the instruction at a place, and the cuts behind it
pub cut-step : (words : List ℕ) (place count : ℕ) → place < length words → count ≡ count_of (slice_index words place) → 1 ≤ count → place + count ≤ length words
    → cut place 0 (drop place words) ≡ before (record { word = place; op = opcode_of (slice_index words place); rest = take (count - 1) (drop (suc place) words) }) (cut (place + count) 0 (drop (place + count) words))
cut-step words place count within is some inside =
    let first = slice_index words place in
    let behind = drop (suc place) words in
    let long : length behind ≡ length words - suc place = length-drop (suc place) words in
    let head = cut-cons place first behind (omega (arith, is, some)) (omega (arith, is, long, inside, within)) in
    let left : cut (suc place) (count - 1) behind ≡ cut (suc place + (count - 1)) 0 (drop (count - 1) behind) = cut-left (suc place) (count - 1) behind (omega (arith, long, inside, some)) in
    let at : suc place + (count - 1) ≡ place + count = omega arith in
    let from : drop (count - 1) behind ≡ drop (suc place + (count - 1)) words = drop-drop (count - 1) (suc place) words in
    rw (drop-cons words place 0 within, head, ← is, left, from, at) refl

-- what was cut before, in front of the cuts behind it
abbrev pub behind : List RawInst → Result (List RawInst) Refusal → Result (List RawInst) Refusal
behind insts = result_map_both (λ rest. insts ++ rest) (λ refusal. refusal)

pub behind-before : (insts : List RawInst) (inst : RawInst) (rest : Result (List RawInst) Refusal) → behind insts (before inst rest) ≡ behind (insts ++ inst ∷ []) rest
behind-before insts inst (Ok rest) = ap Ok (sym (append_assoc insts (inst ∷ []) rest))
behind-before insts inst (Err refusal) = refl

pub behind-nothing : (rest : Result (List RawInst) Refusal) → rest ≡ behind [] rest
behind-nothing (Ok rest) = refl
behind-nothing (Err refusal) = refl

pub behind-all : (insts : List RawInst) → behind insts (Ok []) ≡ Ok insts
behind-all insts = ap Ok (append-nil insts)
