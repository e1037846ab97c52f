-- The instructions of a module's words are the ones that, joined, are the words; a refusal stands at the first that is not whole.
use Rattle.std.proofs.Common.{◌≡◌, ℕ, zero, suc, ◌+◌, ◌-◌, ◌*◌, ◌^◌, ◌<◌, ◌≤◌, ◌==◌, nat_lt, ◌||◌, if◌then◌else◌, Bool, false, true, List, [], ◌∷◌, ◌++◌, length, take, drop, refl, ap, ◌∙◌, ◌⊎◌, arith, Result, Ok, Err, length-append, append_assoc}
use Rattle.std.proofs.Math.Seq.{drop-append_seam, take-append_seam}
use Rattle.std.proofs.lemmas.List.{get_or-drop, length-take-le, take-append-drop}
use Rattle.std.specs.List.{flat_map, AllByRecursion}
use Rattle.spv_base.specs.declared.causes.Refusal.{Refusal}
use Rattle.spv_base.specs.declared.instructions.RawInst.{RawInst}
use Rattle.spv_words.specs.Words.{Fit32}
use Rattle.spv_words.specs.Cuts.{count_of, opcode_of, before, cut, raw_of, words_in, StandFrom, AreCutFrom, BreaksOff}
use Rattle.spv_words.proofs.CutLemmas.{cut-left, cut-cons}

pub Fit32-drop : (left : ℕ) (words : List ℕ) → Fit32 words → Fit32 (drop left words)
Fit32-drop left words fits = λ k. rw (get_or-drop left words k 0) (fits (left + k))

-- instructions that stand from a place on are above every word in front of it
stand-above : (place low : ℕ) (insts : List RawInst) → low < place → StandFrom place insts → AllByRecursion (λ later. low < later.word) insts
stand-above place low [] below stand = tt
stand-above place low (inst ∷ insts) below stand = (omega (arith, below, stand.0), stand-above (place + suc (length inst.rest)) low insts (omega (arith, below)) stand.3)

-- the instruction that is cut from the front of some words
pub front : ℕ → ℕ → List ℕ → RawInst
front place first words = record { word = place; op = opcode_of first; rest = take (count_of first - 1) words }

module _ (place first : ℕ) (words : List ℕ) (some : 1 ≤ count_of first) (inside : count_of first ≤ suc (length words)) where
  length-front : length (front place first words).rest ≡ count_of first - 1
  unfolding front
  length-front = length-take-le (count_of first - 1) words (omega (arith, inside))

  words_in-front : words_in (front place first words) ++ drop (count_of first - 1) words ≡ first ∷ words
  unfolding front
  words_in-front =
      let size = length-front in
      let number : 65536 * suc (count_of first - 1) + opcode_of first ≡ first = omega (arith, some) in
      rw (size, number) (ap (λ rest. first ∷ rest) (take-append-drop (count_of first - 1) words))

  stand-front : (insts : List RawInst) → first < 2 ^ 32 → StandFrom (suc place + (count_of first - 1)) insts → StandFrom place (front place first words ∷ insts)
  unfolding front
  stand-front insts fits stand =
      let size = length-front in
      let next : place + suc (count_of first - 1) ≡ suc place + (count_of first - 1) = omega arith in
      (refl, omega arith, omega (arith, size, some, fits), rw (size, next) stand)

  pub cut-front : (insts : List RawInst) → first < 2 ^ 32 → AreCutFrom (suc place + (count_of first - 1)) (drop (count_of first - 1) words) insts
      → AreCutFrom place (first ∷ words) (front place first words ∷ insts)
  cut-front insts fits rest =
      record {
        joined = ap (λ behind. words_in (front place first words) ++ behind) rest.joined ∙ words_in-front;
        stand = stand-front insts fits rest.stand;
        ascend = (unfold front in stand-above (suc place + (count_of first - 1)) place insts (omega arith) rest.stand, rest.ascend);
      }

-- whether the instruction in front is whole
broken : ℕ → List ℕ → Bool
broken first words = (count_of first == 0) || nat_lt (suc (length words)) (count_of first)

whole : (first : ℕ) (words : List ℕ) → broken first words ≡ false → (1 ≤ count_of first) × (count_of first ≤ suc (length words))
unfolding broken
whole first words h = (grind (arith, h), grind (arith, h))

not_whole : (first : ℕ) (words : List ℕ) → broken first words ≡ true → (count_of first ≡ 0) ⊎ (suc (length words) < count_of first)
unfolding broken
not_whole first words h = grind (arith, h)

-- the instruction in front, where what is behind it is cut
joined-front : (place first : ℕ) (words : List ℕ) (insts : List RawInst) → first < 2 ^ 32
    → ((rest : List RawInst) → count_of first - 1 ≤ length words → cut (suc place) (count_of first - 1) words ≡ Ok rest
    → AreCutFrom (suc place + (count_of first - 1)) (drop (count_of first - 1) words) rest)
    → cut place 0 (first ∷ words) ≡ Ok insts → AreCutFrom place (first ∷ words) insts
joined-front place first words insts fits rest_cut e = by_front (broken first words) refl (unfold broken in unfold front in e)
  where
    behind : (r : Result (List RawInst) Refusal) → cut (suc place) (count_of first - 1) words ≡ r → broken first words ≡ false → before (front place first words) r ≡ Ok insts
        → AreCutFrom place (first ∷ words) insts
    behind (Ok rest) is kept eq =
        let parts = whole first words kept in
        let these : insts ≡ front place first words ∷ rest = cc in
        rw these (cut-front place first words parts.0 parts.1 rest fits (rest_cut rest (omega (arith, parts.1)) is))
    behind (Err refusal) is kept eq = cc

    by_front : (b : Bool) → broken first words ≡ b → (if b then Err (record { code = 5; word = place }) else before (front place first words) (cut (suc place) (count_of first - 1) words)) ≡ Ok insts
        → AreCutFrom place (first ∷ words) insts
    by_front true is eq = cc
    by_front false is eq = behind (cut (suc place) (count_of first - 1) words) refl is eq

-- the instructions, joined, are the words
pub cut-joined : (place left : ℕ) (words : List ℕ) (insts : List RawInst) → left ≤ length words → Fit32 words → cut place left words ≡ Ok insts
    → AreCutFrom (place + left) (drop left words) insts
cut-joined place zero [] insts h fits e = let none : insts ≡ [] = cc in rw none (record { joined = refl; stand = tt; ascend = tt })
cut-joined place (suc left) [] insts h fits e = absurd (omega (arith, h))
cut-joined place (suc left) (word ∷ words) insts h fits e =
    let same : place + suc left ≡ suc place + left = omega arith in
    rw same (cut-joined (suc place) left words insts (omega (arith, h)) (λ k. fits (suc k)) e)
cut-joined place zero (first ∷ words) insts h fits e =
    let same : place + zero ≡ place = omega arith in
    rw same (joined-front place first words insts (fits 0) (λ rest within is. cut-joined (suc place) (count_of first - 1) words rest within (λ k. fits (suc k)) is) e)

pub raw_of-joined : (words : List ℕ) (insts : List RawInst) → Fit32 words → raw_of words ≡ Ok insts → AreCutFrom 5 (drop 5 words) insts
unfolding raw_of
raw_of-joined words insts fits is = cut-joined 5 0 (drop 5 words) insts (omega arith) (Fit32-drop 5 words fits) is

-- whole instructions in front of those behind which one is not whole
breaks-front : (place first : ℕ) (words : List ℕ) (refusal : Refusal) → 1 ≤ count_of first → count_of first ≤ suc (length words) → first < 2 ^ 32
    → BreaksOff (suc place + (count_of first - 1)) (drop (count_of first - 1) words) refusal → BreaksOff place (first ∷ words) refusal
breaks-front place first words refusal some inside fits off =
    let size = length-front place first words some inside in
    let front_words = words_in (front place first words) in
    let long : length (words_in (front place first words) ++ flat_map words_in off.insts) ≡ suc (count_of first - 1) + length (flat_map words_in off.insts) =
    omega (arith, size, length-append front_words (flat_map words_in off.insts)) in
    record {
      insts = front place first words ∷ off.insts;
      first = off.first;
      behind = off.behind;
      joined = append_assoc front_words (flat_map words_in off.insts) (off.first ∷ off.behind) ∙ ap (λ rest. front_words ++ rest) off.joined ∙ words_in-front place first words some inside;
      stand = stand-front place first words some inside off.insts fits off.stand;
      count = off.count;
      word = omega (arith, off.word, long);
      code = off.code;
    }

refused-front : (place first : ℕ) (words : List ℕ) (refusal : Refusal) → first < 2 ^ 32
    → (count_of first - 1 ≤ length words → cut (suc place) (count_of first - 1) words ≡ Err refusal
    → BreaksOff (suc place + (count_of first - 1)) (drop (count_of first - 1) words) refusal)
    → cut place 0 (first ∷ words) ≡ Err refusal → BreaksOff place (first ∷ words) refusal
refused-front place first words refusal fits rest_off e = by_front (broken first words) refl (unfold broken in unfold front in e)
  where
    behind : (r : Result (List RawInst) Refusal) → cut (suc place) (count_of first - 1) words ≡ r → broken first words ≡ false → before (front place first words) r ≡ Err refusal
        → BreaksOff place (first ∷ words) refusal
    behind (Ok rest) is kept eq = cc
    behind (Err other) is kept eq =
        let parts = whole first words kept in
        let this : other ≡ refusal = cc in
        breaks-front place first words refusal parts.0 parts.1 fits (rest_off (omega (arith, parts.1)) (is ∙ ap Err this))

    by_front : (b : Bool) → broken first words ≡ b → (if b then Err (record { code = 5; word = place }) else before (front place first words) (cut (suc place) (count_of first - 1) words)) ≡ Err refusal
        → BreaksOff place (first ∷ words) refusal
    by_front true is eq =
        let this : refusal ≡ record { code = 5; word = place } = cc in
        rw this (record { insts = []; first = first; behind = words; joined = refl; stand = tt; count = not_whole first words is; word = omega arith; code = refl })
    by_front false is eq = behind (cut (suc place) (count_of first - 1) words) refl is eq

-- the refusal stands at the first instruction that is not whole
pub cut-refused_off : (place left : ℕ) (words : List ℕ) (refusal : Refusal) → left ≤ length words → Fit32 words → cut place left words ≡ Err refusal
    → BreaksOff (place + left) (drop left words) refusal
cut-refused_off place zero [] refusal h fits e = cc
cut-refused_off place (suc left) [] refusal h fits e = cc
cut-refused_off place (suc left) (word ∷ words) refusal h fits e =
    let same : place + suc left ≡ suc place + left = omega arith in
    rw same (cut-refused_off (suc place) left words refusal (omega (arith, h)) (λ k. fits (suc k)) e)
cut-refused_off place zero (first ∷ words) refusal h fits e =
    let same : place + zero ≡ place = omega arith in
    rw same (refused-front place first words refusal (fits 0) (λ within is. cut-refused_off (suc place) (count_of first - 1) words refusal within (λ k. fits (suc k)) is) e)

-- instructions that stand one after the other are the ones that are cut from their words
pub cut-only : (place : ℕ) (insts : List RawInst) → StandFrom place insts → cut place 0 (flat_map words_in insts) ≡ Ok insts
cut-only place [] stand = refl
cut-only place (inst ∷ insts) stand =
    let size = length inst.rest in
    let first = 65536 * suc size + inst.op in
    let words = inst.rest ++ flat_map words_in insts in
    let count : count_of first ≡ suc size = omega (arith, stand.1) in
    let op : opcode_of first ≡ inst.op = omega (arith, stand.1) in
    let one : suc size - 1 ≡ size = omega arith in
    let long : size ≤ length words = omega (arith, length-append inst.rest (flat_map words_in insts)) in
    let head = cut-cons place first words (omega (arith, count)) (omega (arith, count, long)) in
    let behind = cut-left (suc place) size words long in
    let next : suc place + size ≡ place + suc size = omega arith in
    let rest = cut-only (place + suc size) insts stand.3 in
    head ∙ rw (count, op, one, take-append_seam inst.rest (flat_map words_in insts), behind, drop-append_seam inst.rest (flat_map words_in insts), next, rest, ← stand.0) refl
