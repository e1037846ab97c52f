-- The instructions that are decoded from a module's words stand where their words do, and have numbers of 32 bits.
use Rattle.std.proofs.Common.{◌≡◌, ℕ, zero, suc, ◌+◌, ◌*◌, ◌^◌, ◌<◌, ◌≤◌, List, [], ◌∷◌, ◌++◌, Option, Result, Ok, Err, length, drop, refl, sym, ap, ◌∙◌, subst, arith, length-append, length-drop}
use Rattle.spv_text.proofs.Exports.{zero_fits}
use Rattle.std.specs.List.{AllByRecursion, flat_map}
use Rattle.spv_base.specs.declared.causes.Refusal.{Refusal}
use Rattle.spv_base.specs.declared.instructions.Inst.{Inst}
use Rattle.spv_base.specs.declared.instructions.Operand.{Operand}
use Rattle.spv_base.specs.declared.instructions.Operand.TheVariants.{Id, Lit, Text}
use Rattle.spv_base.specs.declared.instructions.RawInst.{RawInst}
use Rattle.spv_words.specs.Cuts.{StandFrom, words_in}
use Rattle.spv_words.specs.Words.{Fit32}
use Rattle.spv_ops.specs.declared.grammar.Head.{Head}
use Rattle.spv_ops.specs.declared.grammar.Head.TheVariants as head
use Rattle.spv_ops.specs.Opcodes.{Row}
use Rattle.spv_ops.specs.Grammar.{row_of}
use Rattle.spv_ops.specs.Steps.{◌>>=◌}
use Rattle.spv_ops.specs.Reading.{inst_of, insts_of}
use Rattle.spv_ops.specs.Strings.{words_of_text}
use Rattle.spv_ops.specs.Encoding.{encoding, head_of, raw_of, words_after_first, words_of_head, words_of_operands, words_of_raw, HasBytes, HasHead, HasNoZero, IsInst}
use Rattle.spv_text.specs.Lines.{IsByte, IsNumber, IsOperand}
use Rattle.spv_text.specs.Reading.{AreInsts, StandsAt}

-- ---- words of 32 bits

abbrev pub Fit : List ℕ → Type 0
Fit words = AllByRecursion (λ w. w < 2 ^ 32) words

pub fit_of : (words : List ℕ) → Fit32 words → Fit words
fit_of [] h = tt
fit_of (w ∷ words) h = (h 0, fit_of words (λ k. h (suc k)))

pub fit_behind : (n : ℕ) (words : List ℕ) → Fit words → Fit (drop n words)
fit_behind zero words h = h
fit_behind (suc n) [] h = tt
fit_behind (suc n) (w ∷ words) h = fit_behind n words h.1

fit_parts : (xs ys : List ℕ) → Fit (xs ++ ys) → Fit xs × Fit ys
fit_parts [] ys h = (tt, h)
fit_parts (x ∷ xs) ys h = let more = fit_parts xs ys h.1 in ((h.0, more.0), more.1)

number : (n : ℕ) → n < 2 ^ 32 → IsNumber n
number n h = omega arith

-- ---- one instruction

text_bytes : (bytes : List ℕ) → AllByRecursion (λ byte. 0 < byte) bytes → AllByRecursion (λ byte. byte < 256) bytes → AllByRecursion IsByte bytes
text_bytes [] low high = tt
text_bytes (b ∷ bytes) low high = ((low.0, high.0), text_bytes bytes low.1 high.1)

in_range : (operands : List Operand) → AllByRecursion HasNoZero operands → AllByRecursion HasBytes operands → Fit (words_of_operands operands) → AllByRecursion IsOperand operands
in_range [] low high fit = tt
in_range (Id id ∷ operands) low high fit = (number id fit.0, in_range operands low.1 high.1 fit.1)
in_range (Lit literal ∷ operands) low high fit = (number literal fit.0, in_range operands low.1 high.1 fit.1)
in_range (Text bytes ∷ operands) low high fit =
    (text_bytes bytes low.0 high.0, in_range operands low.1 high.1 (fit_parts (words_of_text bytes) (words_of_operands operands) fit).1)

head_in_range : (h : Head) (ty id : ℕ) → HasHead h ty id → Fit (words_of_head h ty id) → IsNumber ty × IsNumber id
head_in_range head.Plain ty id has fit = (zero_fits ty has.0, zero_fits id has.1)
head_in_range head.Result ty id has fit = (zero_fits ty has, number id fit.0)
head_in_range head.TypedResult ty id has fit = (number ty fit.0, number id fit.1.0)

word_is : (inst : Inst) (raw : RawInst) → raw_of inst ≡ raw → inst.word ≡ raw.word
unfolding raw_of
word_is inst raw same = ap (λ (r : RawInst). r.word) same

rest_is : (inst : Inst) (raw : RawInst) → raw_of inst ≡ raw → words_after_first (row_of inst.op) inst ≡ raw.rest
unfolding raw_of
rest_is inst raw same = ap (λ (r : RawInst). r.rest) same

stands : (place : ℕ) (raw : RawInst) (inst : Inst) → IsInst inst → AllByRecursion HasBytes inst.operands → raw_of inst ≡ raw → raw.word ≡ place → place ≤ 1048576 → Fit raw.rest → StandsAt place inst
stands place raw inst is bytes same at short fit =
    let here : inst.word ≡ place = word_is inst raw same ∙ at in
    let parts = fit_parts (words_of_head (head_of (row_of inst.op)) inst.ty inst.id) (words_of_operands inst.operands) (subst Fit (sym (rest_is inst raw same)) fit) in
    let has = subst (λ (o : Option Row). HasHead (head_of o) inst.ty inst.id) (sym is.opcode) is.head in
    let numbers = head_in_range (head_of (row_of inst.op)) inst.ty inst.id has parts.0 in
    let word : IsNumber inst.word = omega arith in
    (is, here, (word, numbers.0, numbers.1, in_range inst.operands is.texts bytes parts.1))

-- ---- all instructions

bound : {A B : Type 0} (r : Result A Refusal) (f : A → Result B Refusal) (y : B) → (r >>= f) ≡ Ok y → (x : A) × (r ≡ Ok x) × (f x ≡ Ok y)
bound (Ok x) f y e = (x, refl, e)
bound (Err d) f y e = absurd cc

abbrev done : List Inst → Result (List Inst) Refusal
done insts = Ok insts

list_is : (xs ys : List Inst) → done xs ≡ done ys → xs ≡ ys
list_is xs ys e = cc

none_read : (insts : List Inst) → insts_of [] ≡ done insts → [] ≡ insts
unfolding insts_of
none_read insts e = list_is [] insts e

-- the first instruction, and those behind it
some_read : (raw : RawInst) (raws : List RawInst) (insts : List Inst) → insts_of (raw ∷ raws) ≡ done insts
    → (first : Inst) × (more : List Inst) × (inst_of raw ≡ Ok first) × (insts_of raws ≡ done more) × (first ∷ more ≡ insts)
unfolding insts_of
some_read raw raws insts e =
    let a = bound (inst_of raw) (λ inst. insts_of raws >>= λ more. Ok (inst ∷ more)) insts e in
    let b = bound (insts_of raws) (λ more. Ok (a.0 ∷ more)) insts a.2 in
    (a.0, b.0, a.1, b.1, list_is (a.0 ∷ b.0) insts b.2)

same_words : (raw : RawInst) → words_of_raw raw ≡ words_in raw
same_words raw = let first : (length raw.rest + 1) * 65536 + raw.op ≡ 65536 * suc (length raw.rest) + raw.op = omega arith in ap (λ n. n ∷ raw.rest) first

-- an instruction that is read from words of 32 bits has them
abbrev Reads : Type 0
Reads = (raw : RawInst) (inst : Inst) → AllByRecursion (λ w. w < 2 ^ 32) raw.rest → inst_of raw ≡ Ok inst → IsInst inst × AllByRecursion HasBytes inst.operands × (raw_of inst ≡ raw)

abbrev HaveWords : ℕ → List RawInst → List Inst → Type 0
HaveWords place raws insts = AreInsts place insts × (flat_map encoding insts ≡ flat_map words_in raws)

pub read_from : (place : ℕ) (raws : List RawInst) (insts : List Inst) → Reads → StandFrom place raws → place + length (flat_map words_in raws) ≤ 1048576 → Fit (flat_map words_in raws)
    → insts_of raws ≡ done insts → HaveWords place raws insts
read_from place [] insts reads stand short fit read = subst (HaveWords place []) (none_read insts read) (tt, refl)
read_from place (raw ∷ raws) insts reads stand short fit read =
    let some = some_read raw raws insts read in
    let parts = fit_parts (words_in raw) (flat_map words_in raws) fit in
    let first = reads raw some.0 parts.0.1 some.2 in
    let long : length (words_in raw ++ flat_map words_in raws) ≡ suc (length raw.rest) + length (flat_map words_in raws) = length-append (words_in raw) (flat_map words_in raws) in
    let all : place + (suc (length raw.rest) + length (flat_map words_in raws)) ≤ 1048576 = rw long at short in
    let below : place ≤ 1048576 = omega arith in
    let left : place + suc (length raw.rest) + length (flat_map words_in raws) ≤ 1048576 = omega arith in
    let here = stands place raw some.0 first.0 first.1 first.2 stand.0 below parts.0.1 in
    let words : encoding some.0 ≡ words_in raw = ap (λ (r : RawInst). words_of_raw r) first.2 ∙ same_words raw in
    let next : place + suc (length raw.rest) ≡ place + length (encoding some.0) = ap (λ ws. place + length ws) (sym words) in
    let more = read_from (place + suc (length raw.rest)) raws some.1 reads stand.3 left parts.1 some.3 in
    subst (HaveWords place (raw ∷ raws)) some.4
    ((here, subst (λ n. AreInsts n some.1) next more.0), ap (λ ws. ws ++ flat_map encoding some.1) words ∙ ap (λ ws. words_in raw ++ ws) more.1)

-- what is decoded from the words of a module
pub read_module : (words : List ℕ) (raws : List RawInst) (insts : List Inst) → Reads → Fit32 words → length words ≤ 1048576 → StandFrom 5 raws → flat_map words_in raws ≡ drop 5 words
    → insts_of raws ≡ done insts → AreInsts 5 insts × (flat_map encoding insts ≡ drop 5 words)
read_module words raws insts reads fit short stand joined read =
    let behind : 5 + length (drop 5 words) ≤ 1048576 = rw length-drop (omega arith) in
    let have = read_from 5 raws insts reads stand (rw joined behind) (subst Fit (sym joined) (fit_behind 5 words (fit_of words fit))) read in
    (have.0, have.1 ∙ joined)
