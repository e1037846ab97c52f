-- An instruction that is read has the words that it is read from, and the words of an instruction are read again.
use Rattle.std.proofs.Common.{map, ◌≡◌, ℕ, zero, suc, ◌^◌, ◌<◌, ◌≤◌, List, [], ◌∷◌, ◌++◌, length, Option, Some, None, Result, Ok, Err, refl, sym, ap, subst, ◌∙◌, arith, inl, inr}
use Rattle.std.specs.Prelude.{◌⊎◌, Bool, true, false, nat_lt, if◌then◌else◌, IsSome, IfOk, IfErr}
use Rattle.std.specs.List.{AllByRecursion}
use Rattle.std.proofs.lemmas.Bool.{cases_lt, lt-ltb, le-ltb}
use Rattle.spv_base.specs.Answers.{Answers}
use Rattle.spv_base.specs.declared.causes.Fail.{Fail}
use Rattle.spv_base.specs.declared.causes.Fail.TheVariants.{Refused, NoMemory}
use Rattle.spv_base.specs.declared.causes.NoMemory.{NoMemory as NoRoom}
use Rattle.spv_base.specs.declared.causes.Refusal.{Refusal}
use Rattle.spv_base.specs.declared.instructions.Inst.{Inst}
use Rattle.spv_base.specs.declared.instructions.Operand.{Operand}
use Rattle.spv_base.specs.declared.instructions.Operand.TheVariants.{Id, Lit, Text}
use Rattle.spv_base.specs.declared.instructions.RawInst.{RawInst}
use Rattle.spv_ops.specs.declared.grammar.Head.{Head}
use Rattle.spv_ops.specs.declared.grammar.Head.TheVariants as head
use Rattle.spv_ops.specs.declared.reading.WrongOperands.{WrongOperands}
use Rattle.spv_ops.specs.Opcodes.{Row}
use Rattle.spv_ops.specs.Grammar.{row_of}
use Rattle.spv_ops.specs.Steps.{◌>>=◌}
use Rattle.spv_ops.specs.Reading.{head_at, operands_of, inst_by, inst_in, inst_of, insts_of, or_wrong_operands, unknown_opcode, wrong_operands}
use Rattle.spv_ops.specs.Encoding.{words_of_head, words_of_operands, words_after_first, raw_of, words_of_raw, HasHead, HasNoZero, HasBytes, IsFormed, IsInst, IsRefused}
use Rattle.spv_ops.proofs.StringLaws.{AreWords, IsText}
use Rattle.spv_ops.proofs.OperandLaws.{AreSound, bind_ok, operands_take, operands_again}

-- ---- sound texts are those of bytes that are not zero

text_parts : (bytes : List ℕ) → IsText bytes → AllByRecursion (λ byte. 0 < byte) bytes × AllByRecursion (λ byte. byte < 256) bytes
text_parts [] h = (tt, tt)
text_parts (b ∷ bytes) h = let more = text_parts bytes h.1 in ((h.0.0, more.0), (h.0.1, more.1))

text_both : (bytes : List ℕ) → AllByRecursion (λ byte. 0 < byte) bytes → AllByRecursion (λ byte. byte < 256) bytes → IsText bytes
text_both [] h k = tt
text_both (b ∷ bytes) h k = ((h.0, k.0), text_both bytes h.1 k.1)

sound_parts : (operands : List Operand) → AreSound operands → AllByRecursion HasNoZero operands × AllByRecursion HasBytes operands
sound_parts [] h = (tt, tt)
sound_parts (Id id ∷ operands) h = let more = sound_parts operands h.1 in ((tt, more.0), (tt, more.1))
sound_parts (Lit literal ∷ operands) h = let more = sound_parts operands h.1 in ((tt, more.0), (tt, more.1))
sound_parts (Text bytes ∷ operands) h = let text = text_parts bytes h.0 in let more = sound_parts operands h.1 in ((text.0, more.0), (text.1, more.1))

sound_both : (operands : List Operand) → AllByRecursion HasNoZero operands → AllByRecursion HasBytes operands → AreSound operands
sound_both [] h k = tt
sound_both (Id id ∷ operands) h k = (tt, sound_both operands h.1 k.1)
sound_both (Lit literal ∷ operands) h k = (tt, sound_both operands h.1 k.1)
sound_both (Text bytes ∷ operands) h k = (text_both bytes h.0 k.0, sound_both operands h.1 k.1)

-- ---- the result type and the result id

abbrev Heads : Type 0
Heads = ℕ × ℕ × List ℕ

abbrev done : Heads → Result Heads WrongOperands
done x = Ok x

ok_is : (x y : Heads) → done x ≡ done y → x ≡ y
ok_is x y e = cc

record TakesHead (h : Head) (words : List ℕ) (x : Heads) : Type 0 where
  has_head : HasHead h x.0 x.1
  spelled : words ≡ words_of_head h x.0 x.1 ++ x.2
  more_fit : AreWords x.2

head_takes : (h : Head) (words : List ℕ) (x : Heads) → AreWords words → head_at h words ≡ done x → TakesHead h words x
head_takes head.Plain words x fits e = subst (TakesHead head.Plain words) (ok_is (0, 0, words) x e) (record { has_head = (refl, refl); spelled = refl; more_fit = fits })
head_takes head.Result [] x fits e = absurd cc
head_takes head.Result (id ∷ words) x fits e =
    subst (TakesHead head.Result (id ∷ words)) (ok_is (0, id, words) x e) (record { has_head = refl; spelled = refl; more_fit = λ i. fits (suc i) })
head_takes head.TypedResult [] x fits e = absurd cc
head_takes head.TypedResult (ty ∷ []) x fits e = absurd cc
head_takes head.TypedResult (ty ∷ id ∷ words) x fits e =
    subst (TakesHead head.TypedResult (ty ∷ id ∷ words)) (ok_is (ty, id, words) x e) (record { has_head = tt; spelled = refl; more_fit = λ i. fits (suc (suc i)) })

head_again : (h : Head) (ty id : ℕ) (words : List ℕ) → HasHead h ty id → head_at h (words_of_head h ty id ++ words) ≡ done (ty, id, words)
head_again head.Plain ty id words has = rw (has.0, has.1) refl
head_again head.Result ty id words has = rw has refl
head_again head.TypedResult ty id words has = refl

-- ---- instructions

abbrev made : RawInst → ℕ → ℕ → List Operand → Inst
made raw ty id operands = record { word = raw.word; op = raw.op; ty = ty; id = id; operands = operands }

-- what an instruction is that was read from these words
pub record IsRead (raw : RawInst) (inst : Inst) : Type 0 where
  pub is_inst : IsInst inst
  pub encodes : raw_of inst ≡ raw
  pub bytes : AllByRecursion HasBytes inst.operands

abbrev inst_ok : Inst → Result Inst Refusal
inst_ok inst = Ok inst

inst_is : (x y : Inst) → Path (Result Inst WrongOperands) (Ok x) (Ok y) → x ≡ y
inst_is x y e = cc

or_ok : (word : ℕ) (read : Result Inst WrongOperands) (inst : Inst) → or_wrong_operands word read ≡ inst_ok inst → read ≡ Ok inst
or_ok word (Ok x) inst e = cc
or_ok word (Err d) inst e = absurd cc

raw_is : (raw : RawInst) (row : Row) (ty id : ℕ) (operands : List Operand) → row_of raw.op ≡ Some row
    → raw.rest ≡ words_of_head row.2 ty id ++ words_of_operands operands → raw_of (made raw ty id operands) ≡ raw
unfolding raw_of
raw_is raw row ty id operands opcode spelled =
    ap (λ (o : Option Row). made_raw raw (words_after_first o (made raw ty id operands))) opcode ∙ ap (made_raw raw) (sym spelled)
  where
    made_raw : RawInst → List ℕ → RawInst
    made_raw r words = record { word = r.word; op = r.op; rest = words }

pub by_takes : (raw : RawInst) (row : Row) (inst : Inst) → row_of raw.op ≡ Some row → length raw.rest < 65535 → AreWords raw.rest
    → inst_by row raw ≡ Ok inst → IsRead raw inst
unfolding inst_by
by_takes raw row inst opcode short fits e =
    let a = bind_ok (head_at row.2 raw.rest) (λ h. operands_of row.3 row.4 h.2 >>= λ operands. Ok (made raw h.0 h.1 operands)) inst e in
    let b = bind_ok (operands_of row.3 row.4 a.0.2) (λ operands. Ok (made raw a.0.0 a.0.1 operands)) inst a.2 in
    let h = head_takes row.2 raw.rest a.0 fits a.1 in
    let o = operands_take row.3 row.4 a.0.2 b.0 h.more_fit b.1 in
    let texts = sound_parts b.0 o.sound in
    let spelled : raw.rest ≡ words_of_head row.2 a.0.0 a.0.1 ++ words_of_operands b.0 = h.spelled ∙ ap (λ (ws : List ℕ). words_of_head row.2 a.0.0 a.0.1 ++ ws) o.spelled in
    let raw_same : raw_of (made raw a.0.0 a.0.1 b.0) ≡ raw = raw_is raw row a.0.0 a.0.1 b.0 opcode spelled in
    subst (IsRead raw) (inst_is (made raw a.0.0 a.0.1 b.0) inst b.2)
    (record {
      is_inst = record {
        row = row;
        opcode = opcode;
        head = h.has_head;
        operands = o.follows;
        texts = texts.0;
        count = subst (λ (r : RawInst). length (words_of_raw r) ≤ 65535) (sym raw_same) (omega arith);
      };
      encodes = raw_same;
      bytes = texts.1;
    })

in_takes : (o : Option Row) (raw : RawInst) (inst : Inst) → row_of raw.op ≡ o → AreWords raw.rest → inst_in o raw ≡ inst_ok inst → IsRead raw inst
in_takes None raw inst opcode fits e = absurd cc
in_takes (Some row) raw inst opcode fits e =
    elim (cases_lt (length raw.rest) 65535) [
      | inl short ↦
          let is : inst_in (Some row) raw ≡ or_wrong_operands raw.word (inst_by row raw) = rw (lt-ltb (length raw.rest) 65535 short) refl in
          by_takes raw row inst opcode short fits (or_ok raw.word (inst_by row raw) inst (sym is ∙ e))
      | inr long ↦
          let is : inst_in (Some row) raw ≡ Err (wrong_operands raw.word) = rw (le-ltb (length raw.rest) 65535 long) refl in
          let wrong : Err (wrong_operands raw.word) ≡ inst_ok inst = sym is ∙ e in absurd cc
    ]

-- an instruction that was read has these words
pub inst_takes : (raw : RawInst) (inst : Inst) → AreWords raw.rest → inst_of raw ≡ Ok inst → IsRead raw inst
unfolding inst_of
inst_takes raw inst fits e = in_takes (row_of raw.op) raw inst refl fits e

-- what is read by a grammar follows it
pub by_formed : (raw : RawInst) (row : Row) (inst : Inst) → row_of raw.op ≡ Some row → AreWords raw.rest → inst_by row raw ≡ Ok inst → IsFormed inst
unfolding inst_by
by_formed raw row inst opcode fits e =
    let a = bind_ok (head_at row.2 raw.rest) (λ h. operands_of row.3 row.4 h.2 >>= λ operands. Ok (made raw h.0 h.1 operands)) inst e in
    let b = bind_ok (operands_of row.3 row.4 a.0.2) (λ operands. Ok (made raw a.0.0 a.0.1 operands)) inst a.2 in
    let h = head_takes row.2 raw.rest a.0 fits a.1 in
    let o = operands_take row.3 row.4 a.0.2 b.0 h.more_fit b.1 in
    let texts = sound_parts b.0 o.sound in
    subst IsFormed (inst_is (made raw a.0.0 a.0.1 b.0) inst b.2)
    (record { row = row; opcode = opcode; head = h.has_head; operands = o.follows; texts = texts.0 })

by_again : (raw : RawInst) (row : Row) (inst : Inst) → raw.word ≡ inst.word → raw.op ≡ inst.op → raw.rest ≡ words_of_head row.2 inst.ty inst.id ++ words_of_operands inst.operands
    → HasHead row.2 inst.ty inst.id → operands_of row.3 row.4 (words_of_operands inst.operands) ≡ Ok inst.operands → inst_by row raw ≡ Ok inst
unfolding inst_by
by_again raw row inst word op spelled has read = rw (spelled, head_again row.2 inst.ty inst.id (words_of_operands inst.operands) has, read, word, op) refl

-- the words of an instruction are read as that instruction
pub inst_again : (inst : Inst) → IsInst inst → AllByRecursion HasBytes inst.operands → inst_of (raw_of inst) ≡ Ok inst
unfolding inst_of raw_of
inst_again inst is bytes =
    let row = is.row in
    let raw : RawInst = raw_of inst in
    let spelled : raw.rest ≡ words_of_head row.2 inst.ty inst.id ++ words_of_operands inst.operands = ap (λ (o : Option Row). words_after_first o inst) is.opcode in
    let short : length raw.rest < 65535 = let count = is.count in omega arith in
    let read = operands_again row.3 row.4 inst.operands is.operands (sound_both inst.operands is.texts bytes) in
    let one = by_again raw row inst refl refl spelled is.head read in
    ap (λ (o : Option Row). inst_in o raw) is.opcode ∙ rw (lt-ltb (length raw.rest) 65535 short, one) refl

pub raw_op : (inst : Inst) → (raw_of inst).op ≡ inst.op
unfolding raw_of
raw_op inst = refl

-- the words of an instruction of a grammar are read by that grammar as that instruction
pub formed_again : (row : Row) (inst : Inst) → row_of inst.op ≡ Some row → IsFormed inst → AllByRecursion HasBytes inst.operands → inst_by row (raw_of inst) ≡ Ok inst
unfolding raw_of
formed_again row inst opcode is bytes =
    let same : is.row ≡ row = row_is is.row row (sym is.opcode ∙ opcode) in
    let raw : RawInst = raw_of inst in
    let spelled : raw.rest ≡ words_of_head is.row.2 inst.ty inst.id ++ words_of_operands inst.operands = ap (λ (o : Option Row). words_after_first o inst) is.opcode in
    let read = operands_again is.row.3 is.row.4 inst.operands is.operands (sound_both inst.operands is.texts bytes) in
    subst (λ (r : Row). inst_by r raw ≡ Ok inst) same (by_again raw is.row inst refl refl spelled is.head read)
  where
    row_is : (x y : Row) → Path (Option Row) (Some x) (Some y) → x ≡ y
    row_is x y e = cc

-- ---- what a call answers

pub encodes : (raw : RawInst) (result : Result Inst (Fail Refusal)) → AreWords raw.rest → Answers (inst_of raw) result → IfOk result (λ i. IsInst i × (raw_of i ≡ raw))
encodes raw (Ok inst) fits e = let read = inst_takes raw inst fits e in (read.is_inst, read.encodes)
encodes raw (Err e) fits given = tt

pub only : (raw : RawInst) (result : Result Inst (Fail Refusal)) → Answers (inst_of raw) result
    → (i : Inst) → IsInst i → AllByRecursion HasBytes i.operands → raw_of i ≡ raw → Answers (Ok i) result
only raw result given i is bytes e = subst (λ (due : Result Inst Refusal). Answers due result) (ap inst_of (sym e) ∙ inst_again i is bytes) given

refusal_is : (x y : Refusal) → Path (Result Inst Refusal) (Err x) (Err y) → y ≡ x
refusal_is x y e = cc

or_err : (word : ℕ) (read : Result Inst WrongOperands) (refusal : Refusal) → Path (Result Inst Refusal) (or_wrong_operands word read) (Err refusal) → refusal ≡ wrong_operands word
or_err word (Ok x) refusal e = absurd cc
or_err word (Err d) refusal e = refusal_is (wrong_operands word) refusal e

-- a refusal, by whether the opcode is in the table
in_refuses : (o : Option Row) (raw : RawInst) (refusal : Refusal) → inst_in o raw ≡ Err refusal
    → ((o ≡ None) × (refusal ≡ unknown_opcode raw.word)) ⊎ (IsSome o × (refusal ≡ wrong_operands raw.word))
in_refuses None raw refusal e = inl (refl, refusal_is (unknown_opcode raw.word) refusal e)
in_refuses (Some row) raw refusal e =
    inr (
      refl,
      elim (cases_lt (length raw.rest) 65535) [
        | inl short ↦
            let is : inst_in (Some row) raw ≡ or_wrong_operands raw.word (inst_by row raw) = rw (lt-ltb (length raw.rest) 65535 short) refl in
            or_err raw.word (inst_by row raw) refusal (sym is ∙ e)
        | inr long ↦
            let is : inst_in (Some row) raw ≡ Err (wrong_operands raw.word) = rw (le-ltb (length raw.rest) 65535 long) refl in
            refusal_is (wrong_operands raw.word) refusal (sym is ∙ e)
      ],
    )

refuses : (raw : RawInst) (refusal : Refusal) → inst_of raw ≡ Err refusal → IsRefused raw (Refused refusal)
unfolding inst_of
refuses raw refusal e =
    elim (in_refuses (row_of raw.op) raw refusal e) [
      | inl unknown ↦ inl unknown
      | inr wrong ↦ inr (
        wrong.0,
        (λ inst is bytes same.
            let read : Path (Result Inst Refusal) (Err refusal) (Ok inst) = sym e ∙ ap inst_of (sym same) ∙ inst_again inst is bytes in absurd cc),
        wrong.1,
      )
    ]

pub refused : (raw : RawInst) (result : Result Inst (Fail Refusal)) → Answers (inst_of raw) result → IfErr result (IsRefused raw)
refused raw (Ok inst) given = tt
refused raw (Err (Refused refusal)) given = refuses raw refusal given
refused raw (Err NoMemory) given = tt

-- each number of a list is a word
pub words_from : (words : List ℕ) → AllByRecursion (λ w. w < 2 ^ 32) words → AreWords words
words_from [] h i = omega arith
words_from (w ∷ words) h zero = h.0
words_from (w ∷ words) h (suc i) = words_from words h.1 i

-- ---- lists

abbrev list_ok : List Inst → Result (List Inst) Refusal
list_ok insts = Ok insts

list_is : (x y : List Inst) → list_ok x ≡ list_ok y → x ≡ y
list_is x y e = cc

abbrev AreTheInsts : List RawInst → List Inst → Type 0
AreTheInsts raws insts = AllByRecursion IsInst insts × (map raw_of insts ≡ raws)

pub insts_take : (raws : List RawInst) (insts : List Inst) → AllByRecursion (λ r. AllByRecursion (λ w. w < 2 ^ 32) r.rest) raws → insts_of raws ≡ Ok insts → AreTheInsts raws insts
unfolding insts_of
insts_take [] insts fits e = subst (AreTheInsts []) (list_is [] insts e) (tt, refl)
insts_take (raw ∷ raws) insts fits e =
    let a = bind_ok (inst_of raw) (λ inst. insts_of raws >>= λ more. Ok (inst ∷ more)) insts e in
    let b = bind_ok (insts_of raws) (λ more. Ok (a.0 ∷ more)) insts a.2 in
    let first = inst_takes raw a.0 (words_from raw.rest fits.0) a.1 in
    let more = insts_take raws b.0 fits.1 b.1 in
    subst (AreTheInsts (raw ∷ raws)) (list_is (a.0 ∷ b.0) insts b.2) ((first.is_inst, more.0), ap2 first.encodes more.1)
  where
    ap2 : {x y : RawInst} {xs ys : List RawInst} → x ≡ y → xs ≡ ys → (x ∷ xs) ≡ (y ∷ ys)
    ap2 {x} {y} {xs} {ys} e f = ap (λ (r : RawInst). r ∷ xs) e ∙ ap (λ (rs : List RawInst). y ∷ rs) f

pub insts_again : (insts : List Inst) → AllByRecursion IsInst insts → AllByRecursion (λ i. AllByRecursion HasBytes i.operands) insts → insts_of (map raw_of insts) ≡ Ok insts
unfolding insts_of
insts_again [] are bytes = refl
insts_again (inst ∷ insts) are bytes = rw (inst_again inst are.0 bytes.0, insts_again insts are.1 bytes.1) refl

-- ---- words

by_stands : (row : Row) (raw : RawInst) (inst : Inst) → inst_by row raw ≡ Ok inst → inst.word ≡ raw.word
unfolding inst_by
by_stands row raw inst e =
    let head = bind_ok (head_at row.2 raw.rest) (λ head. operands_of row.3 row.4 head.2 >>= λ operands. Ok (record { word = raw.word; op = raw.op; ty = head.0; id = head.1; operands = operands })) inst e in
    let rest = bind_ok (operands_of row.3 row.4 head.0.2) (λ operands. Ok (record { word = raw.word; op = raw.op; ty = head.0.0; id = head.0.1; operands = operands })) inst head.2 in
    word_is (record { word = raw.word; op = raw.op; ty = head.0.0; id = head.0.1; operands = rest.0 }) inst rest.2
  where
    word_is : (x y : Inst) → Path (Result Inst WrongOperands) (Ok x) (Ok y) → y.word ≡ x.word
    word_is x y same = cc

in_stands : (o : Option Row) (raw : RawInst) (inst : Inst) → inst_in o raw ≡ Ok inst → inst.word ≡ raw.word
in_stands None raw inst e = absurd cc
in_stands (Some row) raw inst e = by_length (nat_lt (length raw.rest) 65535) e
  where
    by_length : (b : Bool) → (if b then or_wrong_operands raw.word (inst_by row raw) else Err (wrong_operands raw.word)) ≡ Ok inst → inst.word ≡ raw.word
    by_length true is = by_stands row raw inst (or_ok raw.word (inst_by row raw) inst is)
    by_length false is = absurd cc

pub insts_stand : (raws : List RawInst) (insts : List Inst) → insts_of raws ≡ Ok insts → map (λ (i : Inst). i.word) insts ≡ map (λ (r : RawInst). r.word) raws
unfolding insts_of inst_of
insts_stand [] insts e = ap (map (λ (i : Inst). i.word)) (sym (list_is [] insts e))
insts_stand (raw ∷ raws) insts e =
    let a = bind_ok (inst_of raw) (λ inst. insts_of raws >>= λ more. Ok (inst ∷ more)) insts e in
    let b = bind_ok (insts_of raws) (λ more. Ok (a.0 ∷ more)) insts a.2 in
    let first : a.0.word ≡ raw.word = in_stands (row_of raw.op) raw a.0 a.1 in
    let more = insts_stand raws b.0 b.1 in
    subst (λ (is : List Inst). map (λ (i : Inst). i.word) is ≡ raw.word ∷ map (λ (r : RawInst). r.word) raws) (list_is (a.0 ∷ b.0) insts b.2) (rw (first, more) refl)

-- ---- what was written

-- what was written is read again
pub again : (inst : Inst) (result : Result RawInst NoRoom) → IsInst inst → IfOk result (λ r. (r ≡ raw_of inst) × AllByRecursion HasBytes inst.operands) → IfOk result (λ r. inst_of r ≡ Ok inst)
again inst (Ok raw) is given = ap inst_of given.0 ∙ inst_again inst is given.1
again inst (Err e) is given = tt
