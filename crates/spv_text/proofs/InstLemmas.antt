-- The instruction of a line is one.
use Rattle.std.proofs.Common.{◌≡◌, ℕ, zero, suc, ◌<◌, List, [], ◌∷◌, ◌++◌, Option, Some, Result, Err, length, map, get_or, refl, sym, ap, ◌∙◌, subst, arith}
use Rattle.std.specs.Prelude.{IsSome}
use Rattle.std.specs.List.{AllByRecursion}
use Rattle.spv_base.specs.declared.instructions.Inst.{Inst}
use Rattle.spv_base.specs.declared.instructions.Operand.{Operand}
use Rattle.spv_ops.specs.declared.grammar.Head.{Head}
use Rattle.spv_ops.specs.declared.grammar.Head.TheVariants as head
use Rattle.spv_ops.specs.Opcodes.{Row}
use Rattle.spv_ops.specs.Grammar.{row_of}
use Rattle.spv_ops.specs.Encoding.{head_of, HasHead, IsFormed, IsInst}
use Rattle.spv_text.specs.declared.lines.Part.{Part}
use Rattle.spv_text.specs.declared.lines.Part.TheVariants as part
use Rattle.spv_text.specs.declared.lines.Line.{Line}
use Rattle.spv_base.specs.declared.causes.Fail.{Fail}
use Rattle.spv_base.specs.declared.causes.Fail.TheVariants.{Refused}
use Rattle.spv_text.specs.declared.lines.Wrong.{Wrong}
use Rattle.spv_text.specs.declared.lines.Wrong.TheVariants.{WrongOperands}
use Rattle.spv_text.specs.Lines.{IsLine, IsNumber, IsOperand, IsPart}
use Rattle.spv_text.specs.Listing.{head_parts, line_of, name_of, parts_of}
use Rattle.spv_text.specs.Reading.{HasLineAt, HasPlace, IsOpcode, IsWrongLine, StandsAt}
use Rattle.spv_text.proofs.NameLemmas.{one_opcode, opcode_name}

-- ---- operands

same_operand : (a b : Operand) → part.Operand a ≡ part.Operand b → a ≡ b
same_operand a b e = cc

parts_heads : (p q : Part) (ps qs : List Part) → p ∷ ps ≡ q ∷ qs → (p ≡ q) × (ps ≡ qs)
parts_heads p q ps qs e = (cc, cc)

pub same_operands : (xs ys : List Operand) → map part.Operand xs ≡ map part.Operand ys → xs ≡ ys
same_operands [] [] e = refl
same_operands [] (y ∷ ys) e = absurd (cc)
same_operands (x ∷ xs) [] e = absurd (cc)
same_operands (x ∷ xs) (y ∷ ys) e =
    let h = parts_heads (part.Operand x) (part.Operand y) (map part.Operand xs) (map part.Operand ys) e in
    ap (λ z. z ∷ xs) (same_operand x y h.0) ∙ ap (λ zs. y ∷ zs) (same_operands xs ys h.1)

-- a part that is no operand is among no operands
pub no_operands : (parts : List Part) (i : ℕ) (d : Part) (operands : List Operand) → i < length parts → ((operand : Operand) → get_or parts i d ≡ part.Operand operand → ⊥) → parts ≡ map part.Operand operands → ⊥
no_operands [] i d operands h none e = absurd (omega arith)
no_operands (p ∷ parts) i d [] h none e = absurd (cc)
no_operands (p ∷ parts) zero d (x ∷ operands) h none e = none x (parts_heads p (part.Operand x) parts (map part.Operand operands) e).0
no_operands (p ∷ parts) (suc i) d (x ∷ operands) h none e = no_operands parts i d operands (omega arith) none (parts_heads p (part.Operand x) parts (map part.Operand operands) e).1

-- ---- the result type, the result id and the operands

abbrev Same : ℕ → ℕ → List Operand → ℕ → ℕ → List Operand → Type 0
Same ty id operands ty' id' operands' = (ty ≡ ty') × (id ≡ id') × (operands ≡ operands')

type_heads : (a b : ℕ) → part.ResultType a ≡ part.ResultType b → a ≡ b
type_heads a b e = cc

id_heads : (a b : ℕ) → part.ResultId a ≡ part.ResultId b → a ≡ b
id_heads a b e = cc

one_split : (h : Head) (ty id ty' id' : ℕ) (xs ys : List Operand) → HasHead h ty id → HasHead h ty' id' → head_parts h ty id ++ map part.Operand xs ≡ head_parts h ty' id' ++ map part.Operand ys
    → Same ty id xs ty' id' ys
one_split head.Plain ty id ty' id' xs ys h k e = (h.0 ∙ sym k.0, h.1 ∙ sym k.1, same_operands xs ys e)
one_split head.Result ty id ty' id' xs ys h k e =
    let p = parts_heads _ _ (map part.Operand xs) (map part.Operand ys) e in
    (h ∙ sym k, id_heads id id' p.0, same_operands xs ys p.1)
one_split head.TypedResult ty id ty' id' xs ys h k e =
    let p = parts_heads _ _ (part.ResultId id ∷ map part.Operand xs) (part.ResultId id' ∷ map part.Operand ys) e in
    let q = parts_heads _ _ (map part.Operand xs) (map part.Operand ys) p.1 in
    (type_heads ty ty' p.0, id_heads id id' q.0, same_operands xs ys q.1)

-- the fields of an instruction
same_inst : (i j : Inst) → i.word ≡ j.word → i.op ≡ j.op → Same i.ty i.id i.operands j.ty j.id j.operands → i ≡ j
same_inst i j w o s =
    ap (λ x. record { word = x; op = i.op; ty = i.ty; id = i.id; operands = i.operands }) w
    ∙ ap (λ x. record { word = j.word; op = x; ty = i.ty; id = i.id; operands = i.operands }) o
    ∙ ap (λ x. record { word = j.word; op = j.op; ty = x; id = i.id; operands = i.operands }) s.0
    ∙ ap (λ x. record { word = j.word; op = j.op; ty = j.ty; id = x; operands = i.operands }) s.1
    ∙ ap (λ x. record { word = j.word; op = j.op; ty = j.ty; id = j.id; operands = x }) s.2

pub formed_place : (inst : Inst) → IsFormed inst → HasPlace inst
formed_place inst h = record {
  opcode = subst IsSome (sym h.opcode) refl;
  head = subst (λ (r : Option Row). HasHead (head_of r) inst.ty inst.id) (sym h.opcode) h.head;
}

pub inst_formed : (inst : Inst) → IsInst inst → IsFormed inst
inst_formed inst h = record { row = h.row; opcode = h.opcode; head = h.head; operands = h.operands; texts = h.texts }

-- two such instructions with one line are one
pub one_inst : (i j : Inst) → HasPlace i → HasPlace j → line_of i ≡ line_of j → i ≡ j
one_inst i j h k e =
    let name : name_of i.op ≡ name_of j.op = ap (λ (l : Line). l.name) e in
    let op : i.op ≡ j.op = one_opcode i.op j.op (name_of i.op) (h.opcode, refl) (k.opcode, name) in
    let parts : parts_of i ≡ parts_of j = ap (λ (l : Line). l.parts) e in
    let heads : head_of (row_of i.op) ≡ head_of (row_of j.op) = ap (λ o. head_of (row_of o)) op in
    let parts' : head_parts (head_of (row_of j.op)) i.ty i.id ++ map part.Operand i.operands ≡ head_parts (head_of (row_of j.op)) j.ty j.id ++ map part.Operand j.operands =
    ap (λ x. head_parts x i.ty i.id ++ map part.Operand i.operands) (sym heads) ∙ parts in
    same_inst i j (ap (λ (l : Line). l.word) e) op
    (one_split (head_of (row_of j.op)) i.ty i.id j.ty j.id i.operands j.operands (subst (λ x. HasHead x i.ty i.id) heads h.head) k.head parts')

-- ---- what is wrong with a line

-- no instruction of the opcode's grammar has the line, where its parts are no result type, result id and operands of the grammar
pub parts_wrong : (op : ℕ) (word : ℕ) (line : Line) → IsOpcode op line.name → ((ty id : ℕ) (operands : List Operand) → HasHead (head_of (row_of op)) ty id → line.parts ≡ head_parts (head_of (row_of op)) ty id ++ map part.Operand operands → ⊥)
    → IsWrongLine WrongOperands word line
parts_wrong op word line named none = (
  (op, named),
  λ inst formed e.
      let place = formed_place inst formed in
      let same : inst.op ≡ op = one_opcode inst.op op line.name (place.opcode, ap (λ (l : Line). l.name) e) named in
      none inst.ty inst.id inst.operands (subst (λ o. HasHead (head_of (row_of o)) inst.ty inst.id) same place.head)
      (ap (λ (l : Line). l.parts) e ∙ ap (λ o. head_parts (head_of (row_of o)) inst.ty inst.id ++ map part.Operand inst.operands) same),
)

-- nor where the one instruction that has it isn't of the grammar
pub inst_wrong : (inst : Inst) (word : ℕ) (line : Line) → HasPlace inst → line ≡ line_of inst → (IsFormed inst → ⊥) → IsWrongLine WrongOperands word line
inst_wrong inst word line place e not = (
  (inst.op, (place.opcode, ap (λ (l : Line). l.name) e)),
  λ other formed f.
      not (subst IsFormed (one_inst other inst (formed_place other formed) place (sym f ∙ e)) formed),
)

-- a refusal that is told
abbrev pub told : (T : Type 0) → Wrong → Result T (Fail Wrong)
told T wrong = Err (Refused wrong)

one_told : (T : Type 0) (a b : Wrong) → told T a ≡ told T b → a ≡ b
one_told T a b e = cc

pub as_told : (T : Type 0) (a b : Wrong) (word : ℕ) (line : Line) → told T a ≡ told T b → IsWrongLine a word line → IsWrongLine b word line
as_told T a b word line e h = subst (λ w. IsWrongLine w word line) (one_told T a b e) h

-- a call hands on why another failed
abbrev pub failed : (T : Type 0) → Fail Wrong → Result T (Fail Wrong)
failed T fail = Err fail

one_fail : (T : Type 0) (f g : Fail Wrong) → failed T f ≡ failed T g → f ≡ g
one_fail T f g e = cc

pub handed_on : (S T : Type 0) (f g : Fail Wrong) → failed S f ≡ failed S g → failed T f ≡ failed T g
handed_on S T f g e = ap (λ (x : Fail Wrong). failed T x) (one_fail S f g e)

pub split_wrong : (row : Row) (op word : ℕ) (line : Line) → row_of op ≡ Some row → IsOpcode op line.name
    → ((ty id : ℕ) (operands : List Operand) → HasHead row.2 ty id → line.parts ≡ head_parts row.2 ty id ++ map part.Operand operands → ⊥) → IsWrongLine WrongOperands word line
split_wrong row op word line e named none =
    parts_wrong op word line named (subst (λ (r : Option Row). (ty id : ℕ) (operands : List Operand) → HasHead (head_of r) ty id → line.parts ≡ head_parts (head_of r) ty id ++ map part.Operand operands → ⊥) (sym e) none)

-- ---- the range of an instruction's numbers and bytes, and its line

operands_written : (operands : List Operand) → AllByRecursion IsOperand operands → AllByRecursion IsPart (map part.Operand operands)
operands_written [] h = tt
operands_written (x ∷ operands) h = (h.0, operands_written operands h.1)

written_operands : (operands : List Operand) → AllByRecursion IsPart (map part.Operand operands) → AllByRecursion IsOperand operands
written_operands [] h = tt
written_operands (x ∷ operands) h = (h.0, written_operands operands h.1)

head_written : (h : Head) (ty id : ℕ) (parts : List Part) → IsNumber ty → IsNumber id → AllByRecursion IsPart parts → AllByRecursion IsPart (head_parts h ty id ++ parts)
head_written head.Plain ty id parts a b k = k
head_written head.Result ty id parts a b k = (b, k)
head_written head.TypedResult ty id parts a b k = (a, (b, k))

pub zero_fits : (n : ℕ) → n ≡ 0 → IsNumber n
zero_fits n e = omega arith

written_head : (h : Head) (ty id : ℕ) (parts : List Part) → HasHead h ty id → AllByRecursion IsPart (head_parts h ty id ++ parts) → IsNumber ty × IsNumber id × AllByRecursion IsPart parts
written_head head.Plain ty id parts h k = (zero_fits ty h.0, zero_fits id h.1, k)
written_head head.Result ty id parts h k = (zero_fits ty h, k.0, k.1)
written_head head.TypedResult ty id parts h k = (k.0, k.1.0, k.1.1)

pub range_line : (word : ℕ) (inst : Inst) → StandsAt word inst → IsLine (line_of inst)
range_line word inst h =
    let place = formed_place inst (inst_formed inst h.0) in
    let range = h.2 in
    (range.0, opcode_name inst.op place.opcode, head_written (head_of (row_of inst.op)) inst.ty inst.id (map part.Operand inst.operands) range.1 range.2 (operands_written inst.operands range.3))

pub line_range : (word : ℕ) (inst : Inst) → HasLineAt word inst → StandsAt word inst
line_range word inst h =
    let place = formed_place inst (inst_formed inst h.0) in
    let it = written_head (head_of (row_of inst.op)) inst.ty inst.id (map part.Operand inst.operands) place.head h.2.2 in
    (h.0, h.1, (h.2.0, it.0, it.1, written_operands inst.operands it.2))
