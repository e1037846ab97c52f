-- Reading operands part by part, as a loop does.
use Rattle.std.proofs.Common.{◌≡◌, ℕ, suc, ◌+◌, ◌<◌, ◌≤◌, true, false, List, ◌++◌, length, get_or, drop, drop-cons, add-one, Result, Ok, Err, refl, sym, ap, ◌∙◌, append_assoc}
use Rattle.std.proofs.lemmas.List.{append-nil, drop_all}
use Rattle.spv_base.specs.Answers.{Answers}
use Rattle.spv_base.specs.declared.causes.Fail.{Fail}
use Rattle.spv_base.specs.declared.causes.Fail.TheVariants.{Refused, NoMemory}
use Rattle.spv_base.specs.declared.instructions.Operand.{Operand}
use Rattle.spv_ops.specs.declared.grammar.Part.{Part}
use Rattle.spv_ops.specs.declared.grammar.Rest.{Rest}
use Rattle.spv_ops.specs.declared.reading.WrongOperands.{WrongOperands}
use Rattle.spv_ops.specs.Steps.{◌>>=◌, after, before}
use Rattle.spv_ops.specs.Rests.{is_rest, rest_operands}
use Rattle.spv_ops.specs.Reading.{part_at, ends_at, operands_of}

abbrev Operands : Type 0
Operands = Result (List Operand) WrongOperands

before-before : (front piece : List Operand) (read : Operands) → before front (before piece read) ≡ before (front ++ piece) read
before-before front piece (Ok x) = ap (λ (ops : List Operand). Ok ops) (sym (append_assoc front piece x))
before-before front piece (Err e) = refl

abbrev done : List Operand × List ℕ → Result (List Operand × List ℕ) WrongOperands
done x = Ok x

ok_is : (x y : List Operand × List ℕ) → done x ≡ done y → x ≡ y
ok_is x y e = cc

-- the step of a part that was read
steps : (front : List Operand) (read : Result (List Operand × List ℕ) WrongOperands) (new : List Operand) (left : List ℕ) (more : List ℕ → Operands)
    → after front read ≡ Ok (new, left) → before front (read >>= λ first. before first.0 (more first.1)) ≡ before new (more left)
steps front (Ok x) new left more e =
    before-before front x.0 (more x.1) ∙ ap (λ (p : List Operand × List ℕ). before p.0 (more p.1)) (ok_is (front ++ x.0, x.1) (new, left) e)
steps front (Err d) new left more e = absurd cc

stops : (front : List Operand) (read : Result (List Operand × List ℕ) WrongOperands) (e : WrongOperands) (more : List ℕ → Operands)
    → after front read ≡ Err e → before front (read >>= λ first. before first.0 (more first.1)) ≡ Err e
stops front (Ok x) e more h = absurd cc
stops front (Err d) e more h = cc

-- a part that was read
pub goes_on : (front new : List Operand) (parts : List Part) (i : ℕ) (d : Part) (rest : Rest) (words left : List ℕ) (total : Operands)
    → i < length parts → ends_at (get_or parts i d) words ≡ false
    → after front (part_at (get_or parts i d) words) ≡ Ok (new, left)
    → before front (operands_of (drop i parts) rest words) ≡ total → before new (operands_of (drop (i + 1) parts) rest left) ≡ total
unfolding operands_of
goes_on front new parts i d rest words left total lt goes read so_far =
    let step : before front (operands_of (drop i parts) rest words) ≡ before new (operands_of (drop (i + 1) parts) rest left)
    = rw (add-one, drop-cons parts i d lt, goes) (steps front (part_at (get_or parts i d) words) new left (operands_of (drop (suc i) parts) rest) read) in
    sym step ∙ so_far

-- a part that was not read
pub ends : (e : Fail WrongOperands) (front : List Operand) (parts : List Part) (i : ℕ) (d : Part) (rest : Rest) (words : List ℕ) (total : Operands)
    → i < length parts → ends_at (get_or parts i d) words ≡ false
    → Answers {T = List Operand × List ℕ} (after front (part_at (get_or parts i d) words)) (Err e)
    → before front (operands_of (drop i parts) rest words) ≡ total → Answers {T = List Operand} total (Err e)
unfolding operands_of
ends NoMemory front parts i d rest words total lt goes read so_far = tt
ends (Refused e) front parts i d rest words total lt goes read so_far =
    let step : before front (operands_of (drop i parts) rest words) ≡ Err e
    = rw (drop-cons parts i d lt, goes) (stops front (part_at (get_or parts i d) words) e (operands_of (drop (suc i) parts) rest) read) in
    sym so_far ∙ step

-- the words end where the instruction may end
pub ends_here : (front : List Operand) (parts : List Part) (i : ℕ) (d : Part) (rest : Rest) (words : List ℕ) (total : Operands)
    → i < length parts → ends_at (get_or parts i d) words ≡ true
    → before front (operands_of (drop i parts) rest words) ≡ total → total ≡ Ok front
unfolding operands_of
ends_here front parts i d rest words total lt here so_far =
    let step : before front (operands_of (drop i parts) rest words) ≡ Ok front
    = rw (drop-cons parts i d lt, here) (ap (λ (ops : List Operand). Ok ops) (append-nil front)) in
    sym so_far ∙ step

-- after the last part
pub rest_is : (front : List Operand) (parts : List Part) (i : ℕ) (rest : Rest) (words : List ℕ) (total : Operands)
    → length parts ≤ i → is_rest rest words ≡ true
    → before front (operands_of (drop i parts) rest words) ≡ total → total ≡ Ok (front ++ rest_operands rest words)
unfolding operands_of
rest_is front parts i rest words total le is so_far =
    let step : before front (operands_of (drop i parts) rest words) ≡ Ok (front ++ rest_operands rest words) = rw (drop_all i parts le, is) refl in
    sym so_far ∙ step

pub rest_is_not : (front : List Operand) (parts : List Part) (i : ℕ) (rest : Rest) (words : List ℕ) (total : Operands)
    → length parts ≤ i → is_rest rest words ≡ false
    → before front (operands_of (drop i parts) rest words) ≡ total → total ≡ Err (record {})
unfolding operands_of
rest_is_not front parts i rest words total le is so_far =
    let step : before front (operands_of (drop i parts) rest words) ≡ Err (record {}) = rw (drop_all i parts le, is) refl in
    sym so_far ∙ step
