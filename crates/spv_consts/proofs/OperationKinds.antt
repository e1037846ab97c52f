-- What the opcodes of each rule of operand types compute: the kinds of their rows in the tables of operations.
use Rattle.std.proofs.Common.{◌≡◌, ℕ, ◌==◌, Bool, true, false, List, [], ◌∷◌, Option, Some, None, refl, subst}
use Rattle.std.specs.Prelude.{◌&&◌, if◌then◌else◌, not}
use Rattle.std.specs.Option.{is_some, option_map_or}
use Rattle.spv_base.specs.Entries.{reads}
use Rattle.spv_base.specs.declared.instructions.Inst.{Inst}
use Rattle.spv_alu.specs.declared.unary_op.UnaryOp.{UnaryOp}
use Rattle.spv_alu.specs.declared.binary_op.BinaryOp.{BinaryOp}
use Rattle.spv_alu.specs.Unary.{UnaryRow, conversion, arithmetic, logical, unary_op, unary_row}
use Rattle.spv_alu.specs.Binary.{BinaryRow, binary_op, binary_row}
use Rattle.spv_alu.specs.Binary as binary
use Rattle.spv_typing.specs.declared.rules.Rule.{Rule}
use Rattle.spv_typing.specs.declared.rules.Rule.TheVariants.{Convert, Bitcast, Integer, Integers, Clamp, Shift, Boolean, Booleans, Reduce, Compare, Extended, Select, InsertField, ExtractField}
use Rattle.spv_typing.specs.Rules.{rule_of, rules}
use Rattle.spv_consts.specs.Context.{Context}
use Rattle.spv_consts.specs.Evaluation.{binary_cells, computed_cells, select_cells, unary_cells}
use Rattle.spv_consts.specs.Lanes.{is_lane_width, row_takes, takes_one}
use Rattle.spv_consts.specs.State.{State}
use Rattle.spv_consts.proofs.LaneFills.{takes_pair, takes_pair_of}
use Rattle.spv_types.proofs.Exports.{impossible}
use Rattle.std.proofs.lemmas.Bool.{and_from, eqb-true, and_parts, not-true}
use Rattle.spv_base.proofs.Exports.{same_number}

-- ---- kinds of rows

abbrev pub is_conversion : UnaryRow → Bool
is_conversion (conversion f) = true
is_conversion (arithmetic f) = false
is_conversion (logical f) = false

abbrev pub is_arithmetic : UnaryRow → Bool
is_arithmetic (conversion f) = false
is_arithmetic (arithmetic f) = true
is_arithmetic (logical f) = false

abbrev pub is_negation : UnaryRow → Bool
is_negation (conversion f) = false
is_negation (arithmetic f) = false
is_negation (logical f) = true

-- integers of one width
abbrev pub gives_integer : BinaryRow → Bool
gives_integer (binary.arithmetic f) = true
gives_integer (binary.unsigned_division f) = true
gives_integer (binary.signed_division f) = true
gives_integer (binary.logical f) = false
gives_integer (binary.unsigned_comparison f) = false
gives_integer (binary.signed_comparison f) = false
gives_integer (binary.shift f) = false

-- Booleans
abbrev pub joins_booleans : BinaryRow → Bool
joins_booleans (binary.arithmetic f) = false
joins_booleans (binary.unsigned_division f) = false
joins_booleans (binary.signed_division f) = false
joins_booleans (binary.logical f) = true
joins_booleans (binary.unsigned_comparison f) = false
joins_booleans (binary.signed_comparison f) = false
joins_booleans (binary.shift f) = false

-- a Boolean of two integers of one width
abbrev pub compares : BinaryRow → Bool
compares (binary.arithmetic f) = false
compares (binary.unsigned_division f) = false
compares (binary.signed_division f) = false
compares (binary.logical f) = false
compares (binary.unsigned_comparison f) = true
compares (binary.signed_comparison f) = true
compares (binary.shift f) = false

abbrev pub shifts : BinaryRow → Bool
shifts (binary.arithmetic f) = false
shifts (binary.unsigned_division f) = false
shifts (binary.signed_division f) = false
shifts (binary.logical f) = false
shifts (binary.unsigned_comparison f) = false
shifts (binary.signed_comparison f) = false
shifts (binary.shift f) = true

-- ---- opcodes

-- an opcode with a unary row of a kind, which isn't that of Select
abbrev pub computes_one : (UnaryRow → Bool) → ℕ → Bool
computes_one test op = not (op == 169) && option_map_or (λ o. test (unary_row o)) (unary_op op) false

-- an opcode with a binary row of a kind, which isn't that of Select nor unary
abbrev pub computes_two : (BinaryRow → Bool) → ℕ → Bool
computes_two test op = not (op == 169) && (not (is_some (unary_op op)) && option_map_or (λ o. test (binary_row o)) (binary_op op) false)

-- the rows that opcodes of a rule have; nothing is said of rules that constants aren't computed by
abbrev pub suits : Rule → ℕ → Bool
suits Convert op = computes_one is_conversion op
suits Bitcast op = true
suits Integer op = computes_one is_arithmetic op
suits Integers op = computes_two gives_integer op
suits Clamp op = true
suits Shift op = computes_two shifts op
suits Boolean op = computes_one is_negation op
suits Booleans op = computes_two joins_booleans op
suits Reduce op = true
suits Compare op = computes_two compares op
suits Extended op = true
suits Select op = op == 169
suits InsertField op = true
suits ExtractField op = true

abbrev all_suit : List (ℕ × Rule) → Bool
all_suit [] = true
all_suit (e ∷ es) = suits e.1 e.0 && all_suit es

rules_suit : all_suit rules ≡ true
unfolding unary_op unary_row binary_op binary_row
rules_suit = refl

found_suits : (op : ℕ) (r : Rule) (es : List (ℕ × Rule)) → all_suit es ≡ true → reads op es ≡ Some r → suits r op ≡ true
found_suits op r [] h e = cc
found_suits op r (x ∷ es) h e = by_test (x.0 == op) refl e (λ g. found_suits op r es p.1 g)
  where
    p : (suits x.1 x.0 ≡ true) × (all_suit es ≡ true)
    p = and_parts (suits x.1 x.0) (all_suit es) h

    by_test : (t : Bool) → (x.0 == op) ≡ t → (if t then Some x.1 else reads op es) ≡ Some r → (reads op es ≡ Some r → suits r op ≡ true) → suits r op ≡ true
    by_test true is e ih =
        let number : x.0 ≡ op = eqb-true x.0 op is in
        let rule : x.1 ≡ r = cc in
        subst (λ k. suits r k ≡ true) number (subst (λ q. suits q x.0 ≡ true) rule p.0)
    by_test false is e ih = ih e

pub suits_of : (op : ℕ) (r : Rule) → rule_of op ≡ Some r → suits r op ≡ true
unfolding rule_of
suits_of op r e = found_suits op r rules rules_suit e

-- ---- the value that an opcode gives

computes_some : {A : Type 0} (test : A → Bool) (o : Option A) → option_map_or test o false ≡ true → is_some o ≡ true
computes_some test None h = impossible h
computes_some test (Some x) h = refl

module _ (m : Context) (s : State) (i : Inst) (op : ℕ) where
  pub one_computed : (test : UnaryRow → Bool) → computes_one test op ≡ true → computed_cells m s i op ≡ unary_cells m s i op
  one_computed test h =
      let p = and_parts (not (op == 169)) (option_map_or (λ o. test (unary_row o)) (unary_op op) false) h in
      rw (not-true (op == 169) p.0, computes_some (λ o. test (unary_row o)) (unary_op op) p.1) refl

  pub two_computed : (test : BinaryRow → Bool) → computes_two test op ≡ true → computed_cells m s i op ≡ binary_cells m s i op
  two_computed test h =
      let p = and_parts (not (op == 169)) (not (is_some (unary_op op)) && option_map_or (λ o. test (binary_row o)) (binary_op op) false) h in
      let q = and_parts (not (is_some (unary_op op))) (option_map_or (λ o. test (binary_row o)) (binary_op op) false) p.1 in
      rw (not-true (op == 169) p.0, not-true (is_some (unary_op op)) q.0) refl

  pub select_computed : (op == 169) ≡ true → computed_cells m s i op ≡ select_cells m s i
  select_computed h = rw h refl

-- ---- the widths that an opcode takes

one_takes : (test : UnaryRow → Bool) (op v w : ℕ) → computes_one test op ≡ true → ((row : UnaryRow) → test row ≡ true → row_takes row v w ≡ true) → takes_one op v w ≡ true
one_takes test op v w h takes = by_operation (unary_op op) (and_parts (not (op == 169)) (option_map_or (λ o. test (unary_row o)) (unary_op op) false) h).1
  where
    by_operation : (o : Option UnaryOp) → option_map_or (λ o. test (unary_row o)) o false ≡ true → option_map_or (λ o. row_takes (unary_row o) v w) o false ≡ true
    by_operation None h = impossible h
    by_operation (Some o) h = takes (unary_row o) h

two_take : (test : BinaryRow → Bool) (op v w u : ℕ) → computes_two test op ≡ true → ((row : BinaryRow) → test row ≡ true → takes_pair row v w u ≡ true) → takes_pair_of op v w u ≡ true
two_take test op v w u h take =
    by_operation (binary_op op) (and_parts (not (is_some (unary_op op))) (option_map_or (λ o. test (binary_row o)) (binary_op op) false)
    (and_parts (not (op == 169)) (not (is_some (unary_op op)) && option_map_or (λ o. test (binary_row o)) (binary_op op) false) h).1).1
  where
    by_operation : (o : Option BinaryOp) → option_map_or (λ o. test (binary_row o)) o false ≡ true → option_map_or (λ o. takes_pair (binary_row o) v w u) o false ≡ true
    by_operation None h = impossible h
    by_operation (Some o) h = take (binary_row o) h

pub conversion_takes : (op v w : ℕ) → computes_one is_conversion op ≡ true → is_lane_width v ≡ true → is_lane_width w ≡ true → takes_one op v w ≡ true
conversion_takes op v w h e f = one_takes is_conversion op v w h by_row
  where
    by_row : (row : UnaryRow) → is_conversion row ≡ true → row_takes row v w ≡ true
    by_row (conversion g) t = and_from (is_lane_width v) (is_lane_width w) e f
    by_row (arithmetic g) t = impossible t
    by_row (logical g) t = impossible t

pub arithmetic_takes : (op w : ℕ) → computes_one is_arithmetic op ≡ true → is_lane_width w ≡ true → takes_one op w w ≡ true
arithmetic_takes op w h e = one_takes is_arithmetic op w w h by_row
  where
    by_row : (row : UnaryRow) → is_arithmetic row ≡ true → row_takes row w w ≡ true
    by_row (conversion g) t = impossible t
    by_row (arithmetic g) t = and_from (is_lane_width w) (w == w) e (same_number w)
    by_row (logical g) t = impossible t

pub negation_takes : (op : ℕ) → computes_one is_negation op ≡ true → takes_one op 1 1 ≡ true
negation_takes op h = one_takes is_negation op 1 1 h by_row
  where
    by_row : (kind : UnaryRow) → is_negation kind ≡ true → row_takes kind 1 1 ≡ true
    by_row (conversion g) t = impossible t
    by_row (arithmetic g) t = impossible t
    by_row (logical g) t = refl

pub integers_take : (op w : ℕ) → computes_two gives_integer op ≡ true → is_lane_width w ≡ true → takes_pair_of op w w w ≡ true
integers_take op w h e = two_take gives_integer op w w w h by_row
  where
    taken : ((is_lane_width w && w == w) && w == w) ≡ true
    taken = and_from (is_lane_width w && w == w) (w == w) (and_from (is_lane_width w) (w == w) e (same_number w)) (same_number w)

    by_row : (row : BinaryRow) → gives_integer row ≡ true → takes_pair row w w w ≡ true
    by_row (binary.arithmetic f) t = taken
    by_row (binary.unsigned_division f) t = taken
    by_row (binary.signed_division f) t = taken
    by_row (binary.logical f) t = impossible t
    by_row (binary.unsigned_comparison f) t = impossible t
    by_row (binary.signed_comparison f) t = impossible t
    by_row (binary.shift f) t = impossible t

pub booleans_take : (op : ℕ) → computes_two joins_booleans op ≡ true → takes_pair_of op 1 1 1 ≡ true
booleans_take op h = two_take joins_booleans op 1 1 1 h by_row
  where
    by_row : (kind : BinaryRow) → joins_booleans kind ≡ true → takes_pair kind 1 1 1 ≡ true
    by_row (binary.arithmetic f) t = impossible t
    by_row (binary.unsigned_division f) t = impossible t
    by_row (binary.signed_division f) t = impossible t
    by_row (binary.logical f) t = refl
    by_row (binary.unsigned_comparison f) t = impossible t
    by_row (binary.signed_comparison f) t = impossible t
    by_row (binary.shift f) t = impossible t

pub comparisons_take : (op w : ℕ) → computes_two compares op ≡ true → is_lane_width w ≡ true → takes_pair_of op w w 1 ≡ true
comparisons_take op w h e = two_take compares op w w 1 h by_row
  where
    taken : ((is_lane_width w && w == w) && true) ≡ true
    taken = and_from (is_lane_width w && w == w) true (and_from (is_lane_width w) (w == w) e (same_number w)) refl

    by_row : (row : BinaryRow) → compares row ≡ true → takes_pair row w w 1 ≡ true
    by_row (binary.arithmetic f) t = impossible t
    by_row (binary.unsigned_division f) t = impossible t
    by_row (binary.signed_division f) t = impossible t
    by_row (binary.logical f) t = impossible t
    by_row (binary.unsigned_comparison f) t = taken
    by_row (binary.signed_comparison f) t = taken
    by_row (binary.shift f) t = impossible t

pub shifts_take : (op v w : ℕ) → computes_two shifts op ≡ true → is_lane_width v ≡ true → is_lane_width w ≡ true → takes_pair_of op v w v ≡ true
shifts_take op v w h e f = two_take shifts op v w v h by_row
  where
    by_row : (row : BinaryRow) → shifts row ≡ true → takes_pair row v w v ≡ true
    by_row (binary.arithmetic g) t = impossible t
    by_row (binary.unsigned_division g) t = impossible t
    by_row (binary.signed_division g) t = impossible t
    by_row (binary.logical g) t = impossible t
    by_row (binary.unsigned_comparison g) t = impossible t
    by_row (binary.signed_comparison g) t = impossible t
    by_row (binary.shift g) t = and_from (is_lane_width v && is_lane_width w) (v == v) (and_from (is_lane_width v) (is_lane_width w) e f) (same_number v)
