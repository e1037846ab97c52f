-- What an operation of OpSpecConstantOp gives is the operation of its opcode on each lane: the widths of the lanes are those that
-- the operation takes.
use Rattle.std.proofs.lemmas.Bool.{eq-eqb, and_parts, not-true}
use Rattle.spv_alu.specs.Select.{select_of, selected as chosen}
use Rattle.spv_consts.specs.Values.{leaf_widths}
use Rattle.spv_index.specs.Operands.{id_operand}
use Rattle.std.proofs.Common.{Bool, List, None, Option, Some, [], ap, arith, false, length, map, refl, replicate, suc, sym, true, zero, ℕ, ◌+◌, ◌<◌, ◌==◌, ◌∙◌, ◌∷◌, ◌≡◌}
use Rattle.std.specs.Prelude.{◌&&◌, if◌then◌else◌, not, unwrap_or}
use Rattle.std.specs.Option.{is_some, option_and_then, option_map, option_map_or}
use Rattle.std.specs.Simd.Lanes.{zip2}
use Rattle.spv_base.specs.Cell.{Cell, undefined_cell, HasWidth}
use Rattle.spv_base.specs.declared.instructions.Inst.{Inst}
use Rattle.spv_types.specs.Types.{form_of}
use Rattle.spv_types.specs.Laws.{AreSound}
use Rattle.spv_types.proofs.Exports.{impossible}
use Rattle.spv_index.specs.Definitions.{result_type}
use Rattle.spv_alu.specs.declared.unary_op.UnaryOp.{UnaryOp}
use Rattle.spv_alu.specs.declared.binary_op.BinaryOp.{BinaryOp}
use Rattle.spv_alu.specs.Unary.{UnaryRow, unary_of, unary_op, unary_row}
use Rattle.spv_alu.specs.Unary as unary
use Rattle.spv_alu.specs.Binary.{BinaryRow, binary_of, binary_op, binary_row, binary_width}
use Rattle.spv_alu.specs.Binary as binary
use Rattle.spv_typing.specs.declared.lanes.Element.{Element}
use Rattle.spv_typing.specs.declared.lanes.Element.TheVariants.{Bool as OneBoolean, Int}
use Rattle.spv_typing.specs.declared.rules.Rule.{Rule}
use Rattle.spv_typing.specs.declared.rules.Rule.TheVariants.{Convert, Bitcast, Integer, Integers, Clamp, Shift, Boolean, Booleans, Reduce, Compare, Extended, Select as Choice, InsertField, ExtractField}
use Rattle.spv_typing.specs.Lanes.{lanes_at, lanes_of, repeated, width_of}
use Rattle.spv_typing.specs.Laws.{IsTyped}
use Rattle.spv_typing.specs.Rules.{is_constant_rule, rule_count}
use Rattle.spv_consts.specs.Constants.{Known, leaves_if, leaves_of, operand, result_of}
use Rattle.spv_consts.specs.Context.{Context}
use Rattle.spv_consts.specs.Evaluation.{binary_cells, computed_cells, operand_at, select_cells, unary_cells}
use Rattle.spv_consts.specs.Lanes.{binary_lane, is_lane_width, pair_takes, row_takes, select_lane, takes_one, unary_lane}
use Rattle.spv_consts.specs.Laws.{FillType}
use Rattle.spv_consts.specs.Operations.{lane_width, selected}
use Rattle.spv_consts.specs.Rules.{keeps_opcode, operand_type}
use Rattle.spv_consts.specs.State.{State, given_cells, is_given, is_operand, operand_cells}
use Rattle.spv_consts.proofs.FillLemmas.{Fill}
use Rattle.spv_consts.proofs.LaneFills.{takes_pair, takes_pair_of}
use Rattle.spv_consts.proofs.OperationFills.{counted, lanes_fill, ruled_by, typed}
use Rattle.spv_consts.proofs.OperationKinds.{arithmetic_takes, booleans_take, comparisons_take, compares, computes_one, computes_two, conversion_takes, gives_integer, integers_take, is_arithmetic, is_conversion, is_negation, joins_booleans, negation_takes, one_computed, select_computed, shifts, shifts_take, suits, suits_of, two_computed}
use Rattle.spv_consts.proofs.ScalarTypes.{AreLanes, are_lanes}
use Rattle.spv_base.proofs.Exports.{none_at}
use Rattle.spv_alu.specs.Lanes.{zip3}

-- ---- lanes of widths that an operation takes

one_agrees : (op w : ℕ) (u : UnaryOp) (a : Cell) → unary_op op ≡ Some u → takes_one op a.width w ≡ true → unary_lane op w a ≡ unary.unary_lane u a w
unfolding unary_of
one_agrees op w u a e h = by_operation (unary_op op) e h
  where
    by_operation : (o : Option UnaryOp) → o ≡ Some u → option_map_or (λ o. row_takes (unary_row o) a.width w) o false ≡ true
        → (if option_map_or (λ o. row_takes (unary_row o) a.width w) o false then unwrap_or (option_map (λ o. unary.unary_lane o a w) o) (undefined_cell a.width) else undefined_cell a.width)
        ≡ unary.unary_lane u a w
    by_operation None e h = impossible h
    by_operation (Some o) e h = let same : o ≡ u = cc in rw h (ap (λ (q : UnaryOp). unary.unary_lane q a w) same)

two_agree : (op v : ℕ) (u : BinaryOp) (a b : Cell) → binary_op op ≡ Some u → takes_pair_of op a.width b.width v ≡ true → binary_lane op a b ≡ binary.binary_lane u a b
unfolding binary_of
two_agree op v u a b e h = by_operation (binary_op op) e h
  where
    by_operation : (o : Option BinaryOp) → o ≡ Some u → option_map_or (λ o. takes_pair (binary_row o) a.width b.width v) o false ≡ true
        → (if option_map_or (λ o. pair_takes (binary_row o) a.width b.width) o false then unwrap_or (option_map (λ o. binary.binary_lane o a b) o) (undefined_cell a.width) else undefined_cell a.width)
        ≡ binary.binary_lane u a b
    by_operation None e h = impossible h
    by_operation (Some o) e h =
        let same : o ≡ u = cc in
        let taken = and_parts (pair_takes (binary_row o) a.width b.width) (binary_width (binary_row o) a.width == v) h in
        rw taken.0 (ap (λ (q : BinaryOp). binary.binary_lane q a b) same)

-- ---- rows of them

each_agrees : (f g : Cell → Cell) (v n : ℕ) → ((c : Cell) → HasWidth v c → f c ≡ g c) → (cs : List Cell) → Fill (replicate n v) cs → map f cs ≡ map g cs
each_agrees f g v n agrees [] h = refl
each_agrees f g v zero agrees (c ∷ cs) h = absurd h
each_agrees f g v (suc n) agrees (c ∷ cs) h = rw (agrees c h.0, each_agrees f g v n agrees cs h.1) refl

pairs_agree : (f g : Cell → Cell → Cell) (v w n : ℕ) → ((c d : Cell) → HasWidth v c → HasWidth w d → f c d ≡ g c d) → (cs ds : List Cell) → Fill (replicate n v) cs → Fill (replicate n w) ds
    → zip2 f cs ds ≡ zip2 g cs ds
pairs_agree f g v w n agree [] ds h k = refl
pairs_agree f g v w n agree (c ∷ cs) [] h k = refl
pairs_agree f g v w zero agree (c ∷ cs) (d ∷ ds) h k = absurd h
pairs_agree f g v w (suc n) agree (c ∷ cs) (d ∷ ds) h k = rw (agree c d h.0 k.0, pairs_agree f g v w n agree cs ds h.1 k.1) refl

-- ---- Select

selects : (c a b : Cell) (w : ℕ) → HasWidth w a → HasWidth w b → select_of c a b ≡ select_lane c a b
selects c a b w h g = let same : (b.width == a.width) ≡ true = rw (h.0, g.0) (eq-eqb w w refl) in rw same refl

both_same : (a b : Cell) (xs ys : List Cell) → a ≡ b → xs ≡ ys → a ∷ xs ≡ b ∷ ys
both_same a b xs ys e f = rw (e, f) refl

pairs_selected : (c : Cell) (ws : List ℕ) (xs ys : List Cell) → Fill ws xs → Fill ws ys → zip3 select_of (replicate (length xs) c) xs ys ≡ zip2 (select_lane c) xs ys
pairs_selected c ws [] ys h g = refl
pairs_selected c ws (x ∷ xs) [] h g = refl
pairs_selected c [] (x ∷ xs) (y ∷ ys) h g = absurd h
pairs_selected c (w ∷ ws) (x ∷ xs) (y ∷ ys) h g = both_same (select_of c x y) (select_lane c x y) _ _ (selects c x y w h.0 g.0) (pairs_selected c ws xs ys h.1 g.1)

each_selected : (cs : List Cell) (ws : List ℕ) (xs ys : List Cell) → Fill ws xs → Fill ws ys → zip3 select_of cs xs ys ≡ zip3 select_lane cs xs ys
each_selected [] ws xs ys h g = refl
each_selected (c ∷ cs) ws [] ys h g = refl
each_selected (c ∷ cs) ws (x ∷ xs) [] h g = refl
each_selected (c ∷ cs) [] (x ∷ xs) (y ∷ ys) h g = absurd h
each_selected (c ∷ cs) (w ∷ ws) (x ∷ xs) (y ∷ ys) h g = both_same (select_of c x y) (select_lane c x y) _ _ (selects c x y w h.0 g.0) (each_selected cs ws xs ys h.1 g.1)

rows_selected : (cs : List Cell) (ws : List ℕ) (xs ys : List Cell) → Fill ws xs → Fill ws ys → chosen cs xs ys ≡ selected cs xs ys
rows_selected [] ws xs ys h g = refl
rows_selected (c ∷ []) ws xs ys h g = pairs_selected c ws xs ys h g
rows_selected (c ∷ d ∷ cs) ws xs ys h g = each_selected (c ∷ d ∷ cs) ws xs ys h g

-- ---- opcodes

some_by : {A : Type 0} (test : A → Bool) (o : Option A) → option_map_or test o false ≡ true → (x : A) × (o ≡ Some x)
some_by test None h = impossible h
some_by test (Some x) h = (x, refl)

-- ---- one instruction, by what is known before it and in the end

module _ (m : Context) (s : State) (i : Inst) (op : ℕ) (sound : AreSound s.types) (k : Known)
    (wide : lane_width s.types (form_of s.types i.ty) ≡ lane_width k.0 (form_of k.0 i.ty))
  where
    -- the type of an operand that has one
    abbrev given : ℕ → Option ℕ
    given n = operand_type m i (1 + n)

    -- the leaves of an operand fill its type, and are those in the end
    abbrev IsGood : ℕ → Type 0
    IsGood n = ((t : ℕ) → given n ≡ Some t → FillType s.types t (operand_at m s i (1 + n))) × (operand_at m s i (1 + n) ≡ operand m k i (1 + n))

    one_result : (u : UnaryOp) (cells : List Cell) → (op == 169) ≡ false → unary_op op ≡ Some u → map (λ a. unary.unary_lane u a (lane_width k.0 (form_of k.0 i.ty))) (operand m k i 1) ≡ cells → result_of m k i op ≡ Some cells
    one_result u cells other e h = rw (other, e) (ap Some h)

    two_result : (u : BinaryOp) (cells : List Cell) → (op == 169) ≡ false → unary_op op ≡ None → binary_op op ≡ Some u → zip2 (binary.binary_lane u) (operand m k i 1) (operand m k i 2) ≡ cells → result_of m k i op ≡ Some cells
    two_result u cells other none e h = rw (other, none, e) (ap Some h)

    select_result : (cells : List Cell) → (op == 169) ≡ true → chosen (operand m k i 1) (operand m k i 2) (operand m k i 3) ≡ cells → result_of m k i op ≡ Some cells
    select_result cells e h = rw e (ap Some h)

    one_given : (test : UnaryRow → Bool) → computes_one test op ≡ true → (n : ℕ) (e f : Element) → lanes_of s.types i.ty ≡ Some (repeated n e) → lanes_at s.types (given 0) ≡ Some (repeated n f)
        → (is_lane_width (width_of e) ≡ true → is_lane_width (width_of f) ≡ true → takes_one op (width_of f) (width_of e) ≡ true)
        → IsGood 0 → result_of m k i op ≡ Some (unary_cells m s i op)
    one_given test suit n e f r a takes good =
        let p = and_parts (not (op == 169)) (option_map_or (λ o. test (unary_row o)) (unary_op op) false) suit in
        let u = some_by (λ o. test (unary_row o)) (unary_op op) p.1 in
        one_result u.0 (unary_cells m s i op) (not-true (op == 169) p.0) u.1 (same u.0 u.1)
      where
        result : AreLanes s.types i.ty n e
        result = are_lanes s.types sound i.ty n e r

        at : (t : ℕ) × (given 0 ≡ Some t) × (lanes_of s.types t ≡ Some (repeated n f))
        at = typed m s i op sound 0 (repeated n f) a

        first : AreLanes s.types at.0 n f
        first = are_lanes s.types sound at.0 n f at.2

        agrees : (u : UnaryOp) → unary_op op ≡ Some u → (c : Cell) → HasWidth (width_of f) c → unary_lane op (lane_width s.types (form_of s.types i.ty)) c ≡ unary.unary_lane u c (lane_width s.types (form_of s.types i.ty))
        agrees u is c h = one_agrees op (lane_width s.types (form_of s.types i.ty)) u c is (rw (h.0, result.width) (takes result.wide first.wide))

        same : (u : UnaryOp) → unary_op op ≡ Some u → map (λ c. unary.unary_lane u c (lane_width k.0 (form_of k.0 i.ty))) (operand m k i 1) ≡ unary_cells m s i op
        same u is =
            ap (λ (w : ℕ). map (λ c. unary.unary_lane u c w) (operand m k i 1)) (sym wide)
            ∙ ap (λ (cs : List Cell). map (λ c. unary.unary_lane u c (lane_width s.types (form_of s.types i.ty))) cs) (sym good.1)
            ∙ sym (each_agrees (unary_lane op (lane_width s.types (form_of s.types i.ty))) (λ c. unary.unary_lane u c (lane_width s.types (form_of s.types i.ty))) (width_of f) n
            (agrees u is) (operand_at m s i 1) (lanes_fill m s i op sound at.0 n f at.2 (operand_at m s i 1) (good.0 at.0 at.1)))

    two_given : (test : BinaryRow → Bool) → computes_two test op ≡ true → (n : ℕ) (e f g : Element) → lanes_at s.types (given 0) ≡ Some (repeated n f) → lanes_at s.types (given 1) ≡ Some (repeated n g)
        → (is_lane_width (width_of f) ≡ true → is_lane_width (width_of g) ≡ true → takes_pair_of op (width_of f) (width_of g) (width_of e) ≡ true)
        → IsGood 0 → IsGood 1 → result_of m k i op ≡ Some (binary_cells m s i op)
    two_given test suit n e f g a b take good next =
        let p = and_parts (not (op == 169)) (not (is_some (unary_op op)) && option_map_or (λ o. test (binary_row o)) (binary_op op) false) suit in
        let q = and_parts (not (is_some (unary_op op))) (option_map_or (λ o. test (binary_row o)) (binary_op op) false) p.1 in
        let u = some_by (λ o. test (binary_row o)) (binary_op op) q.1 in
        two_result u.0 (binary_cells m s i op) (not-true (op == 169) p.0) (none_at (unary_op op) q.0) u.1 (same u.0 u.1)
      where
        at : (t : ℕ) × (given 0 ≡ Some t) × (lanes_of s.types t ≡ Some (repeated n f))
        at = typed m s i op sound 0 (repeated n f) a

        first : AreLanes s.types at.0 n f
        first = are_lanes s.types sound at.0 n f at.2

        behind : (t : ℕ) × (given 1 ≡ Some t) × (lanes_of s.types t ≡ Some (repeated n g))
        behind = typed m s i op sound 1 (repeated n g) b

        second : AreLanes s.types behind.0 n g
        second = are_lanes s.types sound behind.0 n g behind.2

        agree : (u : BinaryOp) → binary_op op ≡ Some u → (c d : Cell) → HasWidth (width_of f) c → HasWidth (width_of g) d → binary_lane op c d ≡ binary.binary_lane u c d
        agree u is c d h j = two_agree op (width_of e) u c d is (rw (h.0, j.0) (take first.wide second.wide))

        same : (u : BinaryOp) → binary_op op ≡ Some u → zip2 (binary.binary_lane u) (operand m k i 1) (operand m k i 2) ≡ binary_cells m s i op
        same u is =
            ap (λ (cs : List Cell). zip2 (binary.binary_lane u) cs (operand m k i 2)) (sym good.1)
            ∙ ap (λ (cs : List Cell). zip2 (binary.binary_lane u) (operand_at m s i 1) cs) (sym next.1)
            ∙ sym (pairs_agree (binary_lane op) (binary.binary_lane u) (width_of f) (width_of g) n (agree u is) (operand_at m s i 1) (operand_at m s i 2)
            (lanes_fill m s i op sound at.0 n f at.2 (operand_at m s i 1) (good.0 at.0 at.1)) (lanes_fill m s i op sound behind.0 n g behind.2 (operand_at m s i 2) (next.0 behind.0 behind.1)))

    select_given : (op == 169) ≡ true → FillType s.types i.ty (operand_at m s i 2) → FillType s.types i.ty (operand_at m s i 3)
        → operand_at m s i 1 ≡ operand m k i 1 → operand_at m s i 2 ≡ operand m k i 2 → operand_at m s i 3 ≡ operand m k i 3 → result_of m k i op ≡ Some (select_cells m s i)
    select_given is h g a b c =
        select_result (select_cells m s i) is
        (ap (λ (cs : List Cell). chosen cs (operand m k i 2) (operand m k i 3)) (sym a)
        ∙ ap (λ (cs : List Cell). chosen (operand_at m s i 1) cs (operand m k i 3)) (sym b)
        ∙ ap (λ (cs : List Cell). chosen (operand_at m s i 1) (operand_at m s i 2) cs) (sym c)
        ∙ rows_selected (operand_at m s i 1) (leaf_widths s.types i.ty) (operand_at m s i 2) (operand_at m s i 3) h g)

    -- ---- by the rule

    abbrev AreGood : Option ℕ → Type 0
    AreGood o = (n j : ℕ) → o ≡ Some n → j < n → IsGood j

    by_rule : (rule : Rule) → is_constant_rule rule ≡ true → suits rule op ≡ true → IsTyped s.types rule i.ty given → AreGood (rule_count rule) → result_of m k i op ≡ Some (computed_cells m s i op)
    by_rule Convert is suit t good =
        rw (one_computed m s i op is_conversion suit)
        (one_given is_conversion suit t.0 (Int t.1) (Int t.2) t.3 t.4 (λ wide from. conversion_takes op t.2 t.1 suit from wide) (good 1 0 refl (omega arith)))
    by_rule Bitcast is suit t good = impossible is
    by_rule Integer is suit t good =
        rw (one_computed m s i op is_arithmetic suit)
        (one_given is_arithmetic suit t.0 (Int t.1) (Int t.1) t.2 t.3 (λ wide from. arithmetic_takes op t.1 suit wide) (good 1 0 refl (omega arith)))
    by_rule Integers is suit t good =
        rw (two_computed m s i op gives_integer suit)
        (two_given gives_integer suit t.0 (Int t.1) (Int t.1) (Int t.1) t.3 t.4 (λ wide second. integers_take op t.1 suit wide) (good 2 0 refl (omega arith)) (good 2 1 refl (omega arith)))
    by_rule Clamp is suit t good = impossible is
    by_rule Shift is suit t good =
        rw (two_computed m s i op shifts suit)
        (two_given shifts suit t.0 (Int t.1) (Int t.1) (Int t.2) t.4 t.5 (λ wide second. shifts_take op t.1 t.2 suit wide second) (good 2 0 refl (omega arith)) (good 2 1 refl (omega arith)))
    by_rule Boolean is suit t good =
        rw (one_computed m s i op is_negation suit)
        (one_given is_negation suit t.0 OneBoolean OneBoolean t.1 t.2 (λ wide from. negation_takes op suit) (good 1 0 refl (omega arith)))
    by_rule Booleans is suit t good =
        rw (two_computed m s i op joins_booleans suit)
        (two_given joins_booleans suit t.0 OneBoolean OneBoolean OneBoolean t.2 t.3 (λ wide second. booleans_take op suit) (good 2 0 refl (omega arith)) (good 2 1 refl (omega arith)))
    by_rule Reduce is suit t good = impossible is
    by_rule Compare is suit t good =
        rw (two_computed m s i op compares suit)
        (two_given compares suit t.0 OneBoolean (Int t.1) (Int t.1) t.3 t.4 (λ wide second. comparisons_take op t.1 suit wide) (good 2 0 refl (omega arith)) (good 2 1 refl (omega arith)))
    by_rule Extended is suit t good = impossible is
    by_rule Choice is suit t good =
        let a = good 3 0 refl (omega arith) in
        let b = good 3 1 refl (omega arith) in
        let c = good 3 2 refl (omega arith) in
        rw (select_computed m s i op suit) (select_given suit (b.0 i.ty t.1) (c.0 i.ty t.2) a.1 b.1 c.1)
    by_rule InsertField is suit t good = impossible is
    by_rule ExtractField is suit t good = impossible is

    pub result_is : ((id : ℕ) → is_operand m s i.word id ≡ true → ((t : ℕ) → result_type m.all id ≡ Some t → FillType s.types t (operand_cells m s id)) × (operand_cells m s id ≡ leaves_of m k id)) → keeps_opcode m s i op ≡ true
        → result_of m k i op ≡ Some (computed_cells m s i op)
    result_is operands h =
        let t = ruled_by m s i op h in
        by_rule t.0 t.1 (suits_of op t.0 t.2) t.3 (λ n j count l. by_operand (id_operand i (1 + j)) (counted m s i op h t.0 t.2 n j count l))
      where
        by_operand : (o : Option ℕ) → is_given m s i.word o ≡ true → ((t : ℕ) → option_and_then (result_type m.all) o ≡ Some t → FillType s.types t (given_cells m s o)) × (given_cells m s o ≡ leaves_if m k o)
        by_operand None h = impossible h
        by_operand (Some id) h = operands id h
