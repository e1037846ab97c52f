-- The leaves that an operation of OpSpecConstantOp gives fill its result's type.
use Rattle.std.proofs.Common.{◌≡◌, ◌∙◌, inl, inr, ℕ, zero, suc, ◌+◌, ◌<◌, ◌≤◌, ◌==◌, true, false, List, [], ◌∷◌, length, drop, replicate, Option, Some, None, refl, sym, subst, arith, slice_get}
use Rattle.std.specs.Prelude.{◌&&◌, ◌||◌, not}
use Rattle.std.specs.Option.{option_and_then, option_map, option_map_or}
use Rattle.spv_base.specs.declared.instructions.Inst.{Inst}
use Rattle.spv_base.specs.declared.instructions.Operand.{Operand}
use Rattle.spv_base.specs.Cell.{Cell, HasWidth}
use Rattle.spv_base.specs.Options.{holds}
use Rattle.spv_types.specs.Types.{form_of}
use Rattle.spv_types.specs.Laws.{AreSound}
use Rattle.spv_types.proofs.Exports.{impossible}
use Rattle.spv_index.specs.Definitions.{result_type}
use Rattle.spv_index.specs.Operands.{id_in, id_operand}
use Rattle.spv_typing.specs.declared.lanes.Element.{Element}
use Rattle.spv_typing.specs.declared.lanes.Element.TheVariants.{Bool as OneBoolean, Int}
use Rattle.spv_typing.specs.declared.rules.Rule.{Rule}
use Rattle.spv_typing.specs.declared.rules.Rule.TheVariants.{Convert, Bitcast, Integer, Integers, Clamp, Shift, Boolean, Booleans, Reduce, Compare, Extended, Select as Choice, InsertField, ExtractField}
use Rattle.spv_typing.specs.Fitting.{fits}
use Rattle.spv_typing.specs.declared.lanes.Lanes.{Lanes}
use Rattle.spv_typing.specs.Lanes.{lanes_at, lanes_of, repeated, width_of}
use Rattle.spv_typing.specs.Laws.{IsCondition, IsTyped}
use Rattle.spv_typing.specs.Rules.{is_constant_operation, is_constant_rule, operand_count, rule_count, rule_of}
use Rattle.spv_typing.proofs.Exports.{rule_is}
use Rattle.spv_consts.specs.Context.{Context}
use Rattle.spv_consts.specs.Evaluation.{binary_cells, computed_cells, operand_at, select_cells, unary_cells}
use Rattle.spv_consts.specs.Lanes.{binary_lane, is_lane_width, select_lane, takes_one, unary_lane}
use Rattle.spv_consts.specs.Laws.{FillType, OperandsFillTypes}
use Rattle.spv_consts.specs.Operations.{lane_width, selected}
use Rattle.spv_consts.specs.Values.{leaf_widths}
use Rattle.spv_consts.specs.Rules.{are_operands, keeps_count, keeps_opcode, operand_type}
use Rattle.spv_consts.specs.State.{State, given_cells, is_given}
use Rattle.spv_consts.proofs.FillLemmas.{Fill, fill_one, fill_pair, fill_three, fill_two}
use Rattle.spv_consts.proofs.LaneFills.{binary_has_width, select_has_width, takes_pair_of, unary_has_width}
use Rattle.spv_consts.proofs.OperationKinds.{arithmetic_takes, booleans_take, comparisons_take, compares, conversion_takes, gives_integer, integers_take, is_arithmetic, is_conversion, is_negation, joins_booleans, negation_takes, one_computed, select_computed, shifts, shifts_take, suits, suits_of, two_computed}
use Rattle.spv_consts.proofs.ScalarTypes.{are_lanes}
use Rattle.std.proofs.lemmas.Bool.{eqb-true, and_parts}
use Rattle.spv_base.proofs.Exports.{holds_is, same_some}

-- ---- operands

same_count : (n : ℕ) (o : Option ℕ) (k : ℕ) → o ≡ Some k → holds n o ≡ true → n ≡ k
same_count n o k e h = same_some o n k (holds_is n o h) e

module _ (m : Context) (s : State) (word : ℕ) where
  operand_among : (os : List Operand) (k : ℕ) → are_operands m s word os ≡ true → k < length os → is_given m s word (option_and_then id_in (slice_get os k)) ≡ true
  unfolding are_operands
  operand_among [] k h l = absurd (omega arith)
  operand_among (o ∷ os) zero h l = (and_parts (is_given m s word (id_in o)) (are_operands m s word os) h).0
  operand_among (o ∷ os) (suc k) h l = operand_among os k (and_parts (is_given m s word (id_in o)) (are_operands m s word os) h).1 (omega arith)

  -- those behind the opcode
  operand_behind : (os : List Operand) (k : ℕ) → are_operands m s word (drop 1 os) ≡ true → 1 + k < length os → is_given m s word (option_and_then id_in (slice_get os (1 + k))) ≡ true
  operand_behind [] k h l = absurd (omega arith)
  operand_behind (o ∷ os) k h l =
      let next : suc k ≡ 1 + k = omega arith in
      subst (λ n. is_given m s word (option_and_then id_in (slice_get (o ∷ os) n)) ≡ true) next (operand_among os k h (omega arith))

-- ---- what an operation keeps

module _ (m : Context) (s : State) (i : Inst) (op : ℕ) (kept : keeps_opcode m s i op ≡ true) where
  abbrev given : ℕ → Option ℕ
  given k = operand_type m i (1 + k)

  known : (is_constant_operation op ≡ true) × ((keeps_count i op && (are_operands m s i.word (drop 1 i.operands) && fits s.types op i.ty given)) ≡ true)
  known = and_parts (is_constant_operation op) _ kept

  count : (keeps_count i op ≡ true) × ((are_operands m s i.word (drop 1 i.operands) && fits s.types op i.ty given) ≡ true)
  count = and_parts (keeps_count i op) _ known.1

  rest : (are_operands m s i.word (drop 1 i.operands) ≡ true) × (fits s.types op i.ty given ≡ true)
  rest = and_parts (are_operands m s i.word (drop 1 i.operands)) _ count.1

  -- its rule, which constants are computed by and the types keep
  pub ruled_by : (rule : Rule) × (is_constant_rule rule ≡ true) × (rule_of op ≡ Some rule) × IsTyped s.types rule i.ty given
  ruled_by =
      let ruled = (rule_is s.types op i.ty given).0 rest.1 in
      let constant = (and_parts (option_map_or is_constant_rule (rule_of op) false) (not (op == 204 || op == 205)) known.0).0 in
      (ruled.0, rw ruled.1 at constant, ruled.1, ruled.2)

  -- each of its operands is a constant or an OpUndef
  pub counted : (rule : Rule) → rule_of op ≡ Some rule → (n k : ℕ) → rule_count rule ≡ Some n → k < n → is_given m s i.word (id_operand i (1 + k)) ≡ true
  counted rule e n k has l =
      let wanted : option_map (λ n. n + 1) (operand_count op) ≡ Some (n + 1) = rw (e, has) refl in
      let long : length i.operands ≡ n + 1 = same_count (length i.operands) (option_map (λ n. n + 1) (operand_count op)) (n + 1) wanted count.0 in
      operand_behind m s i.word i.operands k rest.0 (omega arith)

-- ---- one instruction

module _ (m : Context) (s : State) (i : Inst) (op : ℕ) (sound : AreSound s.types) where
  -- the type of an operand that has one
  abbrev own : ℕ → Option ℕ
  own k = operand_type m i (1 + k)

  -- an operand has a type where that has lanes
  pub typed : (k : ℕ) (l : Lanes) → lanes_at s.types (own k) ≡ Some l → (t : ℕ) × (own k ≡ Some t) × (lanes_of s.types t ≡ Some l)
  typed k l h = by_type (own k) refl h
    where
      by_type : (o : Option ℕ) → own k ≡ o → lanes_at s.types o ≡ Some l → (t : ℕ) × (own k ≡ Some t) × (lanes_of s.types t ≡ Some l)
      by_type None e h = cc
      by_type (Some t) e h = (t, e, h)

  -- leaves fill the type with an id
  abbrev Fits : ℕ → List Cell → Type 0
  Fits id cs = FillType s.types id cs

  -- those of an operand fill its type
  abbrev FitsAt : ℕ → Type 0
  FitsAt k = (t : ℕ) → own k ≡ Some t → Fits t (operand_at m s i (1 + k))

  -- as many as its lanes
  pub lanes_fill : (id n : ℕ) (e : Element) → lanes_of s.types id ≡ Some (repeated n e) → (cs : List Cell) → Fits id cs → Fill (replicate n (width_of e)) cs
  lanes_fill id n e l cs h = subst (λ (ws : List ℕ). Fill ws cs) (are_lanes s.types sound id n e l).leaves h

  fill_lanes : (id n : ℕ) (e : Element) → lanes_of s.types id ≡ Some (repeated n e) → (cs : List Cell) → Fill (replicate n (width_of e)) cs → Fits id cs
  fill_lanes id n e l cs h = subst (λ (ws : List ℕ). Fill ws cs) (sym (are_lanes s.types sound id n e l).leaves) h

  -- ---- unary and binary operations

  unary_fills : (n : ℕ) (e f : Element) → lanes_of s.types i.ty ≡ Some (repeated n e) → lanes_at s.types (own 0) ≡ Some (repeated n f)
      → (is_lane_width (width_of e) ≡ true → is_lane_width (width_of f) ≡ true → takes_one op (width_of f) (width_of e) ≡ true)
      → FitsAt 0 → Fits i.ty (unary_cells m s i op)
  unary_fills n e f r a takes h =
      let result = are_lanes s.types sound i.ty n e r in
      let t = typed 0 (repeated n f) a in
      let first = are_lanes s.types sound t.0 n f t.2 in
      fill_lanes i.ty n e r (unary_cells m s i op)
      (fill_one (unary_lane op (lane_width s.types (form_of s.types i.ty))) (width_of f) (width_of e) n (keeps result.width (takes result.wide first.wide)) (operand_at m s i 1) (lanes_fill t.0 n f t.2 (operand_at m s i 1) (h t.0 t.1)))
    where
      keeps : lane_width s.types (form_of s.types i.ty) ≡ width_of e → takes_one op (width_of f) (width_of e) ≡ true → (c : Cell) → HasWidth (width_of f) c
          → HasWidth (width_of e) (unary_lane op (lane_width s.types (form_of s.types i.ty)) c)
      keeps w t c g = rw w (unary_has_width op (width_of e) c (rw g.0 t))

  binary_fills : (n : ℕ) (e f g : Element) → lanes_of s.types i.ty ≡ Some (repeated n e) → lanes_at s.types (own 0) ≡ Some (repeated n f) → lanes_at s.types (own 1) ≡ Some (repeated n g)
      → (is_lane_width (width_of f) ≡ true → is_lane_width (width_of g) ≡ true → takes_pair_of op (width_of f) (width_of g) (width_of e) ≡ true)
      → FitsAt 0 → FitsAt 1 → Fits i.ty (binary_cells m s i op)
  binary_fills n e f g r a b take h k =
      let t = typed 0 (repeated n f) a in
      let u = typed 1 (repeated n g) b in
      let first = are_lanes s.types sound t.0 n f t.2 in
      let second = are_lanes s.types sound u.0 n g u.2 in
      fill_lanes i.ty n e r (binary_cells m s i op)
      (fill_two (binary_lane op) (width_of f) (width_of g) (width_of e) n (keeps (take first.wide second.wide)) (operand_at m s i 1) (operand_at m s i 2)
      (lanes_fill t.0 n f t.2 (operand_at m s i 1) (h t.0 t.1)) (lanes_fill u.0 n g u.2 (operand_at m s i 2) (k u.0 u.1)))
    where
      keeps : takes_pair_of op (width_of f) (width_of g) (width_of e) ≡ true → (c d : Cell) → HasWidth (width_of f) c → HasWidth (width_of g) d → HasWidth (width_of e) (binary_lane op c d)
      keeps t c d p q = binary_has_width op (width_of e) c d (rw (p.0, q.0) t)

  -- ---- Select

  choose : (w : ℕ) (t c d : Cell) → HasWidth 1 t → HasWidth w c → HasWidth w d → HasWidth w (select_lane t c d)
  choose w t c d _ h g = select_has_width w t c d h g

  one_chosen : (ts xs ys : List Cell) → Fill (1 ∷ []) ts → (ws : List ℕ) → Fill ws xs → Fill ws ys → Fill ws (selected ts xs ys)
  one_chosen [] xs ys h ws f g = absurd h
  one_chosen (t ∷ []) xs ys h ws f g = fill_pair (select_lane t) (λ w c d. select_has_width w t c d) ws xs ys f g
  one_chosen (t ∷ u ∷ ts) xs ys h ws f g = absurd h.1

  each_chosen : (n w : ℕ) (ts xs ys : List Cell) → 2 ≤ n → Fill (replicate n 1) ts → Fill (replicate n w) xs → Fill (replicate n w) ys → Fill (replicate n w) (selected ts xs ys)
  each_chosen n w [] xs ys l h f g = fill_three select_lane 1 w n (choose w) [] xs ys h f g
  each_chosen zero w (t ∷ []) xs ys l h f g = absurd h
  each_chosen (suc zero) w (t ∷ []) xs ys l h f g = absurd (omega (arith, l))
  each_chosen (suc (suc n)) w (t ∷ []) xs ys l h f g = absurd h.1
  each_chosen n w (t ∷ u ∷ ts) xs ys l h f g = fill_three select_lane 1 w n (choose w) (t ∷ u ∷ ts) xs ys h f g

  select_fills : IsCondition (lanes_of s.types i.ty) (lanes_at s.types (own 0))
      → FitsAt 0 → Fits i.ty (operand_at m s i 2) → Fits i.ty (operand_at m s i 3) → Fits i.ty (select_cells m s i)
  select_fills (inl one) h g k =
      let t = typed 0 (repeated 1 OneBoolean) one in
      one_chosen (operand_at m s i 1) (operand_at m s i 2) (operand_at m s i 3) (lanes_fill t.0 1 OneBoolean t.2 (operand_at m s i 1) (h t.0 t.1)) (leaf_widths s.types i.ty) g k
  select_fills (inr each) h g k = several each.0 each.1 each.2 each.3 each.4
    where
      several : (n : ℕ) (e : Element) → 2 ≤ n → lanes_at s.types (own 0) ≡ Some (repeated n OneBoolean) → lanes_of s.types i.ty ≡ Some (repeated n e) → Fits i.ty (select_cells m s i)
      several n e l b r =
          let t = typed 0 (repeated n OneBoolean) b in
          fill_lanes i.ty n e r (select_cells m s i)
          (each_chosen n (width_of e) (operand_at m s i 1) (operand_at m s i 2) (operand_at m s i 3) l
          (lanes_fill t.0 n OneBoolean t.2 (operand_at m s i 1) (h t.0 t.1)) (lanes_fill i.ty n e r (operand_at m s i 2) g) (lanes_fill i.ty n e r (operand_at m s i 3) k))

  -- ---- by the rule

  -- the first n operands have the shapes of their types
  abbrev AreFit : Option ℕ → Type 0
  AreFit o = (n k : ℕ) → o ≡ Some n → k < n → FitsAt k

  by_rule : (rule : Rule) → is_constant_rule rule ≡ true → suits rule op ≡ true → IsTyped s.types rule i.ty own → AreFit (rule_count rule) → Fits i.ty (computed_cells m s i op)
  by_rule Convert is suit t fit =
      rw (one_computed m s i op is_conversion suit)
      (unary_fills t.0 (Int t.1) (Int t.2) t.3 t.4 (λ wide from. conversion_takes op t.2 t.1 suit from wide) (fit 1 0 refl (omega arith)))
  by_rule Bitcast is suit t fit = impossible is
  by_rule Integer is suit t fit =
      rw (one_computed m s i op is_arithmetic suit)
      (unary_fills t.0 (Int t.1) (Int t.1) t.2 t.3 (λ wide from. arithmetic_takes op t.1 suit wide) (fit 1 0 refl (omega arith)))
  by_rule Integers is suit t fit =
      rw (two_computed m s i op gives_integer suit)
      (binary_fills t.0 (Int t.1) (Int t.1) (Int t.1) t.2 t.3 t.4 (λ wide second. integers_take op t.1 suit wide) (fit 2 0 refl (omega arith)) (fit 2 1 refl (omega arith)))
  by_rule Clamp is suit t fit = impossible is
  by_rule Shift is suit t fit =
      rw (two_computed m s i op shifts suit)
      (binary_fills t.0 (Int t.1) (Int t.1) (Int t.2) t.3 t.4 t.5 (λ wide second. shifts_take op t.1 t.2 suit wide second) (fit 2 0 refl (omega arith)) (fit 2 1 refl (omega arith)))
  by_rule Boolean is suit t fit =
      rw (one_computed m s i op is_negation suit)
      (unary_fills t.0 OneBoolean OneBoolean t.1 t.2 (λ wide from. negation_takes op suit) (fit 1 0 refl (omega arith)))
  by_rule Booleans is suit t fit =
      rw (two_computed m s i op joins_booleans suit)
      (binary_fills t.0 OneBoolean OneBoolean OneBoolean t.1 t.2 t.3 (λ wide second. booleans_take op suit) (fit 2 0 refl (omega arith)) (fit 2 1 refl (omega arith)))
  by_rule Reduce is suit t fit = impossible is
  by_rule Compare is suit t fit =
      rw (two_computed m s i op compares suit)
      (binary_fills t.0 OneBoolean (Int t.1) (Int t.1) t.2 t.3 t.4 (λ wide second. comparisons_take op t.1 suit wide) (fit 2 0 refl (omega arith)) (fit 2 1 refl (omega arith)))
  by_rule Extended is suit t fit = impossible is
  by_rule Choice is suit t fit =
      rw (select_computed m s i op suit)
      (select_fills t.3 (fit 3 0 refl (omega arith))
      (fit 3 1 refl (omega arith) i.ty t.1)
      (fit 3 2 refl (omega arith) i.ty t.2))
  by_rule InsertField is suit t fit = impossible is
  by_rule ExtractField is suit t fit = impossible is

  pub computed_fills : OperandsFillTypes m s i.word → keeps_opcode m s i op ≡ true → FillType s.types i.ty (computed_cells m s i op)
  computed_fills operands h =
      let t = ruled_by m s i op h in
      by_rule t.0 t.1 (suits_of op t.0 t.2) t.3 (λ n k count l type has. by_operand type (id_operand i (1 + k)) (counted m s i op h t.0 t.2 n k count l) has)
    where
      by_operand : (type : ℕ) (o : Option ℕ) → is_given m s i.word o ≡ true → option_and_then (result_type m.all) o ≡ Some type → Fits type (given_cells m s o)
      by_operand type None h e = impossible h
      by_operand type (Some id) h e = operands id type h e
