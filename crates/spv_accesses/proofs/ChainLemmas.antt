-- What access chains do, and that their pointers lead to where their types point.
use Rattle.std.proofs.Common.{◌≡◌, ◌∙◌, ℕ, suc, ◌+◌, ◌-◌, ◌<◌, ◌≤◌, ◌++◌, Bool, true, false, List, [], ◌∷◌, append_assoc, length, map, Option, Some, None, Result, Ok, Err, ok_or, refl, sym, ap, subst, arith}
use Rattle.std.specs.List.{flat_map, range_with_len}
use Rattle.std.specs.Option.{IsSomeAnd, option_and_then, option_map}
use Rattle.std.specs.Prelude.{if◌then◌else◌, not}
use Rattle.spv_base.specs.Entries.{reads}
use Rattle.spv_base.specs.Cell.{Cell}
use Rattle.spv_base.specs.declared.instructions.Inst.{Inst}
use Rattle.spv_base.specs.declared.values.Pointer.{Pointer as Reference}
use Rattle.spv_base.specs.declared.values.Value.{Value, Ptr, out-Value}
use Rattle.spv_ops.specs.Steps.{◌>>=◌}
use Rattle.spv_index.specs.Operands.{id_operand}
use Rattle.spv_types.specs.declared.forms.Form.{Form}
use Rattle.spv_types.specs.declared.forms.Form.TheVariants.{Pointer as PointerForm}
use Rattle.spv_types.specs.Laws.{AreSound}
use Rattle.spv_types.specs.Queries.{is_integer, is_pointer, pointee}
use Rattle.spv_types.specs.declared.queries.Pointed.{Pointed}
use Rattle.spv_types.specs.Rows.{leaves, no_roots}
use Rattle.spv_types.specs.Shapes.{HasShape, LeadsTo, pointer_in, reached_type}
use Rattle.spv_types.specs.Types.{Types, form_of}
use Rattle.spv_types.proofs.Exports.{shapes_are_by_forms}
use Rattle.spv_consts.specs.Table.{Constants, Row, only, scalar_of}
use Rattle.spv_consts.specs.Trees.{tree_of}
use Rattle.spv_bodies.specs.Chains.{KeepsChain, Reaches, form_in, index_in, is_literal, member_number}
use Rattle.spv_bodies.specs.Context.{Known, type_at, type_of}
use Rattle.spv_mem.specs.Chains.{all_defined, extend, extended}
use Rattle.spv_valid.specs.Acceptance.{Accepted, IsAccepted}
use Rattle.spv_valid.specs.Validity.{IsValid}
use Rattle.spv_valid.specs.declared.meanings.Meaning.TheVariants.{Constant}
use Rattle.spv_operands.specs.Shapes.{target_in}
use Rattle.spv_operands.specs.Values.{value_of}
use Rattle.spv_operands.proofs.Exports.{constant_leaves, value_meant}
use Rattle.spv_results.specs.Operands.{known}
use Rattle.spv_results.specs.Results.{all_of}
use Rattle.spv_state.specs.Actions.{action_of}
use Rattle.spv_state.specs.State.{depth_of}
use Rattle.spv_state.specs.declared.actions.Action.TheVariants.{Chain}
use Rattle.spv_sites.specs.Chains.{chained_pointer, indexes, indexes_from, with_indexes}
use Rattle.spv_sites.specs.Effects as spec
use Rattle.spv_sites.specs.Effects.{gives, pointer}
use Rattle.spv_sites.specs.Fits.{LevelFits}
use Rattle.spv_sites.specs.Sites.{IsShaped, IsSite, Site, accepted, due, is_data, is_data_at, values}
use Rattle.spv_sites.specs.declared.causes.Cause.{Cause}
use Rattle.spv_sites.specs.declared.causes.Cause.TheVariants.{NoValue, UndefinedIndex}
use Rattle.spv_accesses.proofs.AccessLemmas.{leads_in_class}
use Rattle.spv_sites.proofs.Exports.{due_by, PointersHaveShapes, ValuesHaveShapes, operand_shape, ConstantsAreMeant}
use Rattle.spv_accesses.proofs.IndexLemmas.{IsIndex, behind, integer_cell, integer_form, lead_behind, unsigned}
use Rattle.spv_mem.proofs.Exports.{reached_append}
use Rattle.spv_base.proofs.Exports.{out_pointer}

-- ---- what is due

abbrev chain_from : Option Value → Result (List Cell) Cause → Result spec.Effect Cause
chain_from o is = ok_or o NoValue >>= (λ (at : Value). is >>= (λ (cs : List Cell). chained_pointer at cs >>= (λ (q : Reference). Ok (gives (Ptr q)))))

chain_due : (x : Site) → action_of x.inst ≡ Chain → due x ≡ chain_from (values x 0) (indexes (values x) x.inst)
chain_due x is = due_by x Chain is

pub chain_missing : (x : Site) → action_of x.inst ≡ Chain → values x 0 ≡ None → due x ≡ Err NoValue
chain_missing x is none = chain_due x is ∙ ap (λ (o : Option Value). chain_from o (indexes (values x) x.inst)) none

pub chain_without : (x : Site) (at : Value) (cause : Cause) → action_of x.inst ≡ Chain → values x 0 ≡ Some at → indexes (values x) x.inst ≡ Err cause → due x ≡ Err cause
chain_without x at cause is base none =
    chain_due x is ∙ ap (λ (o : Option Value). chain_from o (indexes (values x) x.inst)) base ∙ ap (chain_from (Some at)) none

chain_by : (x : Site) (at : Value) (cs : List Cell) → action_of x.inst ≡ Chain → values x 0 ≡ Some at → indexes (values x) x.inst ≡ Ok cs → due x ≡ (chained_pointer at cs >>= (λ (q : Reference). Ok (gives (Ptr q))))
chain_by x at cs is base found = chain_due x is ∙ ap (λ (o : Option Value). chain_from o (indexes (values x) x.inst)) base ∙ ap (chain_from (Some at)) found

pub chain_gives : (x : Site) (at : Value) (cs : List Cell) (r : Reference) → action_of x.inst ≡ Chain → values x 0 ≡ Some at → indexes (values x) x.inst ≡ Ok cs → chained_pointer at cs ≡ Ok r → due x ≡ Ok (gives (Ptr r))
chain_gives x at cs r is base found goes = chain_by x at cs is base found ∙ ap (λ (p : Result Reference Cause). p >>= (λ (q : Reference). Ok (gives (Ptr q)))) goes

pub chain_fails : (x : Site) (at : Value) (cs : List Cell) (cause : Cause) → action_of x.inst ≡ Chain → values x 0 ≡ Some at → indexes (values x) x.inst ≡ Ok cs → chained_pointer at cs ≡ Err cause → due x ≡ Err cause
chain_fails x at cs cause is base found fails = chain_by x at cs is base found ∙ ap (λ (p : Result Reference Cause). p >>= (λ (q : Reference). Ok (gives (Ptr q)))) fails

-- ---- the indexes are read one after another

-- the cells of the operands from the first index to the one before a number; those of the others come behind them
abbrev pub Reads : Site → ℕ → List Cell → ℕ → Type 0
Reads x m cs n = indexes_from m (values x) x.inst ≡ ok_or (option_map (λ (us : List Value). cs ++ flat_map leaves us) (all_of (values x) (range_with_len n (length x.inst.operands - n)))) NoValue

-- the next operand, and those behind it
next_of : (x : Site) (m : ℕ) (cs : List Cell) (n : ℕ) (o : Option Value) → n < length x.inst.operands → values x n ≡ o → Reads x m cs n
    → indexes_from m (values x) x.inst ≡ ok_or (option_map (λ (us : List Value). cs ++ flat_map leaves us)
    (option_and_then (λ (v : Value). option_map (λ (us : List Value). v ∷ us) (all_of (values x) (range_with_len (n + 1) (length x.inst.operands - (n + 1))))) o)) NoValue
next_of x m cs n o lt value so_far =
    let more : length x.inst.operands - n ≡ suc (length x.inst.operands - (n + 1)) = omega arith in
    so_far ∙ ap (λ (k : ℕ). ok_or (option_map (λ (us : List Value). cs ++ flat_map leaves us) (all_of (values x) (range_with_len n k))) NoValue) more
    ∙ ap (λ (p : Option Value). ok_or (option_map (λ (us : List Value). cs ++ flat_map leaves us)
    (option_and_then (λ (v : Value). option_map (λ (us : List Value). v ∷ us) (all_of (values x) (range_with_len (n + 1) (length x.inst.operands - (n + 1))))) p)) NoValue) value

more_read : (cs : List Cell) (v : Value) (o : Option (List Value))
    → ok_or (option_map (λ (us : List Value). cs ++ flat_map leaves us) (option_map (λ (us : List Value). v ∷ us) o)) NoValue ≡ ok_or (option_map (λ (us : List Value). (cs ++ leaves v) ++ flat_map leaves us) o) NoValue
more_read cs v None = refl
more_read cs v (Some us) = ap (λ (ls : List Cell). Ok ls) (sym (append_assoc cs (leaves v) (flat_map leaves us)))

pub one_read : (x : Site) (m : ℕ) (cs : List Cell) (n : ℕ) (v : Value) → n < length x.inst.operands → Reads x m cs n → values x n ≡ Some v → Reads x m (cs ++ leaves v) (n + 1)
one_read x m cs n v lt so_far value = next_of x m cs n (Some v) lt value so_far ∙ more_read cs v (all_of (values x) (range_with_len (n + 1) (length x.inst.operands - (n + 1))))

-- ---- the indexes are data

integer_data : (ts : Types) (o : Option ℕ) → is_integer (option_and_then (form_of ts) o) ≡ true → is_data ts o ≡ true
integer_data ts None h = absurd (cc)
integer_data ts (Some ty) h = let form = integer_form (form_of ts ty) h in ap (λ (f : Option Form). not (is_pointer f)) form.2

pub indexes_data : (a : Accepted) (d : Inst) (m : ℕ) (p : Pointed) (kept : Reaches (known a) d m p) (n : ℕ) → m ≤ n → n < length d.operands → is_data_at a d n ≡ true
indexes_data a d m p kept n low lt =
    let at = behind (known a) d.operands m n p.target kept.0.target kept.2.1 low lt in
    ap (λ (o : Option ℕ). is_data a.types (option_and_then (type_of (known a)) o)) at.1 ∙ integer_data a.types (type_of (known a) at.0) at.2

-- ---- what the chain's pointer leads to

-- the scalar of a constant is its one cell
constant_cell : (cs : Constants) (id : ℕ) (c : Cell) → scalar_of cs id ≡ Some c → (r : Row) × (reads id cs ≡ Some r) × (only r.cells ≡ Some c)
constant_cell cs id c h = by_row (reads id cs) refl h
  where
    by_row : (o : Option Row) → reads id cs ≡ o → option_and_then (λ (r : Row). only r.cells) o ≡ Some c → (r : Row) × (reads id cs ≡ Some r) × (only r.cells ≡ Some c)
    by_row None e h = absurd (cc)
    by_row (Some r) e h = (r, e, h)

-- the constant that a member's index is
member_constant : (k : Known) (id n : ℕ) → member_number k id ≡ Some n → (c : Cell) × (scalar_of k.consts id ≡ Some c) × (index_in c ≡ Some n)
member_constant k id n h = by_literal (is_literal k id) h
  where
    by_scalar : (o : Option Cell) → scalar_of k.consts id ≡ o → option_and_then index_in o ≡ Some n → (c : Cell) × (scalar_of k.consts id ≡ Some c) × (index_in c ≡ Some n)
    by_scalar None e h = absurd (cc)
    by_scalar (Some c) e h = (c, e, h)

    by_literal : (b : Bool) → (if b then option_and_then index_in (scalar_of k.consts id) else None) ≡ Some n → (c : Cell) × (scalar_of k.consts id ≡ Some c) × (index_in c ≡ Some n)
    by_literal false h = absurd (cc)
    by_literal true h = by_scalar (scalar_of k.consts id) refl h

-- the type of an integer's id
integer_type : (k : Known) (id : ℕ) → is_integer (form_in k id) ≡ true → (ty : ℕ) × (type_of k id ≡ Some ty) × (is_integer (form_of k.types ty) ≡ true)
integer_type k id h = by_type (type_of k id) refl h
  where
    by_type : (o : Option ℕ) → type_of k id ≡ o → is_integer (option_and_then (form_of k.types) o) ≡ true → (ty : ℕ) × (type_of k id ≡ Some ty) × (is_integer (form_of k.types ty) ≡ true)
    by_type None e h = absurd (cc)
    by_type (Some ty) e h = (ty, e, h)

only_one : (cs : List Cell) (c d : Cell) → cs ≡ c ∷ [] → only cs ≡ Some d → c ≡ d
only_one cs c d same one = let there : Some c ≡ Some d = sym (ap only same) ∙ one in cc

module _ (plains : ValuesHaveShapes) (pointers : PointersHaveShapes) (meant : ConstantsAreMeant) (x : Site) (m : Accepted) (same : m ≡ accepted x) (accepts : ∥ IsAccepted m ∥₁) (sound : AreSound (accepted x).types)
    (valid : ∥ IsValid (accepted x) ∥₁) (site : ∥ IsSite x ∥₁) where
  is_index : (n id : ℕ) (w : Value) → id_operand x.inst n ≡ Some id → is_integer (form_in (known (accepted x)) id) ≡ true → values x n ≡ Some w → IsIndex (known (accepted x)) id w
  is_index n id w named integer value =
      let type = integer_type (known (accepted x)) id integer in
      let typed : type_at (known (accepted x)) x.inst n ≡ Some type.0 = ap (option_and_then (type_of (known (accepted x)))) named ∙ type.1 in
      let shape = operand_shape plains pointers x n w m same accepts site value type.0 typed in
      let cell = integer_cell (accepted x).types (if is_pointer (form_of (accepted x).types type.0) then target_in (accepted x) type.0 else no_roots) type.0 w sound type.2 shape in
      record {
        cell = cell.0;
        row = cell.1;
        number = λ number h.
            let constant = member_constant (known (accepted x)) id number h in
            let row = constant_cell (accepted x).constants id constant.0 constant.1 in
            let depth = depth_of x.state x.inv in
            let means : value_of (accepted x) x.frame depth id ≡ Some (tree_of (accepted x).types row.0)
            = sym (value_meant (accepted x) x.frame depth id Constant (meant (accepted x) id row.0 (subst (λ (a : Accepted). ∥ IsAccepted a ∥₁) same accepts) row.1))
            ∙ ap (option_map (tree_of (accepted x).types)) row.1 in
            let is : Some w ≡ Some (tree_of (accepted x).types row.0) = sym value ∙ ap (option_and_then (value_of (accepted x) x.frame depth)) named ∙ means in
            let tree : w ≡ tree_of (accepted x).types row.0 = cc in
            let cells : leaves w ≡ row.0.cells = constant_leaves (accepted x) id row.0 w valid (sym row.1) tree in
            let one : cell.0 ≡ constant.0 = only_one row.0.cells cell.0 constant.0 (sym cells ∙ cell.1) row.2 in
            ap extended one ∙ unsigned constant.0 number constant.2;
      }

  cells_are : (n : ℕ) (cs : List Cell) → indexes_from n (values x) x.inst ≡ Ok cs → (vs : List Value) × (all_of (values x) (range_with_len n (length x.inst.operands - n)) ≡ Some vs) × (flat_map leaves vs ≡ cs)
  cells_are n cs h = by_values (all_of (values x) (range_with_len n (length x.inst.operands - n))) refl h
    where
      by_values : (o : Option (List Value)) → all_of (values x) (range_with_len n (length x.inst.operands - n)) ≡ o → ok_or (option_map (flat_map leaves) o) NoValue ≡ Ok cs
          → (vs : List Value) × (all_of (values x) (range_with_len n (length x.inst.operands - n)) ≡ Some vs) × (flat_map leaves vs ≡ cs)
      by_values None e h = absurd (cc)
      by_values (Some vs) e h = let is : flat_map leaves vs ≡ cs = cc in (vs, e, is)

  -- the indexes from one with a number on
  module _ (n : ℕ) (p : Pointed) (kept : Reaches (known (accepted x)) x.inst n p) (cs : List Cell) (found : indexes_from n (values x) x.inst ≡ Ok cs) where
    goes_on : reached_type (accepted x).types p.target (map extended cs) ≡ Some kept.0.target
    goes_on =
        let vs = cells_are n cs found in
        ap (λ (ls : List Cell). reached_type (accepted x).types p.target (map extended ls)) (sym vs.2)
        ∙ lead_behind (known (accepted x)) (values x) x.inst.operands n p.target kept.0.target vs.0 is_index vs.1 kept.2.1

    -- a pointer with them leads on
    pub indexed_leads : (q : Reference) → LeadsTo (accepted x).types (target_in (accepted x) x.inst.ty) q p.target
        → LeadsTo (accepted x).types (target_in (accepted x) x.inst.ty) (record { root = q.root; path = extend q.path cs }) kept.0.target
    indexed_leads q leads = by_root (target_in (accepted x) x.inst.ty q.root) leads
      where
        by_root : (o : Option ℕ) → option_and_then (λ t. reached_type (accepted x).types t q.path) o ≡ Some p.target → option_and_then (λ t. reached_type (accepted x).types t (extend q.path cs)) o ≡ Some kept.0.target
        by_root None h = absurd (cc)
        by_root (Some t) h = reached_append (accepted x).types q.path (map extended cs) t p.target h ∙ goes_on

    pub result_leads : (r : Reference) → LeadsTo (accepted x).types (target_in (accepted x) x.inst.ty) r kept.0.target → LevelFits (accepted x) x.inst.ty (Ptr r) (out-Value (Ptr r))
    result_leads r leads =
        let ts = (accepted x).types in
        let roots = target_in (accepted x) x.inst.ty in
        let there : IsSomeAnd (pointer_in (out-Value (Ptr r))) (λ p. LeadsTo ts roots p kept.0.target) = rw (out_pointer r) leads in
        let shape : HasShape ts roots x.inst.ty (Ptr r) = (shapes_are_by_forms ts roots sound x.inst.ty (PointerForm kept.0.class kept.0.target) (Ptr r) kept.1).1 there in
        rw (out_pointer r) shape

  -- ---- what the pointer of an access chain leads to

  path_is : (q : Reference) (cs : List Cell) (r : Reference) → with_indexes q cs ≡ Ok r → record { root = q.root; path = extend q.path cs } ≡ r
  path_is q cs r h = by_defined (all_defined cs) h
    where
      by_defined : (b : Bool) → (if b then Ok (record { root = q.root; path = extend q.path cs }) else Err UndefinedIndex) ≡ Ok r → record { root = q.root; path = extend q.path cs } ≡ r
      by_defined false h = absurd (cc)
      by_defined true h = cc

  module _ (kept : KeepsChain (known (accepted x)) x.inst) (at : Value) (shaped : IsShaped (accepted x) x.inst 0 at) (cs : List Cell) (found : indexes (values x) x.inst ≡ Ok cs) where
    base_leads : (q : Reference) → pointer at ≡ Ok q → LeadsTo (accepted x).types (target_in (accepted x) x.inst.ty) q kept.0.target
    base_leads q = leads_in_class (accepted x) sound x.inst 0 at shaped kept.0 kept.1 x.inst.ty kept.2.0 (ap pointee kept.2.1) kept.2.2.0 q

    chained_leads : (r : Reference) → chained_pointer at cs ≡ Ok r → LeadsTo (accepted x).types (target_in (accepted x) x.inst.ty) r kept.2.0.target
    chained_leads r h = by_place (pointer at) refl h
      where
        by_place : (p : Result Reference Cause) → pointer at ≡ p → (p >>= (λ (q : Reference). with_indexes q cs)) ≡ Ok r → LeadsTo (accepted x).types (target_in (accepted x) x.inst.ty) r kept.2.0.target
        by_place (Err cause) e h = absurd (cc)
        by_place (Ok q) e h =
            subst (λ (p : Reference). LeadsTo (accepted x).types (target_in (accepted x) x.inst.ty) p kept.2.0.target) (path_is q cs r h)
            (indexed_leads 1 kept.0 kept.2 cs found q (base_leads q e))

    pub chain_fits : (r : Reference) → chained_pointer at cs ≡ Ok r → LevelFits (accepted x) x.inst.ty (Ptr r) (out-Value (Ptr r))
    chain_fits r h = result_leads 1 kept.0 kept.2 cs found r (chained_leads r h)
