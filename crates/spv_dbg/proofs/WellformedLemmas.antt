-- The tests of well-formed debug instructions tell the relation.
use Rattle.std.proofs.Common.{◌≡◌, ◌≢◌, inl, inr, ℕ, ◌≤◌, ◌==◌, ◌&&◌, ◌||◌, Bool, true, false, nat_le, List, [], ◌∷◌, length, drop, Option, Some, None, refl, ap}
use Rattle.std.specs.Prelude.{if◌then◌else◌, not}
use Rattle.std.specs.Bool.{Decides}
use Rattle.std.specs.List.{list_all}
use Rattle.std.specs.Option.{option_and_then}
use Rattle.std.proofs.lemmas.Bool.{cases_eq, eq-eqb, ne_eqb}
use Rattle.std.proofs.lemmas.Bool.Decides.{Decides-and, Decides-eqb}
use Rattle.spv_base.proofs.Exports.{itself, at_most, some_decides, test_decides}
use Rattle.spv_base.specs.Entries.{reads}
use Rattle.spv_valid.specs.Acceptance.{Accepted}
use Rattle.spv_dbg.specs.declared.insts.DebugInst.{DebugInst}
use Rattle.spv_dbg.specs.declared.kinds.Role.{Role}
use Rattle.spv_dbg.specs.declared.kinds.Role.TheVariants.{Any, Literal, Text, DebugType, Scope, Source, InlinedAt, Local, Variable, Expression, Operation}
use Rattle.spv_dbg.specs.declared.kinds.More.{More}
use Rattle.spv_dbg.specs.declared.kinds.More.TheVariants.{Nothing, Optional, Many, Pairs}
use Rattle.spv_dbg.specs.declared.marks.Mark.{Mark}
use Rattle.spv_dbg.specs.declared.measures.Measure.{Measure}
use Rattle.spv_dbg.specs.Kinds.{in_blocks_alone, kinds, numbers_for, operations}
use Rattle.spv_dbg.specs.Literals.{literal_of, string_of}
use Rattle.spv_dbg.specs.Marks.{Marks, is_one_of, known, measured}
use Rattle.spv_dbg.specs.Forming.{all_fit, fits, fragment_is_last, has_operands, is_exact, is_formed, is_fragment, is_operation, is_within, leads_to, more_fit, opcode_of, operands_fit, pairs_fit}
use Rattle.spv_dbg.specs.Wellformed.{AllFit, EachFits, Fits, FragmentIsLast, IsOperation, IsWellFormed, MoreFit, Names, PairsFit}

module _ (m : Accepted) (marks : Marks) where
  -- what operands have to be, by these marks
  abbrev FitsHere : Role → ℕ → Type 0
  FitsHere = Fits (Names m marks) (literal_of m) (string_of m.insts) (opcode_of m)

  abbrev AllFitHere : List Role → List ℕ → Type 0
  AllFitHere = AllFit (Names m marks) (literal_of m) (string_of m.insts) (opcode_of m)

  abbrev EachFitsHere : Role → List ℕ → Type 0
  EachFitsHere = EachFits (Names m marks) (literal_of m) (string_of m.insts) (opcode_of m)

  abbrev PairsFitHere : Role → Role → List ℕ → Type 0
  PairsFitHere = PairsFit (Names m marks) (literal_of m) (string_of m.insts) (opcode_of m)

  abbrev MoreFitHere : More → List ℕ → Type 0
  MoreFitHere = MoreFit (Names m marks) (literal_of m) (string_of m.insts) (opcode_of m)

  abbrev IsOperationHere : List ℕ → Type 0
  IsOperationHere = IsOperation (Names m marks) (literal_of m) (string_of m.insts) (opcode_of m)

  abbrev FragmentIsLastHere : List ℕ → Type 0
  FragmentIsLastHere = FragmentIsLast (Names m marks) (literal_of m) (string_of m.insts) (opcode_of m)

  names_decides : (role : Role) (id : ℕ) → Decides (leads_to m marks role id) ((k : Mark) × (known m marks id ≡ Some k) × (is_one_of (numbers_for role) k.number ≡ true))
  names_decides role id = test_decides (λ (k : Mark). is_one_of (numbers_for role) k.number ≡ true) (λ (k : Mark). is_one_of (numbers_for role) k.number) (known m marks id) (λ k. itself (is_one_of (numbers_for role) k.number))

  fits_decides : (role : Role) (id : ℕ) → Decides (fits m marks role id) (FitsHere role id)
  fits_decides Any id = ((λ h. tt), (λ h. refl))
  fits_decides Literal id = some_decides (literal_of m id)
  fits_decides Text id = some_decides (string_of m.insts id)
  fits_decides DebugType id = names_decides DebugType id
  fits_decides Scope id = names_decides Scope id
  fits_decides Source id = names_decides Source id
  fits_decides InlinedAt id = names_decides InlinedAt id
  fits_decides Local id = names_decides Local id
  fits_decides Variable id = names_decides Variable id
  fits_decides Expression id = names_decides Expression id
  fits_decides Operation id = names_decides Operation id

  all_decides : (roles : List Role) (ids : List ℕ) → Decides (all_fit m marks roles ids) (AllFitHere roles ids)
  all_decides [] ids = ((λ h. tt), (λ h. refl))
  all_decides (role ∷ roles) [] = ((λ h. absurd (cc)), (λ h. absurd h))
  all_decides (role ∷ roles) (id ∷ ids) =
      Decides-and (fits m marks role id) (all_fit m marks roles ids) (fits_decides role id) (all_decides roles ids)

  each_decides : (role : Role) (ids : List ℕ) → Decides (list_all (fits m marks role) ids) (EachFitsHere role ids)
  each_decides role [] = ((λ h. tt), (λ h. refl))
  each_decides role (id ∷ ids) =
      Decides-and (fits m marks role id) (list_all (fits m marks role) ids) (fits_decides role id) (each_decides role ids)

  pairs_decides : (first second : Role) (ids : List ℕ) → Decides (pairs_fit m marks first second ids) (PairsFitHere first second ids)
  pairs_decides first second [] = ((λ h. tt), (λ h. refl))
  pairs_decides first second (a ∷ []) = ((λ h. tt), (λ h. refl))
  pairs_decides first second (a ∷ b ∷ ids) =
      Decides-and (fits m marks first a && fits m marks second b) (pairs_fit m marks first second ids)
      (Decides-and (fits m marks first a) (fits m marks second b) (fits_decides first a) (fits_decides second b))
      (pairs_decides first second ids)

  more_decides : (more : More) (ids : List ℕ) → Decides (more_fit m marks more ids) (MoreFitHere more ids)
  more_decides Nothing ids = ((λ h. tt), (λ h. refl))
  more_decides (Optional role) [] = ((λ h. tt), (λ h. refl))
  more_decides (Optional role) (id ∷ ids) = fits_decides role id
  more_decides (Many role) ids = each_decides role ids
  more_decides (Pairs first second) ids = pairs_decides first second ids

  -- by the row of a kind
  abbrev OfKind : List ℕ → List Role × More → Type 0
  OfKind ids kind = AllFitHere kind.0 ids × MoreFitHere kind.1 (drop (length kind.0) ids)

  operands_decides : (number : ℕ) (ids : List ℕ) → Decides (has_operands m marks number ids) ((kind : List Role × More) × (reads number kinds ≡ Some kind) × OfKind ids kind)
  unfolding has_operands
  operands_decides number ids =
      test_decides (OfKind ids) (λ (kind : List Role × More). operands_fit m marks kind ids) (reads number kinds)
      (λ kind. Decides-and (all_fit m marks kind.0 ids) (more_fit m marks kind.1 (drop (length kind.0) ids)) (all_decides kind.0 ids) (more_decides kind.1 (drop (length kind.0) ids)))

  operation_decides : (ids : List ℕ) → Decides (is_operation m marks ids) (IsOperationHere ids)
  operation_decides [] = ((λ h. absurd (cc)), (λ h. absurd h))
  operation_decides (code ∷ ids) =
      test_decides (λ (roles : List Role). (length ids ≡ length roles) × AllFitHere roles ids) (λ (roles : List Role). (length ids == length roles) && all_fit m marks roles ids)
      (option_and_then (λ opcode. reads opcode operations) (literal_of m code))
      (λ roles. Decides-and (length ids == length roles) (all_fit m marks roles ids) (Decides-eqb (length ids) (length roles)) (all_decides roles ids))

  no_fragment : (o : Option ℕ) → Decides (not (is_fragment o)) (o ≢ Some 9)
  no_fragment None = ((λ h e. absurd (cc)), (λ h. refl))
  no_fragment (Some k) =
      elim (cases_eq k 9) [
        | inl same ↦ (let yes : (k == 9) ≡ true = eq-eqb k 9 same in rw yes ((λ h. absurd (cc)), (λ h. absurd (h (ap Some same)))))
        | inr apart ↦ (let nope : (k == 9) ≡ false = ne_eqb k 9 apart in rw nope ((λ h e. apart (cc)), (λ h. refl)))
      ]

  last_decides : (ids : List ℕ) → Decides (fragment_is_last m ids) (FragmentIsLastHere ids)
  last_decides [] = ((λ h. tt), (λ h. refl))
  last_decides (id ∷ []) = ((λ h. tt), (λ h. refl))
  last_decides (id ∷ next ∷ ids) =
      Decides-and (not (is_fragment (opcode_of m id))) (fragment_is_last m (next ∷ ids)) (no_fragment (opcode_of m id)) (last_decides (next ∷ ids))

  place_decides : (inside alone : Bool) → Decides (inside || not alone) (alone ≡ true → inside ≡ true)
  place_decides true alone = ((λ h e. refl), (λ h. refl))
  place_decides false true = ((λ h. absurd (cc)), (λ h. h refl))
  place_decides false false = ((λ h e. absurd (cc)), (λ h. refl))

  -- where a number is this one, a test has to hold
  asked : (n k : ℕ) (test : Bool) (P : Type 0) → Decides test P → Decides (if n == k then test else true) (n ≡ k → P)
  asked n k test P d =
      elim (cases_eq n k) [
        | inl same ↦ (let yes : (n == k) ≡ true = eq-eqb n k same in rw yes ((λ h e. d.0 h), (λ h. d.1 (h same))))
        | inr apart ↦ (let nope : (n == k) ≡ false = ne_eqb n k apart in rw nope ((λ h e. absurd (apart e)), (λ h. refl)))
      ]

  -- the two numbers are apart
  exact_split : (number : ℕ) (a b : Bool) → (if number == 30 then a else if number == 31 then b else true) ≡ ((if number == 30 then a else true) && (if number == 31 then b else true))
  exact_split number a b =
      elim (cases_eq number 30) [
        | inl same ↦ (rw same (by_case a))
        | inr apart ↦ (let nope : (number == 30) ≡ false = ne_eqb number 30 apart in rw nope refl)
      ]
    where
      by_case : (x : Bool) → x ≡ (x && true)
      by_case true = refl
      by_case false = refl

  exact_decides : (number : ℕ) (ids : List ℕ) → Decides (is_exact m marks number ids) ((number ≡ 30 → IsOperationHere ids) × (number ≡ 31 → FragmentIsLastHere ids))
  exact_decides number ids =
      rw (exact_split number (is_operation m marks ids) (fragment_is_last m ids))
      (Decides-and (if number == 30 then is_operation m marks ids else true) (if number == 31 then fragment_is_last m ids else true)
      (asked number 30 (is_operation m marks ids) (IsOperationHere ids) (operation_decides ids)) (asked number 31 (fragment_is_last m ids) (FragmentIsLastHere ids) (last_decides ids)))

  -- all of it
  abbrev HasKind : DebugInst → Type 0
  HasKind d = (kind : List Role × More) × (reads d.number kinds ≡ Some kind) × OfKind d.operands kind

  abbrev HasPlace : Bool → DebugInst → Type 0
  HasPlace inside d = is_one_of in_blocks_alone d.number ≡ true → inside ≡ true

  abbrev IsExact : DebugInst → Type 0
  IsExact d = (d.number ≡ 30 → IsOperationHere d.operands) × (d.number ≡ 31 → FragmentIsLastHere d.operands)

  abbrev IsWithin : Measure → Type 0
  IsWithin x = (x.bits ≤ 268435456) × (x.nesting ≤ 64)

  within_decides : (x : Measure) → Decides (is_within x) (IsWithin x)
  within_decides x = Decides-and (nat_le x.bits 268435456) (nat_le x.nesting 64) (at_most x.bits 268435456) (at_most x.nesting 64)

  abbrev Parts : Bool → DebugInst → Type 0
  Parts inside d = ((HasKind d × HasPlace inside d) × IsExact d) × IsWithin (measured m marks d)

  parts_decide : (inside : Bool) (d : DebugInst) → Decides (is_formed m marks inside d) (Parts inside d)
  parts_decide inside d =
      let kind = has_operands m marks d.number d.operands in
      let place = inside || not (is_one_of in_blocks_alone d.number) in
      let exact = is_exact m marks d.number d.operands in
      let measure = measured m marks d in
      Decides-and ((kind && place) && exact) (is_within measure)
      (Decides-and (kind && place) exact
      (Decides-and kind place (operands_decides d.number d.operands) (place_decides inside (is_one_of in_blocks_alone d.number)))
      (exact_decides d.number d.operands))
      (within_decides measure)

  pub formed_decides : (inside : Bool) (d : DebugInst) → Decides (is_formed m marks inside d) (IsWellFormed m marks inside d)
  formed_decides inside d = ((λ h. told ((parts_decide inside d).0 h)), (λ w. (parts_decide inside d).1 (parts w)))
    where
      told : Parts inside d → IsWellFormed m marks inside d
      told p = record {
        operands = record {
          kind = p.0.0.0.0;
          is_kind = p.0.0.0.1;
          operands = p.0.0.0.2.0;
          more = p.0.0.0.2.1;
          operation = p.0.1.0;
          expression = p.0.1.1;
        };
        place = p.0.0.1;
        bits = p.1.0;
        nesting = p.1.1;
      }

      parts : IsWellFormed m marks inside d → Parts inside d
      parts w = ((((w.operands.kind, w.operands.is_kind, (w.operands.operands, w.operands.more)), w.place), (w.operands.operation, w.operands.expression)), (w.bits, w.nesting))
