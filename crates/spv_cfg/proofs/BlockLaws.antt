-- Each block of a function has a first executable, and each executable but a terminator a next one.
use Rattle.std.proofs.Common.{◌≡◌, ◌∙◌, ◌<◌, ◌≤◌, ◌==◌, ℕ, suc, Bool, true, false, cond, List, [], ◌∷◌, ◌++◌, ◌&&◌, length, Option, Some, refl, sym, ap, arith, append_assoc}
use Rattle.std.specs.List.{AllByRecursion, Contains}
use Rattle.std.proofs.lemmas.List.Elements.{Contains-append_right}
use Rattle.spv_base.specs.Entries.{reads}
use Rattle.spv_base.specs.Order.{Ascend}
use Rattle.spv_base.specs.declared.instructions.Inst.{Inst}
use Rattle.spv_index.specs.declared.classes.Class.{Class}
use Rattle.spv_index.specs.declared.classes.Class.TheVariants.{Label, Terminator, Executable}
use Rattle.spv_index.specs.declared.positions.Stage.TheVariants.{Body}
use Rattle.spv_index.specs.declared.positions.Position.{Position}
use Rattle.spv_index.specs.Classes.{is_executable, is_label, is_terminator, class_of}
use Rattle.spv_index.specs.Positions.{Stand, stands, position_after, begins_block, in_block, in_function}
use Rattle.spv_cfg.specs.Executables.{executable_of, followers_of, following}
use Rattle.spv_cfg.specs.Flow.{Flow}
use Rattle.spv_cfg.specs.Laws.{HasFirst, HasNext}
use Rattle.spv_cfg.proofs.Walks.{stand}
use Rattle.spv_cfg.proofs.LayoutLemmas.{IsWhole, Led, block_goes_on, executables_from, stays_inside, whole_parts}
use Rattle.spv_base.proofs.Exports.{same_number}

pub reads_among : {X : Type 0} (front : List (ℕ × X)) (k : ℕ) (v : X) (more : List (ℕ × X)) → (w : X) × (reads k (front ++ (k, v) ∷ more) ≡ Some w)
reads_among [] k v more = (v, rw (same_number k) refl)
reads_among {X} (e ∷ front) k v more = by_test (e.0 == k) (reads_among front k v more)
  where
    by_test : (b : Bool) → ((w : X) × (reads k (front ++ (k, v) ∷ more) ≡ Some w)) → (w : X) × (cond b (Some e.1) (reads k (front ++ (k, v) ∷ more)) ≡ Some w)
    by_test true rest = (e.1, refl)
    by_test false rest = rest

-- a block to which one of the executables belongs has a first one
pub first_among : (f : Flow) (front es : List (ℕ × ℕ)) (label : ℕ) → Led label es → front ++ es ≡ f.blocks → HasFirst f label
first_among f front es label (w, more, es_are) is =
    let found = reads_among front label w more in
    (found.0, sym (ap (reads label) is) ∙ ap (λ (xs : List (ℕ × ℕ)). reads label (front ++ xs)) es_are ∙ found.1)

-- what is listed before one more instruction
pub one_further : {X : Type 0} (front here rest whole : List X) → front ++ (here ++ rest) ≡ whole → (front ++ here) ++ rest ≡ whole
one_further front here rest whole is = append_assoc front here rest ∙ is

-- ---- blocks are entered

entered_by_class : (r : Class) (f : Flow) (position : Position) (inst : Inst) (front es : List (ℕ × ℕ))
    → (in_block (position_after position r inst).stage ≡ true → Led (position_after position r inst).label es)
    → front ++ (executable_of (record { position = position; class = r; inst = inst }) ++ es) ≡ f.blocks
    → (is_label r && in_function position.stage) ≡ true → HasFirst f inst.id
entered_by_class Label f position inst front es led is here = first_among f front es inst.id (begun (in_function position.stage) here led) is
  where
    begun : (b : Bool) → b ≡ true → (in_block (cond b (begins_block position inst) position).stage ≡ true → Led (cond b (begins_block position inst) position).label es) → Led inst.id es
    begun true e behind = behind refl
    begun false e behind = absurd (cc)
entered_by_class other f position inst front es led is here = absurd (cc)

pub blocks_are_entered : (f : Flow) (sets : List (ℕ × Bool)) (position : Position) (insts : List Inst) (front : List (ℕ × ℕ)) → IsWhole sets position insts
    → front ++ executables_from sets position insts ≡ f.blocks
    → AllByRecursion (λ (s : Stand). (is_label s.class && in_function s.position.stage) ≡ true → HasFirst f s.inst.id) (stands sets position insts)
blocks_are_entered f sets position [] front whole is = tt
blocks_are_entered f sets position (inst ∷ insts) front whole is =
    let parts = whole_parts sets position inst insts whole in
    let after : Position = position_after position (class_of sets inst) inst in
    let here : List (ℕ × ℕ) = executable_of (stand sets position inst) in (
      entered_by_class (class_of sets inst) f position inst front (executables_from sets after insts) (block_goes_on sets after insts parts.1) is,
      blocks_are_entered f sets after insts (front ++ here) parts.1 (one_further front here (executables_from sets after insts) f.blocks is),
    )

-- ---- runs go on

-- the words of these executables come before a word
abbrev AreBefore : ℕ → List (ℕ × ℕ) → Type 0
AreBefore word es = AllByRecursion (λ (e : ℕ × ℕ). e.1 < word) es

before_later : (word later : ℕ) (es : List (ℕ × ℕ)) → word ≤ later → AreBefore word es → AreBefore later es
before_later word later [] le before = tt
before_later word later (e ∷ es) le before = let lt : e.1 < later = omega (arith, before.0) in (lt, before_later word later es le before.1)

before_both : (word : ℕ) (xs ys : List (ℕ × ℕ)) → AreBefore word xs → AreBefore word ys → AreBefore word (xs ++ ys)
before_both word [] ys one other = other
before_both word (x ∷ xs) ys one other = (one.0, before_both word xs ys one.1 other)

before_next : (s : Stand) → AreBefore (suc s.inst.word) (executable_of s)
before_next s = by_test (is_executable s.class && in_block s.position.stage)
  where
    by_test : (b : Bool) → AreBefore (suc s.inst.word) (cond b ((s.position.label, s.inst.word) ∷ []) [])
    by_test true = let lt : s.inst.word < suc s.inst.word = omega arith in (lt, tt)
    by_test false = tt

earlier_differs : (word other : ℕ) → other < word → (other == word) ≡ false
earlier_differs word other lt = grind arith

followed_at : (front : List (ℕ × ℕ)) (label word : ℕ) (es : List (ℕ × ℕ)) → AreBefore word front
    → reads word (followers_of (front ++ (label, word) ∷ es)) ≡ Some (following label es)
followed_at [] label word es before = rw (same_number word) refl
followed_at (e ∷ front) label word es before = rw (earlier_differs word e.1 before.0) (followed_at front label word es before.1)

next_among : (f : Flow) (s : Stand) (front es : List (ℕ × ℕ)) → f.nexts ≡ followers_of f.blocks → AreBefore s.inst.word front → Led s.position.label es
    → front ++ (s.position.label, s.inst.word) ∷ es ≡ f.blocks → HasNext f s
next_among f s front es nexts before (w, more, es_are) is =
    let label : ℕ = s.position.label in
    let blocks : front ++ (label, s.inst.word) ∷ (label, w) ∷ more ≡ f.blocks = rw es_are at is in
    let read : reads s.inst.word (followers_of (front ++ (label, s.inst.word) ∷ (label, w) ∷ more)) ≡ Some (following label ((label, w) ∷ more))
    = followed_at front label s.inst.word ((label, w) ∷ more) before in
    let next : following label ((label, w) ∷ more) ≡ Some w = rw (same_number label) refl in
    let lt : 1 < suc (suc (length more)) = omega arith in
    let among : Contains (front ++ (label, s.inst.word) ∷ (label, w) ∷ more) (label, w) = Contains-append_right front _ (label, w) (1, lt, refl) in (
      w,
      ap (reads s.inst.word) (nexts ∙ sym (ap followers_of blocks)) ∙ read ∙ ap (λ (o : Option ℕ). Some o) next,
      rw blocks at among,
    )

next_by_class : (r : Class) (f : Flow) (position : Position) (inst : Inst) (front es : List (ℕ × ℕ)) → f.nexts ≡ followers_of f.blocks → AreBefore inst.word front
    → (in_block (position_after position r inst).stage ≡ true → Led (position_after position r inst).label es)
    → front ++ (executable_of (record { position = position; class = r; inst = inst }) ++ es) ≡ f.blocks
    → (is_executable r && in_block position.stage) ≡ true → is_terminator r ≡ false → HasNext f (record { position = position; class = r; inst = inst })
next_by_class Executable f position inst front es nexts before led is here goes_on =
    let inside : in_block (cond (in_block position.stage) Body position.stage) ≡ true = stays_inside (in_block position.stage) Body position.stage refl here in
    next_among f (record { position = position; class = Executable; inst = inst }) front es nexts before (led inside) (rw here at is)
next_by_class Terminator f position inst front es nexts before led is here goes_on = absurd (cc)
next_by_class other f position inst front es nexts before led is here goes_on = absurd (cc)

pub blocks_go_on : (f : Flow) (sets : List (ℕ × Bool)) (position : Position) (from : ℕ) (insts : List Inst) (front : List (ℕ × ℕ)) → f.nexts ≡ followers_of f.blocks
    → Ascend from insts → AreBefore from front → IsWhole sets position insts
    → front ++ executables_from sets position insts ≡ f.blocks
    → AllByRecursion (λ (s : Stand). (is_executable s.class && in_block s.position.stage) ≡ true → is_terminator s.class ≡ false → HasNext f s) (stands sets position insts)
blocks_go_on f sets position from [] front nexts ascend before whole is = tt
blocks_go_on f sets position from (inst ∷ insts) front nexts ascend before whole is =
    let parts = whole_parts sets position inst insts whole in
    let after : Position = position_after position (class_of sets inst) inst in
    let here : List (ℕ × ℕ) = executable_of (stand sets position inst) in
    let le : from ≤ suc inst.word = omega (arith, ascend.0) in (
      next_by_class (class_of sets inst) f position inst front (executables_from sets after insts) nexts (before_later from inst.word front ascend.0 before) (block_goes_on sets after insts parts.1) is,
      blocks_go_on f sets after (suc inst.word) insts (front ++ here) nexts ascend.1
          (before_both (suc inst.word) front here (before_later from (suc inst.word) front le before) (before_next (stand sets position inst)))
          parts.1 (one_further front here (executables_from sets after insts) f.blocks is),
    )
