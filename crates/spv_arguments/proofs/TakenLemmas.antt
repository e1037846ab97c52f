-- The words at which `clap` has no fault to find are taken, and ask for one of the four.
use Rattle.std.proofs.Common.{◌≡◌, ◌∙◌, ◌&&◌, ◌||◌, ◌⊎◌, ◌++◌, ◌==◌, ℕ, Bool, true, false, not, zero, suc, refl, sym, ap, subst, List, [], ◌∷◌, length, Option, Some, None, is_some, inl, inr, codes, arith, pos, if◌then◌else◌}
use Rattle.std.specs.Prelude.{find, option_map}
use Rattle.std.specs.List.{AllByRecursion, list_all}
use Rattle.std.specs.Option.{option_map_or}
use Rattle.std.specs.Str.{bytes_eq}
use Rattle.std.proofs.lemmas.Bool.{ne_eqb}
use Rattle.std.proofs.lemmas.Slice.Eq.{bytes_eq-Decides}
use Rattle.clap.specs.Facts.{explicit_source, parser_of_value, unwrap_or_range}
use Rattle.clap.specs.Kinds.{range_kinds, value_kinds}
use Rattle.clap.specs.Lexer.{without_minus}
use Rattle.clap.specs.ValueTests.{is_signed_in}
use Rattle.clap.specs.Walk.{Row, Rule, Text, answers_to as is_called, at_row, finished, first_of, has_row, most_values, nothing_held, one_of, reading_by, row_text, used, walk_from, values_or_missing, walk, without}
use Rattle.clap.specs.Simple.{App, Shape, argument_words, built, entered, filled, help_rule, inherited, built_leaf, label_of, marked_built, names_of, rows_at, subcommand_of, with_index, with_leaf_noted}
use Rattle.clap.specs.Takes.{default_passes, entered_passes, is_given, is_valid, level_passes, settle_passes, takes, use_passes, value_passes, walk_passes}
use Rattle.clap.specs.Faults.{action_fault, entered_fault, fault_of, level_fault, repeat_fault, use_fault, values_fault}
use Rattle.clap.specs.declared.builder.action.ArgAction.TheVariants.{Set, Help}
use Rattle.clap.specs.declared.builder.value_parser.ValueParser.TheVariants.{Signed}
use Rattle.clap.specs.declared.error.kind.ErrorKind.{ErrorKind}
use Rattle.clap.specs.declared.error.kind.ErrorKind.TheVariants as kind
use Rattle.clap.proofs.WalkLemmas.{both}
use Rattle.spv_arguments.specs.CommandLine.{spvdbg, debug_command, check_command, make_command, required_number, text_command}
use Rattle.spv_arguments.specs.Requests.{IsFound}
use Rattle.spv_arguments.proofs.LevelLemmas.{Ends, IsLevel, OneOf, Stops, both_true, found, one_has, or_none, passes_level}

-- ---- rows

-- the row of a use of this argument: it has one value, which passed
abbrev RowOf : Rule → Row → Type 0
RowOf a r = (r.id ≡ a.id) × (r.reading ≡ reading_by a) × ((v : Text) × (r.values ≡ v ∷ []) × (value_passes a v ≡ true))

-- of one of these
abbrev RowOfOne : List Rule → Row → Type 0
RowOfOne [] r = ⊥
RowOfOne (a ∷ c) r = RowOf a r ⊎ RowOfOne c r

row_of_one : (c : List Rule) (a : Rule) (r : Row) → OneOf a c → RowOf a r → RowOfOne c r
row_of_one [] a r one h = absurd one
row_of_one (x ∷ c) a r (inl is) h = inl (subst (λ b. RowOf b r) is h)
row_of_one (x ∷ c) a r (inr one) h = inr (row_of_one c a r one h)

value_of_one : (c : List Rule) (r : Row) → RowOfOne c r → (v : Text) × (r.values ≡ v ∷ [])
value_of_one [] r h = absurd h
value_of_one (x ∷ c) r (inl h) = (h.2.0, h.2.1)
value_of_one (x ∷ c) r (inr h) = value_of_one c r h

all_more : (Q : Row → Type 0) (rows : List Row) (r : Row) → AllByRecursion Q rows → Q r → AllByRecursion Q (rows ++ r ∷ [])
all_more Q [] r h q = (q, tt)
all_more Q (x ∷ rows) r h q = (h.0, all_more Q rows r h.1 q)

-- no row of this id is changed where there is none
at_no_row : (id : Text) (change : Row → List Row) (missing rows : List Row) → has_row id rows ≡ false → at_row id change missing rows ≡ rows ++ missing
at_no_row id change missing [] e = refl
at_no_row id change missing (r ∷ rows) e = go (bytes_eq r.id id) (at_no_row id change missing rows) e
  where
    go : (b : Bool) → (has_row id rows ≡ false → at_row id change missing rows ≡ rows ++ missing)
        → (b || has_row id rows) ≡ false → (if b then change r ++ rows else r ∷ at_row id change missing rows) ≡ r ∷ (rows ++ missing)
    go true more e = absurd cc
    go false more e = ap (λ l. r ∷ l) (more e)

without_no_row : (id : Text) (rows : List Row) → has_row id rows ≡ false → without id rows ≡ rows
without_no_row id [] e = refl
without_no_row id (r ∷ rows) e = go (bytes_eq r.id id) (without_no_row id rows) e
  where
    go : (b : Bool) → (has_row id rows ≡ false → without id rows ≡ rows) → (b || has_row id rows) ≡ false → (if b then rows else r ∷ without id rows) ≡ r ∷ rows
    go true more e = absurd cc
    go false more e = ap (λ l. r ∷ l) (more e)

-- ---- one use

-- a positional that takes one value, as building leaves it
record IsValue (a : Rule) : Type 0 where
  action : a.action ≡ Some Set
  range : a.range ≡ Some (record { start_inclusive = 1; end_inclusive = 1 })
  index : is_some a.index ≡ true
  defaults : a.defaults ≡ []

-- the flag of help
record IsHelp (a : Rule) : Type 0 where
  action : a.action ≡ Some Help
  range : a.range ≡ Some (record { start_inclusive = 0; end_inclusive = 0 })
  defaults : a.defaults ≡ []

abbrev IsOurs : Rule → Type 0
IsOurs a = IsValue a ⊎ IsHelp a

help_ends : (a : Rule) (again : Bool) (values : List Text) (rows : List Row) → IsHelp a → use_fault again a values rows ≡ [] → ⊥
help_ends a again values rows h e =
    let asked = (or_none (range_kinds (unwrap_or_range a.range).start_inclusive (most_values a) (length values)) _ e).1 in
    let bad : kind.DisplayHelp ∷ [] ≡ [] = rw h.action at asked in
    absurd cc

one_in_range : (n : ℕ) → range_kinds 1 1 n ≡ [] → n ≡ 1
one_in_range zero e = absurd cc
one_in_range (suc zero) e = refl
one_in_range (suc (suc n)) e =
    let some : (suc (suc n) == 0) ≡ false = ne_eqb _ _ (λ e. omega arith) in
    let more : (1 == suc (suc n)) ≡ false = ne_eqb _ _ (λ e. omega arith) in
    let bad : kind.WrongNumberOfValues ∷ [] ≡ [] = rw (some, more) at e in
    absurd cc

one_value : (values : List Text) → length values ≡ 1 → (v : Text) × (values ≡ v ∷ [])
one_value [] e = absurd (omega arith)
one_value (v ∷ []) e = (v, refl)
one_value (v ∷ w ∷ more) e = absurd (omega arith)

not_repeated : (b : Bool) → (if b && not false then kind.ArgumentConflict ∷ [] else []) ≡ [] → b ≡ false
not_repeated true e = absurd cc
not_repeated false e = refl

not_refused : (b : Bool) (k : ErrorKind) → (if b then [] else k ∷ []) ≡ [] → b ≡ true
not_refused true k e = refl
not_refused false k e = absurd cc

passed : (a : Rule) (v : Text) → value_kinds a.ignore_case (parser_of_value a.parser) v ≡ [] → value_passes a v ≡ true
passed a v e = not_refused (value_passes a v) _ e

module _ (c : List Rule) where
  -- a use without a fault is one that passes, and leaves the row of its value
  use_of : (a : Rule) (v : Text) (rows : List Row) → OneOf a c → IsValue a → action_fault Set false a (v ∷ []) rows ≡ []
      → (use_passes false a (v ∷ []) rows ≡ true) × (AllByRecursion (RowOfOne c) rows → AllByRecursion (RowOfOne c) (used a (v ∷ []) rows))
  use_of a v rows one is e =
      let parts = or_none (repeat_fault false a.id rows) (values_fault a (v ∷ [])) e in
      let fresh : has_row a.id rows ≡ false = not_repeated (has_row a.id rows) parts.0 in
      let pass = passed a v (or_none (value_kinds a.ignore_case (parser_of_value a.parser) v) [] parts.1).0 in (
        rw (is.range, is.action, fresh, pass) refl,
        λ h. rw (is.action, without_no_row a.id rows fresh, at_no_row a.id _ _ rows fresh)
            (all_more (RowOfOne c) rows _ h (row_of_one c a _ one (refl, refl, (v, refl, pass)))),
      )

  uses_of : (a : Rule) (values : List Text) (rows : List Row) → OneOf a c → IsOurs a → use_fault false a values rows ≡ []
      → (use_passes false a values rows ≡ true) × (AllByRecursion (RowOfOne c) rows → AllByRecursion (RowOfOne c) (used a values rows))
  uses_of a values rows one (inr help) e = absurd (help_ends a false values rows help e)
  uses_of a values rows one (inl is) e =
      let parts = or_none (range_kinds (unwrap_or_range a.range).start_inclusive (most_values a) (length values)) _ e in
      let few : length values ≡ 1 = one_in_range (length values) (rw is.range at parts.0) in
      let single = one_value values few in
      let due : action_fault Set false a (values_or_missing a values) rows ≡ [] = rw is.action at parts.1 in
      rw single.1 (use_of a single.0 rows one is (rw single.1 at due))

-- a level of such arguments
our_level : (s : Shape) → s.args_override_self ≡ false → AllByRecursion IsOurs s.rules → list_all (λ a. a.is_free) s.rules ≡ true
    → s.arg_required_else_help ≡ false → IsLevel (RowOfOne s.rules) s
our_level s again ours free no_help = record {
  flags = all_of s.rules ours;
  uses = λ a values rows one e. rw again (uses_of s.rules a values rows one (one_has IsOurs s.rules a ours one) (rw again at e));
  defaults = none_of s.rules ours;
  free = free;
  no_help = no_help;
}
  where
    flag_of : (a : Rule) → IsOurs a → (is_some a.index ≡ true) ⊎ Ends s.args_override_self a
    flag_of a (inl is) = inl is.index
    flag_of a (inr help) = inr (rw help.range refl, λ rows e. help_ends a s.args_override_self [] rows help e)

    all_of : (c : List Rule) → AllByRecursion IsOurs c → AllByRecursion (λ a. (is_some a.index ≡ true) ⊎ Ends s.args_override_self a) c
    all_of [] h = tt
    all_of (a ∷ c) h = (flag_of a h.0, all_of c h.1)

    no_default : (a : Rule) → IsOurs a → a.defaults ≡ []
    no_default a (inl is) = is.defaults
    no_default a (inr help) = help.defaults

    none_of : (c : List Rule) → AllByRecursion IsOurs c → AllByRecursion (λ a. a.defaults ≡ []) c
    none_of [] h = tt
    none_of (a ∷ c) h = (no_default a h.0, none_of c h.1)

-- ---- what is found at a level

-- an argument that is given has a row, and its first value
row_given : (c : List Rule) (id : Text) (rows : List Row) → AllByRecursion (RowOfOne c) rows → is_given id rows ≡ true
    → (r : Row) × (find (λ r. bytes_eq r.id id) rows ≡ Some r) × RowOfOne c r × (r.id ≡ id)
row_given c id rows all given = go (find (λ r. bytes_eq r.id id) rows) refl given
  where
    go : (o : Option Row) → find (λ r. bytes_eq r.id id) rows ≡ o → option_map_or (λ r. explicit_source r.source) o false ≡ true
        → (r : Row) × (find (λ r. bytes_eq r.id id) rows ≡ Some r) × RowOfOne c r × (r.id ≡ id)
    go None e g = absurd cc
    go (Some r) e g =
        let f = found (λ r. bytes_eq r.id id) rows r e in
        (r, e, one_has (RowOfOne c) rows r all f.0, (bytes_eq-Decides r.id id).0 f.1)

first_given : (c : List Rule) (id : Text) (rows : List Row) → AllByRecursion (RowOfOne c) rows → is_given id rows ≡ true → (v : Text) × (first_of id rows ≡ Some v)
first_given c id rows all given =
    let row = row_given c id rows all given in
    let value = value_of_one c row.0 row.2 in
    (value.0, rw (row.1, value.1) refl)

first_read : (id : Text) (rows : List Row) (r : Row) (text : Text) → find (λ r. bytes_eq r.id id) rows ≡ Some r → row_text r ≡ Some text → one_of id rows ≡ Some text
first_read id rows r text here read = rw here read

-- ---- the levels of this command line

-- a subcommand as building leaves it
abbrev level : Shape → Shape
level s = built_leaf (inherited (with_leaf_noted (marked_built spvdbg.top)) s)

abbrev IsSub : Shape → Type 0
IsSub s = (words : List Text) → level_fault s [] nothing_held words false [] ≡ [] → (level_passes s [] nothing_held words false ≡ true) × IsFound (Some (rows_at s words))

-- what each test of `is_valid` asks for, where nothing but required arguments is
given_all : (s : Shape) (words : List Text) → level_passes s [] nothing_held words false ≡ true → is_valid s (finished s.rules (walk s.rules [] nothing_held words).held) false ≡ true
given_all s words e =
    let first = both (walk_passes s [] (walk_from nothing_held) words) _ e in
    let second = both (settle_passes s.rules s.args_override_self (walk s.rules [] nothing_held words).held) _ first.1 in
    (both (list_all default_passes s.rules) _ second.1).1

module _ (s : Shape) (is_level : IsLevel (RowOfOne s.rules) s) (words : List Text) (e : level_fault s [] nothing_held words false [] ≡ []) where
  abbrev rows : List Row
  rows = finished s.rules (walk s.rules [] nothing_held words).held

  level_taken : (level_passes s [] nothing_held words false ≡ true) × AllByRecursion (RowOfOne s.rules) rows
  level_taken = let t = passes_level (RowOfOne s.rules) s [] is_level words false [] e in (t.1, t.2)

  value_found : (id : Text) → is_given id rows ≡ true → (v : Text) × (first_of id rows ≡ Some v)
  value_found id given = first_given s.rules id rows level_taken.1 given

is_debug : IsSub (level debug_command.top)
unfolding spvdbg
is_debug words e =
    let is = our_level (level debug_command.top) refl (inl (record { action = refl; range = refl; index = refl; defaults = refl }), (inl (record { action = refl; range = refl; index = refl; defaults = refl }), (inr (record { action = refl; range = refl; defaults = refl }), tt))) refl refl in
    let taken = level_taken (level debug_command.top) is words e in
    let r = rows (level debug_command.top) is words e in
    let given : (is_given (codes "MODULE") r && (is_given (codes "SETUP") r && true)) ≡ true = given_all (level debug_command.top) words taken.0 in
    let first = both (is_given (codes "MODULE") r) _ given in
    let binary = value_found (level debug_command.top) is words e (codes "MODULE") first.0 in
    let setup = value_found (level debug_command.top) is words e (codes "SETUP") (both (is_given (codes "SETUP") r) true first.1).0 in
    (taken.0, inl (rw (binary.1, setup.1) refl))

is_check : IsSub (level check_command.top)
unfolding spvdbg
is_check words e =
    let is = our_level (level check_command.top) refl (inl (record { action = refl; range = refl; index = refl; defaults = refl }), (inr (record { action = refl; range = refl; defaults = refl }), tt)) refl refl in
    let taken = level_taken (level check_command.top) is words e in
    let r = rows (level check_command.top) is words e in
    let given : (is_given (codes "MODULE") r && true) ≡ true = given_all (level check_command.top) words taken.0 in
    let binary = value_found (level check_command.top) is words e (codes "MODULE") (both (is_given (codes "MODULE") r) true given).0 in
    (taken.0, inr (inl (rw binary.1 refl)))

is_text : IsSub (level text_command.top)
unfolding spvdbg
is_text words e =
    let is = our_level (level text_command.top) refl (inl (record { action = refl; range = refl; index = refl; defaults = refl }), (inr (record { action = refl; range = refl; defaults = refl }), tt)) refl refl in
    let taken = level_taken (level text_command.top) is words e in
    let r = rows (level text_command.top) is words e in
    let given : (is_given (codes "MODULE") r && true) ≡ true = given_all (level text_command.top) words taken.0 in
    let binary = value_found (level text_command.top) is words e (codes "MODULE") (both (is_given (codes "MODULE") r) true given).0 in
    (taken.0, inr (inr (inr (rw binary.1 refl))))

-- the row of `N`: its value is a number from 1 to 64, and is read without a first hyphen
number_row : (a h : Rule) (r : Row) → a.parser ≡ Some (Signed (pos 1) (pos 64)) → h.id ≡ codes "help" → r.id ≡ codes "N" → RowOfOne (a ∷ h ∷ []) r
    → (v : Text) × (row_text r ≡ Some (without_minus v)) × (is_signed_in (pos 1) (pos 64) v ≡ true)
number_row a h r parser help id (inl row) =
    (row.2.0, rw (row.2.1, row.1, parser) refl, rw parser at row.2.2)
number_row a h r parser help id (inr (inl row)) =
    let same : codes "N" ≡ codes "help" = sym id ∙ (row.0 ∙ help) in
    let bad : length (codes "N") ≡ length (codes "help") = ap length same in
    absurd (omega arith)
number_row a h r parser help id (inr (inr row)) = absurd row

is_make : IsSub (level make_command.top)
unfolding spvdbg
is_make words e =
    let is = our_level (level make_command.top) refl (inl (record { action = refl; range = refl; index = refl; defaults = refl }), (inr (record { action = refl; range = refl; defaults = refl }), tt)) refl refl in
    let taken = level_taken (level make_command.top) is words e in
    let r = rows (level make_command.top) is words e in
    let given : (is_given (codes "N") r && true) ≡ true = given_all (level make_command.top) words taken.0 in
    let row = row_given (level make_command.top).rules (codes "N") r taken.1 (both (is_given (codes "N") r) true given).0 in
    let number = number_row (with_index 1 (filled (required_number (codes "N")))) (with_index 2 (filled help_rule)) row.0 refl refl row.3 row.2 in
    (taken.0, inr (inr (inl (number.0, r, refl, first_read (codes "N") r row.0 (without_minus number.0) row.1 number.1, number.2))))

-- ---- the whole command line

abbrev app : App
app = built spvdbg

top_level : IsLevel (RowOfOne app.top.rules) app.top
unfolding spvdbg
top_level = our_level app.top refl (inr (record { action = refl; range = refl; defaults = refl }), tt) refl refl

abbrev IsSubOrHelp : Shape → Type 0
IsSubOrHelp s = IsSub s ⊎ ((s.name ≡ codes "help") × (s.aliases ≡ []))

subs_are : AllByRecursion IsSubOrHelp app.subs
unfolding spvdbg
subs_are = (inl is_debug, (inl is_check, (inl is_make, (inl is_text, (inr (refl, refl), tt)))))

required_wanted : (b : Bool) → (not b && true) ≡ false → b ≡ true
required_wanted true e = refl
required_wanted false e = absurd cc

-- the name by which a subcommand was met isn't `help`
not_help : (name : Text) (s : Shape) → (not (bytes_eq name (codes "help")) || false) ≡ true → (s.name ≡ codes "help") × (s.aliases ≡ []) → is_called name (label_of s) ≡ true → ⊥
not_help name s met help called =
    let here : (bytes_eq (codes "help") name || false) ≡ true = rw (help.0, help.1) at called in
    let same : codes "help" ≡ name = (bytes_eq-Decides (codes "help") name).0 (or_false (bytes_eq (codes "help") name) here) in
    let other : bytes_eq name (codes "help") ≡ true = (bytes_eq-Decides name (codes "help")).1 (sym same) in
    let bad : (not true || false) ≡ true = rw other at met in
    absurd cc
  where
    or_false : (b : Bool) → (b || false) ≡ true → b ≡ true
    or_false true e = refl
    or_false false e = e

entered_by : (p : Text × List Text) (o : Option Shape) → ((s : Shape) → o ≡ Some s → IsSub s) → is_some (option_map (λ s. rows_at s p.1) o) ≡ true
    → option_map_or (λ s. level_fault s [] nothing_held p.1 false []) o [] ≡ []
    → (option_map_or (λ s. level_passes s [] nothing_held p.1 false) o true ≡ true) × IsFound (option_map (λ s. rows_at s p.1) o)
entered_by p None subs some e = absurd cc
entered_by p (Some s) subs some e = subs s refl p.1 e

entered_at : (stop : Option (Text × List Text)) → ((p : Text × List Text) → stop ≡ Some p → (not (bytes_eq p.0 (codes "help")) || false) ≡ true)
    → is_some (entered app stop) ≡ true → entered_fault app stop ≡ [] → (entered_passes app stop ≡ true) × IsFound (entered app stop)
entered_at None met some e = absurd cc
entered_at (Some p) met some e = entered_by p (find (λ s. is_called p.0 (label_of s)) app.subs) sub some e
  where
    sub : (s : Shape) → find (λ s. is_called p.0 (label_of s)) app.subs ≡ Some s → IsSub s
    sub s f =
        let one = found (λ s. is_called p.0 (label_of s)) app.subs s f in
        elim (one_has IsSubOrHelp app.subs s subs_are one.0) [
          | inl is ↦ is
          | inr help ↦ absurd (not_help p.0 s (met p refl) help one.1)
        ]

-- where there is no fault, the words are taken, and what one of the four asks for is found
pub taken : (words : List Text) → fault_of spvdbg words ≡ [] → (takes spvdbg words ≡ true) × IsFound (subcommand_of spvdbg words)
unfolding spvdbg
taken words e =
    let args = argument_words spvdbg words in
    let stop = (walk app.top.rules (names_of app) nothing_held args).stopped in
    let t = passes_level (RowOfOne app.top.rules) app.top (names_of app) top_level args (is_some (entered app stop)) (entered_fault app stop) e in
    let has = required_wanted (is_some (entered app stop)) t.4 in
    let sub = entered_at stop (met stop t.3) has t.0 in
    (both_true (entered_passes app stop) _ sub.0 t.1, sub.1)
  where
    met : (stop : Option (Text × List Text)) → Stops app.top stop → (p : Text × List Text) → stop ≡ Some p → (not (bytes_eq p.0 (codes "help")) || app.top.disable_help_subcommand) ≡ true
    met stop h p is = subst (Stops app.top) is h
