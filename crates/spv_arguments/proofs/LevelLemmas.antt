-- A level of a command at which `clap` has no fault to find: it takes the words there, and what it finds is what its uses leave.
use Rattle.std.proofs.Common.{◌≡◌, ◌∙◌, ◌&&◌, ◌||◌, ◌⊎◌, ℕ, Bool, true, false, not, zero, suc, cond, refl, sym, ap, subst, List, [], ◌∷◌, length, Option, Some, None, is_some, inl, inr, codes, arith, if◌then◌else◌}
use Rattle.std.specs.Prelude.{⊤, find, fold, slice_get}
use Rattle.std.specs.List.{AllByRecursion, list_all, list_any}
use Rattle.std.specs.Option.{option_map_or}
use Rattle.std.specs.Str.{bytes_eq, chars}
use Rattle.clap.specs.Facts.{explicit_source}
use Rattle.clap.specs.Lexer.{long_of, short_of}
use Rattle.clap.specs.Kinds.{Kinds, check_kinds, or_else}
use Rattle.clap.specs.Walk.{Held, Names, Outcome, Row, Rule, Step, Text, Waiting, Walk, after_flag, arg_by_id, arg_by_index, arg_by_long, arg_by_short, bundle_met, bundle_step, finished, has_long, has_row, has_short, after_step, idle, is_pending, long_or_other, nothing_held, option, option_word, plain, plain_word, positional, is_multiple, next_position, pushed, reacted, settled, settled_rows, short_or_plain, subcommand_met, subcommand_or_other, takes_several, trailing, takes_values, to_positional, used, used_by_id, value, walk, walk_from, walked, with_default}
use Rattle.clap.specs.declared.error.kind.ErrorKind.TheVariants as kind
use Rattle.clap.specs.Simple.{Shape}
use Rattle.clap.specs.Takes.{bundle_passes, bundle_step_passes, default_passes, flag_word_passes, flags_pass, is_given, is_valid, level_passes, other_passes, positional_passes, settle_passes, step_passes, turn_passes, use_passes, walk_passes}
use Rattle.clap.specs.Faults.{bundle_fault, defaults_fault, bundle_step_fault, flag_word_fault, flags_fault, level_fault, long_fault, other_fault, positional_fault, settle_fault, short_fault, step_fault, stray_fault, turn_fault, use_fault, walk_fault}

-- ---- kinds and tests

pub or_none : (a b : Kinds) → or_else a b ≡ [] → (a ≡ []) × (b ≡ [])
or_none [] b e = (refl, e)
or_none (k ∷ ks) b e = absurd cc

pub both_true : (a b : Bool) → a ≡ true → b ≡ true → (a && b) ≡ true
both_true a b p q = rw (p, q) refl

if_none : (b : Bool) (ks : Kinds) → (ks ≡ [] → ⊥) → (if b then ks else []) ≡ [] → b ≡ false
if_none true ks some e = absurd (some e)
if_none false ks some e = refl

check_none : (a b c : Bool) → check_kinds a b c ≡ [] → (a ≡ false) × (b ≡ false) × (c ≡ false)
check_none true b c e = absurd cc
check_none false true c e = absurd cc
check_none false false true e = absurd cc
check_none false false false e = (refl, refl, refl)

wanted : (has needs : Bool) → (not has && needs) ≡ false → (not needs || has) ≡ true
wanted true true e = refl
wanted true false e = refl
wanted false true e = absurd cc
wanted false false e = refl

all_given : (g : Rule → Bool) (xs : List Rule) → list_any (λ a. a.required && not (g a)) xs ≡ false → list_all (λ a. not a.required || g a) xs ≡ true
all_given g [] e = refl
all_given g (a ∷ xs) e = go a.required (g a) (all_given g xs) e
  where
    go : (r given : Bool) → (list_any (λ a. a.required && not (g a)) xs ≡ false → list_all (λ a. not a.required || g a) xs ≡ true)
        → ((r && not given) || list_any (λ a. a.required && not (g a)) xs) ≡ false → ((not r || given) && list_all (λ a. not a.required || g a) xs) ≡ true
    go true true more e = more e
    go true false more e = absurd cc
    go false given more e = more e

unless_negated : (negated any all : Bool) → (any ≡ false → all ≡ true) → (not negated && any) ≡ false → (negated || all) ≡ true
unless_negated true any all h e = refl
unless_negated false any all h e = h e

-- ---- rules

-- it is one of these
abbrev pub OneOf : {X : Type 0} → X → List X → Type 0
OneOf a [] = ⊥
OneOf a (x ∷ xs) = (a ≡ x) ⊎ OneOf a xs

pub one_has : {X : Type 0} (Q : X → Type 0) (c : List X) (a : X) → AllByRecursion Q c → OneOf a c → Q a
one_has Q [] a h one = absurd one
one_has Q (x ∷ xs) a h (inl is) = subst Q (sym is) h.0
one_has Q (x ∷ xs) a h (inr one) = one_has Q xs a h.1 one

pub found : {X : Type 0} (p : X → Bool) (c : List X) (a : X) → find p c ≡ Some a → OneOf a c × (p a ≡ true)
found p [] a e = absurd cc
found p (x ∷ xs) a e = go (p x) refl (found p xs a) e
  where
    go : (b : Bool) → p x ≡ b → (find p xs ≡ Some a → OneOf a xs × (p a ≡ true)) → cond b (Some x) (find p xs) ≡ Some a → OneOf a (x ∷ xs) × (p a ≡ true)
    go true is more same = let here : x ≡ a = cc in (inl (sym here), ap p (sym here) ∙ is)
    go false is more same = let rest = more same in (inr rest.0, rest.1)

-- a use of the argument as a flag ends the parse
abbrev pub Ends : Bool → Rule → Type 0
Ends again a = (takes_values a ≡ false) × ((rows : List Row) → use_fault again a [] rows ≡ [] → ⊥)

-- what is said of a level whose uses keep P of each row
pub record IsLevel (P : Row → Type 0) (s : Shape) : Type 0 where
  pub flags : AllByRecursion (λ a. (is_some a.index ≡ true) ⊎ Ends s.args_override_self a) s.rules
  pub uses : (a : Rule) (values : List Text) (rows : List Row) → OneOf a s.rules → use_fault s.args_override_self a values rows ≡ []
      → (use_passes s.args_override_self a values rows ≡ true) × (AllByRecursion P rows → AllByRecursion P (used a values rows))
  pub defaults : AllByRecursion (λ a. a.defaults ≡ []) s.rules
  pub free : list_all (λ a. a.is_free) s.rules ≡ true
  pub no_help : s.arg_required_else_help ≡ false

-- ---- defaults

no_default_rows : (c : List Rule) (rows : List Row) → AllByRecursion (λ a. a.defaults ≡ []) c → fold with_default rows c ≡ rows
no_default_rows [] rows h = refl
no_default_rows (a ∷ c) rows h = ap (λ r. fold with_default r c) (rw h.0 (either_way (has_row a.id rows))) ∙ no_default_rows c rows h.1
  where
    either_way : (b : Bool) → (if b then rows else rows) ≡ rows
    either_way true = refl
    either_way false = refl

no_defaults : (c : List Rule) → AllByRecursion (λ a. a.defaults ≡ []) c → list_all default_passes c ≡ true
no_defaults [] h = refl
no_defaults (a ∷ c) h = both_true (default_passes a) (list_all default_passes c) (rw h.0 refl) (no_defaults c h.1)

-- the subcommand at which a walk stopped isn't `help`
abbrev pub Stops : Shape → Option (Text × List Text) → Type 0
Stops s None = ⊤
Stops s (Some p) = (not (bytes_eq p.0 (codes "help")) || s.disable_help_subcommand) ≡ true

module _ (P : Row → Type 0) (s : Shape) (names : Names) (level : IsLevel P s) where
  abbrev c : List Rule
  c = s.rules

  abbrev again : Bool
  again = s.args_override_self

  abbrev Rows : List Row → Type 0
  Rows rows = AllByRecursion P rows

  -- ---- flags

  ends_of : (a : Rule) (q : Bool) → OneOf a c → (not (is_some a.index) && q) ≡ true → Ends again a
  ends_of a q one e = elim (one_has _ c a level.flags one) [
    | inl placed ↦
        let bad : (not true && q) ≡ true = rw placed at e in
        absurd cc
    | inr ends ↦ ends
  ]

  -- a long name, a short name, or a bundle of short ones
  no_long : (o : Option Rule) (v : Option Text) (h : Held) → ((a : Rule) → o ≡ Some a → Ends again a) → long_fault c again o v h ≡ [] → ⊥
  no_long None v h ends e = absurd cc
  no_long (Some a) None h ends e =
      let f = ends a refl in
      let same : or_else (settle_fault c again h) (use_fault again a [] (settled c h).rows) ≡ [] = rw f.0 at e in
      f.1 _ (or_none (settle_fault c again h) _ same).1
  no_long (Some a) (Some v) h ends e =
      let f = ends a refl in
      let bad : kind.TooManyValues ∷ [] ≡ [] = rw f.0 at e in
      absurd cc

  no_short : (o : Option Rule) (rest : Text) (h : Held) (next : Held → Kinds) → ((a : Rule) → o ≡ Some a → Ends again a) → short_fault c again o rest h next ≡ [] → ⊥
  no_short None rest h next ends e = absurd cc
  no_short (Some a) rest h next ends e =
      let f = ends a refl in
      let same : or_else (or_else (settle_fault c again h) (use_fault again a [] (settled c h).rows)) (next (reacted c a [] h)) ≡ [] = rw f.0 at e in
      f.1 _ (or_none (settle_fault c again h) _ (or_none _ _ same).0).1

  long_ends : (name : Text) (a : Rule) → arg_by_long c name ≡ Some a → Ends again a
  long_ends name a e = let f = found (λ a. not (is_some a.index) && has_long a name) c a e in ends_of a (has_long a name) f.0 f.1

  short_ends : (x : ℕ) (a : Rule) → arg_by_short c x ≡ Some a → Ends again a
  short_ends x a e = let f = found (λ a. not (is_some a.index) && has_short a x) c a e in ends_of a (has_short a x) f.0 f.1

  plain_flags : (k : ℕ) (flags : Text) (skip : ℕ) (h : Held) → skip ≡ 0 → flags_fault c again k flags skip h ≡ []
      → (bundle_met c k flags skip plain h ≡ (h, plain)) × (flags_pass c again k flags skip h ≡ true)
  unfolding flags_fault bundle_met flags_pass
  plain_flags zero flags skip h z e = (refl, refl)
  plain_flags (suc k) flags (suc n) h z e = absurd (omega arith)
  plain_flags (suc k) flags zero h z e = first (slice_get (chars flags) 0) e
    where
      first : (o : Option ℕ) → bundle_step_fault c again o flags zero h (flags_fault c again k) ≡ []
          → (bundle_step c o flags zero plain h (bundle_met c k) ≡ (h, plain)) × (bundle_step_passes c again o flags zero h (flags_pass c again k) ≡ true)
      first None e = (refl, refl)
      first (Some x) e = absurd (no_short (arg_by_short c x) _ h _ (short_ends x) e)

  plain_bundle : (waiting : Waiting) (word : Text) (o : Option Text) (h : Held) → h.skip ≡ 0 → option_map_or (λ flags. bundle_fault c again flags h) o [] ≡ []
      → (short_or_plain c waiting word o h ≡ plain_word c waiting word h) × (option_map_or (λ flags. bundle_passes c again flags h) o true ≡ true)
  plain_bundle waiting word None h z e = (refl, refl)
  plain_bundle waiting word (Some flags) h z e =
      let b = plain_flags (length flags) flags h.skip (record h { skip = 0 }) z e in
      (ap (λ (r : Held × Outcome). after_flag c waiting word r.0 r.1) b.0 ∙ ap (λ k. plain_word c waiting word (record h { skip = k })) (sym z), b.1)

  -- a word that begins with a hyphen is taken as a value, or is a fault
  plain_flag_word : (waiting : Waiting) (word : Text) (o : Option (Text × Option Text)) (h : Held) → h.skip ≡ 0 → flag_word_fault c again o word h ≡ []
      → (long_or_other c waiting word o h ≡ plain_word c waiting word h) × (flag_word_passes c again o word h ≡ true)
  plain_flag_word waiting word (Some p) h z e = absurd (no_long (arg_by_long c p.0) p.1 h (long_ends p.0) e)
  plain_flag_word waiting word None h z e = plain_bundle waiting word (short_of word) h z e

  -- ---- what is pending

  settles_by : (o : Option Rule) (values : List Text) (rows : List Row) → ((a : Rule) → o ≡ Some a → OneOf a c)
      → option_map_or (λ a. use_fault again a values rows) o [] ≡ []
      → (option_map_or (λ a. use_passes again a values rows) o true ≡ true) × (Rows rows → Rows (used_by_id o values rows))
  settles_by None values rows one e = (refl, λ h. h)
  settles_by (Some a) values rows one e = level.uses a values rows (one a refl) e

  by_id : (id : Text) (a : Rule) → arg_by_id c id ≡ Some a → OneOf a c
  by_id id a e = (found (λ a. bytes_eq a.id id) c a e).0

  settles_pending : (o : Option (Text × List Text)) (rows : List Row)
      → option_map_or (λ p. option_map_or (λ a. use_fault again a p.1 rows) (arg_by_id c p.0) []) o [] ≡ []
      → (option_map_or (λ p. option_map_or (λ a. use_passes again a p.1 rows) (arg_by_id c p.0) true) o true ≡ true) × (Rows rows → Rows (settled_rows c o rows))
  settles_pending None rows e = (refl, λ h. h)
  settles_pending (Some p) rows e = settles_by (arg_by_id c p.0) p.1 rows (by_id p.0) e

  settles : (h : Held) → settle_fault c again h ≡ [] → (settle_passes c again h ≡ true) × (Rows h.rows → Rows (settled c h).rows)
  settles h e = settles_pending h.pending h.rows e

  -- ---- one word

  -- where a walk stands, part by part
  abbrev stood : Held → Waiting → ℕ → Bool → Option (Text × List Text) → Walk
  stood h waiting position is_trailing stopped = record { held = h; waiting = waiting; position = position; is_trailing = is_trailing; stopped = stopped }

  abbrev Good : Walk → Type 0
  Good w = (w.held.skip ≡ 0) × Rows w.held.rows × Stops s w.stopped

  abbrev Turned : Walk → Text → Held × Step → Bool → Type 0
  Turned w word met word_passes = ((word_passes && step_passes s w.position met.0 met.1) ≡ true) × Good (after_step c word w met.0 met.1)

  to_position : (w : Walk) (word : Text) (h : Held) (o : Option Rule) → h.skip ≡ 0 → Rows h.rows → w.stopped ≡ None
      → option_map_or (λ a. positional_fault c again a h) o (stray_fault s) ≡ []
      → (option_map_or (λ a. positional_passes c again a h) o false ≡ true) × Good (to_positional c o word w h)
  to_position w word h None z rows stop e = absurd (stray s.is_leaf e)
    where
      stray : (b : Bool) → (if b then kind.UnknownArgument ∷ [] else kind.UnknownArgument ∷ kind.InvalidSubcommand ∷ []) ≡ [] → ⊥
      stray true e = absurd cc
      stray false e = absurd cc
  to_position w word h (Some a) z rows stop e = go (is_pending a h.pending && takes_several a) e
    where
      go : (b : Bool) → (if b then [] else settle_fault c again h) ≡ []
          → ((b || settle_passes c again h) ≡ true) × Good (stood (pushed a.id word (if b then h else settled c h)) (if is_multiple a then positional else idle) (next_position a w.position) (w.is_trailing || a.trailing_var_arg) None)
      go true e = (refl, (z, rows, tt))
      go false e = let t = settles h e in (t.0, (z, t.1 rows, tt))

  -- the word is a value
  as_value : (w : Walk) (word : Text) (h : Held) (passes : Bool) → h.skip ≡ 0 → Rows h.rows → w.stopped ≡ None → passes ≡ true
      → step_fault s w.position h value ≡ [] → Turned w word (h, value) passes
  as_value w word h passes z rows stop pass e =
      let t = to_position w word h (arg_by_index c w.position) z rows stop e in
      (both_true passes _ pass t.0, t.1)

  -- a word that is no flag
  as_plain : (w : Walk) (word : Text) (passes : Bool) (waiting : Waiting) → Good w → w.stopped ≡ None → passes ≡ true
      → step_fault s w.position (plain_word c waiting word w.held).0 (plain_word c waiting word w.held).1 ≡ [] → Turned w word (plain_word c waiting word w.held) passes
  as_plain w word passes idle good stop pass e = as_value w word w.held passes good.0 good.1 stop pass e
  as_plain w word passes positional good stop pass e = as_value w word w.held passes good.0 good.1 stop pass e
  as_plain w word passes (option id) good stop pass e = go (arg_by_id c id)
    where
      go : (o : Option Rule) → ((passes && true) ≡ true) × Good (record w { held = (option_word o id word w.held).0; waiting = (option_word o id word w.held).1 })
      go None = (both_true passes true pass refl, good)
      go (Some a) = (both_true passes true pass refl, good)

  turn_of : (h : Held) (waiting : Waiting) (position : ℕ) (is_trailing : Bool) (stopped : Option (Text × List Text)) (word : Text)
      → Good (stood h waiting position is_trailing stopped)
      → turn_fault s names (stood h waiting position is_trailing stopped) word ≡ []
      → (turn_passes s names (stood h waiting position is_trailing stopped) word ≡ true)
      × Good (walked c names (stood h waiting position is_trailing stopped) word)
  unfolding walked
  turn_of h waiting position is_trailing (Some p) word good e = (refl, good)
  turn_of h waiting position true None word good e =
      as_value (stood h waiting position true None) word h true good.0 good.1 refl refl e
  turn_of h waiting position false None word good e = of_name (subcommand_met names waiting word) e
    where
      of_dashes : (b : Bool)
          → or_else (if b then [] else flag_word_fault c again (long_of word) word h)
          (step_fault s position (if b then (h, trailing position) else long_or_other c waiting word (long_of word) h).0 (if b then (h, trailing position) else long_or_other c waiting word (long_of word) h).1) ≡ []
          → Turned (stood h waiting position false None) word (if b then (h, trailing position) else long_or_other c waiting word (long_of word) h) (b || flag_word_passes c again (long_of word) word h)
      of_dashes true e = (refl, good)
      of_dashes false e =
          let parts = or_none (flag_word_fault c again (long_of word) word h) _ e in
          let flag = plain_flag_word waiting word (long_of word) h good.0 parts.0 in
          let step : step_fault s position (plain_word c waiting word h).0 (plain_word c waiting word h).1 ≡ [] =
          subst (λ (r : Held × Step). step_fault s position r.0 r.1 ≡ []) flag.0 parts.1 in
          subst (λ (r : Held × Step). Turned (stood h waiting position false None) word r (flag_word_passes c again (long_of word) word h)) (sym flag.0)
          (as_plain (stood h waiting position false None) word (flag_word_passes c again (long_of word) word h) waiting good refl flag.1 step)

      of_name : (o : Option Text)
          → or_else (other_fault s o word h) (step_fault s position (subcommand_or_other c o waiting position word h).0 (subcommand_or_other c o waiting position word h).1) ≡ []
          → Turned (stood h waiting position false None) word (subcommand_or_other c o waiting position word h) (other_passes s o word h)
      of_name (Some name) e =
          let parts = or_none (other_fault s (Some name) word h) _ e in
          let other = no_help_asked (bytes_eq name (codes "help")) s.disable_help_subcommand parts.0 in
          (both_true (other_passes s (Some name) word h) true other refl, (good.0, good.1, other))
        where
          no_help_asked : (help disabled : Bool) → (if help && not disabled then kind.DisplayHelp ∷ kind.InvalidSubcommand ∷ [] else []) ≡ [] → (not help || disabled) ≡ true
          no_help_asked true true e = refl
          no_help_asked true false e = absurd cc
          no_help_asked false disabled e = refl
      of_name None e = of_dashes (bytes_eq word (45 ∷ 45 ∷ [])) e

  turn : (w : Walk) (word : Text) → Good w → turn_fault s names w word ≡ [] → (turn_passes s names w word ≡ true) × Good (walked c names w word)
  turn w word good e = turn_of w.held w.waiting w.position w.is_trailing w.stopped word good e

  -- ---- all words

  walks : (words : List Text) (w : Walk) → Good w → walk_fault s names w words ≡ [] → (walk_passes s names w words ≡ true) × Good (fold (walked c names) w words)
  unfolding walk_fault walk_passes
  walks [] w good e = (refl, good)
  walks (word ∷ words) w good e =
      let parts = or_none (turn_fault s names w word) _ e in
      let here = turn w word good parts.0 in
      let rest = walks words (walked c names w word) here.1 parts.1 in
      (both_true (turn_passes s names w word) _ here.0 rest.0, rest.1)

  -- the walk over the words of the level
  abbrev over : List Text → Walk
  over words = walk c names nothing_held words

  pub passes_level : (words : List Text) (has : Bool) (below : Kinds) → level_fault s names nothing_held words has below ≡ []
      → (below ≡ []) × (level_passes s names nothing_held words has ≡ true) × Rows (finished c (over words).held) × Stops s (over words).stopped
      × ((not has && s.subcommand_required) ≡ false)
  passes_level words has below e =
      let first = or_none (walk_fault s names (walk_from nothing_held) words) _ e in
      let second = or_none below _ first.1 in
      let third = or_none (settle_fault c again (over words).held) _ second.1 in
      let fourth = or_none (defaults_fault (settled c (over words).held).rows c) _ third.1 in
      let walked_all = walks words (walk_from nothing_held) (refl, tt, tt) first.0 in
      let settled_all = settles (over words).held third.0 in
      let rows = finished c (over words).held in
      let checks = check_none _ _ _ fourth.1 in
      let valid : is_valid s rows has ≡ true =
      both_true (not s.arg_required_else_help || (has || list_any (λ r. explicit_source r.source) rows)) _ (rw level.no_help refl)
      (both_true (not s.subcommand_required || has) _ (wanted has s.subcommand_required checks.1)
      (both_true (list_all (λ a. a.is_free) s.rules) _ level.free
      (unless_negated (s.subcommand_negates_reqs && has) (list_any (λ a. a.required && not (is_given a.id rows)) s.rules) (list_all (λ a. not a.required || is_given a.id rows) s.rules)
      (all_given (λ a. is_given a.id rows) s.rules) checks.2))) in
      let passes : level_passes s names nothing_held words has ≡ true =
      both_true (walk_passes s names (walk_from nothing_held) words) _ walked_all.0
      (both_true (settle_passes c again (over words).held) _ settled_all.0
      (both_true (list_all default_passes c) (is_valid s rows has) (no_defaults c level.defaults) valid)) in
      (second.0, passes, subst Rows (sym (no_default_rows c (settled c (over words).held).rows level.defaults)) (settled_all.1 walked_all.1.1), walked_all.1.2, checks.1)
