-- Words that are taken name one subcommand.
use Rattle.std.proofs.Common.{◌≡◌, ◌∙◌, Bool, true, false, refl, sym, ap, List, [], Option, Some, None, String, codes, if◌then◌else◌}
use Rattle.std.specs.Prelude.{ℕ, option_and_then, option_map}
use Rattle.std.specs.Str.{bytes_eq}
use Rattle.std.specs.declared.alloc.Global.{Global}
use Rattle.std.proofs.lemmas.Slice.Eq.{bytes_eq-Decides}
use Rattle.clap.specs.Words.{Row, Text, first_of, one_of}
use Rattle.spv_arguments.specs.Requests.{Found, PairNames, are_taken, asked, check_name, debug_names, found_by, make_number, module_in, number_in, pair_in, positionals, text_name, texts_of}

-- the words are taken, and name this subcommand
pub record Names (words : List (String Global)) (name : Text) : Type 0 where
  pub taken : are_taken (texts_of words) ≡ true
  pub rows : List Row
  pub found : found_by (texts_of words) ≡ Some (name, rows)

named : (name : Text) (found : Found) (rows : List Row) → positionals name found ≡ Some rows → (more : List Row) × (found ≡ Some (name, more))
named name None rows e = absurd cc
named name (Some p) rows e = go (bytes_eq p.0 name) refl e
  where
    go : (b : Bool) → bytes_eq p.0 name ≡ b → (if b then Some p.1 else None) ≡ Some rows → (more : List Row) × (Some p ≡ Some (name, more))
    go true is e = (p.1, ap (λ n. Some (n, p.1)) ((bytes_eq-Decides p.0 name).0 is))
    go false is e = absurd cc

some_there : {A B : Type 0} (o : Option A) (f : A → Option B) (y : B) → option_and_then f o ≡ Some y → (x : A) × (o ≡ Some x)
some_there None f y e = absurd cc
some_there (Some x) f y e = (x, refl)

names_by : {A : Type 0} (name : Text) (read : List Row → Option A) (words : List (String Global)) (x : A)
    → asked (λ found. option_and_then read (positionals name found)) words ≡ Some x → Names words name
names_by name read words x e = go (are_taken (texts_of words)) refl e
  where
    go : (b : Bool) → are_taken (texts_of words) ≡ b → (if b then option_and_then read (positionals name (found_by (texts_of words))) else None) ≡ Some x → Names words name
    go true is e =
        let there = some_there (positionals name (found_by (texts_of words))) read x e in
        let found = named name (found_by (texts_of words)) there.0 there.1 in
        record { taken = is; rows = found.0; found = found.1 }
    go false is e = absurd cc

pub names_debug : (words : List (String Global)) (names : PairNames) → debug_names words ≡ Some names → Names words (codes "debug")
names_debug words names e = names_by (codes "debug") _ words names e

pub names_check : (words : List (String Global)) (name : List ℕ) → check_name words ≡ Some name → Names words (codes "check")
names_check words name e = names_by (codes "check") (first_of (codes "MODULE")) words name e

pub names_make : (words : List (String Global)) (number : ℕ) → make_number words ≡ Some number → Names words (codes "make")
names_make words number e = names_by (codes "make") _ words number e

pub names_text : (words : List (String Global)) (name : List ℕ) → text_name words ≡ Some name → Names words (codes "text")
names_text words name e = names_by (codes "text") (first_of (codes "MODULE")) words name e

abbrev name_in : Found → Text
name_in None = []
name_in (Some p) = p.0

-- they name no other
pub no_other : (words : List (String Global)) (a b : Text) → bytes_eq a b ≡ false → Names words a → Names words b → ⊥
no_other words a b differ x y =
    let same : a ≡ b = ap name_in (sym x.found) ∙ ap name_in y.found in
    let bad : true ≡ false = sym ((bytes_eq-Decides a b).1 same) ∙ differ in
    absurd cc

pub not_untaken : (words : List (String Global)) (name : Text) → Names words name → are_taken (texts_of words) ≡ false → ⊥
not_untaken words name x e =
    let bad : true ≡ false = sym x.taken ∙ e in
    absurd cc
