-- What the matches of a subcommand ask for.
use Rattle.std.proofs.Common.{◌≡◌, ◌∙◌, ◌≤◌, ℕ, true, false, refl, sym, ap, subst, List, Option, Some, None, Ok, is_some, inl, inr, codes, arith, pos}
use Rattle.std.specs.Prelude.{option_map, Result}
use Rattle.std.specs.Str.{bytes_eq}
use Rattle.std.specs.Str.Parse.{ParsesUnsigned, digits_value, without_leading_plus}
use Rattle.std.proofs.lemmas.Slice.Eq.{bytes_eq-Decides}
use Rattle.clap.specs.Matches.{ReadsOne, first_value}
use Rattle.clap.specs.Lexer.{without_minus}
use Rattle.clap.specs.Walk.{Row, Text, first_of, one_of, rows_of}
use Rattle.clap.specs.declared.builder.value_parser.ValueParser.TheVariants.{Signed}
use Rattle.clap.specs.declared.parser.matches.Found.{Found as Entries}
use Rattle.clap.proofs.CallerReads.{signed_reads}
use Rattle.clap.proofs.ValueTestLemmas.{accepts-Accepts}
use Rattle.clap.proofs.WalkLemmas.{first_value-rows}
use Rattle.spv_arguments.specs.Requests.{Found, HasNumber, IsFound, module_in, number_in, pair_in}

-- a subcommand that was met has its name and its rows
abbrev named : {S : Type 0} → (S → Text) → (S → List Row) → S → Text × List Row
named f g s = (f s, g s)

pub both_known : {S : Type 0} (f : S → Text) (g : S → List Row) (o : Option S) (name : Text) (rows : List Row)
    → Some name ≡ option_map f o → Some rows ≡ option_map (λ (p : Text × List Row). p.1) (option_map (named f g) o) → option_map (named f g) o ≡ Some (name, rows)
both_known f g None name rows n r = absurd cc
both_known f g (Some s) name rows n r =
    let same_name : name ≡ f s = cc in
    let same_rows : rows ≡ g s = cc in
    rw (same_name, same_rows) refl

pub some_is : (n m : ℕ) → Some m ≡ Some n → n ≡ m
some_is n m e = cc

pub none_is : (n : ℕ) → None ≡ Some n → ⊥
none_is n e = absurd cc

pub value_known : (f : Entries) (id v : Text) → Some v ≡ first_value f id → first_of id (rows_of f) ≡ Some v
value_known f id v e = sym (e ∙ first_value-rows f id)

pub value_missing : (f : Entries) (id : Text) → None ≡ first_value f id → first_of id (rows_of f) ≡ None
value_missing f id e = sym (e ∙ first_value-rows f id)

called : (name word : Text) → bytes_eq name word ≡ true → name ≡ word
called name word e = (bytes_eq-Decides name word).0 e

-- ---- which of the four is found

of_debug : (rows : List Row) → IsFound (Some (codes "debug", rows)) → is_some (pair_in (Some (codes "debug", rows))) ≡ true
of_debug rows (inl h) = h
of_debug rows (inr (inl h)) = absurd cc
of_debug rows (inr (inr (inl h))) = let bad = h.2 in absurd cc
of_debug rows (inr (inr (inr h))) = absurd cc

of_check : (rows : List Row) → IsFound (Some (codes "check", rows)) → is_some (module_in (codes "check") (Some (codes "check", rows))) ≡ true
of_check rows (inl h) = absurd cc
of_check rows (inr (inl h)) = h
of_check rows (inr (inr (inl h))) = let bad = h.2 in absurd cc
of_check rows (inr (inr (inr h))) = absurd cc

of_make : (rows : List Row) → IsFound (Some (codes "make", rows)) → HasNumber (Some (codes "make", rows))
of_make rows (inl h) = absurd cc
of_make rows (inr (inl h)) = absurd cc
of_make rows (inr (inr (inl h))) = h
of_make rows (inr (inr (inr h))) = absurd cc

of_text : (rows : List Row) → IsFound (Some (codes "text", rows)) → is_some (module_in (codes "text") (Some (codes "text", rows))) ≡ true
of_text rows (inl h) = absurd cc
of_text rows (inr (inl h)) = absurd cc
of_text rows (inr (inr (inl h))) = let bad = h.2 in absurd cc
of_text rows (inr (inr (inr h))) = h

-- the number that the text of `N` spells
number_of : (found : Found) (rows : List Row) (text : Text) (n : ℕ) → found ≡ Some (codes "make", rows) → one_of (codes "N") rows ≡ Some text
    → n ≡ digits_value 10 (without_leading_plus text) → number_in found ≡ Some n
number_of found rows text n here read value = rw (here, read, value) refl

module _ (found : Found) (name : Text) (rows : List Row) (known : found ≡ Some (name, rows)) (is_found : IsFound found) where
  found_as : (word : Text) → bytes_eq name word ≡ true → found ≡ Some (word, rows)
  found_as word e = known ∙ ap (λ n. Some (n, rows)) (called name word e)

  -- ---- `debug`

  pub asks_debug : bytes_eq name (codes "debug") ≡ true → (binary setup : Text) → first_of (codes "MODULE") rows ≡ Some binary → first_of (codes "SETUP") rows ≡ Some setup
      → pair_in found ≡ Some (record { binary = binary; setup = setup })
  asks_debug e binary setup b s = rw (found_as (codes "debug") e, b, s) refl

  pub no_debug_module : bytes_eq name (codes "debug") ≡ true → first_of (codes "MODULE") rows ≡ None → ⊥
  no_debug_module e none =
      let has = of_debug rows (subst IsFound (found_as (codes "debug") e) is_found) in
      let bad : false ≡ true = rw none at has in
      absurd cc

  pub no_debug_setup : bytes_eq name (codes "debug") ≡ true → (binary : Text) → first_of (codes "MODULE") rows ≡ Some binary → first_of (codes "SETUP") rows ≡ None → ⊥
  no_debug_setup e binary b none =
      let has = of_debug rows (subst IsFound (found_as (codes "debug") e) is_found) in
      let bad : false ≡ true = rw (b, none) at has in
      absurd cc

  -- ---- `check` and `text`

  pub asks_check : bytes_eq name (codes "check") ≡ true → (binary : Text) → first_of (codes "MODULE") rows ≡ Some binary → module_in (codes "check") found ≡ Some binary
  asks_check e binary b = rw (found_as (codes "check") e, b) refl

  pub no_check_module : bytes_eq name (codes "check") ≡ true → first_of (codes "MODULE") rows ≡ None → ⊥
  no_check_module e none =
      let has = of_check rows (subst IsFound (found_as (codes "check") e) is_found) in
      let bad : false ≡ true = rw none at has in
      absurd cc

  pub asks_text : bytes_eq name (codes "text") ≡ true → (binary : Text) → first_of (codes "MODULE") rows ≡ Some binary → module_in (codes "text") found ≡ Some binary
  asks_text e binary b = rw (found_as (codes "text") e, b) refl

  pub no_text_module : bytes_eq name (codes "text") ≡ true → first_of (codes "MODULE") rows ≡ None → ⊥
  no_text_module e none =
      let has = of_text rows (subst IsFound (found_as (codes "text") e) is_found) in
      let bad : false ≡ true = rw none at has in
      absurd cc

  -- ---- `make`

  -- what is read of the number
  pub reads_number : {E : Type 0} (G : List ℕ → Result ℕ E → Type 0) → ((u : List ℕ) (x : Result ℕ E) → G u x → ParsesUnsigned 32 10 u x)
      → bytes_eq name (codes "make") ≡ true → (r : Option ℕ) → ((t : Text) → one_of (codes "N") rows ≡ Some t → ReadsOne G t r)
      → (n : ℕ) × (r ≡ Some n) × ((number_in found ≡ Some n) × (1 ≤ n) × (n ≤ 64))
  reads_number {E} G parses e r reads =
      let here = found_as (codes "make") e in
      let has = of_make rows (subst IsFound here is_found) in
      let same : has.1 ≡ rows = let h = has.2 in cc in
      let text : one_of (codes "N") rows ≡ Some (without_minus has.0) = rw same at has.3 in
      let read = reads (without_minus has.0) text in
      let got = signed_reads E G 32 1 64 has.0 r read parses (omega arith) (accepts-Accepts false (Signed (pos 1) (pos 64)) has.0 has.4) in
      let parsed : ReadsOne G (without_minus has.0) (Some got.0) = subst (ReadsOne G (without_minus has.0)) got.1 read in
      let value : got.0 ≡ digits_value 10 (without_leading_plus (without_minus has.0)) = (parses (without_minus has.0) (Ok got.0) parsed).1 in
      (got.0, got.1, (number_of found rows (without_minus has.0) got.0 here text value, got.2, got.3))
