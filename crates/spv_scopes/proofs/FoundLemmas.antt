-- Line heads while they are looked for, with one instruction more.
use Rattle.std.proofs.Common.{◌≡◌, ◌∙◌, ℕ, ◌<◌, Bool, true, false, List, [], ◌∷◌, ◌++◌, length, Option, Some, None, refl, sym, ap, subst, arith}
use Rattle.std.specs.Prelude.{IfSome, option_map, if◌then◌else◌}
use Rattle.std.specs.Option.{option_map_or}
use Rattle.std.proofs.lemmas.Bool.{and_from, lt-ltb}
use Rattle.std.proofs.lemmas.List.{map-append}
use Rattle.std.proofs.lemmas.List.Folds.{list_all-append}
use Rattle.spv_index.specs.Classes.{is_executable, is_label}
use Rattle.spv_index.specs.Positions.{Stand}
use Rattle.spv_index.specs.declared.classes.Class.{Class}
use Rattle.spv_dbg.specs.Tables.{Tables}
use Rattle.spv_scopes.specs.declared.files.Files.{Files}
use Rattle.spv_scopes.specs.declared.heads.Found.{Found}
use Rattle.spv_scopes.specs.declared.heads.Key.{Key}
use Rattle.spv_scopes.specs.Files.{AreFiles, Grows}
use Rattle.spv_scopes.specs.Found.{IsFound, begun as begun_number, entry_of, found_heads, put_at}
use Rattle.spv_scopes.specs.Heads.{NamedLine, begun, head_at, is_stop, key_at, key_back}
use Rattle.spv_scopes.specs.Numbered.{NumberedLine, are_within, named, named_key, named_line, same_number, words_under, words_with}
use Rattle.spv_scopes.specs.Spots.{Spots}
use Rattle.spv_scopes.proofs.HeadLemmas.{begun_named, key_stays, longer, named_stays, words_more}

-- no label is an executable
no_label : (c : Class) → is_executable c ≡ true → is_label c ≡ false
no_label c h = grind arith

entry_named : (files : List (List ℕ)) (word : ℕ) (o : Option NumberedLine) → named files (entry_of word o) ≡ option_map_or (λ line. (word, line) ∷ []) (option_map (named_line files) o) []
entry_named files word None = refl
entry_named files word (Some line) = refl

named_append : (files : List (List ℕ)) (xs ys : List (ℕ × NumberedLine)) → named files (xs ++ ys) ≡ named files xs ++ named files ys
named_append files xs ys = map-append _ xs ys

within_append : (files : List (List ℕ)) (xs ys : List (ℕ × NumberedLine)) → are_within files xs ≡ true → are_within files ys ≡ true → are_within files (xs ++ ys) ≡ true
within_append files xs ys w v = list_all-append _ xs ys ∙ and_from (are_within files xs) (are_within files ys) w v

-- the line that begins where the key differs
abbrev pub begun_where : Bool → Key → Option NumberedLine
begun_where same k = if same then None else Some (k.file, k.line)

entry_within : (files : List (List ℕ)) (word : ℕ) (before key : Option Key) → IfSome key (λ k. k.file < length files) → are_within files (entry_of word (begun_number before key)) ≡ true
entry_within files word before None w = refl
entry_within files word None (Some k) w = rw (lt-ltb k.file (length files) w) refl
entry_within files word (Some b) (Some k) w = by_test (same_number b k)
  where
    by_test : (same : Bool) → are_within files (entry_of word (begun_where same k)) ≡ true
    by_test true = refl
    by_test false = rw (lt-ltb k.file (length files) w) refl

head_named : (t : Tables) (spots : Spots) (passed : List Stand) (s : Stand) (files : Files) (before key : Option Key) → AreFiles t files → IfSome before (λ k. k.file < length files.list.items) → IfSome key (λ k. k.file < length files.list.items)
    → option_map (named_key files.list.items) before ≡ key_back t spots passed → option_map (named_key files.list.items) key ≡ key_at t spots s.inst → named files.list.items (put_at s before key) ≡ head_at t spots passed s
head_named t spots passed s files before key h lb lk b k = by_stop (is_stop s)
  where
    line : option_map (named_line files.list.items) (begun_number before key) ≡ begun (key_back t spots passed) (key_at t spots s.inst)
    line =
        sym (begun_named files.names files.list.items h.named before key lb lk)
        ∙ ap (λ o. begun o (option_map (named_key files.list.items) key)) b
        ∙ ap (begun (key_back t spots passed)) k

    by_stop : (v : Bool) → named files.list.items (if v then entry_of s.inst.word (begun_number before key) else []) ≡ (if v then option_map_or (λ (l : NamedLine). (s.inst.word, l) ∷ []) (begun (key_back t spots passed) (key_at t spots s.inst)) [] else [])
    by_stop true = entry_named files.list.items s.inst.word (begun_number before key) ∙ ap (λ o. option_map_or (λ (l : NamedLine). (s.inst.word, l) ∷ []) o []) line
    by_stop false = refl

more_within : (old new : List (List ℕ)) → ((n : ℕ) → n < length old → n < length new) → (o : Option Key) → IfSome o (λ k. k.file < length old) → IfSome o (λ k. k.file < length new)
more_within old new longer None w = w
more_within old new longer (Some k) w = longer k.file w

put_within : (files : List (List ℕ)) (s : Stand) (before key : Option Key) → IfSome key (λ k. k.file < length files) → are_within files (put_at s before key) ≡ true
put_within files s before key w = by_stop (is_stop s)
  where
    by_stop : (v : Bool) → are_within files (if v then entry_of s.inst.word (begun_number before key) else []) ≡ true
    by_stop true = entry_within files s.inst.word before key w
    by_stop false = refl

module _ (t : Tables) (spots : Spots) (passed : List Stand) (s : Stand) (old : Found) (files : Files) (key : Option Key) where
  -- the key of the executable before, with the files that were met since
  before_stays : Grows old.files.list.items files.list.items → IsFound t spots passed old → option_map (named_key files.list.items) old.before ≡ key_back t spots passed
  before_stays g f = key_stays old.files.list.items files.list.items g old.before f.before_within ∙ f.before_is

  -- what was found behind an executable
  pub found_key : (new : Found) → is_executable s.class ≡ true → AreFiles t files → Grows old.files.list.items files.list.items → option_map (named_key files.list.items) key ≡ key_at t spots s.inst
      → IfSome key (λ k. k.file < length files.list.items) → new.files ≡ files → new.before ≡ key → new.entries.items ≡ old.entries.items ++ put_at s old.before key
      → ((line : NumberedLine) → words_under new.lines line ≡ words_under old.lines line ++ words_with (put_at s old.before key) line) → IsFound t spots passed old → IsFound t spots (s ∷ passed) new
  found_key new y h g k w files_is before_is entries lines f = record { files_are = subst (AreFiles t) (sym files_is) h; lines_are = words; within = all_within; before_is = last; before_within = last_within }
    where
      words : (line : NumberedLine) → words_under new.lines line ≡ words_with new.entries.items line
      words line =
          lines line
          ∙ ap (λ l. l ++ words_with (put_at s old.before key) line) (f.lines_are line)
          ∙ sym (words_more old.entries.items (put_at s old.before key) line)
          ∙ sym (ap (λ es. words_with es line) entries)

      joined : are_within files.list.items (old.entries.items ++ put_at s old.before key) ≡ true
      joined =
          within_append files.list.items old.entries.items (put_at s old.before key) (named_stays old.files.list.items files.list.items g old.entries.items f.within).1
          (put_within files.list.items s old.before key w)

      all_within : are_within new.files.list.items new.entries.items ≡ true
      all_within = ap (λ (fs : Files). are_within fs.list.items new.entries.items) files_is ∙ ap (are_within files.list.items) entries ∙ joined

      back : key_back t spots (s ∷ passed) ≡ key_at t spots s.inst
      back = rw (no_label s.class y, y) refl

      last : option_map (named_key new.files.list.items) new.before ≡ key_back t spots (s ∷ passed)
      last = ap (λ (fs : Files). option_map (named_key fs.list.items) new.before) files_is ∙ ap (option_map (named_key files.list.items)) before_is ∙ k ∙ sym back

      last_within : IfSome new.before (λ k. k.file < length new.files.list.items)
      last_within =
          let P : Option Key → Type 0 = λ o. IfSome o (λ k. k.file < length files.list.items) in
          let Q : Files → Type 0 = λ fs. IfSome new.before (λ k. k.file < length fs.list.items) in
          subst Q (sym files_is) (subst P (sym before_is) w)

  pub found_heads_key : (new : Found) → AreFiles t files → Grows old.files.list.items files.list.items → option_map (named_key files.list.items) key ≡ key_at t spots s.inst
      → IfSome key (λ k. k.file < length files.list.items) → new.files ≡ files → new.entries.items ≡ old.entries.items ++ put_at s old.before key → IsFound t spots passed old → found_heads new ≡ found_heads old ++ head_at t spots passed s
  found_heads_key new h g k w files_is entries f =
      ap (λ (fs : Files). named fs.list.items new.entries.items) files_is
      ∙ ap (named files.list.items) entries
      ∙ named_append files.list.items old.entries.items (put_at s old.before key)
      ∙ ap (λ l. l ++ named files.list.items (put_at s old.before key)) (named_stays old.files.list.items files.list.items g old.entries.items f.within).0
      ∙ ap (λ l. found_heads old ++ l) (head_named t spots passed s files old.before key h (more_within old.files.list.items files.list.items (longer old.files.list.items files.list.items g) old.before f.before_within) w (before_stays g f) k)
