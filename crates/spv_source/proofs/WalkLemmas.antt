-- The steps of a walk through a text.
use Rattle.std.proofs.Common.{◌≡◌, ℕ, ◌+◌, ◌<◌, Bool, true, false, cond, List, [], ◌∷◌, ◌++◌, length, refl, sym, ap, ◌∙◌, arith, append-nil, append_assoc}
use Rattle.std.specs.Prelude.{if◌then◌else◌, filter, ◌==◌}
use Rattle.std.specs.Char.{is_newline}
use Rattle.std.specs.List.{count_by, enumerate_from, flat_map, onto_first, slice_split}
use Rattle.std.specs.Str.Lines.{lines, lines_of_parts, strip_carriage_return}
use Rattle.std.proofs.lemmas.List.Splits.{length-slice_split}
use Rattle.std.proofs.lemmas.List.Sums.{sum_by-cons}
use Rattle.spv_source.specs.declared.walks.Walk.{Walk}
use Rattle.spv_source.specs.Walks.{lines_after, shown_after, shown_from}
use Rattle.spv_source.specs.Windows.{is_near, row_text}

-- ---- the lines of a text are those after no bytes

-- bytes before the first of some parts
abbrev onto : List ℕ → List (List ℕ) → List (List ℕ)
onto begun [] = begun ∷ []
onto begun (part ∷ parts) = (begun ++ part) ∷ parts

onto_none : (parts : List (List ℕ)) → lines_of_parts (onto [] parts) ≡ lines_of_parts parts
onto_none [] = refl
onto_none (part ∷ parts) = refl

onto_byte : (begun : List ℕ) (byte : ℕ) (parts : List (List ℕ)) → onto begun (onto_first byte parts) ≡ onto (begun ++ byte ∷ []) parts
onto_byte begun byte [] = refl
onto_byte begun byte (part ∷ parts) = ap (λ l. l ∷ parts) (sym (append_assoc begun (byte ∷ []) part))

ended : (begun : List ℕ) (parts ls : List (List ℕ)) → 0 < length parts → lines_of_parts (onto [] parts) ≡ ls → lines_of_parts ((begun ++ []) ∷ parts) ≡ strip_carriage_return begun ∷ ls
ended begun [] ls some h = absurd (omega arith)
ended begun (part ∷ parts) ls some h = ap (λ l. strip_carriage_return l ∷ lines_of_parts (part ∷ parts)) (append-nil begun) ∙ ap (λ rest. strip_carriage_return begun ∷ rest) h

lines_onto : (begun bytes : List ℕ) → lines_of_parts (onto begun (slice_split (λ b. b == 10) bytes)) ≡ lines_after begun bytes
lines_onto begun [] = ap (λ l. if length l == 0 then [] else l ∷ []) (append-nil begun)
lines_onto begun (byte ∷ bytes) =
    by_test (byte == 10) (omega (arith, length-slice_split (λ b. b == 10) bytes)) (lines_onto [] bytes) (lines_onto (begun ++ byte ∷ []) bytes)
  where
    by_test : (b : Bool) → 0 < length (slice_split (λ b. b == 10) bytes) → lines_of_parts (onto [] (slice_split (λ b. b == 10) bytes)) ≡ lines_after [] bytes
        → lines_of_parts (onto (begun ++ byte ∷ []) (slice_split (λ b. b == 10) bytes)) ≡ lines_after (begun ++ byte ∷ []) bytes
        → lines_of_parts (onto begun (cond b ([] ∷ slice_split (λ b. b == 10) bytes) (onto_first byte (slice_split (λ b. b == 10) bytes))))
        ≡ cond b (strip_carriage_return begun ∷ lines_after [] bytes) (lines_after (begun ++ byte ∷ []) bytes)
    by_test true some h g = ended begun (slice_split (λ b. b == 10) bytes) (lines_after [] bytes) some h
    by_test false some h g = ap lines_of_parts (onto_byte begun byte (slice_split (λ b. b == 10) bytes)) ∙ g

pub lines_are : (bytes : List ℕ) → lines_after [] bytes ≡ lines bytes
lines_are bytes = sym (lines_onto [] bytes) ∙ onto_none (slice_split (λ b. b == 10) bytes)

-- ---- lines that are not near

before : (line n : ℕ) → n + 2 < line → is_near line n ≡ false
before line n h = grind arith

past : (line n : ℕ) → line + 2 < n → is_near line n ≡ false
past line n h = grind arith

left_out : (line : ℕ) (b : Bool) (numbered : ℕ × List ℕ) (rest : List (ℕ × List ℕ)) → b ≡ false → flat_map (row_text line) (cond b (numbered ∷ rest) rest) ≡ flat_map (row_text line) rest
left_out line true numbered rest h = absurd (cc)
left_out line false numbered rest h = refl

skipped : (line n : ℕ) (l : List ℕ) (ls : List (List ℕ)) → is_near line n ≡ false → shown_from line n (l ∷ ls) ≡ shown_from line (n + 1) ls
skipped line n l ls h = left_out line (is_near line n) (n, l) (filter (λ numbered. is_near line numbered.0) (enumerate_from (n + 1) ls)) h

none_from : (line n : ℕ) (ls : List (List ℕ)) → line + 2 < n → shown_from line n ls ≡ []
none_from line n [] h = refl
none_from line n (l ∷ ls) h = skipped line n l ls (past line n h) ∙ none_from line (n + 1) ls (omega arith)

-- nothing that is left is shown
pub past_same : (w : Walk) (left other : List ℕ) → w.line + 2 < w.number → shown_after w left ≡ shown_after w other
past_same w left other h =
    ap (λ rows. w.rows.items ++ rows) (none_from w.line w.number (lines_after w.begun.items left) h ∙ sym (none_from w.line w.number (lines_after w.begun.items other) h))

last_free : (line n : ℕ) (b c : Bool) (l m : List ℕ) → is_near line n ≡ false → shown_from line n (cond b [] (l ∷ [])) ≡ shown_from line n (cond c [] (m ∷ []))
last_free line n true true l m h = refl
last_free line n true false l m h = sym (skipped line n m [] h)
last_free line n false true l m h = skipped line n l [] h
last_free line n false false l m h = skipped line n l [] h ∙ sym (skipped line n m [] h)

-- the bytes of a line that is not near are not asked for
pub begun_free : (line n : ℕ) (begun other left : List ℕ) → is_near line n ≡ false → shown_from line n (lines_after begun left) ≡ shown_from line n (lines_after other left)
begun_free line n begun other [] h = last_free line n (length begun == 0) (length other == 0) begun other h
begun_free line n begun other (byte ∷ bytes) h = by_test (byte == 10) (begun_free line n (begun ++ byte ∷ []) (other ++ byte ∷ []) bytes h)
  where
    by_test : (b : Bool) → shown_from line n (lines_after (begun ++ byte ∷ []) bytes) ≡ shown_from line n (lines_after (other ++ byte ∷ []) bytes)
        → shown_from line n (cond b (strip_carriage_return begun ∷ lines_after [] bytes) (lines_after (begun ++ byte ∷ []) bytes))
        ≡ shown_from line n (cond b (strip_carriage_return other ∷ lines_after [] bytes) (lines_after (other ++ byte ∷ []) bytes))
    by_test true g = skipped line n (strip_carriage_return begun) (lines_after [] bytes) h ∙ sym (skipped line n (strip_carriage_return other) (lines_after [] bytes) h)
    by_test false g = g

-- ---- bytes of which only the number of line ends is known

gone_by : (line n to : ℕ) (begun bytes left : List ℕ) → n + count_by is_newline bytes ≡ to → to + 2 < line
    → shown_from line n (lines_after begun (bytes ++ left)) ≡ shown_from line to (lines_after [] left)
gone_by line n to begun [] left e h = let s : n ≡ to = omega arith in rw s (begun_free line to begun [] left (before line to h))
gone_by line n to begun (byte ∷ bytes) left e h =
    by_test (byte == 10) (ap (λ c. n + c) (sym (sum_by-cons (λ x. cond (is_newline x) 1 0) byte bytes)) ∙ e) (λ f. gone_by line (n + 1) to [] bytes left f h) (λ f. gone_by line n to (begun ++ byte ∷ []) bytes left f h)
  where
    by_test : (b : Bool) → n + (cond b 1 0 + count_by is_newline bytes) ≡ to
        → (n + 1 + count_by is_newline bytes ≡ to → shown_from line (n + 1) (lines_after [] (bytes ++ left)) ≡ shown_from line to (lines_after [] left))
        → (n + count_by is_newline bytes ≡ to → shown_from line n (lines_after (begun ++ byte ∷ []) (bytes ++ left)) ≡ shown_from line to (lines_after [] left))
        → shown_from line n (cond b (strip_carriage_return begun ∷ lines_after [] (bytes ++ left)) (lines_after (begun ++ byte ∷ []) (bytes ++ left))) ≡ shown_from line to (lines_after [] left)
    by_test true f next more = skipped line n (strip_carriage_return begun) (lines_after [] (bytes ++ left)) (before line n (omega arith)) ∙ next (omega arith)
    by_test false f next more = more (omega arith)

-- ---- steps of a walk

-- one that begins
pub begins : (line : ℕ) (begun rows left : List ℕ) → begun ≡ [] → rows ≡ [] → rows ++ shown_from line 1 (lines_after begun left) ≡ shown_from line 1 (lines left)
begins line begun rows left none nothing = rw (none, nothing) (ap (shown_from line 1) (lines_are left))

-- a byte of a line that is not near
pub unread : (w : Walk) (byte : ℕ) (left : List ℕ) → is_near w.line w.number ≡ false → (byte == 10) ≡ false → shown_after w left ≡ shown_after w (byte ∷ left)
unread w byte left h e = rw e (ap (λ rows. w.rows.items ++ rows) (begun_free w.line w.number w.begun.items (w.begun.items ++ byte ∷ []) left h))

-- bytes that are not read
pub gone : (w : Walk) (ends : ℕ) (begun bytes left : List ℕ) → count_by is_newline bytes ≡ ends → w.number + ends + 2 < w.line → begun ≡ []
    → w.rows.items ++ shown_from w.line (w.number + ends) (lines_after begun left) ≡ shown_after w (bytes ++ left)
gone w ends begun bytes left e h none =
    rw none (ap (λ shown. w.rows.items ++ shown) (sym (gone_by w.line w.number (w.number + ends) w.begun.items bytes left (ap (λ n. w.number + n) e) h)))
