-- Line heads with the numbers of their files and with their names, and with one executable more.
use Rattle.std.proofs.Common.{◌≡◌, ◌⊎◌, ◌∙◌, ℕ, ◌+◌, ◌<◌, ◌==◌, ◌&&◌, Bool, true, false, cond, List, [], ◌∷◌, ◌++◌, append_assoc, length, map, take, drop, slice_get, Option, Some, None, refl, sym, ap, inl, inr}
use Rattle.std.specs.Prelude.{IfSome, nat_lt, option_map, reverse, unwrap_or, Vec}
use Rattle.std.specs.BTreeMap.{BTreeMap}
use Rattle.std.specs.Cmp.Lexicographic.{bytes_decides}
use Rattle.std.specs.List.{filter}
use Rattle.std.specs.Option.{is_some, option_map_or}
use Rattle.std.specs.Str.{bytes_eq}
use Rattle.std.specs.declared.alloc.Global.{Global}
use Rattle.std.proofs.lemmas.Bool.{and_parts, cases_Bool, eqb-true, lt-ltb, ltb-true}
use Rattle.std.proofs.lemmas.List.{map-append}
use Rattle.std.proofs.lemmas.List.Elements.{filter-append}
use Rattle.std.proofs.lemmas.Option.{slice_get_within}
use Rattle.spv_base.specs.Entries.{reads}
use Rattle.spv_base.proofs.Exports.{element_at, same_number}
use Rattle.spv_index.specs.Positions.{Stand}
use Rattle.spv_dbg.proofs.Exports.{Names}
use Rattle.spv_dbg.specs.Names.{number_under}
use Rattle.spv_dbg.specs.Tables.{Tables}
use Rattle.spv_scopes.specs.declared.heads.Key.{Key}
use Rattle.spv_scopes.specs.Files.{Grows}
use Rattle.spv_scopes.specs.Found.{begun as begun_number}
use Rattle.spv_scopes.specs.Heads.{Heads, NamedLine, begun, head_at, heads_from, heads_with, is_head, line_begun, same_key, same_line}
use Rattle.spv_scopes.specs.Numbered.{NumberedLine, are_within, is_line, named, named_key, named_line, same_number as same_numbers, words_under, words_with}
use Rattle.spv_scopes.specs.Spots.{Spots}
use Rattle.spv_scopes.proofs.FileLemmas.{AreNumbered}
use Rattle.spv_scopes.proofs.ListLemmas.{back_next}

-- ---- one instruction more

pub heads_more : (t : Tables) (spots : Spots) (ss : List Stand) (n : ℕ) (s : Stand) (old new whole : Heads) → drop n ss ≡ s ∷ drop (n + 1) ss → new ≡ old ++ head_at t spots (reverse (take n ss)) s
    → old ++ heads_from t spots (reverse (take n ss)) (drop n ss) ≡ whole → new ++ heads_from t spots (reverse (take (n + 1) ss)) (drop (n + 1) ss) ≡ whole
heads_more t spots ss n s old new whole next is h =
    let back = back_next ss n s next in
    let g : old ++ (head_at t spots (reverse (take n ss)) s ++ heads_from t spots (s ∷ reverse (take n ss)) (drop (n + 1) ss)) ≡ whole = ap (λ l. old ++ heads_from t spots (reverse (take n ss)) l) (sym next) ∙ h in
    ap (λ l. l ++ heads_from t spots (reverse (take (n + 1) ss)) (drop (n + 1) ss)) is
    ∙ ap (λ b. (old ++ head_at t spots (reverse (take n ss)) s) ++ heads_from t spots b (drop (n + 1) ss)) back
    ∙ append_assoc old (head_at t spots (reverse (take n ss)) s) (heads_from t spots (s ∷ reverse (take n ss)) (drop (n + 1) ss))
    ∙ g

-- ---- names and numbers of files

abbrev pub name_at : List (List ℕ) → ℕ → List ℕ
name_at files n = unwrap_or (slice_get files n) []

name_is : (files : List (List ℕ)) (n : ℕ) → n < length files → slice_get files n ≡ Some (name_at files n)
name_is files n lt = let found = element_at files n lt in rw found.1 refl

-- a file is told by its name as by its number
pub same_file : (names : Names) (files : List (List ℕ)) → AreNumbered names files → (n : ℕ) (name : List ℕ) (k : ℕ) → number_under names name ≡ Some k → n < length files → bytes_eq (name_at files n) name ≡ (n == k)
same_file names files h n name k is lt = by_name (cases_Bool (bytes_eq (name_at files n) name))
  where
    here : number_under names (name_at files n) ≡ Some n
    here = (h n (name_at files n)).1 (name_is files n lt)

    there : n ≡ k → name_at files n ≡ name
    there e = let at : slice_get files n ≡ Some name = rw e ((h k name).0 is) in ap (λ o. unwrap_or o []) at

    by_number : bytes_eq (name_at files n) name ≡ false → ((n == k) ≡ true) ⊎ ((n == k) ≡ false) → (n == k) ≡ false
    by_number d (inl y) = let e : bytes_eq (name_at files n) name ≡ true = (bytes_decides (name_at files n) name).1 (there (eqb-true n k y)) in absurd (cc)
    by_number d (inr m) = m

    by_name : (bytes_eq (name_at files n) name ≡ true) ⊎ (bytes_eq (name_at files n) name ≡ false) → bytes_eq (name_at files n) name ≡ (n == k)
    by_name (inl y) =
        let e : name_at files n ≡ name = (bytes_decides (name_at files n) name).0 y in
        let f : Some n ≡ Some k = sym here ∙ ap (number_under names) e ∙ is in
        let g : n ≡ k = cc in
        y ∙ sym (rw (← g) (same_number n))
    by_name (inr d) = d ∙ sym (by_number d (cases_Bool (n == k)))

-- keys are told apart by the numbers of their files
same_keys : (names : Names) (files : List (List ℕ)) → AreNumbered names files → (a b : Key) → a.file < length files → b.file < length files → same_key (named_key files a) (named_key files b) ≡ same_numbers a b
same_keys names files h a b la lb =
    ap (λ v. (v && a.line == b.line) && a.inlined == b.inlined) (same_file names files h a.file (name_at files b.file) b.file ((h b.file (name_at files b.file)).1 (name_is files b.file lb)) la)

-- a line begins by names as by numbers
pub begun_named : (names : Names) (files : List (List ℕ)) → AreNumbered names files → (before key : Option Key) → IfSome before (λ k. k.file < length files) → IfSome key (λ k. k.file < length files)
    → begun (option_map (named_key files) before) (option_map (named_key files) key) ≡ option_map (named_line files) (begun_number before key)
begun_named names files h before None lb lk = refl
begun_named names files h None (Some k) lb lk = refl
begun_named names files h (Some b) (Some k) lb lk = by_test (same_keys names files h b k lb lk) (cases_Bool (same_numbers b k))
  where
    by_test : same_key (named_key files b) (named_key files k) ≡ same_numbers b k → (same_numbers b k ≡ true) ⊎ (same_numbers b k ≡ false)
        → begun (Some (named_key files b)) (Some (named_key files k)) ≡ option_map (named_line files) (begun_number (Some b) (Some k))
    by_test e (inl y) = rw (e, y) refl
    by_test e (inr d) = rw (e, d) refl

-- ---- files that grow

name_stays : (old new : List (List ℕ)) → Grows old new → (n : ℕ) → n < length old → name_at new n ≡ name_at old n
name_stays old new g n lt = ap (λ o. unwrap_or o []) (g n (name_at old n) (name_is old n lt))

pub longer : (old new : List (List ℕ)) → Grows old new → (n : ℕ) → n < length old → n < length new
longer old new g n lt = slice_get_within new n (name_at old n) (g n (name_at old n) (name_is old n lt))

pub named_stays : (old new : List (List ℕ)) → Grows old new → (entries : List (ℕ × NumberedLine)) → are_within old entries ≡ true → (named new entries ≡ named old entries) × (are_within new entries ≡ true)
named_stays old new g [] w = (refl, refl)
named_stays old new g (e ∷ es) w =
    let p = and_parts (nat_lt e.1.0 (length old)) (are_within old es) w in
    let lt = ltb-true e.1.0 (length old) p.0 in
    let rest = named_stays old new g es p.1 in
    (rw (name_stays old new g e.1.0 lt, rest.0) refl, rw (lt-ltb e.1.0 (length new) (longer old new g e.1.0 lt), rest.1) refl)

pub key_stays : (old new : List (List ℕ)) → Grows old new → (k : Option Key) → IfSome k (λ k. k.file < length old) → option_map (named_key new) k ≡ option_map (named_key old) k
key_stays old new g None w = refl
key_stays old new g (Some k) w = rw (name_stays old new g k.file w) refl

-- what is kept of a head, with the name of its file
head_read : (files : List (List ℕ)) (entries : List (ℕ × NumberedLine)) (word : ℕ) → reads word (named files entries) ≡ option_map (named_line files) (reads word entries)
head_read files [] word = refl
head_read files (e ∷ es) word = by_word (head_read files es word) (e.0 == word)
  where
    by_word : reads word (named files es) ≡ option_map (named_line files) (reads word es) → (b : Bool)
        → cond b (Some (named_line files e.1)) (reads word (named files es)) ≡ option_map (named_line files) (cond b (Some e.1) (reads word es))
    by_word h true = refl
    by_word h false = h

-- where what is kept has been looked up
pub head_kept : (files : List (List ℕ)) (entries : List (ℕ × NumberedLine)) (heads : Heads) (word : ℕ) (o : Option NumberedLine) → named files entries ≡ heads → o ≡ reads word entries
    → (is_some o ≡ is_head heads word) × (option_map_or (λ line. line.1) o 0 ≡ line_begun heads word)
head_kept files entries heads word o view is = (told o ∙ ap is_some there, number o ∙ ap (λ (p : Option NamedLine). option_map_or (λ line. line.1) p 0) there)
  where
    there : option_map (named_line files) o ≡ reads word heads
    there = ap (option_map (named_line files)) is ∙ sym (head_read files entries word) ∙ ap (reads word) view

    told : (p : Option NumberedLine) → is_some p ≡ is_some (option_map (named_line files) p)
    told None = refl
    told (Some line) = refl

    number : (p : Option NumberedLine) → option_map_or (λ line. line.1) p 0 ≡ option_map_or (λ (line : NamedLine). line.1) (option_map (named_line files) p) 0
    number None = refl
    number (Some line) = refl

-- ---- the words of a line

pub words_more : (entries more : List (ℕ × NumberedLine)) (line : NumberedLine) → words_with (entries ++ more) line ≡ words_with entries line ++ words_with more line
words_more entries more line = ap (λ (es : List (ℕ × NumberedLine)). map (λ (e : ℕ × NumberedLine). e.0) es) (filter-append (is_line line) entries more) ∙ map-append _ (filter (is_line line) entries) (filter (is_line line) more)

-- those of a file by its name
pub words_named : (names : Names) (files : List (List ℕ)) → AreNumbered names files → (name : List ℕ) (number : ℕ) (line : ℕ) → number_under names name ≡ Some number → (entries : List (ℕ × NumberedLine)) → are_within files entries ≡ true
    → words_with entries (number, line) ≡ heads_with (named files entries) (name, line)
words_named names files h name number line is [] w = refl
words_named names files h name number line is (e ∷ es) w =
    let p = and_parts (nat_lt e.1.0 (length files)) (are_within files es) w in
    let lt = ltb-true e.1.0 (length files) p.0 in
    let t : same_line (named_line files e.1) (name, line) ≡ is_line (number, line) e = ap (λ v. v && e.1.1 == line) (same_file names files h e.1.0 name number is lt) in
    rw t (by_test (words_named names files h name number line is es p.1) (is_line (number, line) e))
  where
    by_test : words_with es (number, line) ≡ heads_with (named files es) (name, line) → (b : Bool)
        → map (λ (y : ℕ × NumberedLine). y.0) (cond b (e ∷ filter (is_line (number, line)) es) (filter (is_line (number, line)) es))
        ≡ map (λ (y : ℕ × NamedLine). y.0) (cond b ((e.0, named_line files e.1) ∷ filter (λ (y : ℕ × NamedLine). same_line y.1 (name, line)) (named files es)) (filter (λ (y : ℕ × NamedLine). same_line y.1 (name, line)) (named files es)))
    by_test i true = ap (λ ws. e.0 ∷ ws) i
    by_test i false = i

-- a name that no file has
pub no_words : (names : Names) (files : List (List ℕ)) → AreNumbered names files → (name : List ℕ) (line : ℕ) → number_under names name ≡ None → (entries : List (ℕ × NumberedLine)) → are_within files entries ≡ true
    → heads_with (named files entries) (name, line) ≡ []
no_words names files h name line is [] w = refl
no_words names files h name line is (e ∷ es) w =
    let p = and_parts (nat_lt e.1.0 (length files)) (are_within files es) w in
    let lt = ltb-true e.1.0 (length files) p.0 in
    rw (another lt (cases_Bool (bytes_eq (name_at files e.1.0) name))) (no_words names files h name line is es p.1)
  where
    another : e.1.0 < length files → (bytes_eq (name_at files e.1.0) name ≡ true) ⊎ (bytes_eq (name_at files e.1.0) name ≡ false) → bytes_eq (name_at files e.1.0) name ≡ false
    another lt (inl y) =
        let same : name_at files e.1.0 ≡ name = (bytes_decides (name_at files e.1.0) name).0 y in
        let f : None ≡ Some e.1.0 = sym is ∙ ap (number_under names) (sym same) ∙ (h e.1.0 (name_at files e.1.0)).1 (name_is files e.1.0 lt) in
        absurd (cc)
    another lt (inr d) = d

-- the words that are kept of a line, where its file has a number
pub words_kept : (names : Names) (files : List (List ℕ)) (lines : BTreeMap (ℕ × ℕ) (Vec ℕ Global)) (entries : List (ℕ × NumberedLine)) (heads : Heads) (name : List ℕ) (number line : ℕ) (words : List ℕ)
    → AreNumbered names files → ((l : NumberedLine) → words_under lines l ≡ words_with entries l) → are_within files entries ≡ true → named files entries ≡ heads
    → Some number ≡ number_under names name → words ≡ words_under lines (number, line) → words ≡ heads_with heads (name, line)
words_kept names files lines entries heads name number line words h kept within view is here =
    here ∙ kept (number, line) ∙ words_named names files h name number line (sym is) entries within ∙ ap (λ (hs : Heads). heads_with hs (name, line)) view
