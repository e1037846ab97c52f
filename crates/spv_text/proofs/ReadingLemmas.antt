-- A text is read in one way.
use Rattle.std.proofs.Common.{◌≡◌, ◌≢◌, ℕ, ◌+◌, ◌<◌, ◌≤◌, List, [], ◌∷◌, ◌++◌, Result, Ok, Err, decimal, length, refl, sym, ap, append_assoc, ◌∙◌, subst, arith, ◌⊎◌, inl, inr, length-append}
use Rattle.std.specs.List.{flat_map}
use Rattle.std.proofs.lemmas.List.{append-nil}
use Rattle.std.proofs.lemmas.Grind.{flat_map-append}
use Rattle.spv_base.specs.declared.causes.Refusal.{Refusal}
use Rattle.spv_base.specs.declared.instructions.Inst.{Inst}
use Rattle.spv_ops.specs.Encoding.{encoding, IsFormed}
use Rattle.spv_text.specs.declared.lines.Line.{Line}
use Rattle.spv_text.specs.declared.lines.Wrong.{Wrong}
use Rattle.spv_text.specs.declared.lines.Wrong.TheVariants.{NoLine, UnknownName, WrongOperands, Misplaced}
use Rattle.spv_text.specs.Spelling.{line_text, parts_text}
use Rattle.spv_text.specs.Lines.{Any, IsLine, Lacks, Stands}
use Rattle.spv_text.specs.Listing.{line_of, listing}
use Rattle.spv_text.specs.Reading.{code_of, word_behind, AreInsts, IsOpcode, IsRead, IsWrong, IsWrongLine, StandsAt, StopsAt}
use Rattle.spv_text.proofs.LineLemmas.{line_split, one_line}
use Rattle.spv_text.proofs.InstLemmas.{formed_place, inst_formed, one_inst, range_line}

-- ---- one more instruction

listing_first : (inst : Inst) (insts : List Inst) (rest : List ℕ) → listing (inst ∷ insts) ++ rest ≡ line_text (line_of inst) ++ (listing insts ++ rest)
unfolding listing
listing_first inst insts rest = append_assoc (line_text (line_of inst)) (flat_map (λ i. line_text (line_of i)) insts) rest

listing_none : (rest : List ℕ) → listing [] ++ rest ≡ rest
unfolding listing
listing_none rest = refl

pub listing_more : (insts : List Inst) (inst : Inst) → listing (insts ++ inst ∷ []) ≡ listing insts ++ line_text (line_of inst)
unfolding listing
listing_more insts inst =
    flat_map-append (λ i. line_text (line_of i)) insts (inst ∷ []) ∙ ap (λ l. flat_map (λ i. line_text (line_of i)) insts ++ l) (append-nil (line_text (line_of inst)))

pub behind_more : (word : ℕ) (insts : List Inst) (inst : Inst) → word_behind word (insts ++ inst ∷ []) ≡ word_behind word insts + length (encoding inst)
behind_more word [] inst = refl
behind_more word (first ∷ insts) inst = behind_more (word + length (encoding first)) insts inst

pub stand_more : (word : ℕ) (insts : List Inst) (inst : Inst) → AreInsts word insts → StandsAt (word_behind word insts) inst → AreInsts word (insts ++ inst ∷ [])
stand_more word [] inst h k = (k, tt)
stand_more word (first ∷ insts) inst h k = (h.0, stand_more (word + length (encoding first)) insts inst h.1 k)

-- ---- a line that is wrong

-- what is wrong with a line that stands there is wrong with the text
pub line_wrong : (wrong : Wrong) (word : ℕ) (text rest : List ℕ) (line : Line) → Stands line_text IsLine Any text line rest → IsWrongLine wrong word line → IsWrong wrong word text
line_wrong NoLine word text rest line h k = absurd k
line_wrong UnknownName word text rest line h k = (line, rest, h, k)
line_wrong WrongOperands word text rest line h k = (line, rest, h, k)
line_wrong Misplaced word text rest line h k = (line, rest, h, k)

stands_once : (text r s : List ℕ) (k l : Line) → Stands line_text IsLine Any text k r → Stands line_text IsLine Any text l s → (k ≡ l) × (r ≡ s)
stands_once text r s k l h g = one_line k l r s h.0 g.0 (sym h.1 ∙ g.1)

formed_opcode : (inst : Inst) (line : Line) → IsFormed inst → line ≡ line_of inst → IsOpcode inst.op line.name
formed_opcode inst line formed e = ((formed_place inst formed).opcode, ap (λ (l : Line). l.name) e)

unknown_not : (word : ℕ) (line : Line) (inst : Inst) → IsWrongLine UnknownName word line → IsFormed inst → line ≡ line_of inst → ⊥
unknown_not word line inst h formed e = h inst.op (formed_opcode inst line formed e)

-- an instruction that stands at its word has no line that is wrong
right : (wrong : Wrong) (word : ℕ) (line : Line) (inst : Inst) → StandsAt word inst → line ≡ line_of inst → IsWrongLine wrong word line → ⊥
right NoLine word line inst h e k = k
right UnknownName word line inst h e k = unknown_not word line inst k (inst_formed inst h.0) e
right WrongOperands word line inst h e k = k.1 inst (inst_formed inst h.0) e
right Misplaced word line inst h e k = at k.3
  where
    formed : IsFormed inst
    formed = inst_formed inst h.0

    same : k.0 ≡ inst
    same = one_inst k.0 inst (formed_place k.0 k.1) (formed_place inst formed) (sym k.2 ∙ e)

    at : (65535 < length (encoding k.0)) ⊎ (line.word ≢ word) → ⊥
    at (inl long) = let fits : length (encoding inst) ≤ 65535 = h.0.count in let l : 65535 < length (encoding inst) = subst (λ (i : Inst). 65535 < length (encoding i)) same long in omega arith
    at (inr off) = off (ap (λ (l : Line). l.word) e ∙ h.1)

-- no instruction stands at the front
Blocked : ℕ → List ℕ → Type 0
Blocked word rest = (rest ≡ []) ⊎ ((wrong : Wrong) × IsWrong wrong word rest)

wrong_not : (wrong : Wrong) (word : ℕ) (text rest : List ℕ) (inst : Inst) → IsWrong wrong word text → StandsAt word inst → text ≡ line_text (line_of inst) ++ rest → ⊥
wrong_not NoLine word text rest inst h k e = h (line_of inst) rest (range_line word inst k) e tt
wrong_not UnknownName word text rest inst h k e = right UnknownName word h.0 inst k (stands_once text h.1 rest h.0 (line_of inst) h.2 (range_line word inst k, e, tt)).0 h.3
wrong_not WrongOperands word text rest inst h k e = right WrongOperands word h.0 inst k (stands_once text h.1 rest h.0 (line_of inst) h.2 (range_line word inst k, e, tt)).0 h.3
wrong_not Misplaced word text rest inst h k e = right Misplaced word h.0 inst k (stands_once text h.1 rest h.0 (line_of inst) h.2 (range_line word inst k, e, tt)).0 h.3

line_some : (line : Line) (rest : List ℕ) → [] ≡ line_text line ++ rest → ⊥
line_some line rest e = by (decimal line.word) (e ∙ line_split line rest)
  where
    by : (ds : List ℕ) → [] ≡ ds ++ (58 ∷ 32 ∷ (line.name ++ (parts_text line.parts ++ 10 ∷ rest))) → ⊥
    by [] f = absurd (cc)
    by (d ∷ ds) f = absurd (cc)

no_inst : (word : ℕ) (text rest : List ℕ) (inst : Inst) → Blocked word text → StandsAt word inst → text ≡ line_text (line_of inst) ++ rest → ⊥
unfolding Blocked
no_inst word text rest inst (inl e) k f = line_some (line_of inst) rest (sym e ∙ f)
no_inst word text rest inst (inr h) k f = wrong_not h.0 word text rest inst h.1 k f

-- ---- two readings

same_first : (word : ℕ) (x y : Inst) (r s : List ℕ) → StandsAt word x → StandsAt word y → line_text (line_of x) ++ r ≡ line_text (line_of y) ++ s → (x ≡ y) × (r ≡ s)
same_first word x y r s h k e =
    let one = one_line (line_of x) (line_of y) r s (range_line word x h) (range_line word y k) e in
    (one_inst x y (formed_place x (inst_formed x h.0)) (formed_place y (inst_formed y k.0)) one.0, one.1)

compare : (word : ℕ) (xs ys : List Inst) (r s : List ℕ) → AreInsts word xs → AreInsts word ys → Blocked (word_behind word xs) r → Blocked (word_behind word ys) s
    → listing xs ++ r ≡ listing ys ++ s → (xs ≡ ys) × (r ≡ s)
compare word [] [] r s h k b d e = (refl, sym (listing_none r) ∙ e ∙ listing_none s)
compare word [] (y ∷ ys) r s h k b d e = absurd (no_inst word r (listing ys ++ s) y b k.0 (sym (listing_none r) ∙ e ∙ listing_first y ys s))
compare word (x ∷ xs) [] r s h k b d e = absurd (no_inst word s (listing xs ++ r) x d h.0 (sym (listing_none s) ∙ sym e ∙ listing_first x xs r))
compare word (x ∷ xs) (y ∷ ys) r s h k b d e =
    let one = same_first word x y (listing xs ++ r) (listing ys ++ s) h.0 k.0 (sym (listing_first x xs r) ∙ e ∙ listing_first y ys s) in
    let next : word + length (encoding y) ≡ word + length (encoding x) = ap (λ (i : Inst). word + length (encoding i)) (sym one.0) in
    let more = compare (word + length (encoding x)) xs ys r s h.1 (subst (λ w. AreInsts w ys) next k.1) b (subst (λ w. Blocked (word_behind w ys) s) next d) one.1 in
    (ap (λ i. i ∷ xs) one.0 ∙ ap (λ is. y ∷ is) more.0, more.1)

-- ---- what is wrong is one

other_line : (u : Wrong) (word : ℕ) (k l : Line) → k ≡ l → IsWrongLine u word k → IsWrongLine u word l
other_line u word k l e h = subst (λ m. IsWrongLine u word m) e h

one_wrong_line : (u v : Wrong) (word : ℕ) (line : Line) → IsWrongLine u word line → IsWrongLine v word line → u ≡ v
one_wrong_line NoLine v word line h k = absurd h
one_wrong_line UnknownName NoLine word line h k = absurd k
one_wrong_line UnknownName UnknownName word line h k = refl
one_wrong_line UnknownName WrongOperands word line h k = absurd (h k.0.0 k.0.1)
one_wrong_line UnknownName Misplaced word line h k = absurd (unknown_not word line k.0 h k.1 k.2)
one_wrong_line WrongOperands NoLine word line h k = absurd k
one_wrong_line WrongOperands UnknownName word line h k = absurd (k h.0.0 h.0.1)
one_wrong_line WrongOperands WrongOperands word line h k = refl
one_wrong_line WrongOperands Misplaced word line h k = absurd (h.1 k.0 k.1 k.2)
one_wrong_line Misplaced NoLine word line h k = absurd k
one_wrong_line Misplaced UnknownName word line h k = absurd (unknown_not word line h.0 k h.1 h.2)
one_wrong_line Misplaced WrongOperands word line h k = absurd (k.1 h.0 h.1 h.2)
one_wrong_line Misplaced Misplaced word line h k = refl

-- a line that stands there, and is wrong so; or none stands there
HasWrong : Wrong → ℕ → List ℕ → Type 0
HasWrong wrong word text = ((wrong ≡ NoLine) × Lacks line_text IsLine Any text) ⊎ ((line : Line) × (rest : List ℕ) × Stands line_text IsLine Any text line rest × IsWrongLine wrong word line)

has_wrong : (wrong : Wrong) (word : ℕ) (text : List ℕ) → IsWrong wrong word text → HasWrong wrong word text
unfolding HasWrong
has_wrong NoLine word text h = inl (refl, h)
has_wrong UnknownName word text h = inr h
has_wrong WrongOperands word text h = inr h
has_wrong Misplaced word text h = inr h

one_cause : (u v : Wrong) (word : ℕ) (text : List ℕ) → HasWrong u word text → HasWrong v word text → u ≡ v
unfolding HasWrong
one_cause u v word text (inl h) (inl k) = h.0 ∙ sym k.0
one_cause u v word text (inl h) (inr k) = absurd (h.1 k.0 k.1 k.2.0 k.2.1 tt)
one_cause u v word text (inr h) (inl k) = absurd (k.1 h.0 h.1 h.2.0 h.2.1 tt)
one_cause u v word text (inr h) (inr k) =
    one_wrong_line u v word k.0 (other_line u word h.0 k.0 (stands_once text h.1 k.1 h.0 k.0 h.2 k.2).0 h.3) k.3

-- ---- a text is read in one way

same_refusal : (a b : Refusal) → a.code ≡ b.code → a.word ≡ b.word → a ≡ b
same_refusal a b c w = ap (λ x. record { code = x; word = a.word }) c ∙ ap (λ x. record { code = b.code; word = x }) w

some_text : (rest : List ℕ) → 0 < length rest → [] ≡ rest → ⊥
some_text rest h e = let l : 0 ≡ length rest = ap length e in absurd (omega arith)

blocked : (word : ℕ) (wrong : Wrong) (rest : List ℕ) → IsWrong wrong word rest → Blocked word rest
unfolding Blocked
blocked word wrong rest h = inr (wrong, h)

ended_here : (word : ℕ) → Blocked word []
unfolding Blocked
ended_here word = inl refl

not_both : (text : List ℕ) (insts : List Inst) (refusal : Refusal) → AreInsts 5 insts → text ≡ listing insts → StopsAt text refusal → ⊥
not_both text insts refusal h e stop =
    some_text stop.rest stop.more (compare 5 insts stop.insts [] stop.rest h stop.stand (ended_here (word_behind 5 insts)) (blocked (word_behind 5 stop.insts) stop.wrong stop.rest stop.cause)
    (append-nil (listing insts) ∙ sym e ∙ stop.whole)).1

pub one_reading : (text : List ℕ) (a b : Result (List Inst) Refusal) → IsRead text a → IsRead text b → a ≡ b
one_reading text (Ok xs) (Ok ys) h k =
    ap Ok (compare 5 xs ys [] [] h.0 k.0 (ended_here (word_behind 5 xs)) (ended_here (word_behind 5 ys)) (append-nil (listing xs) ∙ sym h.1 ∙ k.1 ∙ sym (append-nil (listing ys)))).0
one_reading text (Ok xs) (Err s) h k = absurd (not_both text xs s h.0 h.1 k)
one_reading text (Err r) (Ok ys) h k = absurd (not_both text ys r k.0 k.1 h)
one_reading text (Err r) (Err s) h k =
    let same = compare 5 h.insts k.insts h.rest k.rest h.stand k.stand (blocked (word_behind 5 h.insts) h.wrong h.rest h.cause) (blocked (word_behind 5 k.insts) k.wrong k.rest k.cause) (sym h.whole ∙ k.whole) in
    let cause : IsWrong k.wrong (word_behind 5 h.insts) h.rest =
    subst (λ is. IsWrong k.wrong (word_behind 5 is) h.rest) (sym same.0) (subst (λ t. IsWrong k.wrong (word_behind 5 k.insts) t) (sym same.1) k.cause) in
    let wrong = one_cause h.wrong k.wrong (word_behind 5 h.insts) h.rest (has_wrong h.wrong (word_behind 5 h.insts) h.rest h.cause) (has_wrong k.wrong (word_behind 5 h.insts) h.rest cause) in
    ap Err (same_refusal r s (h.code ∙ ap code_of wrong ∙ sym k.code) (h.line ∙ ap (λ (is : List Inst). length is + 1) same.0 ∙ sym k.line))

-- ---- the loop

pub init_whole : (text : List ℕ) (insts : List Inst) → insts ≡ [] → text ≡ listing insts ++ text
init_whole text insts e = sym (listing_none text) ∙ ap (λ is. listing is ++ text) (sym e)

pub init_stand : (insts : List Inst) → insts ≡ [] → AreInsts 5 insts
init_stand insts e = subst (λ is. AreInsts 5 is) (sym e) tt

pub next_whole : (text rest more : List ℕ) (insts : List Inst) (inst : Inst) → text ≡ listing insts ++ rest → rest ≡ line_text (line_of inst) ++ more → text ≡ listing (insts ++ inst ∷ []) ++ more
next_whole text rest more insts inst e f =
    e ∙ ap (λ r. listing insts ++ r) f ∙ sym (append_assoc (listing insts) (line_text (line_of inst)) more) ∙ ap (λ l. l ++ more) (sym (listing_more insts inst))

line_long : (line : Line) (more : List ℕ) → length more < length (line_text line ++ more)
line_long line more =
    let a = length-append (decimal line.word) (58 ∷ 32 ∷ (line.name ++ (parts_text line.parts ++ 10 ∷ more))) in
    let b = length-append line.name (parts_text line.parts ++ 10 ∷ more) in
    let d = length-append (parts_text line.parts) (10 ∷ more) in
    let e = ap length (line_split line more) in
    omega (arith, a, b, d, e)

pub next_short : (rest more : List ℕ) (inst : Inst) → rest ≡ line_text (line_of inst) ++ more → length more < length rest
next_short rest more inst e = let l = line_long (line_of inst) more in omega (arith, l, ap length e)

pub one_more : (insts : List Inst) (inst : Inst) → length (insts ++ inst ∷ []) ≡ length insts + 1
one_more insts inst = length-append insts (inst ∷ [])
