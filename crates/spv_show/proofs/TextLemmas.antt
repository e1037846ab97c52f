-- Written cell by cell, the row of a value gives the text of the value.
use Rattle.std.proofs.Common.{◌≡◌, ◌∙◌, ℕ, zero, suc, ◌+◌, ◌<◌, ◌==◌, Bool, true, false, List, [], ◌∷◌, ◌++◌, Option, Some, None, append_assoc, append-nil, length, map, drop, replicate, slice_get, refl, sym, ap, subst, arith}
use Rattle.std.specs.Bool.{MatchBool}
use Rattle.std.specs.Option.{IsSomeAnd, MatchOption, option_map, option_map_or}
use Rattle.std.specs.Prelude.{codes, decimal, if◌then◌else◌}
use Rattle.std.specs.List.{All, AllZip, flat_map}
use Rattle.std.proofs.lemmas.List.Elements.{All-head, All-tail}
use Rattle.spv_base.specs.Cell.{Cell}
use Rattle.spv_base.specs.Parts.{parts_in}
use Rattle.spv_base.specs.declared.values.Value.{Value, out-Value}
use Rattle.spv_base.specs.declared.values.Value.TheOpen.{Value-F}
use Rattle.spv_base.specs.Options.{holds}
use Rattle.spv_types.specs.declared.forms.Form.{Form}
use Rattle.spv_types.specs.declared.forms.Form.TheVariants.{Void, Bool as Boolean, Int, Vector, Array, Runtime, Struct, Pointer, Function}
use Rattle.spv_types.specs.declared.forms.Member.{Member}
use Rattle.spv_types.specs.Types.{Types, form_of, in_first, number_of}
use Rattle.spv_types.specs.Shapes.{HasShape, HasShapeAmong, scalar_in, shape_step}
use Rattle.spv_types.specs.Rows.{leaves, no_roots}
use Rattle.spv_types.proofs.Exports.{many_is, many_row, scalar_row, no_pointer}
use Rattle.spv_show.specs.declared.scalars.Reading.{Reading}
use Rattle.spv_show.specs.declared.scalars.Reading.TheVariants as reading
use Rattle.spv_show.specs.Elements.{sized, with_elements}
use Rattle.spv_show.specs.Lists.{Shown, Writer, bracketed, continued, elements, joined, leaf, named, plain, separator}
use Rattle.spv_show.specs.Scalars.{reading_of, scalar_if_any, scalar_text, unavailable}
use Rattle.spv_show.specs.Texts.{Text, members_text, no_text, row_if_any, struct_if_any, text_among, text_step, value_text}
use Rattle.spv_show.specs.Sheets.{Change, Written, blank, put, put_among, put_bracketed, put_cell, put_elements, put_leaf, put_members, put_named, put_next, put_rest, put_row, put_step, put_struct}
use Rattle.spv_show.proofs.ElementLemmas.{form_sized, length_sized, number_sized}

-- ---- what is written from one sheet to another

-- What was shown was written; where more may be, the rest lies next among the cells.
pub record Writes (cells : List Cell) (old new : Written) (shown : Shown) (rest : List Cell) : Type 0 where
  pub text : new.text ≡ old.text ++ shown.text
  pub left : new.left ≡ shown.left
  pub next : 0 < new.left → drop new.taken cells ≡ rest

writes_put : (cells : List Cell) (s : Written) (text : List ℕ) (rest : List Cell) → (0 < s.left → drop s.taken cells ≡ rest) → Writes cells s (put text s) (plain text s.left) rest
writes_put cells s text rest next = record { text = refl; left = refl; next = next }

writes_both : (cells : List Cell) (a b c : Written) (x : Shown) (w : Writer) (middle rest : List Cell) → Writes cells a b x middle → Writes cells b c (w b.left) rest → Writes cells a c (continued x w) rest
writes_both cells a b c x w middle rest f g = record {
  text = g.text ∙ ap (λ (t : List ℕ). t ++ (w b.left).text) f.text ∙ ap (λ (l : ℕ). (a.text ++ x.text) ++ (w l).text) f.left ∙ append_assoc a.text x.text (w x.left).text;
  left = g.left ∙ ap (λ (l : ℕ). (w l).left) f.left;
  next = g.next;
}

-- a change that takes a row writes what a writer does
record Agrees (cells : List Cell) (c : Change) (w : Writer) (row : List Cell) : Type 0 where
  writes : (s : Written) (rest : List Cell) → drop s.taken cells ≡ row ++ rest → Writes cells s (c s) (w s.left) rest

-- changes that take rows, one behind another
abbrev AgreeAll : List Cell → List Change → List Writer → List Cell → Type 0
AgreeAll cells [] [] row = row ≡ []
AgreeAll cells [] (w ∷ ws) row = ⊥
AgreeAll cells (c ∷ cs) [] row = ⊥
AgreeAll cells (c ∷ cs) (w ∷ ws) row = (first : List Cell) × (others : List Cell) × (row ≡ first ++ others) × Agrees cells c w first × AgreeAll cells cs ws others

-- ---- lists

no_more : (n : ℕ) → (n == 0) ≡ true → 0 < n → ⊥
no_more n e some = let none : n ≡ 0 = grind arith in absurd (omega (arith, none, some))

some_more : (n : ℕ) → (n == 0) ≡ false → 0 < n
some_more zero e = absurd cc
some_more (suc n) e = omega arith

elements_agree : (cells : List Cell) (number : ℕ) (cs : List Change) (ws : List Writer) (row rest : List Cell) (s : Written) → AgreeAll cells cs ws row → (0 < s.left → drop s.taken cells ≡ row ++ rest)
    → Writes cells s (put_elements number cs s) (elements number ws s.left) rest
elements_agree cells number [] [] row rest s agree next = record {
  text = sym (append-nil s.text);
  left = refl;
  next = λ some. next some ∙ ap (λ (r : List Cell). r ++ rest) agree;
}
elements_agree cells number [] (w ∷ ws) row rest s agree next = absurd agree
elements_agree cells number (c ∷ cs) [] row rest s agree next = absurd agree
elements_agree cells number (c ∷ cs) (w ∷ ws) row rest s agree next = element (λ t follows. elements_agree cells (number + 1) cs ws agree.1 rest t agree.4 follows) (s.left == 0) refl
  where
    element : ((t : Written) → (0 < t.left → drop t.taken cells ≡ agree.1 ++ rest) → Writes cells t (put_elements (number + 1) cs t) (elements (number + 1) ws t.left) rest) → (b : Bool) → (s.left == 0) ≡ b
        → Writes cells s (if b then put_rest number s else put_elements (number + 1) cs (c (put (separator number) s)))
        (if b then plain (separator number ++ codes "...") s.left else joined (plain (separator number)) (joined w (elements (number + 1) ws)) s.left) rest
    element others true e = record {
      text = append_assoc s.text (separator number) (codes "...");
      left = refl;
      next = λ some. absurd (no_more s.left e some);
    }
    element others false e =
        let lies : drop s.taken cells ≡ agree.0 ++ (agree.1 ++ rest) = next (some_more s.left e) ∙ ap (λ (r : List Cell). r ++ rest) agree.2 ∙ append_assoc agree.0 agree.1 rest in
        let apart = writes_put cells s (separator number) (agree.0 ++ (agree.1 ++ rest)) (λ some. lies) in
        let one = agree.3.writes (put (separator number) s) (agree.1 ++ rest) lies in
        let more = others (c (put (separator number) s)) one.next in
        let behind = writes_both cells (put (separator number) s) (c (put (separator number) s)) (put_elements (number + 1) cs (c (put (separator number) s))) (w s.left) (elements (number + 1) ws) (agree.1 ++ rest) rest one more in
        writes_both cells s (put (separator number) s) (put_elements (number + 1) cs (c (put (separator number) s))) (plain (separator number) s.left) (joined w (elements (number + 1) ws)) (agree.0 ++ (agree.1 ++ rest)) rest apart behind

bracketed_agrees : (cells : List Cell) (before after : List ℕ) (cs : List Change) (ws : List Writer) (row : List Cell) → AgreeAll cells cs ws row → Agrees cells (put_bracketed before after cs) (bracketed before after ws) row
bracketed_agrees cells before after [] [] row agree = record {
  writes = λ s rest lies. record { text = refl; left = refl; next = λ some. lies ∙ ap (λ (r : List Cell). r ++ rest) agree };
}
bracketed_agrees cells before after [] (w ∷ ws) row agree = absurd agree
bracketed_agrees cells before after (c ∷ cs) [] row agree = absurd agree
bracketed_agrees cells before after (c ∷ cs) (w ∷ ws) row agree = record {
  writes = λ s rest lies.
      let begun = writes_put cells s before (row ++ rest) (λ some. lies) in
      let inside = elements_agree cells 0 (c ∷ cs) (w ∷ ws) row rest (put before s) agree (λ some. lies) in
      let ended = writes_put cells (put_elements 0 (c ∷ cs) (put before s)) after rest inside.next in
      let behind = writes_both cells (put before s) (put_elements 0 (c ∷ cs) (put before s)) (put after (put_elements 0 (c ∷ cs) (put before s))) (elements 0 (w ∷ ws) s.left) (plain after) rest rest inside ended in
      writes_both cells s (put before s) (put after (put_elements 0 (c ∷ cs) (put before s))) (plain before s.left) (joined (elements 0 (w ∷ ws)) (plain after)) (row ++ rest) rest begun behind;
}

named_agrees : (cells : List Cell) (number : ℕ) (c : Change) (w : Writer) (row : List Cell) → Agrees cells c w row → Agrees cells (put_named number c) (named number w) row
named_agrees cells number c w row agree = record {
  writes = λ s rest lies.
      let begun : Writes cells s (put (codes " = ") (put (decimal number) s)) (plain (decimal number ++ codes " = ") s.left) (row ++ rest) = record {
        text = append_assoc s.text (decimal number) (codes " = ");
        left = refl;
        next = λ some. lies;
      } in
      let one = agree.writes (put (codes " = ") (put (decimal number) s)) rest lies in
      writes_both cells s (put (codes " = ") (put (decimal number) s)) (c (put (codes " = ") (put (decimal number) s))) (plain (decimal number ++ codes " = ") s.left) w (row ++ rest) rest begun one;
}

-- ---- scalars

next_cell : (cells : List Cell) (n : ℕ) (c : Cell) (rest : List Cell) → drop n cells ≡ c ∷ rest → (slice_get cells n ≡ Some c) × (drop (n + 1) cells ≡ rest)
next_cell [] zero c rest lies = cc
next_cell [] (suc n) c rest lies = cc
next_cell (x ∷ xs) zero c rest lies =
    let same : x ≡ c = cc in
    let behind : xs ≡ rest = cc in
    (ap Some same, behind)
next_cell (x ∷ xs) (suc n) c rest lies =
    let further = next_cell xs n c rest lies in
    let one : suc n + 1 ≡ suc (n + 1) = omega arith in
    (further.0, ap (λ (k : ℕ). drop k (x ∷ xs)) one ∙ further.1)

cell_agrees : (cells : List Cell) (reading : Reading) (c : Cell) → Agrees cells (put_cell cells reading) (leaf (scalar_text reading c)) (c ∷ [])
cell_agrees cells reading c = record {
  writes = λ s rest lies.
      let at = next_cell cells s.taken c rest lies in
      subst (λ (o : Option Cell). Writes cells s (put_next reading o s) (leaf (scalar_text reading c) s.left) rest) (sym at.0) (record { text = refl; left = refl; next = λ some. at.1 });
}

scalar_agrees : (cells : List Cell) (reading : Reading) (P : Cell → Type 0) (v : Value) → IsSomeAnd (scalar_in (out-Value v)) P
    → Agrees cells (put_cell cells reading) (leaf (scalar_if_any reading (scalar_in (out-Value v)))) (leaves v)
scalar_agrees cells reading P v h = level (out-Value v) refl h
  where
    level : (l : Value-F Value) → out-Value v ≡ l → IsSomeAnd (scalar_in l) P → Agrees cells (put_cell cells reading) (leaf (scalar_if_any reading (scalar_in (out-Value v)))) (leaves v)
    level (Value-F.Scalar c) e h = rw (scalar_row v c e, e) (cell_agrees cells reading c)
    level (Value-F.List vs) e h = absurd h
    level (Value-F.Ptr p) e h = absurd h

-- ---- the parts of a value

-- values of types are written as their texts say
abbrev Agree : List Cell → (ℕ → Value → Type 0) → (ℕ → Change) → (ℕ → Text) → Type 0
Agree cells shape change text = (id : ℕ) (v : Value) → shape id v → Agrees cells (change id) (text id v) (leaves v)

each_agrees : (cells : List Cell) (c : Change) (text : Text) (P : Value → Type 0) (vs : List Value) → ((v : Value) → P v → Agrees cells c (text v) (leaves v)) → All P vs
    → AgreeAll cells (replicate (length vs) c) (map text vs) (flat_map leaves vs)
each_agrees cells c text P [] agree all = refl
each_agrees cells c text P (v ∷ vs) agree all = (leaves v, flat_map leaves vs, refl, agree v (All-head P v vs all), each_agrees cells c text P vs agree (All-tail P v vs all))

members_agree : (cells : List Cell) (shape : ℕ → Value → Type 0) (change : ℕ → Change) (text : ℕ → Text) (number : ℕ) (ms : List Member) (vs : List Value) → Agree cells shape change text
    → AllZip (λ (m : Member). shape m.ty) ms vs → AgreeAll cells (put_members change number ms) (members_text text number ms vs) (flat_map leaves vs)
members_agree cells shape change text number [] [] agree all = refl
members_agree cells shape change text number [] (v ∷ vs) agree all = absurd all
members_agree cells shape change text number (m ∷ ms) [] agree all = absurd all
members_agree cells shape change text number (m ∷ ms) (v ∷ vs) agree all =
    (leaves v, flat_map leaves vs, refl, named_agrees cells number (change m.ty) (text m.ty v) (leaves v) (agree m.ty v all.0), members_agree cells shape change text (number + 1) ms vs agree all.1)

row_agrees : (cells : List Cell) (cs : List Change) (text : Text) (v : Value) (vs : List Value) → out-Value v ≡ Value-F.List vs → AgreeAll cells cs (map text vs) (flat_map leaves vs)
    → Agrees cells (put_row cs) (row_if_any text (parts_in (out-Value v))) (leaves v)
row_agrees cells cs text v vs e all =
    let inside = bracketed_agrees cells (codes "[") (codes "]") cs (map text vs) (flat_map leaves vs) all in
    let here : Agrees cells (put_row cs) (row_if_any text (Some vs)) (flat_map leaves vs) = record { writes = λ s rest lies. inside.writes s rest lies } in
    rw (many_row v vs e, e) here

struct_agrees : (cells : List Cell) (cs : List Change) (text : ℕ → Text) (ms : List Member) (v : Value) (vs : List Value) → out-Value v ≡ Value-F.List vs → AgreeAll cells cs (members_text text 0 ms vs) (flat_map leaves vs)
    → Agrees cells (put_struct cs) (struct_if_any text ms (parts_in (out-Value v))) (leaves v)
struct_agrees cells cs text ms v vs e all =
    let inside = bracketed_agrees cells (codes "{") (codes "}") cs (members_text text 0 ms vs) (flat_map leaves vs) all in
    let here : Agrees cells (put_struct cs) (struct_if_any text ms (Some vs)) (flat_map leaves vs) = record { writes = λ s rest lies. inside.writes s rest lies } in
    rw (many_row v vs e, e) here

-- an array, or a runtime array, of so many elements
elements_agree_all : (cells : List Cell) (shape : ℕ → Value → Type 0) (change : ℕ → Change) (text : ℕ → Text) (element size : ℕ) (v : Value) → Agree cells shape change text
    → IsSomeAnd (parts_in (out-Value v)) (λ vs. (Some (length vs) ≡ Some size) × All (shape element) vs) → Agrees cells (put_row (replicate size (change element))) (row_if_any (text element) (parts_in (out-Value v))) (leaves v)
elements_agree_all cells shape change text element size v agree h =
    let many = many_is _ v h in
    let same : length many.0 ≡ size = let e = many.2.0 in cc in
    let each = each_agrees cells (change element) (text element) (shape element) many.0 (λ u s. agree element u s) many.2.1 in
    row_agrees cells (replicate size (change element)) (text element) v many.0 many.1
    (subst (λ (size : ℕ). AgreeAll cells (replicate size (change element)) (map (text element) many.0) (flat_map leaves many.0)) same each)

-- ---- one level

step_agrees : (us : Types) (k : ℕ) (cells : List Cell) (shape : ℕ → Value → Type 0) (change : ℕ → Change) (text : ℕ → Text) (f : Form) (v : Value) → Agree cells shape change text
    → shape_step us no_roots shape (sized k f) v → Agrees cells (put_step cells change (sized k f)) (text_step text f v) (leaves v)
step_agrees us k cells shape change text Void v agree h = absurd h
step_agrees us k cells shape change text Boolean v agree h = scalar_agrees cells reading.Boolean _ v h
step_agrees us k cells shape change text (Int width sign) v agree h = scalar_agrees cells (reading_of sign) _ v h
step_agrees us k cells shape change text (Vector component size) v agree h =
    let many = many_is _ v h in
    let each = each_agrees cells (change component) (text component) (shape component) many.0 (λ u s. agree component u s) many.2.1 in
    row_agrees cells (replicate size (change component)) (text component) v many.0 many.1
    (subst (λ (size : ℕ). AgreeAll cells (replicate size (change component)) (map (text component) many.0) (flat_map leaves many.0)) many.2.0 each)
step_agrees us k cells shape change text (Array element None stride) v agree h = let many = many_is _ v h in let none = many.2.0 in absurd (cc)
step_agrees us k cells shape change text (Array element (Some size) stride) v agree h = elements_agree_all cells shape change text element size v agree h
step_agrees us k cells shape change text (Runtime element stride) v agree h = elements_agree_all cells shape change text element k v agree h
step_agrees us k cells shape change text (Struct members block) v agree h =
    let many = many_is _ v h in
    struct_agrees cells (put_members change 0 members) text members v many.0 many.1 (members_agree cells shape change text 0 members many.0 agree many.2)
step_agrees us k cells shape change text (Pointer class target) v agree h = absurd (no_pointer us v target h)
step_agrees us k cells shape change text (Function returns parameters) v agree h = absurd h

-- ---- all levels

formed_agrees : (us : Types) (k : ℕ) (cells : List Cell) (shape : ℕ → Value → Type 0) (change : ℕ → Change) (text : ℕ → Text) (o : Option Form) (v : Value) → Agree cells shape change text
    → MatchOption (option_map (sized k) o) ⊥ (λ f. shape_step us no_roots shape f v)
    → Agrees cells (option_map_or {U = Change} (put_step cells change) (option_map (sized k) o) (put_leaf unavailable)) (option_map_or {U = Text} (text_step text) o no_text v) (leaves v)
formed_agrees us k cells shape change text None v agree h = absurd h
formed_agrees us k cells shape change text (Some f) v agree h = step_agrees us k cells shape change text f v agree h

among_agree : (k : ℕ) (ts : Types) (cells : List Cell) (m : ℕ) → Agree cells (HasShapeAmong (with_elements k ts) no_roots m) (put_among (with_elements k ts) cells m) (text_among ts m)
unfolding HasShapeAmong in_first put_among text_among
among_agree k ts cells zero id v h = absurd h
among_agree k ts cells (suc m) id v h = by_sized (λ other u has. among_agree k ts cells m other u has) (number_of us id) (form_of us id) (number_sized k ts id) (form_sized k ts id) h
  where
    us : Types
    us = with_elements k ts

    here : Agree cells (HasShapeAmong us no_roots m) (put_among us cells m) (text_among ts m) → (b : Bool) (o : Option Form)
        → MatchBool b (MatchOption (option_map (sized k) o) ⊥ (λ f. shape_step us no_roots (HasShapeAmong us no_roots m) f v)) (HasShapeAmong us no_roots m id v)
        → Agrees cells (if b then option_map_or {U = Change} (put_step cells (put_among us cells m)) (option_map (sized k) o) (put_leaf unavailable) else put_among us cells m id)
        ((if b then option_map_or {U = Text} (text_step (text_among ts m)) o no_text else text_among ts m id) v) (leaves v)
    here below true o h = formed_agrees us k cells (HasShapeAmong us no_roots m) (put_among us cells m) (text_among ts m) o v below h
    here below false o h = below id v h

    by_sized : Agree cells (HasShapeAmong us no_roots m) (put_among us cells m) (text_among ts m) → (p : Option ℕ) (q : Option Form) → p ≡ number_of ts id → q ≡ option_map (sized k) (form_of ts id)
        → MatchBool (holds m p) (MatchOption q ⊥ (λ f. shape_step us no_roots (HasShapeAmong us no_roots m) f v)) (HasShapeAmong us no_roots m id v)
        → Agrees cells (if holds m p then option_map_or {U = Change} (put_step cells (put_among us cells m)) q (put_leaf unavailable) else put_among us cells m id)
        ((if holds m (number_of ts id) then option_map_or {U = Text} (text_step (text_among ts m)) (form_of ts id) no_text else text_among ts m id) v) (leaves v)
    by_sized below p q number form h =
        subst (λ (p : Option ℕ). MatchBool (holds m p) (MatchOption q ⊥ (λ f. shape_step us no_roots (HasShapeAmong us no_roots m) f v)) (HasShapeAmong us no_roots m id v)
        → Agrees cells (if holds m p then option_map_or {U = Change} (put_step cells (put_among us cells m)) q (put_leaf unavailable) else put_among us cells m id)
        ((if holds m (number_of ts id) then option_map_or {U = Text} (text_step (text_among ts m)) (form_of ts id) no_text else text_among ts m id) v) (leaves v)) (sym number)
        (subst (λ (q : Option Form). MatchBool (holds m (number_of ts id)) (MatchOption q ⊥ (λ f. shape_step us no_roots (HasShapeAmong us no_roots m) f v)) (HasShapeAmong us no_roots m id v)
        → Agrees cells (if holds m (number_of ts id) then option_map_or {U = Change} (put_step cells (put_among us cells m)) q (put_leaf unavailable) else put_among us cells m id)
        ((if holds m (number_of ts id) then option_map_or {U = Text} (text_step (text_among ts m)) (form_of ts id) no_text else text_among ts m id) v) (leaves v)) (sym form)
        (here below (holds m (number_of ts id)) (form_of ts id))) h

-- the row of a value of a type, written on a blank sheet
text_is : (k : ℕ) (ts : Types) (id : ℕ) (v : Value) → HasShape (with_elements k ts) no_roots id v → (put_among (with_elements k ts) (leaves v) (length ts) id blank).text ≡ value_text ts id v
unfolding HasShape value_text
text_is k ts id v h =
    let among : HasShapeAmong (with_elements k ts) no_roots (length ts) id v = subst (λ (n : ℕ). HasShapeAmong (with_elements k ts) no_roots n id v) (length_sized k ts) h in
    ((among_agree k ts (leaves v) (length ts) id v among).writes blank [] (sym (append-nil (leaves v)))).text

-- and appended to what stands before it
pub row_written : (k : ℕ) (ts : Types) (id n : ℕ) (cells : List Cell) (v : Value) (old new text : List ℕ) (s t : Written) → HasShape (with_elements k ts) no_roots id v → leaves v ≡ cells → n ≡ length ts → s ≡ blank
    → t ≡ put_among (with_elements k ts) cells n id s → text ≡ t.text → new ≡ old ++ text → new ≡ old ++ value_text ts id v
row_written k ts id n cells v old new text s t shape row all nothing written shown appended =
    let read : (put_among (with_elements k ts) cells (length ts) id blank).text ≡ value_text ts id v = subst (λ (cs : List Cell). (put_among (with_elements k ts) cs (length ts) id blank).text ≡ value_text ts id v) row (text_is k ts id v shape) in
    let same : t ≡ put_among (with_elements k ts) cells (length ts) id blank = written ∙ ap (λ (m : ℕ). put_among (with_elements k ts) cells m id s) all ∙ ap (λ (u : Written). put_among (with_elements k ts) cells (length ts) id u) nothing in
    appended ∙ ap (λ (x : List ℕ). old ++ x) (shown ∙ ap (λ (u : Written). u.text) same ∙ read)
