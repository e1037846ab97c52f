-- The top frame of a stack, and a change of it.
use Rattle.std.proofs.Common.{◌≡◌, ◌≢◌, ◌∙◌, ℕ, zero, suc, ◌-◌, ◌<◌, ◌≤◌, List, [], ◌∷◌, ◌++◌, Option, Some, get_or, length, length-set, set-set, refl, sym, ap, subst, arith, slice_get, slice_set}
use Rattle.std.specs.Option.{IsSomeAnd}
use Rattle.std.proofs.lemmas.Option.{slice_get-get_or}
use Rattle.spv_base.specs.Entries.{change}
use Rattle.spv_base.specs.declared.values.PassedEvent.{PassedEvent}
use Rattle.spv_base.proofs.Exports.{slice_get-set_same}
use Rattle.spv_frame.specs.Frames.{Held}
use Rattle.spv_frame.specs.Stacks.{Stacked, on_top, top}

changed_is_set : (n : ℕ) (f : Held → Held) (xs : List Held) (x y : Held) → slice_get xs n ≡ Some x → y ≡ f x → slice_set xs n y ≡ change n f xs
changed_is_set n f [] x y h e = cc
changed_is_set zero f (z ∷ xs) x y h e = let g : x ≡ z = cc in ap (λ (t : Held). t ∷ xs) (e ∙ ap f g)
changed_is_set (suc n) f (z ∷ xs) x y h e = ap (λ (ts : List Held). z ∷ ts) (changed_is_set n f xs x y h e)

-- the frames with another top frame
pub after_is : (h : Stacked) (gs : List Held) (room n : ℕ) (f : Held → Held) (x y : Held) → (record { frames = gs; room = room }) ≡ h → n ≡ length gs - 1 → n < length gs
    → x ≡ get_or gs n x → y ≡ f x → (record h { frames = slice_set gs n y; room = room }) ≡ record h { frames = on_top f h.frames }
after_is h gs room n f x y e last within here made =
    let at : slice_get gs n ≡ Some x = slice_get-get_or gs n x within ∙ ap (λ (t : Held). Some t) (sym here) in
    let set : slice_set gs n y ≡ on_top f gs = changed_is_set n f gs x y at made ∙ ap (λ (m : ℕ). change m f gs) last in
    ap (λ (ts : List Held). record h { frames = ts; room = room }) set ∙ ap (λ (s : Stacked). record s { frames = on_top f s.frames }) e

-- what holds of the frame that was the top one
pub handed_is : (h : Stacked) (gs : List Held) (room n : ℕ) (x : Held) (P : Held → Type 0) → (record { frames = gs; room = room }) ≡ h → n ≡ length gs - 1 → n < length gs
    → x ≡ get_or gs n x → P x → IsSomeAnd (top h.frames) P
handed_is h gs room n x P e last within here holds =
    let at : slice_get gs n ≡ Some x = slice_get-get_or gs n x within ∙ ap (λ (t : Held). Some t) (sym here) in
    let is : top h.frames ≡ Some x = ap (λ (s : Stacked). top s.frames) (sym e) ∙ ap (slice_get gs) (sym last) ∙ at in
    subst (λ (o : Option Held). IsSomeAnd o P) (sym is) holds

pub top_was : (h : Stacked) (gs : List Held) (room n : ℕ) (x : Held) → (record { frames = gs; room = room }) ≡ h → n ≡ length gs - 1 → n < length gs → x ≡ get_or gs n x → top h.frames ≡ Some x
top_was h gs room n x e last within here =
    let at : slice_get gs n ≡ Some x = slice_get-get_or gs n x within ∙ ap (λ (t : Held). Some t) (sym here) in
    ap (λ (s : Stacked). top s.frames) (sym e) ∙ ap (slice_get gs) (sym last) ∙ at

-- ---- there is a top frame

pub some_frame : (fs : List Held) (P : Held → Type 0) → IsSomeAnd (top fs) P → 1 ≤ length fs
some_frame [] P h = absurd h
some_frame (f ∷ fs) P h = omega arith

pub not_none : (fs : List Held) → fs ≢ [] → 1 ≤ length fs
not_none [] h = absurd (h refl)
not_none (f ∷ fs) h = omega arith

-- ---- events

same_set : (xs : List Held) (n : ℕ) (x : Held) → slice_get xs n ≡ Some x → slice_set xs n x ≡ xs
same_set [] n x h = refl
same_set (y ∷ xs) zero x h = let e : x ≡ y = cc in ap (λ (t : Held). t ∷ xs) e
same_set (y ∷ xs) (suc n) x h = ap (λ (ts : List Held). y ∷ ts) (same_set xs n x h)

-- the top frame as it was
pub kept_is : (h : Stacked) (gs : List Held) (room n : ℕ) (x y : Held) → (record { frames = gs; room = room }) ≡ h → n < length gs → x ≡ get_or gs n x → y ≡ x
    → (record h { frames = slice_set gs n y; room = room }) ≡ h
kept_is h gs room n x y e within here same =
    let at : slice_get gs n ≡ Some x = slice_get-get_or gs n x within ∙ ap (λ (t : Held). Some t) (sym here) in
    let set : slice_set gs n y ≡ gs = ap (slice_set gs n) same ∙ same_set gs n x at in
    ap (λ (ts : List Held). record h { frames = ts; room = room }) set ∙ e

undone : (x y : Held) (r : PassedEvent) → y ≡ record x { events = y.events } → x.events ≡ y.events ++ r ∷ [] → x ≡ record y { events = y.events ++ r ∷ [] }
undone x y r after handed =
    ap (λ (es : List PassedEvent). record x { events = es }) handed ∙ sym (ap (λ (h : Held). record h { events = y.events ++ r ∷ [] }) after)

-- an event taken away from the top frame
pub taken_is : (h : Stacked) (gs : List Held) (room n : ℕ) (x y : Held) (r : PassedEvent) → (record { frames = gs; room = room }) ≡ h → n ≡ length gs - 1 → n < length gs → x ≡ get_or gs n x
    → y ≡ record x { events = y.events } → x.events ≡ y.events ++ r ∷ []
    → h ≡ record h { frames = on_top (λ f. record f { events = f.events ++ r ∷ [] }) (slice_set gs n y); room = room }
taken_is h gs room n x y r e last within here after handed =
    let at : slice_get gs n ≡ Some x = slice_get-get_or gs n x within ∙ ap (λ (t : Held). Some t) (sym here) in
    let put : slice_get (slice_set gs n y) n ≡ Some y = slice_get-set_same gs n x y at in
    let n_is : n ≡ length (slice_set gs n y) - 1 = last ∙ ap (λ (m : ℕ). m - 1) (sym (length-set gs n y)) in
    let back : slice_set (slice_set gs n y) n x ≡ change n (λ f. record f { events = f.events ++ r ∷ [] }) (slice_set gs n y) = changed_is_set n (λ f. record f { events = f.events ++ r ∷ [] }) (slice_set gs n y) y x put (undone x y r after handed) in
    let whole : gs ≡ on_top (λ f. record f { events = f.events ++ r ∷ [] }) (slice_set gs n y) =
    sym (same_set gs n x at) ∙ sym (set-set gs n y x) ∙ back ∙ ap (λ (m : ℕ). change m (λ f. record f { events = f.events ++ r ∷ [] }) (slice_set gs n y)) n_is in
    sym e ∙ ap (λ (ts : List Held). record h { frames = ts; room = room }) whole
