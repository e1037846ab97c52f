-- The breaks with a head, one break more.
use Rattle.std.proofs.Common.{◌≡◌, ℕ, ◌+◌, ◌<◌, true, false, cond, List, [], ◌∷◌, ◌++◌, length, map, take, get_or, sym, ap, ◌∙◌}
use Rattle.std.specs.Prelude.{filter}
use Rattle.std.proofs.lemmas.List.{map-append, take_more, append-nil}
use Rattle.std.proofs.lemmas.List.Elements.{filter-append}
use Rattle.spv_stops.specs.declared.breaks.Breakpoint.{Breakpoint}
use Rattle.spv_stops.specs.Stops.{number_of}
use Rattle.spv_stops.specs.Breaks.{has_head}

hits_more : (pc i : ℕ) (breaks : List (ℕ × Breakpoint)) (x : ℕ × Breakpoint) → i < length breaks → x ≡ get_or breaks i x → map number_of (filter (has_head pc) (take (i + 1) breaks)) ≡ map number_of (filter (has_head pc) (take i breaks)) ++ map number_of (filter (has_head pc) (x ∷ []))
hits_more pc i breaks x l e =
    ap (λ bs. map number_of (filter (has_head pc) bs)) (take_more breaks i x l ∙ ap (λ y. take i breaks ++ y ∷ []) (sym e))
    ∙ ap (map number_of) (filter-append (has_head pc) (take i breaks) (x ∷ []))
    ∙ map-append number_of (filter (has_head pc) (take i breaks)) (filter (has_head pc) (x ∷ []))

pub hits_yes : (pc i : ℕ) (breaks : List (ℕ × Breakpoint)) (x : ℕ × Breakpoint) (numbers more : List ℕ) → i < length breaks → x ≡ get_or breaks i x → has_head pc x ≡ true → numbers ≡ map number_of (filter (has_head pc) (take i breaks)) → more ≡ numbers ++ x.0 ∷ [] → more ≡ map number_of (filter (has_head pc) (take (i + 1) breaks))
hits_yes pc i breaks x numbers more l e h so push =
    push ∙ ap (λ ns. ns ++ x.0 ∷ []) so ∙ sym (hits_more pc i breaks x l e ∙ ap (λ b. map number_of (filter (has_head pc) (take i breaks)) ++ map number_of (cond b (x ∷ []) [])) h)

pub hits_no : (pc i : ℕ) (breaks : List (ℕ × Breakpoint)) (x : ℕ × Breakpoint) (numbers : List ℕ) → i < length breaks → x ≡ get_or breaks i x → has_head pc x ≡ false → numbers ≡ map number_of (filter (has_head pc) (take i breaks)) → numbers ≡ map number_of (filter (has_head pc) (take (i + 1) breaks))
hits_no pc i breaks x numbers l e h so =
    so ∙ sym (hits_more pc i breaks x l e ∙ ap (λ b. map number_of (filter (has_head pc) (take i breaks)) ++ map number_of (cond b (x ∷ []) [])) h ∙ append-nil (map number_of (filter (has_head pc) (take i breaks))))
