-- Causes, one after the other.
use Rattle.std.proofs.Common.{◌≡◌, ◌∙◌, ◌<◌, ℕ, List, [], ◌∷◌, ◌++◌, drop, length, refl, ap, ap₂, sym, map, Bool, Option, append_assoc, arith}
use Rattle.std.specs.List.{flat_map, join_by}
use Rattle.std.proofs.lemmas.Grind.{flat_map-append}
use Rattle.std.proofs.lemmas.List.Folds.{flat_map-map}
use Rattle.spv_base.specs.declared.happenings.EndCause.{EndCause}
use Rattle.spv_session.specs.Texts.{behind_comma, hit_causes, numbered_text, place_causes, stop_causes, stop_line}
use Rattle.std.specs.Prelude.{codes}

-- the causes behind commas, without the first comma
pub joined : (causes : List (List ℕ)) → drop 2 (flat_map behind_comma causes) ≡ join_by (λ text. text) (codes ", ") causes
joined [] = refl
joined (c ∷ causes) = refl

pub drop_short : (xs : List ℕ) → length xs < 2 → drop 2 xs ≡ []
drop_short [] h = refl
drop_short (x ∷ []) h = refl
drop_short (x ∷ (y ∷ xs)) h = absurd (omega arith)

-- numbers of a kind, each behind a comma
abbrev pub numbered : List ℕ → List ℕ → List ℕ
numbered word ks = flat_map (λ k. behind_comma (numbered_text word k)) ks

pub hits_behind : (breaks watches halts : List ℕ) → flat_map behind_comma (hit_causes breaks watches halts)
    ≡ numbered (codes "break ") breaks ++ numbered (codes "watch ") watches ++ numbered (codes "halt ") halts
hits_behind breaks watches halts =
    flat_map-append behind_comma (map (numbered_text (codes "break ")) breaks ++ map (numbered_text (codes "watch ")) watches) (map (numbered_text (codes "halt ")) halts)
    ∙ ap₂ (λ a b. a ++ b)
    (flat_map-append behind_comma (map (numbered_text (codes "break ")) breaks) (map (numbered_text (codes "watch ")) watches)
    ∙ ap₂ (λ a b. a ++ b) (flat_map-map behind_comma (numbered_text (codes "break ")) breaks) (flat_map-map behind_comma (numbered_text (codes "watch ")) watches))
    (flat_map-map behind_comma (numbered_text (codes "halt ")) halts)

one_behind : (word numbers some old new : List ℕ) → some ≡ numbers → new ≡ old ++ numbered word some → new ≡ old ++ numbered word numbers
one_behind word numbers some old new e f = f ∙ ap (λ y. old ++ numbered word y) e

pub three_behind : (breaks watches halts old first second new some more last : List ℕ) → some ≡ breaks → more ≡ watches → last ≡ halts
    → first ≡ old ++ numbered (codes "break ") some → second ≡ first ++ numbered (codes "watch ") more → new ≡ second ++ numbered (codes "halt ") last
    → new ≡ old ++ flat_map behind_comma (hit_causes breaks watches halts)
three_behind breaks watches halts old first second new some more last e f g h i j =
    one_behind (codes "halt ") halts last second new g j
    ∙ ap (λ x. x ++ numbered (codes "halt ") halts) (one_behind (codes "watch ") watches more first second f i ∙ ap (λ x. x ++ numbered (codes "watch ") watches) (one_behind (codes "break ") breaks some old first e h))
    ∙ append_assoc (old ++ numbered (codes "break ") breaks) (numbered (codes "watch ") watches) (numbered (codes "halt ") halts)
    ∙ append_assoc old (numbered (codes "break ") breaks) (numbered (codes "watch ") watches ++ numbered (codes "halt ") halts)
    ∙ ap (λ l. old ++ l) (sym (append_assoc (numbered (codes "break ") breaks) (numbered (codes "watch ") watches) (numbered (codes "halt ") halts)) ∙ sym (hits_behind breaks watches halts))

-- the line of all causes, behind a first text
pub stop_written : (breaks watches halts : List ℕ) (done start : Bool) (cause : Option EndCause) (old none hit place slice one two three : List ℕ)
    → none ≡ [] → hit ≡ none ++ flat_map behind_comma (hit_causes breaks watches halts) → place ≡ hit ++ flat_map behind_comma (place_causes done start cause)
    → slice ≡ drop 2 place → one ≡ old ++ codes "stop: " → two ≡ one ++ slice → three ≡ two ++ codes "\n"
    → three ≡ old ++ stop_line breaks watches halts done start cause
stop_written breaks watches halts done start cause old none hit place slice one two three e f g h i j k =
    let all : place ≡ flat_map behind_comma (stop_causes breaks watches halts done start cause)
    = g ∙ ap (λ l. l ++ flat_map behind_comma (place_causes done start cause)) (f ∙ ap (λ l. l ++ flat_map behind_comma (hit_causes breaks watches halts)) e)
    ∙ sym (flat_map-append behind_comma (hit_causes breaks watches halts) (place_causes done start cause)) in
    let joins : slice ≡ join_by (λ text. text) (codes ", ") (stop_causes breaks watches halts done start cause) = h ∙ ap (drop 2) all ∙ joined (stop_causes breaks watches halts done start cause) in
    k ∙ ap (λ l. l ++ codes "\n") (j ∙ ap₂ (λ x y. x ++ y) i joins) ∙ append_assoc (old ++ codes "stop: ") _ _ ∙ append_assoc old (codes "stop: ") _
