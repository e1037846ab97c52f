-- A text begins with one line at most.
use Rattle.std.proofs.Common.{◌≡◌, ℕ, List, [], ◌∷◌, ◌++◌, codes, decimal, refl, sym, ap, append_assoc, ◌∙◌}
use Rattle.std.specs.List.{AllByRecursion}
use Rattle.spv_text.specs.declared.lines.Line.{Line}
use Rattle.spv_text.specs.Spelling.{ended, line_text, parts_text}
use Rattle.spv_text.specs.Lines.{is_name_byte, Any, HasNoDigit, HasNoNameByte, IsLine, IsName, IsNumber, IsPart, Lacks}
use Rattle.spv_text.proofs.FrontLemmas.{one_front}
use Rattle.spv_text.proofs.DigitLemmas.{one_number}
use Rattle.spv_text.proofs.StringLemmas.{tail_is}
use Rattle.spv_text.proofs.PartLemmas.{behind, one_parts}

-- what follows the number of a line
abbrev Behind : Line → List ℕ → List ℕ
Behind line r = 58 ∷ 32 ∷ (line.name ++ (parts_text line.parts ++ 10 ∷ r))

pub line_split : (line : Line) (r : List ℕ) → line_text line ++ r ≡ decimal line.word ++ (58 ∷ 32 ∷ (line.name ++ (parts_text line.parts ++ 10 ∷ r)))
line_split line r = simp append_assoc

-- the number, and what follows it
after_number : (text behind r : List ℕ) (w : ℕ) (line : Line) → IsNumber w → text ≡ decimal w ++ behind → HasNoDigit behind → IsLine line → text ≡ line_text line ++ r
    → (w ≡ line.word) × (behind ≡ Behind line r)
after_number text behind r w line h e f is g = one_number w line.word behind (Behind line r) h is.0 f refl (sym e ∙ g ∙ line_split line r)

-- the name, and what follows it
after_name : (named parted r name : List ℕ) (line : Line) → IsName name → named ≡ name ++ parted → HasNoNameByte parted → IsLine line → 58 ∷ 32 ∷ named ≡ Behind line r
    → (name ≡ line.name) × (parted ≡ parts_text line.parts ++ 10 ∷ r)
after_name named parted r name line h e f is g =
    one_front is_name_byte name line.name parted (parts_text line.parts ++ 10 ∷ r) h.0 is.1.0 f (behind line.parts r) (sym e ∙ tail_is (tail_is g))

-- ---- no line stands at the front

pub none_of_colon : (text behind : List ℕ) (w : ℕ) → IsNumber w → text ≡ decimal w ++ behind → HasNoDigit behind → ((s : List ℕ) → behind ≡ codes ": " ++ s → ⊥) → Lacks line_text IsLine Any text
none_of_colon text behind w h e f none line r is g follows = none _ (after_number text behind r w line h e f is g).1

pub none_of_name : (text behind named : List ℕ) (w : ℕ) → IsNumber w → text ≡ decimal w ++ behind → HasNoDigit behind → behind ≡ codes ": " ++ named
    → Lacks (λ name. name) IsName HasNoNameByte named → Lacks line_text IsLine Any text
none_of_name text front named w h e f g none line r is i follows =
    none line.name (parts_text line.parts ++ 10 ∷ r) is.1 (tail_is (tail_is (sym g ∙ (after_number text front r w line h e f is i).1))) (behind line.parts r)

pub none_of_parts : (text behind named name parted : List ℕ) (w : ℕ) → IsNumber w → text ≡ decimal w ++ behind → HasNoDigit behind → behind ≡ codes ": " ++ named
    → IsName name → named ≡ name ++ parted → HasNoNameByte parted → Lacks ended (AllByRecursion IsPart) Any parted → Lacks line_text IsLine Any text
none_of_parts text front named name parted w h e f g j k l none line r is i follows =
    let it = after_number text front r w line h e f is i in
    let named_is = after_name named parted r name line j k l is (sym g ∙ it.1) in
    none line.parts r is.2 (named_is.1 ∙ sym (append_assoc (parts_text line.parts) (10 ∷ []) r)) tt

-- ---- the line that stands there

same_line : (k l : Line) → k.word ≡ l.word → k.name ≡ l.name → k.parts ≡ l.parts → k ≡ l
same_line k l p q s =
    ap (λ w. record { word = w; name = k.name; parts = k.parts }) p ∙ ap (λ n. record { word = l.word; name = n; parts = k.parts }) q ∙ ap (λ ps. record { word = l.word; name = l.name; parts = ps }) s

-- a text begins with one line at most
pub one_line : (k l : Line) (r s : List ℕ) → IsLine k → IsLine l → line_text k ++ r ≡ line_text l ++ s → (k ≡ l) × (r ≡ s)
one_line k l r s h g e =
    let number = after_number (line_text k ++ r) (Behind k r) s k.word l h.0 (line_split k r) refl g e in
    let name = after_name (k.name ++ (parts_text k.parts ++ 10 ∷ r)) (parts_text k.parts ++ 10 ∷ r) s k.name l h.1 refl (behind k.parts r) g number.1 in
    let parts = one_parts k.parts l.parts r s h.2 g.2 name.1 in
    (same_line k l number.0 name.0 parts.0, parts.1)
